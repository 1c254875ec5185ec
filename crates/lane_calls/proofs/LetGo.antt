-- The tables stay those of a running manager as passages come and go.
use Rattle.std.proofs.Common.{◌≡◌, ◌⊎◌, inl, inr, ℕ, ◌<◌, ◌≤◌, ◌==◌, Bool, true, false, ◌||◌, ◌&&◌, cond, nat_lt, List, [], ◌∷◌, ◌++◌, Option, Some, None, refl, sym, ◌∙◌, ap, subst, arith}
use Rattle.std.proofs.lemmas.Bool.{ltb-true, eqb-true, ltb-false}
use Rattle.std.proofs.lemmas.List.{append_assoc}
use Rattle.voice_units.specs.declared.pieces.Piece.{Piece}
use Rattle.voice_units.specs.Spots.{Spot, spots_of}
use Rattle.voice_units.specs.Blocks.{BlockPair, pairs_at, has_pair}
use Rattle.voice_model.specs.State.{Durable}
use Rattle.voice_model.specs.Replay.{Placed, Rebuilt, used_pairs}
use Rattle.voice_model.specs.Valid.{Every}
use Rattle.voice_model.proofs.KeptByChanges.{every-imply}
use Rattle.voice_model.proofs.Order.{every-both, every-split}
use Rattle.voice_blocks.specs.Holders.{Holders, holder_at, block_of}
use Rattle.voice_blocks.specs.declared.owner.Owner.{Owner}
use Rattle.voice_blocks.specs.declared.owner.Owner.TheVariants.{File, Taking}
use Rattle.voice_blocks.specs.declared.owner.Holder.{Holder}
use Rattle.rope_table.specs.Table.{Table, uses_at, uses_in, pieces_in, pairs_in, pair_of}
use Rattle.collector.specs.Freed.{freed, goes}
use Rattle.recovery.specs.declared.parts.Parts.{Parts}
use Rattle.recovery.specs.Shown.{Shows}
use Rattle.checkpoint.specs.Blocks.{IsHeld}
use Rattle.running_tables.specs.Running.{is_wanted, GivesJust, Runs}
use Rattle.next_ropes.specs.Addresses.{KeepsAddresses}
use Rattle.voice_blocks.proofs.Apart.{either_way, or_left, or_right, has_append}
use Rattle.running_tables.proofs.Passages.{pairs_after}
use Rattle.running_tables.proofs.Recounted.{used_once, once_used, one_has}
use Rattle.playing.specs.Held.{LetsGo, passages_have}
use Rattle.lane_calls.specs.Lanes.{ArePledged}
use Rattle.lane_calls.proofs.Counting.{live_uses, uses_live}

-- one of the passages has a block just if it is among their blocks
have_pairs : (block : ℕ) (lists : List (List Piece)) (q : BlockPair) → passages_have block lists q ≡ has_pair (pairs_in block lists) q
have_pairs block [] q = refl
have_pairs block (x ∷ lists) q = ap (λ t. has_pair (pairs_at block (spots_of x)) q || t) (have_pairs block lists q) ∙ sym (has_append (pairs_at block (spots_of x)) (pairs_in block lists) q)

pub has_both : (block : ℕ) (xs ys : List (List Piece)) (q : BlockPair) → has_pair (pairs_in block (xs ++ ys)) q ≡ (has_pair (pairs_in block xs) q || has_pair (pairs_in block ys) q)
has_both block xs ys q = ap (λ l. has_pair l q) (pairs_after block xs ys) ∙ has_append (pairs_in block xs) (pairs_in block ys) q

-- what is held after it was held before, and does not go
was_held : (has : BlockPair → Bool) (uses : BlockPair → ℕ) (o : Option Holder) (h : Holder) → freed has uses o ≡ Some h → (o ≡ Some h) × (goes has uses h.owner h.index ≡ false)
was_held has uses None h e = cc
was_held has uses (Some g) h e = by (goes has uses g.owner g.index) refl
  where
    by : (t : Bool) → goes has uses g.owner g.index ≡ t → (Some g ≡ Some h) × (goes has uses h.owner h.index ≡ false)
    by true k = let none : None ≡ Some h = sym (ap (λ t. cond t None (Some g)) k) ∙ e in cc
    by false k =
        let same : Some g ≡ Some h = sym (ap (λ t. cond t None (Some g)) k) ∙ e in
        let one : g ≡ h = cc in
        (same, subst (λ (x : Holder). goes has uses x.owner x.index ≡ false) one k)

-- each address that is given out after passages went was given to the same block before
pub let_go_keeps : {old new : Table} {passages : List (List Piece)} (held left : Holders) → LetsGo old new held left passages → KeepsAddresses held left
let_go_keeps {old} {new} {passages} held left lets a h e = (was_held (passages_have old.block passages) (uses_at new) (holder_at held a) h (sym (lets.holders.each a) ∙ e)).0

-- what does not go stays
stays_held : (has : BlockPair → Bool) (uses : BlockPair → ℕ) (o : Option Holder) (h : Holder) → o ≡ Some h → goes has uses h.owner h.index ≡ false → freed has uses o ≡ Some h
stays_held has uses o h e k = ap (freed has uses) e ∙ ap (λ t. cond t None (Some h)) k

-- a block that is used, or that none of the passages has, does not go
still_there : (a : Bool) (n : ℕ) → (1 ≤ n) ⊎ (a ≡ false) → (a && (n == 0)) ≡ false
still_there true n (inl h) = by (n == 0) refl
  where
    by : (t : Bool) → (n == 0) ≡ t → t ≡ false
    by true e = let none = eqb-true n 0 e in absurd (omega (arith, none, h))
    by false e = refl
still_there true n (inr h) = cc
still_there false n h = refl

-- a block that one of the passages has and that does not go is used
used_still : (a : Bool) (n : ℕ) → a ≡ true → (a && (n == 0)) ≡ false → 1 ≤ n
used_still a n e h = by n (ap (λ t. t && (n == 0)) (sym e) ∙ h)
  where
    by : (n : ℕ) → (n == 0) ≡ false → 1 ≤ n
    by n k = grind arith

module _ (gone held pledged : List (List Piece)) (takings : List ℕ) (old new : Parts) (b : Rebuilt)
    (runs : Runs (gone ++ held) pledged takings old b) (lets : LetsGo old.ropes new.ropes old.blocks.holders new.blocks.holders gone)
    (shows : Shows held new b.kept) (form : new.form ≡ old.form) (are : ArePledged b pledged) where
  abbrev block : ℕ
  block = b.shape.block

  abbrev pairs : List BlockPair
  pairs = used_pairs b.kept

  abbrev all : List BlockPair
  all = pairs_in block ((gone ++ held) ++ pledged)

  abbrev others : List BlockPair
  others = pairs_in block (held ++ pledged)

  abbrev has : BlockPair → Bool
  has = passages_have old.ropes.block gone

  abbrev uses : BlockPair → ℕ
  uses = uses_at new.ropes

  has_gone : (q : BlockPair) → has q ≡ has_pair (pairs_in block gone) q
  has_gone q = ap (λ n. passages_have n gone q) runs.kept.block ∙ have_pairs block gone q

  in_all : (q : BlockPair) → has_pair all q ≡ (has_pair (pairs_in block gone) q || has_pair others q)
  in_all q = ap (λ l. has_pair (pairs_in block l) q) (append_assoc gone held pledged) ∙ has_both block gone (held ++ pledged) q

  live_stays : (q : BlockPair) → has_pair pairs q ≡ true → 1 ≤ uses q
  live_stays q e = let live = live_uses held new b.kept shows q e in let sum = shows.uses q in omega (arith, live, sum)

  held_stays : (q : BlockPair) → has_pair (pairs_in block held) q ≡ true → 1 ≤ uses q
  held_stays q e =
      let one = subst (λ n. 1 ≤ uses_in n held q) (sym shows.block) (used_once block held q e) in
      let sum = shows.uses q in
      omega (arith, one, sum)

  used_by : (q : BlockPair) → 1 ≤ uses q → (has_pair pairs q || has_pair others q) ≡ true
  used_by q some = by (nat_lt 0 (uses_in new.ropes.block (pieces_in new.ropes.ropes) q)) refl
    where
      by : (t : Bool) → nat_lt 0 (uses_in new.ropes.block (pieces_in new.ropes.ropes) q) ≡ t → (has_pair pairs q || has_pair others q) ≡ true
      by true e = or_left (has_pair pairs q) (has_pair others q) (uses_live held new b.kept shows q (ltb-true 0 _ e))
      by false e =
          let none = ltb-false 0 _ e in
          let sum = shows.uses q in
          let one : 1 ≤ uses_in new.ropes.block held q = omega (arith, none, sum, some) in
          or_right (has_pair pairs q) (has_pair others q)
          (has_both block held pledged q ∙ or_left (has_pair (pairs_in block held) q) (has_pair (pairs_in block pledged) q) (once_used block held q (subst (λ n. 1 ≤ uses_in n held q) shows.block one)))

  -- a block of passages that stay, or of pledged pieces, does not go
  other_stays : (q : BlockPair) → has_pair others q ≡ true → (1 ≤ uses q) ⊎ (has q ≡ false)
  other_stays q e =
      either_way (has_pair (pairs_in block held) q) (has_pair (pairs_in block pledged) q)
      (λ k. inl (held_stays q k))
      (λ k. by (are q k))
      (sym (has_both block held pledged q) ∙ e)
    where
      new_file : b.next ≤ q.file → (t : Bool) → has q ≡ t → has q ≡ false
      new_file above true k =
          let inside = has_both block gone held q ∙ or_left (has_pair (pairs_in block gone) q) (has_pair (pairs_in block held) q) (sym (has_gone q) ∙ k) in
          let below = one_has (λ pair. pair.file < b.next) (pairs_in block (gone ++ held)) q runs.below inside in
          absurd (omega (arith, below, above))
      new_file above false k = k

      by : (has_pair pairs q ≡ true) ⊎ (b.next ≤ q.file) → (1 ≤ uses q) ⊎ (has q ≡ false)
      by (inl k) = inl (live_stays q k)
      by (inr above) = inr (new_file above (has q) refl)

  stays : (a : ℕ) (h : Holder) → holder_at old.blocks.holders a ≡ Some h → goes has uses h.owner h.index ≡ false → holder_at new.blocks.holders a ≡ Some h
  stays a h e k = lets.holders.each a ∙ stays_held has uses (holder_at old.blocks.holders a) h e k

  was : (a : ℕ) (h : Holder) → holder_at new.blocks.holders a ≡ Some h → (holder_at old.blocks.holders a ≡ Some h) × (goes has uses h.owner h.index ≡ false)
  was a h e = was_held has uses (holder_at old.blocks.holders a) h (sym (lets.holders.each a) ∙ e)

  wanted_still : (owner : Owner) (index : ℕ) → is_wanted pairs all takings owner index ≡ true → goes has uses owner index ≡ false → is_wanted pairs others takings owner index ≡ true
  wanted_still (File file) index e k =
      let q = pair_of file index in
      either_way (has_pair pairs q) (has_pair all q)
      (λ i. or_left (has_pair pairs q) (has_pair others q) i)
      (λ i. either_way (has_pair (pairs_in block gone) q) (has_pair others q)
      (λ j. used_by q (used_still (has q) (uses q) (has_gone q ∙ j) k))
      (λ j. or_right (has_pair pairs q) (has_pair others q) j)
      (sym (in_all q) ∙ i)) e
  wanted_still (Taking lane) index e k = e

  gives_less : GivesJust new.blocks.holders pairs others takings
  gives_less = record {
    only = λ a h e. let k = was a h e in wanted_still h.owner h.index (runs.given.only a h k.0) k.1;
    single = λ a c h e k. runs.given.single a c h (was a h e).0 (was c h k).0;
    passages = λ q e.
        let at = runs.given.passages q (in_all q ∙ or_right (has_pair (pairs_in block gone) q) (has_pair others q) e) in
        (at.0, stays at.0 (block_of (File q.file) q.index) at.1 (still_there (has q) (uses q) (other_stays q e)));
    recordings = λ lane index e. let at = runs.given.recordings lane index e in (at.0, stays at.0 (block_of (Taking lane) index) at.1 refl);
  }

  still_held : Every (IsHeld new.blocks.holders) b.places
  still_held =
      every-imply (λ (p : Placed). IsHeld old.blocks.holders p × (has_pair pairs p.pair ≡ true)) (IsHeld new.blocks.holders)
      (λ p h. stays p.address (block_of (File p.pair.file) p.pair.index) h.0 (still_there (has p.pair) (uses p.pair) (inl (live_stays p.pair h.1))))
      b.places (every-both (IsHeld old.blocks.holders) (λ (p : Placed). has_pair pairs p.pair ≡ true) b.places runs.addresses runs.used)

  pub runs_without : Runs held pledged takings new b
  runs_without = record {
    kept = shows;
    size = lets.holders.count ∙ runs.size;
    addresses = still_held;
    given = gives_less;
    below = (every-split (λ (pair : BlockPair). pair.file < b.next) (pairs_in block gone) (pairs_in block held) (subst (λ l. Every (λ (pair : BlockPair). pair.file < b.next) l) (pairs_after block gone held) runs.below)).1;
    in_form = form ∙ runs.in_form;
    valid = runs.valid;
    placed = runs.placed;
    used = runs.used;
  }

-- the tables show the same, but for the passages that went
pub shows_left : (gone held : List (List Piece)) (old new : Parts) (d : Durable Spot) → Shows (gone ++ held) old d → LetsGo old.ropes new.ropes old.blocks.holders new.blocks.holders gone
    → new.interests.rows ≡ old.interests.rows → new.moment ≡ old.moment → new.next ≡ old.next → Shows held new d
shows_left gone held old new d h lets rows moment next = record {
  block = lets.block ∙ h.block;
  ropes = lets.ropes ∙ h.ropes;
  uses = lets.counts held h.uses;
  rows = rows ∙ h.rows;
  moment = moment ∙ h.moment;
  next = next ∙ h.next;
}
