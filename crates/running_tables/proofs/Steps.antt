-- A passage is held, and is held no longer.
use Rattle.std.proofs.Common.{◌≡◌, ℕ, ◌<◌, Bool, true, false, ◌||◌, cond, List, [], ◌∷◌, ◌++◌, length, Option, Some, None, refl, sym, ◌∙◌, ap, subst}
use Rattle.std.proofs.lemmas.Bool.{lt-ltb}
use Rattle.voice_units.specs.Spots.{spots_of}
use Rattle.voice_units.specs.Blocks.{BlockPair, same_pair, pairs_at, has_pair}
use Rattle.voice_units.proofs.Distinct.{same_pair-true}
use Rattle.voice_model.specs.Replay.{Placed, used_pairs, has_place}
use Rattle.voice_model.specs.Valid.{Every}
use Rattle.voice_model.specs.Places.{IsInRange}
use Rattle.voice_model.proofs.KeptByChanges.{every-append, every-imply}
use Rattle.voice_model.proofs.Order.{every-split, every-both}
use Rattle.voice_model.proofs.PlacesKept.{used_placed}
use Rattle.voice_blocks.specs.Holders.{Holders, EachBecomes, holder_at, block_of}
use Rattle.voice_blocks.specs.declared.owner.Owner.{Owner}
use Rattle.voice_blocks.specs.declared.owner.Owner.TheVariants.{File, Taking}
use Rattle.voice_blocks.specs.declared.owner.Holder.{Holder}
use Rattle.rope_table.specs.Table.{pair_of, pairs_in}
use Rattle.checkpoint.specs.Blocks.{IsHeld}
use Rattle.running_tables.specs.Running.{is_wanted, taken, GivesJust, IsGiven}
use Rattle.running_tables.specs.Laws.{while_wanted}
use Rattle.running_tables.specs.Laws as laws
use Rattle.voice_blocks.proofs.Apart.{either_way, or_left, or_right, has_append}
use Rattle.running_tables.proofs.Free.{rope_blocks}
use Rattle.running_tables.proofs.Recounted.{all_have}

-- a block with a place is of a known file
pub file_below : (next blocks : ℕ) (places : List Placed) (q : BlockPair) → Every (IsInRange next blocks) places → has_place places q ≡ true → q.file < next
file_below next blocks [] q h e = cc
file_below next blocks (place ∷ places) q h e =
    either_way (same_pair place.pair q) (has_place places q)
    (λ k. subst (λ (p : BlockPair). p.file < next) (same_pair-true place.pair q k) h.0.known)
    (λ k. file_below next blocks places q h.1 k) e

-- what more is held is wanted besides
more_wanted : (pairs more others : List BlockPair) (takings : List ℕ) (owner : Owner) (index : ℕ) → is_wanted pairs others takings owner index ≡ true → is_wanted pairs (more ++ others) takings owner index ≡ true
more_wanted pairs more others takings (File file) index e =
    ap (λ b. has_pair pairs (pair_of file index) || b) (has_append more others (pair_of file index))
    ∙ either_way (has_pair pairs (pair_of file index)) (has_pair others (pair_of file index))
    (λ k. or_left (has_pair pairs (pair_of file index)) (has_pair more (pair_of file index) || has_pair others (pair_of file index)) k)
    (λ k. or_right (has_pair pairs (pair_of file index)) (has_pair more (pair_of file index) || has_pair others (pair_of file index)) (or_right (has_pair more (pair_of file index)) (has_pair others (pair_of file index)) k)) e
more_wanted pairs more others takings (Taking lane) index e = e

gives_more : (hs : Holders) (pairs more others : List BlockPair) (takings : List ℕ) → ((q : BlockPair) → has_pair more q ≡ true → IsGiven hs (block_of (File q.file) q.index)) → GivesJust hs pairs others takings → GivesJust hs pairs (more ++ others) takings
gives_more hs pairs more others takings known gives = record {
  only = λ a h e. more_wanted pairs more others takings h.owner h.index (gives.only a h e);
  single = gives.single;
  passages = λ q e. either_way (has_pair more q) (has_pair others q) (known q) (gives.passages q) (sym (has_append more others q) ∙ e);
  recordings = gives.recordings;
}

pub played : laws.Played
played held pledged takings old new b passage runs live shows form same = record {
  kept = shows;
  size = ap length same ∙ runs.size;
  addresses = subst (λ hs. Every (IsHeld hs) b.places) (sym same) runs.addresses;
  given = subst (λ hs. GivesJust hs (used_pairs b.kept) (pairs_in b.shape.block (passage ∷ held ++ pledged)) takings) (sym same)
      (gives_more old.blocks.holders (used_pairs b.kept) (pairs_at b.shape.block (spots_of passage)) (pairs_in b.shape.block (held ++ pledged)) takings
      (λ q e. rope_blocks held pledged takings old b runs q (live q e)) runs.given);
  below = every-append (λ (pair : BlockPair). pair.file < b.next) (pairs_at b.shape.block (spots_of passage)) (pairs_in b.shape.block held)
      (all_have (λ pair. pair.file < b.next) (pairs_at b.shape.block (spots_of passage))
      (λ q e. file_below b.next b.shape.blocks b.places q runs.placed.ranges (used_placed b.shape.block b.places b.ropes q runs.placed.placed (live q e))))
      runs.below;
  in_form = form ∙ runs.in_form;
  valid = runs.valid;
  placed = runs.placed;
  used = runs.used;
}

-- ---- a passage is held no longer

-- what is held after it was held before, and is wanted
kept_wanted : (pairs others : List BlockPair) (takings : List ℕ) (o : Option Holder) (h : Holder) → while_wanted pairs others takings o ≡ Some h → (o ≡ Some h) × (is_wanted pairs others takings h.owner h.index ≡ true)
kept_wanted pairs others takings None h e = cc
kept_wanted pairs others takings (Some g) h e = by (is_wanted pairs others takings g.owner g.index) refl
  where
    by : (w : Bool) → is_wanted pairs others takings g.owner g.index ≡ w → (Some g ≡ Some h) × (is_wanted pairs others takings h.owner h.index ≡ true)
    by true k =
        let same : Some g ≡ Some h = sym (ap (λ w. cond w (Some g) None) k) ∙ e in
        let one : g ≡ h = cc in
        (same, subst (λ (x : Holder). is_wanted pairs others takings x.owner x.index ≡ true) one k)
    by false k = let none : None ≡ Some h = sym (ap (λ w. cond w (Some g) None) k) ∙ e in cc

-- what is wanted stays
wanted_kept : (pairs others : List BlockPair) (takings : List ℕ) (o : Option Holder) (h : Holder) → o ≡ Some h → is_wanted pairs others takings h.owner h.index ≡ true → while_wanted pairs others takings o ≡ Some h
wanted_kept pairs others takings o h e k = ap (while_wanted pairs others takings) e ∙ ap (λ w. cond w (Some h) None) k

module _ (pairs others more : List BlockPair) (takings : List ℕ) (old new : Holders) (becomes : EachBecomes (while_wanted pairs others takings) old new) (gives : GivesJust old pairs (more ++ others) takings) where
  stays : (a : ℕ) (h : Holder) → holder_at old a ≡ Some h → is_wanted pairs others takings h.owner h.index ≡ true → holder_at new a ≡ Some h
  stays a h e k = becomes.each a ∙ wanted_kept pairs others takings (holder_at old a) h e k

  was : (a : ℕ) (h : Holder) → holder_at new a ≡ Some h → (holder_at old a ≡ Some h) × (is_wanted pairs others takings h.owner h.index ≡ true)
  was a h e = kept_wanted pairs others takings (holder_at old a) h (sym (becomes.each a) ∙ e)

  gives_less : GivesJust new pairs others takings
  gives_less = record {
    only = λ a h e. (was a h e).1;
    single = λ a c h e k. gives.single a c h (was a h e).0 (was c h k).0;
    passages = λ q e.
        let at = gives.passages q (has_append more others q ∙ or_right (has_pair more q) (has_pair others q) e) in
        (at.0, stays at.0 (block_of (File q.file) q.index) at.1 (or_right (has_pair pairs q) (has_pair others q) e));
    recordings = λ lane index e. let at = gives.recordings lane index e in (at.0, stays at.0 (block_of (Taking lane) index) at.1 (lt-ltb index (taken takings lane) e));
  }

  still_held : (places : List Placed) → Every (IsHeld old) places → Every (λ (p : Placed). has_pair pairs p.pair ≡ true) places → Every (IsHeld new) places
  still_held places held used =
      every-imply (λ (p : Placed). IsHeld old p × (has_pair pairs p.pair ≡ true)) (IsHeld new)
      (λ p h. stays p.address (block_of (File p.pair.file) p.pair.index) h.0 (or_left (has_pair pairs p.pair) (has_pair others p.pair) h.1))
      places (every-both (IsHeld old) (λ (p : Placed). has_pair pairs p.pair ≡ true) places held used)

pub released : laws.Released
released held pledged takings old new b passage runs shows form becomes = record {
  kept = shows;
  size = becomes.count ∙ runs.size;
  addresses = still_held (used_pairs b.kept) (pairs_in b.shape.block (held ++ pledged)) (pairs_at b.shape.block (spots_of passage)) takings old.blocks.holders new.blocks.holders becomes runs.given b.places runs.addresses runs.used;
  given = gives_less (used_pairs b.kept) (pairs_in b.shape.block (held ++ pledged)) (pairs_at b.shape.block (spots_of passage)) takings old.blocks.holders new.blocks.holders becomes runs.given;
  below = (every-split (λ (pair : BlockPair). pair.file < b.next) (pairs_at b.shape.block (spots_of passage)) (pairs_in b.shape.block held) runs.below).1;
  in_form = form ∙ runs.in_form;
  valid = runs.valid;
  placed = runs.placed;
  used = runs.used;
}
