-- A sweep acts while passages are held and recordings are open.
use Rattle.std.proofs.Common.{◌≡◌, ℕ, zero, suc, ◌+◌, ◌≤◌, ◌==◌, Bool, true, false, not, ◌||◌, cond, List, [], ◌++◌, Option, Some, None, refl, sym, ◌∙◌, ap, subst, arith}
use Rattle.std.specs.Prelude.{nat_lt}
use Rattle.std.proofs.lemmas.Bool.{lt-ltb, ltb-true}
use Rattle.std.proofs.lemmas.List.{append-nil}
use Rattle.voice_units.specs.Spots.{Spot}
use Rattle.voice_units.specs.Blocks.{BlockPair, pairs_at, has_pair}
use Rattle.voice_units.specs.declared.pieces.Piece.{Piece}
use Rattle.voice_model.specs.State.{Durable}
use Rattle.voice_model.specs.Replay.{Placed, used_pairs, acted}
use Rattle.voice_model.specs.declared.calls.Row.{Row}
use Rattle.voice_model.specs.declared.changes.Change.TheVariants as changes
use Rattle.voice_model.proofs.KeptByChanges.{every-append, every-filter, every-imply}
use Rattle.voice_model.proofs.FitsOfCalls.{every_passed}
use Rattle.voice_model.proofs.Order.{every-both}
use Rattle.voice_model.proofs.PlacesKept.{placed_next, all_samples}
use Rattle.voice_model.proofs.StatesOfReplay.{rebuilt_next}
use Rattle.voice_blocks.specs.Holders.{Holders, holder_at, block_of}
use Rattle.voice_blocks.specs.declared.owner.Owner.{Owner}
use Rattle.voice_blocks.specs.declared.owner.Owner.TheVariants.{File, Taking}
use Rattle.voice_blocks.specs.declared.owner.Holder.{Holder}
use Rattle.rope_table.specs.Table.{Table, uses_at, uses_in, pieces_in, pairs_in, pair_of}
use Rattle.recovery.specs.Shown.{ShowsKept, plain_sample}
use Rattle.recovery.specs.Placing.{in_use, is_unused}
use Rattle.recovery.proofs.Ropes.{uses_shown}
use Rattle.checkpoint.specs.Blocks.{IsHeld}
use Rattle.running_tables.specs.Running.{is_wanted, GivesJust}
use Rattle.running_tables.specs.Laws as laws
use Rattle.running_tables.proofs.Begins.{some_is}
use Rattle.voice_blocks.proofs.Apart.{or_left, or_right}
use Rattle.running_tables.proofs.Recounted.{used_once, once_used}
use Rattle.running_tables.proofs.Dropped.{apart}

not_zero : (n : ℕ) → 1 ≤ n → (n == 0) ≡ false
not_zero n h = apart n 0 (λ e. absurd (omega (arith, h, e)))

-- a sum is zero just if neither part has one
zero_sum : (m n : ℕ) (x y : Bool) → nat_lt 0 m ≡ x → (y ≡ true → 1 ≤ n) → (1 ≤ n → y ≡ true) → (m + n == 0) ≡ not (x || y)
zero_sum m n true y e f g = not_zero (m + n) (let k = ltb-true 0 m e in omega (arith, k))
zero_sum m n false true e f g = not_zero (m + n) (let k = f refl in omega (arith, k))
zero_sum zero zero false false e f g = refl
zero_sum (suc m) n false false e f g = let t = lt-ltb 0 (suc m) (omega arith) in cc
zero_sum zero (suc n) false false e f g = let t = g (omega arith) in cc

-- a block has no use just if no live rope and no held passage has it
unused_is : (held : List (List Piece)) (t : Table) (rows : List Row) (moment next : ℕ) (d : Durable Spot) → ShowsKept held t rows moment next d → (q : BlockPair)
    → (uses_at t q == 0) ≡ not (has_pair (used_pairs d) q || has_pair (pairs_in d.shape.block held) q)
unused_is held t rows moment next d h q =
    ap (λ n. n == 0) (h.uses q)
    ∙ zero_sum (uses_in t.block (pieces_in t.ropes) q) (uses_in t.block held q) (has_pair (used_pairs d) q) (has_pair (pairs_in d.shape.block held) q)
    (ap (λ l. nat_lt 0 (uses_in t.block (pieces_in l) q)) h.ropes ∙ uses_shown d.shape.graces d.rows t.block d.ropes q ∙ ap (λ n. has_pair (pairs_at n (all_samples d.ropes)) q) h.block)
    (λ e. subst (λ n. 1 ≤ uses_in n held q) (sym h.block) (used_once d.shape.block held q e))
    (λ e. once_used d.shape.block held q (subst (λ n. 1 ≤ uses_in n held q) h.block e))

with_none : (block : ℕ) (held : List (List Piece)) (q : BlockPair) → has_pair (pairs_in block (held ++ [])) q ≡ has_pair (pairs_in block held) q
with_none block held q = ap (λ l. has_pair (pairs_in block l) q) (append-nil held)

-- what is in use after, and what it was
kept_in_use : (t : Table) (o : Option Holder) (h : Holder) → in_use t o ≡ Some h → (o ≡ Some h) × (is_unused t h.owner h.index ≡ false)
kept_in_use t None h e = cc
kept_in_use t (Some g) h e = by (is_unused t g.owner g.index) refl
  where
    by : (u : Bool) → is_unused t g.owner g.index ≡ u → (Some g ≡ Some h) × (is_unused t h.owner h.index ≡ false)
    by true k = let none : None ≡ Some h = sym (ap (λ u. cond u None (Some g)) k) ∙ e in cc
    by false k =
        let same : Some g ≡ Some h = sym (ap (λ u. cond u None (Some g)) k) ∙ e in
        (same, subst (λ (x : Holder). is_unused t x.owner x.index ≡ false) (some_is same) k)

in_use_stays : (t : Table) (o : Option Holder) (h : Holder) → o ≡ Some h → is_unused t h.owner h.index ≡ false → in_use t o ≡ Some h
in_use_stays t o h e k = ap (in_use t) e ∙ ap (λ u. cond u None (Some h)) k

-- ---- each address is that of a block in use

wanted_used : (held : List (List Piece)) (takings : List ℕ) (t : Table) (rows : List Row) (moment next : ℕ) (d : Durable Spot) → ShowsKept held t rows moment next d → (owner : Owner) (index : ℕ)
    → is_wanted (used_pairs d) (pairs_in d.shape.block (held ++ [])) takings owner index ≡ true → is_unused t owner index ≡ false
wanted_used held takings t rows moment next d h (File file) index e =
    unused_is held t rows moment next d h (pair_of file index)
    ∙ ap not (ap (λ u. has_pair (used_pairs d) (pair_of file index) || u) (sym (with_none d.shape.block held (pair_of file index))) ∙ e)
wanted_used held takings t rows moment next d h (Taking lane) index e = refl

pub all_in_use : laws.AllAreInUse
all_in_use held takings parts b runs a = by (holder_at parts.blocks.holders a) refl
  where
    by : (o : Option Holder) → holder_at parts.blocks.holders a ≡ o → in_use parts.ropes (holder_at parts.blocks.holders a) ≡ holder_at parts.blocks.holders a
    by None e = ap (in_use parts.ropes) e ∙ sym e
    by (Some h) e =
        in_use_stays parts.ropes (holder_at parts.blocks.holders a) h e (wanted_used held takings parts.ropes parts.interests.rows parts.moment parts.next b.kept runs.kept h.owner h.index (runs.given.only a h e)) ∙ sym e

-- ---- a sweep

module _ (held : List (List Piece)) (takings : List ℕ) (t : Table) (rows : List Row) (moment next : ℕ) (d : Durable Spot) (pairs : List BlockPair) (old new : Holders)
    (shows : ShowsKept held t rows moment next d) (frees : (a : ℕ) → holder_at new a ≡ in_use t (holder_at old a))
    (gives : GivesJust old pairs (pairs_in d.shape.block (held ++ [])) takings) where
  was : (a : ℕ) (h : Holder) → holder_at new a ≡ Some h → (holder_at old a ≡ Some h) × (is_unused t h.owner h.index ≡ false)
  was a h e = kept_in_use t (holder_at old a) h (sym (frees a) ∙ e)

  stays : (a : ℕ) (h : Holder) → holder_at old a ≡ Some h → is_unused t h.owner h.index ≡ false → holder_at new a ≡ Some h
  stays a h e k = frees a ∙ in_use_stays t (holder_at old a) h e k

  not_false : (x : Bool) → not x ≡ false → x ≡ true
  not_false true e = refl
  not_false false e = cc

  still_wanted : (owner : Owner) (index : ℕ) → is_unused t owner index ≡ false → is_wanted pairs (pairs_in d.shape.block (held ++ [])) takings owner index ≡ true → is_wanted (used_pairs d) (pairs_in d.shape.block (held ++ [])) takings owner index ≡ true
  still_wanted (File file) index u e =
      ap (λ x. has_pair (used_pairs d) (pair_of file index) || x) (with_none d.shape.block held (pair_of file index))
      ∙ not_false (has_pair (used_pairs d) (pair_of file index) || has_pair (pairs_in d.shape.block held) (pair_of file index)) (sym (unused_is held t rows moment next d shows (pair_of file index)) ∙ u)
  still_wanted (Taking lane) index u e = e

  gives_left : GivesJust new (used_pairs d) (pairs_in d.shape.block (held ++ [])) takings
  gives_left = record {
    only = λ a h e. let k = was a h e in still_wanted h.owner h.index k.1 (gives.only a h k.0);
    single = λ a c h e k. gives.single a c h (was a h e).0 (was c h k).0;
    passages = λ q e.
        let at = gives.passages q e in (
          at.0,
          stays at.0 (block_of (File q.file) q.index) at.1
              (wanted_used held takings t rows moment next d shows (File q.file) q.index (or_right (has_pair (used_pairs d) q) (has_pair (pairs_in d.shape.block (held ++ [])) q) e)),
        );
    recordings = λ lane index e. let at = gives.recordings lane index e in (at.0, stays at.0 (block_of (Taking lane) index) at.1 refl);
  }

  used_stays : (p : Placed) → IsHeld old p → has_pair (used_pairs d) p.pair ≡ true → IsHeld new p
  used_stays p h e =
      stays p.address (block_of (File p.pair.file) p.pair.index) h
      (wanted_used held takings t rows moment next d shows (File p.pair.file) p.pair.index (or_left (has_pair (used_pairs d) p.pair) (has_pair (pairs_in d.shape.block (held ++ [])) p.pair) e))

pub swept : laws.Swept
swept held takings old new b ids runs legal grammar shows form size frees =
    let end = acted b (changes.Swept ids) in
    let d = end.kept in
    let all = b.places ++ [] in
    let before = every-append (IsHeld old.blocks.holders) b.places [] runs.addresses tt in
    let used = every_passed (λ (p : Placed). has_pair (used_pairs d) p.pair) all in
    record {
      kept = shows;
      size = size ∙ runs.size;
      addresses =
          every-imply (λ (p : Placed). IsHeld old.blocks.holders p × (has_pair (used_pairs d) p.pair ≡ true)) (IsHeld new.blocks.holders)
          (λ p h. used_stays held takings new.ropes new.interests.rows new.moment new.next d (used_pairs b.kept) old.blocks.holders new.blocks.holders shows frees runs.given p h.0 h.1) end.places
          (every-both (IsHeld old.blocks.holders) (λ (p : Placed). has_pair (used_pairs d) p.pair ≡ true) end.places (every-filter (IsHeld old.blocks.holders) (λ (p : Placed). has_pair (used_pairs d) p.pair) all before) used);
      given = gives_left held takings new.ropes new.interests.rows new.moment new.next d (used_pairs b.kept) old.blocks.holders new.blocks.holders shows frees runs.given;
      below = runs.below;
      in_form = form ∙ runs.in_form;
      valid = rebuilt_next plain_sample (λ s. refl) b (changes.Swept ids) runs.valid legal grammar;
      placed = placed_next b (changes.Swept ids) runs.placed legal grammar;
      used = used;
    }
