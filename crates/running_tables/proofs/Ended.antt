-- The blocks of an open recording become those of a file.
use Rattle.std.proofs.Common.{◌≡◌, ℕ, ◌<◌, ◌==◌, ◌⊎◌, inl, inr, Bool, true, false, ◌||◌, cond, List, ◌∷◌, ◌++◌, Option, Some, None, refl, sym, ◌∙◌, ap, subst, arith}
use Rattle.std.proofs.lemmas.Bool.{ltb-true, eqb-true, eq-eqb}
use Rattle.std.specs.Prelude.{nat_lt}
use Rattle.voice_units.specs.Spots.{spots_of}
use Rattle.voice_units.specs.Blocks.{BlockPair, pairs_at, has_pair}
use Rattle.voice_units.specs.declared.pieces.Piece.{Piece}
use Rattle.voice_model.specs.Replay.{used_pairs}
use Rattle.voice_model.proofs.KeptByChanges.{every-imply}
use Rattle.voice_blocks.specs.Holders.{Holders, EachBecomes, holder_at, block_of, same_owner, renamed}
use Rattle.voice_blocks.specs.declared.owner.Owner.{Owner}
use Rattle.voice_blocks.specs.declared.owner.Owner.TheVariants.{File, Taking}
use Rattle.voice_blocks.specs.declared.owner.Holder.{Holder}
use Rattle.rope_table.specs.Table.{pairs_in, pair_of}
use Rattle.checkpoint.specs.Blocks.{IsHeld}
use Rattle.running_tables.specs.Running.{taken, is_wanted, GivesJust, IsGiven}
use Rattle.running_tables.specs.Laws as laws
use Rattle.running_tables.proofs.Begins.{some_is}
use Rattle.voice_blocks.proofs.Apart.{either_way, or_left, or_right, has_append}
use Rattle.running_tables.proofs.Passages.{pairs_after}

-- a block that was of the recording
pub record WasOpen (lane file : ℕ) (o : Option Holder) (h : Holder) : Type 0 where
  pub index : ℕ
  pub was : o ≡ Some (block_of (Taking lane) index)
  pub is : h ≡ block_of (File file) index

abbrev Stood : ℕ → Option Holder → Holder → Type 0
Stood lane o h = (o ≡ Some h) × (same_owner (Taking lane) h.owner ≡ false)

was_block : (lane file : ℕ) (owner : Owner) (index : ℕ) (h : Holder) → renamed lane file (Some (block_of owner index)) ≡ Some h → Stood lane (Some (block_of owner index)) h ⊎ WasOpen lane file (Some (block_of owner index)) h
was_block lane file (File f) index h e = inl (e, subst (λ (x : Holder). same_owner (Taking lane) x.owner ≡ false) (some_is e) refl)
was_block lane file (Taking l) index h e = by (lane == l) refl
  where
    by : (t : Bool) → (lane == l) ≡ t → Stood lane (Some (block_of (Taking l) index)) h ⊎ WasOpen lane file (Some (block_of (Taking l) index)) h
    by true k =
        let one : Some (block_of (File file) index) ≡ Some h = sym (ap (λ t. cond t (Some (block_of (File file) index)) (Some (block_of (Taking l) index))) k) ∙ e in
        inr (record { index = index; was = ap (λ n. Some (block_of (Taking n) index)) (sym (eqb-true lane l k)); is = sym (some_is one) })
    by false k =
        let one : Some (block_of (Taking l) index) ≡ Some h = sym (ap (λ t. cond t (Some (block_of (File file) index)) (Some (block_of (Taking l) index))) k) ∙ e in
        inl (one, subst (λ (x : Holder). same_owner (Taking lane) x.owner ≡ false) (some_is one) k)

was_held : (lane file : ℕ) (o : Option Holder) (h : Holder) → renamed lane file o ≡ Some h → Stood lane o h ⊎ WasOpen lane file o h
was_held lane file None h e = cc
was_held lane file (Some g) h e = was_block lane file g.owner g.index h e

module _ (old new : Holders) (pairs others mine all : List BlockPair) (takings more : List ℕ) (lane file : ℕ)
    (alike : (q : BlockPair) → has_pair all q ≡ (has_pair mine q || has_pair others q))
    (first : (index : ℕ) → has_pair mine (pair_of file index) ≡ nat_lt index (taken takings lane))
    (of_file : (q : BlockPair) → has_pair mine q ≡ true → q.file ≡ file)
    (becomes : EachBecomes (renamed lane file) old new)
    (fresh : (a index : ℕ) → ¬ (holder_at old a ≡ Some (block_of (File file) index)))
    (ended : laws.HasEnded lane takings more)
    (gives : GivesJust old pairs others takings) where
  was : (a : ℕ) (h : Holder) → holder_at new a ≡ Some h → Stood lane (holder_at old a) h ⊎ WasOpen lane file (holder_at old a) h
  was a h e = was_held lane file (holder_at old a) h (sym (becomes.each a) ∙ e)

  still_wanted : (owner : Owner) (index : ℕ) → is_wanted pairs others takings owner index ≡ true → same_owner (Taking lane) owner ≡ false → is_wanted pairs all more owner index ≡ true
  still_wanted (File f) index e other =
      either_way (has_pair pairs (pair_of f index)) (has_pair others (pair_of f index))
      (λ k. or_left (has_pair pairs (pair_of f index)) (has_pair all (pair_of f index)) k)
      (λ k. or_right (has_pair pairs (pair_of f index)) (has_pair all (pair_of f index)) (alike (pair_of f index) ∙ or_right (has_pair mine (pair_of f index)) (has_pair others (pair_of f index)) k)) e
  still_wanted (Taking l) index e other = ap (nat_lt index) (ended.elsewhere l (λ i. let t = eq-eqb lane l (sym i) in cc)) ∙ e

  only_wanted : (a : ℕ) (h : Holder) → holder_at new a ≡ Some h → is_wanted pairs all more h.owner h.index ≡ true
  only_wanted a h e = elim (was a h e) [
    | inl k ↦ still_wanted h.owner h.index (gives.only a h k.0) k.1
    | inr r ↦ subst (λ (x : Holder). is_wanted pairs all more x.owner x.index ≡ true) (sym r.is)
        (or_right (has_pair pairs (pair_of file r.index)) (has_pair all (pair_of file r.index))
        (alike (pair_of file r.index) ∙ or_left (has_pair mine (pair_of file r.index)) (has_pair others (pair_of file r.index)) (first r.index ∙ gives.only a (block_of (Taking lane) r.index) r.was)))
  ]

  one_address : (a c : ℕ) (h : Holder) → holder_at new a ≡ Some h → holder_at new c ≡ Some h → a ≡ c
  one_address a c h e k = elim (was a h e) [
    | inl i ↦ elim (was c h k) [
      | inl j ↦ gives.single a c h i.0 j.0
      | inr r ↦ absurd (fresh a r.index (i.0 ∙ ap (λ x. Some x) r.is))
    ]
    | inr q ↦ elim (was c h k) [
      | inl j ↦ absurd (fresh c q.index (j.0 ∙ ap (λ x. Some x) q.is))
      | inr r ↦ (let same : q.index ≡ r.index = ap (λ (x : Holder). x.index) (sym q.is ∙ r.is) in
          gives.single a c (block_of (Taking lane) q.index) q.was (r.was ∙ ap (λ n. Some (block_of (Taking lane) n)) (sym same)))
    ]
  ]

  file_stays : (f index : ℕ) → IsGiven old (block_of (File f) index) → IsGiven new (block_of (File f) index)
  file_stays f index at = (at.0, becomes.each at.0 ∙ ap (renamed lane file) at.1)

  file_comes : (index : ℕ) → IsGiven old (block_of (Taking lane) index) → IsGiven new (block_of (File file) index)
  file_comes index at = (at.0, becomes.each at.0 ∙ ap (renamed lane file) at.1 ∙ ap (λ t. cond t (Some (block_of (File file) index)) (Some (block_of (Taking lane) index))) (eq-eqb lane lane refl))

  passage_given : (q : BlockPair) → has_pair all q ≡ true → IsGiven new (block_of (File q.file) q.index)
  passage_given q e =
      either_way (has_pair mine q) (has_pair others q)
      (λ k. let at_file = of_file q k in
      let within : has_pair mine (pair_of file q.index) ≡ true = ap (λ f. has_pair mine (pair_of f q.index)) (sym at_file) ∙ k in
      let at = file_comes q.index (gives.recordings lane q.index (ltb-true q.index (taken takings lane) (sym (first q.index) ∙ within))) in
      subst (λ f. IsGiven new (block_of (File f) q.index)) (sym at_file) at)
      (λ k. file_stays q.file q.index (gives.passages q k))
      (sym (alike q) ∙ e)

  other_given : (other index : ℕ) → index < taken more other → IsGiven new (block_of (Taking other) index)
  other_given other index less = by (lane == other) refl
    where
      by : (t : Bool) → (lane == other) ≡ t → IsGiven new (block_of (Taking other) index)
      by true k =
          let none : index < taken more lane = subst (λ l. index < taken more l) (sym (eqb-true lane other k)) less in
          let here = ended.here in
          absurd (omega (arith, none, here))
      by false k =
          let same = ended.elsewhere other (λ i. let t = eq-eqb lane other (sym i) in cc) in
          let at = gives.recordings other index (omega (arith, less, same)) in
          (at.0, becomes.each at.0 ∙ ap (renamed lane file) at.1 ∙ ap (λ t. cond t (Some (block_of (File file) index)) (Some (block_of (Taking other) index))) k)

  gives_ended : GivesJust new pairs all more
  gives_ended = record { only = only_wanted; single = one_address; passages = passage_given; recordings = other_given }

pub with_pledge : (block : ℕ) (held pledged : List (List Piece)) (pieces : List Piece) (q : BlockPair) → has_pair (pairs_in block (held ++ pieces ∷ pledged)) q ≡ (has_pair (pairs_at block (spots_of pieces)) q || has_pair (pairs_in block (held ++ pledged)) q)
with_pledge block held pledged pieces q =
    ap (λ l. has_pair l q) (pairs_after block held (pieces ∷ pledged))
    ∙ has_append (pairs_in block held) (pairs_at block (spots_of pieces) ++ pairs_in block pledged) q
    ∙ ap (λ t. has_pair (pairs_in block held) q || t) (has_append (pairs_at block (spots_of pieces)) (pairs_in block pledged) q)
    ∙ swapped (has_pair (pairs_in block held) q) (has_pair (pairs_at block (spots_of pieces)) q) (has_pair (pairs_in block pledged) q)
    ∙ ap (λ t. has_pair (pairs_at block (spots_of pieces)) q || t) (sym (ap (λ l. has_pair l q) (pairs_after block held pledged) ∙ has_append (pairs_in block held) (pairs_in block pledged) q))
  where
    swapped : (a m c : Bool) → (a || (m || c)) ≡ (m || (a || c))
    swapped true true c = refl
    swapped true false c = refl
    swapped false m c = refl

pub ended : laws.Ended
ended held pledged takings more old new b lane file pieces runs shows form becomes fresh first ends = record {
  kept = shows;
  size = becomes.count ∙ runs.size;
  addresses = every-imply (IsHeld old.blocks.holders) (IsHeld new.blocks.holders) (λ p e. becomes.each p.address ∙ ap (renamed lane file) e) b.places runs.addresses;
  given = gives_ended old.blocks.holders new.blocks.holders (used_pairs b.kept) (pairs_in b.shape.block (held ++ pledged)) (pairs_at b.shape.block (spots_of pieces)) (pairs_in b.shape.block (held ++ pieces ∷ pledged)) takings more lane file
      (with_pledge b.shape.block held pledged pieces) first.each first.of_file becomes fresh ends runs.given;
  below = runs.below;
  in_form = form ∙ runs.in_form;
  valid = runs.valid;
  placed = runs.placed;
  used = runs.used;
}
