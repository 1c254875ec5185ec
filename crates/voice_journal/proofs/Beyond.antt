-- Changes behind the areas.
use Rattle.std.proofs.Common.{◌≡◌, ◌≢◌, ◌⊎◌, inl, inr, ℕ, ◌+◌, ◌<◌, ◌≤◌, List, length, get_or, refl, ap, sym, ◌∙◌, arith, Bool, true, false}
use Rattle.std.proofs.lemmas.List.{get_or-set_same, get_or-set_other}
use Rattle.std.proofs.Math.ListN.{set, length-set}
use Rattle.std.specs.Prelude.{nat_lt}
use Rattle.std.proofs.lemmas.Bool.{cases_eq, ltb-true, ltb-false}
use Rattle.voice_outside.specs.Disk.{AgreesOutside}
use Rattle.disk_areas.specs.Areas.{Journal}
use Rattle.voice_journal.specs.Readings.{Reads, OtherIs, IsPending, data_start}
use Rattle.voice_journal.proofs.Relations.{reads_as}
use Rattle.voice_journal.proofs.Moves.{layout, other_same, reads_beyond}

pub sure_beyond : (is_closed : Bool) (a b : List ℕ) (r : Journal) (at n : ℕ) → data_start r.shape ≤ at → AgreesOutside at n a b → Reads a r × OtherIs is_closed r a → Reads b r × OtherIs is_closed r b
sure_beyond is_closed a b r at n beyond agrees is =
    let x = reads_as a r is.0 in
    let l = layout a r x.stem.front x.stem.at in (
      reads_beyond a b r at n beyond agrees is.0,
      other_same is_closed a b r agrees.same_length (omega (arith, l.other_high, l.whole, l.least)) (λ i lo hi. agrees.before i (omega (arith, l.other_high, l.least, hi, beyond))) is.1,
    )

module _ (place : ℕ) (a b c : List ℕ) (at n : ℕ) (low : place < at) (within : place < length a) (agrees : AgreesOutside at n a b) (further : AgreesOutside place 1 b c) where
  -- the first image with the last one's gate
  gated : List ℕ
  gated = set a place (get_or c place 0)

  pub gated_from : AgreesOutside place 1 a (set a place (get_or c place 0))
  gated_from = record {
    same_length = length-set a place (get_or c place 0);
    before = λ i lt. get_or-set_other a place i (get_or c place 0) 0 (omega arith);
    after = λ i le. get_or-set_other a place i (get_or c place 0) 0 (omega arith);
  }

  pub gate_same : get_or (set a place (get_or c place 0)) place 0 ≡ get_or c place 0
  gate_same = get_or-set_same a place (get_or c place 0) 0 within

  moved : (i : ℕ) → i ≢ place → get_or c i 0 ≡ get_or b i 0
  moved i other =
      elim (cases_lt i place) [
        | inl lt ↦ further.before i lt
        | inr le ↦ further.after i (past i le other)
      ]
    where
      cases_lt : (i k : ℕ) → (i < k) ⊎ (k ≤ i)
      cases_lt i k = by (nat_lt i k) refl
        where
          by : (t : Bool) → nat_lt i k ≡ t → (i < k) ⊎ (k ≤ i)
          by true e = inl (ltb-true i k e)
          by false e = inr (ltb-false i k e)

      past : (i : ℕ) → place ≤ i → i ≢ place → place + 1 ≤ i
      past i le other = omega arith

  elsewhere : (i : ℕ) → get_or b i 0 ≡ get_or a i 0 → get_or c i 0 ≡ get_or (set a place (get_or c place 0)) i 0
  elsewhere i same =
      elim (cases_eq i place) [
        | inl here ↦ ap (λ (k : ℕ). get_or c k 0) here ∙ sym gate_same ∙ sym (ap (λ (k : ℕ). get_or (set a place (get_or c place 0)) k 0) here)
        | inr other ↦ moved i other ∙ same ∙ sym (get_or-set_other a place i (get_or c place 0) 0 other)
      ]

  pub gated_to : AgreesOutside at n (set a place (get_or c place 0)) c
  gated_to = record {
    same_length = further.same_length ∙ agrees.same_length ∙ sym (length-set a place (get_or c place 0));
    before = λ i lt. elsewhere i (agrees.before i lt);
    after = λ i le. elsewhere i (agrees.after i le);
  }

pub unsure_beyond : (is_closed : Bool) (place : ℕ) (a b : List ℕ) (r s : Journal) (at n : ℕ) → data_start r.shape ≤ at → data_start s.shape ≤ at → place < at → place < length a → AgreesOutside at n a b → IsPending place r s is_closed a → IsPending place r s is_closed b
unsure_beyond is_closed place a b r s at n beyond beyond' low within agrees is = record {
  shut = λ c further closed.
      let here = gated_from place a b c at n low within agrees further in
      let to = gated_to place a b c at n low within agrees further in
      let same = gate_same place a b c at n low within agrees further in
      reads_beyond _ c r at n beyond to (is.shut _ here (λ one. closed (sym same ∙ one)));
  landed = λ c further one.
      let here = gated_from place a b c at n low within agrees further in
      let to = gated_to place a b c at n low within agrees further in
      let same = gate_same place a b c at n low within agrees further in
      sure_beyond is_closed _ c s at n beyond' to (is.landed _ here (same ∙ one));
}
