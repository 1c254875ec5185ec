-- The conditions of edits, as the tables give them.
use Rattle.std.proofs.Common.{◌≡◌, ℕ, ◌+◌, ◌≤◌, ◌<◌, ◌^◌, Bool, true, false, arith, List, [], ◌∷◌, ◌++◌, length, Option, Some, None, refl, sym, ◌∙◌, ap}
use Rattle.std.specs.Prelude.{nat_lt}
use Rattle.std.proofs.lemmas.Bool.{ltb-false, ltb-true}
use Rattle.voice_units.specs.declared.pieces.Piece.{Piece}
use Rattle.voice_units.specs.Spots.{pieces_of, samples_in, replaced}
use Rattle.voice_model.specs.State.{State, samples_of}
use Rattle.voice_model.specs.Changes.{effect_of}
use Rattle.voice_model.specs.Step.{conditions, first_of, refusal, when, if_unknown, if_outside, if_long, if_many, if_full, last_rope, most_samples}
use Rattle.voice_model.specs.declared.calls.Call.{Call}
use Rattle.voice_model.specs.declared.calls.Call.TheVariants as calls
use Rattle.voice_model.specs.declared.calls.Why.{Why}
use Rattle.voice_model.specs.declared.calls.Why.TheVariants as why
use Rattle.recovery.specs.declared.parts.Parts.{Parts}
use Rattle.voice_model.specs.Valid.{IsState}
use Rattle.voice_model.proofs.FitsOfCalls.{rope_limits, not_when}
use Rattle.recovery.proofs.Ropes.{cons_same}
use Rattle.edits.specs.Tables.{pieces_here, first_missing, length_joined, spots_joined}
use Rattle.edits.specs.Shown.{ShowsState, before_journal, JournalIsAskedLast}
use Rattle.edits.proofs.Seen.{missing_shown, joined_shown, rope_length, joined_length, replaced_shown, replaced_places, made_length, places_length}

-- ---- the first condition that holds

pub stops : (o : Option Why) (os : List (Option Why)) (reason : Why) → o ≡ Some reason → first_of (o ∷ os) ≡ Some reason
stops o os reason e = ap (λ x. first_of (x ∷ os)) e

pub goes_on : (o : Option Why) (os : List (Option Why)) (r : Option Why) → o ≡ None → first_of os ≡ r → first_of (o ∷ os) ≡ r
goes_on o os r e h = ap (λ x. first_of (x ∷ os)) e ∙ h

first_in_front : (xs ys : List (Option Why)) (reason : Why) → first_of xs ≡ Some reason → first_of (xs ++ ys) ≡ Some reason
first_in_front [] ys reason h = cc
first_in_front (None ∷ xs) ys reason h = first_in_front xs ys reason h
first_in_front (Some other ∷ xs) ys reason h = h

first_behind : (xs : List (Option Why)) (o : Option Why) → first_of xs ≡ None → first_of (xs ++ o ∷ []) ≡ o
first_behind [] None h = refl
first_behind [] (Some reason) h = refl
first_behind (None ∷ xs) o h = first_behind xs o h
first_behind (Some other ∷ xs) o h = cc

nothing_behind : (xs : List (Option Why)) → first_of xs ≡ first_of (xs ++ None ∷ [])
nothing_behind [] = refl
nothing_behind (None ∷ xs) = nothing_behind xs
nothing_behind (Some reason ∷ xs) = refl

-- ---- the journal's condition is the last one

abbrev AskedLast : State → List (List ℕ) → Call → Type 0
AskedLast s tapes call = refusal s tapes call ≡ first_of (before_journal s tapes call ++ if_full s (effect_of s tapes call) ∷ [])

asked_last : (s : State) (tapes : List (List ℕ)) (call : Call) → AskedLast s tapes call
asked_last s tapes (calls.Record take) = refl
asked_last s tapes (calls.Concat ids) = refl
asked_last s tapes (calls.Sub id start len) = refl
asked_last s tapes (calls.Replace id start len with) = refl
asked_last s tapes (calls.End lane) = refl
asked_last s tapes (calls.Retain class key id note) = refl
asked_last s tapes (calls.Forget class key) = refl
asked_last s tapes (calls.Census keys) = refl
asked_last s tapes (calls.Advance moment) = refl
asked_last s tapes (calls.Sweep limit) = refl
asked_last s tapes (calls.Length id) = nothing_behind (conditions s tapes (calls.Length id))
asked_last s tapes (calls.Describe id) = nothing_behind (conditions s tapes (calls.Describe id))
asked_last s tapes (calls.Levels id) = nothing_behind (conditions s tapes (calls.Levels id))
asked_last s tapes (calls.Play lane id start len) = nothing_behind (conditions s tapes (calls.Play lane id start len))
asked_last s tapes (calls.Feed lane back) = nothing_behind (conditions s tapes (calls.Feed lane back))
asked_last s tapes (calls.Stop lane) = nothing_behind (conditions s tapes (calls.Stop lane))
asked_last s tapes (calls.Lookup class key) = nothing_behind (conditions s tapes (calls.Lookup class key))
asked_last s tapes calls.Landed = nothing_behind (conditions s tapes calls.Landed)
asked_last s tapes (calls.Begin lane) = nothing_behind (conditions s tapes (calls.Begin lane))
asked_last s tapes (calls.Add lane take) = nothing_behind (conditions s tapes (calls.Add lane take))

pub journal_last : JournalIsAskedLast
journal_last = record {
  last = asked_last;
  early = λ s tapes call reason h. asked_last s tapes call ∙ first_in_front (before_journal s tapes call) (if_full s (effect_of s tapes call) ∷ []) reason h;
  late = λ s tapes call h. asked_last s tapes call ∙ first_behind (before_journal s tapes call) (if_full s (effect_of s tapes call)) h;
}

-- ---- the conditions, as the tables give them

abbrev pub spent_at : ℕ → Option Why
spent_at next = when (nat_lt last_rope next) why.IdsSpent

module _ (held : List (List Piece)) (parts : Parts) (s : State) (tapes : List (List ℕ)) (h : ShowsState held parts s) where
  pub concat_conditions : (ids : List ℕ)
      → before_journal s tapes (calls.Concat ids)
      ≡ if_unknown (first_missing parts.ropes.ropes ids) ∷ if_long (length_joined parts.ropes.ropes ids) ∷ if_many (length (pieces_of (spots_joined parts.ropes.ropes ids))) ∷ spent_at parts.next ∷ []
  concat_conditions ids =
      cons_same (ap if_unknown (sym (missing_shown held parts s h ids)))
      (cons_same (ap if_long (sym (joined_length held parts s h ids)))
      (cons_same (ap (λ ss. if_many (length (pieces_of ss))) (sym (joined_shown held parts s h ids)))
      (cons_same (ap spent_at (sym h.next)) refl)))

  pub sub_conditions : (id start len : ℕ)
      → before_journal s tapes (calls.Sub id start len)
      ≡ if_unknown (first_missing parts.ropes.ropes (id ∷ [])) ∷ if_outside start len (samples_in (pieces_here parts.ropes.ropes id)) ∷ spent_at parts.next ∷ []
  sub_conditions id start len =
      cons_same (ap if_unknown (sym (missing_shown held parts s h (id ∷ []))))
      (cons_same (ap (if_outside start len) (sym (rope_length held parts s h id)))
      (cons_same (ap spent_at (sym h.next)) refl))

  replaced_length : (id start len with : ℕ) → length (replaced (samples_of s.ropes id) start len (samples_of s.ropes with)) ≡ length (replaced_places parts.ropes.ropes id start len with)
  replaced_length id start len with =
      sym (made_length (replaced (samples_of s.ropes id) start len (samples_of s.ropes with))) ∙ ap samples_in (sym (replaced_shown held parts s h id start len with)) ∙ places_length (replaced_places parts.ropes.ropes id start len with)

  pub replace_conditions : (id start len with : ℕ)
      → before_journal s tapes (calls.Replace id start len with)
      ≡ if_unknown (first_missing parts.ropes.ropes (id ∷ with ∷ [])) ∷ if_outside start len (samples_in (pieces_here parts.ropes.ropes id)) ∷ if_long (length (replaced_places parts.ropes.ropes id start len with)) ∷ if_many (length (pieces_of (replaced_places parts.ropes.ropes id start len with))) ∷ spent_at parts.next ∷ []
  replace_conditions id start len with =
      cons_same (ap if_unknown (sym (missing_shown held parts s h (id ∷ with ∷ []))))
      (cons_same (ap (if_outside start len) (sym (rope_length held parts s h id)))
      (cons_same (ap if_long (replaced_length id start len with))
      (cons_same (ap (λ ps. if_many (length ps)) (sym (replaced_shown held parts s h id start len with)))
      (cons_same (ap spent_at (sym h.next)) refl))))

-- ---- what a condition says

pub lies_inside : (start len n : ℕ) → None ≡ if_outside start len n → start + len ≤ n
lies_inside start len n e = ltb-false n (start + len) (not_when (nat_lt n (start + len)) (why.BadInterval n) (sym e))

pub is_long : (n : ℕ) (reason : Why) → Some reason ≡ if_long n → 2 ^ 30 < n
is_long n reason e = by (nat_lt most_samples n) refl e
  where
    by : (b : Bool) → nat_lt most_samples n ≡ b → Some reason ≡ when b (why.TooLong n) → 2 ^ 30 < n
    by true h e = ltb-true most_samples n h
    by false h e = cc

-- no rope of a valid state is so long
pub too_long : (s : State) (id start len : ℕ) (reason : Why) → IsState s → start + len ≤ length (samples_of s.ropes id) → ¬ (Some reason ≡ if_long len)
too_long s id start len reason valid inside e =
    let most = (rope_limits s.form s.kept id valid.kept).0 in
    let long = is_long len reason e in
    omega (arith, most, inside, long)
