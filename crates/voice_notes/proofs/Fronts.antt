-- The front of some bytes.
use Rattle.std.proofs.Common.{◌≡◌, ℕ, zero, suc, ◌+◌, ◌-◌, ◌<◌, ◌≤◌, Bool, true, false, cond, List, [], ◌∷◌, length, take, drop, refl, sym, ap, ◌∙◌, arith, Option, Some, None, ltb, length-drop}
use Rattle.std.specs.Prelude.{not, unwrap_or}
use Rattle.std.specs.List.{position}
use Rattle.std.proofs.lemmas.Bool.{ltb-false}
use Rattle.std.proofs.lemmas.List.{take_all}
use Rattle.voice_notes.specs.Anchors.{ends_key, run, front_of, with_front, anchored, or_later, bad_from, with_key, with_keys}
use Rattle.voice_notes.specs.declared.front.Front.TheVariants as fronts

-- a run lies in the bytes
pub run_within : (bytes : List ℕ) → run bytes ≤ length bytes
run_within [] = omega arith
run_within (b ∷ bytes) = by (ends_key b) (run_within bytes)
  where
    by : (q : Bool) → run bytes ≤ length bytes → cond (not q) (1 + run bytes) 0 ≤ length (b ∷ bytes)
    by true h = omega arith
    by false h = omega (arith, h)

-- the place of its end, or the length
pub run_is : (bytes : List ℕ) → unwrap_or (position ends_key bytes) (length bytes) ≡ run bytes
run_is bytes = by (ltb (run bytes) (length bytes)) refl
  where
    by : (q : Bool) → ltb (run bytes) (length bytes) ≡ q → unwrap_or (cond q (Some (run bytes)) None) (length bytes) ≡ run bytes
    by true e = refl
    by false e = let least = ltb-false (run bytes) (length bytes) e in let most = run_within bytes in omega (arith, least, most)

-- the bytes from a place on, as a slice of them
pub rest_is : (bytes : List ℕ) (place : ℕ) → place < length bytes → take (length bytes - place) (drop place bytes) ≡ drop place bytes
rest_is bytes place h = take_all (length bytes - place) (drop place bytes) (omega (arith, length-drop place bytes))

-- the front of what is left, and the rest
drop_more : (b : ℕ) (bytes : List ℕ) (place : ℕ) → drop (suc place + 1) (b ∷ bytes) ≡ drop (place + 1) bytes
drop_more b bytes place = let e : suc place + 1 ≡ suc (place + 1) = omega arith in ap (λ n. drop n (b ∷ bytes)) e

pub next_anchored : (note : List ℕ) (place : ℕ) → place < length note → anchored (drop place note) ≡ with_front (front_of (drop place note)) (anchored (drop (place + 1) note))
next_anchored [] place h = absurd (omega arith)
next_anchored (b ∷ note) zero h = refl
next_anchored (b ∷ note) (suc place) h = next_anchored note place (omega arith) ∙ ap (λ rest. with_front (front_of (drop place note)) (anchored rest)) (sym (drop_more b note place))

pub next_bad : (note : List ℕ) (place n : ℕ) → place < length note → bad_from n (drop place note) ≡ or_later (front_of (drop place note)) n (bad_from (n + 1) (drop (place + 1) note))
next_bad [] place n h = absurd (omega arith)
next_bad (b ∷ note) zero n h = refl
next_bad (b ∷ note) (suc place) n h = next_bad note place n (omega arith) ∙ ap (λ rest. or_later (front_of (drop place note)) n (bad_from (n + 1) rest)) (sym (drop_more b note place))

-- ---- one place more of a note was looked at

-- what was gathered before a place, with what is gathered from there on, is all; and the first bad place is none before it
pub record SoFar (note : List ℕ) (all : List (List ℕ)) (bad : Option ℕ) (gathered : List (List ℕ)) (place : ℕ) : Type 0 where
  pub keys : with_keys gathered (anchored (drop place note)) ≡ all
  pub first_bad : bad_from place (drop place note) ≡ bad

pub past_other : (note : List ℕ) (all : List (List ℕ)) (bad : Option ℕ) (gathered : List (List ℕ)) (place : ℕ) → place < length note → front_of (drop place note) ≡ fronts.Other → SoFar note all bad gathered place → SoFar note all bad gathered (place + 1)
past_other note all bad gathered place within e h = record {
  keys = sym (ap (with_keys gathered) (next_anchored note place within ∙ ap (λ front. with_front front (anchored (drop (place + 1) note))) e)) ∙ h.keys;
  first_bad = sym (next_bad note place place within ∙ ap (λ front. or_later front place (bad_from (place + 1) (drop (place + 1) note))) e) ∙ h.first_bad;
}

pub past_anchor : (note : List ℕ) (all : List (List ℕ)) (bad : Option ℕ) (gathered : List (List ℕ)) (place : ℕ) (key : List ℕ) → place < length note → front_of (drop place note) ≡ fronts.Anchor key → SoFar note all bad gathered place → SoFar note all bad (with_key gathered key) (place + 1)
past_anchor note all bad gathered place key within e h = record {
  keys = sym (ap (with_keys gathered) (next_anchored note place within ∙ ap (λ front. with_front front (anchored (drop (place + 1) note))) e)) ∙ h.keys;
  first_bad = sym (next_bad note place place within ∙ ap (λ front. or_later front place (bad_from (place + 1) (drop (place + 1) note))) e) ∙ h.first_bad;
}
