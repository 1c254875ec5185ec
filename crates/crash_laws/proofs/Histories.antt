-- Histories with one entry more, and what may be recovered after one.
--     Recovers, RecoversDoubt      an image recovers a durable part;  what the state keeps once what is in doubt has landed
--     RecoversFrom      an image recovers what was held from an entry on
--     parted, joined      the same as what `Held` says
use Rattle.std.proofs.Common.{◌≡◌, ◌⊎◌, inl, inr, ℕ, zero, suc, ◌<◌, ◌≤◌, List, [], ◌∷◌, ◌++◌, length, take, Bool, true, false, cond, is_some, Some, refl, sym, ◌∙◌, ap, arith, length-append}
use Rattle.voice_model.specs.Samples.{Tagged}
use Rattle.voice_model.specs.State.{State, Durable}
use Rattle.voice_model.specs.Step.{state_after, landed, after}
use Rattle.voice_model.specs.Image.{recovered_from}
use Rattle.voice_model.specs.Crash.{landing, with_landing, moment_of, durable_after}
use Rattle.voice_model.specs.declared.calls.Entry.{Entry}

pub le_or : (a b : ℕ) → (a ≤ b) ⊎ (b < a)
le_or zero b = inl (omega arith)
le_or (suc a) zero = inr (omega arith)
le_or (suc a) (suc b) = elim (le_or a b) [ inl h ↦ inl (omega arith) | inr h ↦ inr (omega arith) ]

pub length_push : (history : List Entry) (e : Entry) → length (history ++ e ∷ []) ≡ suc (length history)
length_push history e = omega (arith, length-append history (e ∷ []))

-- ---- the entries up to one

take_front : (history more : List Entry) (k : ℕ) → k ≤ length history → take k (history ++ more) ≡ take k history
take_front [] more zero le = refl
take_front [] more (suc k) le = absurd (omega arith)
take_front (e ∷ history) more zero le = refl
take_front (e ∷ history) more (suc k) le = ap (λ (es : List Entry). e ∷ es) (take_front history more k (omega arith))

take_whole : (history : List Entry) (k : ℕ) → length history ≤ k → take k history ≡ history
take_whole [] zero le = refl
take_whole [] (suc k) le = refl
take_whole (e ∷ history) zero le = absurd (omega arith)
take_whole (e ∷ history) (suc k) le = ap (λ (es : List Entry). e ∷ es) (take_whole history k (omega arith))

pub after_push : (s : State) (tapes : List (List ℕ)) (history : List Entry) (e : Entry) → after s tapes (history ++ e ∷ []) ≡ state_after (after s tapes history) tapes e
after_push s tapes [] e = refl
after_push s tapes (x ∷ history) e = after_push (state_after s tapes x) tapes history e

-- ---- moments

pub moment_push : (t0 : ℕ) (history : List Entry) (e : Entry) (k : ℕ) → k ≤ length history → moment_of t0 (history ++ e ∷ []) k ≡ moment_of t0 history k
moment_push t0 [] e zero le = refl
moment_push t0 [] e (suc k) le = absurd (omega arith)
moment_push t0 (x ∷ history) e zero le = refl
moment_push t0 (x ∷ history) e (suc k) le = moment_push x.ack history e k (omega arith)

pub moment_last : (t0 : ℕ) (history : List Entry) (e : Entry) → moment_of t0 (history ++ e ∷ []) (suc (length history)) ≡ e.ack
moment_last t0 [] e = refl
moment_last t0 (x ∷ history) e = moment_last x.ack history e

-- ---- what may be recovered

-- an image recovers a durable part
abbrev pub Recovers : List ℕ → Durable Tagged → Type 0
Recovers image d = recovered_from image ≡ Some d

-- it recovers what the state keeps once what is in doubt has landed
abbrev pub RecoversDoubt : List ℕ → State → Type 0
RecoversDoubt image s = (is_some s.doubt ≡ true) × Recovers image (landed s).kept

-- it recovers what was held after entry k or a later one, or what is in doubt at the end
abbrev pub RecoversFrom : State → List (List ℕ) → List Entry → ℕ → List ℕ → Type 0
RecoversFrom s tapes history k image = ((j : ℕ) × (k ≤ j) × (j ≤ length history) × Recovers image (durable_after s tapes history j)) ⊎ RecoversDoubt image (after s tapes history)

-- as `Held` says it
abbrev pub IsAmong : State → List (List ℕ) → List Entry → ℕ → List ℕ → Type 0
IsAmong s tapes history k image = (j : ℕ) × (k ≤ j) × (recovered_from image ≡ Some (durable_after s tapes (with_landing s tapes history) j))

module _ (s : State) (tapes : List (List ℕ)) (history : List Entry) where
  -- the history, and the landing where there is one
  ended : Bool → List Entry
  ended some = history ++ cond some (landing ∷ []) []

  kept_front : (some : Bool) (j : ℕ) → j ≤ length history → durable_after s tapes (ended some) j ≡ durable_after s tapes history j
  unfolding ended
  kept_front some j le = ap (λ (es : List Entry). (after s tapes es).kept) (take_front history (cond some (landing ∷ []) []) j le)

  kept_landed : (j : ℕ) → length history < j → durable_after s tapes (ended true) j ≡ (landed (after s tapes history)).kept
  unfolding ended
  kept_landed j lt =
      ap (λ (es : List Entry). (after s tapes es).kept) (take_whole (history ++ landing ∷ []) j (omega (arith, lt, length_push history landing)))
      ∙ ap (λ (t : State). t.kept) (after_push s tapes history landing)

  kept_last : (j : ℕ) → length history < j → durable_after s tapes (ended false) j ≡ durable_after s tapes history (length history)
  unfolding ended
  kept_last j lt =
      ap (λ (es : List Entry). (after s tapes es).kept) (take_whole (history ++ []) j (omega (arith, lt, length-append history [])) ∙ none history ∙ sym (take_whole history (length history) (omega arith)))
    where
      none : (es : List Entry) → es ++ [] ≡ es
      none [] = refl
      none (e ∷ es) = ap (λ (rest : List Entry). e ∷ rest) (none es)

  parted_by : (some : Bool) → is_some (after s tapes history).doubt ≡ some → (k : ℕ) (image : List ℕ) → k ≤ length history
      → (j : ℕ) → k ≤ j → Recovers image (durable_after s tapes (ended some) j) → RecoversFrom s tapes history k image
  parted_by some is k image le j low rec = elim (le_or j (length history)) [
    | inl high ↦ inl (j, low, high, rec ∙ ap Some (kept_front some j high))
    | inr past ↦ late some is rec past
  ]
    where
      late : (some : Bool) → is_some (after s tapes history).doubt ≡ some → Recovers image (durable_after s tapes (ended some) j) → length history < j → RecoversFrom s tapes history k image
      late true is rec past = inr (is, rec ∙ ap Some (kept_landed j past))
      late false is rec past = inl (length history, le, omega arith, rec ∙ ap Some (kept_last j past))

  pub parted : (k : ℕ) (image : List ℕ) → k ≤ length history → IsAmong s tapes history k image → RecoversFrom s tapes history k image
  unfolding ended
  parted k image le among = parted_by (is_some (after s tapes history).doubt) refl k image le among.0 among.1 among.2

  joined_by : (some : Bool) → is_some (after s tapes history).doubt ≡ some → (k : ℕ) (image : List ℕ) → k ≤ length history → RecoversFrom s tapes history k image
      → (j : ℕ) × (k ≤ j) × Recovers image (durable_after s tapes (ended some) j)
  joined_by some is k image le (inl at) = (at.0, at.1, at.3 ∙ ap Some (sym (kept_front some at.0 at.2)))
  joined_by true is k image le (inr doubt) = (suc (length history), omega arith, doubt.1 ∙ ap Some (sym (kept_landed (suc (length history)) (omega arith))))
  joined_by false is k image le (inr doubt) = let never : true ≡ false = sym doubt.0 ∙ is in cc

  pub joined : (k : ℕ) (image : List ℕ) → k ≤ length history → RecoversFrom s tapes history k image → IsAmong s tapes history k image
  unfolding ended
  joined k image le from = joined_by (is_some (after s tapes history).doubt) refl k image le from

-- ---- one entry more

-- what the last state keeps
pub kept_end : (s : State) (tapes : List (List ℕ)) (history : List Entry) → durable_after s tapes history (length history) ≡ (after s tapes history).kept
kept_end s tapes history = ap (λ (es : List Entry). (after s tapes es).kept) (take_whole history (length history) (omega arith))

pub kept_push : (s : State) (tapes : List (List ℕ)) (history : List Entry) (e : Entry) (k : ℕ) → k ≤ length history → durable_after s tapes (history ++ e ∷ []) k ≡ durable_after s tapes history k
kept_push s tapes history e k le = ap (λ (es : List Entry). (after s tapes es).kept) (take_front history (e ∷ []) k le)

pub kept_next : (s : State) (tapes : List (List ℕ)) (history : List Entry) (e : Entry) → durable_after s tapes (history ++ e ∷ []) (suc (length history)) ≡ (state_after (after s tapes history) tapes e).kept
kept_next s tapes history e =
    ap (λ (es : List Entry). (after s tapes es).kept) (take_whole (history ++ e ∷ []) (suc (length history)) (omega (arith, length_push history e)))
    ∙ ap (λ (t : State). t.kept) (after_push s tapes history e)
