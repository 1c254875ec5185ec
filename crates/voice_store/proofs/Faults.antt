-- The entries of faults, and the faults that rose.
use Rattle.std.proofs.Common.{◌≡◌, inl, inr, ℕ, ◌+◌, ◌≤◌, List, [], ◌∷◌, ◌++◌, Bool, true, false, cond, refl, sym, ◌∙◌, ap, subst, arith}
use Rattle.std.proofs.lemmas.List.Sums.{sum_by-append}
use Rattle.std.specs.Prelude.{count_by, IfOk, OnErr, Result, Ok, Err}
use Rattle.voice_outside.specs.Counters.{HasRisen}
use Rattle.voice_model.specs.declared.calls.Call.{Call}
use Rattle.voice_model.specs.declared.calls.Reply.{Reply}
use Rattle.voice_model.specs.declared.calls.Entry.{Entry}
use Rattle.voice_store.specs.Stood.{is_fault}
use Rattle.voice_store.specs.Shown.{FaultsCover}
use Rattle.voice_store.specs.Facts.{Adds, AddsLanding, IsFault, entry_of, landing_at}

one_more : (es : List Entry) (e : Entry) → count_by is_fault (es ++ e ∷ []) ≡ count_by is_fault es + cond (is_fault e) 1 0
one_more es e = sum_by-append weight es (e ∷ []) ∙ ap (λ (n : ℕ). count_by is_fault es + n) (alone (weight e))
  where
    weight : Entry → ℕ
    weight x = cond (is_fault x) 1 0

    alone : (n : ℕ) → 0 + n ≡ n
    alone n = omega arith

covers_one : (low high higher : ℕ) (es : List Entry) (e : Entry) → FaultsCover low es high → high ≤ higher → (is_fault e ≡ true → HasRisen high higher) → FaultsCover low (es ++ e ∷ []) higher
covers_one low high higher es e covers later risen less = by_fault (is_fault e) refl
  where
    had : low + count_by is_fault es ≤ high
    had = covers (omega (arith, later, less))

    by_fault : (f : Bool) → is_fault e ≡ f → low + count_by is_fault (es ++ e ∷ []) ≤ higher
    by_fault true is =
        let more = one_more es e ∙ ap (λ (b : Bool). count_by is_fault es + cond b 1 0) is in
        let rises = risen is less in
        omega (arith, had, more, rises)
    by_fault false is =
        let more = one_more es e ∙ ap (λ (b : Bool). count_by is_fault es + cond b 1 0) is in
        omega (arith, had, more, later)

covers_landing : (low high : ℕ) (es : List Entry) (ack : ℕ) → FaultsCover low es high → FaultsCover low (es ++ landing_at ack ∷ []) high
covers_landing low high es ack covers less =
    let had = covers less in
    let more = one_more es (landing_at ack) in
    omega (arith, had, more)

two_more : (es : List Entry) (x y : Entry) → es ++ x ∷ y ∷ [] ≡ (es ++ x ∷ []) ++ y ∷ []
two_more [] x y = refl
two_more (e ∷ es) x y = ap (λ l. e ∷ l) (two_more es x y)

pub covers_call : (low high higher caller : ℕ) (call : Call) (reply : Reply) (ack : ℕ) (old new : List Entry) → Adds caller call reply ack old new → FaultsCover low old high → high ≤ higher
    → (IsFault reply → HasRisen high higher) → FaultsCover low new higher
covers_call low high higher caller call reply ack old new (inl is) covers later risen =
    subst (λ (l : List Entry). FaultsCover low l higher) (sym is) (covers_one low high higher old (entry_of caller call reply ack) covers later risen)
covers_call low high higher caller call reply ack old new (inr landed) covers later risen =
    subst (λ (l : List Entry). FaultsCover low l higher) (sym (landed.1 ∙ two_more old (landing_at landed.0) (entry_of caller call reply ack)))
    (covers_one low high higher (old ++ landing_at landed.0 ∷ []) (entry_of caller call reply ack) (covers_landing low high old landed.0 covers) later risen)

covers_later : (low high higher : ℕ) (es : List Entry) → FaultsCover low es high → high ≤ higher → FaultsCover low es higher
covers_later low high higher es covers later less = let had = covers (omega (arith, later, less)) in omega (arith, had, later)

pub covers_refused : (low high higher : ℕ) (old new : List Entry) → AddsLanding old new → FaultsCover low old high → high ≤ higher → FaultsCover low new higher
covers_refused low high higher old new (inl is) covers later = subst (λ (l : List Entry). FaultsCover low l higher) (sym is) (covers_later low high higher old covers later)
covers_refused low high higher old new (inr landed) covers later =
    subst (λ (l : List Entry). FaultsCover low l higher) (sym landed.1) (covers_later low high higher (old ++ landing_at landed.0 ∷ []) (covers_landing low high old landed.0 covers) later)

-- whatever the answer is
pub covers_answer : (low high higher caller : ℕ) (call : Call) (ack : ℕ) (old new : List Entry) {E : Type 0} (result : Result Reply E)
    → IfOk result (λ reply. Adds caller call reply ack old new) → OnErr result (AddsLanding old new) → IfOk result (λ reply. IsFault reply → HasRisen high higher)
    → FaultsCover low old high → high ≤ higher → FaultsCover low new higher
covers_answer low high higher caller call ack old new (Ok reply) adds err cause covers later = covers_call low high higher caller call reply ack old new adds covers later cause
covers_answer low high higher caller call ack old new (Err e) adds err cause covers later = covers_refused low high higher old new err covers later
