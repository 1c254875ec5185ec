use Rattle.std.proofs.Common.{◌≡◌, ◌∙◌, ◌≤◌, ◌<◌, ℕ, Option, Some, None, true, false, refl, sym, arith}
use Rattle.std.specs.Prelude.{MatchOption}
use Rattle.std.proofs.lemmas.Bool.{lt-ltb, le-ltb}
use Rattle.voice_journal.proofs.Choosing.{first_wins, second_wins, nobody, equal_epochs, second_older, first_older, second_other, first_other, epoch_some}
use Rattle.voice_journal.proofs.heads.choose.Goals as goal

none_is : (o : Option ℕ) (P : Type 0) (Q : ℕ → Type 0) → o ≡ None → MatchOption o P Q → P
none_is None P Q e m = m
none_is (Some x) P Q e m = cc

differ : {P : Type 0} → true ≡ false → P
differ e = cc

pub returns-then-a-b-clause-current : goal.returns-then-a-b-clause-current
returns-then-a-b-clause-current c =
    λ shape image heads.
    let a = c.in-Some-Some.ensures.value in
    let b = c.in-Some-Some.ensures'.value in
    equal_epochs shape c.args.first.now c.args.second.now image heads a.0 b.0 (sym a.1 ∙ c.if-a-b.true ∙ b.1)

pub returns-then-newer-clause-current : goal.returns-then-newer-clause-current
returns-then-newer-clause-current c =
    λ shape image heads.
    let a = c.in-Some-Some.ensures.value in
    let b = c.in-Some-Some.ensures'.value in
    second_wins shape c.args.first.now c.args.second.now image heads _ c.in-Some-Some.b (lt-ltb _ _ c.if-newer.true) b.0 b.1 (λ k. let e = a.1 in omega (arith, e, c.if-newer.true))

pub returns-then-newer-clause-other : goal.returns-then-newer-clause-other
returns-then-newer-clause-other c =
    λ shape image heads.
    let a = c.in-Some-Some.ensures.value in
    first_older shape c.args.first.now c.args.second.now image heads _ c.in-Some-Some.b (lt-ltb _ _ c.if-newer.true) (let e = a.1 in omega (arith, e, c.if-newer.true))

pub returns-else-newer-clause-current : goal.returns-else-newer-clause-current
returns-else-newer-clause-current c =
    λ shape image heads.
    let a = c.in-Some-Some.ensures.value in
    let b = c.in-Some-Some.ensures'.value in
    first_wins shape c.args.first.now c.args.second.now image heads _ c.in-Some-Some.a (le-ltb _ _ c.if-newer.false) a.0 a.1 (λ k. let e = b.1 in less _ _ _ e c.if-newer.false c.if-a-b.false)
  where
    less : (x a b : ℕ) → b ≡ x → b ≤ a → (a ≡ b → ⊥) → x < a
    less x a b e le ne = omega (arith, ne)

pub returns-else-newer-clause-other : goal.returns-else-newer-clause-other
returns-else-newer-clause-other c =
    λ shape image heads.
    let b = c.in-Some-Some.ensures'.value in
    second_older shape c.args.first.now c.args.second.now image heads _ c.in-Some-Some.a (le-ltb _ _ c.if-newer.false) (let e = b.1 in less _ _ _ e c.if-newer.false c.if-a-b.false)
  where
    less : (x a b : ℕ) → b ≡ x → b ≤ a → (a ≡ b → ⊥) → x < a
    less x a b e le ne = omega (arith, ne)

pub returns-in-Some-None-clause-current : goal.returns-in-Some-None-clause-current
returns-in-Some-None-clause-current c =
    λ shape image heads.
    let a = c.in-Some-None.ensures.value in
    first_wins shape c.args.first.now c.args.second.now image heads _ c.in-Some-None.a refl a.0 a.1 (λ k. differ (sym k ∙ c.in-Some-None.ensures'.value))

pub returns-in-Some-None-clause-other : goal.returns-in-Some-None-clause-other
returns-in-Some-None-clause-other c =
    λ shape image heads.
    let a = c.in-Some-None.ensures.value in
    second_other shape c.args.first.now c.args.second.now image heads c.in-Some-None.a c.in-Some-None.ensures'.value (epoch_some _ _ a.0 a.1)

pub returns-in-None-Some-clause-current : goal.returns-in-None-Some-clause-current
returns-in-None-Some-clause-current c =
    λ shape image heads.
    let b = c.in-None-Some.ensures.value in
    second_wins shape c.args.first.now c.args.second.now image heads _ c.in-None-Some.b refl b.0 b.1 (λ k. differ (sym k ∙ none_is _ _ _ c.in-None-Some.is-0 c.head_epoch.ensures.value))

pub returns-in-None-Some-clause-other : goal.returns-in-None-Some-clause-other
returns-in-None-Some-clause-other c =
    λ shape image heads.
    let b = c.in-None-Some.ensures.value in
    first_other shape c.args.first.now c.args.second.now image heads c.in-None-Some.b (none_is _ _ _ c.in-None-Some.is-0 c.head_epoch.ensures.value) (epoch_some _ _ b.0 b.1)

pub returns-in-None-None-clause-current : goal.returns-in-None-None-clause-current
returns-in-None-None-clause-current c =
    λ shape image heads. nobody shape c.args.first.now c.args.second.now image heads (none_is _ _ _ c.in-None-None.is-0 c.head_epoch.ensures.value) (none_is _ _ _ c.in-None-None.is-1 c.head_epoch-2.ensures.value)
