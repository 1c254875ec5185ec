-- Words of contracts on a turnstile and its passes.
use Rattle.std.specs.Prelude.{ℕ, suc, ◌≡◌, ◌<◌, ◌≤◌, true, false, List, [], ◌∷◌, ◌++◌, length, drop, All}
use Rattle.voice_model.specs.declared.calls.Entry.{Entry}
use Rattle.turnstile.specs.Histories.{entries_of}
use Rattle.turnstile.specs.Shown.{ShownTurnstile, ShownPass}
use Rattle.turnstile.specs.Turns.{IsOneTurn, Every, StandsIn, IsOfPasses, Begins}

module _ {T : Type 0} where
  -- the value that the turnstile was made with: contracts have from it the origin of all its values, and the history at the start
  abbrev pub made_with : ShownTurnstile T → T
  made_with t = t.made_with

  -- how many callers it was made for
  abbrev pub callers_of : ShownTurnstile T → ℕ
  callers_of t = t.callers

  -- the history that the pass has seen
  abbrev pub seen : ShownPass T → List Entry
  seen p = p.seen

  -- its caller's entries since the start
  abbrev pub mine : ShownPass T → List Entry
  mine p = p.mine

  -- a pass of this turnstile
  pub record IsOf (t : ShownTurnstile T) (p : ShownPass T) : Type 0 where
    pub turnstile : p.of ≡ t.identity
    pub positive : 0 < p.caller
    pub within : p.caller ≤ t.callers
    pub few : p.caller ≤ 16

  -- it has neither a ticket nor the value
  abbrev pub IsOutside : ShownPass T → Type 0
  IsOutside p = p.entered ≡ false

  -- its caller has the value
  abbrev pub IsEntered : ShownPass T → Type 0
  IsEntered p = p.entered ≡ true

  -- a pass of this number that has seen the history at the start
  abbrev pub IsNew : (T → List Entry) → ShownTurnstile T → ℕ → ShownPass T → Type 0
  IsNew history t by p = IsOf t p × IsOutside p × (p.caller ≡ by) × (seen p ≡ history (made_with t)) × (mine p ≡ [])

  -- new passes, numbered from by on
  abbrev pub AreNewFrom : (T → List Entry) → ShownTurnstile T → ℕ → List (ShownPass T) → Type 0
  AreNewFrom history t by [] = Unit {0}
  AreNewFrom history t by (p ∷ ps) = IsNew history t by p × AreNewFrom history t (suc by) ps

  -- passes of this turnstile, each outside
  abbrev pub AreOf : ShownTurnstile T → List (ShownPass T) → Type 0
  AreOf t passes = All (λ p. IsOf t p × IsOutside p) passes

  -- the same, pass by pass
  abbrev pub EachIsOf : ShownTurnstile T → List (ShownPass T) → Type 0
  EachIsOf t passes = Every (λ p. IsOf t p × IsOutside p) passes

  -- what the passes saw begins the value's history, and what each did is all that the history has of its caller since the start
  abbrev pub AllStandIn : (T → List Entry) → ShownTurnstile T → T → List (ShownPass T) → Type 0
  AllStandIn history t y passes = Every (λ p. StandsIn (history (made_with t)) (history y) p.caller (seen p) (mine p)) passes

module _ {T O : Type 0} where
  -- what the pass has seen was the history of a value that stood, of the turnstile's origin
  abbrev pub HasStood : (T → O) → (T → List Entry) → (T → Type 0) → ShownTurnstile T → ShownPass T → Type 0
  HasStood origin history stands t p = (y : T) × (history y ≡ seen p) × (origin y ≡ origin (made_with t)) × stands y

  -- the value that a turnstile was closed with
  abbrev pub IsLast : (T → O) → (T → List Entry) → (T → Type 0) → ShownTurnstile T → T → Type 0
  IsLast origin history stands t y = (origin y ≡ origin (made_with t)) × stands y × Begins (history (made_with t)) (history y) × Every (IsOfPasses (callers_of t)) (drop (length (history (made_with t))) (history y))

-- a history goes on from the start, and what a caller did is all that it gained of it
abbrev pub IsAllOf : List Entry → List Entry → ℕ → List Entry → Type 0
IsAllOf start log by own = Begins start log × (own ≡ entries_of by (drop (length start) log))

-- one turn of a caller that had seen a history: it gains this number of entries
abbrev pub AddsOneTurn : ℕ → List Entry → List Entry → ℕ → Type 0
AddsOneTurn by before after entries = (new : List Entry) × (after ≡ before ++ new) × (length new ≡ entries) × IsOneTurn by new
