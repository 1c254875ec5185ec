-- The turn rule, and what each kind of step tells.
use Rattle.std.specs.Prelude.{ℕ, suc, ◌≡◌, ◌≢◌, ◌==◌, ◌+◌, ◌%◌, ◌<◌, ◌≤◌, ◌⊎◌, Bool, true, false, List, [], ◌∷◌, ◌++◌, length, drop, sum_by, Option, Some, None, IfSome, MatchBool}
use mathlib.Core.Option.{Option as Home, some, none}
use lib.ListN.{get_elem?}
use Rattle.std.specs.declared.snapshot.Snapshot.{Snapshot}
use Rattle.atomic_table.specs.Table.{State, Me}
use Rattle.voice_model.specs.declared.calls.Entry.{Entry}
use Rattle.turnstile.specs.Histories.{entries_of, IsLanded}
use Rattle.turnstile.specs.declared.view.Stage.{Stage}
use Rattle.turnstile.specs.declared.view.Stage.TheVariants.{Outside, Waiting, Entered, Told, Spent}
use Rattle.turnstile.specs.declared.view.Old.{Old}
use Rattle.turnstile.specs.declared.view.View.{View}
use Rattle.turnstile.specs.declared.view.Start.{Start}

-- tickets and the told number are counted modulo 2^64
abbrev pub wrapped : ℕ → ℕ
wrapped n = n % 18446744073709551616

-- the pass has a ticket
abbrev pub has_ticket : Stage → Bool
has_ticket Outside = false
has_ticket Waiting = true
has_ticket Entered = true
has_ticket Told = true
has_ticket Spent = false

-- the pass has the turn
abbrev pub has_turn : Stage → Bool
has_turn Outside = false
has_turn Waiting = false
has_turn Entered = true
has_turn Told = true
has_turn Spent = false

-- the view is what a joined seat is left with
abbrev pub is_spent : Stage → Bool
is_spent Outside = false
is_spent Waiting = false
is_spent Entered = false
is_spent Told = false
is_spent Spent = true

-- one for true, to count with
abbrev pub bit : Bool → ℕ
bit true = 1
bit false = 0

-- xs begins ys
abbrev pub Begins : List Entry → List Entry → Type 0
Begins xs ys = (more : List Entry) × (ys ≡ xs ++ more)

-- P holds of each
abbrev pub Every : {X : Type 0} → (X → Type 0) → List X → Type 0
Every P [] = Unit {0}
Every P (x ∷ xs) = P x × Every P xs

-- an entry that one of these callers, or nobody, made
abbrev pub IsOfPasses : ℕ → Entry → Type 0
IsOfPasses callers e = IsLanded e ⊎ ((0 < e.caller) × (e.caller ≤ callers))

-- what one turn of a caller may add: nothing, a Landed, an entry of the caller, or both in this order
abbrev pub IsOneTurn : ℕ → List Entry → Type 0
IsOneTurn by [] = Unit {0}
IsOneTurn by (e ∷ []) = IsLanded e ⊎ (e.caller ≡ by)
IsOneTurn by (e ∷ d ∷ []) = IsLanded e × (d.caller ≡ by)
IsOneTurn by (e ∷ d ∷ c ∷ es) = ⊥

-- what a caller saw begins the history, and what it did is all that the history has of it since the start
abbrev pub StandsIn : List Entry → List Entry → ℕ → List Entry → List Entry → Type 0
StandsIn start log caller seen mine = Begins seen log × (mine ≡ entries_of caller (drop (length start) log))

module _ {T : Type 0} where
  -- the view that a joined seat is left with
  abbrev pub spent_view : View T
  spent_view = record { base = None; caller = 0; stage = Spent; ticket = 0; seen = []; mine = []; made = 0; olds = [] }

  -- the view of the first pass, at the start
  abbrev pub first_view : (T → List Entry) → Start T → View T
  first_view history k = record { base = Some k.base; caller = 1; stage = Outside; ticket = 0; seen = history k.base.value; mine = []; made = 1; olds = [] }

  -- the first pass's view after it split off one more
  abbrev pub one_more : View T → View T
  one_more v = record v { made = suc v.made }

  -- the view of the pass that was split off
  abbrev pub newcomer : View T → View T
  newcomer v = record { base = v.base; caller = suc v.made; stage = Outside; ticket = 0; seen = v.seen; mine = []; made = 0; olds = [] }

  -- what is kept of a joined view
  abbrev pub old_of : View T → Old
  old_of w = record { caller = w.caller; seen = w.seen; mine = w.mine }

  -- the view of a pass that took in another, with what that one had taken in
  abbrev pub met : View T → View T → View T
  met v w = record v { olds = old_of w ∷ (w.olds ++ v.olds) }

  -- the view with these joined ones
  abbrev pub with_olds : List Old → View T → View T
  with_olds xs v = record v { olds = xs }

  -- the view with a ticket
  abbrev pub with_ticket : ℕ → View T → View T
  with_ticket t v = record v { stage = Waiting; ticket = t }

  -- the view with the turn, at a value of this history
  abbrev pub with_turn : List Entry → View T → View T
  with_turn log v = record v { stage = Entered; seen = log }

  -- the view after its turn's entries were told: it gains those of its caller
  abbrev pub with_told : List Entry → View T → View T
  with_told log v = record v { stage = Told; seen = log; mine = v.mine ++ entries_of v.caller (drop (length v.seen) log) }

  -- the view without a ticket
  abbrev pub with_none : View T → View T
  with_none v = record v { stage = Outside }

  -- what a draw tells: the ticket's number
  abbrev pub Drawn : Me (Option T) (View T) → ℕ → Me (Option T) (View T) → Type 0
  Drawn m n r = (t : ℕ) × (n ≡ wrapped t) × (r ≡ (with_ticket t m.0, m.1))

  -- what a tell does: the slot goes home with its value
  abbrev pub Tells : (T → List Entry) → Me (Option T) (View T) → Me (Option T) (View T) → Type 0
  Tells history m r = (y : T) → m.1 ≡ (0, Some y) ∷ [] → r ≡ (with_told (history y) m.0, [])

  -- what a leave does
  abbrev pub Leaves : Me (Option T) (View T) → Me (Option T) (View T) → Type 0
  Leaves m r = r ≡ (with_none m.0, m.1)

  -- what a knock does: nothing
  abbrev pub Stays : Me (Option T) (View T) → Me (Option T) (View T) → Type 0
  Stays m r = r ≡ m

  -- how many views have a ticket
  abbrev pub tickets : List (View T) → ℕ
  tickets views = sum_by (λ v. bit (has_ticket v.stage)) views

  -- how many views are spent
  abbrev pub spents : List (View T) → ℕ
  spents views = sum_by (λ v. bit (is_spent v.stage)) views

  -- how many joined views are kept
  abbrev pub olds_of : List (View T) → ℕ
  olds_of views = sum_by (λ v. length v.olds) views

  -- P holds of each view, at its number
  abbrev pub Each : (ℕ → View T → Type 0) → List (View T) → Type 0
  Each P views = (i : ℕ) (v : View T) → get_elem? views i ≡ some v → P i v

  -- no two views have one ticket
  abbrev pub Apart : List (View T) → Type 0
  Apart views = (i j : ℕ) (v u : View T) → get_elem? views i ≡ some v → get_elem? views j ≡ some u → has_ticket v.stage ≡ true → has_ticket u.stage ≡ true → v.ticket ≡ u.ticket → i ≡ j

-- what is told beside the views: the entries since the start, the unbounded numbers behind the ticket words, and the passes that were made
pub record Count : Type 0 where
  pub news : List Entry
  pub served : ℕ
  pub drawn : ℕ
  pub passes : ℕ

module _ {T : Type 0} where
  -- what a joined view had. log is the history told so far, news its part since the start
  pub record FitsOld (log news : List Entry) (views : List (View T)) (o : Old) : Type 0 where
    pub seen : Begins o.seen log
    pub mine : o.mine ≡ entries_of o.caller news
    pub spent : (j : ℕ) × (o.caller ≡ suc j) × (get_elem? views j ≡ some spent_view)

  -- what the view i knows
  pub record Knows (born : Snapshot T) (log news : List Entry) (passes i : ℕ) (v : View T) : Type 0 where
    pub base : v.base ≡ Some born
    pub caller : v.caller ≡ suc i
    pub made : (v.made ≡ 0) ⊎ ((i ≡ 0) × (v.made ≡ passes))
    pub seen : Begins v.seen log
    pub mine : v.mine ≡ entries_of v.caller news

  -- its place in the queue
  pub record Queues (log : List Entry) (served drawn : ℕ) (v : View T) : Type 0 where
    pub ticket : has_ticket v.stage ≡ true → (served ≤ v.ticket) × (v.ticket < drawn)
    pub turn : has_turn v.stage ≡ true → (v.ticket ≡ served) × (v.seen ≡ log)

  -- a view is spent, or knows what it should and has its place
  abbrev pub Fits : Snapshot T → List Entry → Count → ℕ → View T → Type 0
  Fits base log c i v = (v ≡ spent_view) ⊎ (Knows base log c.news c.passes i v × Queues log c.served c.drawn v)

module _ {T : Type 0} where
  -- the history goes on from the start, and the view has all that it gained of its caller
  abbrev pub OwnsAll : List Entry → View T → List Entry → Type 0
  OwnsAll start v log = Begins start log × (v.mine ≡ entries_of v.caller (drop (length start) log))

module _ {T O : Type 0} (origin : T → O) (history : T → List Entry) (stands : T → Type 0) where
  -- the turn was had, and the value taken; or it was not
  abbrev pub Looked : Me (Option T) (View T) → ℕ → Me (Option T) (View T) → Type 0
  Looked m n r =
      MatchBool (n == wrapped m.0.ticket)
      ((y : T) × (r ≡ (with_turn (history y) m.0, (0, Some y) ∷ m.1)) × stands y × Begins m.0.seen (history y) × IfSome m.0.base (λ b. (origin y ≡ origin b.value) × OwnsAll (history b.value) m.0 (history y)))
      (r ≡ m)

  -- the same, at a view of a known start
  abbrev pub HasTurn : T → View T → Me (Option T) (View T) → Type 0
  HasTurn made v r = (y : T) × (r ≡ (with_turn (history y) v, (0, Some y) ∷ [])) × stands y × Begins v.seen (history y) × (origin y ≡ origin made) × OwnsAll (history made) v (history y)

  -- a value between turns
  abbrev pub Rests : Snapshot T → List Entry → T → Type 0
  Rests base log y = (history y ≡ log) × (origin y ≡ origin base.value) × stands y

  -- the value is at home, or a pass has it
  abbrev pub Lies : Snapshot T → List Entry → List (Home (Option T)) → List (View T) → Type 0
  Lies base log homes views =
      ((y : T) × (homes ≡ some (Some y) ∷ []) × Rests base log y × Each (λ i v. v.stage ≢ Entered) views)
      ⊎ ((homes ≡ none ∷ []) × ((i : ℕ) × (v : View T) × (get_elem? views i ≡ some v) × (v.stage ≡ Entered)))

  -- the turn rule: what the first three words, the slot and the views have to do with one another; of the doors behind them it says nothing
  pub record Kept (k : Start T) (s : State (Option T) (View T)) : Type 0 where
    pub count : Count
    pub few : k.callers ≤ 16
    pub doors : List ℕ
    pub words : s.words ≡ wrapped count.drawn ∷ wrapped count.served ∷ wrapped (length count.news) ∷ doors
    pub queue : count.served + tickets s.views ≡ count.drawn
    pub passes : (length s.views ≡ count.passes) × (count.passes ≤ k.callers)
    pub joined : olds_of s.views ≡ spents s.views
    pub callers : Every (IsOfPasses count.passes) count.news
    pub views : Each (Fits k.base (history k.base.value ++ count.news) count) s.views
    pub olds : Each (λ i v. Every (FitsOld (history k.base.value ++ count.news) count.news s.views) v.olds) s.views
    pub apart : Apart s.views
    pub lies : Lies k.base (history k.base.value ++ count.news) s.homes s.views
