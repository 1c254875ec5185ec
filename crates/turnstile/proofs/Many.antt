-- Lists of passes.
use Rattle.std.proofs.Common.{◌≡◌, ℕ, zero, suc, ◌+◌, ◌<◌, ◌≤◌, List, [], ◌∷◌, ◌++◌, length, All, Option, true≢false, refl, ⊎_elim, sym, ap, ◌∙◌, subst, arith, add-zero, append_assoc}
use Rattle.turnstile.specs.declared.view.Old.{Old}
use Rattle.voice_model.specs.declared.calls.Entry.{Entry}
use Rattle.atomic_table.specs.Table.{Me}
use Rattle.atomic_table.specs.declared.shared.Seat.{Seat}
use Rattle.turnstile.specs.declared.view.View.{View}
use Rattle.turnstile.specs.declared.table.Gate.{Gate}
use Rattle.turnstile.specs.Shown.{Identity, ShownTurnstile, ShownPass}
use Rattle.turnstile.specs.Turns.{Every, StandsIn, has_turn, with_olds}
use Rattle.turnstile.specs.Passes.{AreOf, EachIsOf, IsOf, IsOutside, IsNew, AreNewFrom, AllStandIn}
use Rattle.turnstile.specs.Seats.{StandsOutside, HasEntered, IsAtRest, shown_pass, old_pass, gathered}
use Rattle.turnstile.specs.Gates.{IsSeatOf, IsLead, shown_turnstile}

pub every_front : {X : Type 0} (P : X → Type 0) (xs : List X) (y : X) → Every P (xs ++ y ∷ []) → Every P xs × P y
every_front P [] y h = (tt, h.0)
every_front P (x ∷ xs) y h = let r = every_front P xs y h.1 in ((h.0, r.0), r.1)

pub every_snoc : {X : Type 0} (P : X → Type 0) (xs : List X) (y : X) → Every P xs → P y → Every P (xs ++ y ∷ [])
every_snoc P [] y h k = (k, tt)
every_snoc P (x ∷ xs) y h k = (h.0, every_snoc P xs y h.1 k)

-- what holds of each, said by recursion and by place
pub all_of_every : {X : Type 0} (P : X → Type 0) (xs : List X) → Every P xs → All P xs
all_of_every P [] h k d low = absurd (omega arith)
all_of_every P (x ∷ xs) h zero d low = h.0
all_of_every P (x ∷ xs) h (suc k) d low = all_of_every P xs h.1 k d (omega arith)

pub every_of_all : {X : Type 0} (P : X → Type 0) (xs : List X) → All P xs → Every P xs
every_of_all P [] h = tt
every_of_all P (x ∷ xs) h = let first : zero < length (x ∷ xs) = omega arith in (h zero x first, every_of_all P xs (λ k d low. let there : suc k < length (x ∷ xs) = omega arith in h (suc k) d there))

every_back : {X : Type 0} (P : X → Type 0) (xs ys : List X) → Every P (xs ++ ys) → Every P ys
every_back P [] ys h = h
every_back P (x ∷ xs) ys h = every_back P xs ys h.1

-- one more was joined
pub joined_more : {X : Type 0} (all front rest joined : List X) (x : X) → all ≡ front ++ joined → front ≡ rest ++ x ∷ [] → all ≡ rest ++ (x ∷ joined)
joined_more all front rest joined x is split = is ∙ ap (λ l. l ++ joined) split ∙ append_assoc rest (x ∷ []) joined

pub joined_all : {X : Type 0} (all front joined : List X) → all ≡ front ++ joined → front ≡ [] → all ≡ joined
joined_all all front joined is none = is ∙ ap (λ l. l ++ joined) none

module _ {T : Type 0} where
  new_more : (history : T → List Entry) (t : ShownTurnstile T) (by n : ℕ) (xs : List (ShownPass T)) (p : ShownPass T) → AreNewFrom history t by xs → IsNew history t n p → by + length xs ≡ n → AreNewFrom history t by (xs ++ p ∷ [])
  new_more history t by n [] p h k e = (subst (λ (m : ℕ). IsNew history t m p) (let f : n ≡ by = sym e ∙ add-zero by in f) k, tt)
  new_more history t by n (x ∷ xs) p h k e = (h.0, new_more history t (suc by) n xs p h.1 k (let f : by + suc (length xs) ≡ n = e in omega arith))

  pub new_put : (history : T → List Entry) (t : ShownTurnstile T) (by n : ℕ) (xs after : List (ShownPass T)) (p : ShownPass T) → after ≡ xs ++ p ∷ [] → AreNewFrom history t by xs → IsNew history t n p → by + length xs ≡ n → AreNewFrom history t by after
  new_put history t by n xs after p put h k e = subst (AreNewFrom history t by) (sym put) (new_more history t by n xs p h k e)

  -- new passes are passes of the turnstile
  new_is_of : (history : T → List Entry) (t : ShownTurnstile T) (by : ℕ) (ps : List (ShownPass T)) → AreNewFrom history t by ps → EachIsOf t ps
  new_is_of history t by [] h = tt
  new_is_of history t by (p ∷ ps) h = ((h.0.0, h.0.1), new_is_of history t (suc by) ps h.1)

  news_are_of : (history : T → List Entry) (t : ShownTurnstile T) (by : ℕ) (ps : List (ShownPass T)) → AreNewFrom history t by ps → AreOf t ps
  news_are_of history t by ps h = all_of_every (λ p. IsOf t p × IsOutside p) ps (new_is_of history t by ps h)

  pub put_first : (history : T → List Entry) (t : ShownTurnstile T) (xs after : List (ShownPass T)) (p q : ShownPass T) → after ≡ p ∷ xs → p ≡ q → IsNew history t 1 q → AreNewFrom history t 2 xs → AreOf t after
  put_first history t xs after p q put is new h = news_are_of history t 1 after (subst (AreNewFrom history t 1) (sym put) (subst (IsNew history t 1) (sym is) new, h))

  pub each_of : (t : ShownTurnstile T) (ps rest : List (ShownPass T)) (lead : ShownPass T) → AreOf t ps → ps ≡ rest ++ lead ∷ [] → EachIsOf t rest × IsOf t lead × IsOutside lead
  each_of t ps rest lead h e =
      let r = every_front (λ p. IsOf t p × IsOutside p) rest lead (every_of_all (λ p. IsOf t p × IsOutside p) (rest ++ lead ∷ []) (subst (AreOf t) e h)) in
      (r.0, r.1.0, r.1.1)

  pub gathered_all : (P : Old → Type 0) (base : List Old) (ps : List (ShownPass T)) → Every P (gathered base ps) → Every (λ p. P (old_pass p)) ps
  gathered_all P base [] h = tt
  gathered_all P base (p ∷ ps) h = (h.0, gathered_all P base ps h.1)

  pub gathered_long : (base : List Old) (ps : List (ShownPass T)) → length ps ≤ length (gathered base ps)
  gathered_long base [] = omega arith
  gathered_long base (p ∷ ps) = let a = gathered_long base ps in omega arith

  pub met_after : (v : View T) (m n : Me (Option T) (View T)) (p : ShownPass T) (xs : List Old) → m ≡ (with_olds xs v, []) → n ≡ (with_olds (old_pass p ∷ m.0.olds) m.0, []) → n ≡ (with_olds (old_pass p ∷ xs) v, [])
  met_after v m n p xs e f = f ∙ ap (λ (m : Me (Option T) (View T)). (with_olds (old_pass p ∷ m.0.olds) m.0, [])) e

  pub met_all : (v : View T) (m : Me (Option T) (View T)) (base : List Old) (joined all : List (ShownPass T)) → m ≡ (with_olds (gathered base joined) v, []) → all ≡ joined → m ≡ (with_olds (gathered base all) v, [])
  met_all v m base joined all h is = h ∙ ap (λ (l : List (ShownPass T)). (with_olds (gathered base l) v, [])) (sym is)

  -- the last of the passes stands in the history too
  pub all_stand : (history : T → List Entry) (t : ShownTurnstile T) (y : T) (all rest : List (ShownPass T)) (lead : ShownPass T) → all ≡ rest ++ lead ∷ [] → AllStandIn history t y rest → StandsIn (history t.made_with) (history y) lead.caller lead.seen lead.mine → AllStandIn history t y all
  all_stand history t y all rest lead split h own =
      let P : ShownPass T → Type 0 = λ p. StandsIn (history t.made_with) (history y) p.caller p.seen p.mine in
      subst (Every P) (sym split) (every_snoc P rest lead h own)

  pub olds_after : (m : Me (Option T) (View T)) (v : View T) (xs : List Old) → m ≡ (with_olds xs v, []) → (m.0.olds ≡ xs) × (m.0.seen ≡ v.seen) × (m.0.mine ≡ v.mine) × (m.0.caller ≡ v.caller)
  olds_after m v xs e = (ap (λ (m : Me (Option T) (View T)). m.0.olds) e, ap (λ (m : Me (Option T) (View T)). m.0.seen) e, ap (λ (m : Me (Option T) (View T)). m.0.mine) e, ap (λ (m : Me (Option T) (View T)). m.0.caller) e)

module _ {T O : Type 0} where
  -- the seat of a pass of this turnstile
  pub seat_of_pass : (g : Gate T O) (by : ℕ) (s : Seat (Option T) (View T)) (p : ShownPass T) → shown_pass by s ≡ p → IsOf (shown_turnstile g) p → IsSeatOf g s
  seat_of_pass g by s p e h = record {
    table = ap (λ (q : ShownPass T). q.of.table) e ∙ ap (λ (i : Identity T). i.table) h.turnstile;
    start = ap (λ (q : ShownPass T). q.of.start) e ∙ ap (λ (i : Identity T). i.start) h.turnstile;
  }

  -- the first seat's pass is new
  pub lead_is_new : (history : T → List Entry) (g : Gate T O) (made : ℕ) (s : Seat (Option T) (View T)) → IsLead history g made s → 0 < g.table.shared.key.callers → IsNew history (shown_turnstile g) 1 (shown_pass 1 s)
  lead_is_new history g made s l some = (
    record { turnstile = (λ i. record { table = l.of.table i; start = l.of.start i }); positive = omega arith; within = some; few = omega arith },
    ap has_turn l.outside.0,
    refl,
    l.seen,
    l.mine,
  )

-- the seat of a pass that is outside has no slot
pub seat_outside : {T : Type 0} (by : ℕ) (s : Seat (Option T) (View T)) (p : ShownPass T) → shown_pass by s ≡ p → IsAtRest by s → IsOutside p → StandsOutside s
seat_outside {T} by s p e h out =
    ⊎_elim
    (λ (o : StandsOutside s). o)
    (λ (x : HasEntered s). absurd (true≢false (sym (ap has_turn x.0) ∙ (ap (λ (q : ShownPass T). q.entered) e ∙ out))))
    h.rests

-- a seat that took others in is as before
pub lead_after : {T O : Type 0} (g : Gate T O) (p q : Seat (Option T) (View T)) (xs : List Old) → q.table_id ≡ p.table_id → q.me ≡ (with_olds xs p.me.0, []) → IsSeatOf g p × StandsOutside p → IsSeatOf g q × StandsOutside q
lead_after {T} {O} g p q xs a e h = (
  record { table = a ∙ h.0.table; start = ap (λ (m : Me (Option T) (View T)). m.0.base) e ∙ h.0.start },
  (ap (λ (m : Me (Option T) (View T)). m.0.stage) e ∙ h.1.0, ap (λ (m : Me (Option T) (View T)). m.1) e),
)
