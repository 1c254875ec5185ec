-- Durable parts without the classes of lost rows: what calls make of them, and what changes do to them.
use Rattle.std.proofs.Common.{◌≡◌, ℕ, ◌+◌, ◌==◌, Bool, true, false, cond, not, ◌&&◌, ◌||◌, List, [], ◌∷◌, ◌++◌, map, length, Option, Some, None, refl, sym, ◌∙◌, ap, ap₂, subst}
use Rattle.std.specs.Prelude.{filter, take, nat_le, is_some, IsTrue, ◌≤◌}
use Rattle.voice_units.specs.declared.shapes.Graces.{Graces}
use Rattle.voice_units.specs.Layout.{IsOneGrace}
use Rattle.voice_units.specs.Spots.{slice, replaced}
use Rattle.voice_model.specs.Samples.{Tagged, pieces_in}
use Rattle.voice_model.specs.State.{State, Durable, Live, Effect, settled, has_row, among, class_number, rope_at, is_live, samples_of, samples_or_none, joined, first_unknown}
use Rattle.voice_model.specs.State.Effect.{Recorded, Edited, Retained, Forgotten, Counted, Swept, Advanced}
use Rattle.voice_model.specs.Changes.{changed, effect_of, is_expired, wait_of, expired_rows, swept_ropes, if_any}
use Rattle.voice_model.specs.Step.{conditions, if_unknown, if_outside, if_long, if_many, if_spent}
use Rattle.voice_model.specs.Valid.{IsFit, IsRow, IsNextRope}
use Rattle.voice_model.specs.declared.calls.Row.{Row}
use Rattle.voice_model.specs.declared.calls.Call.{Call}
use Rattle.voice_model.specs.declared.calls.Call.TheVariants as calls
use Rattle.recovery.proofs.Ropes.{cons_same}
use Rattle.edits.specs.Shown.{before_journal}
use Rattle.row_calls.specs.Asked.{is_row_call}
use Rattle.mirror_sender.specs.Told.{unlasted, plainly}
use Rattle.mirror_sender.specs.Coming.{is_edit}

-- ---- changes

append_plainly : {A : Type 0} (xs ys : List (Live A)) → map unlasted (xs ++ ys) ≡ map unlasted xs ++ map unlasted ys
append_plainly [] ys = refl
append_plainly (x ∷ xs) ys = ap (λ l. unlasted x ∷ l) (append_plainly xs ys)

twice_plainly : {A : Type 0} (xs : List (Live A)) → map unlasted (map unlasted xs) ≡ map unlasted xs
twice_plainly [] = refl
twice_plainly (x ∷ xs) = ap (λ l. unlasted x ∷ l) (twice_plainly xs)

one_more : {A : Type 0} (xs : List (Live A)) (x : Live A) → map unlasted (xs ++ x ∷ []) ≡ map unlasted (map unlasted xs ++ x ∷ [])
one_more xs x = append_plainly xs (x ∷ []) ∙ ap (λ l. l ++ unlasted x ∷ []) (sym (twice_plainly xs)) ∙ sym (append_plainly (map unlasted xs) (x ∷ []))

settled_once : {A : Type 0} (form now class : ℕ) (b : Bool) (rope : Live A) → unlasted (cond b (record rope { idle = now; last = cond (form == 2) class rope.last }) rope) ≡ unlasted (cond b (record (unlasted rope) { idle = now; last = cond (1 == 2) class 0 }) (unlasted rope))
settled_once form now class true rope = refl
settled_once form now class false rope = refl

settled_plainly : {A : Type 0} (form now class : ℕ) (before after : List Row) (ropes : List (Live A)) → map unlasted (map (settled form now class before after) ropes) ≡ map unlasted (map (settled 1 now class before after) (map unlasted ropes))
settled_plainly form now class before after [] = refl
settled_plainly form now class before after (rope ∷ ropes) =
    cons_same (settled_once form now class (has_row before rope.id && not (has_row after rope.id)) rope) (settled_plainly form now class before after ropes)

kept_once : {A : Type 0} (b : Bool) (rope : Live A) (ropes : List (Live A)) → map unlasted (cond b (rope ∷ ropes) ropes) ≡ cond b (unlasted rope ∷ map unlasted ropes) (map unlasted ropes)
kept_once true rope ropes = refl
kept_once false rope ropes = refl

left_plainly : {A : Type 0} (gone : List ℕ) (ropes : List (Live A)) → map unlasted (filter (λ rope. not (among gone rope.id)) ropes) ≡ filter (λ rope. not (among gone rope.id)) (map unlasted ropes)
left_plainly gone [] = refl
left_plainly gone (rope ∷ ropes) =
    kept_once (not (among gone rope.id)) rope (filter (λ rope. not (among gone rope.id)) ropes)
    ∙ ap (λ l. cond (not (among gone rope.id)) (unlasted rope ∷ l) l) (left_plainly gone ropes)

pub plainly_changed : {A : Type 0} (form : ℕ) (d : Durable A) (e : Effect A) → plainly (changed form d e) ≡ plainly (changed 1 (plainly d) e)
plainly_changed form d (Recorded id samples) = ap (λ l. record d { ropes = l; next = id + 1 }) (one_more d.ropes _)
plainly_changed form d (Edited id samples) = ap (λ l. record d { ropes = l; next = id + 1 }) (one_more d.ropes _)
plainly_changed form d (Retained row) = ap (λ l. record (changed form d (Retained row)) { ropes = l }) (sym (twice_plainly d.ropes))
plainly_changed form d (Forgotten class key) = ap (λ l. record (changed form d (Forgotten class key)) { ropes = l }) (settled_plainly form d.moment (class_number class) d.rows _ d.ropes)
plainly_changed form d (Counted keys) = ap (λ l. record (changed form d (Counted keys)) { ropes = l }) (settled_plainly form d.moment 3 d.rows _ d.ropes)
plainly_changed form d (Swept ids) =
    ap (λ l. record (changed form d (Swept ids)) { ropes = l })
    (left_plainly ids _ ∙ ap (λ l. filter (λ rope. not (among ids rope.id)) l) (settled_plainly form d.moment 2 d.rows _ d.ropes) ∙ sym (left_plainly ids _))
plainly_changed form d (Advanced moment) = ap (λ l. record (changed form d (Advanced moment)) { ropes = l }) (sym (twice_plainly d.ropes))

-- ---- ropes by number

abbrev plain_found : {A : Type 0} → Option (Live A) → Option (Live A)
plain_found None = None
plain_found (Some rope) = Some (unlasted rope)

found_one : {A : Type 0} (b : Bool) (rope : Live A) (o q : Option (Live A)) → o ≡ plain_found q → cond b (Some (unlasted rope)) o ≡ plain_found (cond b (Some rope) q)
found_one true rope o q e = refl
found_one false rope o q e = e

rope_plainly : {A : Type 0} (ropes : List (Live A)) (id : ℕ) → rope_at (map unlasted ropes) id ≡ plain_found (rope_at ropes id)
rope_plainly [] id = refl
rope_plainly (rope ∷ ropes) id = found_one (rope.id == id) rope (rope_at (map unlasted ropes) id) (rope_at ropes id) (rope_plainly ropes id)

found_some : {A : Type 0} (o : Option (Live A)) → is_some (plain_found o) ≡ is_some o
found_some None = refl
found_some (Some rope) = refl

found_samples : {A : Type 0} (o : Option (Live A)) → samples_or_none (plain_found o) ≡ samples_or_none o
found_samples None = refl
found_samples (Some rope) = refl

live_plainly : {A : Type 0} (ropes : List (Live A)) (id : ℕ) → is_live (map unlasted ropes) id ≡ is_live ropes id
live_plainly ropes id = ap is_some (rope_plainly ropes id) ∙ found_some (rope_at ropes id)

samples_plainly : {A : Type 0} (ropes : List (Live A)) (id : ℕ) → samples_of (map unlasted ropes) id ≡ samples_of ropes id
samples_plainly ropes id = ap samples_or_none (rope_plainly ropes id) ∙ found_samples (rope_at ropes id)

joined_plainly : {A : Type 0} (ropes : List (Live A)) (ids : List ℕ) → joined (map unlasted ropes) ids ≡ joined ropes ids
joined_plainly ropes [] = refl
joined_plainly ropes (id ∷ ids) = ap₂ (λ xs ys. xs ++ ys) (samples_plainly ropes id) (joined_plainly ropes ids)

unknown_plainly : {A : Type 0} (ropes : List (Live A)) (ids : List ℕ) → first_unknown (map unlasted ropes) ids ≡ first_unknown ropes ids
unknown_plainly ropes [] = refl
unknown_plainly ropes (id ∷ ids) = ap₂ (λ b o. cond b o (Some id)) (live_plainly ropes id) (unknown_plainly ropes ids)

-- ---- sweeps, where one grace holds for all classes

wait_one : (graces : Graces) (last : ℕ) → IsOneGrace graces → wait_of graces last ≡ graces.common
wait_one graces last one = by (last == 1) (last == 2) (last == 3)
  where
    by : (a b c : Bool) → cond a graces.held (cond b graces.until (cond c graces.listed graces.common)) ≡ graces.common
    by true b c = one.held
    by false true c = one.until
    by false false true = one.listed
    by false false false = refl

abbrev left_rows : ℕ → List Row → List Row
left_rows now rows = filter (λ row. not (is_expired now row)) rows

module _ {A : Type 0} (form : ℕ) (d : Durable A) (one : IsOneGrace d.shape.graces) where
  abbrev due : Live A → Bool
  due rope = not (has_row (left_rows d.moment d.rows) rope.id) && nat_le (rope.idle + wait_of d.shape.graces rope.last) d.moment

  abbrev bare : ℕ → Bool → Live A → Live A
  bare form b rope = cond b (record rope { idle = d.moment; last = cond (form == 2) 2 rope.last }) rope

  abbrev step : ℕ → Live A → Live A
  step form rope = settled form d.moment 2 d.rows (left_rows d.moment d.rows) rope

  abbrev number : Live A → ℕ
  number rope = rope.id

  due_same : (x y : Live A) → x.id ≡ y.id → x.idle ≡ y.idle → due x ≡ due y
  due_same x y id idle =
      ap₂ (λ n m. not (has_row (left_rows d.moment d.rows) n) && nat_le m d.moment) id
      (ap₂ (λ n m. n + m) idle (wait_one d.shape.graces x.last one ∙ sym (wait_one d.shape.graces y.last one)))

  numbered : (b c : Bool) (x y : Live A) (xs ys : List (Live A)) → b ≡ c → x.id ≡ y.id → map number xs ≡ map number ys → map number (cond b (x ∷ xs) xs) ≡ map number (cond c (y ∷ ys) ys)
  numbered b true x y xs ys e same rest = ap (λ t. map number (cond t (x ∷ xs) xs)) e ∙ cons_same same rest
  numbered b false x y xs ys e same rest = ap (λ t. map number (cond t (x ∷ xs) xs)) e ∙ rest

  bare_id : (b : Bool) (rope : Live A) → (bare form b rope).id ≡ (bare 1 b (unlasted rope)).id
  bare_id true rope = refl
  bare_id false rope = refl

  bare_idle : (b : Bool) (rope : Live A) → (bare form b rope).idle ≡ (bare 1 b (unlasted rope)).idle
  bare_idle true rope = refl
  bare_idle false rope = refl

  same_dues : (ropes : List (Live A)) → map number (filter due (map (step form) ropes)) ≡ map number (filter due (map (step 1) (map unlasted ropes)))
  same_dues [] = refl
  same_dues (rope ∷ ropes) =
      let b = has_row d.rows rope.id && not (has_row (left_rows d.moment d.rows) rope.id) in
      let x = bare form b rope in
      let y = bare 1 b (unlasted rope) in
      numbered (due x) (due y) x y (filter due (map (step form) ropes)) (filter due (map (step 1) (map unlasted ropes))) (due_same x y (bare_id b rope) (bare_idle b rope)) (bare_id b rope) (same_dues ropes)

  pub swept_plainly : (limit : ℕ) → swept_ropes form d limit ≡ swept_ropes 1 (plainly d) limit
  swept_plainly limit = ap (take limit) (same_dues d.ropes)

-- ---- calls

abbrev pub plain_state : State → State
plain_state s = record s { kept = plainly s.kept; form = 1 }

pub effect_plainly : (s : State) (tapes : List (List ℕ)) (call : Call) → IsOneGrace s.shape.graces → effect_of s tapes call ≡ effect_of (plain_state s) tapes call
effect_plainly s tapes (calls.Concat ids) one = ap (λ l. Some (Edited s.next l)) (sym (joined_plainly s.ropes ids))
effect_plainly s tapes (calls.Sub id start len) one = ap (λ l. Some (Edited s.next (slice l start len))) (sym (samples_plainly s.ropes id))
effect_plainly s tapes (calls.Replace id start len with) one = ap₂ (λ l m. Some (Edited s.next (replaced l start len m))) (sym (samples_plainly s.ropes id)) (sym (samples_plainly s.ropes with))
effect_plainly s tapes (calls.Sweep limit) one = ap (λ ids. if_any (expired_rows s.kept) ids) (swept_plainly s.form s.kept one limit)
effect_plainly s tapes (calls.Record take) one = refl
effect_plainly s tapes (calls.End lane) one = refl
effect_plainly s tapes (calls.Retain class key id note) one = refl
effect_plainly s tapes (calls.Forget class key) one = refl
effect_plainly s tapes (calls.Census keys) one = refl
effect_plainly s tapes (calls.Advance moment) one = refl
effect_plainly s tapes (calls.Length id) one = refl
effect_plainly s tapes (calls.Describe id) one = refl
effect_plainly s tapes (calls.Levels id) one = refl
effect_plainly s tapes (calls.Play lane id start len) one = refl
effect_plainly s tapes (calls.Feed lane back) one = refl
effect_plainly s tapes (calls.Stop lane) one = refl
effect_plainly s tapes (calls.Lookup class key) one = refl
effect_plainly s tapes calls.Landed one = refl
effect_plainly s tapes (calls.Begin lane) one = refl
effect_plainly s tapes (calls.Add lane take) one = refl

pub early_plainly : (s : State) (tapes : List (List ℕ)) (call : Call) → IsTrue (is_edit call || is_row_call call) → before_journal s tapes call ≡ before_journal (plain_state s) tapes call
early_plainly s tapes (calls.Concat ids) kind =
    cons_same (ap if_unknown (sym (unknown_plainly s.ropes ids)))
    (cons_same (ap (λ l. if_long (length l)) (sym (joined_plainly s.ropes ids)))
    (cons_same (ap (λ l. if_many (length (pieces_in l))) (sym (joined_plainly s.ropes ids))) refl))
early_plainly s tapes (calls.Sub id start len) kind =
    cons_same (ap if_unknown (sym (unknown_plainly s.ropes (id ∷ []))))
    (cons_same (ap (λ l. if_outside start len (length l)) (sym (samples_plainly s.ropes id))) refl)
early_plainly s tapes (calls.Replace id start len with) kind =
    let made = ap₂ (λ l m. replaced l start len m) (sym (samples_plainly s.ropes id)) (sym (samples_plainly s.ropes with)) in
    cons_same (ap if_unknown (sym (unknown_plainly s.ropes (id ∷ with ∷ []))))
    (cons_same (ap (λ l. if_outside start len (length l)) (sym (samples_plainly s.ropes id)))
    (cons_same (ap (λ l. if_long (length l)) made)
    (cons_same (ap (λ l. if_many (length (pieces_in l))) made) refl)))
early_plainly s tapes (calls.Retain class key id note) kind = cons_same (ap if_unknown (sym (unknown_plainly s.ropes (id ∷ [])))) refl
early_plainly s tapes (calls.Forget class key) kind = refl
early_plainly s tapes (calls.Census keys) kind = refl
early_plainly s tapes (calls.Advance moment) kind = refl
early_plainly s tapes (calls.Sweep limit) kind = refl
early_plainly s tapes (calls.Record take) kind = cc
early_plainly s tapes (calls.End lane) kind = cc
early_plainly s tapes (calls.Length id) kind = cc
early_plainly s tapes (calls.Describe id) kind = cc
early_plainly s tapes (calls.Levels id) kind = cc
early_plainly s tapes (calls.Play lane id start len) kind = cc
early_plainly s tapes (calls.Feed lane back) kind = cc
early_plainly s tapes (calls.Stop lane) kind = cc
early_plainly s tapes (calls.Lookup class key) kind = cc
early_plainly s tapes calls.Landed kind = cc
early_plainly s tapes (calls.Begin lane) kind = cc
early_plainly s tapes (calls.Add lane take) kind = cc

-- ---- what may be done

next_fit : (d e : Durable Tagged) (id : ℕ) (samples : List Tagged) → d.next ≡ e.next → IsNextRope d id samples → IsNextRope e id samples
next_fit d e id samples same h = record { next = subst (λ n. n ≤ id) same h.next; number = h.number; long = h.long; many = h.many }

pub fit_plainly : (form : ℕ) (d : Durable Tagged) (e : Effect Tagged) → IsFit form d e → IsFit 1 (plainly d) e
fit_plainly form d (Recorded id samples) h = next_fit d (plainly d) id samples refl h
fit_plainly form d (Edited id samples) h = next_fit d (plainly d) id samples refl h
fit_plainly form d (Retained row) h = (record { key = h.0.key; note = h.0.note; live = live_plainly d.ropes row.rope ∙ h.0.live }, h.1)
fit_plainly form d (Forgotten class key) h = tt
fit_plainly form d (Counted keys) h = tt
fit_plainly form d (Swept ids) h = h
fit_plainly form d (Advanced moment) h = h

pub fit_back : (form : ℕ) (d : Durable Tagged) (e : Effect Tagged) → IsFit 1 (plainly d) e → IsFit form d e
fit_back form d (Recorded id samples) h = next_fit (plainly d) d id samples refl h
fit_back form d (Edited id samples) h = next_fit (plainly d) d id samples refl h
fit_back form d (Retained row) h = (record { key = h.0.key; note = h.0.note; live = sym (live_plainly d.ropes row.rope) ∙ h.0.live }, h.1)
fit_back form d (Forgotten class key) h = tt
fit_back form d (Counted keys) h = tt
fit_back form d (Swept ids) h = h
fit_back form d (Advanced moment) h = h
