-- What one call of the store is to a turn.
use Rattle.std.proofs.Common.{◌≡◌, ◌<◌, ◌≤◌, ◌+◌, ℕ, inl, inr, Bool, true, false, ◌==◌, List, [], ◌∷◌, ◌++◌, length, drop, refl, sym, ap, ◌∙◌, subst, arith, append-nil, append_assoc, eq-eqb, cond, length-append}
use Rattle.std.specs.Prelude.{Result, Ok, Err, IfOk, OnErr}
use Rattle.voice_units.specs.declared.errors.NoMemory.{NoMemory}
use Rattle.voice_model.specs.declared.calls.Call.{Call}
use Rattle.voice_model.specs.declared.calls.Reply.{Reply}
use Rattle.voice_model.specs.declared.calls.Entry.{Entry}
use Rattle.voice_store.specs.Facts.{Adds, AddsLanding, entry_of, landing_at}
use Rattle.turnstile.specs.Histories.{entries_of}
use Rattle.turnstile.specs.Turns.{IsOneTurn, Begins}
use Rattle.turnstile.specs.Passes.{AddsOneTurn, IsAllOf, mine, seen}
use Rattle.turnstile.specs.declared.parts.Pass.{Pass}
use Rattle.turnstile.proofs.Views.{entries_other}
use Rattle.voice_server.specs.declared.born.Born.{Born}
use Rattle.voice_server.specs.declared.standing.Standing.{Standing}
use Rattle.voice_server.specs.Served.{AddsEntry}

pub drop_front : (xs ys : List Entry) → drop (length xs) (xs ++ ys) ≡ ys
drop_front [] ys = refl
drop_front (x ∷ xs) ys = drop_front xs ys

pub own : (by : ℕ) (e : Entry) → e.caller ≡ by → entries_of by (e ∷ []) ≡ e ∷ []
own by e is = ap (λ b. cond b (e ∷ []) []) (eq-eqb e.caller by is)

-- a landing is no caller's
landed_none : (by a : ℕ) (es : List Entry) → 0 < by → entries_of by (landing_at a ∷ es) ≡ entries_of by es
landed_none by a es pos = entries_other by (landing_at a) es (λ is. omega arith)

-- what a turn that was answered gains
pub record Gains (by : ℕ) (call : Call) (reply : Reply) (old new : List Entry) : Type 0 where
  pub entry : Entry
  pub caller : entry.caller ≡ by
  pub call_is : entry.call ≡ call
  pub reply_is : entry.reply ≡ reply
  pub only : entries_of by (drop (length old) new) ≡ entry ∷ []
  pub before : List Entry
  pub last : new ≡ before ++ entry ∷ []
  pub grown : Begins old before

pub gains : (by ack : ℕ) (call : Call) (reply : Reply) (old new : List Entry) → 0 < by → Adds by call reply ack old new → Gains by call reply old new
gains by ack call reply old new pos (inl is) =
    let e = entry_of by call reply ack in
    record {
      entry = e;
      caller = refl;
      call_is = refl;
      reply_is = refl;
      only = ap (λ l. entries_of by (drop (length old) l)) is ∙ ap (entries_of by) (drop_front old (e ∷ [])) ∙ own by e refl;
      before = old;
      last = is;
      grown = ([], sym (append-nil old));
    }
gains by ack call reply old new pos (inr is) =
    let e = entry_of by call reply ack in
    let l = landing_at is.0 in
    record {
      entry = e;
      caller = refl;
      call_is = refl;
      reply_is = refl;
      only = ap (λ x. entries_of by (drop (length old) x)) is.1 ∙ ap (entries_of by) (drop_front old (l ∷ e ∷ [])) ∙ landed_none by is.0 (e ∷ []) pos ∙ own by e refl;
      before = old ++ l ∷ [];
      last = is.1 ∙ sym (append_assoc old (l ∷ []) (e ∷ []));
      grown = (l ∷ [], refl);
    }

-- how many entries a turn adds
pub record Turns (by : ℕ) (old new : List Entry) : Type 0 where
  pub added : List Entry
  pub is : new ≡ old ++ added
  pub turn : IsOneTurn by added
  pub few : length added ≤ 2

pub long : (by : ℕ) (old new : List Entry) → (t : Turns by old new) → length new ≡ length old + length t.added
long by old new t = ap length t.is ∙ length-append old t.added

turns_answered : (by ack : ℕ) (call : Call) (reply : Reply) (old new : List Entry) → Adds by call reply ack old new → Turns by old new
turns_answered by ack call reply old new (inl is) = record { added = entry_of by call reply ack ∷ []; is = is; turn = inr refl; few = omega arith }
turns_answered by ack call reply old new (inr is) = record { added = landing_at is.0 ∷ entry_of by call reply ack ∷ []; is = is.1; turn = ((refl, refl), refl); few = omega arith }

pub turns_landed : (by : ℕ) (old new : List Entry) → AddsLanding old new → Turns by old new
turns_landed by old new (inl is) = record { added = []; is = is ∙ sym (append-nil old); turn = tt; few = omega arith }
turns_landed by old new (inr is) = record { added = landing_at is.0 ∷ []; is = is.1; turn = inl (refl, refl); few = omega arith }

pub turns : (by ack : ℕ) (call : Call) (old new : List Entry) (r : Result Reply NoMemory) → IfOk r (λ reply. Adds by call reply ack old new) → OnErr r (AddsLanding old new) → Turns by old new
turns by ack call old new (Ok reply) adds err = turns_answered by ack call reply old new adds
turns by ack call old new (Err e) adds err = turns_landed by old new err

pub one_turn : (by n : ℕ) (old new : List Entry) → Turns by old new → length old + n ≡ length new → AddsOneTurn by old new n
one_turn by n old new t counted = (t.added, t.is, (let l = long by old new t in omega arith), t.turn)

-- after want of memory nothing was gained
pub gains_none : (by : ℕ) (old new : List Entry) → 0 < by → AddsLanding old new → entries_of by (drop (length old) new) ≡ []
gains_none by old new pos (inl is) = ap (λ l. entries_of by (drop (length old) l)) (is ∙ sym (append-nil old)) ∙ ap (entries_of by) (drop_front old [])
gains_none by old new pos (inr is) = ap (λ l. entries_of by (drop (length old) l)) is.1 ∙ ap (entries_of by) (drop_front old (landing_at is.0 ∷ [])) ∙ landed_none by is.0 [] pos

-- ---- one turn, from the facts of its three calls

pub turn_is : (by caller ack n : ℕ) (call : Call) (before old new : List Entry) (r : Result Reply NoMemory) → caller ≡ by → before ≡ old → IfOk r (λ reply. Adds caller call reply ack old new) → OnErr r (AddsLanding old new)
    → length old + n ≡ length new → AddsOneTurn by before new n
turn_is by caller ack n call before old new r same at adds err counted =
    subst (λ b. AddsOneTurn b before new n) same (subst (λ l. AddsOneTurn caller l new n) (sym at) (one_turn caller n old new (turns caller ack call old new r adds err) counted))

pub bounds : (by ack : ℕ) (call : Call) (shown old new : List Entry) (r : Result Reply NoMemory) → shown ≡ old → IfOk r (λ reply. Adds by call reply ack old new) → OnErr r (AddsLanding old new) → (length shown ≤ length new) × (length new ≤ length shown + 2)
bounds by ack call shown old new r same adds err =
    let t = turns by ack call old new r adds err in
    let l = long by old new t in
    let s = ap length same in
    let f = t.few in
    (omega arith, omega arith)

begins_on : (a b c : List Entry) → Begins a b → Begins b c → Begins a c
begins_on a b c x y = (x.0 ++ y.0, y.1 ∙ ap (λ l. l ++ y.0) x.1 ∙ append_assoc a x.0 y.0)

pub begins_turn : (by ack : ℕ) (call : Call) (was before old new after : List Entry) (r : Result Reply NoMemory) → Begins was before → before ≡ old → after ≡ new → IfOk r (λ reply. Adds by call reply ack old new) → OnErr r (AddsLanding old new) → Begins was after
begins_turn by ack call was before old new after r begins at same adds err =
    let t = turns by ack call old new r adds err in
    subst (Begins was) (sym same) (begins_on was old new (subst (Begins was) at begins) (t.added, t.is))

turn_gains : (by caller : ℕ) (m0 m1 m2 before old new : List Entry) → m1 ≡ m0 → caller ≡ by → before ≡ old → m2 ≡ m1 ++ entries_of caller (drop (length before) new) → m2 ≡ m0 ++ entries_of by (drop (length old) new)
turn_gains by caller m0 m1 m2 before old new a b d h =
    h ∙ ap (λ m. m ++ entries_of caller (drop (length before) new)) a ∙ ap (λ n. m0 ++ entries_of n (drop (length before) new)) b ∙ ap (λ l. m0 ++ entries_of by (drop (length l) new)) d

-- what is known of a pass before and after its turn
pub record Turned {D : Type 0} (p q : Pass (Standing D) (Born D)) (by : ℕ) (old new : List Entry) : Type 0 where
  pub positive : 0 < by
  pub caller : by ≡ p.caller
  pub begins : Begins (seen p) old
  pub seen_is : seen q ≡ new
  pub gained : mine q ≡ mine p ++ entries_of by (drop (length old) new)

pub turned : {D : Type 0} (p m q : Pass (Standing D) (Born D)) (old new : List Entry) → 0 < p.caller → m.caller ≡ p.caller → mine m ≡ mine p → seen m ≡ old → Begins (seen p) (seen m) → seen q ≡ new
    → mine q ≡ mine m ++ entries_of m.caller (drop (length (seen m)) new) → Turned p q p.caller old new
turned p m q old new pos caller mine_is at begins same gained = record {
  positive = pos;
  caller = refl;
  begins = subst (Begins (seen p)) at begins;
  seen_is = same;
  gained = turn_gains p.caller m.caller (mine p) (mine m) (mine q) (seen m) old new mine_is caller at gained;
}

adds_entry : {D : Type 0} (p q : Pass (Standing D) (Born D)) (by ack : ℕ) (call : Call) (reply : Reply) (old new : List Entry) → Turned p q by old new → Adds by call reply ack old new → AddsEntry call reply p q
adds_entry p q by ack call reply old new t adds =
    let g = gains by ack call reply old new t.positive adds in
    record {
      entry = g.entry;
      caller = g.caller ∙ t.caller;
      call_is = g.call_is;
      reply_is = g.reply_is;
      gained = t.gained ∙ ap (λ l. mine p ++ l) g.only;
      before = g.before;
      last = t.seen_is ∙ g.last;
      grown = begins_on (seen p) old g.before t.begins g.grown;
    }

pub answered : {D : Type 0} (p q : Pass (Standing D) (Born D)) (by caller ack : ℕ) (call : Call) (old new : List Entry) (r : Result Reply NoMemory) → caller ≡ by → Turned p q by old new → IfOk r (λ reply. Adds caller call reply ack old new) → IfOk r (λ reply. AddsEntry call reply p q)
answered p q by caller ack call old new (Ok reply) same t adds = adds_entry p q by ack call reply old new t (subst (λ b. Adds b call reply ack old new) same adds)
answered p q by caller ack call old new (Err e) same t adds = tt

pub unanswered : {D : Type 0} (p q : Pass (Standing D) (Born D)) (by : ℕ) (old new : List Entry) (r : Result Reply NoMemory) → Turned p q by old new → OnErr r (AddsLanding old new) → OnErr r (mine q ≡ mine p)
unanswered p q by old new (Ok reply) t err = tt
unanswered p q by old new (Err e) t err = t.gained ∙ ap (λ l. mine p ++ l) (gains_none by old new t.positive err) ∙ append-nil (mine p)

-- ---- all that a caller did

entries_both : (by : ℕ) (xs ys : List Entry) → entries_of by (xs ++ ys) ≡ entries_of by xs ++ entries_of by ys
entries_both by [] ys = refl
entries_both by (x ∷ xs) ys = both (x.caller == by) (entries_both by xs ys)
  where
    both : (own : Bool) → entries_of by (xs ++ ys) ≡ entries_of by xs ++ entries_of by ys → cond own (x ∷ entries_of by (xs ++ ys)) (entries_of by (xs ++ ys)) ≡ cond own (x ∷ entries_of by xs) (entries_of by xs) ++ entries_of by ys
    both true is = ap (λ l. x ∷ l) is
    both false is = is

-- a turn keeps that
pub all_after : (start held before old new after : List Entry) (caller by : ℕ) (was own : List Entry) → Turns by old new → held ≡ old → before ≡ old → after ≡ new → caller ≡ by → IsAllOf start held caller was → own ≡ was ++ entries_of caller (drop (length before) new) → IsAllOf start after by own
all_after start held before old new after caller by was own t on at same is (begins, all) gained =
    let grown : after ≡ start ++ (begins.0 ++ t.added) = same ∙ t.is ∙ ap (λ l. l ++ t.added) (sym on ∙ begins.1) ∙ append_assoc start begins.0 t.added in (
      (begins.0 ++ t.added, grown),
      gained
          ∙ ap (λ l. l ++ entries_of caller (drop (length before) new)) (all ∙ ap (entries_of caller) (ap (drop (length start)) begins.1 ∙ drop_front start begins.0))
          ∙ ap (λ l. entries_of caller begins.0 ++ entries_of caller l) (ap (drop (length before)) (t.is ∙ ap (λ l. l ++ t.added) (sym at)) ∙ drop_front before t.added)
          ∙ sym (entries_both caller begins.0 t.added)
          ∙ ap (entries_of caller) (sym (ap (drop (length start)) grown ∙ drop_front start (begins.0 ++ t.added)))
          ∙ ap (λ b. entries_of b (drop (length start) after)) is,
    )

-- ---- a turn that makes one entry, without a landing

pub adds_alone : (by ack : ℕ) (call : Call) (old new : List Entry) (r : Result Reply NoMemory) → IfOk r (λ reply. new ≡ old ++ entry_of by call reply ack ∷ []) → IfOk r (λ reply. Adds by call reply ack old new)
adds_alone by ack call old new (Ok reply) is = inl is
adds_alone by ack call old new (Err e) is = tt

pub adds_nothing : (old new : List Entry) (r : Result Reply NoMemory) → OnErr r (new ≡ old) → OnErr r (AddsLanding old new)
adds_nothing old new (Ok reply) is = tt
adds_nothing old new (Err e) is = inl is
