-- Entries that come within the device calls that they may take.
use Rattle.std.proofs.Common.{◌≡◌, ◌⊎◌, inl, inr, ℕ, ◌+◌, ◌≤◌, Bool, true, false, ◌||◌, cond, is_some, List, [], ◌∷◌, ◌++◌, Option, None, IsTrue, refl, sym, ◌∙◌, ap, subst, arith}
use Rattle.std.specs.Prelude.{Result, Ok, Err, IfOk, OnErr}
use Rattle.std.specs.Result.{is_err}
use Rattle.std.specs.Arc.{arc_value}
use Rattle.std.proofs.lemmas.List.{append_assoc}
use Rattle.voice_units.specs.declared.errors.NoMemory.{NoMemory}
use Rattle.voice_outside.specs.Disk.{Told}
use Rattle.voice_model.specs.State.{State, Pending}
use Rattle.voice_model.specs.Changes.{is_changing}
use Rattle.voice_model.specs.Step.{state_after, after, landed}
use Rattle.voice_model.specs.declared.calls.Call.{Call}
use Rattle.voice_model.specs.declared.calls.Call.TheVariants as calls
use Rattle.voice_model.specs.declared.calls.Reply.{Reply}
use Rattle.voice_model.specs.declared.calls.Entry.{Entry}
use Rattle.lane_calls.specs.declared.outcomes.Fed.{Fed}
use Rattle.voice_store.specs.declared.inside.Inside.{Inside}
use Rattle.voice_store.specs.declared.hearing.Sound.{Sound}
use Rattle.voice_store.specs.declared.hearing.Sound.TheVariants as sounds
use Rattle.voice_store.specs.Hearing.{call_for}
use Rattle.voice_store.specs.Stood.{Stood, last_of, tapes_of}
use Rattle.voice_store.specs.Facts.{Adds, AddsLanding, GoesOn, IsFault, entry_of, landing_at, stretches_of}
use Rattle.voice_store.specs.Shown.{Stands}
use Rattle.voice_store.specs.Feeding.{told}
use Rattle.voice_units.specs.declared.pieces.Take.{Take}
use Rattle.voice_store.specs.DeviceCalls.{add_calls, change_calls, landing_calls}
use Rattle.voice_store.specs.Turns.{window_blocks, calls_beside, entry_calls, ShortTurns, AddsLandingAt, AddsShortly}
use Rattle.listening.specs.Looks.{Looked}
use Rattle.voice_outside.specs.Counters.{HasRisen}
use Rattle.voice_store.proofs.Faults.{covers_answer}
use Rattle.voice_store.proofs.Kept.{is_sure}
use Rattle.voice_store.proofs.Served.{covers_fed}

-- ---- histories

-- the same, counted from later on
turns_later : (s : State) (tapes : List (List ℕ)) (low later : ℕ) (es : List Entry) (high : ℕ) → low ≤ later → ShortTurns s tapes low es high → ShortTurns s tapes later es high
turns_later s tapes low later [] high le turns = omega (arith, le, turns)
turns_later s tapes low later (e ∷ es) high le turns = let first = turns.0 in (omega (arith, le, first), turns.1)

-- entries behind others
turns_behind : (s : State) (tapes : List (List ℕ)) (low : ℕ) (es fs : List Entry) (mid high : ℕ) → ShortTurns s tapes low es mid → ShortTurns (after s tapes es) tapes mid fs high → ShortTurns s tapes low (es ++ fs) high
turns_behind s tapes low [] fs mid high early late = turns_later s tapes mid low fs high early late
turns_behind s tapes low (e ∷ es) fs mid high early late = (early.0, turns_behind (state_after s tapes e) tapes e.ack es fs mid high early.1 late)

-- a landing takes two
two_to_land : (s : State) (tapes : List (List ℕ)) → 2 ≡ entry_calls s tapes calls.Landed
unfolding entry_calls
two_to_land s tapes = refl

-- the entry of a call, perhaps behind that of a landing
pub turns_added : (first : State) (tapes : List (List ℕ)) (low caller : ℕ) (call : Call) (reply : Reply) (old new : ℕ) (was items : List Entry) → ShortTurns first tapes low was old
    → AddsShortly (after first tapes was) tapes old caller call reply new was items → ShortTurns first tapes low items new
turns_added first tapes low caller call reply old new was items turns (inl one) =
    let none_behind : new ≤ new = omega arith in
    subst (λ l. ShortTurns first tapes low l new) (sym one.0) (turns_behind first tapes low was (entry_of caller call reply new ∷ []) old new turns (one.1, none_behind))
turns_added first tapes low caller call reply old new was items turns (inr two) =
    let none_behind : new ≤ new = omega arith in
    let lands = two.2 in
    let same = two_to_land (after first tapes was) tapes in
    let landing : two.0 ≤ old + entry_calls (after first tapes was) tapes calls.Landed = omega (arith, lands, same) in
    subst (λ l. ShortTurns first tapes low l new) (sym two.1)
    (turns_behind first tapes low was (landing_at two.0 ∷ entry_of caller call reply new ∷ []) old new turns (landing, (two.3, none_behind)))

-- ---- calls

-- of a call of a changing kind
of_change : (s : State) (tapes : List (List ℕ)) (call : Call) → IsTrue (is_changing call) → cond (is_some s.doubt) 2 (change_calls s tapes call) ≡ entry_calls s tapes call
unfolding entry_calls
of_change s tapes call changing = sym (ap (λ b. cond b (cond (is_some s.doubt) 2 (change_calls s tapes call)) (calls_beside s tapes call)) changing)

-- where nothing is in doubt
of_sure : (s : State) (tapes : List (List ℕ)) (call : Call) → IsTrue (is_changing call) → s.doubt ≡ None → change_calls s tapes call ≡ entry_calls s tapes call
of_sure s tapes call changing sure = sym (ap (λ (o : Option Pending). cond (is_some o) 2 (change_calls s tapes call)) sure) ∙ of_change s tapes call changing

-- where a landing failed
of_landing : (s : State) (tapes : List (List ℕ)) (call : Call) → IsTrue (is_changing call) → landing_calls s ≤ entry_calls s tapes call
of_landing s tapes call changing =
    let few = by (is_some s.doubt) in
    let same = of_change s tapes call changing in
    omega (arith, few, same)
  where
    by : (b : Bool) → cond b 2 0 ≤ cond b 2 (change_calls s tapes call)
    by true = omega arith
    by false = omega arith

-- of a call that hears a rope
of_sound : (s : State) (tapes : List (List ℕ)) (sound : Sound) (id : ℕ) → stretches_of s id ≡ entry_calls s tapes (call_for sound id)
unfolding entry_calls
of_sound s tapes sounds.Talk id = refl
of_sound s tapes sounds.Peaks id = refl

-- of a Feed
of_feed : (s : State) (tapes : List (List ℕ)) (lane : ℕ) (back : Option ℕ) → window_blocks s lane back ≡ entry_calls s tapes (calls.Feed lane back)
unfolding entry_calls
of_feed s tapes lane back = refl

-- of an Add
of_add : (s : State) (tapes : List (List ℕ)) (lane : ℕ) (take : Take) → add_calls s tapes lane take ≡ entry_calls s tapes (calls.Add lane take)
unfolding entry_calls
of_add s tapes lane take = refl

-- ---- a call, with or without a landing

-- a call that makes so many device calls at most
pub adds_within : (s : State) (tapes : List (List ℕ)) (low caller : ℕ) (call : Call) (ack most : ℕ) (old new : List Entry) (result : Result Reply NoMemory)
    → ack ≤ low + most → most ≤ entry_calls s tapes call → IfOk result (λ reply. new ≡ old ++ entry_of caller call reply ack ∷ []) → IfOk result (λ reply. AddsShortly s tapes low caller call reply ack old new)
adds_within s tapes low caller call ack most old new (Ok reply) le few items = inl (items, omega (arith, le, few))
adds_within s tapes low caller call ack most old new (Err e) le few items = tt

-- one that makes none
pub adds_at_once : (s : State) (tapes : List (List ℕ)) (low caller : ℕ) (call : Call) (old new : List Entry) (result : Result Reply NoMemory)
    → IfOk result (λ reply. new ≡ old ++ entry_of caller call reply low ∷ []) → IfOk result (λ reply. AddsShortly s tapes low caller call reply low old new)
adds_at_once s tapes low caller call old new result items = adds_within s tapes low caller call low 0 old new result (omega arith) (omega arith) items

-- one that hears a rope
pub adds_heard : (s t : State) (tapes : List (List ℕ)) (low caller : ℕ) (call : Call) (sound : Sound) (id ack : ℕ) (old new : List Entry) (result : Result Reply NoMemory) → call ≡ call_for sound id → t ≡ s → ack ≤ low + stretches_of t id
    → IfOk result (λ reply. new ≡ old ++ entry_of caller call reply ack ∷ []) → IfOk result (λ reply. AddsShortly s tapes low caller call reply ack old new)
adds_heard s t tapes low caller call sound id ack old new result is same le items =
    let few = ap (λ (x : State). stretches_of x id) same ∙ of_sound s tapes sound id ∙ ap (entry_calls s tapes) (sym is) in
    adds_within s tapes low caller call ack (stretches_of t id) old new result le (omega (arith, few)) items

-- one that adds to a recording
pub adds_added : (s t : State) (tapes : List (List ℕ)) (low caller : ℕ) (call : Call) (lane : ℕ) (take : Take) (ack : ℕ) (old new : List Entry) (result : Result Reply NoMemory) → call ≡ calls.Add lane take → t ≡ s → ack ≤ low + add_calls t tapes lane take
    → IfOk result (λ reply. new ≡ old ++ entry_of caller call reply ack ∷ []) → IfOk result (λ reply. AddsShortly s tapes low caller call reply ack old new)
adds_added s t tapes low caller call lane take ack old new result is same le items =
    let few = ap (λ (x : State). add_calls x tapes lane take) same ∙ of_add s tapes lane take ∙ ap (entry_calls s tapes) (sym is) in
    adds_within s tapes low caller call ack (add_calls t tapes lane take) old new result le (omega (arith, few)) items

-- the same entry, of a call and behind a history that are the same
pub items_from : (caller : ℕ) (call call' : Call) (ack : ℕ) (old mid new : List Entry) (result : Result Reply NoMemory) → call ≡ call' → mid ≡ old
    → IfOk result (λ reply. new ≡ mid ++ entry_of caller call' reply ack ∷ []) → IfOk result (λ reply. new ≡ old ++ entry_of caller call reply ack ∷ [])
items_from caller call call' ack old mid new (Ok reply) is same items = items ∙ ap (λ l. l ++ entry_of caller call' reply ack ∷ []) same ∙ ap (λ x. old ++ entry_of caller x reply ack ∷ []) (sym is)
items_from caller call call' ack old mid new (Err e) is same items = tt

-- and where the state and the tapes are the same
pub adds_same : (s t : State) (tapes tapes' : List (List ℕ)) (low caller : ℕ) (call : Call) (ack : ℕ) (old mid new : List Entry) (result : Result Reply NoMemory) → t ≡ s → tapes' ≡ tapes → mid ≡ old
    → IfOk result (λ reply. AddsShortly t tapes' low caller call reply ack mid new) → IfOk result (λ reply. AddsShortly s tapes low caller call reply ack old new)
adds_same s t tapes tapes' low caller call ack old mid new result state tape items adds =
    subst (λ l. IfOk result (λ reply. AddsShortly s tapes low caller call reply ack l new)) items
    (subst (λ x. IfOk result (λ reply. AddsShortly s x low caller call reply ack mid new)) tape
    (subst (λ (x : State). IfOk result (λ reply. AddsShortly x tapes' low caller call reply ack mid new)) state adds))

-- one whose landing failed
pub adds_unlanded : (s : State) (tapes : List (List ℕ)) (low caller : ℕ) (call : Call) (reply : Reply) (ack : ℕ) (old mid new : List Entry) → IsTrue (is_changing call)
    → ack ≤ low + landing_calls s → mid ≡ old → new ≡ mid ++ entry_of caller call reply ack ∷ [] → AddsShortly s tapes low caller call reply ack old new
adds_unlanded s tapes low caller call reply ack old mid new changing le same items =
    let few = of_landing s tapes call changing in
    inl (items ∙ ap (λ l. l ++ entry_of caller call reply ack ∷ []) same, omega (arith, le, few))

-- a landing at some moment is one
pub some_landing : (ack : ℕ) (old new : List Entry) → AddsLandingAt ack old new → AddsLanding old new
some_landing ack old new (inl same) = inl same
some_landing ack old new (inr one) = inr (ack, one)

two_most : (b : Bool) → cond b 2 0 ≤ 2
two_most true = omega arith
two_most false = omega arith

-- a call of a changing kind, once what was in doubt has landed
pub adds_landed : (first : State) (t0 : ℕ) (disk : Told) (s t : Inside) (caller : ℕ) (call : Call) (low ack : ℕ) (new : List Entry) (result : Result Reply NoMemory) → IsTrue (is_changing call) → Stood first t0 disk t → t.doubt ≡ None
    → t.tapes ≡ s.tapes → AddsLandingAt disk.calls s.history.items t.history.items → last_of first t ≡ landed (last_of first s)
    → disk.calls ≤ low + landing_calls (last_of first s) → ack ≤ disk.calls + change_calls (last_of first t) (tapes_of t) call
    → IfOk result (λ reply. new ≡ t.history.items ++ entry_of caller call reply ack ∷ []) → IfOk result (λ reply. AddsShortly (last_of first s) (tapes_of s) low caller call reply ack s.history.items new)
adds_landed first t0 disk s t caller call low ack new (Err e) changing stood sure tapes landing is_landed few le items = tt
adds_landed first t0 disk s t caller call low ack new (Ok reply) changing stood sure tapes (inl same) is_landed few le items =
    let last_same : last_of first t ≡ last_of first s = ap (λ x. after first (arc_value x) t.history.items) tapes ∙ ap (λ l. after first (tapes_of s) l) same in
    let none : (last_of first s).doubt ≡ None = ap (λ (x : State). x.doubt) (sym last_same) ∙ (is_sure first t0 disk t stood sure).in_state in
    let no_landing : landing_calls (last_of first s) ≡ 0 = ap (λ (o : Option Pending). cond (is_some o) 2 0) none in
    let here =
    ap (λ (x : State). change_calls x (tapes_of t) call) last_same
    ∙ ap (λ l. change_calls (last_of first s) l call) (ap arc_value tapes)
    ∙ of_sure (last_of first s) (tapes_of s) call changing none in
    inl (items ∙ ap (λ l. l ++ entry_of caller call reply ack ∷ []) same, omega (arith, few, le, no_landing, here))
adds_landed first t0 disk s t caller call low ack new (Ok reply) changing stood sure tapes (inr one) is_landed few le items =
    let none : (landed (last_of first s)).doubt ≡ None = ap (λ (x : State). x.doubt) (sym is_landed) ∙ (is_sure first t0 disk t stood sure).in_state in
    let two = two_most (is_some (last_of first s).doubt) in
    let here =
    ap (λ (x : State). change_calls x (tapes_of t) call) is_landed
    ∙ ap (λ l. change_calls (landed (last_of first s)) l call) (ap arc_value tapes)
    ∙ of_sure (landed (last_of first s)) (tapes_of s) call changing none in
    inr (
      disk.calls,
      items ∙ ap (λ l. l ++ entry_of caller call reply ack ∷ []) one ∙ append_assoc s.history.items (landing_at disk.calls ∷ []) (entry_of caller call reply ack ∷ []),
      omega (arith, few, two),
      omega (arith, le, here),
    )

-- ---- a store

never : (a b : Bool) → (a || b) ≡ false → (a ≡ false) × (b ≡ false)
never true b e = cc
never false b e = (refl, e)

-- after a call that was answered, where memory was never wanted
pub turns_applied : (first : State) (s s' : Inside) (low caller : ℕ) (call : Call) (old new : ℕ) (wanted err : Bool) (result : Result Reply NoMemory) → err ≡ is_err result → s'.tapes ≡ s.tapes
    → IfOk result (λ reply. AddsShortly (last_of first s) (tapes_of s) old caller call reply new s.history.items s'.history.items)
    → (wanted ≡ false → ShortTurns first (tapes_of s) low s.history.items old) → (wanted || err) ≡ false → ShortTurns first (tapes_of s') low s'.history.items new
turns_applied first s s' low caller call old new wanted err (Err e) is tapes adds turns none = let no : true ≡ false = sym is ∙ (never wanted err none).1 in cc
turns_applied first s s' low caller call old new wanted err (Ok reply) is tapes adds turns none =
    subst (λ l. ShortTurns first l low s'.history.items new) (sym (ap arc_value tapes))
    (turns_added first (tapes_of s) low caller call reply old new s.history.items s'.history.items (turns (never wanted err none).0) adds)

-- after a Feed
pub turns_fed : (first : State) (s s' : Inside) (low caller lane : ℕ) (back : Option ℕ) (old new : ℕ) (wanted err : Bool) (result : Result Fed NoMemory) → err ≡ is_err result → s'.tapes ≡ s.tapes
    → IfOk result (λ fed. s'.history.items ≡ s.history.items ++ entry_of caller (calls.Feed lane back) (told fed) new ∷ []) → new ≤ old + window_blocks (last_of first s) lane back
    → (wanted ≡ false → ShortTurns first (tapes_of s) low s.history.items old) → (wanted || err) ≡ false → ShortTurns first (tapes_of s') low s'.history.items new
turns_fed first s s' low caller lane back old new wanted err (Err e) is tapes items few turns none = let no : true ≡ false = sym is ∙ (never wanted err none).1 in cc
turns_fed first s s' low caller lane back old new wanted err (Ok fed) is tapes items few turns none =
    let same = of_feed (last_of first s) (tapes_of s) lane back in
    let one : Result Reply NoMemory = Ok (told fed) in
    turns_applied first s s' low caller (calls.Feed lane back) old new wanted err one is tapes (inl (items, omega (arith, few, same))) turns none

-- want of memory, which is told from then on
pub stands_wanted : (first : State) (origin disk : Told) (s : Inside) (wanted : Bool) → Stands first origin disk s wanted → Stands first origin disk s true
stands_wanted first origin disk s wanted stands = record {
  stood = stands.stood;
  faults = stands.faults;
  size = stands.size;
  honest = stands.honest;
  turns = λ e. let no : ⊥ = cc in absurd no;
}

-- a store after a call
pub stands_applied : (first : State) (origin old new : Told) (s s' : Inside) (caller : ℕ) (call : Call) (wanted err : Bool) (result : Result Reply NoMemory)
    → Stands first origin old s wanted → err ≡ is_err result → s'.tapes ≡ s.tapes → GoesOn old new → Stood first (origin.calls + 1) new s'
    → IfOk result (λ reply. Adds caller call reply new.calls s.history.items s'.history.items) → OnErr result (AddsLanding s.history.items s'.history.items)
    → IfOk result (λ reply. IsFault reply → HasRisen old.faults new.faults)
    → IfOk result (λ reply. AddsShortly (last_of first s) (tapes_of s) old.calls caller call reply new.calls s.history.items s'.history.items)
    → Stands first origin new s' (wanted || err)
stands_applied first origin old new s s' caller call wanted err result was is tapes goes stood entry none cause adds = record {
  stood = stood;
  faults = covers_answer origin.faults old.faults new.faults caller call new.calls s.history.items s'.history.items result entry none cause was.faults goes.faults;
  size = goes.size ∙ was.size;
  honest = goes.honest ∙ was.honest;
  turns = turns_applied first s s' (origin.calls + 5) caller call old.calls new.calls wanted err result is tapes adds was.turns;
}

-- and after a Feed
pub stands_fed : (first : State) (origin old new : Told) (s s' : Inside) (caller lane : ℕ) (back : Option ℕ) (wanted err : Bool) (result : Result Fed NoMemory)
    → Stands first origin old s wanted → err ≡ is_err result → s'.tapes ≡ s.tapes → Looked 4 old new → Stood first (origin.calls + 1) new s'
    → IfOk result (λ fed. s'.history.items ≡ s.history.items ++ entry_of caller (calls.Feed lane back) (told fed) new.calls ∷ []) → OnErr result (s'.history.items ≡ s.history.items)
    → IfOk result (λ fed. IsFault (told fed) → HasRisen old.faults new.faults) → new.calls ≤ old.calls + window_blocks (last_of first s) lane back
    → Stands first origin new s' (wanted || err)
stands_fed first origin old new s s' caller lane back wanted err result was is tapes looked stood items none cause few = record {
  stood = stood;
  faults = covers_fed origin.faults old.faults new.faults caller lane back new.calls s.history.items s'.history.items result items none cause was.faults looked.faults;
  size = looked.size ∙ was.size;
  honest = looked.honest ∙ was.honest;
  turns = turns_fed first s s' (origin.calls + 5) caller lane back old.calls new.calls wanted err result is tapes items few was.turns;
}
