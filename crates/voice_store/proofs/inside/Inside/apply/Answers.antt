use Rattle.std.proofs.Common.{◌≡◌, ℕ, ◌+◌, ◌≤◌, List, inl, refl, ap, subst, ◌∙◌, arith}
use Rattle.std.specs.Prelude.{Result, Ok, OnErr}
use Rattle.voice_units.specs.declared.errors.NoMemory.{NoMemory}
use Rattle.voice_model.specs.declared.calls.Call.TheVariants as calls
use Rattle.voice_model.specs.declared.calls.Reply.{Reply}
use Rattle.voice_store.specs.Hearing.{call_for}
use Rattle.voice_store.proofs.Turns.{adds_added, adds_at_once, adds_heard, items_from, adds_same}
use Rattle.voice_model.specs.State.{State}
use Rattle.voice_store.specs.declared.inside.Inside.{Inside}
use Rattle.voice_store.specs.Stood.{last_of, tapes_of}
use Rattle.voice_store.specs.Facts.{most_reads}
use Rattle.voice_model.specs.declared.calls.Call.{Call}
use Rattle.voice_store.specs.Facts.{TakesAreIn}
use Rattle.voice_store.specs.DeviceCalls.{add_calls, landing_calls, most_calls}
use Rattle.voice_store.proofs.Counted.{added_within}
use Rattle.voice_store.proofs.Behind.{fits_reserved}
use Rattle.voice_store.proofs.Landed.{stood_reserved, on_error, none_made}
use Rattle.voice_store.proofs.Heard.{last_reserved, looked_reads, heard_within, few_on_error}
use Rattle.voice_model.specs.Step.{landed}
use Rattle.voice_store.specs.Residing.{KeepsFrames}
use Rattle.voice_store.proofs.Residing.{frames_reserved}
use Rattle.voice_store.proofs.inside.Inside.apply.Goals as goal

pub returns-in_err-reserve-clause-stood : goal.returns-in_err-reserve-clause-stood
returns-in_err-reserve-clause-stood g c = λ first t0 stood.
    stood_reserved first t0 (g.D.Disk.told c.args.disk.now) c.args.self.now c.reserve.new.self c.reserve.ensures.rest c.reserve.ensures.items stood

pub returns-in-Length-clause-stood : goal.returns-in-Length-clause-stood
returns-in-Length-clause-stood g c = λ first t0 stood.
    c.tell_length.ensures.stood first t0 (stood_reserved first t0 (g.D.Disk.told c.args.disk.now) c.args.self.now c.reserve.new.self c.reserve.ensures.rest c.reserve.ensures.items stood)

pub returns-in-Interest-clause-stood : goal.returns-in-Interest-clause-stood
returns-in-Interest-clause-stood g c = λ first t0 stood.
    c.tell_interest.ensures.stood first t0 (stood_reserved first t0 (g.D.Disk.told c.args.disk.now) c.args.self.now c.reserve.new.self c.reserve.ensures.rest c.reserve.ensures.items stood)

pub land_and_change-requires-clause-stood : goal.land_and_change-requires-clause-stood
land_and_change-requires-clause-stood g c κs within =
    let stood = c.requires.stood in
    (stood.0, stood.1, stood_reserved stood.0 stood.1 (g.D.Disk.told c.args.disk.now) c.args.self.now c.reserve.new.self c.reserve.ensures.rest c.reserve.ensures.items stood.2)

pub returns-in-Change-clause-stood : goal.returns-in-Change-clause-stood
returns-in-Change-clause-stood g c = λ first t0 stood.
    c.land_and_change.ensures.stood first t0 (stood_reserved first t0 (g.D.Disk.told c.args.disk.now) c.args.self.now c.reserve.new.self c.reserve.ensures.rest c.reserve.ensures.items stood)

pub tell_sound-requires-clause-stood : goal.tell_sound-requires-clause-stood
tell_sound-requires-clause-stood g c κs within =
    let stood = c.requires.stood in
    (stood.0, stood.1, stood_reserved stood.0 stood.1 (g.D.Disk.told c.args.disk.now) c.args.self.now c.reserve.new.self c.reserve.ensures.rest c.reserve.ensures.items stood.2)

pub returns-in-Sound-clause-few : goal.returns-in-Sound-clause-few
returns-in-Sound-clause-few g c = λ first t0 stood.
    let s = c.args.self.now in
    let t = c.reserve.new.self in
    let old = g.D.Disk.told c.args.disk.now in
    let looked = c.tell_sound.ensures.looked first t0 (stood_reserved first t0 old s t c.reserve.ensures.rest c.reserve.ensures.items stood) in
    few_on_error old (g.D.Disk.told c.tell_sound.new.disk) (last_of first s) (last_of first t) c.args.call c.in-Sound.sound c.in-Sound.rope c.in-Sound.ensures
    (last_reserved first s t c.reserve.ensures.rest c.reserve.ensures.items) looked c.tell_sound.result

pub returns-in-Sound-clause-looks : goal.returns-in-Sound-clause-looks
returns-in-Sound-clause-looks g c = λ hears first t0 stood.
    let s = c.args.self.now in
    let t = c.reserve.new.self in
    let old = g.D.Disk.told c.args.disk.now in
    let looked = c.tell_sound.ensures.looked first t0 (stood_reserved first t0 old s t c.reserve.ensures.rest c.reserve.ensures.items stood) in
    looked_reads old (g.D.Disk.told c.tell_sound.new.disk) (last_of first s) (last_of first t) c.args.call c.in-Sound.sound c.in-Sound.rope c.in-Sound.ensures
    (last_reserved first s t c.reserve.ensures.rest c.reserve.ensures.items) looked

pub returns-in-Sound-clause-goes : goal.returns-in-Sound-clause-goes
returns-in-Sound-clause-goes g c =
    let stood = c.requires.stood in
    let looked = c.tell_sound.ensures.looked stood.0 stood.1 (stood_reserved stood.0 stood.1 (g.D.Disk.told c.args.disk.now) c.args.self.now c.reserve.new.self c.reserve.ensures.rest c.reserve.ensures.items stood.2) in
    record { size = looked.size; honest = looked.honest; later = looked.later; faults = looked.faults }

pub returns-in-Sound-clause-calls : goal.returns-in-Sound-clause-calls
returns-in-Sound-clause-calls g c = λ first t0 stood.
    let s = c.args.self.now in
    let t = c.reserve.new.self in
    let old = g.D.Disk.told c.args.disk.now in
    let looked = c.tell_sound.ensures.looked first t0 (stood_reserved first t0 old s t c.reserve.ensures.rest c.reserve.ensures.items stood) in
    heard_within old (g.D.Disk.told c.tell_sound.new.disk) (last_of first s) (last_of first t) c.args.call c.in-Sound.sound c.in-Sound.rope c.in-Sound.ensures
    (last_reserved first s t c.reserve.ensures.rest c.reserve.ensures.items) looked (tapes_of s)

pub returns-in-Sound-clause-stood : goal.returns-in-Sound-clause-stood
returns-in-Sound-clause-stood g c = λ first t0 stood.
    c.tell_sound.ensures.stood first t0 (stood_reserved first t0 (g.D.Disk.told c.args.disk.now) c.args.self.now c.reserve.new.self c.reserve.ensures.rest c.reserve.ensures.items stood)

pub returns-in-Change-clause-calls : goal.returns-in-Change-clause-calls
returns-in-Change-clause-calls g c = λ first t0 stood.
    let s = c.args.self.now in
    let t = c.reserve.new.self in
    let old = g.D.Disk.told c.args.disk.now in
    let new = g.D.Disk.told c.land_and_change.new.disk in
    subst (λ (x : State). new.calls ≤ old.calls + most_calls x (tapes_of s) c.args.call) (last_reserved first s t c.reserve.ensures.rest c.reserve.ensures.items)
    (subst (λ (l : List (List ℕ)). new.calls ≤ old.calls + most_calls (last_of first t) l c.args.call) (ap (λ (x : Inside). tapes_of x) c.reserve.ensures.rest)
    (c.land_and_change.ensures.calls first t0 (stood_reserved first t0 old s t c.reserve.ensures.rest c.reserve.ensures.items stood)))

pub returns-in-Change-clause-few : goal.returns-in-Change-clause-few
returns-in-Change-clause-few g c = λ first t0 stood.
    let s = c.args.self.now in
    let t = c.reserve.new.self in
    let old = g.D.Disk.told c.args.disk.now in
    let new = g.D.Disk.told c.land_and_change.new.disk in
    on_error (new.calls ≤ old.calls + landing_calls (last_of first s)) (new.calls ≤ old.calls + (landing_calls (last_of first s) + most_reads (last_of first s) c.args.call))
    (λ few. omega (arith, few)) c.land_and_change.result
    (subst (λ (x : State). OnErr c.land_and_change.result (new.calls ≤ old.calls + landing_calls x)) (last_reserved first s t c.reserve.ensures.rest c.reserve.ensures.items)
    (c.land_and_change.ensures.few first t0 (stood_reserved first t0 old s t c.reserve.ensures.rest c.reserve.ensures.items stood)))

pub returns-in-Change-clause-behind : goal.returns-in-Change-clause-behind
returns-in-Change-clause-behind g c = λ none first t0 stood takes fits room.
    let s = c.args.self.now in
    let t = c.reserve.new.self in
    c.land_and_change.ensures.spare (ap (λ (x : Inside). x.doubt) c.reserve.ensures.rest ∙ none) first t0
    (stood_reserved first t0 (g.D.Disk.told c.args.disk.now) s t c.reserve.ensures.rest c.reserve.ensures.items stood) takes
    (fits_reserved first s t c.args.call c.reserve.ensures.rest c.reserve.ensures.items fits)

pub play-requires-clause-stood : goal.play-requires-clause-stood
play-requires-clause-stood g c κs within =
    let stood = c.requires.stood in
    (stood.0, stood.1, stood_reserved stood.0 stood.1 (g.D.Disk.told c.args.disk.now) c.args.self.now c.reserve.new.self c.reserve.ensures.rest c.reserve.ensures.items stood.2)

pub stop-requires-clause-stood : goal.stop-requires-clause-stood
stop-requires-clause-stood g c κs within =
    let stood = c.requires.stood in
    (stood.0, stood.1, stood_reserved stood.0 stood.1 (g.D.Disk.told c.args.disk.now) c.args.self.now c.reserve.new.self c.reserve.ensures.rest c.reserve.ensures.items stood.2)

pub returns-in-Job-clause-few : goal.returns-in-Job-clause-few
returns-in-Job-clause-few g c = λ first t0 stood. none_made (g.D.Disk.told c.args.disk.now).calls (landing_calls (last_of first c.args.self.now) + most_reads (last_of first c.args.self.now) c.args.call) c.play.result

pub returns-in-Job-clause-stood : goal.returns-in-Job-clause-stood
returns-in-Job-clause-stood g c = λ first t0 stood.
    c.play.ensures.stood first t0 (stood_reserved first t0 (g.D.Disk.told c.args.disk.now) c.args.self.now c.reserve.new.self c.reserve.ensures.rest c.reserve.ensures.items stood)

pub returns-in-Stop-clause-stood : goal.returns-in-Stop-clause-stood
returns-in-Stop-clause-stood g c = λ first t0 stood.
    c.stop.ensures.stood first t0 (stood_reserved first t0 (g.D.Disk.told c.args.disk.now) c.args.self.now c.reserve.new.self c.reserve.ensures.rest c.reserve.ensures.items stood)

pub returns-in-Length-clause-turns : goal.returns-in-Length-clause-turns
returns-in-Length-clause-turns g c = λ first t0 stood.
    let s = c.args.self.now in
    let now = (g.D.Disk.told c.args.disk.now).calls in
    let one : Result Reply NoMemory = Ok c.tell_length.result in
    adds_at_once (last_of first s) (tapes_of s) now c.args.caller c.args.call s.history.items c.tell_length.new.self.history.items one
    (items_from c.args.caller c.args.call (calls.Length c.in-Length.rope) now s.history.items c.reserve.new.self.history.items c.tell_length.new.self.history.items one c.in-Length.ensures c.reserve.ensures.items c.tell_length.ensures.items)

pub returns-in-Interest-clause-turns : goal.returns-in-Interest-clause-turns
returns-in-Interest-clause-turns g c = λ first t0 stood.
    let s = c.args.self.now in
    let now = (g.D.Disk.told c.args.disk.now).calls in
    let one : Result Reply NoMemory = Ok c.tell_interest.result in
    adds_at_once (last_of first s) (tapes_of s) now c.args.caller c.args.call s.history.items c.tell_interest.new.self.history.items one
    (items_from c.args.caller c.args.call (calls.Lookup c.in-Interest.class c.in-Interest.key) now s.history.items c.reserve.new.self.history.items c.tell_interest.new.self.history.items one c.in-Interest.ensures c.reserve.ensures.items c.tell_interest.ensures.items)

pub returns-in-Stop-clause-turns : goal.returns-in-Stop-clause-turns
returns-in-Stop-clause-turns g c = λ first t0 stood.
    let s = c.args.self.now in
    let now = (g.D.Disk.told c.args.disk.now).calls in
    let one : Result Reply NoMemory = Ok c.stop.result in
    adds_at_once (last_of first s) (tapes_of s) now c.args.caller c.args.call s.history.items c.stop.new.self.history.items one
    (items_from c.args.caller c.args.call (calls.Stop c.in-Stop.lane) now s.history.items c.reserve.new.self.history.items c.stop.new.self.history.items one c.in-Stop.ensures c.reserve.ensures.items c.stop.ensures.items)

pub returns-in-Job-clause-turns : goal.returns-in-Job-clause-turns
returns-in-Job-clause-turns g c = λ first t0 stood.
    let s = c.args.self.now in
    let now = (g.D.Disk.told c.args.disk.now).calls in
    adds_at_once (last_of first s) (tapes_of s) now c.args.caller c.args.call s.history.items c.play.new.self.history.items c.play.result
    (items_from c.args.caller c.args.call (calls.Play c.in-Job.lane c.in-Job.rope c.in-Job.start c.in-Job.len) now s.history.items c.reserve.new.self.history.items c.play.new.self.history.items c.play.result
    c.in-Job.ensures c.reserve.ensures.items c.play.ensures.items)

pub returns-in-Sound-clause-turns : goal.returns-in-Sound-clause-turns
returns-in-Sound-clause-turns g c = λ first t0 stood.
    let s = c.args.self.now in
    let t = c.reserve.new.self in
    let old = g.D.Disk.told c.args.disk.now in
    let new = g.D.Disk.told c.tell_sound.new.disk in
    let looked = c.tell_sound.ensures.looked first t0 (stood_reserved first t0 old s t c.reserve.ensures.rest c.reserve.ensures.items stood) in
    adds_heard (last_of first s) (last_of first t) (tapes_of s) old.calls c.args.caller c.args.call c.in-Sound.sound c.in-Sound.rope new.calls s.history.items c.tell_sound.new.self.history.items c.tell_sound.result
    c.in-Sound.ensures (last_reserved first s t c.reserve.ensures.rest c.reserve.ensures.items) looked.calls
    (items_from c.args.caller c.args.call (call_for c.in-Sound.sound c.in-Sound.rope) new.calls s.history.items t.history.items c.tell_sound.new.self.history.items c.tell_sound.result
    c.in-Sound.ensures c.reserve.ensures.items c.tell_sound.ensures.items)

pub returns-in-Change-clause-turns : goal.returns-in-Change-clause-turns
returns-in-Change-clause-turns g c = λ first t0 stood.
    let s = c.args.self.now in
    let t = c.reserve.new.self in
    let old = g.D.Disk.told c.args.disk.now in
    adds_same (last_of first s) (last_of first t) (tapes_of s) (tapes_of t) old.calls c.args.caller c.args.call (g.D.Disk.told c.land_and_change.new.disk).calls s.history.items t.history.items c.land_and_change.new.self.history.items c.land_and_change.result
    (last_reserved first s t c.reserve.ensures.rest c.reserve.ensures.items) (ap (λ (x : Inside). tapes_of x) c.reserve.ensures.rest) c.reserve.ensures.items
    (c.land_and_change.ensures.turns first t0 (stood_reserved first t0 old s t c.reserve.ensures.rest c.reserve.ensures.items stood))

pub returns-in_err-reserve-clause-frames : goal.returns-in_err-reserve-clause-frames
returns-in_err-reserve-clause-frames g c = λ first t0 stood.
    frames_reserved first t0 (g.D.Disk.told c.args.disk.now) (landed (last_of first c.args.self.now)) c.args.self.now c.reserve.new.self c.reserve.new.self c.reserve.ensures.rest (returns-in_err-reserve-clause-stood g c first t0 stood) (inl refl)

pub returns-in-Length-clause-frames : goal.returns-in-Length-clause-frames
returns-in-Length-clause-frames g c = λ first t0 stood.
    frames_reserved first t0 (g.D.Disk.told c.args.disk.now) (landed (last_of first c.args.self.now)) c.args.self.now c.reserve.new.self c.tell_length.new.self c.reserve.ensures.rest (returns-in-Length-clause-stood g c first t0 stood) (inl (ap (λ (x : Inside). x.lanes.frames.resident) c.tell_length.ensures.rest))

pub returns-in-Interest-clause-frames : goal.returns-in-Interest-clause-frames
returns-in-Interest-clause-frames g c = λ first t0 stood.
    frames_reserved first t0 (g.D.Disk.told c.args.disk.now) (landed (last_of first c.args.self.now)) c.args.self.now c.reserve.new.self c.tell_interest.new.self c.reserve.ensures.rest (returns-in-Interest-clause-stood g c first t0 stood) (inl (ap (λ (x : Inside). x.lanes.frames.resident) c.tell_interest.ensures.rest))

pub returns-in-Sound-clause-frames : goal.returns-in-Sound-clause-frames
returns-in-Sound-clause-frames g c = λ first t0 stood.
    frames_reserved first t0 (g.D.Disk.told c.tell_sound.new.disk) (landed (last_of first c.args.self.now)) c.args.self.now c.reserve.new.self c.tell_sound.new.self c.reserve.ensures.rest (returns-in-Sound-clause-stood g c first t0 stood) c.tell_sound.ensures.frames

pub returns-in-Job-clause-frames : goal.returns-in-Job-clause-frames
returns-in-Job-clause-frames g c = λ first t0 stood.
    frames_reserved first t0 (g.D.Disk.told c.args.disk.now) (landed (last_of first c.args.self.now)) c.args.self.now c.reserve.new.self c.play.new.self c.reserve.ensures.rest (returns-in-Job-clause-stood g c first t0 stood) c.play.ensures.frames

pub returns-in-Stop-clause-frames : goal.returns-in-Stop-clause-frames
returns-in-Stop-clause-frames g c = λ first t0 stood.
    frames_reserved first t0 (g.D.Disk.told c.args.disk.now) (landed (last_of first c.args.self.now)) c.args.self.now c.reserve.new.self c.stop.new.self c.reserve.ensures.rest (returns-in-Stop-clause-stood g c first t0 stood) c.stop.ensures.frames

pub returns-in-Change-clause-frames : goal.returns-in-Change-clause-frames
returns-in-Change-clause-frames g c = λ first t0 stood.
    let s = c.args.self.now in
    let t = c.reserve.new.self in
    let s' = c.land_and_change.new.self in
    subst (λ (x : State). KeepsFrames (landed x) (last_of first s') s.lanes.frames.resident s'.lanes.frames.resident) (last_reserved first s t c.reserve.ensures.rest c.reserve.ensures.items)
    (subst (λ (y : Inside). KeepsFrames (landed (last_of first t)) (last_of first s') y.lanes.frames.resident s'.lanes.frames.resident) c.reserve.ensures.rest
    (c.land_and_change.ensures.frames first t0 (stood_reserved first t0 (g.D.Disk.told c.args.disk.now) s t c.reserve.ensures.rest c.reserve.ensures.items stood)))

pub begin-requires-clause-stood : goal.begin-requires-clause-stood
begin-requires-clause-stood g c κs within =
    let stood = c.requires.stood in
    (stood.0, stood.1, stood_reserved stood.0 stood.1 (g.D.Disk.told c.args.disk.now) c.args.self.now c.reserve.new.self c.reserve.ensures.rest c.reserve.ensures.items stood.2)

pub returns-in-Begin-clause-few : goal.returns-in-Begin-clause-few
returns-in-Begin-clause-few g c = λ first t0 stood. none_made (g.D.Disk.told c.args.disk.now).calls (landing_calls (last_of first c.args.self.now) + most_reads (last_of first c.args.self.now) c.args.call) c.begin.result

pub returns-in-Begin-clause-stood : goal.returns-in-Begin-clause-stood
returns-in-Begin-clause-stood g c = λ first t0 stood.
    c.begin.ensures.stood first t0 (stood_reserved first t0 (g.D.Disk.told c.args.disk.now) c.args.self.now c.reserve.new.self c.reserve.ensures.rest c.reserve.ensures.items stood)

pub returns-in-Begin-clause-turns : goal.returns-in-Begin-clause-turns
returns-in-Begin-clause-turns g c = λ first t0 stood.
    let s = c.args.self.now in
    let now = (g.D.Disk.told c.args.disk.now).calls in
    adds_at_once (last_of first s) (tapes_of s) now c.args.caller c.args.call s.history.items c.begin.new.self.history.items c.begin.result
    (items_from c.args.caller c.args.call (calls.Begin c.in-Begin.lane) now s.history.items c.reserve.new.self.history.items c.begin.new.self.history.items c.begin.result
    c.in-Begin.ensures c.reserve.ensures.items c.begin.ensures.items)

pub returns-in-Begin-clause-frames : goal.returns-in-Begin-clause-frames
returns-in-Begin-clause-frames g c = λ first t0 stood.
    frames_reserved first t0 (g.D.Disk.told c.args.disk.now) (landed (last_of first c.args.self.now)) c.args.self.now c.reserve.new.self c.begin.new.self c.reserve.ensures.rest (returns-in-Begin-clause-stood g c first t0 stood) c.begin.ensures.frames

pub add-requires-clause-stood : goal.add-requires-clause-stood
add-requires-clause-stood g c κs within =
    let stood = c.requires.stood in
    (stood.0, stood.1, stood_reserved stood.0 stood.1 (g.D.Disk.told c.args.disk.now) c.args.self.now c.reserve.new.self c.reserve.ensures.rest c.reserve.ensures.items stood.2)

pub returns-in-Add-clause-few : goal.returns-in-Add-clause-few
returns-in-Add-clause-few g c = λ first t0 stood.
    let now = g.D.Disk.told c.args.disk.now in
    let new = g.D.Disk.told c.add.new.disk in
    on_error (c.add.new.disk ≡ c.args.disk.now) (new.calls ≤ now.calls + (landing_calls (last_of first c.args.self.now) + most_reads (last_of first c.args.self.now) c.args.call))
    (λ same. let calls_same = ap (λ d. (g.D.Disk.told d).calls) same in omega (arith, calls_same)) c.add.result c.add.ensures.still

pub returns-in-Add-clause-stood : goal.returns-in-Add-clause-stood
returns-in-Add-clause-stood g c = λ first t0 stood.
    c.add.ensures.stood first t0 (stood_reserved first t0 (g.D.Disk.told c.args.disk.now) c.args.self.now c.reserve.new.self c.reserve.ensures.rest c.reserve.ensures.items stood)

pub returns-in-Add-clause-calls : goal.returns-in-Add-clause-calls
returns-in-Add-clause-calls g c = λ first t0 stood.
    let s = c.args.self.now in
    let t = c.reserve.new.self in
    let old = g.D.Disk.told c.args.disk.now in
    let new = g.D.Disk.told c.add.new.disk in
    added_within (last_of first s) (last_of first t) (tapes_of s) c.args.call c.in-Add.lane c.in-Add.take old.calls new.calls c.in-Add.ensures (last_reserved first s t c.reserve.ensures.rest c.reserve.ensures.items)
    (subst (λ (l : List (List ℕ)). new.calls ≤ old.calls + add_calls (last_of first t) l c.in-Add.lane c.in-Add.take) (ap (λ (x : Inside). tapes_of x) c.reserve.ensures.rest)
    (c.add.ensures.calls first t0 (stood_reserved first t0 old s t c.reserve.ensures.rest c.reserve.ensures.items stood)))

pub returns-in-Add-clause-turns : goal.returns-in-Add-clause-turns
returns-in-Add-clause-turns g c = λ first t0 stood.
    let s = c.args.self.now in
    let t = c.reserve.new.self in
    let old = g.D.Disk.told c.args.disk.now in
    let new = g.D.Disk.told c.add.new.disk in
    adds_added (last_of first s) (last_of first t) (tapes_of s) old.calls c.args.caller c.args.call c.in-Add.lane c.in-Add.take new.calls s.history.items c.add.new.self.history.items c.add.result
    c.in-Add.ensures (last_reserved first s t c.reserve.ensures.rest c.reserve.ensures.items)
    (subst (λ (l : List (List ℕ)). new.calls ≤ old.calls + add_calls (last_of first t) l c.in-Add.lane c.in-Add.take) (ap (λ (x : Inside). tapes_of x) c.reserve.ensures.rest)
    (c.add.ensures.calls first t0 (stood_reserved first t0 old s t c.reserve.ensures.rest c.reserve.ensures.items stood)))
    (items_from c.args.caller c.args.call (calls.Add c.in-Add.lane c.in-Add.take) new.calls s.history.items t.history.items c.add.new.self.history.items c.add.result
    c.in-Add.ensures c.reserve.ensures.items c.add.ensures.items)

pub returns-in-Add-clause-frames : goal.returns-in-Add-clause-frames
returns-in-Add-clause-frames g c = λ first t0 stood.
    frames_reserved first t0 (g.D.Disk.told c.add.new.disk) (landed (last_of first c.args.self.now)) c.args.self.now c.reserve.new.self c.add.new.self c.reserve.ensures.rest (returns-in-Add-clause-stood g c first t0 stood) c.add.ensures.frames
