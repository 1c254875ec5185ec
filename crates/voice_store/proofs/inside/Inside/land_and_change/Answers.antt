use Rattle.std.proofs.Common.{◌≡◌, ◌++◌, ◌∷◌, [], ◌&&◌, refl, sym, ap, subst, ◌∙◌}
use Rattle.std.specs.Prelude.{is_some}
use Rattle.std.specs.Arc.{arc_value}
use Rattle.voice_outside.specs.Counters.{HasRisen}
use Rattle.voice_model.specs.declared.calls.Reply.{Reply}
use Rattle.voice_store.specs.Facts.{Adds, AddsLanding, IsFault, entry_of}
use Rattle.voice_store.specs.Stood.{last_of, tapes_of}
use Rattle.voice_store.specs.Spare.{FitsBehindOthers}
use Rattle.voice_store.specs.declared.inside.Inside.{Inside}
use Rattle.voice_store.proofs.Refused.{unlanded_stays}
use Rattle.voice_store.proofs.Landed.{risen_later, adds_after, landing_same, if_ok, on_error}
use Rattle.voice_store.proofs.Counted.{landed_within, unlanded_within}
use Rattle.voice_store.proofs.Turns.{adds_unlanded, adds_landed, some_landing}
use Rattle.voice_model.specs.Step.{landed}
use Rattle.voice_store.proofs.Residing.{kept_frames, kept_landed, keeps_noted}
use Rattle.voice_store.proofs.inside.Inside.land_and_change.Goals as goal

pub change-requires-clause-stood : goal.change-requires-clause-stood
change-requires-clause-stood g c κs within =
    let stood = c.requires.stood in
    (stood.0, stood.1, c.land_first.ensures.stood stood.0 stood.1 stood.2)

pub returns-clause-calls : goal.returns-clause-calls
returns-clause-calls g c = λ first t0 stood.
    let s = c.args.self.now in
    let t = c.land_first.new.self in
    let old = g.D.Disk.told c.args.disk.now in
    landed_within (last_of first s) (last_of first t) (tapes_of s) (tapes_of t) c.args.call old.calls (g.D.Disk.told c.land_first.new.disk).calls (g.D.Disk.told c.change.new.disk).calls
    c.requires.changing (c.if-not-land_first.ensures.landed refl first t0 stood) (ap arc_value c.land_first.ensures.tapes)
    (c.land_first.ensures.calls first t0 stood) (c.change.ensures.calls first t0 (c.land_first.ensures.stood first t0 stood))

pub returns-then-not-land_first-clause-calls : goal.returns-then-not-land_first-clause-calls
returns-then-not-land_first-clause-calls g c = λ first t0 stood.
    let s = c.args.self.now in
    unlanded_within (last_of first s) (tapes_of s) c.args.call (g.D.Disk.told c.args.disk.now).calls (g.D.Disk.told c.land_first.new.disk).calls c.requires.changing (c.land_first.ensures.calls first t0 stood)

pub returns-clause-cause : goal.returns-clause-cause
returns-clause-cause g c =
    let old = (g.D.Disk.told c.args.disk.now).faults in
    let mid = (g.D.Disk.told c.land_first.new.disk).faults in
    let new = (g.D.Disk.told c.change.new.disk).faults in
    if_ok (λ (reply : Reply). IsFault reply → HasRisen mid new) (λ (reply : Reply). IsFault reply → HasRisen old new)
    (λ reply h fault. risen_later old mid new c.land_first.ensures.goes.faults (h fault)) c.change.result c.change.ensures.cause

pub returns-clause-entry : goal.returns-clause-entry
returns-clause-entry g c =
    let old = c.args.self.now.history.items in
    let mid = c.land_first.new.self.history.items in
    let new = c.change.new.self.history.items in
    let ack = (g.D.Disk.told c.change.new.disk).calls in
    if_ok (λ (reply : Reply). new ≡ mid ++ entry_of c.args.caller c.args.call reply ack ∷ []) (λ (reply : Reply). Adds c.args.caller c.args.call reply ack old new)
    (λ reply h. adds_after c.args.caller c.args.call reply ack old mid new (some_landing (g.D.Disk.told c.land_first.new.disk).calls old mid c.land_first.ensures.history) h) c.change.result c.change.ensures.items

pub returns-clause-err : goal.returns-clause-err
returns-clause-err g c =
    let old = c.args.self.now.history.items in
    let mid = c.land_first.new.self.history.items in
    let new = c.change.new.self.history.items in
    on_error (new ≡ mid) (AddsLanding old new) (λ h. landing_same old mid new (some_landing (g.D.Disk.told c.land_first.new.disk).calls old mid c.land_first.ensures.history) h) c.change.result c.change.ensures.err

pub returns-clause-stood : goal.returns-clause-stood
returns-clause-stood g c = λ first t0 stood. c.change.ensures.stood first t0 (c.land_first.ensures.stood first t0 stood)

pub returns-then-not-land_first-clause-stood : goal.returns-then-not-land_first-clause-stood
returns-then-not-land_first-clause-stood g c = λ first t0 stood.
    let s = c.land_first.new.self in
    let disk = g.D.Disk.told c.land_first.new.disk in
    let last = last_of first s in
    let unsure = c.if-not-land_first.ensures.unsure refl first t0 stood in
    c.note_fault.ensures.stood first t0 (c.land_first.ensures.stood first t0 stood)
    (unlanded_stays disk.honest last (tapes_of s) c.args.caller c.args.call c.requires.built (ap (λ b. b && is_some last.doubt) c.requires.changing ∙ unsure))

pub returns-clause-spare : goal.returns-clause-spare
returns-clause-spare g c = λ none first t0 stood takes fits.
    c.change.ensures.spare first t0 (c.land_first.ensures.stood first t0 stood) takes
    (subst (λ (s : Inside). FitsBehindOthers (last_of first s) (tapes_of s) c.args.call) (sym (c.land_first.ensures.still none).1) fits)

pub returns-clause-turns : goal.returns-clause-turns
returns-clause-turns g c = λ first t0 stood.
    let s = c.args.self.now in
    let t = c.land_first.new.self in
    let mid = g.D.Disk.told c.land_first.new.disk in
    let landed = c.land_first.ensures.stood first t0 stood in
    adds_landed first t0 mid s t c.args.caller c.args.call (g.D.Disk.told c.args.disk.now).calls (g.D.Disk.told c.change.new.disk).calls c.change.new.self.history.items c.change.result c.requires.changing landed (c.if-not-land_first.ensures.sure refl)
    c.land_first.ensures.tapes c.land_first.ensures.history (c.if-not-land_first.ensures.landed refl first t0 stood) (c.land_first.ensures.calls first t0 stood) (c.change.ensures.calls first t0 landed) c.change.ensures.items

pub returns-then-not-land_first-clause-turns : goal.returns-then-not-land_first-clause-turns
returns-then-not-land_first-clause-turns g c = λ first t0 stood.
    let s = c.args.self.now in
    adds_unlanded (last_of first s) (tapes_of s) (g.D.Disk.told c.args.disk.now).calls c.args.caller c.args.call c.note_fault.result (g.D.Disk.told c.land_first.new.disk).calls s.history.items c.land_first.new.self.history.items c.note_fault.new.self.history.items
    c.requires.changing (c.land_first.ensures.calls first t0 stood) (c.if-not-land_first.ensures.failed refl) c.note_fault.ensures.items

pub returns-clause-frames : goal.returns-clause-frames
returns-clause-frames g c = λ first t0 stood.
    kept_landed first t0 (g.D.Disk.told c.land_first.new.disk) (g.D.Disk.told c.change.new.disk) (landed (last_of first c.args.self.now)) c.args.self.now c.land_first.new.self c.change.new.self
    (c.land_first.ensures.stood first t0 stood) (returns-clause-stood g c first t0 stood) (c.if-not-land_first.ensures.landed refl first t0 stood) c.land_first.ensures.frames c.change.ensures.frames

pub returns-then-not-land_first-clause-frames : goal.returns-then-not-land_first-clause-frames
returns-then-not-land_first-clause-frames g c = λ first t0 stood.
    kept_frames first t0 (g.D.Disk.told c.land_first.new.disk) (landed (last_of first c.args.self.now)) c.args.self.now c.note_fault.new.self (returns-then-not-land_first-clause-stood g c first t0 stood)
    (keeps_noted c.args.self.now c.land_first.new.self c.note_fault.new.self c.land_first.ensures.frames c.note_fault.ensures.rest)
