use Rattle.std.proofs.Common.{◌≡◌, ◌+◌, ◌≤◌, None, false, sym, ◌∙◌, subst}
use Rattle.std.specs.Prelude.{IsTrue, IfOk, OnErr}
use Rattle.listening.specs.Looks.{OnlyLooked}
use Rattle.voice_model.specs.Step.{landed}
use Rattle.voice_store.specs.Residing.{KeepsFrames}
use Rattle.voice_store.specs.Stood.{last_of}
use Rattle.voice_store.specs.Shown.{Stands, HasRoomFor, history_of, tapes_in, frames_in, state_of}
use Rattle.voice_store.specs.Spare.{FitsBehindOthers}
use Rattle.voice_store.specs.Facts.{GoesOn, hears, most_reads}
use Rattle.voice_store.specs.DeviceCalls.{landing_calls, most_calls}
use Rattle.voice_store.specs.Turns.{AddsShortly}
use Rattle.voice_store.proofs.Spare.{nothing_waits}
use Rattle.voice_store.proofs.Turns.{stands_applied}
use Rattle.voice_store.proofs.store.Store.apply.Goals as goal

pub invariant_of-self : goal.invariant_of-self
invariant_of-self g c =
    let was = c.self.invariant in
    let a = c.apply-answer.ensures in
    let origin = g.D.Disk.told c.self.inside.origin.value in
    record {
      first = was.first;
      stands = stands_applied was.first origin (g.D.Disk.told c.self.inside.disk) (g.D.Disk.told c.apply-answer.new.disk) c.self.inside.inside c.apply-answer.new.self c.args.caller c.args.call c.self.inside.wanted c.is_err.result c.apply-answer.result
          was.stands c.is_err.ensures.value a.tapes a.goes (a.stood was.first (origin.calls + 1) was.stands.stood) a.entry a.err a.cause (a.turns was.first (origin.calls + 1) was.stands.stood);
    }

pub returns-clause-state : goal.returns-clause-state
returns-clause-state g c =
    λ first stands.
    let a = c.apply-answer.ensures in
    let was = subst (λ v. Stands first (g.D.Disk.told v.origin) (g.D.Disk.told v.disk) v.inside v.wanted) (sym c.self.view_is) stands in
    let origin = g.D.Disk.told c.self.inside.origin.value in
    stands_applied first origin (g.D.Disk.told c.self.inside.disk) (g.D.Disk.told c.apply-answer.new.disk) c.self.inside.inside c.apply-answer.new.self c.args.caller c.args.call c.self.inside.wanted c.is_err.result c.apply-answer.result
    was c.is_err.ensures.value a.tapes a.goes (a.stood first (origin.calls + 1) was.stood) a.entry a.err a.cause (a.turns first (origin.calls + 1) was.stood)

pub returns-clause-goes : goal.returns-clause-goes
returns-clause-goes g c = subst (λ v. GoesOn (g.D.Disk.told v.disk) (g.D.Disk.told c.apply-answer.new.disk)) c.self.view_is c.apply-answer.ensures.goes

pub returns-clause-calls : goal.returns-clause-calls
returns-clause-calls g c = λ first stands.
    let was = subst (λ v. Stands first (g.D.Disk.told v.origin) (g.D.Disk.told v.disk) v.inside v.wanted) (sym c.self.view_is) stands in
    let origin = g.D.Disk.told c.self.inside.origin.value in
    subst (λ v. (g.D.Disk.told c.apply-answer.new.disk).calls ≤ (g.D.Disk.told v.disk).calls + most_calls (state_of first v) (tapes_in v) c.args.call) c.self.view_is
    (c.apply-answer.ensures.calls first (origin.calls + 1) was.stood)

pub returns-clause-turns : goal.returns-clause-turns
returns-clause-turns g c = λ first stands.
    let was = subst (λ v. Stands first (g.D.Disk.told v.origin) (g.D.Disk.told v.disk) v.inside v.wanted) (sym c.self.view_is) stands in
    let origin = g.D.Disk.told c.self.inside.origin.value in
    let ack = (g.D.Disk.told c.apply-answer.new.disk).calls in
    subst (λ v. IfOk c.apply-answer.result (λ reply. AddsShortly (state_of first v) (tapes_in v) (g.D.Disk.told v.disk).calls c.args.caller c.args.call reply ack (history_of v) c.apply-answer.new.self.history.items)) c.self.view_is
    (c.apply-answer.ensures.turns first (origin.calls + 1) was.stood)

pub returns-clause-few : goal.returns-clause-few
returns-clause-few g c = λ first stands.
    let was = subst (λ v. Stands first (g.D.Disk.told v.origin) (g.D.Disk.told v.disk) v.inside v.wanted) (sym c.self.view_is) stands in
    let origin = g.D.Disk.told c.self.inside.origin.value in
    let new = g.D.Disk.told c.apply-answer.new.disk in
    subst (λ v. OnErr c.apply-answer.result (new.calls ≤ (g.D.Disk.told v.disk).calls + (landing_calls (state_of first v) + most_reads (state_of first v) c.args.call))) c.self.view_is
    (c.apply-answer.ensures.few first (origin.calls + 1) was.stood)

pub returns-clause-still : goal.returns-clause-still
returns-clause-still g c = λ first stands sure.
    let was = subst (λ v. Stands first (g.D.Disk.told v.origin) (g.D.Disk.told v.disk) v.inside v.wanted) (sym c.self.view_is) stands in
    let origin = g.D.Disk.told c.self.inside.origin.value in
    let disk = g.D.Disk.told c.self.inside.disk in
    let none = subst (λ v. (state_of first v).doubt ≡ None) (sym c.self.view_is) sure in
    subst (λ v. OnErr c.apply-answer.result ((c.apply-answer.new.self.history.items ≡ history_of v) × (hears c.args.call ≡ false → c.apply-answer.new.disk ≡ v.disk))) c.self.view_is
    (c.apply-answer.ensures.still (nothing_waits first (origin.calls + 1) disk c.self.inside.inside was.stood none))

pub returns-clause-looks : goal.returns-clause-looks
returns-clause-looks g c = λ hears honest.
    let was = c.self.invariant in
    let origin = g.D.Disk.told c.self.inside.origin.value in
    let told = subst (λ v. IsTrue (g.D.Disk.told v.disk).honest) (sym c.self.view_is) honest in
    subst (λ v. OnlyLooked (g.D.Disk.told v.disk) (g.D.Disk.told c.apply-answer.new.disk)) c.self.view_is
    ((c.apply-answer.ensures.looks hears was.first (origin.calls + 1) was.stands.stood).looks told)

pub returns-clause-behind : goal.returns-clause-behind
returns-clause-behind g c = λ first stands takes room sure fits.
    let was = subst (λ v. Stands first (g.D.Disk.told v.origin) (g.D.Disk.told v.disk) v.inside v.wanted) (sym c.self.view_is) stands in
    let origin = g.D.Disk.told c.self.inside.origin.value in
    let disk = g.D.Disk.told c.self.inside.disk in
    let none = subst (λ v. (state_of first v).doubt ≡ None) (sym c.self.view_is) sure in
    c.apply-answer.ensures.behind (nothing_waits first (origin.calls + 1) disk c.self.inside.inside was.stood none) first (origin.calls + 1) was.stood takes
    (subst (λ v. FitsBehindOthers (state_of first v) (tapes_in v) c.args.call) (sym c.self.view_is) fits)
    (subst (λ v. HasRoomFor 2 v) (sym c.self.view_is) room)

pub returns-clause-frames : goal.returns-clause-frames
returns-clause-frames g c = λ first stands.
    let was = subst (λ v. Stands first (g.D.Disk.told v.origin) (g.D.Disk.told v.disk) v.inside v.wanted) (sym c.self.view_is) stands in
    let origin = g.D.Disk.told c.self.inside.origin.value in
    let s' = c.apply-answer.new.self in
    subst (λ v. KeepsFrames (landed (state_of first v)) (last_of first s') (frames_in v) s'.lanes.frames.resident) c.self.view_is
    (c.apply-answer.ensures.frames first (origin.calls + 1) was.stood)
