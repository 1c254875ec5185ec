use Rattle.std.proofs.Common.{◌+◌, ◌≤◌, None, IsTrue, inl, sym, ◌∙◌, ap, subst}
use Rattle.std.specs.Prelude.{IfOk}
use Rattle.voice_store.specs.Feeding.{HasSamples}
use Rattle.voice_store.specs.Residing.{HoldsWindow, MovesFrames}
use Rattle.voice_store.specs.Stood.{last_of}
use Rattle.voice_store.specs.declared.inside.Inside.{Inside}
use Rattle.playing.specs.Frames.{resident_at}
use Rattle.voice_model.specs.State.{State}
use Rattle.voice_store.specs.Shown.{Stands, frames_in, state_of}
use Rattle.voice_store.specs.Turns.{unread_blocks, window_blocks}
use Rattle.voice_store.proofs.Heard.{last_reserved}
use Rattle.voice_store.proofs.Landed.{stands_reserved}
use Rattle.voice_store.proofs.Served.{same_samples, same_holds}
use Rattle.voice_store.proofs.Turns.{stands_wanted, stands_fed}
use Rattle.voice_store.proofs.store.Store.feed.Goals as goal

pub invariant_of-self : goal.invariant_of-self
invariant_of-self g c =
    let was = c.self.invariant in
    record {
      first = was.first;
      stands = stands_wanted was.first (g.D.Disk.told c.self.inside.origin.value) (g.D.Disk.told c.self.inside.disk) c.reserve.new.self c.self.inside.wanted
          (stands_reserved was.first (g.D.Disk.told c.self.inside.origin.value) (g.D.Disk.told c.self.inside.disk) c.self.inside.inside c.reserve.new.self c.self.inside.wanted c.reserve.ensures.rest c.reserve.ensures.items was.stands);
    }

pub returns-then-is_err-clause-state : goal.returns-then-is_err-clause-state
returns-then-is_err-clause-state g c = λ first stands.
    let was = subst (λ v. Stands first (g.D.Disk.told v.origin) (g.D.Disk.told v.disk) v.inside v.wanted) (sym c.self.view_is) stands in
    stands_wanted first (g.D.Disk.told c.self.inside.origin.value) (g.D.Disk.told c.self.inside.disk) c.reserve.new.self c.self.inside.wanted
    (stands_reserved first (g.D.Disk.told c.self.inside.origin.value) (g.D.Disk.told c.self.inside.disk) c.self.inside.inside c.reserve.new.self c.self.inside.wanted c.reserve.ensures.rest c.reserve.ensures.items was)

pub feed-answer-requires-clause-stood : goal.feed-answer-requires-clause-stood
feed-answer-requires-clause-stood g c κs within =
    let was = c.self.invariant in
    let origin = g.D.Disk.told c.self.inside.origin.value in
    (was.first, origin.calls + 1, (stands_reserved was.first origin (g.D.Disk.told c.self.inside.disk) c.self.inside.inside c.reserve.new.self c.self.inside.wanted c.reserve.ensures.rest c.reserve.ensures.items was.stands).stood)

pub invariant_of-self-2 : goal.invariant_of-self-2
invariant_of-self-2 g c =
    let was = c.self.invariant in
    let a = c.feed-answer.ensures in
    let origin = g.D.Disk.told c.self.inside.origin.value in
    let old = g.D.Disk.told c.self.inside.disk in
    let then = stands_reserved was.first origin old c.self.inside.inside c.reserve.new.self c.self.inside.wanted c.reserve.ensures.rest c.reserve.ensures.items was.stands in
    record {
      first = was.first;
      stands = stands_fed was.first origin old (g.D.Disk.told c.feed-answer.new.disk) c.reserve.new.self c.feed-answer.new.self c.args.caller c.args.lane None c.self.inside.wanted c.is_err-2.result c.feed-answer.result
          then c.is_err-2.ensures.value a.tapes a.looks (a.stood was.first (origin.calls + 1) then.stood) a.items a.err a.cause (a.calls was.first (origin.calls + 1) then.stood);
    }

pub returns-clause-state : goal.returns-clause-state
returns-clause-state g c = λ first stands.
    let a = c.feed-answer.ensures in
    let was = subst (λ v. Stands first (g.D.Disk.told v.origin) (g.D.Disk.told v.disk) v.inside v.wanted) (sym c.self.view_is) stands in
    let origin = g.D.Disk.told c.self.inside.origin.value in
    let old = g.D.Disk.told c.self.inside.disk in
    let then = stands_reserved first origin old c.self.inside.inside c.reserve.new.self c.self.inside.wanted c.reserve.ensures.rest c.reserve.ensures.items was in
    stands_fed first origin old (g.D.Disk.told c.feed-answer.new.disk) c.reserve.new.self c.feed-answer.new.self c.args.caller c.args.lane None c.self.inside.wanted c.is_err-2.result c.feed-answer.result
    then c.is_err-2.ensures.value a.tapes a.looks (a.stood first (origin.calls + 1) then.stood) a.items a.err a.cause (a.calls first (origin.calls + 1) then.stood)

pub returns-clause-samples : goal.returns-clause-samples
returns-clause-samples g c = λ honest first stands.
    let was = subst (λ v. Stands first (g.D.Disk.told v.origin) (g.D.Disk.told v.disk) v.inside v.wanted) (sym c.self.view_is) stands in
    let origin = g.D.Disk.told c.self.inside.origin.value in
    let old = g.D.Disk.told c.self.inside.disk in
    let told = subst (λ v. IsTrue (g.D.Disk.told v.disk).honest) (sym c.self.view_is) honest in
    let then = stands_reserved first origin old c.self.inside.inside c.reserve.new.self c.self.inside.wanted c.reserve.ensures.rest c.reserve.ensures.items was in
    subst (λ v. IfOk c.feed-answer.result (HasSamples (state_of first v) c.args.lane)) c.self.view_is
    (same_samples _ _ c.args.lane c.feed-answer.result (last_reserved first c.self.inside.inside c.reserve.new.self c.reserve.ensures.rest c.reserve.ensures.items) (c.feed-answer.ensures.samples told first (origin.calls + 1) then.stood))

pub returns-clause-calls : goal.returns-clause-calls
returns-clause-calls g c = λ first stands.
    let was = subst (λ v. Stands first (g.D.Disk.told v.origin) (g.D.Disk.told v.disk) v.inside v.wanted) (sym c.self.view_is) stands in
    let origin = g.D.Disk.told c.self.inside.origin.value in
    let old = g.D.Disk.told c.self.inside.disk in
    let new = g.D.Disk.told c.feed-answer.new.disk in
    let then = stands_reserved first origin old c.self.inside.inside c.reserve.new.self c.self.inside.wanted c.reserve.ensures.rest c.reserve.ensures.items was in
    subst (λ v. new.calls ≤ (g.D.Disk.told v.disk).calls + window_blocks (state_of first v) c.args.lane None) c.self.view_is
    (subst (λ (x : State). new.calls ≤ old.calls + window_blocks x c.args.lane None) (last_reserved first c.self.inside.inside c.reserve.new.self c.reserve.ensures.rest c.reserve.ensures.items)
    (c.feed-answer.ensures.calls first (origin.calls + 1) then.stood))

pub returns-clause-holds : goal.returns-clause-holds
returns-clause-holds g c = λ first stands.
    let was = subst (λ v. Stands first (g.D.Disk.told v.origin) (g.D.Disk.told v.disk) v.inside v.wanted) (sym c.self.view_is) stands in
    let origin = g.D.Disk.told c.self.inside.origin.value in
    let old = g.D.Disk.told c.self.inside.disk in
    let then = stands_reserved first origin old c.self.inside.inside c.reserve.new.self c.self.inside.wanted c.reserve.ensures.rest c.reserve.ensures.items was in
    let frames = c.feed-answer.new.self.lanes.frames.resident in
    subst (λ v. IfOk c.feed-answer.result (HoldsWindow (state_of first v) c.args.lane frames)) c.self.view_is
    (same_holds _ _ c.args.lane frames c.feed-answer.result (last_reserved first c.self.inside.inside c.reserve.new.self c.reserve.ensures.rest c.reserve.ensures.items) (c.feed-answer.ensures.holds first (origin.calls + 1) then.stood))

pub returns-clause-moves : goal.returns-clause-moves
returns-clause-moves g c = λ first stands.
    let was = subst (λ v. Stands first (g.D.Disk.told v.origin) (g.D.Disk.told v.disk) v.inside v.wanted) (sym c.self.view_is) stands in
    let origin = g.D.Disk.told c.self.inside.origin.value in
    let old = g.D.Disk.told c.self.inside.disk in
    let then = stands_reserved first origin old c.self.inside.inside c.reserve.new.self c.self.inside.wanted c.reserve.ensures.rest c.reserve.ensures.items was in
    let s' = c.feed-answer.new.self in
    subst (λ v. MovesFrames (last_of first s') (frames_in v) s'.lanes.frames.resident) c.self.view_is
    (subst (λ (x : Inside). MovesFrames (last_of first s') x.lanes.frames.resident s'.lanes.frames.resident) c.reserve.ensures.rest (c.feed-answer.ensures.moves first (origin.calls + 1) then.stood))

pub returns-then-is_err-clause-moves : goal.returns-then-is_err-clause-moves
returns-then-is_err-clause-moves g c = λ first stands f d at. inl (ap (λ (x : Inside). resident_at x.lanes.frames.resident f) c.reserve.ensures.rest ∙ ap (λ v. resident_at (frames_in v) f) c.self.view_is ∙ at)

pub returns-clause-reads : goal.returns-clause-reads
returns-clause-reads g c = λ first stands.
    let was = subst (λ v. Stands first (g.D.Disk.told v.origin) (g.D.Disk.told v.disk) v.inside v.wanted) (sym c.self.view_is) stands in
    let origin = g.D.Disk.told c.self.inside.origin.value in
    let old = g.D.Disk.told c.self.inside.disk in
    let new = g.D.Disk.told c.feed-answer.new.disk in
    let then = stands_reserved first origin old c.self.inside.inside c.reserve.new.self c.self.inside.wanted c.reserve.ensures.rest c.reserve.ensures.items was in
    subst (λ v. new.calls ≤ (g.D.Disk.told v.disk).calls + unread_blocks (state_of first v) c.args.lane None (frames_in v)) c.self.view_is
    (subst (λ (y : Inside). new.calls ≤ old.calls + unread_blocks (last_of first c.self.inside.inside) c.args.lane None y.lanes.frames.resident) c.reserve.ensures.rest
    (subst (λ (x : State). new.calls ≤ old.calls + unread_blocks x c.args.lane None c.reserve.new.self.lanes.frames.resident) (last_reserved first c.self.inside.inside c.reserve.new.self c.reserve.ensures.rest c.reserve.ensures.items)
    (c.feed-answer.ensures.reads first (origin.calls + 1) then.stood)))
