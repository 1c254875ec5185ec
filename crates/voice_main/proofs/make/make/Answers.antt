use Rattle.std.proofs.Common.{◌≡◌, ◌∙◌, ℕ, List, subst}
use Rattle.std.specs.Arc.{arc_value}
use Rattle.voice_main.specs.MakePromise.{made_tapes}
use Rattle.voice_main.specs.MadeRuns.{IsTold}
use Rattle.voice_main.proofs.Making.{promise_made, so_far_by}
use Rattle.voice_main.proofs.make.make.Goals as goal

pub returns-clause-promise : goal.returns-clause-promise
returns-clause-promise g c = λ files shelf_faults.
    let seed = c.args.asked.seed in
    let lines = c.args.asked.lines in
    let old = g.D.Disk.told c.args.disk in
    let new = g.D.Disk.told c.tell_lines.result.disk in
    let had = g.O.Sink.contents c.args.out.now in
    let now = g.O.Sink.contents c.tell_lines.new.out in
    let history = c.tell_lines.result.history.items in
    let same : arc_value c.in-Ok-new.tapes ≡ made_tapes seed lines = c.in-Ok-new.ensures.ok ∙ c.in-Ok.ensures.tapes in
    promise_made seed lines files shelf_faults had now (g.O.Sink.faults c.args.out.now) (g.O.Sink.empty_takes c.args.out.now) (g.O.Sink.faults c.tell_lines.new.out) (g.O.Sink.empty_takes c.tell_lines.new.out) old new history c.in-Ok.script c.in-Ok.ensures.script
    c.tell_lines.result.status c.tell_lines.ensures.which
    (subst (λ (t : List (List ℕ)). IsTold t c.in-Ok.script had now old new history c.tell_lines.result.status) same c.tell_lines.ensures.told)
    (so_far_by old new history c.in-Ok.script (arc_value c.in-Ok-new.tapes) (made_tapes seed lines) same c.tell_lines.ensures.so_far)
