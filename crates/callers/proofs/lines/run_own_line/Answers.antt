use Rattle.std.proofs.Common.{◌∙◌, refl, sym}
use denote.Exit.{no}
use denote.Param.Send.{param_send, arg_send}
use Rattle.turnstile.specs.Passes.{mine, seen}
use Rattle.voice_server.proofs.Moving.{standing_send}
use Rattle.servings.proofs.Between.{begins_self}
use Rattle.servings.proofs.Steps.{in_error}
use Rattle.served_files.specs.Given.{names_in, bytes_in}
use Rattle.callers.proofs.Lined.{others_passed, own_passed, then_bound}
use Rattle.callers.proofs.Telling.{others_heard, own_heard}
use Rattle.callers.proofs.lines.run_own_line.Goals as goal

pub caller-requires-send-T : goal.caller-requires-send-T
caller-requires-send-T g c κs within = param_send 0 _ (arg_send _ no _ (standing_send _ g.D.Disk c.type_bounds.send-D))

pub returns-then-line-caller-clause-pass : goal.returns-then-line-caller-clause-pass
returns-then-line-caller-clause-pass g c = c.requires.pass

pub returns-then-line-caller-clause-caller : goal.returns-then-line-caller-clause-caller
returns-then-line-caller-clause-caller g c = refl

pub returns-then-line-caller-clause-all : goal.returns-then-line-caller-clause-all
returns-then-line-caller-clause-all g c = c.requires.all

pub returns-then-line-caller-clause-seen : goal.returns-then-line-caller-clause-seen
returns-then-line-caller-clause-seen g c = begins_self (seen c.args.pass.now)

pub returns-then-line-caller-clause-ok : goal.returns-then-line-caller-clause-ok
returns-then-line-caller-clause-ok g c = λ stand same.
    others_passed c.args.pass.now.caller c.args.tapes.now c.args.line.now stand c.args.variables.now (mine c.args.pass.now) (names_in c.args.heard.now.items) (λ e. c.if-line-caller.true (e ∙ sym c.caller.ensures))

pub returns-then-line-caller-clause-bytes : goal.returns-then-line-caller-clause-bytes
returns-then-line-caller-clause-bytes g c = others_heard g.D.Disk.told c.args.tapes.now c.args.server.now c.args.line.now c.args.pass.now (bytes_in c.args.heard.now.items)

pub run_line-requires-clause-pass : goal.run_line-requires-clause-pass
run_line-requires-clause-pass g c κs within = c.requires.pass

pub run_line-requires-clause-all : goal.run_line-requires-clause-all
run_line-requires-clause-all g c κs within = c.requires.all

pub run_line-requires-clause-tapes : goal.run_line-requires-clause-tapes
run_line-requires-clause-tapes g c κs within = c.requires.tapes

pub run_line-requires-clause-line : goal.run_line-requires-clause-line
run_line-requires-clause-line g c κs within = c.requires.line

pub returns-clause-pass : goal.returns-clause-pass
returns-clause-pass g c = c.run_line.ensures.pass

pub returns-clause-caller : goal.returns-clause-caller
returns-clause-caller g c = c.run_line.ensures.caller

pub returns-clause-all : goal.returns-clause-all
returns-clause-all g c = c.run_line.ensures.all

pub returns-clause-seen : goal.returns-clause-seen
returns-clause-seen g c = c.run_line.ensures.seen

pub returns-clause-began : goal.returns-clause-began
returns-clause-began g c = λ stand same. c.run_line.ensures.began stand same

pub returns-clause-err : goal.returns-clause-err
returns-clause-err g c = in_error c.run_line.result _ (c.if-line-caller.false ∙ c.caller.ensures)

pub returns-clause-ok : goal.returns-clause-ok
returns-clause-ok g c = λ stand same.
    then_bound c.run_line.result _ _
    (own_passed c.args.pass.now.caller c.args.tapes.now c.args.line.now stand c.args.variables.now c.run_line.new.variables (mine c.args.pass.now) (mine c.run_line.new.pass) (names_in c.args.heard.now.items) (names_in c.run_line.new.heard.items) (c.if-line-caller.false ∙ c.caller.ensures))
    (c.run_line.ensures.ok stand same)

pub returns-clause-bytes : goal.returns-clause-bytes
returns-clause-bytes g c =
    then_bound c.run_line.result _ _
    (own_heard g.D.Disk.told c.args.tapes.now c.args.server.now c.args.line.now c.args.pass.now c.run_line.new.pass (bytes_in c.args.heard.now.items) (bytes_in c.run_line.new.heard.items) (c.if-line-caller.false ∙ c.caller.ensures))
    c.run_line.ensures.bytes
