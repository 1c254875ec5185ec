use Rattle.std.proofs.Common.{ap}
use Rattle.turnstile.specs.Passes.{mine}
use Rattle.script_lang.specs.Parts.{served}
use Rattle.served_files.specs.Given.{names_in, bytes_in}
use Rattle.callers.proofs.Lined.{alone_served, alone_into, has_file, serves_file, then_bound, then_failed}
use Rattle.callers.proofs.Telling.{line_serving}
use Rattle.callers.proofs.lines.run_serve_line.Goals as goal

pub unreachable-requires : goal.unreachable-requires
unreachable-requires g c = c.in_default.not-Serve c.requires.serves.0 c.requires.serves.1

pub unreachable-requires-in_default-file : goal.unreachable-requires-in_default-file
unreachable-requires-in_default-file g c = has_file c.args.line.now.file (serves_file c.args.line.now.verb c.in-Serve.lane c.args.line.now.file (ap served c.in-Serve.is) c.requires.file) c.in_default-file.not-Some

pub serve_lane-requires-clause-pass : goal.serve_lane-requires-clause-pass
serve_lane-requires-clause-pass g c κs within = c.requires.pass

pub serve_lane-requires-clause-all : goal.serve_lane-requires-clause-all
serve_lane-requires-clause-all g c κs within = c.requires.all

pub returns-clause-pass : goal.returns-clause-pass
returns-clause-pass g c = c.serve_lane.ensures.pass

pub returns-clause-caller : goal.returns-clause-caller
returns-clause-caller g c = c.serve_lane.ensures.caller

pub returns-clause-all : goal.returns-clause-all
returns-clause-all g c = c.serve_lane.ensures.all

pub returns-clause-seen : goal.returns-clause-seen
returns-clause-seen g c = c.serve_lane.ensures.seen

pub returns-clause-ok : goal.returns-clause-ok
returns-clause-ok g c =
    then_bound c.serve_lane.result _ _
    (alone_served c.args.line.now.verb c.in-Serve.lane c.args.line.now.file c.in-Some.file c.name.result (mine c.args.pass.now) (mine c.serve_lane.new.pass) (names_in c.args.heard.now.items) (names_in c.serve_lane.new.heard.items) c.in-Serve.is c.in-Some.is c.name.ensures)
    c.serve_lane.ensures.ok

pub returns-clause-err : goal.returns-clause-err
returns-clause-err g c = then_failed c.serve_lane.result _ _ (alone_into c.args.line.now.verb c.in-Serve.lane c.args.pass.now c.serve_lane.new.pass c.in-Serve.is) c.serve_lane.ensures.err

pub returns-clause-bytes : goal.returns-clause-bytes
returns-clause-bytes g c =
    then_bound c.serve_lane.result _ _
    (line_serving g.D.Disk.told c.args.server.now c.args.line.now.verb c.in-Serve.lane c.args.pass.now c.serve_lane.new.pass (bytes_in c.args.heard.now.items) (bytes_in c.serve_lane.new.heard.items) (ap served c.in-Serve.is)) c.serve_lane.ensures.bytes
