use Rattle.std.proofs.Common.{refl, ap}
use Rattle.turnstile.specs.Passes.{mine, seen}
use Rattle.script_lang.specs.Parts.{served}
use Rattle.voice_server.specs.Served.{tapes_of}
use Rattle.servings.proofs.Between.{begins_self}
use Rattle.served_files.specs.Given.{names_in, bytes_in}
use Rattle.callers.proofs.Lined.{played, played_into, plays_none, plays_no_job, follows_none, has_file, serves_file, then_bound, then_failed}
use Rattle.callers.proofs.Telling.{line_serving, none_heard}
use Rattle.callers.proofs.lines.serve_played.Goals as goal

pub returns-in_default : goal.returns-in_default
returns-in_default g c = record {
  pass = c.requires.pass;
  caller = refl;
  all = c.requires.all;
  seen = begins_self (seen c.args.pass.now);
  ok = follows_none c.args.line.now.verb c.args.reply.now c.args.line.now.file (mine c.args.pass.now) (names_in c.args.heard.now.items) (plays_none c.args.line.now.verb c.args.reply.now c.in_default.not-Play);
  err = tt;
  bytes = none_heard g.D.Disk.told (tapes_of c.args.server.now) c.args.server.now c.args.line.now c.args.pass.now (bytes_in c.args.heard.now.items);
}

pub returns-in_default-reply : goal.returns-in_default-reply
returns-in_default-reply g c = record {
  pass = c.requires.pass;
  caller = refl;
  all = c.requires.all;
  seen = begins_self (seen c.args.pass.now);
  ok = follows_none c.args.line.now.verb c.args.reply.now c.args.line.now.file (mine c.args.pass.now) (names_in c.args.heard.now.items) (plays_no_job c.args.line.now.verb c.args.reply.now c.in_default-reply.not-Job);
  err = tt;
  bytes = none_heard g.D.Disk.told (tapes_of c.args.server.now) c.args.server.now c.args.line.now c.args.pass.now (bytes_in c.args.heard.now.items);
}

pub unreachable-requires : goal.unreachable-requires
unreachable-requires g c = has_file c.args.line.now.file (serves_file c.args.line.now.verb c.in-Play.lane c.args.line.now.file (ap served c.in-Play.is) c.requires.file) c.in_default-file.not-Some

pub serve_lane-requires-clause-pass : goal.serve_lane-requires-clause-pass
serve_lane-requires-clause-pass g c κs within = c.requires.pass

pub serve_lane-requires-clause-all : goal.serve_lane-requires-clause-all
serve_lane-requires-clause-all g c κs within = c.requires.all

pub returns-clause-pass : goal.returns-clause-pass
returns-clause-pass g c = c.serve_lane.ensures.pass

pub returns-clause-caller : goal.returns-clause-caller
returns-clause-caller g c = c.serve_lane.ensures.caller

pub returns-clause-all : goal.returns-clause-all
returns-clause-all g c = c.serve_lane.ensures.all

pub returns-clause-seen : goal.returns-clause-seen
returns-clause-seen g c = c.serve_lane.ensures.seen

pub returns-clause-ok : goal.returns-clause-ok
returns-clause-ok g c =
    then_bound c.serve_lane.result _ _
    (played c.args.line.now.verb c.args.reply.now c.in-Play.lane c.in-Play.field-1 c.in-Play.field-2 c.in-Play.field-3 c.in-Job.field-0 c.args.line.now.file c.in-Some.file c.name.result (mine c.args.pass.now) (mine c.serve_lane.new.pass)
    (names_in c.args.heard.now.items) (names_in c.serve_lane.new.heard.items) c.in-Play.is c.in-Job.is c.in-Some.is c.name.ensures)
    c.serve_lane.ensures.ok

pub returns-clause-err : goal.returns-clause-err
returns-clause-err g c =
    then_failed c.serve_lane.result _ _ (played_into c.args.line.now.verb c.args.reply.now c.in-Play.lane c.in-Play.field-1 c.in-Play.field-2 c.in-Play.field-3 c.in-Job.field-0 c.args.pass.now c.serve_lane.new.pass c.in-Play.is c.in-Job.is) c.serve_lane.ensures.err

pub returns-clause-bytes : goal.returns-clause-bytes
returns-clause-bytes g c =
    then_bound c.serve_lane.result _ _
    (line_serving g.D.Disk.told c.args.server.now c.args.line.now.verb c.in-Play.lane c.args.pass.now c.serve_lane.new.pass (bytes_in c.args.heard.now.items) (bytes_in c.serve_lane.new.heard.items) (ap served c.in-Play.is)) c.serve_lane.ensures.bytes
