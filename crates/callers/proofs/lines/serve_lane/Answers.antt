use Rattle.std.proofs.Common.{Some, ap}
use Rattle.players.specs.Players.{PlayerState}
use Rattle.servings.proofs.Steps.{in_error}
use Rattle.served_files.specs.Given.{names_in, bytes_in}
use Rattle.callers.proofs.Lined.{lane_served, served_into, then_bound, not_done, from_lane}
use Rattle.callers.proofs.Telling.{lane_heard}
use Rattle.callers.proofs.lines.serve_lane.Goals as goal

pub serve_job-requires-clause-pass : goal.serve_job-requires-clause-pass
serve_job-requires-clause-pass g c κs within = c.requires.pass

pub serve_job-requires-clause-player : goal.serve_job-requires-clause-player
serve_job-requires-clause-player g c κs within = c.player-player.ensures.of

pub serve_job-requires-clause-all : goal.serve_job-requires-clause-all
serve_job-requires-clause-all g c κs within = c.requires.all

pub serve_job-requires-clause-idle : goal.serve_job-requires-clause-idle
serve_job-requires-clause-idle g c κs within = ap (λ (p : PlayerState). p.lease) c.player-player.ensures.player

pub returns-in_err-reply-clause-pass : goal.returns-in_err-reply-clause-pass
returns-in_err-reply-clause-pass g c = c.in_err-reply.ensures.pass

pub returns-in_err-reply-clause-caller : goal.returns-in_err-reply-clause-caller
returns-in_err-reply-clause-caller g c = c.in_err-reply.ensures.caller

pub returns-in_err-reply-clause-all : goal.returns-in_err-reply-clause-all
returns-in_err-reply-clause-all g c = c.in_err-reply.ensures.all

pub returns-in_err-reply-clause-seen : goal.returns-in_err-reply-clause-seen
returns-in_err-reply-clause-seen g c = c.in_err-reply.ensures.seen

pub returns-in_err-reply-clause-ok : goal.returns-in_err-reply-clause-ok
returns-in_err-reply-clause-ok g c = not_done c.from_residual.result _ c.from_residual.ensures.0

pub returns-in_err-reply-clause-err : goal.returns-in_err-reply-clause-err
returns-in_err-reply-clause-err g c = in_error c.from_residual.result _ (from_lane c.player-player.result.lane c.args.lane c.args.pass.now c.serve_job.new.pass (ap (λ (p : PlayerState). p.lane) c.player-player.ensures.player) c.in_err-reply.ensures.err)

pub returns-in_err-reply-clause-bytes : goal.returns-in_err-reply-clause-bytes
returns-in_err-reply-clause-bytes g c = not_done c.from_residual.result _ c.from_residual.ensures.0

pub returns-clause-pass : goal.returns-clause-pass
returns-clause-pass g c = c.in_ok-reply.ensures.pass

pub returns-clause-caller : goal.returns-clause-caller
returns-clause-caller g c = c.in_ok-reply.ensures.caller

pub returns-clause-all : goal.returns-clause-all
returns-clause-all g c = c.in_ok-reply.ensures.all

pub returns-clause-seen : goal.returns-clause-seen
returns-clause-seen g c = c.in_ok-reply.ensures.seen

pub returns-clause-ok : goal.returns-clause-ok
returns-clause-ok g c =
    let at = ap (λ (p : PlayerState). p.lane) c.player-player.ensures.player in
    then_bound c.keep.result _ _ (lane_served c.player-player.result.lane c.args.lane c.in_ok-reply.reply c.args.pass.now c.serve_job.new.pass (Some c.args.file) (names_in c.args.heard.now.items) (names_in c.keep.new.heard.items) at c.in_ok-reply.ensures.ok) c.keep.ensures.names

pub returns-clause-err : goal.returns-clause-err
returns-clause-err g c =
    let at = ap (λ (p : PlayerState). p.lane) c.player-player.ensures.player in
    in_error c.keep.result _ (from_lane c.player-player.result.lane c.args.lane c.args.pass.now c.serve_job.new.pass at (served_into c.player-player.result.lane c.in_ok-reply.reply c.args.pass.now c.serve_job.new.pass c.in_ok-reply.ensures.ok))

pub returns-clause-bytes : goal.returns-clause-bytes
returns-clause-bytes g c =
    let at = ap (λ (p : PlayerState). p.lane) c.player-player.ensures.player in
    then_bound c.keep.result _ _ (lane_heard g.D.Disk.told c.args.server.now c.player-player.result.lane c.args.lane c.in_ok-reply.reply c.args.pass.now c.serve_job.new.pass c.serve_job.new.heard.items (bytes_in c.args.heard.now.items) (bytes_in c.keep.new.heard.items) at
    c.in_ok-reply.ensures.caller c.requires.all c.in_ok-reply.ensures.all c.in_ok-reply.ensures.seen c.in_ok-reply.ensures.ok
    (λ honest first opened fed rest. c.in_ok-reply.ensures.bytes honest first opened fed rest c.new-bytes.ensures.items)) c.keep.ensures.bytes
