use Rattle.std.proofs.Common.{◌∙◌, refl, ap}
use Rattle.players.specs.Players.{PlayerState}
use Rattle.turnstile.specs.Passes.{mine, seen}
use Rattle.voice_store.specs.Shown.{history_of}
use Rattle.voice_server.specs.Served.{store_of, tapes_of}
use Rattle.servings.proofs.Between.{begins_on, begins_self}
use Rattle.servings.proofs.Turned.{starts}
use Rattle.servings.proofs.Ends.{served, served_so_far, served_this_far, heard_all}
use Rattle.servings.proofs.Steps.{opened_as, fed, went_on, over, none_left, in_error}
use Rattle.servings.proofs.serving.serve_job.Goals as goal

pub loop-init : goal.loop-init
loop-init g c = record {
  pass = c.requires.pass;
  caller = refl;
  player = c.requires.player;
  lane = refl;
  all = c.requires.all;
  grown = begins_self (seen c.args.pass.now);
  goes = starts (opened_as (g.D.Disk.told (store_of c.args.server.now).origin)) (tapes_of c.args.server.now) c.args.pass.now.caller c.args.player.now.lane (seen c.args.pass.now) (mine c.args.pass.now) c.args.heard.now.items c.args.player.now.at c.args.player.now.lease c.requires.idle;
}

pub returns-in_err-reply-clause-caller : goal.returns-in_err-reply-clause-caller
returns-in_err-reply-clause-caller g c = c.in_err-reply.ensures.caller ∙ c.loop.invariant.caller

pub returns-in_err-reply-clause-lane : goal.returns-in_err-reply-clause-lane
returns-in_err-reply-clause-lane g c = c.in_err-reply.ensures.lane ∙ c.loop.invariant.lane

pub returns-in_err-reply-clause-seen : goal.returns-in_err-reply-clause-seen
returns-in_err-reply-clause-seen g c = begins_on (seen c.args.pass.now) (seen c.loop.pass) (seen c.feed.new.pass) c.loop.invariant.grown c.in_err-reply.ensures.seen

pub returns-in_err-reply-clause-err : goal.returns-in_err-reply-clause-err
returns-in_err-reply-clause-err g c = in_error c.from_residual.result _
    (served_so_far (opened_as (g.D.Disk.told (store_of c.args.server.now).origin)) (tapes_of c.args.server.now) c.args.pass.now.caller c.args.player.now.lane c.args.pass.now c.loop.pass c.feed.new.pass c.args.heard.now.items c.loop.player.at c.loop.player.lease c.loop.heard.items c.loop.invariant.goes c.in_err-reply.ensures.err.0)

pub returns-in_err-on-clause-caller : goal.returns-in_err-on-clause-caller
returns-in_err-on-clause-caller g c = c.in_err-on.ensures.caller ∙ c.in_ok-reply.ensures.caller ∙ c.loop.invariant.caller

pub returns-in_err-on-clause-lane : goal.returns-in_err-on-clause-lane
returns-in_err-on-clause-lane g c = c.in_err-on.ensures.lane ∙ c.in_ok-reply.ensures.lane ∙ c.loop.invariant.lane

pub returns-in_err-on-clause-seen : goal.returns-in_err-on-clause-seen
returns-in_err-on-clause-seen g c =
    begins_on (seen c.args.pass.now) (seen c.feed.new.pass) (seen c.go_on.new.pass) (begins_on (seen c.args.pass.now) (seen c.loop.pass) (seen c.feed.new.pass) c.loop.invariant.grown c.in_ok-reply.ensures.seen) c.in_err-on.ensures.seen

pub returns-in_err-on-clause-err : goal.returns-in_err-on-clause-err
returns-in_err-on-clause-err g c = in_error c.from_residual-in_err-on.result _
    (served_this_far (opened_as (g.D.Disk.told (store_of c.args.server.now).origin)) (tapes_of c.args.server.now) c.args.pass.now.caller c.args.player.now.lane c.args.pass.now c.feed.new.pass c.go_on.new.pass c.args.heard.now.items c.in_ok-reply.reply c.in_ok-reply.ensures.ok.adds.before c.loop.heard.items
    (fed g.D.Disk.told c.args.server.now c.args.pass.now c.loop.pass c.feed.new.pass c.args.player.now.lane c.loop.player c.feed.new.player c.args.heard.now.items c.loop.heard.items (history_of (store_of c.args.server.now)) c.in_ok-reply.reply
    c.loop.invariant.caller c.in_ok-reply.ensures.caller c.loop.invariant.lane c.loop.invariant.goes c.loop.invariant.all c.in_ok-reply.ensures.all c.in_ok-reply.ensures.legal c.in_ok-reply.ensures.ok)
    c.in_err-on.ensures.err)

pub loop-preserved : goal.loop-preserved
loop-preserved g c = record {
  pass = c.in_ok-on.ensures.pass;
  caller = c.in_ok-on.ensures.caller ∙ c.in_ok-reply.ensures.caller ∙ c.loop.invariant.caller;
  player = c.in_ok-on.ensures.player;
  lane = c.in_ok-on.ensures.lane ∙ c.in_ok-reply.ensures.lane ∙ c.loop.invariant.lane;
  all = c.in_ok-on.ensures.all;
  grown = begins_on (seen c.args.pass.now) (seen c.feed.new.pass) (seen c.go_on.new.pass) (begins_on (seen c.args.pass.now) (seen c.loop.pass) (seen c.feed.new.pass) c.loop.invariant.grown c.in_ok-reply.ensures.seen) c.in_ok-on.ensures.seen;
  goes =
      went_on g.D.Disk.told c.args.server.now c.args.pass.now c.loop.pass c.feed.new.pass c.go_on.new.pass c.args.player.now.lane c.loop.player c.feed.new.player c.go_on.new.player c.args.heard.now.items c.loop.heard.items c.go_on.new.heard.items
      (history_of (store_of c.args.server.now)) c.in_ok-reply.reply c.in_ok-on.on (c.in_ok-reply.ensures.caller ∙ c.loop.invariant.caller) c.in_ok-on.ensures.caller (c.in_ok-reply.ensures.lane ∙ c.loop.invariant.lane) c.in_ok-reply.ensures.ok
      (fed g.D.Disk.told c.args.server.now c.args.pass.now c.loop.pass c.feed.new.pass c.args.player.now.lane c.loop.player c.feed.new.player c.args.heard.now.items c.loop.heard.items (history_of (store_of c.args.server.now)) c.in_ok-reply.reply
      c.loop.invariant.caller c.in_ok-reply.ensures.caller c.loop.invariant.lane c.loop.invariant.goes c.loop.invariant.all c.in_ok-reply.ensures.all c.in_ok-reply.ensures.legal c.in_ok-reply.ensures.ok)
      c.in_ok-reply.ensures.all c.in_ok-on.ensures.all c.if-not-on.false c.in_ok-on.ensures.ok;
}

pub returns-then-not-on-clause-caller : goal.returns-then-not-on-clause-caller
returns-then-not-on-clause-caller g c = c.in_ok-on.ensures.caller ∙ c.in_ok-reply.ensures.caller ∙ c.loop.invariant.caller

pub returns-then-not-on-clause-lane : goal.returns-then-not-on-clause-lane
returns-then-not-on-clause-lane g c = c.in_ok-on.ensures.lane ∙ c.in_ok-reply.ensures.lane ∙ c.loop.invariant.lane

pub returns-then-not-on-clause-seen : goal.returns-then-not-on-clause-seen
returns-then-not-on-clause-seen g c =
    begins_on (seen c.args.pass.now) (seen c.feed.new.pass) (seen c.go_on.new.pass) (begins_on (seen c.args.pass.now) (seen c.loop.pass) (seen c.feed.new.pass) c.loop.invariant.grown c.in_ok-reply.ensures.seen) c.in_ok-on.ensures.seen

pub returns-then-not-on-clause-ok : goal.returns-then-not-on-clause-ok
returns-then-not-on-clause-ok g c =
    let end = over c.in_ok-reply.reply c.in_ok-on.on c.feed.new.pass c.go_on.new.pass c.feed.new.player c.go_on.new.player c.loop.heard.items c.go_on.new.heard.items c.if-not-on.true c.in_ok-on.ensures.ok in
    served (opened_as (g.D.Disk.told (store_of c.args.server.now).origin)) (tapes_of c.args.server.now) c.args.pass.now.caller c.args.player.now.lane c.args.pass.now c.feed.new.pass c.go_on.new.pass c.args.heard.now.items c.in_ok-reply.reply c.in_ok-reply.ensures.ok.adds.before c.loop.heard.items
    (fed g.D.Disk.told c.args.server.now c.args.pass.now c.loop.pass c.feed.new.pass c.args.player.now.lane c.loop.player c.feed.new.player c.args.heard.now.items c.loop.heard.items (history_of (store_of c.args.server.now)) c.in_ok-reply.reply
    c.loop.invariant.caller c.in_ok-reply.ensures.caller c.loop.invariant.lane c.loop.invariant.goes c.loop.invariant.all c.in_ok-reply.ensures.all c.in_ok-reply.ensures.legal c.in_ok-reply.ensures.ok)
    end.0 end.1.same_pass

pub returns-then-not-on-clause-done : goal.returns-then-not-on-clause-done
returns-then-not-on-clause-done g c =
    let end = over c.in_ok-reply.reply c.in_ok-on.on c.feed.new.pass c.go_on.new.pass c.feed.new.player c.go_on.new.player c.loop.heard.items c.go_on.new.heard.items c.if-not-on.true c.in_ok-on.ensures.ok in
    ap (λ (p : PlayerState). p.lease) end.1.same_player ∙ none_left c.in_ok-reply.reply c.feed.new.player end.0 c.in_ok-reply.ensures.ok.window

pub returns-then-not-on-clause-bytes : goal.returns-then-not-on-clause-bytes
returns-then-not-on-clause-bytes g c = λ honest first opened only rest none.
    let end = over c.in_ok-reply.reply c.in_ok-on.on c.feed.new.pass c.go_on.new.pass c.feed.new.player c.go_on.new.player c.loop.heard.items c.go_on.new.heard.items c.if-not-on.true c.in_ok-on.ensures.ok in
    heard_all (opened_as (g.D.Disk.told (store_of c.args.server.now).origin)) (tapes_of c.args.server.now) c.args.pass.now.caller c.args.player.now.lane c.args.pass.now c.feed.new.pass c.go_on.new.pass c.args.heard.now.items c.in_ok-reply.reply c.in_ok-reply.ensures.ok.adds.before c.loop.heard.items c.go_on.new.heard.items
    (fed g.D.Disk.told c.args.server.now c.args.pass.now c.loop.pass c.feed.new.pass c.args.player.now.lane c.loop.player c.feed.new.player c.args.heard.now.items c.loop.heard.items (history_of (store_of c.args.server.now)) c.in_ok-reply.reply
    c.loop.invariant.caller c.in_ok-reply.ensures.caller c.loop.invariant.lane c.loop.invariant.goes c.loop.invariant.all c.in_ok-reply.ensures.all c.in_ok-reply.ensures.legal c.in_ok-reply.ensures.ok)
    end.0 end.1.same_pass end.1.same_heard first (honest, opened) only rest none
