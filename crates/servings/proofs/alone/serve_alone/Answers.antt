use Rattle.std.proofs.Common.{◌∙◌, refl, ap, inl}
use Rattle.players.specs.Players.{PlayerState}
use Rattle.voice_store.specs.Shown.{history_of, tapes_in, pool_of}
use Rattle.servings.proofs.ByOne.{starts_alone, so_far_alone, this_far_alone, served_alone, heard_alone}
use Rattle.servings.proofs.OneSteps.{kept_as, lasts_still, lasts_on, samples_alone, fed_one, went_on_alone, over_alone, same_pool, no_pool}
use Rattle.servings.proofs.Steps.{in_error}
use Rattle.servings.proofs.alone.serve_alone.Goals as goal

pub loop-init : goal.loop-init
loop-init g c =
    record {
      lane = ap (λ (p : PlayerState). p.lane) c.new-player.ensures;
      pool = no_pool (pool_of c.args.store.now) c.new-player.result c.args.lane c.new-player.ensures;
      lasts = lasts_still g.D.Disk.told c.args.store.now;
      goes = starts_alone (kept_as g.D.Disk.told c.args.store.now) (tapes_in c.args.store.now) c.args.caller c.args.lane (history_of c.args.store.now) c.args.heard.now.items c.new-player.result.at c.new-player.result.lease (ap (λ (p : PlayerState). p.lease) c.new-player.ensures);
    }

pub go_on_alone-requires-clause-pool : goal.go_on_alone-requires-clause-pool
go_on_alone-requires-clause-pool g c κs within =
    same_pool (pool_of c.loop.store) (pool_of c.feed_player.new.store) c.feed_player.new.player c.in_ok-last.ensures.same.2 c.in_ok-last.ensures.player

pub returns-in_err-last-clause-stands : goal.returns-in_err-last-clause-stands
returns-in_err-last-clause-stands g c =
    (lasts_on g.D.Disk.told c.args.store.now c.loop.store c.feed_player.new.store c.loop.invariant.lasts c.in_err-last.ensures.state c.in_err-last.ensures.goes c.in_err-last.ensures.same.0 c.in_err-last.ensures.same.1).stands

pub returns-in_err-last-clause-goes : goal.returns-in_err-last-clause-goes
returns-in_err-last-clause-goes g c =
    (lasts_on g.D.Disk.told c.args.store.now c.loop.store c.feed_player.new.store c.loop.invariant.lasts c.in_err-last.ensures.state c.in_err-last.ensures.goes c.in_err-last.ensures.same.0 c.in_err-last.ensures.same.1).goes

pub returns-in_err-last-clause-origin : goal.returns-in_err-last-clause-origin
returns-in_err-last-clause-origin g c =
    (lasts_on g.D.Disk.told c.args.store.now c.loop.store c.feed_player.new.store c.loop.invariant.lasts c.in_err-last.ensures.state c.in_err-last.ensures.goes c.in_err-last.ensures.same.0 c.in_err-last.ensures.same.1).origin

pub returns-in_err-last-clause-tapes : goal.returns-in_err-last-clause-tapes
returns-in_err-last-clause-tapes g c =
    (lasts_on g.D.Disk.told c.args.store.now c.loop.store c.feed_player.new.store c.loop.invariant.lasts c.in_err-last.ensures.state c.in_err-last.ensures.goes c.in_err-last.ensures.same.0 c.in_err-last.ensures.same.1).tapes

pub returns-in_err-on-clause-stands : goal.returns-in_err-on-clause-stands
returns-in_err-on-clause-stands g c =
    (lasts_on g.D.Disk.told c.args.store.now c.feed_player.new.store c.go_on_alone.new.store (lasts_on g.D.Disk.told c.args.store.now c.loop.store c.feed_player.new.store c.loop.invariant.lasts c.in_ok-last.ensures.state c.in_ok-last.ensures.goes c.in_ok-last.ensures.same.0 c.in_ok-last.ensures.same.1) c.in_err-on.ensures.state c.in_err-on.ensures.goes c.in_err-on.ensures.same.0 c.in_err-on.ensures.same.1).stands

pub returns-in_err-on-clause-goes : goal.returns-in_err-on-clause-goes
returns-in_err-on-clause-goes g c =
    (lasts_on g.D.Disk.told c.args.store.now c.feed_player.new.store c.go_on_alone.new.store (lasts_on g.D.Disk.told c.args.store.now c.loop.store c.feed_player.new.store c.loop.invariant.lasts c.in_ok-last.ensures.state c.in_ok-last.ensures.goes c.in_ok-last.ensures.same.0 c.in_ok-last.ensures.same.1) c.in_err-on.ensures.state c.in_err-on.ensures.goes c.in_err-on.ensures.same.0 c.in_err-on.ensures.same.1).goes

pub returns-in_err-on-clause-origin : goal.returns-in_err-on-clause-origin
returns-in_err-on-clause-origin g c =
    (lasts_on g.D.Disk.told c.args.store.now c.feed_player.new.store c.go_on_alone.new.store (lasts_on g.D.Disk.told c.args.store.now c.loop.store c.feed_player.new.store c.loop.invariant.lasts c.in_ok-last.ensures.state c.in_ok-last.ensures.goes c.in_ok-last.ensures.same.0 c.in_ok-last.ensures.same.1) c.in_err-on.ensures.state c.in_err-on.ensures.goes c.in_err-on.ensures.same.0 c.in_err-on.ensures.same.1).origin

pub returns-in_err-on-clause-tapes : goal.returns-in_err-on-clause-tapes
returns-in_err-on-clause-tapes g c =
    (lasts_on g.D.Disk.told c.args.store.now c.feed_player.new.store c.go_on_alone.new.store (lasts_on g.D.Disk.told c.args.store.now c.loop.store c.feed_player.new.store c.loop.invariant.lasts c.in_ok-last.ensures.state c.in_ok-last.ensures.goes c.in_ok-last.ensures.same.0 c.in_ok-last.ensures.same.1) c.in_err-on.ensures.state c.in_err-on.ensures.goes c.in_err-on.ensures.same.0 c.in_err-on.ensures.same.1).tapes

pub returns-then-not-on-clause-stands : goal.returns-then-not-on-clause-stands
returns-then-not-on-clause-stands g c =
    (lasts_on g.D.Disk.told c.args.store.now c.feed_player.new.store c.go_on_alone.new.store (lasts_on g.D.Disk.told c.args.store.now c.loop.store c.feed_player.new.store c.loop.invariant.lasts c.in_ok-last.ensures.state c.in_ok-last.ensures.goes c.in_ok-last.ensures.same.0 c.in_ok-last.ensures.same.1) c.in_ok-on.ensures.state c.in_ok-on.ensures.goes c.in_ok-on.ensures.same.0 c.in_ok-on.ensures.same.1).stands

pub returns-then-not-on-clause-goes : goal.returns-then-not-on-clause-goes
returns-then-not-on-clause-goes g c =
    (lasts_on g.D.Disk.told c.args.store.now c.feed_player.new.store c.go_on_alone.new.store (lasts_on g.D.Disk.told c.args.store.now c.loop.store c.feed_player.new.store c.loop.invariant.lasts c.in_ok-last.ensures.state c.in_ok-last.ensures.goes c.in_ok-last.ensures.same.0 c.in_ok-last.ensures.same.1) c.in_ok-on.ensures.state c.in_ok-on.ensures.goes c.in_ok-on.ensures.same.0 c.in_ok-on.ensures.same.1).goes

pub returns-then-not-on-clause-origin : goal.returns-then-not-on-clause-origin
returns-then-not-on-clause-origin g c =
    (lasts_on g.D.Disk.told c.args.store.now c.feed_player.new.store c.go_on_alone.new.store (lasts_on g.D.Disk.told c.args.store.now c.loop.store c.feed_player.new.store c.loop.invariant.lasts c.in_ok-last.ensures.state c.in_ok-last.ensures.goes c.in_ok-last.ensures.same.0 c.in_ok-last.ensures.same.1) c.in_ok-on.ensures.state c.in_ok-on.ensures.goes c.in_ok-on.ensures.same.0 c.in_ok-on.ensures.same.1).origin

pub returns-then-not-on-clause-tapes : goal.returns-then-not-on-clause-tapes
returns-then-not-on-clause-tapes g c =
    (lasts_on g.D.Disk.told c.args.store.now c.feed_player.new.store c.go_on_alone.new.store (lasts_on g.D.Disk.told c.args.store.now c.loop.store c.feed_player.new.store c.loop.invariant.lasts c.in_ok-last.ensures.state c.in_ok-last.ensures.goes c.in_ok-last.ensures.same.0 c.in_ok-last.ensures.same.1) c.in_ok-on.ensures.state c.in_ok-on.ensures.goes c.in_ok-on.ensures.same.0 c.in_ok-on.ensures.same.1).tapes

pub returns-in_err-last-clause-err : goal.returns-in_err-last-clause-err
returns-in_err-last-clause-err g c =
    in_error c.from_residual.result _ (so_far_alone (kept_as g.D.Disk.told c.args.store.now) (tapes_in c.args.store.now) c.args.caller c.args.lane (history_of c.args.store.now) c.args.heard.now.items (history_of c.loop.store) (history_of c.feed_player.new.store) c.loop.player.at c.loop.player.lease c.loop.heard.items c.requires.least c.loop.invariant.goes (inl c.in_err-last.ensures.err))

pub returns-in_err-on-clause-err : goal.returns-in_err-on-clause-err
returns-in_err-on-clause-err g c =
    in_error c.from_residual-in_err-on.result _
    (this_far_alone (kept_as g.D.Disk.told c.args.store.now) (tapes_in c.args.store.now) c.args.caller c.args.lane (history_of c.args.store.now) c.args.heard.now.items c.in_ok-last.last (history_of c.loop.store) (history_of c.feed_player.new.store) (history_of c.go_on_alone.new.store) c.loop.heard.items c.requires.least
    (fed_one g.D.Disk.told c.args.store.now c.loop.store c.feed_player.new.store c.args.caller c.args.lane (g.D.Disk.told c.feed_player.new.store.disk).calls c.loop.player c.args.heard.now.items c.loop.heard.items c.in_ok-last.last
    c.loop.invariant.lasts (lasts_on g.D.Disk.told c.args.store.now c.loop.store c.feed_player.new.store c.loop.invariant.lasts c.in_ok-last.ensures.state c.in_ok-last.ensures.goes c.in_ok-last.ensures.same.0 c.in_ok-last.ensures.same.1) c.loop.invariant.goes c.loop.invariant.lane c.in_ok-last.ensures.entry c.in_ok-last.ensures.hinted)
    c.in_err-on.ensures.err)

pub loop-preserved : goal.loop-preserved
loop-preserved g c =
    record {
      lane = c.in_ok-on.ensures.lane ∙ c.in_ok-last.ensures.lane ∙ c.loop.invariant.lane;
      pool = same_pool (pool_of c.feed_player.new.store) (pool_of c.go_on_alone.new.store) c.go_on_alone.new.player c.in_ok-on.ensures.same.2 c.in_ok-on.ensures.pool;
      lasts = (lasts_on g.D.Disk.told c.args.store.now c.feed_player.new.store c.go_on_alone.new.store (lasts_on g.D.Disk.told c.args.store.now c.loop.store c.feed_player.new.store c.loop.invariant.lasts c.in_ok-last.ensures.state c.in_ok-last.ensures.goes c.in_ok-last.ensures.same.0 c.in_ok-last.ensures.same.1) c.in_ok-on.ensures.state c.in_ok-on.ensures.goes c.in_ok-on.ensures.same.0 c.in_ok-on.ensures.same.1);
      goes =
          went_on_alone (kept_as g.D.Disk.told c.args.store.now) (tapes_in c.args.store.now) c.args.caller c.args.lane (history_of c.args.store.now) c.args.heard.now.items (history_of c.loop.store) (history_of c.feed_player.new.store) (history_of c.go_on_alone.new.store) c.feed_player.new.player c.go_on_alone.new.player c.loop.heard.items c.go_on_alone.new.heard.items c.in_ok-last.last c.in_ok-on.on c.requires.least
          (c.in_ok-last.ensures.lane ∙ c.loop.invariant.lane) c.in_ok-last.ensures.window (samples_alone g.D.Disk.told c.args.store.now c.loop.store c.in_ok-last.last c.feed_player.new.player c.loop.invariant.lasts c.in_ok-last.ensures.samples)
          (fed_one g.D.Disk.told c.args.store.now c.loop.store c.feed_player.new.store c.args.caller c.args.lane (g.D.Disk.told c.feed_player.new.store.disk).calls c.loop.player c.args.heard.now.items c.loop.heard.items c.in_ok-last.last
          c.loop.invariant.lasts (lasts_on g.D.Disk.told c.args.store.now c.loop.store c.feed_player.new.store c.loop.invariant.lasts c.in_ok-last.ensures.state c.in_ok-last.ensures.goes c.in_ok-last.ensures.same.0 c.in_ok-last.ensures.same.1) c.loop.invariant.goes c.loop.invariant.lane c.in_ok-last.ensures.entry c.in_ok-last.ensures.hinted) c.if-not-on.false c.in_ok-on.ensures.ok;
    }

pub returns-then-not-on-clause-ok : goal.returns-then-not-on-clause-ok
returns-then-not-on-clause-ok g c =
    let end = over_alone c.in_ok-last.last c.in_ok-on.on c.args.caller (history_of c.feed_player.new.store) (history_of c.go_on_alone.new.store) c.feed_player.new.player c.go_on_alone.new.player c.loop.heard.items c.go_on_alone.new.heard.items c.if-not-on.true c.in_ok-on.ensures.ok in
    served_alone (kept_as g.D.Disk.told c.args.store.now) (tapes_in c.args.store.now) c.args.caller c.args.lane (history_of c.args.store.now) c.args.heard.now.items c.in_ok-last.last (history_of c.loop.store) (history_of c.feed_player.new.store) (history_of c.go_on_alone.new.store) c.loop.heard.items
    (fed_one g.D.Disk.told c.args.store.now c.loop.store c.feed_player.new.store c.args.caller c.args.lane (g.D.Disk.told c.feed_player.new.store.disk).calls c.loop.player c.args.heard.now.items c.loop.heard.items c.in_ok-last.last
    c.loop.invariant.lasts (lasts_on g.D.Disk.told c.args.store.now c.loop.store c.feed_player.new.store c.loop.invariant.lasts c.in_ok-last.ensures.state c.in_ok-last.ensures.goes c.in_ok-last.ensures.same.0 c.in_ok-last.ensures.same.1) c.loop.invariant.goes c.loop.invariant.lane c.in_ok-last.ensures.entry c.in_ok-last.ensures.hinted)
    end.0 end.1.same_history

pub returns-then-not-on-clause-bytes : goal.returns-then-not-on-clause-bytes
returns-then-not-on-clause-bytes g c =
    λ honest first opened keeps only rest none.
    let end = over_alone c.in_ok-last.last c.in_ok-on.on c.args.caller (history_of c.feed_player.new.store) (history_of c.go_on_alone.new.store) c.feed_player.new.player c.go_on_alone.new.player c.loop.heard.items c.go_on_alone.new.heard.items c.if-not-on.true c.in_ok-on.ensures.ok in
    heard_alone (kept_as g.D.Disk.told c.args.store.now) (tapes_in c.args.store.now) c.args.caller c.args.lane (history_of c.args.store.now) c.args.heard.now.items c.in_ok-last.last (history_of c.loop.store) (history_of c.feed_player.new.store) (history_of c.go_on_alone.new.store) c.loop.heard.items c.go_on_alone.new.heard.items
    (fed_one g.D.Disk.told c.args.store.now c.loop.store c.feed_player.new.store c.args.caller c.args.lane (g.D.Disk.told c.feed_player.new.store.disk).calls c.loop.player c.args.heard.now.items c.loop.heard.items c.in_ok-last.last
    c.loop.invariant.lasts (lasts_on g.D.Disk.told c.args.store.now c.loop.store c.feed_player.new.store c.loop.invariant.lasts c.in_ok-last.ensures.state c.in_ok-last.ensures.goes c.in_ok-last.ensures.same.0 c.in_ok-last.ensures.same.1) c.loop.invariant.goes c.loop.invariant.lane c.in_ok-last.ensures.entry c.in_ok-last.ensures.hinted)
    end.0 end.1.same_history end.1.same_heard first (honest, opened, keeps) only rest none

pub returns-clause-err : goal.returns-clause-err
returns-clause-err g c =
    so_far_alone (kept_as g.D.Disk.told c.args.store.now) (tapes_in c.args.store.now) c.args.caller c.args.lane (history_of c.args.store.now) c.args.heard.now.items (history_of c.loop.store) (history_of c.loop.store) c.loop.player.at c.loop.player.lease c.loop.heard.items c.requires.least c.loop.invariant.goes (inl refl)

pub returns-clause-stands : goal.returns-clause-stands
returns-clause-stands g c =
    c.loop.invariant.lasts.stands

pub returns-clause-goes : goal.returns-clause-goes
returns-clause-goes g c =
    c.loop.invariant.lasts.goes

pub returns-clause-origin : goal.returns-clause-origin
returns-clause-origin g c =
    c.loop.invariant.lasts.origin

pub returns-clause-tapes : goal.returns-clause-tapes
returns-clause-tapes g c =
    c.loop.invariant.lasts.tapes
