use Rattle.std.proofs.Common.{◌∙◌, ap}
use Rattle.players.specs.Players.{PlayerState}
use Rattle.servings.proofs.Pieces.{got, same_lane, ends}
use Rattle.servings.proofs.copying.hear_window.Goals as goal

pub loop-n-preserved : goal.loop-n-preserved
loop-n-preserved c = record {
  lane = ap (λ (p : PlayerState). p.lane) c.in-Samples.ensures.gets.3 ∙ c.loop-n.invariant.lane;
  pool = λ pool of. c.in-Samples.ensures.pool pool (c.loop-n.invariant.pool pool of);
  room = c.next.auto.out ∙ c.loop-n.invariant.room;
  is_in = got c.args.player.now c.loop-n.player c.next.new.self c.args.heard.now.items c.loop-n.heard.items c.extend_from_slice.new.self.items c.loop-n.piece c.next.new.out c.in-Samples.n c.loop-n.invariant.is_in c.in-Samples.ensures.gets c.in_ok-extend_from_slice.ensures.items;
}

pub returns-in_err-extend_from_slice-clause-pool : goal.returns-in_err-extend_from_slice-clause-pool
returns-in_err-extend_from_slice-clause-pool c = λ pool of. c.in-Samples.ensures.pool pool (c.loop-n.invariant.pool pool of)

pub returns-clause-pool : goal.returns-clause-pool
returns-clause-pool c = λ pool of. c.next.ensures.pool pool (c.loop-n.invariant.pool pool of)

pub returns-clause-lane : goal.returns-clause-lane
returns-clause-lane c = same_lane c.next.result c.loop-n.player c.next.new.self c.loop-n.piece c.next.new.out c.next.ensures.gets ∙ c.loop-n.invariant.lane

pub returns-clause-ok : goal.returns-clause-ok
returns-clause-ok c = ends c.next.result c.args.player.now c.loop-n.player c.next.new.self c.args.heard.now.items c.loop-n.heard.items c.loop-n.piece c.next.new.out c.loop-n.invariant.is_in c.in_default.not-Samples c.next.ensures.gets
