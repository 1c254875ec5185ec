-- Ropes that are due and ropes that lose their last row are all that go.
use Rattle.std.proofs.Common.{arith}
use Rattle.collector.proofs.Expired.{due_some}
use Rattle.collector.proofs.Lost.{gone_with_lost, gone_without}
use Rattle.collector.proofs.sweeping.all_gone.Goals as goal

pub returns-in_err-gone-clause-steps : goal.returns-in_err-gone-clause-steps
returns-in_err-gone-clause-steps g c = let some = due_some c.args.now c.args.until c.args.interests.now.rows c.args.table.now.ropes in omega (arith, some, c.ropes_due.ensures.steps)

pub returns-then-until-gt0-clause-ropes : goal.returns-then-until-gt0-clause-ropes
returns-then-until-gt0-clause-ropes g c id =
    gone_without c.args.now c.args.until c.args.interests.now.rows c.args.table.now.ropes c.in_ok-gone.gone.items id (λ z. omega (arith, z, c.if-until-gt0.true)) c.in_ok-gone.ensures.ropes

pub returns-then-until-gt0-clause-steps : goal.returns-then-until-gt0-clause-steps
returns-then-until-gt0-clause-steps g c = let some = due_some c.args.now c.args.until c.args.interests.now.rows c.args.table.now.ropes in omega (arith, some, c.ropes_due.ensures.steps)

pub returns-in_err-push_lost-clause-steps : goal.returns-in_err-push_lost-clause-steps
returns-in_err-push_lost-clause-steps g c = let some = due_some c.args.now c.args.until c.args.interests.now.rows c.args.table.now.ropes in omega (arith, some, c.ropes_due.ensures.steps)

pub returns-clause-ropes : goal.returns-clause-ropes
returns-clause-ropes g c id =
    gone_with_lost c.args.now c.args.until c.args.interests.now.rows c.args.table.now.ropes c.in_ok-gone.gone.items c.push_lost.new.gone.items id
    (c.block-laws.ensures.laws).rising c.requires (omega (arith, c.if-until-gt0.false)) c.in_ok-gone.ensures.ropes (c.in_ok-push_lost.ensures id)

pub returns-clause-steps : goal.returns-clause-steps
returns-clause-steps g c = let some = due_some c.args.now c.args.until c.args.interests.now.rows c.args.table.now.ropes in omega (arith, some, c.ropes_due.ensures.steps)
