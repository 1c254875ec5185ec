use Rattle.std.proofs.Common.{refl}
use Rattle.voice_blocks.specs.declared.owner.Owner.TheVariants.{File}
use Rattle.next_ropes.proofs.Dropped.{given_back}
use Rattle.next_ropes.proofs.HandedOut.{dropped_keeps}
use Rattle.next_ropes.proofs.coming.give_back.Goals as goal

pub returns-clause-runs : goal.returns-clause-runs
returns-clause-runs c = λ held takings b change h. given_back held takings c.args.parts.now _ b c.args.next change h h.runs.kept refl c.drop_owner.ensures.holders

pub returns-clause-kept : goal.returns-clause-kept
returns-clause-kept c = dropped_keeps (File c.args.next.id) c.args.parts.now.blocks.holders c.drop_owner.new.self.holders c.drop_owner.ensures.holders
