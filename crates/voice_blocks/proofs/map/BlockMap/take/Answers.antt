use Rattle.std.proofs.Common.{arith}
use Rattle.voice_blocks.proofs.TakeLemmas.{next_index-above}
use Rattle.voice_blocks.proofs.map.BlockMap.take.Goals as goal

pub give-requires-clause-behind : goal.give-requires-clause-behind
give-requires-clause-behind c = λ a index held. let above = next_index-above c.args.owner c.args.self.now.holders a index held in omega (arith, above, c.next_index-from.ensures)
