use Rattle.std.proofs.Common.{◌/◌, ◌<◌, length, arith, rules}
use Rattle.voice_blocks.proofs.BitLemmas.{bit_of-remove_same, bit_of-remove_other}
use Rattle.voice_blocks.proofs.bitmap.Bitmap.remove.Goals as goal

pub returns-clause-this : goal.returns-clause-this
returns-clause-this c =
    let within : c.args.k / 64 < length c.args.self.now.words.items = omega (arith, c.args.self.now.words.ok) in
    bit_of-remove_same c.args.self.now.words.items c.args.k c.index-word.result.now within (search rules)

pub returns-clause-others : goal.returns-clause-others
returns-clause-others c = λ j apart.
    let within : c.args.k / 64 < length c.args.self.now.words.items = omega (arith, c.args.self.now.words.ok) in
    bit_of-remove_other c.args.self.now.words.items c.args.k c.index-word.result.now within (search rules) j apart
