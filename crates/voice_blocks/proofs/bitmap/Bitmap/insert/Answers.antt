use Rattle.std.proofs.Common.{◌/◌, ◌<◌, length, arith, rules}
use Rattle.voice_blocks.proofs.BitLemmas.{bit_of-insert_same, bit_of-insert_other, full_stays}
use Rattle.voice_blocks.proofs.bitmap.Bitmap.insert.Goals as goal

pub invariant_of-self : goal.invariant_of-self
invariant_of-self c = record { full = full_stays c.args.self.now.words.items c.args.self.now.hint c.args.k _ c.args.self.now.full c.requires.out; few = c.args.self.now.few }

pub returns-clause-this : goal.returns-clause-this
returns-clause-this c =
    let within : c.args.k / 64 < length c.args.self.now.words.items = omega (arith, c.args.self.now.words.ok) in
    bit_of-insert_same c.args.self.now.words.items c.args.k c.index-word.result.now within (search rules)

pub returns-clause-others : goal.returns-clause-others
returns-clause-others c = λ j apart.
    let within : c.args.k / 64 < length c.args.self.now.words.items = omega (arith, c.args.self.now.words.ok) in
    bit_of-insert_other c.args.self.now.words.items c.args.k c.index-word.result.now within (search rules) j apart
