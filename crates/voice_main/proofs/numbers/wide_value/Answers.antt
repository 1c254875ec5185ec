use Rattle.std.proofs.Common.{◌-◌, arith, get_or}
use Rattle.script_lang.proofs.Digits.{digit_at, read_more, bounded}
use Rattle.voice_main.proofs.Wide.{within}
use Rattle.voice_main.proofs.numbers.wide_value.Goals as goal

pub overflow_mul-n : goal.overflow_mul-n
overflow_mul-n c = omega (arith, within c.loop-b.b-index (omega arith), c.loop-b.invariant.small)

pub overflow_add-n : goal.overflow_add-n
overflow_add-n c =
    omega (arith, within c.loop-b.b-index (omega arith), c.loop-b.invariant.small, digit_at c.args.word.now c.loop-b.b-index c.requires.digits c.loop-b-test.true)

pub loop-b-preserved : goal.loop-b-preserved
loop-b-preserved c =
    let d = digit_at c.args.word.now c.loop-b.b-index c.requires.digits c.loop-b-test.true in
    record {
      read = read_more c.args.word.now c.loop-b.b-index c.loop-b.n c.loop-b-test.true c.loop-b.invariant.read;
      small = bounded c.loop-b.b-index c.loop-b.n (get_or c.args.word.now c.loop-b.b-index 0 - 48) c.loop-b.invariant.small (omega (arith, d));
    }
