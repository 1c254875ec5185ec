use Rattle.std.proofs.Common.{◌∙◌, ◌/◌, ◌+◌, ◌*◌, sym, refl, arith, length}
use Rattle.std.proofs.Math.ListN.{length-set}
use Rattle.script_lang.proofs.Pairs.{with_none, odd, no_high, no_low, pair_more, pairs_done}
use Rattle.script_lang.specs.Forms.{hex_of}
use Rattle.script_lang.proofs.arguments.hex_of.Goals as goal

pub returns-then-word-ne0 : goal.returns-then-word-ne0
returns-then-word-ne0 c = odd c.args.word.now c.if-word-ne0.true

pub returns-in_default : goal.returns-in_default
returns-in_default c =
    no_high c.args.word.now c.loop-i.i _ (omega (arith, c.loop-i-test.true)) c.loop-i.invariant.read (sym c.in_default.is ∙ c.hex_value.ensures.value)

pub returns-in_default-hex_value : goal.returns-in_default-hex_value
returns-in_default-hex_value c =
    no_low c.args.word.now c.loop-i.i _ (omega (arith, c.loop-i-test.true)) c.loop-i.invariant.read (sym c.in_default-hex_value.is ∙ c.hex_value-in-loop-i.ensures.value)

pub loop-i-preserved : goal.loop-i-preserved
loop-i-preserved c = record {
  read = pair_more c.args.word.now c.loop-i.bytes c.loop-i.i c.in-Some.high c.in-Some-hex_value.low (omega (arith, c.loop-i-test.true)) (omega (arith, c.loop-i.invariant.long, c.loop-i-test.true)) c.loop-i.invariant.read
      (sym c.in-Some.is ∙ c.hex_value.ensures.value) (sym c.in-Some-hex_value.is ∙ c.hex_value-in-loop-i.ensures.value);
  long = length-set c.loop-i.bytes c.loop-i.i (16 * c.in-Some.high + c.in-Some-hex_value.low) ∙ c.loop-i.invariant.long;
}

pub returns : goal.returns
returns c =
    pairs_done c.args.word.now c.loop-i.bytes c.loop-i.i (length c.args.word.now / 2) c.if-word-ne0.false refl c.loop-i-test.false c.loop-i.auto.i-end c.loop-i.invariant.read c.in-Ok.note c.in-Ok.ensures.ok

pub loop-i-init : goal.loop-i-init
loop-i-init c = record { read = with_none (hex_of c.args.word.now); long = refl }
