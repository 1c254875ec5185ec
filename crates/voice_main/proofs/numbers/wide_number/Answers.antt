use Rattle.std.proofs.Common.{◌≡◌, ◌^◌, ◌<◌, get_or, length, sym, ◌∙◌, ap, arith}
use Rattle.std.specs.Fmt.{decimal}
use Rattle.script_lang.specs.Numbers.{read_on}
use Rattle.voice_main.proofs.Wide.{not_long, not_digits, not_canonical, not_small, some_long, decimal_of}
use Rattle.voice_main.proofs.numbers.wide_number.Goals.{else-word-eq48-via-then-word-eq48+else-word-gt1, else-word-eq48-via-else-word-eq48}
use Rattle.voice_main.proofs.numbers.wide_number.Goals as goal

pub returns-then-is_empty : goal.returns-then-is_empty
returns-then-is_empty c = not_long c.args.word.now c.is_empty.result c.is_empty.ensures c.then-is_empty.either

pub returns-then-not-are_digits : goal.returns-then-not-are_digits
returns-then-not-are_digits c = not_digits c.args.word.now c.are_digits.result c.are_digits.ensures c.if-not-are_digits.true

pub returns-then-word-gt1 : goal.returns-then-word-gt1
returns-then-word-gt1 c = not_canonical c.args.word.now c.if-word-eq48.true c.if-word-gt1.true

pub returns-then-n-from : goal.returns-then-n-from
returns-then-n-from c = not_small c.args.word.now c.wide_value-n.result c.wide_value-n.ensures (let over = c.if-n-from.true in let limit = c.from.ensures in omega (arith, over, limit))

pub returns : goal.returns
returns c =
    let value = c.wide_value-n.ensures in
    let fits : read_on 0 c.args.word.now < 2 ^ 64 = (let most = c.if-n-from.false in let limit = c.from.ensures in omega (arith, most, limit, value)) in
    let canonical : get_or c.args.word.now 0 0 ≡ 48 → length c.args.word.now ≡ 1 =
    λ zero_first. elim c.else-word-eq48.branch [
      | else-word-eq48-via-then-word-eq48+else-word-gt1 w ↦ (let few = w.if-word-gt1.false in let some = some_long c.args.word.now c.is_empty.result c.is_empty.ensures c.if-is_empty.false in omega (arith, few, some))
      | else-word-eq48-via-else-word-eq48 w ↦ absurd (w.if-word-eq48.false zero_first)
    ] in
    decimal_of c.args.word.now (some_long c.args.word.now c.is_empty.result c.is_empty.ensures c.if-is_empty.false) (sym c.are_digits.ensures ∙ c.if-not-are_digits.false) canonical fits ∙ ap decimal (sym value)
