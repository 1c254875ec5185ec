use Rattle.std.proofs.Common.{sym, ◌∙◌, arith, rules}
use Rattle.voice_main.proofs.MakeWords.{no_number, not_so_many, says_make}
use Rattle.voice_main.proofs.words.making_of.Goals as goal

pub returns-in_default-number : goal.returns-in_default-number
returns-in_default-number c = no_number c.args.verb.now c.args.seed.now c.args.lines.now (sym c.number.ensures ∙ c.in_default-number.is)

pub returns-then-lines-lt1 : goal.returns-then-lines-lt1
returns-then-lines-lt1 c = not_so_many c.args.verb.now c.args.seed.now c.args.lines.now c.in-Some-number.lines (sym c.number.ensures ∙ c.in-Some-number.is) c.then-lines-lt1.either

pub returns : goal.returns
returns c = says_make c.args.verb.now c.args.seed.now c.args.lines.now c.in-Some.seed c.in-Some-number.lines (search rules) c.in-Some.ensures (omega arith) (sym c.number.ensures ∙ c.in-Some-number.is) c.if-lines-lt1.false c.if-lines-gt65535.false
