use Rattle.std.proofs.Common.{inl, inr, arith}
use Rattle.voice_main.proofs.PacketsWords.{not_first}
use Rattle.voice_main.proofs.words.sending_of.Goals.{then-first-lt1-via-then-first-lt1, then-first-lt1-via-else-first-lt1+then-first}
use Rattle.voice_main.proofs.words.sending_of.Goals as goal

pub returns-then-first-lt1 : goal.returns-then-first-lt1
returns-then-first-lt1 c = elim c.then-first-lt1.branch [
  | then-first-lt1-via-then-first-lt1 w ↦ not_first c.args.verb.now c.args.script.now c.args.file.now c.args.first.now c.in-Some-wide_number.first c.in-Some-wide_number.ensures (omega arith) (inl w.if-first-lt1.true)
  | then-first-lt1-via-else-first-lt1+then-first w ↦ not_first c.args.verb.now c.args.script.now c.args.file.now c.args.first.now c.in-Some-wide_number.first c.in-Some-wide_number.ensures (omega arith) (inr (w.if-first-lt1.false, w.if-first.true))
]
