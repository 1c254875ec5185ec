use Rattle.std.specs.Str.Parse.{ParsesUnsigned, ExplainsUnsignedError, HasUnsignedDigitsIfOk}
use Rattle.std.specs.Fmt.{decimal}
use Rattle.voice_main.proofs.Taken.{number_read}
use Rattle.voice_main.proofs.assigned.number_of.Goals as goal

pub returns-clause-some : goal.returns-clause-some
returns-clause-some c = λ n has. number_read _ (λ bs r. ParsesUnsigned 32 10 bs r × ExplainsUnsignedError 10 bs r × HasUnsignedDigitsIfOk bs r) n c.get_one.result (c.get_one.ensures.value (decimal n) has.text) (λ u x g. g.0) has.few
