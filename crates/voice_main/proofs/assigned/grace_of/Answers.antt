use Rattle.std.proofs.Common.{◌∙◌}
use Rattle.clap.specs.Words.{found_of}
use Rattle.voice_main.proofs.Taken.{grace_read}
use Rattle.voice_main.proofs.assigned.grace_of.Goals as goal

pub returns : goal.returns
returns c = λ n has. c.unwrap_or.ensures ∙ grace_read (found_of c.args.matches.now) c.args.name.now c.args.common n c.number_of.result c.number_of.ensures.some c.number_of.ensures.none has
