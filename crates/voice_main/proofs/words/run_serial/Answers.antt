use Rattle.std.proofs.Common.{◌≡◌, rules}
use Rattle.std.specs.Prelude.{codes}
use Rattle.voice_main.proofs.Named.{run_two}
use Rattle.voice_main.proofs.words.run_serial.Goals as goal

pub returns : goal.returns
returns c = let verb : c.args.verb.now ≡ codes "run" = search rules in run_two c.args.verb.now c.args.name.now c.in-Some.name verb c.in-Some.ensures.0 c.in-Some.ensures.1
