use Rattle.std.proofs.Common.{◌≡◌, rules}
use Rattle.std.specs.Prelude.{codes}
use Rattle.voice_main.proofs.Named.{run_three_front, run_three_back}
use Rattle.voice_main.proofs.words.run_threaded.Goals as goal

pub returns-then-eq : goal.returns-then-eq
returns-then-eq c =
    let verb : c.args.verb.now ≡ codes "run" = search rules in
    let flag : c.args.first.now ≡ codes "--threads" = search rules in
    run_three_front c.args.verb.now c.args.first.now c.args.second.now c.in-Some.name verb flag c.in-Some.ensures.0 c.in-Some.ensures.1

pub returns : goal.returns
returns c =
    let verb : c.args.verb.now ≡ codes "run" = search rules in
    let flag : c.args.second.now ≡ codes "--threads" = search rules in
    run_three_back c.args.verb.now c.args.first.now c.args.second.now c.in-Some-file_name.name verb flag c.in-Some-file_name.ensures.0 c.in-Some-file_name.ensures.1
