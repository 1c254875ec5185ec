use Rattle.std.proofs.Common.{◌≡◌, ◌<◌, ◌^◌, take}
use Rattle.script_lang.specs.Numbers.{read_on}
use Rattle.voice_main.proofs.numbers.wide_value.Given as goal

abbrev pub invariant-loop-b : goal.invariant-loop-b
invariant-loop-b l = record {
  read : l.n ≡ read_on 0 (take l.b-index l.word);
  small : l.n < 10 ^ l.b-index;
}
