use Rattle.std.proofs.Common.{◌≡◌, length, []}
use Rattle.std.specs.Prelude.{All}
use Rattle.voice_main.proofs.script_lines.no_variables.Given as goal

abbrev pub invariant-loop : goal.invariant-loop
invariant-loop l = record {
  len : length l.all.items ≡ l.counter;
  unset : All (λ variables. variables ≡ []) l.all.items;
}
