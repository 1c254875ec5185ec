use Rattle.std.proofs.Common.{◌≡◌, length, []}
use Rattle.std.specs.Prelude.{All, Vec}
use Rattle.std.specs.declared.alloc.Global.{Global}
use Rattle.served_files.specs.declared.heard.Heard.{Heard}
use Rattle.voice_main.proofs.script_lines.nothing_heard.Given as goal

abbrev pub invariant-loop : goal.invariant-loop
invariant-loop l = record {
  len : length l.all.items ≡ l.counter;
  none : All (λ (v : Vec Heard Global). v.items ≡ []) l.all.items;
}
