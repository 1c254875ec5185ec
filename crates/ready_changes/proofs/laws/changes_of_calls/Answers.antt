use Rattle.std.proofs.Common.{refl}
use Rattle.ready_changes.proofs.Calls.{sweep_of_call}
use Rattle.ready_changes.proofs.laws.changes_of_calls.Goals as goal

pub returns : goal.returns
returns c = record {
  retain = λ s tapes class key id note. refl;
  forget = λ s tapes class key. refl;
  census = λ s tapes keys. refl;
  advance = λ s tapes moment. refl;
  sweep = sweep_of_call;
}
