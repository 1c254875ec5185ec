use Rattle.std.proofs.Common.{sym, ◌∙◌, ap, length, subst, arith}
use Rattle.rope_table.specs.Table.{due_at, with_due, is_sooner}
use Rattle.rope_table.specs.declared.dues.Due.{Due}
use Rattle.rope_table.proofs.InOrder.{Apart}
use Rattle.rope_table.proofs.Edited.{fewer_due}
use Rattle.rope_table.proofs.Wholes.{apart_now}
use Rattle.rope_table.proofs.table.enter.Goals as goal

pub enter-requires-clause-room : goal.enter-requires-clause-room
enter-requires-clause-room c =
    let few = fewer_due c.args.ropes.now.ropes in
    let is = ap length c.requires.ordered in
    omega (arith, few, is, c.requires.due_room)

pub enter-requires-clause-apart : goal.enter-requires-clause-apart
enter-requires-clause-apart c =
    subst (λ (due : Due). Apart is_sooner due c.args.dues.now.dues) (sym c.due_of.ensures)
    (apart_now (due_at c.args.id c.args.idle c.args.wait) c.args.ropes.now.ropes c.args.dues.now.dues c.requires.ordered c.requires.unknown)

pub returns-clause-dues : goal.returns-clause-dues
returns-clause-dues c = c.enter.ensures.dues ∙ ap (λ due. with_due due c.args.dues.now.dues) c.due_of.ensures
