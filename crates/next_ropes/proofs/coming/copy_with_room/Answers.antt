use Rattle.std.proofs.Common.{refl, ◌∙◌, ap}
use Rattle.rope_table.specs.Table.{Table, uses_at}
use Rattle.next_ropes.proofs.coming.copy_with_room.Goals as goal

pub returns-clause-alike : goal.returns-clause-alike
returns-clause-alike c = record {
  ropes = ap (λ (t : Table). t.ropes) c.ropes.view_is ∙ c.in_ok-reserve.ensures.ropes ∙ c.in_ok-ropes.ensures.ropes;
  block = ap (λ (t : Table). t.block) c.ropes.view_is ∙ c.in_ok-reserve.ensures.block ∙ c.in_ok-ropes.ensures.block;
  uses = λ pair. ap (λ (t : Table). uses_at t pair) c.ropes.view_is ∙ c.in_ok-reserve.ensures.uses pair ∙ c.in_ok-ropes.ensures.uses pair;
  rows = c.in_ok-copy.ensures;
  holders = c.in_ok-copy-2.ensures;
  moment = refl;
  next = refl;
  form = refl;
}
