use Rattle.std.proofs.Common.{subst}
use Rattle.next_changes.specs.declared.NextChange.{NextChange}
use Rattle.next_changes.specs.Next.{IsNext}
use Rattle.next_changes.proofs.copying.parts_after.Goals as goal

pub parts_after-requires : goal.parts_after-requires
parts_after-requires c = let q = c.requires in (q.held, q.takings, q.b, q.c, subst (λ (n : NextChange). IsNext q.held q.takings c.args.parts.now q.b n q.c) c.in-Rope.is q.next)

pub after_other-requires : goal.after_other-requires
after_other-requires c = let q = c.requires in (q.held, q.takings, q.b, q.c, subst (λ (n : NextChange). IsNext q.held q.takings c.args.parts.now q.b n q.c) c.in-Other.is q.next)

pub returns-in-Rope : goal.returns-in-Rope
returns-in-Rope c = λ held takings b change h same. c.parts_after.ensures held takings b change (subst (λ (n : NextChange). IsNext held takings c.args.parts.now b n change) c.in-Rope.is h) same

pub returns-in-Other : goal.returns-in-Other
returns-in-Other c = λ held takings b change h same. c.after_other.ensures held takings b change (subst (λ (n : NextChange). IsNext held takings c.args.parts.now b n change) c.in-Other.is h) same
