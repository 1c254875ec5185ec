use Rattle.std.proofs.Common.{subst}
use Rattle.next_changes.specs.declared.NextChange.{NextChange}
use Rattle.next_changes.specs.Next.{IsNext}
use Rattle.next_changes.proofs.doing.give_back.Goals as goal

pub returns-in-Rope-clause-runs : goal.returns-in-Rope-clause-runs
returns-in-Rope-clause-runs c = λ held takings b change h. c.give_back.ensures.runs held takings b change (subst (λ (n : NextChange). IsNext held takings c.args.parts.now b n change) c.in-Rope.is h)

pub returns-in-Other-clause-runs : goal.returns-in-Other-clause-runs
returns-in-Other-clause-runs c = λ held takings b change h. let other = subst (λ (n : NextChange). IsNext held takings c.args.parts.now b n change) c.in-Other.is h in other.runs
