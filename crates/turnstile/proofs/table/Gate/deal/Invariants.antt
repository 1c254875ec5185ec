use Rattle.std.proofs.Common.{◌≡◌, ◌+◌, ◌≤◌, length, vec_capacity}
use Rattle.turnstile.specs.Passes.{AreNewFrom}
use Rattle.turnstile.specs.Gates.{IsLead, shown_turnstile}
use Rattle.turnstile.proofs.table.Gate.deal.Given as goal

abbrev pub invariant-loop-made : goal.invariant-loop-made
invariant-loop-made g l =
    IsLead g.T.Stands.history l.self l.made l.lead × AreNewFrom g.T.Stands.history (shown_turnstile l.self) 2 l.passes.items × (length l.passes.items + 1 ≡ l.made)
    × (vec_capacity l.initial.passes ≤ vec_capacity l.passes)
