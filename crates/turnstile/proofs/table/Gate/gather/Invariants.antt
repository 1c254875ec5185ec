use Rattle.std.proofs.Common.{◌≡◌, [], ◌++◌, List, vec_len}
use Rattle.turnstile.specs.Turns.{with_olds}
use Rattle.turnstile.specs.Passes.{EachIsOf}
use Rattle.turnstile.specs.Shown.{ShownPass}
use Rattle.turnstile.specs.Seats.{gathered}
use Rattle.turnstile.specs.Gates.{shown_turnstile}
use Rattle.turnstile.proofs.table.Gate.gather.Given as goal

abbrev pub invariant-loop-pass : goal.invariant-loop-pass
invariant-loop-pass g l =
    (joined : List (ShownPass g.row.T.Denot)) × (l.initial.passes.items ≡ l.passes.items ++ joined)
    × (l.lead.table_id ≡ l.initial.lead.table_id)
    × (l.lead.me ≡ (with_olds (gathered l.initial.lead.me.0.olds joined) l.initial.lead.me.0, []))
    × EachIsOf (shown_turnstile l.self) l.passes.items

abbrev pub decreases-loop-pass : goal.decreases-loop-pass
decreases-loop-pass g l = vec_len l.passes
