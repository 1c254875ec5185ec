use Rattle.std.proofs.Common.{ℕ, List, ◌∷◌, Some, Option, sym, ap, ◌∙◌}
use Rattle.atomic_table.specs.Table.{rest}
use Rattle.turnstile.proofs.table.Gate.take.Goals as goal

pub exchange-slot-requires : goal.exchange-slot-requires
exchange-slot-requires g c =
    let f = c.requires.full in
    (c.requires.of, (Some f.0, f.1 ∙ ap (λ (l : List (ℕ × Option g.row.T.Denot)). (0, Some f.0) ∷ l) (sym (ap (λ (l : List (ℕ × Option g.row.T.Denot)). rest l) f.1))))
