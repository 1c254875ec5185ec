use Rattle.std.proofs.Common.{◌≡◌, ◌==◌, ◌&&◌, not, ap, ◌∙◌, sym, true}
use Rattle.std.specs.List.{list_any}
use Rattle.std.specs.Prelude.{bytes_eq}
use Rattle.voice_model.specs.State.{class_number}
use Rattle.interest_table.proofs.going.is_absent.Goals as goal
use Rattle.interest_table.proofs.going.is_absent.Goals.{in-Listed, in_default}

is_listed : (c : goal.After-contains) → (class_number c.args.row.now.class == 3) ≡ true
is_listed c = elim c.match-matches.branch [ in-Listed w ↦ ap (λ k. class_number k == 3) w.in-Listed.is | in_default w ↦ cc ]

pub returns-then-matches : goal.returns-then-matches
returns-then-matches c =
    ap not c.contains.ensures
    ∙ sym (ap (λ b. b && not (list_any (bytes_eq c.args.row.now.key) c.args.named.now.keys)) (is_listed c))
