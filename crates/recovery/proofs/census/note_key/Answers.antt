use Rattle.std.proofs.Common.{◌≡◌, Bool, true, false, cond, ◌||◌, refl, ◌∙◌}
use Rattle.std.specs.Prelude.{bytes_eq}
use Rattle.std.specs.List.{list_any}
use Rattle.recovery.proofs.census.note_key.Goals as goal

or_cond : (a b : Bool) → cond a true b ≡ (a || b)
or_cond true b = refl
or_cond false b = refl

pub returns-clause-fresh : goal.returns-clause-fresh
returns-clause-fresh c = c.in_ok-fresh.ensures.added

pub returns-clause-keys : goal.returns-clause-keys
returns-clause-keys c = λ other. c.in_ok-fresh.ensures.updates.0 other ∙ or_cond (bytes_eq c.args.key.now other) (list_any (bytes_eq other) c.args.noted.now.keys)
