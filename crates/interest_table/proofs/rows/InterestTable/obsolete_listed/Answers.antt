use Rattle.std.proofs.Common.{◌≡◌, ◌∙◌, ℕ, List, subst, ap}
use Rattle.std.specs.List.{list_any}
use Rattle.std.specs.Prelude.{bytes_eq}
use Rattle.voice_model.specs.Changes.{unlisted_keys}
use Rattle.interest_table.proofs.Keys.{same_unlisted}
use Rattle.interest_table.proofs.rows.InterestTable.obsolete_listed.Goals as goal

pub returns : goal.returns
returns c =
    c.of.ensures ∙ c.in_ok-keys.ensures ∙ ap (λ t. unlisted_keys t.rows c.in_ok-named.named.keys) c.self.view_is
    ∙ same_unlisted c.in_ok-named.named.keys c.args.census.now c.args.self.now.rows
    (subst (λ (l : List (List ℕ)). (key : List ℕ) → list_any (bytes_eq key) c.in_ok-named.named.keys ≡ list_any (bytes_eq key) l) c.items.ensures c.in_ok-named.ensures)
