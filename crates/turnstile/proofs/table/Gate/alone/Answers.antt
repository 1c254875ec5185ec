use Rattle.std.proofs.Common.{◌≡◌, List, [], ◌∷◌, ◌++◌, map, Some, Option, refl, sym, ap, ◌∙◌, subst}
use Rattle.std.specs.Prelude.{replicate}
use mathlib.Core.Option.{some}
use Rattle.turnstile.proofs.Opens.{opens}
use Rattle.turnstile.proofs.table.Gate.alone.Goals as goal

pub new-requires : goal.new-requires
new-requires g c =
    let items : c.push.new.self.items ≡ c.new-slots.result.items ++ Some c.args.value ∷ [] = c.in_default.ensures.items in
    let full : c.push.new.self.items ≡ Some c.of.result.value ∷ [] = items ∙ ap (λ (l : List (Option g.row.T.Denot)). l ++ Some c.args.value ∷ []) c.new-slots.ensures.items ∙ ap (λ (v : g.row.T.Denot). Some v ∷ []) (sym c.of.ensures) in
    opens g.T.Stands.origin g.T.Stands.history g.T.Stands.stands (record { base = c.of.result; callers = c.args.callers }) (replicate 19 0) (replicate 16 0) (map some c.push.new.self.items) c.requires.callers.1 c.requires.callers.0 (subst g.T.Stands.stands (sym c.of.ensures) c.requires.stands) refl (ap (map some) full)
