use Rattle.std.proofs.Common.{◌∙◌, ap, refl}
use Rattle.recovery.specs.Building.{is_noted}
use Rattle.recovery.proofs.Built.{end_shown}
use Rattle.recovery.proofs.building.Building.finish.Goals as goal

pub returns : goal.returns
returns c = λ r h.
    let free = c.free_noted.ensures in
    end_shown c.args.self.now _ r h refl refl refl refl refl free.only free.held (λ a pair has unused. free.gone a pair (ap (λ l. is_noted l pair) c.deref.ensures.value ∙ has) unused) free.size
