use Rattle.std.proofs.Common.{ℕ, List, ◌++◌, ap, ◌∙◌}
use Rattle.voice_model.specs.Spelling.{spelling}
use Rattle.voice_mirror.proofs.Bodies.{copied_is}
use Rattle.voice_mirror.proofs.taking.copied.Goals as goal

pub returns : goal.returns
returns c =
    let change = c.args.change.now in
    copied_is c.deref.result.now change c.in-Ok.copy c.requires (c.deref.ensures.value ∙ c.in_ok-put.ensures.ok ∙ ap (λ (l : List ℕ). l ++ spelling change) c.in_ok-bytes.ensures.items) c.in-Ok.ensures.ok
