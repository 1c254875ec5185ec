use Rattle.std.proofs.Common.{◌∙◌, ap, drop, take}
use Rattle.voice_units.specs.Spots.{spots_of, samples_in, stretches}
use Rattle.rope_algebra.proofs.Stretched.{no_window}
use Rattle.rope_algebra.proofs.algebra.Pieces.window.Goals as goal

pub returns-clause-none : goal.returns-clause-none
returns-clause-none c =
    no_window c.args.block c.args.self.now c.args.at c.window_of.result c.requires.at
    (c.window_of.ensures
    ∙ ap (λ l. samples_in (take 4 (stretches c.args.block l)))
    (c.rest_at-rest.ensures.spots ∙ ap (λ ps. drop c.args.at (spots_of ps)) (c.deref.ensures.value ∙ c.self.view_is)))
