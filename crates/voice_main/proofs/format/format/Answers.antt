use Rattle.std.proofs.Common.{◌∙◌, sym}
use Rattle.voice_main.proofs.Going.{at_done}
use Rattle.voice_main.proofs.format.format.Goals as goal

pub returns-clause-images : goal.returns-clause-images
returns-clause-images g c = λ done honest image left. record {
  shape = c.in-Ok.shape;
  has = c.in-Ok.ensures.ok.0;
  formatted = at_done c.format.result (sym c.is_err.ensures.value ∙ c.if-is_err.false) (c.format.ensures.ok honest) image left;
  empty = at_done c.format.result (sym c.is_err.ensures.value ∙ c.if-is_err.false) (c.format.ensures.opens honest) image left;
}
