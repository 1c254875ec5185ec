use Rattle.std.proofs.Common.{[], ◌∷◌, ◌∙◌, ap, sym}
use Rattle.voice_main.proofs.words.is_audit.Goals as goal

pub returns-clause-yes : goal.returns-clause-yes
returns-clause-yes c = λ is. c.is_one.ensures.yes is ∙ ap (λ w. w ∷ []) c.as_slice.ensures

pub returns-clause-no : goal.returns-clause-no
returns-clause-no c = λ is words. c.is_one.ensures.no is (words ∙ ap (λ w. w ∷ []) (sym c.as_slice.ensures))
