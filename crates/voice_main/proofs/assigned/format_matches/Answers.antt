use Rattle.std.proofs.Common.{◌∙◌, List, ℕ, ap, map, subst}
use Rattle.std.specs.Prelude.{string_bytes}
use Rattle.std.proofs.lemmas.Result.{IfErr-weaker, IfOk-weaker}
use Rattle.clap.specs.Words.{App, HasMatchesOf, takes}
use Rattle.voice_main.proofs.Taken.{assigns, taken}
use Rattle.voice_main.proofs.assigned.format_matches.Goals as goal

pub returns-clause-ok : goal.returns-clause-ok
returns-clause-ok c = λ numbers asked.
    let words : List (List ℕ) = map string_bytes c.args.words.now in
    IfOk-weaker c.try_get_matches_from.result _ _ (λ m h. assigns words numbers m asked (subst (λ (a : App). HasMatchesOf a words m) c.in_ok-command.ensures h)) c.try_get_matches_from.ensures.matches

pub returns-clause-err : goal.returns-clause-err
returns-clause-err c = λ numbers asked.
    let words : List (List ℕ) = map string_bytes c.args.words.now in
    IfErr-weaker c.try_get_matches_from.result _ _ (λ e h. h (ap (λ (a : App). takes a words) c.in_ok-command.ensures ∙ taken words numbers asked)) c.try_get_matches_from.ensures.passes
