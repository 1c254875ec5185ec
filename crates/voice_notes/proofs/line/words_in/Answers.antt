use Rattle.std.proofs.Common.{[], ◌∷◌, refl, sym, ◌∙◌, rules, tests}
use Rattle.std.specs.Prelude.{filter}
use Rattle.std.specs.List.{slice_split}
use Rattle.std.proofs.lemmas.Iterator.Splits.{YieldsList-from_slice_split}
use Rattle.std.proofs.lemmas.Iterator.Consumers.{YieldsList-at, YieldsList-from_filter, YieldsList-turn, YieldsList-end}
use Rattle.script_lang.specs.Words.{is_blank}
use Rattle.voice_notes.proofs.Lines.{is_some_part, words_are, one_word, more_words}
use Rattle.voice_notes.proofs.line.words_in.Goals as goal

pub returns-in_default : goal.returns-in_default
returns-in_default c =
    let end = YieldsList-end
    (YieldsList-from_filter _ is_some_part (YieldsList-at c.filter-words.ensures.source (YieldsList-from_slice_split _ is_blank c.args.line.now c.split.ensures.rest c.split.ensures.done c.split.ensures.closure (λ x b q k. search (rules, tests)))) c.filter-words.ensures.closure (λ x b q k. search (rules, tests)))
    [] _ refl _ _ c.in_default.is c.next.ensures.steps in
    sym (words_are c.args.line.now) ∙ sym end.0

pub returns-in-Some-next : goal.returns-in-Some-next
returns-in-Some-next c =
    let first = YieldsList-turn
    (YieldsList-from_filter _ is_some_part (YieldsList-at c.filter-words.ensures.source (YieldsList-from_slice_split _ is_blank c.args.line.now c.split.ensures.rest c.split.ensures.done c.split.ensures.closure (λ x b q k. search (rules, tests)))) c.filter-words.ensures.closure (λ x b q k. search (rules, tests)))
    [] _ refl _ _ c.in-Some.first c.in-Some.is c.next.ensures.steps in
    let second = YieldsList-turn
    (YieldsList-from_filter _ is_some_part (YieldsList-at c.filter-words.ensures.source (YieldsList-from_slice_split _ is_blank c.args.line.now c.split.ensures.rest c.split.ensures.done c.split.ensures.closure (λ x b q k. search (rules, tests)))) c.filter-words.ensures.closure (λ x b q k. search (rules, tests)))
    (c.in-Some.first ∷ []) _ (_, c.in-Some.ensures.steps, refl) _ _ c.in-Some-next.field-0 c.in-Some-next.is c.next-2.ensures.steps in
    more_words (filter is_some_part (slice_split is_blank c.args.line.now)) _ c.in-Some.first.now (words_are c.args.line.now) first.1 second.0

pub returns-in-None : goal.returns-in-None
returns-in-None c =
    let end = YieldsList-end
    (YieldsList-from_filter _ is_some_part (YieldsList-at c.filter-words.ensures.source (YieldsList-from_slice_split _ is_blank c.args.line.now c.split.ensures.rest c.split.ensures.done c.split.ensures.closure (λ x b q k. search (rules, tests)))) c.filter-words.ensures.closure (λ x b q k. search (rules, tests)))
    (c.in-Some.first ∷ []) _ (_, c.in-Some.ensures.steps, refl) _ _ c.in-None.is c.next-2.ensures.steps in
    one_word _ _ c.in-Some.first.now (words_are c.args.line.now) end.0
