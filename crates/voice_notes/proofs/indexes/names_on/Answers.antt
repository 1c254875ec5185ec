use Rattle.std.proofs.Common.{◌+◌, ◌++◌, ◌∷◌, [], sym, subst, ◌∙◌, rules, tests}
use Rattle.std.specs.List.{slice_split}
use Rattle.std.proofs.lemmas.Iterator.Splits.{YieldsList-from_slice_split}
use Rattle.std.proofs.lemmas.Iterator.Consumers.{YieldsList-at, YieldsList-so_far, YieldsList-turn, YieldsList-end}
use Rattle.script_lang.specs.Words.{is_end}
use Rattle.voice_notes.specs.Index.{without_end}
use Rattle.voice_notes.proofs.Lines.{ReadSoFar, past_nothing, past_file, stops_at, all_read, parts_are}
use Rattle.voice_notes.proofs.indexes.names_on.Goals as goal

pub loop-line-preserved-in-Nothing : goal.loop-line-preserved-in-Nothing
loop-line-preserved-in-Nothing c = record {
  next = search rules;
  ends = search rules;
  read = past_nothing c.loop-line.yielded c.in-Some.line c.loop-line.number c.loop-line.names.items c.loop-line.invariant.read (sym c.said.ensures ∙ c.in-Nothing.is);
}

pub loop-line-preserved : goal.loop-line-preserved
loop-line-preserved c = record {
  next = search rules;
  ends = search rules;
  read =
      subst (ReadSoFar (c.loop-line.yielded ++ c.in-Some.line ∷ []) (c.loop-line.number + 1)) (sym c.in_ok-push-in-File.ensures.items)
      (past_file c.loop-line.yielded c.in-Some.line c.loop-line.number c.loop-line.names.items c.in-File.name c.loop-line.invariant.read (sym c.said.ensures ∙ c.in-File.is));
}

pub returns-in-Other-clause-err : goal.returns-in-Other-clause-err
returns-in-Other-clause-err c =
    let so_far = YieldsList-so_far
    (YieldsList-at c.into_iter-line-iterator.ensures.into_iter_gives (YieldsList-from_slice_split _ is_end (without_end c.args.bytes.now) (c.split-line-items.ensures.rest ∙ c.without_end.ensures) c.split-line-items.ensures.done c.split-line-items.ensures.closure (λ x b q k. search (rules, tests))))
    c.loop-line.yielded _ c.loop-line.yielded_by in
    let turn = YieldsList-turn
    (YieldsList-at c.into_iter-line-iterator.ensures.into_iter_gives (YieldsList-from_slice_split _ is_end (without_end c.args.bytes.now) (c.split-line-items.ensures.rest ∙ c.without_end.ensures) c.split-line-items.ensures.done c.split-line-items.ensures.closure (λ x b q k. search (rules, tests))))
    c.loop-line.yielded _ c.loop-line.yielded_by _ _ c.in-Some.line c.in-Some.is c.next.ensures.steps in
    stops_at c.args.bytes.now (slice_split is_end (without_end c.args.bytes.now)) c.loop-line.yielded c.in-Some.line c.loop-line.number c.loop-line.names.items c.loop-line.invariant.read (parts_are c.args.bytes.now c.requires) so_far turn.0 turn.1 (sym c.said.ensures ∙ c.in-Other.is)

pub returns-clause-ok : goal.returns-clause-ok
returns-clause-ok c =
    let end = YieldsList-end
    (YieldsList-at c.into_iter-line-iterator.ensures.into_iter_gives (YieldsList-from_slice_split _ is_end (without_end c.args.bytes.now) (c.split-line-items.ensures.rest ∙ c.without_end.ensures) c.split-line-items.ensures.done c.split-line-items.ensures.closure (λ x b q k. search (rules, tests))))
    c.loop-line.yielded _ c.loop-line.yielded_by _ _ c.in-None.is c.next.ensures.steps in
    all_read c.args.bytes.now (slice_split is_end (without_end c.args.bytes.now)) c.loop-line.yielded c.loop-line.number c.loop-line.names.items c.loop-line.invariant.read (parts_are c.args.bytes.now c.requires) end.0
