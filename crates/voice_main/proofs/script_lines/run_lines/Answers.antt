use Rattle.std.proofs.Common.{◌≡◌, ◌<◌, ◌∙◌, ◌-◌, [], length, get_or, ap, subst, refl, arith, rules}
use Rattle.std.proofs.lemmas.List.{take_all, length-set}
use Rattle.script_lang.specs.Shown.{Reading}
use Rattle.script_lang.specs.Verbs.{is_built_verb}
use Rattle.script_lang.specs.Whole.{IsLineOf}
use Rattle.voice_store.specs.Shown.{history_of}
use Rattle.servings.specs.Asked.{asked_entries}
use Rattle.served_files.specs.Lines.{lines_of_caller, entries_of_caller}
use Rattle.served_files.specs.Given.{GivesFiles, names_in}
use Rattle.served_files.specs.Files.{heard_of}
use Rattle.voice_main.specs.Ordered.{InOrder, unset}
use Rattle.voice_main.proofs.Followed.{line_has}
use Rattle.voice_main.proofs.Reached.{begins_so, begins_none, none_reached, reached, reached_more, reached_names, reached_so_far}
use Rattle.voice_main.proofs.AllGiven.{given_start, all_given_more}
use Rattle.voice_main.proofs.Going.{rests, goes_further}
use Rattle.voice_main.proofs.script_lines.run_lines.Goals as goal

pub returns-in_err-variables-clause-so_far : goal.returns-in_err-variables-clause-so_far
returns-in_err-variables-clause-so_far g c = begins_none c.args.tapes.now c.args.script.now.lines (history_of c.args.store.now) c.requires.history

pub returns-in_err-heard-clause-so_far : goal.returns-in_err-heard-clause-so_far
returns-in_err-heard-clause-so_far g c = begins_none c.args.tapes.now c.args.script.now.lines (history_of c.args.store.now) c.requires.history

pub loop-line-init : goal.loop-line-init
loop-line-init g c = record {
  tapes = c.requires.tapes;
  origin = refl;
  stands = λ first h. h;
  goes = rests (g.D.Disk.told c.args.store.now.disk);
  callers = c.in_ok-variables.ensures.len ∙ ap (λ (s : Reading). s.callers) c.script.view_is;
  lists = c.in_ok-heard.ensures.len ∙ ap (λ (s : Reading). s.callers) c.script.view_is;
  reaches = none_reached c.args.tapes.now c.args.script.now.lines (history_of c.args.store.now) c.in_ok-variables.variables.items c.in_ok-heard.heard.items c.requires.history c.in_ok-variables.ensures.unset c.in_ok-heard.ensures.none;
  bytes = λ honest first opened keeps still alone. given_start first c.args.tapes.now (history_of c.args.store.now) c.in_ok-heard.heard.items c.requires.history c.in_ok-heard.ensures.none still;
}

pub returns-in_err-run_line-clause-stands : goal.returns-in_err-run_line-clause-stands
returns-in_err-run_line-clause-stands g c = λ first h. c.in_err-run_line.ensures.stands first (c.loop-line.invariant.stands first h)

pub returns-in_err-run_line-clause-so_far : goal.returns-in_err-run_line-clause-so_far
returns-in_err-run_line-clause-so_far g c =
    let lines : c.deref-line-items.result.now ≡ c.args.script.now.lines = c.deref-line-items.ensures.value ∙ ap (λ (s : Reading). s.lines) c.script.view_is in
    let within : c.loop-line.line-index < length c.args.script.now.lines = omega (arith, c.loop-line-test.true, ap length lines) in
    let is : c.line-item.result ≡ get_or c.args.script.now.lines c.loop-line.line-index c.line-item.result = c.line-item.is ∙ ap (λ ls. get_or ls c.loop-line.line-index c.line-item.result) lines in
    let facts = line_has (IsLineOf is_built_verb (length c.args.script.now.samples) c.args.script.now.callers) c.args.script.now.lines c.loop-line.line-index c.line-item.result c.requires.lines.lines within is in
    let there : c.index_mut-own.result.now ≡ get_or c.loop-line.variables.items (c.line-item.result.caller - 1) c.index_mut-own.result.now = search rules in
    reached_so_far c.args.tapes.now c.args.script.now.lines c.loop-line.line-index c.line-item.result (history_of c.loop-line.store) (history_of c.run_line.new.store) c.loop-line.variables.items c.loop-line.heard.items (c.line-item.result.caller - 1) c.index_mut-own.result.now within is
    (omega (arith, facts.least)) (omega (arith, facts.least, facts.most, c.loop-line.invariant.callers)) there c.loop-line.invariant.reaches c.in_err-run_line.ensures.began

pub loop-line-preserved : goal.loop-line-preserved
loop-line-preserved g c =
    let lines : c.deref-line-items.result.now ≡ c.args.script.now.lines = c.deref-line-items.ensures.value ∙ ap (λ (s : Reading). s.lines) c.script.view_is in
    let within : c.loop-line.line-index < length c.args.script.now.lines = omega (arith, c.loop-line-test.true, ap length lines) in
    let is : c.line-item.result ≡ get_or c.args.script.now.lines c.loop-line.line-index c.line-item.result = c.line-item.is ∙ ap (λ ls. get_or ls c.loop-line.line-index c.line-item.result) lines in
    let facts = line_has (IsLineOf is_built_verb (length c.args.script.now.samples) c.args.script.now.callers) c.args.script.now.lines c.loop-line.line-index c.line-item.result c.requires.lines.lines within is in
    let there : c.index_mut-own.result.now ≡ get_or c.loop-line.variables.items (c.line-item.result.caller - 1) c.index_mut-own.result.now = search rules in
    let listed : c.index_mut-files.result.now ≡ get_or c.loop-line.heard.items (c.line-item.result.caller - 1) c.index_mut-files.result.now = search rules in
    let old = history_of c.loop-line.store in
    let new = history_of c.run_line.new.store in
    record {
      tapes = c.in_ok-run_line.ensures.tapes_stay ∙ c.loop-line.invariant.tapes;
      origin = c.in_ok-run_line.ensures.origin ∙ c.loop-line.invariant.origin;
      stands = λ first h. c.in_ok-run_line.ensures.stands first (c.loop-line.invariant.stands first h);
      goes = goes_further (g.D.Disk.told c.args.store.now.disk) (g.D.Disk.told c.loop-line.store.disk) (g.D.Disk.told c.run_line.new.store.disk) c.loop-line.invariant.goes c.in_ok-run_line.ensures.goes;
      callers = length-set c.loop-line.variables.items (c.line-item.result.caller - 1) c.run_line.new.variables ∙ c.loop-line.invariant.callers;
      lists = length-set c.loop-line.heard.items (c.line-item.result.caller - 1) c.run_line.new.heard ∙ c.loop-line.invariant.lists;
      reaches = reached_more c.args.tapes.now c.args.script.now.lines c.loop-line.line-index c.line-item.result old new c.loop-line.variables.items c.loop-line.heard.items (c.line-item.result.caller - 1)
          c.index_mut-own.result.now c.run_line.new.variables c.index_mut-files.result.now c.run_line.new.heard within is
          (omega (arith, facts.least)) (omega (arith, facts.least, facts.most, c.loop-line.invariant.callers)) (omega (arith, facts.least, facts.most, c.loop-line.invariant.lists)) there listed
          c.loop-line.invariant.reaches c.in_ok-run_line.ensures.ok;
      bytes = λ honest first opened keeps still alone.
          let before = c.loop-line.invariant.stands first keeps in
          all_given_more g.D.Disk.told first c.args.tapes.now c.args.script.now.lines c.loop-line.line-index c.line-item.result c.loop-line.store c.args.store.now.origin new c.loop-line.heard.items (c.line-item.result.caller - 1)
          c.index_mut-files.result.now c.run_line.new.heard within is (omega (arith, facts.least)) (omega (arith, facts.least, facts.most, c.loop-line.invariant.lists)) listed c.loop-line.invariant.origin
          (c.in_ok-run_line.ensures.grown) c.in_ok-run_line.ensures.bytes honest opened before (c.loop-line.invariant.bytes honest first opened keeps still) alone;
    }

pub returns-clause-whole : goal.returns-clause-whole
returns-clause-whole g c =
    let lines : c.deref-line-items.result.now ≡ c.args.script.now.lines = c.deref-line-items.ensures.value ∙ ap (λ (s : Reading). s.lines) c.script.view_is in
    let so_far = reached c.args.tapes.now c.args.script.now.lines c.loop-line.line-index (history_of c.loop-line.store) c.loop-line.variables.items c.loop-line.heard.items c.loop-line.invariant.reaches in
    subst (λ l. InOrder c.args.tapes.now unset l (asked_entries (history_of c.loop-line.store))) (take_all c.loop-line.line-index c.args.script.now.lines (omega (arith, c.loop-line-test.false, ap length lines))) so_far

pub returns-clause-so_far : goal.returns-clause-so_far
returns-clause-so_far g c = (
  c.loop-line.line-index,
  begins_so c.args.tapes.now c.args.script.now.lines c.loop-line.line-index (asked_entries (history_of c.loop-line.store))
      (reached c.args.tapes.now c.args.script.now.lines c.loop-line.line-index (history_of c.loop-line.store) c.loop-line.variables.items c.loop-line.heard.items c.loop-line.invariant.reaches),
)

pub returns-clause-names : goal.returns-clause-names
returns-clause-names g c = λ caller some.
    let lines : c.deref-line-items.result.now ≡ c.args.script.now.lines = c.deref-line-items.ensures.value ∙ ap (λ (s : Reading). s.lines) c.script.view_is in
    let names = reached_names c.args.tapes.now c.args.script.now.lines c.loop-line.line-index (history_of c.loop-line.store) c.loop-line.variables.items c.loop-line.heard.items c.loop-line.invariant.reaches caller some in
    subst (λ l. GivesFiles c.args.tapes.now [] (lines_of_caller caller l) (entries_of_caller caller (asked_entries (history_of c.loop-line.store))) (names_in (heard_of c.loop-line.heard.items caller)))
    (take_all c.loop-line.line-index c.args.script.now.lines (omega (arith, c.loop-line-test.false, ap length lines))) names

pub returns-clause-bytes : goal.returns-clause-bytes
returns-clause-bytes g c = λ honest first opened keeps still alone. (c.loop-line.invariant.bytes honest first opened keeps still alone).gives
