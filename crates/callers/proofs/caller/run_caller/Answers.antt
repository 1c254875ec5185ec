use Rattle.std.proofs.Common.{◌≡◌, ◌<◌, ◌∙◌, length, get_or, ap, sym, subst, refl, arith}
use Rattle.std.proofs.lemmas.Bool.{false≢true}
use Rattle.std.proofs.lemmas.Option.{slice_get_read}
use denote.Exit.{no}
use denote.Param.Send.{param_send, arg_send}
use Rattle.script_lang.specs.Shown.{Reading}
use Rattle.script_lang.specs.Verbs.{is_built_verb}
use Rattle.script_lang.specs.Whole.{IsLineOf}
use Rattle.turnstile.specs.Passes.{mine}
use Rattle.voice_store.proofs.Results.{on_ok, on_err}
use Rattle.voice_server.proofs.Moving.{standing_send}
use Rattle.served_files.specs.Given.{names_in}
use Rattle.callers.specs.Lines.{IsRunnable}
use Rattle.callers.proofs.Built.{runnable}
use Rattle.callers.proofs.Following.{at_start, moves_on, stops_at, into_none, gave_at, gave_followed}
use Rattle.callers.proofs.Telling.{knows_first, knows_more, knows_all}
use Rattle.callers.proofs.caller.run_caller.Goals as goal

pub caller-requires-send-T : goal.caller-requires-send-T
caller-requires-send-T g c κs within = param_send 0 _ (arg_send _ no _ (standing_send _ g.D.Disk c.type_bounds.send-D))

pub loop-line-init : goal.loop-line-init
loop-line-init g c = record {
  pass = c.requires.pass.0;
  caller = refl;
  all = c.requires.pass.1;
  reaches = at_start c.args.tapes.now c.args.script.now.lines c.args.pass.now.caller (mine c.args.pass.now) c.new-variables.result (names_in c.args.heard.now.items) c.new-variables.ensures (ap names_in c.requires.none);
  knows = knows_first g.D.Disk.told c.args.tapes.now c.args.server.now c.args.script.now.lines c.args.pass.now c.args.heard.now.items c.requires.none;
}

pub returns-then-is_err-clause-pass : goal.returns-then-is_err-clause-pass
returns-then-is_err-clause-pass g c = c.run_own_line.ensures.pass

pub returns-then-is_err-clause-caller : goal.returns-then-is_err-clause-caller
returns-then-is_err-clause-caller g c = c.run_own_line.ensures.caller ∙ c.loop-line.invariant.caller

pub returns-then-is_err-clause-whole : goal.returns-then-is_err-clause-whole
returns-then-is_err-clause-whole g c = λ e. absurd (false≢true e)

pub returns-then-is_err-clause-gave : goal.returns-then-is_err-clause-gave
returns-then-is_err-clause-gave g c = λ e. absurd (false≢true e)

pub returns-then-is_err-clause-bytes : goal.returns-then-is_err-clause-bytes
returns-then-is_err-clause-bytes g c = λ e. absurd (false≢true e)

pub returns-then-is_err-clause-so_far : goal.returns-then-is_err-clause-so_far
returns-then-is_err-clause-so_far g c =
    let lines : c.deref-line-items.result.now ≡ c.args.script.now.lines = c.deref-line-items.ensures.value ∙ ap (λ (s : Reading). s.lines) c.script.view_is in
    let within : c.loop-line.line-index < length c.args.script.now.lines = omega (arith, c.loop-line-test.true, ap length lines) in
    let is : c.line-item.result ≡ get_or c.args.script.now.lines c.loop-line.line-index c.line-item.result = c.line-item.is ∙ ap (λ ls. get_or ls c.loop-line.line-index c.line-item.result) lines in
    let failed = sym c.is_err.ensures.value ∙ c.if-is_err.true in
    let own = on_err c.run_own_line.result (c.line-item.result.caller ≡ c.loop-line.pass.caller) failed c.run_own_line.ensures.err ∙ c.loop-line.invariant.caller in
    let stopped = stops_at c.args.tapes.now c.args.script.now.lines c.loop-line.line-index c.line-item.result c.args.pass.now.caller (mine c.args.pass.now) (mine c.loop-line.pass) (mine c.run_own_line.new.pass) c.loop-line.variables (names_in c.loop-line.heard.items) within is own
    c.loop-line.invariant.reaches (λ stand same. on_err c.run_own_line.result _ failed (c.run_own_line.ensures.began stand same)) in
    (stopped.number, stopped.ran)

pub returns-then-is_err-clause-stopped : goal.returns-then-is_err-clause-stopped
returns-then-is_err-clause-stopped g c = λ _.
    let lines : c.deref-line-items.result.now ≡ c.args.script.now.lines = c.deref-line-items.ensures.value ∙ ap (λ (s : Reading). s.lines) c.script.view_is in
    let within : c.loop-line.line-index < length c.args.script.now.lines = omega (arith, c.loop-line-test.true, ap length lines) in
    let is : c.line-item.result ≡ get_or c.args.script.now.lines c.loop-line.line-index c.line-item.result = c.line-item.is ∙ ap (λ ls. get_or ls c.loop-line.line-index c.line-item.result) lines in
    let failed = sym c.is_err.ensures.value ∙ c.if-is_err.true in
    let own = on_err c.run_own_line.result (c.line-item.result.caller ≡ c.loop-line.pass.caller) failed c.run_own_line.ensures.err ∙ c.loop-line.invariant.caller in
    stops_at c.args.tapes.now c.args.script.now.lines c.loop-line.line-index c.line-item.result c.args.pass.now.caller (mine c.args.pass.now) (mine c.loop-line.pass) (mine c.run_own_line.new.pass) c.loop-line.variables (names_in c.loop-line.heard.items) within is own
    c.loop-line.invariant.reaches (λ stand same. on_err c.run_own_line.result _ failed (c.run_own_line.ensures.began stand same))

pub loop-line-preserved : goal.loop-line-preserved
loop-line-preserved g c =
    let lines : c.deref-line-items.result.now ≡ c.args.script.now.lines = c.deref-line-items.ensures.value ∙ ap (λ (s : Reading). s.lines) c.script.view_is in
    let within : c.loop-line.line-index < length c.args.script.now.lines = omega (arith, c.loop-line-test.true, ap length lines) in
    let is : c.line-item.result ≡ get_or c.args.script.now.lines c.loop-line.line-index c.line-item.result = c.line-item.is ∙ ap (λ ls. get_or ls c.loop-line.line-index c.line-item.result) lines in
    let fine = sym c.is_err.ensures.value ∙ c.if-is_err.false in
    let there = slice_get_read c.args.script.now.lines (length c.args.script.now.lines) c.loop-line.line-index c.line-item.result refl within is in
    record {
      pass = c.run_own_line.ensures.pass;
      caller = c.run_own_line.ensures.caller ∙ c.loop-line.invariant.caller;
      all = c.run_own_line.ensures.all;
      reaches = moves_on c.args.tapes.now c.args.script.now.lines c.loop-line.line-index c.line-item.result c.args.pass.now.caller c.loop-line.pass.caller (mine c.args.pass.now) (mine c.loop-line.pass) (mine c.run_own_line.new.pass) c.loop-line.variables c.run_own_line.new.variables
          (names_in c.loop-line.heard.items) (names_in c.run_own_line.new.heard.items) c.loop-line.invariant.caller within is c.loop-line.invariant.reaches (λ stand same. on_ok c.run_own_line.result _ fine (c.run_own_line.ensures.ok stand same));
      knows = knows_more g.D.Disk.told c.args.tapes.now c.args.server.now c.args.script.now.lines c.loop-line.line-index c.line-item.result c.args.pass.now c.loop-line.pass c.run_own_line.new.pass c.loop-line.heard.items c.run_own_line.new.heard.items c.loop-line.invariant.caller there
          c.run_own_line.ensures.seen c.loop-line.invariant.knows (on_ok c.run_own_line.result _ fine c.run_own_line.ensures.bytes);
    }

pub run_own_line-requires-clause-pass : goal.run_own_line-requires-clause-pass
run_own_line-requires-clause-pass g c κs within = c.loop-line.invariant.pass

pub run_own_line-requires-clause-all : goal.run_own_line-requires-clause-all
run_own_line-requires-clause-all g c κs within = c.loop-line.invariant.all

pub run_own_line-requires-clause-tapes : goal.run_own_line-requires-clause-tapes
run_own_line-requires-clause-tapes g c κs within = c.requires.tapes

pub run_own_line-requires-clause-line : goal.run_own_line-requires-clause-line
run_own_line-requires-clause-line g c κs within =
    let lines : c.deref-line-items.result.now ≡ c.args.script.now.lines = c.deref-line-items.ensures.value ∙ ap (λ (s : Reading). s.lines) c.script.view_is in
    let inside : c.loop-line.line-index < length c.args.script.now.lines = omega (arith, c.loop-line-test.true, ap length lines) in
    let is : c.line-item.result ≡ get_or c.args.script.now.lines c.loop-line.line-index c.line-item.result = c.line-item.is ∙ ap (λ ls. get_or ls c.loop-line.line-index c.line-item.result) lines in
    let its : IsLineOf is_built_verb (length c.args.script.now.samples) c.args.script.now.callers c.line-item.result = subst (IsLineOf is_built_verb (length c.args.script.now.samples) c.args.script.now.callers) (sym is) (c.requires.lines.lines c.loop-line.line-index c.line-item.result inside) in
    subst (λ n. IsRunnable n c.line-item.result) (sym c.requires.samples) (runnable (length c.args.script.now.samples) c.args.script.now.callers c.line-item.result its)

pub returns-clause-pass : goal.returns-clause-pass
returns-clause-pass g c = c.loop-line.invariant.pass

pub returns-clause-caller : goal.returns-clause-caller
returns-clause-caller g c = c.loop-line.invariant.caller

pub returns-clause-whole : goal.returns-clause-whole
returns-clause-whole g c = λ _.
    let lines : c.deref-line-items.result.now ≡ c.args.script.now.lines = c.deref-line-items.ensures.value ∙ ap (λ (s : Reading). s.lines) c.script.view_is in
    gave_followed c.args.tapes.now c.args.script.now.lines c.args.pass.now.caller (mine c.args.pass.now) (mine c.loop-line.pass) (names_in c.loop-line.heard.items) (gave_at c.args.tapes.now c.args.script.now.lines c.loop-line.line-index c.args.pass.now.caller (mine c.args.pass.now) (mine c.loop-line.pass) c.loop-line.variables (names_in c.loop-line.heard.items) (omega (arith, c.loop-line-test.false, ap length lines)) c.loop-line.invariant.reaches)

pub returns-clause-gave : goal.returns-clause-gave
returns-clause-gave g c = λ _.
    let lines : c.deref-line-items.result.now ≡ c.args.script.now.lines = c.deref-line-items.ensures.value ∙ ap (λ (s : Reading). s.lines) c.script.view_is in
    gave_at c.args.tapes.now c.args.script.now.lines c.loop-line.line-index c.args.pass.now.caller (mine c.args.pass.now) (mine c.loop-line.pass) c.loop-line.variables (names_in c.loop-line.heard.items) (omega (arith, c.loop-line-test.false, ap length lines)) c.loop-line.invariant.reaches

pub returns-clause-bytes : goal.returns-clause-bytes
returns-clause-bytes g c = λ _. knows_all g.D.Disk.told c.args.tapes.now c.args.server.now c.args.script.now.lines c.args.pass.now c.loop-line.pass c.loop-line.heard.items c.loop-line.invariant.knows

pub returns-clause-so_far : goal.returns-clause-so_far
returns-clause-so_far g c = (c.loop-line.line-index, into_none c.args.tapes.now c.args.script.now.lines c.loop-line.line-index c.args.pass.now.caller (mine c.args.pass.now) (mine c.loop-line.pass) c.loop-line.variables (names_in c.loop-line.heard.items) c.loop-line.invariant.reaches)

pub returns-clause-stopped : goal.returns-clause-stopped
returns-clause-stopped g c = λ e. absurd (false≢true (sym e))
