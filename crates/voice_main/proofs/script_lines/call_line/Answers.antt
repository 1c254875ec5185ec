use Rattle.std.proofs.Common.{◌∙◌, ℕ, List, sym, subst, inr, refl}
use Rattle.voice_store.specs.Facts.{TakesAreIn}
use Rattle.voice_store.specs.Shown.{history_of}
use Rattle.callers.proofs.Built.{asked_well}
use Rattle.voice_main.proofs.Added.{began_call}
use Rattle.voice_main.proofs.Going.{in_error}
use Rattle.voice_main.proofs.script_lines.call_line.Goals as goal

pub apply-requires-clause-takes : goal.apply-requires-clause-takes
apply-requires-clause-takes g c κs within =
    let asks = c.in_ok-call.ensures.value c.args.variables.now (λ name. refl) in
    let well = asked_well c.args.tapes.now c.args.line.now.verb c.args.variables.now c.in-Some.call c.requires.verb (sym c.in-Some.is ∙ asks) in
    let P : List (List ℕ) → Type 0 = λ tapes. TakesAreIn tapes c.in-Some.call in
    subst P (sym c.requires.tapes) (well.takes c.requires.tape)

pub apply-requires-clause-built : goal.apply-requires-clause-built
apply-requires-clause-built g c κs within =
    let asks = c.in_ok-call.ensures.value c.args.variables.now (λ name. refl) in
    (asked_well c.args.tapes.now c.args.line.now.verb c.args.variables.now c.in-Some.call c.requires.verb (sym c.in-Some.is ∙ asks)).built

pub apply-requires-clause-ropes : goal.apply-requires-clause-ropes
apply-requires-clause-ropes g c κs within =
    let asks = c.in_ok-call.ensures.value c.args.variables.now (λ name. refl) in
    (asked_well c.args.tapes.now c.args.line.now.verb c.args.variables.now c.in-Some.call c.requires.verb (sym c.in-Some.is ∙ asks)).ropes c.requires.ropes

pub apply-requires-clause-range : goal.apply-requires-clause-range
apply-requires-clause-range g c κs within =
    let asks = c.in_ok-call.ensures.value c.args.variables.now (λ name. refl) in
    (asked_well c.args.tapes.now c.args.line.now.verb c.args.variables.now c.in-Some.call c.requires.verb (sym c.in-Some.is ∙ asks)).range c.requires.range

pub returns-in_err-bind-clause-began : goal.returns-in_err-bind-clause-began
returns-in_err-bind-clause-began g c = λ stand same.
    in_error c.from_residual-in_err-bind.result
    (inr (began_call c.args.tapes.now c.args.line.now stand c.in-Some.call c.in_ok-reply.reply _ (history_of c.args.store.now) (history_of c.apply.new.self) (sym c.in-Some.is ∙ c.in_ok-call.ensures.value stand same) c.in_ok-reply.ensures.entry))
