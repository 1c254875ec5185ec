use Rattle.std.proofs.Common.{◌∙◌, ℕ, List, sym, subst, inl, inr, refl}
use Rattle.voice_model.specs.Follows.{bound, bound_rope}
use Rattle.voice_store.specs.Facts.{TakesAreIn}
use Rattle.script_lang.specs.Errands.{IsAskedOf, SameValues}
use Rattle.turnstile.specs.Passes.{mine, seen}
use Rattle.servings.proofs.Between.{begins_on, begins_self}
use Rattle.servings.proofs.Steps.{in_error}
use Rattle.served_files.specs.Given.{names_in, bytes_in}
use Rattle.callers.specs.Passed.{LineDone}
use Rattle.callers.proofs.Built.{asked_well, serves_alone}
use Rattle.callers.proofs.Lined.{line_done, line_began, followed_into, alone_done, alone_began, none_bound, then_bound, not_done, in_ok}
use Rattle.callers.proofs.Telling.{line_heard, of_tapes}
use Rattle.callers.proofs.lines.run_line.Goals as goal

pub resolve-requires : goal.resolve-requires
resolve-requires g c = c.requires.line.tape

pub returns-in_err-call-clause-pass : goal.returns-in_err-call-clause-pass
returns-in_err-call-clause-pass g c = c.requires.pass

pub returns-in_err-call-clause-caller : goal.returns-in_err-call-clause-caller
returns-in_err-call-clause-caller g c = refl

pub returns-in_err-call-clause-all : goal.returns-in_err-call-clause-all
returns-in_err-call-clause-all g c = c.requires.all

pub returns-in_err-call-clause-seen : goal.returns-in_err-call-clause-seen
returns-in_err-call-clause-seen g c = begins_self (seen c.args.pass.now)

pub returns-in_err-call-clause-began : goal.returns-in_err-call-clause-began
returns-in_err-call-clause-began g c = λ stand same. in_error c.from_residual.result _ (inl refl)

pub returns-in_err-call-clause-ok : goal.returns-in_err-call-clause-ok
returns-in_err-call-clause-ok g c = λ stand same. not_done c.from_residual.result _ c.from_residual.ensures.0

pub returns-in_err-call-clause-bytes : goal.returns-in_err-call-clause-bytes
returns-in_err-call-clause-bytes g c = not_done c.from_residual.result _ c.from_residual.ensures.0

pub run_serve_line-requires-clause-pass : goal.run_serve_line-requires-clause-pass
run_serve_line-requires-clause-pass g c κs within = c.requires.pass

pub run_serve_line-requires-clause-all : goal.run_serve_line-requires-clause-all
run_serve_line-requires-clause-all g c κs within = c.requires.all

pub run_serve_line-requires-clause-serves : goal.run_serve_line-requires-clause-serves
run_serve_line-requires-clause-serves g c κs within =
    let asks = c.in_ok-call.ensures.value c.args.variables.now (λ name. refl) in
    serves_alone c.args.tapes.now c.args.line.now.verb c.args.variables.now (sym asks ∙ c.in_default.is)

pub run_serve_line-requires-clause-file : goal.run_serve_line-requires-clause-file
run_serve_line-requires-clause-file g c κs within = c.requires.line.file

pub returns-in_err-run_serve_line-clause-pass : goal.returns-in_err-run_serve_line-clause-pass
returns-in_err-run_serve_line-clause-pass g c = c.in_err-run_serve_line.ensures.pass

pub returns-in_err-run_serve_line-clause-caller : goal.returns-in_err-run_serve_line-clause-caller
returns-in_err-run_serve_line-clause-caller g c = c.in_err-run_serve_line.ensures.caller

pub returns-in_err-run_serve_line-clause-all : goal.returns-in_err-run_serve_line-clause-all
returns-in_err-run_serve_line-clause-all g c = c.in_err-run_serve_line.ensures.all

pub returns-in_err-run_serve_line-clause-seen : goal.returns-in_err-run_serve_line-clause-seen
returns-in_err-run_serve_line-clause-seen g c = c.in_err-run_serve_line.ensures.seen

pub returns-in_err-run_serve_line-clause-began : goal.returns-in_err-run_serve_line-clause-began
returns-in_err-run_serve_line-clause-began g c = λ stand same. in_error c.from_residual-in_err-run_serve_line.result _ (inr (alone_began c.args.tapes.now c.args.line.now stand (mine c.args.pass.now) (mine c.run_serve_line.new.pass) c.in_err-run_serve_line.ensures.err))

pub returns-in_err-run_serve_line-clause-ok : goal.returns-in_err-run_serve_line-clause-ok
returns-in_err-run_serve_line-clause-ok g c = λ stand same. not_done c.from_residual-in_err-run_serve_line.result _ c.from_residual-in_err-run_serve_line.ensures.0

pub returns-in_err-run_serve_line-clause-bytes : goal.returns-in_err-run_serve_line-clause-bytes
returns-in_err-run_serve_line-clause-bytes g c = not_done c.from_residual-in_err-run_serve_line.result _ c.from_residual-in_err-run_serve_line.ensures.0

pub returns-in_default-clause-pass : goal.returns-in_default-clause-pass
returns-in_default-clause-pass g c = c.in_ok-run_serve_line.ensures.pass

pub returns-in_default-clause-caller : goal.returns-in_default-clause-caller
returns-in_default-clause-caller g c = c.in_ok-run_serve_line.ensures.caller

pub returns-in_default-clause-all : goal.returns-in_default-clause-all
returns-in_default-clause-all g c = c.in_ok-run_serve_line.ensures.all

pub returns-in_default-clause-seen : goal.returns-in_default-clause-seen
returns-in_default-clause-seen g c = c.in_ok-run_serve_line.ensures.seen

pub returns-in_default-clause-ok : goal.returns-in_default-clause-ok
returns-in_default-clause-ok g c = λ stand same.
    alone_done c.args.tapes.now c.args.line.now c.args.variables.now stand (mine c.args.pass.now) (mine c.run_serve_line.new.pass) (names_in c.args.heard.now.items) (names_in c.run_serve_line.new.heard.items) same (none_bound c.args.line.now.verb c.args.line.now.bind c.requires.line.bind (serves_alone c.args.tapes.now c.args.line.now.verb c.args.variables.now (sym (c.in_ok-call.ensures.value c.args.variables.now (λ name. refl)) ∙ c.in_default.is))) c.in_ok-run_serve_line.ensures.ok

pub returns-in_default-clause-bytes : goal.returns-in_default-clause-bytes
returns-in_default-clause-bytes g c = of_tapes g.D.Disk.told c.args.tapes.now c.args.server.now c.args.line.now.verb c.args.pass.now c.run_serve_line.new.pass (bytes_in c.args.heard.now.items) (bytes_in c.run_serve_line.new.heard.items) c.requires.tapes c.in_ok-run_serve_line.ensures.bytes

pub call-requires-clause-pass : goal.call-requires-clause-pass
call-requires-clause-pass g c κs within = c.requires.pass

pub call-requires-clause-built : goal.call-requires-clause-built
call-requires-clause-built g c κs within =
    let asks = c.in_ok-call.ensures.value c.args.variables.now (λ name. refl) in
    (asked_well c.args.tapes.now c.args.line.now.verb c.args.variables.now c.in-Some.call c.requires.line.verb (sym c.in-Some.is ∙ asks)).built

pub call-requires-clause-takes : goal.call-requires-clause-takes
call-requires-clause-takes g c κs within =
    let asks = c.in_ok-call.ensures.value c.args.variables.now (λ name. refl) in
    let well = asked_well c.args.tapes.now c.args.line.now.verb c.args.variables.now c.in-Some.call c.requires.line.verb (sym c.in-Some.is ∙ asks) in
    let P : List (List ℕ) → Type 0 = λ tapes. TakesAreIn tapes c.in-Some.call in
    subst P (sym c.requires.tapes) (well.takes c.requires.line.tape)

pub call-requires-clause-ropes : goal.call-requires-clause-ropes
call-requires-clause-ropes g c κs within =
    let asks = c.in_ok-call.ensures.value c.args.variables.now (λ name. refl) in
    (asked_well c.args.tapes.now c.args.line.now.verb c.args.variables.now c.in-Some.call c.requires.line.verb (sym c.in-Some.is ∙ asks)).ropes c.requires.line.ropes

pub call-requires-clause-range : goal.call-requires-clause-range
call-requires-clause-range g c κs within =
    let asks = c.in_ok-call.ensures.value c.args.variables.now (λ name. refl) in
    (asked_well c.args.tapes.now c.args.line.now.verb c.args.variables.now c.in-Some.call c.requires.line.verb (sym c.in-Some.is ∙ asks)).range c.requires.line.range

pub returns-in_err-reply-clause-pass : goal.returns-in_err-reply-clause-pass
returns-in_err-reply-clause-pass g c = c.in_err-reply.ensures.pass

pub returns-in_err-reply-clause-caller : goal.returns-in_err-reply-clause-caller
returns-in_err-reply-clause-caller g c = c.in_err-reply.ensures.caller

pub returns-in_err-reply-clause-all : goal.returns-in_err-reply-clause-all
returns-in_err-reply-clause-all g c = c.in_err-reply.ensures.all

pub returns-in_err-reply-clause-seen : goal.returns-in_err-reply-clause-seen
returns-in_err-reply-clause-seen g c = c.in_err-reply.ensures.seen

pub returns-in_err-reply-clause-began : goal.returns-in_err-reply-clause-began
returns-in_err-reply-clause-began g c = λ stand same. in_error c.from_residual-in_err-reply.result _ (inl c.in_err-reply.ensures.err)

pub returns-in_err-reply-clause-ok : goal.returns-in_err-reply-clause-ok
returns-in_err-reply-clause-ok g c = λ stand same. not_done c.from_residual-in_err-reply.result _ c.from_residual-in_err-reply.ensures.0

pub returns-in_err-reply-clause-bytes : goal.returns-in_err-reply-clause-bytes
returns-in_err-reply-clause-bytes g c = not_done c.from_residual-in_err-reply.result _ c.from_residual-in_err-reply.ensures.0

pub serve_played-requires-clause-pass : goal.serve_played-requires-clause-pass
serve_played-requires-clause-pass g c κs within = c.in_ok-reply.ensures.pass

pub serve_played-requires-clause-all : goal.serve_played-requires-clause-all
serve_played-requires-clause-all g c κs within = c.in_ok-reply.ensures.all

pub serve_played-requires-clause-file : goal.serve_played-requires-clause-file
serve_played-requires-clause-file g c κs within = c.requires.line.file

pub returns-in_err-serve_played-clause-pass : goal.returns-in_err-serve_played-clause-pass
returns-in_err-serve_played-clause-pass g c = c.in_err-serve_played.ensures.pass

pub returns-in_err-serve_played-clause-caller : goal.returns-in_err-serve_played-clause-caller
returns-in_err-serve_played-clause-caller g c = c.in_err-serve_played.ensures.caller ∙ c.in_ok-reply.ensures.caller

pub returns-in_err-serve_played-clause-all : goal.returns-in_err-serve_played-clause-all
returns-in_err-serve_played-clause-all g c = c.in_err-serve_played.ensures.all

pub returns-in_err-serve_played-clause-seen : goal.returns-in_err-serve_played-clause-seen
returns-in_err-serve_played-clause-seen g c = begins_on (seen c.args.pass.now) (seen c.call.new.pass) (seen c.serve_played.new.pass) c.in_ok-reply.ensures.seen c.in_err-serve_played.ensures.seen

pub returns-in_err-serve_played-clause-began : goal.returns-in_err-serve_played-clause-began
returns-in_err-serve_played-clause-began g c = λ stand same.
    let asks = sym c.in-Some.is ∙ c.in_ok-call.ensures.value stand same in
    let adds = c.in_ok-reply.ensures.ok in
    in_error c.from_residual-in_err-serve_played.result _ (inr (line_began c.args.tapes.now c.args.line.now stand c.in-Some.call c.in_ok-reply.reply adds.entry (mine c.args.pass.now) (mine c.call.new.pass) (mine c.serve_played.new.pass) asks adds.call_is adds.reply_is adds.gained c.in_err-serve_played.ensures.err))

pub returns-in_err-serve_played-clause-ok : goal.returns-in_err-serve_played-clause-ok
returns-in_err-serve_played-clause-ok g c = λ stand same. not_done c.from_residual-in_err-serve_played.result _ c.from_residual-in_err-serve_played.ensures.0

pub returns-in_err-serve_played-clause-bytes : goal.returns-in_err-serve_played-clause-bytes
returns-in_err-serve_played-clause-bytes g c = not_done c.from_residual-in_err-serve_played.result _ c.from_residual-in_err-serve_played.ensures.0

pub returns-clause-pass : goal.returns-clause-pass
returns-clause-pass g c = c.in_ok-serve_played.ensures.pass

pub returns-clause-caller : goal.returns-clause-caller
returns-clause-caller g c = c.in_ok-serve_played.ensures.caller ∙ c.in_ok-reply.ensures.caller

pub returns-clause-all : goal.returns-clause-all
returns-clause-all g c = c.in_ok-serve_played.ensures.all

pub returns-clause-seen : goal.returns-clause-seen
returns-clause-seen g c = begins_on (seen c.args.pass.now) (seen c.call.new.pass) (seen c.serve_played.new.pass) c.in_ok-reply.ensures.seen c.in_ok-serve_played.ensures.seen

pub returns-clause-began : goal.returns-clause-began
returns-clause-began g c = λ stand same.
    let asks = sym c.in-Some.is ∙ c.in_ok-call.ensures.value stand same in
    let adds = c.in_ok-reply.ensures.ok in
    in_error c.bind.result _ (inr (line_began c.args.tapes.now c.args.line.now stand c.in-Some.call c.in_ok-reply.reply adds.entry (mine c.args.pass.now) (mine c.call.new.pass) (mine c.serve_played.new.pass) asks adds.call_is adds.reply_is adds.gained (followed_into c.args.line.now.verb c.in_ok-reply.reply c.args.line.now.file (mine c.call.new.pass) (mine c.serve_played.new.pass) (names_in c.args.heard.now.items) (names_in c.serve_played.new.heard.items) c.in_ok-serve_played.ensures.ok)))

pub returns-clause-ok : goal.returns-clause-ok
returns-clause-ok g c = λ stand same.
    let asks = sym c.in-Some.is ∙ c.in_ok-call.ensures.value stand same in
    let adds = c.in_ok-reply.ensures.ok in
    let plain = subst IsAskedOf c.in-Some.is c.in_ok-call.ensures.asked in
    let P : Type 0 = SameValues c.bind.new.self (bound c.args.line.now.bind (bound_rope c.in_ok-reply.reply) stand) in
    let Q : Type 0 = LineDone c.args.tapes.now c.args.line.now stand c.bind.new.self (mine c.args.pass.now) (mine c.serve_played.new.pass) (names_in c.args.heard.now.items) (names_in c.serve_played.new.heard.items) in
    then_bound c.bind.result P Q
    (line_done c.args.tapes.now c.args.line.now stand c.bind.new.self c.in-Some.call c.in_ok-reply.reply adds.entry (mine c.args.pass.now) (mine c.call.new.pass) (mine c.serve_played.new.pass) (names_in c.args.heard.now.items) (names_in c.serve_played.new.heard.items) asks plain adds.call_is adds.reply_is adds.gained c.in_ok-serve_played.ensures.ok)
    (c.bind.ensures.ok stand same)

pub returns-clause-bytes : goal.returns-clause-bytes
returns-clause-bytes g c =
    let plain = subst IsAskedOf c.in-Some.is c.in_ok-call.ensures.asked in
    in_ok c.bind.result _
    (line_heard g.D.Disk.told c.args.tapes.now c.args.server.now c.args.line.now c.in-Some.call c.in_ok-reply.reply c.args.pass.now c.call.new.pass c.serve_played.new.pass (bytes_in c.args.heard.now.items) (bytes_in c.serve_played.new.heard.items) c.requires.tapes
    c.in_ok-reply.ensures.caller c.requires.all c.in_ok-reply.ensures.all plain c.in_ok-reply.ensures.ok c.in_ok-serve_played.ensures.seen c.in_ok-serve_played.ensures.bytes)
