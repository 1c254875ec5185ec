use Rattle.std.proofs.Common.{◌≡◌, ◌∙◌, Some, sym, refl, inr}
use Rattle.voice_store.specs.Shown.{history_of}
use Rattle.script_lang.specs.Parts.{served}
use Rattle.voice_main.specs.Done.{to_serve}
use Rattle.voice_main.proofs.Added.{done_alone, done_served, began_serving, to_serve_is, made_grown, grown_on}
use Rattle.voice_main.proofs.LineGiven.{call_quietly, line_gave_nothing, line_gave, gave_from, rests_behind}
use Rattle.voice_main.proofs.Going.{in_error}
use Rattle.voice_main.proofs.script_lines.run_line.Goals as goal

pub returns-in_default-clause-ok : goal.returns-in_default-clause-ok
returns-in_default-clause-ok g c = λ stand same.
    done_alone c.args.tapes.now c.args.line.now stand c.call_line.new.variables c.in_ok-made.made (history_of c.args.store.now) (history_of c.call_line.new.store) c.args.heard.now.items c.args.heard.now.items
    (c.in_ok-made.ensures.ok stand same) (sym c.lane_behind.ensures ∙ c.in_default.is) refl

pub returns-in_default-clause-bytes : goal.returns-in_default-clause-bytes
returns-in_default-clause-bytes g c = λ honest first opened keeps rests fed.
    line_gave_nothing first c.args.tapes.now c.args.line.now.caller (history_of c.args.store.now) (history_of c.call_line.new.store) c.args.heard.now.items c.args.heard.now.items
    (call_quietly c.args.tapes.now c.args.line.now c.args.variables.now c.call_line.new.variables c.in_ok-made.made (history_of c.args.store.now) (history_of c.call_line.new.store) (c.in_ok-made.ensures.ok c.args.variables.now (λ name. refl))) refl rests

pub returns-in_err-serve_line-clause-began : goal.returns-in_err-serve_line-clause-began
returns-in_err-serve_line-clause-began g c = λ stand same.
    let is : to_serve (served c.args.line.now.verb) c.in_ok-made.made ≡ Some c.in-Some.lane = sym c.lane_behind.ensures ∙ c.in-Some.is in
    in_error c.from_residual-in_err-serve_line.result
    (inr (began_serving c.args.tapes.now c.args.line.now stand c.call_line.new.variables c.in_ok-made.made c.in-Some.lane (history_of c.args.store.now) (history_of c.call_line.new.store) (history_of c.serve_line.new.store) (c.in_ok-made.ensures.ok stand same) is c.in_err-serve_line.ensures.err))

pub returns-clause-ok : goal.returns-clause-ok
returns-clause-ok g c = λ stand same.
    let is : to_serve (served c.args.line.now.verb) c.in_ok-made.made ≡ Some c.in-Some.lane = sym c.lane_behind.ensures ∙ c.in-Some.is in
    done_served c.args.tapes.now c.args.line.now stand c.call_line.new.variables c.in_ok-made.made c.in-Some.lane (history_of c.args.store.now) (history_of c.call_line.new.store) (history_of c.serve_line.new.store) c.args.heard.now.items c.serve_line.new.heard.items
    (c.in_ok-made.ensures.ok stand same) is c.in_ok-serve_line.ensures.ok c.requires.bind

pub returns-clause-bytes : goal.returns-clause-bytes
returns-clause-bytes g c = λ honest first opened keeps rests fed.
    let is : to_serve (served c.args.line.now.verb) c.in_ok-made.made ≡ Some c.in-Some.lane = sym c.lane_behind.ensures ∙ c.in-Some.is in
    let quiet = call_quietly c.args.tapes.now c.args.line.now c.args.variables.now c.call_line.new.variables c.in_ok-made.made (history_of c.args.store.now) (history_of c.call_line.new.store) (c.in_ok-made.ensures.ok c.args.variables.now (λ name. refl)) in
    let gave = gave_from g.D.Disk.told first c.args.line.now.caller c.in-Some.lane c.call_line.new.store c.args.store.now.origin c.args.tapes.now (history_of c.serve_line.new.store) c.args.heard.now.items c.serve_line.new.heard.items
    c.in_ok-made.ensures.origin (c.in_ok-made.ensures.tapes_stay ∙ c.requires.tapes) c.in_ok-serve_line.ensures.bytes honest opened (c.in_ok-made.ensures.stands first keeps)
    (fed c.in-Some.lane (to_serve_is (served c.args.line.now.verb) c.in_ok-made.made c.in-Some.lane is))
    (rests_behind first c.args.tapes.now (history_of c.args.store.now) (history_of c.call_line.new.store) quiet rests c.in-Some.lane) in
    line_gave first c.args.tapes.now c.args.line.now.caller c.in-Some.lane (history_of c.args.store.now) (history_of c.call_line.new.store) (history_of c.serve_line.new.store) c.args.heard.now.items c.serve_line.new.heard.items quiet gave rests

pub returns-in_default-clause-grown : goal.returns-in_default-clause-grown
returns-in_default-clause-grown g c = made_grown c.args.tapes.now c.args.line.now c.args.variables.now c.call_line.new.variables c.in_ok-made.made (history_of c.args.store.now) (history_of c.call_line.new.store) (c.in_ok-made.ensures.ok c.args.variables.now (λ name. refl))

pub returns-clause-grown : goal.returns-clause-grown
returns-clause-grown g c =
    grown_on (history_of c.args.store.now) (history_of c.call_line.new.store) (history_of c.serve_line.new.store)
    (made_grown c.args.tapes.now c.args.line.now c.args.variables.now c.call_line.new.variables c.in_ok-made.made (history_of c.args.store.now) (history_of c.call_line.new.store) (c.in_ok-made.ensures.ok c.args.variables.now (λ name. refl))) c.in_ok-serve_line.ensures.ok.grown

pub returns-in_err-serve_line-clause-stands : goal.returns-in_err-serve_line-clause-stands
returns-in_err-serve_line-clause-stands g c = λ first h. c.in_err-serve_line.ensures.stands first (c.in_ok-made.ensures.stands first h)

pub returns-clause-stands : goal.returns-clause-stands
returns-clause-stands g c = λ first h. c.in_ok-serve_line.ensures.stands first (c.in_ok-made.ensures.stands first h)
