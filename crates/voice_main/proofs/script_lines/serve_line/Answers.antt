use Rattle.std.proofs.Common.{◌≡◌, ◌∙◌, ◌++◌, Some, List, ℕ, Option, ap, sym, subst}
use Rattle.voice_store.specs.Shown.{history_of, tapes_in}
use Rattle.served_files.specs.Given.{is_over, given_name, names_in}
use Rattle.voice_main.proofs.Added.{lane_served, served_in_part, served_whole}
use Rattle.voice_main.proofs.LineGiven.{lane_gave}
use Rattle.voice_main.proofs.Going.{in_error, once_done}
use Rattle.voice_main.proofs.script_lines.serve_line.Goals as goal

pub returns-in_err-reply-clause-err : goal.returns-in_err-reply-clause-err
returns-in_err-reply-clause-err g c = in_error c.from_residual.result (served_in_part c.args.line.now.caller c.args.lane (history_of c.args.store.now) (history_of c.serve_alone.new.store) c.in_err-reply.ensures.err)

pub returns-clause-ok : goal.returns-clause-ok
returns-clause-ok g c =
    let named : c.args.line.now.file ≡ Some c.name.result = c.in-Some.is ∙ ap Some (sym c.name.ensures) in
    once_done c.keep.result
    (λ (names : names_in c.keep.new.heard.items ≡ names_in c.args.heard.now.items ++ given_name (is_over c.in_ok-reply.reply) (Some c.name.result)).
    lane_served c.args.line.now.caller c.args.lane c.args.line.now.file c.in_ok-reply.reply (history_of c.args.store.now) (history_of c.serve_alone.new.store) c.args.heard.now.items c.keep.new.heard.items c.in_ok-reply.ensures.ok
    (subst (λ (f : Option (List ℕ)). names_in c.keep.new.heard.items ≡ names_in c.args.heard.now.items ++ given_name (is_over c.in_ok-reply.reply) f) (sym named) names))
    c.keep.ensures.names

pub returns-clause-err : goal.returns-clause-err
returns-clause-err g c = in_error c.keep.result (served_whole c.args.line.now.caller c.args.lane c.in_ok-reply.reply (history_of c.args.store.now) (history_of c.serve_alone.new.store) c.in_ok-reply.ensures.ok)

pub returns-clause-bytes : goal.returns-clause-bytes
returns-clause-bytes g c = λ honest first opened keeps fed rests.
    once_done c.keep.result
    (lane_gave first (tapes_in c.args.store.now) c.args.line.now.caller c.args.lane c.in_ok-reply.reply (history_of c.args.store.now) (history_of c.serve_alone.new.store) c.args.heard.now.items c.keep.new.heard.items c.serve_alone.new.heard.items
    c.in_ok-reply.ensures.ok (c.in_ok-reply.ensures.bytes honest first opened keeps fed rests c.new-bytes.ensures.items))
    c.keep.ensures.bytes
