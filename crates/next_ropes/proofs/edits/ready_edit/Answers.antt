use Rattle.std.proofs.Common.{refl, ◌∙◌, ap}
use Rattle.voice_model.specs.Spelling.{keeps_grammar, spelling}
use Rattle.voice_model.specs.declared.changes.Change.TheVariants as changes
use Rattle.next_ropes.proofs.Readied.{edit_grammar, edit_ready}
use Rattle.next_ropes.proofs.edits.ready_edit.Goals as goal

pub edit_payload-requires : goal.edit_payload-requires
edit_payload-requires c =
    let h = c.requires.parts.3 in
    ap (λ n. keeps_grammar (changes.Edited n c.args.pieces)) h.kept.next
    ∙ edit_grammar c.requires.parts.0 c.requires.parts.1 c.args.parts.now c.requires.parts.2 c.args.pieces h c.requires.number c.length-length.ensures.rope c.requires.many c.requires.long c.requires.used

pub returns-clause-ready : goal.returns-clause-ready
returns-clause-ready c = λ held takings b h limit.
    let rope = c.length-length.ensures.rope in
    edit_ready held takings c.args.parts.now c.make_room.new.parts b _ c.args.pieces h (c.make_room.ensures.same held takings b h) limit h.kept.next refl refl
    (c.in_ok-payload.ensures ∙ ap (λ n. spelling (changes.Edited n c.args.pieces)) h.kept.next)
    (edit_grammar held takings c.args.parts.now b c.args.pieces h c.requires.number rope c.requires.many c.requires.long c.requires.used)
    rope.normal c.requires.used c.in_ok-make_room.ensures.spare_ropes c.in_ok-make_room.ensures.few
