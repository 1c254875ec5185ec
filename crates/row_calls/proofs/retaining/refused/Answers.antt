use Rattle.std.proofs.Common.{[], refl, sym, ◌∙◌, ap}
use Rattle.voice_model.specs.Step.{first_of, if_unknown, if_taken, when}
use Rattle.voice_model.specs.declared.calls.Why.TheVariants as why
use Rattle.edits.proofs.Seen.{no_rope, a_rope}
use Rattle.edits.proofs.Refusals.{stops, goes_on}
use Rattle.row_calls.proofs.Comes.{retain_conditions}
use Rattle.row_calls.proofs.retaining.refused.Goals as goal

pub returns-in_default : goal.returns-in_default
returns-in_default c = λ held s tapes h.
    let row = c.args.row.now in
    let parts = c.args.parts.now in
    sym (ap first_of (retain_conditions held parts s tapes h row.class row.key row.rope row.note) ∙ stops _ _ _ (ap if_unknown (no_rope parts.ropes.ropes row.rope [] c.in_default.ensures)))

pub returns-then-is_bad_note : goal.returns-then-is_bad_note
returns-then-is_bad_note c = λ held s tapes h.
    let row = c.args.row.now in
    let parts = c.args.parts.now in
    sym (ap first_of (retain_conditions held parts s tapes h row.class row.key row.rope row.note)
    ∙ goes_on _ _ _ (ap if_unknown (a_rope parts.ropes.ropes row.rope [] _ c.in-Some.ensures))
    (stops _ _ _ (ap (λ b. when b why.BadData) (sym c.is_bad_note.ensures ∙ c.if-is_bad_note.true))))

pub returns-in_default-find : goal.returns-in_default-find
returns-in_default-find c = λ held s tapes h.
    let row = c.args.row.now in
    let parts = c.args.parts.now in
    sym (ap first_of (retain_conditions held parts s tapes h row.class row.key row.rope row.note)
    ∙ goes_on _ _ _ (ap if_unknown (a_rope parts.ropes.ropes row.rope [] _ c.in-Some.ensures))
    (goes_on _ _ _ (ap (λ b. when b why.BadData) (sym c.is_bad_note.ensures ∙ c.if-is_bad_note.false))
    (goes_on _ _ _ (ap if_taken (sym c.in_default-find.ensures)) refl)))

pub returns : goal.returns
returns c = λ held s tapes h.
    let row = c.args.row.now in
    let parts = c.args.parts.now in
    sym (ap first_of (retain_conditions held parts s tapes h row.class row.key row.rope row.note)
    ∙ goes_on _ _ _ (ap if_unknown (a_rope parts.ropes.ropes row.rope [] _ c.in-Some.ensures))
    (goes_on _ _ _ (ap (λ b. when b why.BadData) (sym c.is_bad_note.ensures ∙ c.if-is_bad_note.false))
    (stops _ _ _ (ap if_taken (sym c.in-Some-find.ensures)))))
