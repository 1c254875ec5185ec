use Rattle.std.proofs.Common.{sym, ◌∙◌, ap, subst, IfOk}
use Rattle.voice_model.specs.declared.calls.Call.{Call}
use Rattle.voice_model.specs.declared.calls.Call.TheVariants as calls
use Rattle.edits.specs.Shown.{IsMade}
use Rattle.mirror_sender.proofs.making.edited.Goals as goal

pub returns-in-Concat : goal.returns-in-Concat
returns-in-Concat c = λ held s tapes shows valid.
    subst (λ (call : Call). IfOk c.concat.result (λ made. IsMade made s tapes call)) (ap calls.Concat c.items.ensures ∙ sym c.in-Concat.is) (c.concat.ensures held s tapes shows valid)

pub returns-in-Sub : goal.returns-in-Sub
returns-in-Sub c = λ held s tapes shows valid.
    subst (λ (call : Call). IfOk c.sub.result (λ made. IsMade made s tapes call)) (sym c.in-Sub.is) (c.sub.ensures held s tapes shows valid)

pub returns-in-Replace : goal.returns-in-Replace
returns-in-Replace c = λ held s tapes shows valid.
    subst (λ (call : Call). IfOk c.replace.result (λ made. IsMade made s tapes call)) (sym c.in-Replace.is) (c.replace.ensures held s tapes shows valid)
