use Rattle.std.proofs.Common.{refl, []}
use Rattle.voice_model.specs.State.Effect.{Retained}
use Rattle.recovery.proofs.Rebuilding.{plain_applied}
use Rattle.recovery.proofs.parts.Parts.try_retained.Goals as goal

pub returns : goal.returns
returns c = λ shape.
    plain_applied shape c.args.self.now c.retain.new.self _ (Retained (record { class = c.args.class; key = c.args.key.now; rope = c.args.id; note = c.args.note.now })) c.retain.result c.requires.grammar (λ r. refl)
    c.retain.ensures.blocks c.retain.ensures.form
    (λ r h s. c.retain.ensures.legal [] r.kept h.kept)
    (λ r h s e. c.retain.ensures.done [] r.form r.kept h.kept e)
    (λ r h s e. c.retain.ensures.same [] r.kept h.kept e)
    (λ r pair h. h)
