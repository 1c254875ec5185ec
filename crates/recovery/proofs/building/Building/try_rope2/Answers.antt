use Rattle.std.proofs.Common.{◌&&◌, true, refl, sym, ◌∙◌, ap, eq-eqb}
use Rattle.voice_model.specs.Replay.{may_be_rope}
use Rattle.voice_model.specs.declared.changes.Change.TheVariants as changes
use Rattle.recovery.proofs.Rebuilding.{told}
use Rattle.recovery.proofs.building.Building.try_rope2.Goals as goal

pub returns-clause-done : goal.returns-clause-done
returns-clause-done c = λ r h s e.
    let may = told true (may_be_rope r c.args.id c.args.idle c.args.pieces.items) c.add_base_rope.result (c.add_base_rope.ensures.legal r h) e in
    c.add_base_rope.ensures.done r (changes.Rope2 c.args.id c.args.idle c.args.last c.args.pieces.items) h s e (ap (λ b. b && may_be_rope r c.args.id c.args.idle c.args.pieces.items) (eq-eqb r.form 2 (sym h.in_form ∙ c.if-self-ne2.false)) ∙ may) c.requires.grammar refl
