use Rattle.std.proofs.Common.{◌&&◌, true, refl, sym, ◌∙◌, ap, eq-eqb}
use Rattle.voice_model.specs.Replay.{may_be_file}
use Rattle.voice_model.specs.declared.changes.Change.TheVariants as changes
use Rattle.recovery.proofs.Rebuilding.{told}
use Rattle.recovery.proofs.building.Building.try_file2.Goals as goal

pub returns-clause-done : goal.returns-clause-done
returns-clause-done c = λ r h e.
    let may = told true (may_be_file r c.args.file c.args.pairs.now) c.add_file.result (c.add_file.ensures.legal r h) e in
    c.add_file.ensures.done r (changes.File2 c.args.file c.args.pairs.now) h e (ap (λ b. b && may_be_file r c.args.file c.args.pairs.now) (eq-eqb r.form 2 (sym h.in_form ∙ c.if-self-ne2.false)) ∙ may) c.requires.grammar refl
