use Rattle.std.proofs.Common.{refl, sym, ◌∙◌, eq-eqb, ◌==◌}
use Rattle.voice_model.specs.Replay.{may_be_recorded}
use Rattle.voice_model.specs.declared.changes.Change.TheVariants as changes
use Rattle.recovery.proofs.Recordings.{recorded_after, if_ok-legal}
use Rattle.recovery.proofs.Rebuilding.{rebuilds_still}
use Rattle.recovery.proofs.parts.Parts.try_wide.Goals as goal

pub returns : goal.returns
returns c =
    let old = c.args.self.now in
    record {
      legal = λ r h s. if_ok-legal c.record.result (may_be_recorded r c.args.id c.args.len c.args.addresses.now) (r.form == 2) (eq-eqb r.form 2 (sym h.in_form ∙ c.if-self-ne2.false)) (c.record.ensures.legal r h s);
      done = λ r h s e.
          let both = c.record.ensures.done r h s e in
          recorded_after old c.record.new.self r (changes.Wide c.args.id c.args.len c.args.addresses.now) c.args.id c.args.len c.args.addresses.now c.record.result 2 h (sym h.in_form ∙ c.if-self-ne2.false) c.requires.grammar refl refl (c.record.ensures.legal r h s) e both.0 both.1 c.record.ensures.form;
      same = λ r h s e. let both = c.record.ensures.same r h s e in rebuilds_still old c.record.new.self r h both.0 c.record.ensures.form both.1;
    }
