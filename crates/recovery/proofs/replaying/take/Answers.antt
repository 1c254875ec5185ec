use Rattle.std.proofs.Common.{◌≡◌, true, Some, sym, ◌∙◌, ap, subst}
use Rattle.std.specs.Prelude.{IfOk}
use Rattle.voice_model.specs.Spelling.{change_in}
use Rattle.voice_model.specs.Replay.{is_legal}
use Rattle.voice_model.proofs.ReadAgain.{spelled_is_read}
use Rattle.recovery.specs.Building.{is_allowed}
use Rattle.recovery.proofs.Rebuilding.{told}
use Rattle.recovery.proofs.replaying.take.Goals as goal

pub returns-in-Ok-clause-legal : goal.returns-in-Ok-clause-legal
returns-in-Ok-clause-legal c = λ r h s.
    let spells = c.in-Ok.ensures.ok in
    let read : change_in c.args.bytes.now ≡ Some c.in-Ok.change = ap change_in spells.bytes_of ∙ spelled_is_read c.in-Ok.change spells.grammar in
    subst (λ o. IfOk c.apply.result (λ done. done ≡ is_allowed r o)) (sym read) (c.apply.ensures.legal r h s)

pub returns-in-Ok-clause-done : goal.returns-in-Ok-clause-done
returns-in-Ok-clause-done c = λ r h s e.
    let spells = c.in-Ok.ensures.ok in
    record {
      change = c.in-Ok.change;
      spelled = ap change_in spells.bytes_of ∙ spelled_is_read c.in-Ok.change spells.grammar;
      legal = told true (is_legal r c.in-Ok.change) c.apply.result (c.apply.ensures.legal r h s) e;
      builds = c.apply.ensures.done r h s e;
    }
