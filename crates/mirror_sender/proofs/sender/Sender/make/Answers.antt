use Rattle.std.proofs.Common.{refl, sym, ◌∙◌, ap, subst}
use Rattle.voice_units.specs.declared.shapes.Shape.{Shape}
use Rattle.std.specs.Prelude.{IfOk}
use Rattle.voice_model.specs.Changes.{effect_of}
use Rattle.voice_model.specs.declared.calls.Call.{Call}
use Rattle.mirror_sender.specs.Coming.{HasTakes, MayBeNextOf}
use Rattle.mirror_sender.specs.Abreast.{takes_on, MayChange}
use Rattle.mirror_sender.proofs.Takings.{takes_within}
use Rattle.mirror_sender.proofs.Noted.{asks, record_fits, record_effect, record_short, end_fits, end_effect, end_short}
use Rattle.mirror_sender.proofs.sender.Sender.make.Goals as goal

pub returns-then-is_edit-clause-sound : goal.returns-then-is_edit-clause-sound
returns-then-is_edit-clause-sound c = λ own sound. c.make_edit.ensures.sound own c.args.tapes.now c.args.self.now.parts.interests.spare sound.told

pub returns-then-is_edit-clause-made : goal.returns-then-is_edit-clause-made
returns-then-is_edit-clause-made c = λ own s may.
    c.make_edit.ensures.made own c.args.tapes.now s c.args.self.now.parts.interests.spare may.abreast.sound.told (asks own c.args.tapes.now c.args.self.now s c.args.call.now may)

pub make_other-requires-clause-told : goal.make_other-requires-clause-told
make_other-requires-clause-told c = (c.requires.sound.0, c.requires.sound.1.told, ap (λ (x : Shape). x.graces) c.requires.sound.1.in_shape)

pub returns-then-is_row_call-clause-sound : goal.returns-then-is_row_call-clause-sound
returns-then-is_row_call-clause-sound c = λ own sound. c.make_other.ensures.sound own c.args.tapes.now sound.told (ap (λ (x : Shape). x.graces) sound.in_shape)

pub returns-then-is_row_call-clause-made : goal.returns-then-is_row_call-clause-made
returns-then-is_row_call-clause-made c = λ own s may.
    c.make_other.ensures.made own c.args.tapes.now s may.abreast.sound.told (ap (λ (x : Shape). x.graces) may.abreast.sound.in_shape) (asks own c.args.tapes.now c.args.self.now s c.args.call.now may)

pub returns-then-is_row_call-clause-rest : goal.returns-then-is_row_call-clause-rest
returns-then-is_row_call-clause-rest c = refl

pub make_voice-requires-in-End : goal.make_voice-requires-in-End
make_voice-requires-in-End c =
    subst (HasTakes c.args.tapes.now) (sym (c.in_ok-takes-in-End.ensures ∙ ap (λ l. takes_on l c.in-End.lane) c.deref.ensures.value)) (takes_within c.args.tapes.now c.args.self.now.adds.items c.in-End.lane c.requires.sound.1.within)

pub returns-in_ok-takes-in-Record-clause-sound : goal.returns-in_ok-takes-in-Record-clause-sound
returns-in_ok-takes-in-Record-clause-sound c = λ own sound. c.make_voice.ensures.sound own c.args.self.now.parts.interests.spare sound.told

pub returns-in_ok-takes-in-Record-clause-made : goal.returns-in_ok-takes-in-Record-clause-made
returns-in_ok-takes-in-Record-clause-made c = λ own s may.
    let tapes = c.args.tapes.now in
    let self = c.args.self.now in
    let spare = self.parts.interests.spare in
    let takes = c.in_ok-takes-in-Record.takes.items in
    let here = subst (λ (call : Call). MayChange own tapes self s call) c.in-Record.is may in
    let one = c.in_ok-takes-in-Record.ensures.items in
    let made = c.make_voice.ensures.made own spare may.abreast.sound.told (record_fits own tapes self s c.in-Record.take here).0 (record_short own tapes self s c.in-Record.take takes one here) in
    subst (λ o. IfOk c.make_voice.result (λ next. MayBeNextOf own tapes spare next o)) (record_effect own tapes self s c.in-Record.take takes one here ∙ ap (effect_of s tapes) (sym c.in-Record.is)) made

pub returns-in_ok-takes-in-End-clause-sound : goal.returns-in_ok-takes-in-End-clause-sound
returns-in_ok-takes-in-End-clause-sound c = λ own sound. c.make_voice-in-End.ensures.sound own c.args.self.now.parts.interests.spare sound.told

pub returns-in_ok-takes-in-End-clause-made : goal.returns-in_ok-takes-in-End-clause-made
returns-in_ok-takes-in-End-clause-made c = λ own s may.
    let tapes = c.args.tapes.now in
    let self = c.args.self.now in
    let spare = self.parts.interests.spare in
    let takes = c.in_ok-takes-in-End.takes.items in
    let here = subst (λ (call : Call). MayChange own tapes self s call) c.in-End.is may in
    let same = c.in_ok-takes-in-End.ensures ∙ ap (λ l. takes_on l c.in-End.lane) c.deref.ensures.value in
    let made = c.make_voice-in-End.ensures.made own spare may.abreast.sound.told (end_fits own tapes self s c.in-End.lane here).0 (end_short own tapes self s c.in-End.lane takes same here) in
    subst (λ o. IfOk c.make_voice-in-End.result (λ next. MayBeNextOf own tapes spare next o)) (end_effect own tapes self s c.in-End.lane takes same here ∙ ap (effect_of s tapes) (sym c.in-End.is)) made
