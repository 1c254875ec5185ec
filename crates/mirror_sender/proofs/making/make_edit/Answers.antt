use Rattle.std.proofs.Common.{[], subst}
use Rattle.voice_model.specs.Changes.{effect_of}
use Rattle.mirror_sender.specs.Coming.{IsMaybeNext, MayBeNextOf}
use Rattle.mirror_sender.proofs.Likeness.{own_state, own_valid}
use Rattle.mirror_sender.proofs.Made.{told_state, told_valid, edit_sound, edit_next, next_made}
use Rattle.mirror_sender.proofs.making.make_edit.Goals as goal

pub returns-in-Rope-clause-sound : goal.returns-in-Rope-clause-sound
returns-in-Rope-clause-sound c = λ own tapes spare told.
    let form = c.args.parts.now.form in
    let made = c.in_ok-made.ensures [] (told_state form own) tapes told.shows (told_valid own c.args.parts.now told) in
    subst (λ m. IsMaybeNext own tapes form spare (next_made m)) c.in-Rope.is (edit_sound own c.args.parts.now tapes c.args.call.now c.in_ok-made.made spare c.requires.edits c.requires.range told made)

pub returns-in-Rope-clause-made : goal.returns-in-Rope-clause-made
returns-in-Rope-clause-made c = λ own tapes s spare told asks.
    let made = c.in_ok-made.ensures [] (own_state s c.args.parts.now.form own) tapes told.shows (own_valid own c.args.parts.now s told asks.like asks.sure asks.valid) in
    subst (λ m. MayBeNextOf own tapes spare (next_made m) (effect_of s tapes c.args.call.now)) c.in-Rope.is
    (edit_next own c.args.parts.now tapes s c.args.call.now c.in_ok-made.made spare c.requires.edits c.requires.range told asks made)

pub returns-in-Refused-clause-made : goal.returns-in-Refused-clause-made
returns-in-Refused-clause-made c = λ own tapes s spare told asks.
    let made = c.in_ok-made.ensures [] (own_state s c.args.parts.now.form own) tapes told.shows (own_valid own c.args.parts.now s told asks.like asks.sure asks.valid) in
    subst (λ m. MayBeNextOf own tapes spare (next_made m) (effect_of s tapes c.args.call.now)) c.in-Refused.is
    (edit_next own c.args.parts.now tapes s c.args.call.now c.in_ok-made.made spare c.requires.edits c.requires.range told asks made)
