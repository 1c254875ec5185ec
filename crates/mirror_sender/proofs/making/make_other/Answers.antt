use Rattle.std.proofs.Common.{[], refl, sym, subst}
use Rattle.voice_model.specs.Changes.{effect_of}
use Rattle.voice_model.specs.Samples.{spot_of}
use Rattle.voice_model.specs.Replay.{durable_by}
use Rattle.recovery.specs.Shown.{plain_sample}
use Rattle.mirror_sender.specs.Told.{rebuilt_by}
use Rattle.mirror_sender.specs.Coming.{IsMaybeNext, MayBeNextOf}
use Rattle.mirror_sender.proofs.Likeness.{own_valid}
use Rattle.mirror_sender.proofs.Made.{told_state, told_valid, told_still, tells, plain_state, plain_valid, row_sound, row_next, next_of}
use Rattle.mirror_sender.proofs.making.make_other.Goals as goal

pub ask-requires-clause-shown : goal.ask-requires-clause-shown
ask-requires-clause-shown c =
    let own = c.requires.told.0 in
    ([], rebuilt_by own c.args.parts.now.form, tells own c.args.parts.now c.requires.told.1, c.requires.told.2)

pub returns-in_err-asked-clause-told : goal.returns-in_err-asked-clause-told
returns-in_err-asked-clause-told c = λ own told. told_still own c.args.parts.now c.ask.new.parts told (c.ask.ensures.same [] (durable_by spot_of own) told.shows) c.ask.ensures.form

pub returns-in-Changes-clause-told : goal.returns-in-Changes-clause-told
returns-in-Changes-clause-told c = λ own told. told_still own c.args.parts.now c.ask.new.parts told (c.ask.ensures.same [] (durable_by spot_of own) told.shows) c.ask.ensures.form

pub returns-in-Refused-clause-told : goal.returns-in-Refused-clause-told
returns-in-Refused-clause-told c = λ own told. told_still own c.args.parts.now c.ask.new.parts told (c.ask.ensures.same [] (durable_by spot_of own) told.shows) c.ask.ensures.form

pub returns-clause-told : goal.returns-clause-told
returns-clause-told c = λ own told. told_still own c.args.parts.now c.ask.new.parts told (c.ask.ensures.same [] (durable_by spot_of own) told.shows) c.ask.ensures.form

pub returns-in-Changes-clause-sound : goal.returns-in-Changes-clause-sound
returns-in-Changes-clause-sound c = λ own tapes told graces.
    let parts = c.args.parts.now in
    let here = told_state parts.form own in
    let asked = c.in_ok-asked.ensures.asked [] plain_sample (rebuilt_by own parts.form) (plain_state here parts.form own) tapes (λ x. refl) (tells own parts told) refl refl (plain_valid here parts.form own refl (told_valid own parts told)) graces in
    subst (λ a. IsMaybeNext own tapes c.ask.new.parts.form c.ask.new.parts.interests.spare (next_of a)) c.in-Changes.is
    (subst (λ f. IsMaybeNext own tapes f c.ask.new.parts.interests.spare (next_of c.in_ok-asked.asked)) (sym c.ask.ensures.form)
    (row_sound own parts c.ask.new.parts tapes c.args.call.now c.in_ok-asked.asked c.requires.rows c.requires.range told asked))

pub returns-in-Changes-clause-made : goal.returns-in-Changes-clause-made
returns-in-Changes-clause-made c = λ own tapes s told graces asks.
    let parts = c.args.parts.now in
    let asked = c.in_ok-asked.ensures.asked [] plain_sample (rebuilt_by own parts.form) (plain_state s parts.form own) tapes (λ x. refl) (tells own parts told) refl refl (plain_valid s parts.form own asks.sure (own_valid own parts s told asks.like asks.sure asks.valid)) graces in
    subst (λ a. MayBeNextOf own tapes c.ask.new.parts.interests.spare (next_of a) (effect_of s tapes c.args.call.now)) c.in-Changes.is
    (row_next own parts c.ask.new.parts tapes s c.args.call.now c.in_ok-asked.asked c.requires.rows asks asked)

pub returns-in-Refused-clause-made : goal.returns-in-Refused-clause-made
returns-in-Refused-clause-made c = λ own tapes s told graces asks.
    let parts = c.args.parts.now in
    let asked = c.in_ok-asked.ensures.asked [] plain_sample (rebuilt_by own parts.form) (plain_state s parts.form own) tapes (λ x. refl) (tells own parts told) refl refl (plain_valid s parts.form own asks.sure (own_valid own parts s told asks.like asks.sure asks.valid)) graces in
    subst (λ a. MayBeNextOf own tapes c.ask.new.parts.interests.spare (next_of a) (effect_of s tapes c.args.call.now)) c.in-Refused.is
    (row_next own parts c.ask.new.parts tapes s c.args.call.now c.in_ok-asked.asked c.requires.rows asks asked)

pub returns-clause-made : goal.returns-clause-made
returns-clause-made c = λ own tapes s told graces asks.
    let parts = c.args.parts.now in
    let asked = c.in_ok-asked.ensures.asked [] plain_sample (rebuilt_by own parts.form) (plain_state s parts.form own) tapes (λ x. refl) (tells own parts told) refl refl (plain_valid s parts.form own asks.sure (own_valid own parts s told asks.like asks.sure asks.valid)) graces in
    subst (λ a. MayBeNextOf own tapes c.ask.new.parts.interests.spare (next_of a) (effect_of s tapes c.args.call.now)) c.in-Answered.is
    (row_next own parts c.ask.new.parts tapes s c.args.call.now c.in_ok-asked.asked c.requires.rows asks asked)
