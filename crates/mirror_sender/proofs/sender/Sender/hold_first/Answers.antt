use Rattle.std.proofs.Common.{◌≡◌, inl, refl, sym, ◌∙◌, ap, subst}
use Rattle.mirror_sender.specs.declared.sender.Sender.{Sender}
use Rattle.mirror_sender.specs.Abreast.{IsLeft}
use Rattle.mirror_sender.proofs.Lists.{on_err}
use Rattle.mirror_sender.proofs.Noted.{sound_still, abreast_after, rest_parts, Holds, holds_sound, holds_follows, hold_change, left_some, left_none}
use Rattle.mirror_sender.proofs.sender.Sender.hold_first.Goals as goal

pub returns-in_err-made-clause-sound : goal.returns-in_err-made-clause-sound
returns-in_err-made-clause-sound c =
    let own = c.requires.sound.0 in
    let sound = c.requires.sound.1 in
    (own, sound_still own c.args.tapes.now c.args.self.now c.make.new.self sound (c.make.ensures.told own sound.told) c.make.ensures.form (rest_parts c.args.self.now c.make.new.self c.make.ensures.rest) (inl c.requires.sure))

pub returns-in_err-made-clause-err : goal.returns-in_err-made-clause-err
returns-in_err-made-clause-err c = λ s abreast.
    let own = abreast.0 in
    on_err c.from_residual-in_err-made.result _
    (own, abreast_after own c.args.tapes.now c.args.self.now c.make.new.self s abreast.1 (c.make.ensures.told own abreast.1.sound.told) c.make.ensures.form (rest_parts c.args.self.now c.make.new.self c.make.ensures.rest) (inl c.requires.sure))

pub returns-in_default-clause-sound : goal.returns-in_default-clause-sound
returns-in_default-clause-sound c =
    let own = c.requires.sound.0 in
    let sound = c.requires.sound.1 in
    let new : Sender = record c.make.new.self { doubt = c.in_ok-made.made } in
    let rest = rest_parts c.args.self.now c.make.new.self c.make.ensures.rest in
    let left = left_none c.args.self.now.adds.items c.args.call.now (subst (IsLeft c.args.self.now.adds.items c.args.call.now) c.in_default.is c.in_ok-left.ensures) in
    let holds : Holds c.args.tapes.now c.args.self.now new c.args.call.now = record { shape = rest.shape; form = c.make.ensures.form; adds = ap (λ v. v.items) rest.adds ∙ left } in
    (own, holds_sound own c.args.tapes.now c.args.self.now new c.args.call.now holds sound (c.make.ensures.told own sound.told) (c.in_ok-made.ensures.sound own sound))

pub returns-in_default-clause-ok : goal.returns-in_default-clause-ok
returns-in_default-clause-ok c = λ s may.
    let own = may.abreast.0 in
    let abreast = may.abreast.1 in
    let new : Sender = record c.make.new.self { doubt = c.in_ok-made.made } in
    let rest = rest_parts c.args.self.now c.make.new.self c.make.ensures.rest in
    let left = left_none c.args.self.now.adds.items c.args.call.now (subst (IsLeft c.args.self.now.adds.items c.args.call.now) c.in_default.is c.in_ok-left.ensures) in
    let holds : Holds c.args.tapes.now c.args.self.now new c.args.call.now = record { shape = rest.shape; form = c.make.ensures.form; adds = ap (λ v. v.items) rest.adds ∙ left } in
    let sound = holds_sound own c.args.tapes.now c.args.self.now new c.args.call.now holds abreast.sound (c.make.ensures.told own abreast.sound.told) (c.in_ok-made.ensures.sound own abreast.sound) in
    let next = c.in_ok-made.ensures.made own s (hold_change own c.args.tapes.now c.args.self.now s c.args.call.now abreast may) in
    (own, holds_follows own c.args.tapes.now c.args.self.now new s c.args.call.now holds abreast sound may.later next)

pub returns-clause-sound : goal.returns-clause-sound
returns-clause-sound c =
    let own = c.requires.sound.0 in
    let sound = c.requires.sound.1 in
    let new : Sender = record c.make.new.self { adds = c.in-Some.others; doubt = c.in_ok-made.made } in
    let rest = rest_parts c.args.self.now c.make.new.self c.make.ensures.rest in
    let left = left_some c.args.self.now.adds.items c.args.call.now c.in-Some.others (subst (IsLeft c.args.self.now.adds.items c.args.call.now) c.in-Some.is c.in_ok-left.ensures) in
    let holds : Holds c.args.tapes.now c.args.self.now new c.args.call.now = record { shape = rest.shape; form = c.make.ensures.form; adds = left } in
    (own, holds_sound own c.args.tapes.now c.args.self.now new c.args.call.now holds sound (c.make.ensures.told own sound.told) (c.in_ok-made.ensures.sound own sound))

pub returns-clause-ok : goal.returns-clause-ok
returns-clause-ok c = λ s may.
    let own = may.abreast.0 in
    let abreast = may.abreast.1 in
    let new : Sender = record c.make.new.self { adds = c.in-Some.others; doubt = c.in_ok-made.made } in
    let rest = rest_parts c.args.self.now c.make.new.self c.make.ensures.rest in
    let left = left_some c.args.self.now.adds.items c.args.call.now c.in-Some.others (subst (IsLeft c.args.self.now.adds.items c.args.call.now) c.in-Some.is c.in_ok-left.ensures) in
    let holds : Holds c.args.tapes.now c.args.self.now new c.args.call.now = record { shape = rest.shape; form = c.make.ensures.form; adds = left } in
    let sound = holds_sound own c.args.tapes.now c.args.self.now new c.args.call.now holds abreast.sound (c.make.ensures.told own abreast.sound.told) (c.in_ok-made.ensures.sound own abreast.sound) in
    let next = c.in_ok-made.ensures.made own s (hold_change own c.args.tapes.now c.args.self.now s c.args.call.now abreast may) in
    (own, holds_follows own c.args.tapes.now c.args.self.now new s c.args.call.now holds abreast sound may.later next)
