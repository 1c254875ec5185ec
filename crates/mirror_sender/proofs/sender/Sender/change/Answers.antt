use Rattle.std.proofs.Common.{◌≡◌, ◌+◌, ◌++◌, inl, refl, sym, ◌∙◌, ap, ap₂, subst, arith}
use Rattle.std.specs.Prelude.{Vec}
use Rattle.std.specs.declared.alloc.Global.{Global}
use Rattle.voice_units.specs.declared.shapes.Shape.{Shape}
use Rattle.voice_model.specs.Changes.{effect_of, changed}
use Rattle.mirror_packets.specs.Packets.{packet_spelling}
use Rattle.mirror_sender.specs.declared.sender.Sender.{Sender}
use Rattle.mirror_sender.specs.declared.recordings.Added.{Added}
use Rattle.mirror_packets.specs.Effects.{packet_of_effect}
use Rattle.mirror_sender.specs.Abreast.{AreAdded}
use Rattle.mirror_sender.specs.Told.{IsTold}
use Rattle.mirror_sender.specs.Coming.{IsMaybeNext, MayBeNextOf, CanBeDone}
use Rattle.mirror_sender.proofs.Lists.{on_err}
use Rattle.mirror_sender.proofs.Noted.{made_none, made_some, can_some, can_call, has_changed, has_not, sound_changed, sound_still, rest_sent, rest_parts}
use Rattle.mirror_sender.proofs.sender.Sender.change.Goals as goal

pub returns-in_err-made-clause-sound : goal.returns-in_err-made-clause-sound
returns-in_err-made-clause-sound c =
    let own = c.requires.sound.0 in
    let sound = c.requires.sound.1 in
    (own, sound_still own c.args.tapes.now c.args.self.now c.make.new.self sound (c.make.ensures.told own sound.told) c.make.ensures.form (rest_parts c.args.self.now c.make.new.self c.make.ensures.rest) (inl c.requires.sure))

pub returns-in_err-made-clause-err : goal.returns-in_err-made-clause-err
returns-in_err-made-clause-err c = λ own told. on_err c.from_residual.result _ (c.make.ensures.told own told, c.make.ensures.form)

pub returns-in_default-clause-sound : goal.returns-in_default-clause-sound
returns-in_default-clause-sound c =
    let own = c.requires.sound.0 in
    let sound = c.requires.sound.1 in
    (own, sound_still own c.args.tapes.now c.args.self.now c.make.new.self sound (c.make.ensures.told own sound.told) c.make.ensures.form (rest_parts c.args.self.now c.make.new.self c.make.ensures.rest) (inl c.requires.sure))

pub returns-in_default-clause-ok : goal.returns-in_default-clause-ok
returns-in_default-clause-ok c = λ own s may.
    let spare = c.make.new.self.parts.interests.spare in
    let made = effect_of s c.args.tapes.now c.args.call.now in
    let none = subst (λ o. MayBeNextOf own c.args.tapes.now spare o made) c.in_default.is (c.in_ok-made.ensures.made own s may) in
    has_not own c.args.self.now c.make.new.self c.args.out.now.items made (made_none own c.args.tapes.now spare made none) (c.make.ensures.told own may.abreast.sound.told) c.make.ensures.form (ap (λ x. x.next) c.make.ensures.rest)

pub make_room-requires : goal.make_room-requires
make_room-requires c =
    let own = c.requires.sound.0 in
    let parts = c.make.new.self.parts in
    let some = subst (λ o. IsMaybeNext own c.args.tapes.now parts.form parts.interests.spare o) c.in-Some.is (c.in_ok-made.ensures.sound own c.requires.sound.1) in
    (own, c.args.tapes.now, parts.interests.spare, some.effect, some.is)

pub returns-in_err-make_room-clause-sound : goal.returns-in_err-make_room-clause-sound
returns-in_err-make_room-clause-sound c =
    let own = c.requires.sound.0 in
    let sound = c.requires.sound.1 in
    let told = c.make_room.ensures.told own (c.make.ensures.told own sound.told) in
    let rest = rest_parts c.args.self.now c.make.new.self c.make.ensures.rest in
    (own, sound_still own c.args.tapes.now c.args.self.now (record c.make.new.self { parts = c.make_room.new.parts }) sound told (c.make_room.ensures.form ∙ c.make.ensures.form) (record { shape = rest.shape; adds = rest.adds; doubt = rest.doubt }) (inl c.requires.sure))

pub returns-in_err-make_room-clause-err : goal.returns-in_err-make_room-clause-err
returns-in_err-make_room-clause-err c = λ own told.
    let both : IsTold own c.make_room.new.parts × (c.make_room.new.parts.form ≡ c.args.self.now.parts.form) = (c.make_room.ensures.told own (c.make.ensures.told own told), c.make_room.ensures.form ∙ c.make.ensures.form) in
    on_err c.from_residual-in_err-make_room.result _ both

pub send-requires-clause-can : goal.send-requires-clause-can
send-requires-clause-can c =
    let own = c.requires.sound.0 in
    let sound = c.requires.sound.1 in
    let parts = c.make.new.self.parts in
    let some = subst (λ o. IsMaybeNext own c.args.tapes.now parts.form parts.interests.spare o) c.in-Some.is (c.in_ok-made.ensures.sound own sound) in
    let told = c.make_room.ensures.told own (c.make.ensures.told own sound.told) in
    let rest = rest_parts c.args.self.now c.make.new.self c.make.ensures.rest in
    (own, some.effect, can_some own c.args.tapes.now c.make.new.self.shape parts c.make_room.new.parts c.in-Some.next some told c.make_room.ensures.form c.make_room.ensures.interests (sound.in_shape ∙ sym rest.shape))

pub returns-clause-sound : goal.returns-clause-sound
returns-clause-sound c =
    let own = c.requires.sound.0 in
    let sound = c.requires.sound.1 in
    let tapes = c.args.tapes.now in
    let parts = c.make.new.self.parts in
    let some = subst (λ o. IsMaybeNext own tapes parts.form parts.interests.spare o) c.in-Some.is (c.in_ok-made.ensures.sound own sound) in
    let told = c.make_room.ensures.told own (c.make.ensures.told own sound.told) in
    let rest = rest_parts c.args.self.now c.make.new.self c.make.ensures.rest in
    let can = can_some own tapes c.make.new.self.shape parts c.make_room.new.parts c.in-Some.next some told c.make_room.ensures.form c.make_room.ensures.interests (sound.in_shape ∙ sym rest.shape) in
    let mid : Sender = record c.make.new.self { parts = c.make_room.new.parts } in
    let before = sound_still own tapes c.args.self.now mid sound told (c.make_room.ensures.form ∙ c.make.ensures.form) (record { shape = rest.shape; adds = rest.adds; doubt = rest.doubt }) (inl c.requires.sure) in
    let sent = rest_sent mid c.send.new.self (mid.next + 1) c.send.ensures.rest in
    sound_changed own tapes mid c.send.new.self some.effect before (c.send.ensures.told own some.effect can) sent.shape (subst (λ (v : Vec Added Global). AreAdded tapes v.items) (sym sent.adds) before.within) (sent.doubt ∙ rest.doubt ∙ c.requires.sure)

pub returns-clause-ok : goal.returns-clause-ok
returns-clause-ok c = λ own s may.
    let tapes = c.args.tapes.now in
    let parts = c.make.new.self.parts in
    let made = effect_of s tapes c.args.call.now in
    let h = made_some own tapes parts.interests.spare c.in-Some.next made (subst (λ o. MayBeNextOf own tapes parts.interests.spare o made) c.in-Some.is (c.in_ok-made.ensures.made own s may)) in
    let told = c.make_room.ensures.told own (c.make.ensures.told own may.abreast.sound.told) in
    let rest = rest_parts c.args.self.now c.make.new.self c.make.ensures.rest in
    let here = can_call own tapes c.args.self.now s c.args.call.now parts c.make_room.new.parts c.in-Some.next h.0 may c.requires.range h.1 h.2 told c.make.ensures.form c.make_room.ensures.form c.make_room.ensures.interests in
    let can = subst (λ (shape : Shape). CanBeDone own tapes shape c.make_room.new.parts c.in-Some.next h.0) (sym rest.shape) here in
    let form = c.make_room.ensures.form ∙ c.make.ensures.form in
    let number = ap (λ (x : Sender). x.next) c.make.ensures.rest in
    let later = ap (λ (x : Sender). x.next) c.send.ensures.rest in
    has_changed own c.args.self.now c.send.new.self c.args.out.now.items c.send.new.out.items made h.0 h.1
    (subst (λ f. IsTold (changed f own h.0) c.send.new.self.parts) form (c.send.ensures.told own h.0 can))
    (c.send.ensures.form ∙ form)
    (c.send.ensures.bytes own h.0 can ∙ ap₂ (λ l n. l ++ packet_spelling (packet_of_effect n h.0)) c.make_room.ensures.items number)
    (later ∙ ap (λ n. n + 1) number)
