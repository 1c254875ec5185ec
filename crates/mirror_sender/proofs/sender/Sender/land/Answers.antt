use Rattle.std.proofs.Common.{◌≡◌, ◌+◌, ◌++◌, true, false, Some, inr, refl, sym, ◌∙◌, ap, subst}
use Rattle.std.specs.Prelude.{is_some, Vec}
use Rattle.std.specs.declared.alloc.Global.{Global}
use Rattle.mirror_sender.specs.declared.recordings.Added.{Added}
use Rattle.mirror_sender.specs.Abreast.{AreAdded}
use Rattle.voice_model.specs.Changes.{changed}
use Rattle.mirror_packets.specs.Packets.{packet_spelling}
use Rattle.mirror_sender.specs.declared.sender.Sender.{Sender}
use Rattle.mirror_packets.specs.Effects.{packet_of_effect}
use Rattle.mirror_sender.specs.Told.{IsTold}
use Rattle.mirror_sender.specs.Coming.{HasRoom}
use Rattle.mirror_sender.proofs.Lists.{on_err}
use Rattle.mirror_sender.proofs.Noted.{none_pending, some_next, sound_still, abreast_after, can_some, sound_changed, pending_of, can_land, can_still, has_changed, land_follows, same_next}
use Rattle.mirror_sender.proofs.sender.Sender.land.Goals as goal

pub returns-in_default-clause-ok : goal.returns-in_default-clause-ok
returns-in_default-clause-ok c = λ s may.
    let none = none_pending may.abreast.0 c.args.tapes.now c.args.self.now.parts.interests.spare c.args.self.now.doubt s.doubt may.abreast.1.doubt c.in_default.is in
    let bad : false ≡ true = ap is_some (sym none) ∙ may.may in
    cc

pub make_room-requires : goal.make_room-requires
make_room-requires c =
    let some = some_next c.requires.0 c.args.tapes.now c.args.self.now c.in-Some.next c.requires.1 c.in-Some.is in
    (c.requires.0, c.args.tapes.now, c.args.self.now.parts.interests.spare, some.effect, some.is)

pub returns-in_err-make_room-clause-sound : goal.returns-in_err-make_room-clause-sound
returns-in_err-make_room-clause-sound c =
    let own = c.requires.0 in
    let self = c.args.self.now in
    (own, sound_still own c.args.tapes.now self (record self { parts = c.make_room.new.parts }) c.requires.1 (c.make_room.ensures.told own c.requires.1.told) c.make_room.ensures.form (record { shape = refl; adds = refl; doubt = refl }) (inr c.make_room.ensures.interests))

pub returns-in_err-make_room-clause-err : goal.returns-in_err-make_room-clause-err
returns-in_err-make_room-clause-err c = λ s abreast.
    let own = abreast.0 in
    let self = c.args.self.now in
    on_err c.from_residual.result _
    (own, abreast_after own c.args.tapes.now self (record self { parts = c.make_room.new.parts }) s abreast.1 (c.make_room.ensures.told own abreast.1.sound.told) c.make_room.ensures.form (record { shape = refl; adds = refl; doubt = refl }) (inr c.make_room.ensures.interests))

pub send-requires-clause-can : goal.send-requires-clause-can
send-requires-clause-can c =
    let own = c.requires.0 in
    let self = c.args.self.now in
    let some = some_next own c.args.tapes.now self c.in-Some-take.next c.requires.1 (sym c.take.ensures.value ∙ c.in-Some-take.is) in
    (own, some.effect, can_some own c.args.tapes.now self.shape self.parts c.make_room.new.parts c.in-Some-take.next some (c.make_room.ensures.told own c.requires.1.told) c.make_room.ensures.form c.make_room.ensures.interests c.requires.1.in_shape)

pub send-requires-clause-room : goal.send-requires-clause-room
send-requires-clause-room c =
    let same = same_next c.in-Some.next c.in-Some-take.next (sym c.in-Some.is ∙ sym c.take.ensures.value ∙ c.in-Some-take.is) in
    subst (HasRoom c.make_room.new.parts) same c.in_ok-make_room.ensures.room

pub returns-clause-sound : goal.returns-clause-sound
returns-clause-sound c =
    let own = c.requires.0 in
    let self = c.args.self.now in
    let sound = c.requires.1 in
    let some = some_next own c.args.tapes.now self c.in-Some-take.next sound (sym c.take.ensures.value ∙ c.in-Some-take.is) in
    let told = c.make_room.ensures.told own sound.told in
    let can = can_some own c.args.tapes.now self.shape self.parts c.make_room.new.parts c.in-Some-take.next some told c.make_room.ensures.form c.make_room.ensures.interests sound.in_shape in
    let mid : Sender = record self { parts = c.make_room.new.parts } in
    let before = sound_still own c.args.tapes.now self mid sound told c.make_room.ensures.form (record { shape = refl; adds = refl; doubt = refl }) (inr c.make_room.ensures.interests) in
    let rest = c.send.ensures.rest in
    sound_changed own c.args.tapes.now mid c.send.new.self some.effect before (c.send.ensures.told own some.effect can) (ap (λ (x : Sender). x.shape) rest) (subst (λ (v : Vec Added Global). AreAdded c.args.tapes.now v.items) (sym (ap (λ (x : Sender). x.adds) rest)) sound.within)
    (ap (λ (x : Sender). x.doubt) rest ∙ c.take.ensures.after)

pub returns-clause-ok : goal.returns-clause-ok
returns-clause-ok c = λ s may.
    let own = may.abreast.0 in
    let abreast = may.abreast.1 in
    let self = c.args.self.now in
    let tapes = c.args.tapes.now in
    let p = pending_of s may.may in
    let first = can_land own tapes self s c.in-Some-take.next p.0 abreast (sym c.take.ensures.value ∙ c.in-Some-take.is) p.1 in
    let can = can_still own tapes self.shape self.parts c.make_room.new.parts c.in-Some-take.next p.0.effect first (c.make_room.ensures.told own abreast.sound.told) c.make_room.ensures.form c.make_room.ensures.interests in
    let changes = has_changed own self c.send.new.self c.args.out.now.items c.send.new.out.items (Some p.0.effect) p.0.effect refl
    (subst (λ f. IsTold (changed f own p.0.effect) c.send.new.self.parts) c.make_room.ensures.form (c.send.ensures.told own p.0.effect can))
    (c.send.ensures.form ∙ c.make_room.ensures.form)
    (c.send.ensures.bytes own p.0.effect can ∙ ap (λ l. l ++ packet_spelling (packet_of_effect self.next p.0.effect)) c.make_room.ensures.items)
    (ap (λ (x : Sender). x.next) c.send.ensures.rest) in
    land_follows own tapes self c.send.new.self s p.0 c.args.out.now.items c.send.new.out.items abreast p.1 may.later changes (ap (λ (x : Sender). x.shape) c.send.ensures.rest) (ap (λ (x : Sender). x.adds) c.send.ensures.rest)
    (ap (λ (x : Sender). x.doubt) c.send.ensures.rest ∙ c.take.ensures.after)
