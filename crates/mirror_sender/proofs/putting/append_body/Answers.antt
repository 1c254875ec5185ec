use Rattle.std.proofs.Common.{◌≡◌, ◌+◌, ◌*◌, ◌≤◌, ◌++◌, length, sym, ◌∙◌, ap, subst, arith}
use Rattle.std.specs.Vec.{vec_capacity}
use Rattle.voice_units.specs.Spots.{samples_in}
use Rattle.mirror_packets.specs.Packets.{Body, body_spelling}
use Rattle.mirror_sender.specs.Coming.{IsNextOf, HasTakes, body_size, bytes_taken}
use Rattle.mirror_sender.proofs.Bodies.{edit_body, edit_size, voice_body, voice_samples, other_body}
use Rattle.mirror_sender.proofs.putting.append_body.Goals as goal

pub append_edit-requires : goal.append_edit-requires
append_edit-requires c =
    let is = subst (λ n. IsNextOf c.requires.next.0 c.args.tapes.now c.requires.next.1 n c.requires.next.2) c.in-Edit.is c.requires.next.3 in
    let room : length c.args.out.now.items + (11 + 16 * length c.in-Edit.pieces) ≤ vec_capacity c.args.out.now = subst (λ n. length c.args.out.now.items + body_size n ≤ vec_capacity c.args.out.now) c.in-Edit.is c.requires.room in
    let size = edit_size c.args.id c.in-Edit.pieces in
    record { few = is.few; room = omega (arith, room, size) }

pub returns-in-Edit : goal.returns-in-Edit
returns-in-Edit c = λ own spare effect is same.
    let is = subst (λ n. IsNextOf own c.args.tapes.now spare n effect) c.in-Edit.is is in
    c.append_edit.ensures ∙ ap (λ l. c.args.out.now.items ++ l) (sym (edit_body own c.in-Edit.pieces effect c.args.id is same))

pub append_voice-requires : goal.append_voice-requires
append_voice-requires c =
    let own = c.requires.next.0 in
    let takes = c.in-Voice.takes.items in
    let is = subst (λ n. IsNextOf own c.args.tapes.now c.requires.next.1 n c.requires.next.2) c.in-Voice.is c.requires.next.3 in
    let same = c.as_slice.ensures.value in
    let room : length c.args.out.now.items + (9 + samples_in c.in-Voice.field-0) ≤ vec_capacity c.args.out.now = subst (λ n. length c.args.out.now.items + body_size n ≤ vec_capacity c.args.out.now) c.in-Voice.is c.requires.room in
    let total = voice_samples own c.args.tapes.now c.in-Voice.field-0 takes c.requires.next.2 is in
    let here = ap (λ l. length (bytes_taken c.args.tapes.now l)) same in
    let fits : length c.args.out.now.items + (9 + length (bytes_taken c.args.tapes.now c.as_slice.result.now)) ≤ vec_capacity c.args.out.now = omega (arith, room, total, here) in
    record { within = subst (HasTakes c.args.tapes.now) (sym same) is.within; room = omega (arith, fits) }

pub returns-in-Voice : goal.returns-in-Voice
returns-in-Voice c = λ own spare effect is same.
    let takes = c.in-Voice.takes.items in
    let is = subst (λ n. IsNextOf own c.args.tapes.now spare n effect) c.in-Voice.is is in
    c.append_voice.ensures
    ∙ ap (λ l. c.args.out.now.items ++ l) (ap (λ l. body_spelling (Body.Voice c.args.id (bytes_taken c.args.tapes.now l))) c.as_slice.ensures.value ∙ sym (voice_body own c.args.tapes.now c.in-Voice.field-0 takes effect c.args.id is same))

pub returns-in-Other : goal.returns-in-Other
returns-in-Other c = λ own spare effect is same.
    let is = subst (λ n. IsNextOf own c.args.tapes.now spare n effect) c.in-Other.is is in
    c.append.ensures.items ∙ ap (λ l. c.args.out.now.items ++ l) (c.as_slice-in-Other.ensures ∙ sym (other_body own spare c.in-Other.ready effect is))
