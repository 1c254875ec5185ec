use Rattle.std.proofs.Common.{◌≡◌, ◌∙◌, length, refl, ap}
use Rattle.mirror_sender.specs.Coming.{bytes_taken}
use Rattle.mirror_sender.proofs.Made.{voice_next, voice_sound}
use Rattle.mirror_sender.proofs.making.make_voice.Goals as goal

pub returns-clause-sound : goal.returns-clause-sound
returns-clause-sound c = λ own spare told.
    let parts = c.args.parts.now in
    let total = c.in-Some.ensures.some ∙ ap (λ l. length (bytes_taken c.args.tapes.now l)) c.deref.ensures.value in
    voice_sound own parts c.args.tapes.now spare parts.next c.in-Some.len c.args.takes.items c.in_ok-next.next told c.in_ok-next.ensures refl c.if-parts-gt-LAST_ROPE.false total c.in-Some.ensures.most c.requires

pub returns-clause-made : goal.returns-clause-made
returns-clause-made c = λ own spare told number long.
    let parts = c.args.parts.now in
    let total = c.in-Some.ensures.some ∙ ap (λ l. length (bytes_taken c.args.tapes.now l)) c.deref.ensures.value in
    voice_next own c.args.tapes.now spare parts.next c.in-Some.len c.args.takes.items c.in_ok-next.next c.in_ok-next.ensures told.shows.next total number c.requires c.in-Some.ensures.most
