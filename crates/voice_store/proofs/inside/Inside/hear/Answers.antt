use Rattle.std.proofs.Common.{rules, ◌≡◌, ℕ, ◌≤◌, List, length, sym, ap, subst, ◌∙◌}
use Rattle.std.specs.Prelude.{IsTrue}
use Rattle.voice_units.specs.declared.shapes.Shape.{Shape}
use Rattle.voice_units.specs.Blocks.{BlockPair}
use Rattle.voice_units.specs.Spots.{spots_of, samples_in, stretches}
use Rattle.listening.specs.Looks.{Looked}
use Rattle.listening.specs.Heard.{HavePlaces, ArePlaces, bytes_on}
use Rattle.voice_store.specs.Stood.{last_of}
use Rattle.voice_store.specs.Facts.{stretches_of}
use Rattle.voice_store.specs.Hearing.{sounding}
use Rattle.voice_store.proofs.Heard.{unknown, have_places, long, few_reads, reaches, heard}
use Rattle.voice_store.proofs.inside.Inside.hear.Goals as goal

pub returns-in_default-clause-answer : goal.returns-in_default-clause-answer
returns-in_default-clause-answer g c = λ first t0 stood. unknown first t0 (g.D.Disk.told c.args.disk.now) c.args.self.now stood c.args.sound c.args.rope c.in_default.ensures

pub sound_of-reply-requires-clause-placed : goal.sound_of-reply-requires-clause-placed
sound_of-reply-requires-clause-placed g c κs within =
    let s = c.args.self.now in
    let stood = c.requires.stood in
    subst (λ (x : Shape). HavePlaces x.block s.parts.blocks.holders (spots_of c.in-Some.pieces.now)) (sym c.shape-shape.ensures)
    (have_places stood.0 stood.1 (g.D.Disk.told c.args.disk.now) s stood.2 c.args.rope c.in-Some.pieces.now c.in-Some.ensures)

pub sound_of-reply-requires-clause-most : goal.sound_of-reply-requires-clause-most
sound_of-reply-requires-clause-most g c κs within =
    let stood = c.requires.stood in
    long stood.0 stood.1 (g.D.Disk.told c.args.disk.now) c.args.self.now stood.2 c.args.rope c.in-Some.pieces.now c.in-Some.ensures

pub returns-in_err-reply-clause-looked : goal.returns-in_err-reply-clause-looked
returns-in_err-reply-clause-looked g c = λ first t0 stood.
    let s = c.args.self.now in
    let disk = g.D.Disk.told c.args.disk.now in
    let ps = c.in-Some.pieces.now in
    subst (λ n. Looked n disk (g.D.Disk.told c.sound_of-reply.new.disk))
    (ap (λ (x : Shape). length (stretches x.block (spots_of ps))) c.shape-shape.ensures ∙ few_reads first t0 disk s stood c.args.rope ps c.in-Some.ensures)
    c.sound_of-reply.ensures.looked

pub returns-in_err-reply-clause-at_device : goal.returns-in_err-reply-clause-at_device
returns-in_err-reply-clause-at_device g c = λ first t0 stood fault.
    let some : 1 ≤ samples_in c.in-Some.pieces.now = search rules in
    reaches first t0 (g.D.Disk.told c.args.disk.now) c.args.self.now stood c.args.rope c.in-Some.pieces.now c.in-Some.ensures c.args.sound some

pub returns-clause-looked : goal.returns-clause-looked
returns-clause-looked g c = λ first t0 stood.
    let s = c.args.self.now in
    let disk = g.D.Disk.told c.args.disk.now in
    let ps = c.in-Some.pieces.now in
    subst (λ n. Looked n disk (g.D.Disk.told c.sound_of-reply.new.disk))
    (ap (λ (x : Shape). length (stretches x.block (spots_of ps))) c.shape-shape.ensures ∙ few_reads first t0 disk s stood c.args.rope ps c.in-Some.ensures)
    c.sound_of-reply.ensures.looked

pub returns-clause-answer : goal.returns-clause-answer
returns-clause-answer g c = λ first t0 stood.
    let s = c.args.self.now in
    let disk = g.D.Disk.told c.args.disk.now in
    let ps = c.in-Some.pieces.now in
    let reply = c.in_ok-reply.field-0 in
    heard first t0 disk s stood c.args.rope ps c.in-Some.ensures c.foundations.ensures c.disks_are_honest.ensures c.args.sound reply c.in_ok-reply.ensures.kind
    (subst (λ (x : Shape). IsTrue disk.honest → (address : BlockPair → ℕ) → ArePlaces x.block s.parts.blocks.holders (spots_of ps) address → reply ≡ sounding c.args.sound (bytes_on disk.bytes x address (spots_of ps)))
    c.shape-shape.ensures (λ honest address places. c.in_ok-reply.ensures.answer honest address places))
