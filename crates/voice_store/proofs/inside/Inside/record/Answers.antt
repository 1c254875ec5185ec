use Rattle.std.proofs.Common.{sym, ◌∙◌, ap}
use Rattle.voice_units.specs.declared.shapes.Shape.{Shape}
use Rattle.voice_model.specs.declared.calls.Call.TheVariants as calls
use Rattle.voice_blocks.specs.Holders.{open_in}
use Rattle.edits.proofs.Refusals.{journal_last}
use Rattle.voice_store.specs.Stood.{last_of, tapes_of}
use Rattle.voice_store.specs.Keeping.{refused_by}
use Rattle.voice_store.proofs.Making.{nothing_lands}
use Rattle.voice_store.proofs.Kept.{is_sure}
use Rattle.voice_store.proofs.Recorded.{refused_so, taken_many}
use Rattle.voice_store.proofs.inside.Inside.record.Goals as goal

pub returns-in-Some-clause-stood : goal.returns-in-Some-clause-stood
returns-in-Some-clause-stood g c = λ first t0 stood.
    let s = c.args.self.now in
    let disk = g.D.Disk.told c.args.disk.now in
    let open_now = open_in s.parts.blocks.holders in
    let before = refused_so first t0 disk s c.args.take stood c.requires.sure (taken_many (tapes_of s) c.args.take c.requires.take)
    ∙ ap (λ (shape : Shape). refused_by s.parts.next shape.block open_now c.args.take.len) (sym c.shape-shape.ensures) ∙ sym c.in-Some.ensures in
    c.refuse.ensures.stood first t0 stood (nothing_lands (last_of first s) (calls.Record c.args.take) (is_sure first t0 disk s stood c.requires.sure).in_state)
    (journal_last.early (last_of first s) (tapes_of s) (calls.Record c.args.take) c.in-Some.why before)

pub record_unrefused-requires-clause-makes : goal.record_unrefused-requires-clause-makes
record_unrefused-requires-clause-makes g c κs within =
    let s = c.args.self.now in
    let disk = g.D.Disk.told c.args.disk.now in
    let stood = c.requires.stood in
    let open_now = open_in s.parts.blocks.holders in (
      stood.0,
      stood.1,
      record {
        stood = stood.2;
        sure = c.requires.sure;
        has = c.requires.take;
        unrefused = refused_so stood.0 stood.1 disk s c.args.take stood.2 c.requires.sure (taken_many (tapes_of s) c.args.take c.requires.take)
            ∙ ap (λ (shape : Shape). refused_by s.parts.next shape.block open_now c.args.take.len) (sym c.shape-shape.ensures) ∙ sym c.in_default.ensures;
      },
    )

pub returns-clause-stood : goal.returns-clause-stood
returns-clause-stood g c = λ first t0 stood.
    let s = c.args.self.now in
    let disk = g.D.Disk.told c.args.disk.now in
    let open_now = open_in s.parts.blocks.holders in
    c.record_unrefused.ensures.stood first t0 (record {
      stood = stood;
      sure = c.requires.sure;
      has = c.requires.take;
      unrefused = refused_so first t0 disk s c.args.take stood c.requires.sure (taken_many (tapes_of s) c.args.take c.requires.take)
          ∙ ap (λ (shape : Shape). refused_by s.parts.next shape.block open_now c.args.take.len) (sym c.shape-shape.ensures) ∙ sym c.in_default.ensures;
    })

pub returns-clause-calls : goal.returns-clause-calls
returns-clause-calls g c = λ first t0 stood.
    let s = c.args.self.now in
    let disk = g.D.Disk.told c.args.disk.now in
    let open_now = open_in s.parts.blocks.holders in
    c.record_unrefused.ensures.calls first t0 (record {
      stood = stood;
      sure = c.requires.sure;
      has = c.requires.take;
      unrefused = refused_so first t0 disk s c.args.take stood c.requires.sure (taken_many (tapes_of s) c.args.take c.requires.take)
          ∙ ap (λ (shape : Shape). refused_by s.parts.next shape.block open_now c.args.take.len) (sym c.shape-shape.ensures) ∙ sym c.in_default.ensures;
    })
