use Rattle.std.proofs.Common.{sym, ◌∙◌, subst}
use Rattle.voice_model.specs.declared.calls.Call.TheVariants as calls
use Rattle.edits.proofs.Refusals.{journal_last}
use Rattle.voice_store.specs.Stood.{last_of, tapes_of}
use Rattle.voice_store.specs.Facts.{IsFault}
use Rattle.voice_store.proofs.Refused.{refused_plain}
use Rattle.voice_store.proofs.Making.{nothing_lands}
use Rattle.voice_store.proofs.Kept.{is_sure}
use Rattle.voice_store.proofs.Endable.{next_same}
use Rattle.voice_store.proofs.inside.Inside.end.Goals as goal

pub returns-in-Some-clause-stood : goal.returns-in-Some-clause-stood
returns-in-Some-clause-stood g c = λ first t0 stood.
    let s = c.args.self.now in
    let disk = g.D.Disk.told c.args.disk.now in
    let last = last_of first s in
    let before = sym (c.in-Some.ensures last (tapes_of s) stood.playing.recorded (stood.upright.seated.shape ∙ sym c.shape-shape.ensures) (next_same first t0 disk s stood c.requires.sure)) in
    c.refuse.ensures.stood first t0 stood (nothing_lands last (calls.End c.args.lane) (is_sure first t0 disk s stood c.requires.sure).in_state)
    (journal_last.early last (tapes_of s) (calls.End c.args.lane) c.in-Some.why before)

pub end_unrefused-requires-clause-ends : goal.end_unrefused-requires-clause-ends
end_unrefused-requires-clause-ends g c κs within =
    let s = c.args.self.now in
    let disk = g.D.Disk.told c.args.disk.now in
    let first = c.requires.stood.0 in
    let t0 = c.requires.stood.1 in
    let stood = c.requires.stood.2 in (
      first,
      t0,
      record {
        stood = stood;
        sure = c.requires.sure;
        unrefused = sym (c.in_default.ensures (last_of first s) (tapes_of s) stood.playing.recorded (stood.upright.seated.shape ∙ sym c.shape-shape.ensures) (next_same first t0 disk s stood c.requires.sure));
      },
    )

pub returns-clause-stood : goal.returns-clause-stood
returns-clause-stood g c = λ first t0 stood.
    let s = c.args.self.now in
    let disk = g.D.Disk.told c.args.disk.now in
    c.end_unrefused.ensures.stood first t0 (record {
      stood = stood;
      sure = c.requires.sure;
      unrefused = sym (c.in_default.ensures (last_of first s) (tapes_of s) stood.playing.recorded (stood.upright.seated.shape ∙ sym c.shape-shape.ensures) (next_same first t0 disk s stood c.requires.sure));
    })

pub returns-clause-calls : goal.returns-clause-calls
returns-clause-calls g c = λ first t0 stood.
    let s = c.args.self.now in
    let disk = g.D.Disk.told c.args.disk.now in
    c.end_unrefused.ensures.calls first t0 (record {
      stood = stood;
      sure = c.requires.sure;
      unrefused = sym (c.in_default.ensures (last_of first s) (tapes_of s) stood.playing.recorded (stood.upright.seated.shape ∙ sym c.shape-shape.ensures) (next_same first t0 disk s stood c.requires.sure));
    })

pub returns-in-Some-clause-cause : goal.returns-in-Some-clause-cause
returns-in-Some-clause-cause g c = λ fault.
    let s = c.args.self.now in
    let disk = g.D.Disk.told c.args.disk.now in
    let first = c.requires.stood.0 in
    let stood = c.requires.stood.2 in
    let last = last_of first s in
    let before = sym (c.in-Some.ensures last (tapes_of s) stood.playing.recorded (stood.upright.seated.shape ∙ sym c.shape-shape.ensures) (next_same first c.requires.stood.1 disk s stood c.requires.sure)) in
    absurd (refused_plain last (tapes_of s) (calls.End c.args.lane) c.in-Some.why (journal_last.early last (tapes_of s) (calls.End c.args.lane) c.in-Some.why before) (subst IsFault c.refuse.ensures.reply fault))
