use Rattle.std.proofs.Common.{[], subst}
use Rattle.voice_store.specs.Stood.{last_of, tapes_of}
use Rattle.voice_store.specs.Facts.{IsFault}
use Rattle.edits.specs.Shown.{IsMade}
use Rattle.edits.proofs.Refusals.{journal_last}
use Rattle.voice_store.proofs.Refused.{stood_shows, refused_plain}
use Rattle.voice_store.proofs.Making.{nothing_lands}
use Rattle.voice_store.proofs.Kept.{is_sure}
use Rattle.voice_store.proofs.inside.Inside.edit.Goals as goal

pub keep-requires-clause-makes : goal.keep-requires-clause-makes
keep-requires-clause-makes g c κs within =
    let s = c.args.self.now in
    let first = c.requires.stood.0 in
    let t0 = c.requires.stood.1 in
    let stood = c.requires.stood.2 in (
      first,
      t0,
      record {
        stood = stood;
        sure = c.requires.sure;
        edits = c.requires.edits;
        rope = subst (λ made. IsMade made (last_of first s) (tapes_of s) c.args.call) c.in-Rope.is
            (c.in_ok-why.ensures stood.held (last_of first s) (tapes_of s) (stood_shows first t0 (g.D.Disk.told c.args.disk.now) s stood) stood.upright.valid);
      },
    )

pub returns-in-Rope-clause-stood : goal.returns-in-Rope-clause-stood
returns-in-Rope-clause-stood g c = λ first t0 stood.
    let s = c.args.self.now in
    c.keep.ensures.stood first t0 (record {
      stood = stood;
      sure = c.requires.sure;
      edits = c.requires.edits;
      rope = subst (λ made. IsMade made (last_of first s) (tapes_of s) c.args.call) c.in-Rope.is
          (c.in_ok-why.ensures stood.held (last_of first s) (tapes_of s) (stood_shows first t0 (g.D.Disk.told c.args.disk.now) s stood) stood.upright.valid);
    })

pub returns-in-Refused-clause-cause : goal.returns-in-Refused-clause-cause
returns-in-Refused-clause-cause g c = λ fault.
    let s = c.args.self.now in
    let first = c.requires.stood.0 in
    let stood = c.requires.stood.2 in
    let before = subst (λ made. IsMade made (last_of first s) (tapes_of s) c.args.call) c.in-Refused.is
    (c.in_ok-why.ensures stood.held (last_of first s) (tapes_of s) (stood_shows first c.requires.stood.1 (g.D.Disk.told c.args.disk.now) s stood) stood.upright.valid) in
    absurd (refused_plain (last_of first s) (tapes_of s) c.args.call c.in-Refused.why (journal_last.early (last_of first s) (tapes_of s) c.args.call c.in-Refused.why before) (subst IsFault c.refuse.ensures.reply fault))

pub returns-in-Refused-clause-stood : goal.returns-in-Refused-clause-stood
returns-in-Refused-clause-stood g c = λ first t0 stood.
    let s = c.args.self.now in
    let disk = g.D.Disk.told c.args.disk.now in
    let before = subst (λ made. IsMade made (last_of first s) (tapes_of s) c.args.call) c.in-Refused.is
    (c.in_ok-why.ensures stood.held (last_of first s) (tapes_of s) (stood_shows first t0 disk s stood) stood.upright.valid) in
    c.refuse.ensures.stood first t0 stood (nothing_lands (last_of first s) c.args.call (is_sure first t0 disk s stood c.requires.sure).in_state)
    (journal_last.early (last_of first s) (tapes_of s) c.args.call c.in-Refused.why before)

pub returns-in-Rope-clause-calls : goal.returns-in-Rope-clause-calls
returns-in-Rope-clause-calls g c = λ first t0 stood.
    let s = c.args.self.now in
    c.keep.ensures.calls first t0 (record {
      stood = stood;
      sure = c.requires.sure;
      edits = c.requires.edits;
      rope = subst (λ made. IsMade made (last_of first s) (tapes_of s) c.args.call) c.in-Rope.is
          (c.in_ok-why.ensures stood.held (last_of first s) (tapes_of s) (stood_shows first t0 (g.D.Disk.told c.args.disk.now) s stood) stood.upright.valid);
    })
