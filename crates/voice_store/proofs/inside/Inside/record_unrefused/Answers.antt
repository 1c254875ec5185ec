use Rattle.std.proofs.Common.{subst}
use Rattle.voice_model.specs.Tapes.{taken}
use Rattle.voice_model.specs.declared.calls.Call.TheVariants as calls
use Rattle.voice_store.specs.Stood.{last_of, tapes_of}
use Rattle.voice_store.specs.Keeping.{recorded_by}
use Rattle.voice_store.specs.declared.ways.Way.{Way}
use Rattle.voice_store.specs.Ways.{IsWay}
use Rattle.voice_store.proofs.Making.{nothing_lands}
use Rattle.voice_store.proofs.Kept.{is_sure}
use Rattle.voice_store.proofs.Recordable.{many, shown, recording_full, has_room}
use Rattle.voice_store.proofs.inside.Inside.record_unrefused.Goals as goal

pub returns-in-Full-clause-stood : goal.returns-in-Full-clause-stood
returns-in-Full-clause-stood g c = λ first t0 makes.
    let s = c.args.self.now in
    let disk = g.D.Disk.told c.args.disk.now in
    let take = c.args.take in
    let last = last_of first s in
    let full = subst (λ (w : Way). IsWay last (recorded_by last (tapes_of s) take) w) c.in-Full.is
    (c.in_ok-way.ensures last (taken (tapes_of s) take) makes.stood.upright.seated (shown first t0 disk s take makes) (many first t0 disk s take makes)) in
    c.refuse.ensures.stood first t0 makes.stood (nothing_lands last (calls.Record take) (is_sure first t0 disk s makes.stood makes.sure).in_state)
    (recording_full first t0 disk s take makes c.in-Full.most c.in-Full.left full)

pub record_by-requires-clause-way : goal.record_by-requires-clause-way
record_by-requires-clause-way g c κs within =
    let s = c.args.self.now in
    let disk = g.D.Disk.told c.args.disk.now in
    let take = c.args.take in
    let first = c.requires.makes.0 in
    let t0 = c.requires.makes.1 in
    let makes = c.requires.makes.2 in
    let goes = c.in_ok-way.ensures (last_of first s) (taken (tapes_of s) take) makes.stood.upright.seated (shown first t0 disk s take makes) (many first t0 disk s take makes) in
    (first, t0, has_room first t0 disk s take makes _ goes c.in_default.not-Full)

pub returns-in_default-clause-stood : goal.returns-in_default-clause-stood
returns-in_default-clause-stood g c = λ first t0 makes.
    let s = c.args.self.now in
    let disk = g.D.Disk.told c.args.disk.now in
    let take = c.args.take in
    let goes = c.in_ok-way.ensures (last_of first s) (taken (tapes_of s) take) makes.stood.upright.seated (shown first t0 disk s take makes) (many first t0 disk s take makes) in
    c.record_by.ensures.stood first t0 (has_room first t0 disk s take makes _ goes c.in_default.not-Full)

pub returns-in_default-clause-calls : goal.returns-in_default-clause-calls
returns-in_default-clause-calls g c = λ first t0 makes.
    let s = c.args.self.now in
    let disk = g.D.Disk.told c.args.disk.now in
    let take = c.args.take in
    let goes = c.in_ok-way.ensures (last_of first s) (taken (tapes_of s) take) makes.stood.upright.seated (shown first t0 disk s take makes) (many first t0 disk s take makes) in
    c.record_by.ensures.calls first t0 (has_room first t0 disk s take makes _ goes c.in_default.not-Full)
