use Rattle.std.proofs.Common.{sym, subst}
use Rattle.voice_model.specs.Changes.{taking_of}
use Rattle.voice_model.specs.declared.calls.Call.TheVariants as calls
use Rattle.voice_store.specs.Stood.{last_of}
use Rattle.voice_store.specs.Ends.{ended_by}
use Rattle.voice_store.specs.Ways.{IsWay}
use Rattle.voice_store.specs.declared.ways.Way.{Way}
use Rattle.voice_store.proofs.Making.{nothing_lands}
use Rattle.voice_store.proofs.Kept.{is_sure}
use Rattle.voice_store.proofs.Endable.{shown, ending_full, ends_so}
use Rattle.voice_store.proofs.inside.Inside.end_unrefused.Goals as goal

pub returns-in-Full-clause-stood : goal.returns-in-Full-clause-stood
returns-in-Full-clause-stood g c = λ first t0 ends.
    let s = c.args.self.now in
    let disk = g.D.Disk.told c.args.disk.now in
    let lane = c.args.lane in
    let last = last_of first s in
    let full = subst (λ (w : Way). IsWay last (ended_by last lane) w) c.in-Full.is
    (c.in_ok-way.ensures last (taking_of last lane) ends.stood.upright.seated (shown first t0 disk s lane ends) (sym (c.total-len.ensures.shown last ends.stood.playing.recorded))) in
    c.refuse.ensures.stood first t0 ends.stood (nothing_lands last (calls.End lane) (is_sure first t0 disk s ends.stood ends.sure).in_state)
    (ending_full first t0 disk s lane ends c.in-Full.most c.in-Full.left full)

pub end_by-requires-clause-way : goal.end_by-requires-clause-way
end_by-requires-clause-way g c κs within =
    let s = c.args.self.now in
    let disk = g.D.Disk.told c.args.disk.now in
    let lane = c.args.lane in
    let first = c.requires.ends.0 in
    let t0 = c.requires.ends.1 in
    let ends = c.requires.ends.2 in
    let last = last_of first s in
    let goes = c.in_ok-way.ensures last (taking_of last lane) ends.stood.upright.seated (shown first t0 disk s lane ends) (sym (c.total-len.ensures.shown last ends.stood.playing.recorded)) in
    (first, t0, ends_so first t0 disk s lane ends _ goes c.in_default.not-Full)

pub returns-in_default-clause-stood : goal.returns-in_default-clause-stood
returns-in_default-clause-stood g c = λ first t0 ends.
    let s = c.args.self.now in
    let disk = g.D.Disk.told c.args.disk.now in
    let lane = c.args.lane in
    let last = last_of first s in
    let goes = c.in_ok-way.ensures last (taking_of last lane) ends.stood.upright.seated (shown first t0 disk s lane ends) (sym (c.total-len.ensures.shown last ends.stood.playing.recorded)) in
    c.end_by.ensures.stood first t0 (ends_so first t0 disk s lane ends _ goes c.in_default.not-Full)

pub returns-in_default-clause-calls : goal.returns-in_default-clause-calls
returns-in_default-clause-calls g c = λ first t0 ends.
    let s = c.args.self.now in
    let disk = g.D.Disk.told c.args.disk.now in
    let lane = c.args.lane in
    let last = last_of first s in
    let goes = c.in_ok-way.ensures last (taking_of last lane) ends.stood.upright.seated (shown first t0 disk s lane ends) (sym (c.total-len.ensures.shown last ends.stood.playing.recorded)) in
    c.end_by.ensures.calls first t0 (ends_so first t0 disk s lane ends _ goes c.in_default.not-Full)
