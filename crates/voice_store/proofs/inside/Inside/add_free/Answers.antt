use Rattle.std.proofs.Common.{◌<◌, ◌≡◌, ◌+◌, ◌≤◌, ◌++◌, ◌∷◌, [], ℕ, List, length, refl, sym, ◌∙◌, ap, subst, arith}
use Rattle.voice_units.specs.declared.shapes.Shape.{Shape}
use Rattle.voice_blocks.specs.Holders.{open_in}
use Rattle.voice_model.specs.Changes.{taking_of}
use Rattle.voice_model.specs.Tapes.{taken}
use Rattle.running_tables.specs.Running.{Runs}
use Rattle.next_ropes.specs.Addresses.{KeepsAddresses}
use Rattle.voice_model.specs.declared.calls.Call.TheVariants as calls
use Rattle.voice_model.specs.declared.calls.Reply.TheVariants as replies
use Rattle.voice_model.specs.Step.{on_lanes}
use Rattle.open_recordings.specs.Blocks.{HandsOut}
use Rattle.recording_calls.specs.Shown.{ShowsRecordings, recording_at, total_in}
use Rattle.recording_adds.specs.Adds.{HasWhole, HoldsBlocks, blocks_more, whole_more}
use Rattle.recording_adds.proofs.Between.{when_added, when_none}
use Rattle.voice_store.specs.Stood.{last_of, tapes_of}
use Rattle.voice_store.specs.Facts.{entry_of}
use Rattle.voice_store.proofs.Recorded.{taken_many}
use Rattle.voice_store.proofs.Added.{has_free, holds_blocks}
use Rattle.voice_store.proofs.Adds.{add_faulted, add_within, stood_more, stood_not_added, when_fault}
use Rattle.voice_store.proofs.inside.Inside.add_free.Goals as goal

pub add-added-requires-clause-shown : goal.add-added-requires-clause-shown
add-added-requires-clause-shown g c κs within =
    let h = c.requires.free in
    (last_of h.0 c.args.self.now, h.2.playing.recorded, ap (λ (x : Shape). x.block) (h.2.upright.seated.shape ∙ sym c.shape-shape.ensures))

pub add-added-requires-clause-holds : goal.add-added-requires-clause-holds
add-added-requires-clause-holds g c κs within =
    let h = c.requires.free in
    let s = c.args.self.now in
    let total = total_in (recording_at s.recordings c.args.lane) in
    subst (λ (x : Shape). HoldsBlocks x c.args.lane total s.parts) (sym c.shape-shape.ensures)
    (holds_blocks h.0 h.1 (g.D.Disk.told c.args.disk.now) s h.2 c.args.lane c.args.take h.3 total (sym c.total-total.ensures.own ∙ c.total-total.ensures.shown (last_of h.0 s) h.2.playing.recorded))

pub add-added-requires-clause-free : goal.add-added-requires-clause-free
add-added-requires-clause-free g c κs within =
    let h = c.requires.free in
    let s = c.args.self.now in
    let total = total_in (recording_at s.recordings c.args.lane) in
    let samples = c.samples-samples.ensures ∙ ap (λ (ts : List (List ℕ)). taken ts c.args.take) c.deref.ensures in
    subst (λ (x : Shape). blocks_more x.block total (length c.samples-samples.result.now) ≤ open_in s.parts.blocks.holders) (sym c.shape-shape.ensures)
    (has_free h.0 h.1 (g.D.Disk.told c.args.disk.now) s h.2 c.args.lane c.args.take h.3 total (length c.samples-samples.result.now)
    (sym c.total-total.ensures.own ∙ c.total-total.ensures.shown (last_of h.0 s) h.2.playing.recorded) (ap (λ (l : List ℕ). length l) samples))

pub returns-in_err-added-clause-stood : goal.returns-in_err-added-clause-stood
returns-in_err-added-clause-stood g c = λ first t0 stood unrefused.
    let s = c.args.self.now in
    let total = total_in (recording_at s.recordings c.args.lane) in
    let added = c.add-added.ensures in
    let none = c.in_err-added.ensures in
    stood_not_added first t0 (g.D.Disk.told c.args.disk.now) (g.D.Disk.told c.add-added.new.disk) s stood c.args.lane c.shape-shape.result c.shape-shape.ensures total (whole_more c.shape-shape.result.block total (length c.samples-samples.result.now))
    (sym c.total-total.ensures.own ∙ c.total-total.ensures.shown (last_of first s) stood.playing.recorded) c.foundations.ensures
    (record { made = added.made; was = c.disks_are_honest.ensures; now = c.disks_are_honest-2.ensures; wrote = added.wrote })
    c.add-added.new.parts c.add-added.new.recordings none.same
    (record { back = λ held pledged takings b runs. none.back held pledged takings b runs; none = none.none; stays = added.stays; rest = added.rest })

pub returns-then-not-branch-clause-calls : goal.returns-then-not-branch-clause-calls
returns-then-not-branch-clause-calls g c = λ first t0 stood unrefused.
    let s = c.args.self.now in
    let total = total_in (recording_at s.recordings c.args.lane) in
    let added = c.add-added.ensures in
    let samples = c.samples-samples.ensures ∙ ap (λ (ts : List (List ℕ)). taken ts c.args.take) c.deref.ensures in
    add_within first t0 (g.D.Disk.told c.args.disk.now) (g.D.Disk.told c.add-added.new.disk) s stood c.args.lane c.shape-shape.result c.shape-shape.ensures total (whole_more c.shape-shape.result.block total (length c.samples-samples.result.now))
    (sym c.total-total.ensures.own ∙ c.total-total.ensures.shown (last_of first s) stood.playing.recorded) c.foundations.ensures
    (record { made = added.made; was = c.disks_are_honest.ensures; now = c.disks_are_honest-2.ensures; wrote = added.wrote })
    c.args.take c.samples-samples.result.now samples unrefused refl

pub returns-then-not-branch-clause-stood : goal.returns-then-not-branch-clause-stood
returns-then-not-branch-clause-stood g c = λ first t0 stood unrefused.
    let s = c.args.self.now in
    let total = total_in (recording_at s.recordings c.args.lane) in
    let added = c.add-added.ensures in
    let no = c.if-not-branch.true in
    let done = c.in_ok-added.field-0 in
    let samples = c.samples-samples.ensures ∙ ap (λ (ts : List (List ℕ)). taken ts c.args.take) c.deref.ensures in
    let old = g.D.Disk.told c.args.disk.now in
    let new = g.D.Disk.told c.add-added.new.disk in
    let total_is = sym c.total-total.ensures.own ∙ c.total-total.ensures.shown (last_of first s) stood.playing.recorded in
    c.note_fault.ensures.stood first t0
    (stood_not_added first t0 old new s stood c.args.lane c.shape-shape.result c.shape-shape.ensures total (whole_more c.shape-shape.result.block total (length c.samples-samples.result.now)) total_is c.foundations.ensures
    (record { made = added.made; was = c.disks_are_honest.ensures; now = c.disks_are_honest-2.ensures; wrote = added.wrote })
    c.add-added.new.parts c.add-added.new.recordings (when_none done (c.add-added.new.recordings ≡ s.recordings) no c.in_ok-added.ensures.same)
    (record { back = λ held pledged takings b runs. when_none done (Runs held pledged takings c.add-added.new.parts b) no (c.in_ok-added.ensures.back held pledged takings b runs); none = when_none done (KeepsAddresses s.parts.blocks.holders c.add-added.new.parts.blocks.holders) no c.in_ok-added.ensures.none; stays = added.stays; rest = added.rest }))
    (add_faulted first t0 old new s stood c.args.lane c.shape-shape.result c.shape-shape.ensures total (whole_more c.shape-shape.result.block total (length c.samples-samples.result.now)) total_is c.foundations.ensures
    (record { made = added.made; was = c.disks_are_honest.ensures; now = c.disks_are_honest-2.ensures; wrote = added.wrote })
    c.args.take c.samples-samples.result.now samples unrefused (when_fault done (0 < whole_more c.shape-shape.result.block total (length c.samples-samples.result.now)) no c.in_ok-added.ensures.reached) c.args.caller)

pub returns-clause-calls : goal.returns-clause-calls
returns-clause-calls g c = λ first t0 stood unrefused.
    let s = c.args.self.now in
    let total = total_in (recording_at s.recordings c.args.lane) in
    let added = c.add-added.ensures in
    let samples = c.samples-samples.ensures ∙ ap (λ (ts : List (List ℕ)). taken ts c.args.take) c.deref.ensures in
    add_within first t0 (g.D.Disk.told c.args.disk.now) (g.D.Disk.told c.add-added.new.disk) s stood c.args.lane c.shape-shape.result c.shape-shape.ensures total (whole_more c.shape-shape.result.block total (length c.samples-samples.result.now))
    (sym c.total-total.ensures.own ∙ c.total-total.ensures.shown (last_of first s) stood.playing.recorded) c.foundations.ensures
    (record { made = added.made; was = c.disks_are_honest.ensures; now = c.disks_are_honest-2.ensures; wrote = added.wrote })
    c.args.take c.samples-samples.result.now samples unrefused refl

pub returns-clause-stood : goal.returns-clause-stood
returns-clause-stood g c = λ first t0 stood unrefused.
    let s = c.args.self.now in
    let last = last_of first s in
    let total = total_in (recording_at s.recordings c.args.lane) in
    let added = c.add-added.ensures in
    let yes = c.if-not-branch.false in
    let done = c.in_ok-added.field-0 in
    let samples = c.samples-samples.ensures ∙ ap (λ (ts : List (List ℕ)). taken ts c.args.take) c.deref.ensures in
    let many = ap (λ (l : List ℕ). length l) samples ∙ taken_many (tapes_of s) c.args.take c.requires.take in
    let own = c.total-total.ensures.own in
    let front = c.from.ensures in
    let behind = c.from-2.ensures in
    stood_more first t0 (g.D.Disk.told c.args.disk.now) (g.D.Disk.told c.add-added.new.disk) s stood c.args.lane c.shape-shape.result c.shape-shape.ensures total (whole_more c.shape-shape.result.block total (length c.samples-samples.result.now))
    (sym own ∙ c.total-total.ensures.shown last stood.playing.recorded) c.foundations.ensures
    (record { made = added.made; was = c.disks_are_honest.ensures; now = c.disks_are_honest-2.ensures; wrote = added.wrote })
    c.args.take c.samples-samples.result.now samples unrefused c.args.caller (c.from.result + c.from-2.result) c.add-added.new.parts c.add-added.new.recordings c.enter.new.history
    (omega (arith, front, behind, own, many))
    (record {
      grown = λ held pledged takings more b runs grows. when_added done (Runs held pledged more c.add-added.new.parts b) yes (c.in_ok-added.ensures.grown held pledged takings more b runs grows);
      whole = λ h has. when_added done (HasWhole c.shape-shape.result (g.D.Disk.told c.add-added.new.disk).bytes c.add-added.new.parts.blocks.holders c.args.lane (taking_of last c.args.lane ++ c.samples-samples.result.now)) yes (c.in_ok-added.ensures.whole h last stood.playing.recorded (ap (λ (x : Shape). x.block) (stood.upright.seated.shape ∙ sym c.shape-shape.ensures)) has);
      hands = when_added done (HandsOut c.args.lane s.parts.blocks.holders c.add-added.new.parts.blocks.holders) yes c.in_ok-added.ensures.hands;
      stays = added.stays;
      rest = added.rest;
    })
    (when_added done (ShowsRecordings c.add-added.new.recordings (on_lanes last (tapes_of s) (calls.Add c.args.lane c.args.take))) yes (c.in_ok-added.ensures.shows last (tapes_of s) c.args.take stood.playing.recorded samples))
    (c.enter.ensures.items ∙ ap (λ (n : ℕ). s.history.items ++ entry_of c.args.caller (calls.Add c.args.lane c.args.take) (replies.Number (c.from.result + c.from-2.result)) n ∷ []) c.calls.ensures)
