use Rattle.std.proofs.Common.{◌++◌, Some, sym, subst}
use Rattle.voice_model.specs.State.{lane_at, with_lane}
use Rattle.voice_model.specs.Tapes.{taken}
use Rattle.voice_model.specs.Changes.{taking_of}
use Rattle.recording_calls.specs.Shown.{ShowsRecordings}
use Rattle.recording_calls.proofs.Seen.{added_shown}
use Rattle.recording_calls.proofs.recordings.Recordings.put.Goals as goal

pub returns-clause-shows : goal.returns-clause-shows
returns-clause-shows c = λ s tapes take h is.
    subst (λ recordings. ShowsRecordings recordings (with_lane s c.args.lane (record (lane_at s c.args.lane) { taking = Some (taking_of s c.args.lane ++ taken tapes take) }))) (sym c.set.ensures)
    (added_shown c.args.self.now s c.args.lane c.args.taking (taken tapes take) h is)
