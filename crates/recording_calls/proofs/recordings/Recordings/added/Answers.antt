use Rattle.std.proofs.Common.{◌++◌, ap, ◌∙◌}
use Rattle.record_job.specs.Recording.{Recording, whole_blocks}
use Rattle.recording_calls.proofs.Seen.{given_shown}
use Rattle.recording_calls.proofs.recordings.Recordings.added.Goals as goal

pub returns-clause-blocks : goal.returns-clause-blocks
returns-clause-blocks c = λ s h.
    given_shown c.args.self.now s c.args.lane c.in-Some.open.now c.args.bytes.now _ h c.in-Some.ensures
    (c.in_ok-blocks.ensures.given ∙ ap (λ (r : Recording). whole_blocks r.block (r.rest ++ c.args.bytes.now)) c.in_ok-taking.ensures)
