-- Which blocks frames hold after a Feed.
use Rattle.std.proofs.Common.{◌≡◌, ℕ, ◌<◌, inl, inr, Bool, true, false, List, length, map, Option, refl, sym, ◌∙◌, ap, subst}
use Rattle.voice_units.specs.declared.pieces.Piece.{Piece}
use Rattle.rope_table.specs.Table.{Table, Counts}
use Rattle.recovery.specs.declared.parts.Parts.{Parts}
use Rattle.play_queue.specs.declared.jobs.Job.{Job}
use Rattle.play_queue.specs.Queued.{lane_of}
use Rattle.playing.specs.declared.blocks.Block.{Block}
use Rattle.playing.specs.Frames.{FramesState, AreUsed, Forgets, uses_of}
use Rattle.playing.specs.Held.{held_by}
use Rattle.playing.specs.Lanes.{LanesState, IsSentTo, IsOver, stopped_at, next_window}
use Rattle.playing.specs.Moved.{MovesBlocks}
use Rattle.playing.specs.Fed.{FedTo}
use Rattle.playing.specs.declared.turns.Fed as turn
use Rattle.playing.specs.declared.turns.Fed.TheVariants as turns
use Rattle.playing.proofs.Moved.{moves_sent, moves_forgot, moves_kept, held_window}
use Rattle.playing.proofs.Sending.{window_is}
use Rattle.lane_calls.specs.Answers.{IsTold, HoldsWindow}
use Rattle.lane_calls.specs.declared.outcomes.Fed.{Fed}
use Rattle.lane_calls.specs.declared.outcomes.Fed.TheVariants as feds
use Rattle.lane_calls.proofs.Served.{sent_used}

-- the frames stayed, and those blocks were forgotten that nothing uses
over_moves : (t : Table) (block : ℕ) (window : List Piece) (old mid new : FramesState) → mid.resident ≡ old.resident → Forgets (uses_of t) mid new → MovesBlocks (uses_of t) block window old.resident new.resident
over_moves t block window old mid new stays forgets =
    moves_forgot (uses_of t) block window old.resident new.resident (forgets.resident ∙ ap (map _) stays)

pub told_moves : (block more lane : ℕ) (fed : turn.Fed) (parts new : Parts) (lanes mid after : LanesState) (told : Fed) → FedTo block more lane fed lanes mid → IsTold fed parts mid new after told
    → IsSentTo block (next_window block more (lane_of lanes.queues lane)) lane lanes.frames mid.frames → (IsOver more (lane_of lanes.queues lane) → mid.frames.resident ≡ lanes.frames.resident)
    → MovesBlocks (uses_of new.ropes) block (next_window block more (lane_of lanes.queues lane)) lanes.frames.resident after.frames.resident
told_moves block more lane (turns.Stopped job) parts new lanes mid after told to is sent stays =
    over_moves new.ropes block (next_window block more (lane_of lanes.queues lane)) lanes.frames mid.frames after.frames (stays (inl to.0)) is.2.forgets
told_moves block more lane (turns.Ended job) parts new lanes mid after told to is sent stays =
    over_moves new.ropes block (next_window block more (lane_of lanes.queues lane)) lanes.frames mid.frames after.frames (stays (inr to.1)) is.2.forgets
told_moves block more lane (turns.Window at lease) parts new lanes mid after told to is sent stays =
    subst (λ (l : LanesState). MovesBlocks (uses_of new.ropes) block (next_window block more (lane_of lanes.queues lane)) lanes.frames.resident l.frames.resident) (sym is.2)
    (moves_sent (uses_of new.ropes) block lane (next_window block more (lane_of lanes.queues lane)) lanes.frames mid.frames sent)
told_moves block more lane turns.Fault parts new lanes mid after told to is sent stays =
    subst (λ (l : LanesState). MovesBlocks (uses_of new.ropes) block (next_window block more (lane_of lanes.queues lane)) lanes.frames.resident l.frames.resident) (sym is.2)
    (moves_sent (uses_of new.ropes) block lane (next_window block more (lane_of lanes.queues lane)) lanes.frames mid.frames sent)

-- the window of a job that goes on is in frames
pub told_holds : (block more lane : ℕ) (fed : turn.Fed) (parts new : Parts) (lanes mid after : LanesState) (told : Fed) → 0 < block → 0 < length (lane_of lanes.queues lane) → FedTo block more lane fed lanes mid → IsTold fed parts mid new after told
    → HoldsWindow block (next_window block more (lane_of lanes.queues lane)) after.frames.resident told
told_holds block more lane (turns.Stopped job) parts new lanes mid after told some jobs to is = subst (HoldsWindow block (next_window block more (lane_of lanes.queues lane)) after.frames.resident) (sym is.0) tt
told_holds block more lane (turns.Ended job) parts new lanes mid after told some jobs to is = subst (HoldsWindow block (next_window block more (lane_of lanes.queues lane)) after.frames.resident) (sym is.0) tt
told_holds block more lane (turns.Window at lease) parts new lanes mid after told some jobs to is =
    let w = next_window block more (lane_of lanes.queues lane) in
    subst (HoldsWindow block w after.frames.resident) (sym is.0)
    (subst (λ (l : LanesState). HoldsWindow block w l.frames.resident (feds.Window at lease)) (sym is.2)
    (held_window block mid.frames.resident w (window_is block more (lane_of lanes.queues lane) some jobs to.1).stretches to.5))
told_holds block more lane turns.Fault parts new lanes mid after told some jobs to is = subst (HoldsWindow block (next_window block more (lane_of lanes.queues lane)) after.frames.resident) (sym is.0) tt

-- after want of memory, where those blocks were forgotten that nothing uses
pub err_moves : (parts : Parts) (block more lane : ℕ) (lanes : LanesState) (mid after : FramesState) → Counts parts.ropes (held_by lanes.queues) → parts.ropes.block ≡ block → 0 < block
    → IsSentTo block (next_window block more (lane_of lanes.queues lane)) lane lanes.frames mid → (IsOver more (lane_of lanes.queues lane) → mid.resident ≡ lanes.frames.resident)
    → Forgets (uses_of parts.ropes) mid after → AreUsed (uses_of parts.ropes) lanes.frames
    → MovesBlocks (uses_of parts.ropes) block (next_window block more (lane_of lanes.queues lane)) lanes.frames.resident after.resident
err_moves parts block more lane lanes mid after counts same some sent stays forgets used = by (stopped_at (lane_of lanes.queues lane)) refl
  where
    by : (t : Bool) → stopped_at (lane_of lanes.queues lane) ≡ t → MovesBlocks (uses_of parts.ropes) block (next_window block more (lane_of lanes.queues lane)) lanes.frames.resident after.resident
    by true e = over_moves parts.ropes block (next_window block more (lane_of lanes.queues lane)) lanes.frames mid after (stays (inl e)) forgets
    by false e =
        moves_kept (uses_of parts.ropes) block (next_window block more (lane_of lanes.queues lane)) lanes.frames.resident after.resident mid
        (sent_used parts.ropes block more lane lanes mid counts same some e sent used) forgets.resident
        (moves_sent (uses_of parts.ropes) block lane (next_window block more (lane_of lanes.queues lane)) lanes.frames mid sent)
