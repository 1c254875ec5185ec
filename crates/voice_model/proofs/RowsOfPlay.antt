-- Worked rows on play.
use Rattle.std.proofs.Common.{◌≡◌, [], ◌∷◌, ◌++◌, refl, Some, None, replicate}
use Rattle.voice_model.proofs.Small.{on_small, f20, z1, z64}
use Rattle.voice_model.specs.declared.calls.Call.TheVariants.{Record, Play, Feed, Stop, Advance, Sweep, Length}
use Rattle.voice_model.specs.declared.calls.Reply.TheVariants.{Rope, Number, Job, Window, Ended, Stopped, No, Done, Swept}
use Rattle.voice_model.specs.declared.calls.Why.TheVariants.{QueueFull, UnknownLane, NoJob, NoRoom, WindowOut, UnknownRope}

pub two_windows : on_small (Record z64 ∷ Play 0 1 0 64 ∷ Feed 0 None ∷ Feed 0 (Some 32) ∷ Feed 0 (Some 32) ∷ []) ≡ Rope 1 64 ∷ Job 1 ∷ Window 0 32 ∷ Window 32 32 ∷ Ended 1 64 ∷ []
two_windows = refl

-- a passage is kept until its job leaves
pub played_after_the_sweep :
    on_small (
    Record z64 ∷ Play 0 1 0 64 ∷ Feed 0 None ∷ Advance 60 ∷ Sweep 9 ∷ Record z64 ∷ Record z1
    ∷ Feed 0 (Some 32) ∷ Feed 0 (Some 32) ∷ Record z1 ∷ [])
    ≡ Rope 1 64 ∷ Job 1 ∷ Window 0 32 ∷ Done ∷ Swept 0 (1 ∷ []) ∷ Rope 2 64 ∷ No (NoRoom 1 0)
    ∷ Window 32 32 ∷ Ended 1 64 ∷ Rope 3 1 ∷ []
played_after_the_sweep = refl

pub stopped_in_mid_play :
    on_small (Record z64 ∷ Play 0 1 0 64 ∷ Feed 0 None ∷ Stop 0 ∷ Feed 0 (Some 32) ∷ Stop 0 ∷ Feed 0 None ∷ [])
    ≡ Rope 1 64 ∷ Job 1 ∷ Window 0 32 ∷ Number 1 ∷ Stopped 1 32 ∷ Number 0 ∷ No NoJob ∷ []
stopped_in_mid_play = refl

pub second_player : on_small (Record z64 ∷ Play 0 1 0 64 ∷ Feed 0 None ∷ Feed 0 None ∷ []) ≡ Rope 1 64 ∷ Job 1 ∷ Window 0 32 ∷ No WindowOut ∷ []
second_player = refl

pub full_queue :
    on_small (Record f20 ∷ replicate 9 (Play 0 1 0 20) ++ Stop 0 ∷ Feed 0 None ∷ Play 9 1 0 1 ∷ [])
    ≡ Rope 1 20 ∷ Job 1 ∷ Job 2 ∷ Job 3 ∷ Job 4 ∷ Job 5 ∷ Job 6 ∷ Job 7 ∷ Job 8 ∷ No QueueFull ∷ Number 8 ∷ Stopped 1 0 ∷ No (UnknownLane 4) ∷ []
full_queue = refl

pub unset_variable : on_small (Length 0 ∷ []) ≡ No (UnknownRope 0) ∷ []
unset_variable = refl
