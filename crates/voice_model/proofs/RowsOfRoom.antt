-- Worked rows on blocks, interests and the collector.
use Rattle.std.proofs.Common.{◌≡◌, ℕ, List, [], ◌∷◌, refl, replicate}
use Rattle.voice_model.proofs.Small.{small, on_small, on_small_old, state_of, f20, z1, z16, z64, z112, z128}
use Rattle.voice_model.specs.State.{formatted}
use Rattle.voice_model.specs.Room.{used}
use Rattle.voice_model.specs.declared.calls.Class.TheVariants.{Held, Until, Listed}
use Rattle.voice_model.specs.declared.calls.Call.{Call}
use Rattle.voice_model.specs.declared.calls.Call.TheVariants.{Record, Concat, Sub, Length, Play, Advance, Sweep, Retain, Forget, Lookup, Census, Begin, Add, End}
use Rattle.voice_model.specs.declared.calls.Reply.TheVariants.{Rope, Number, Job, No, Done, Swept, Found}
use Rattle.voice_model.specs.declared.calls.Why.TheVariants.{NoRoom, BadData, NoInterest, KeyTaken, JournalFull, LaneRecording, LaneBusy, NoRecording}

pub shared_blocks : on_small (Record z128 ∷ Concat (replicate 16 1) ∷ []) ≡ Rope 1 128 ∷ Rope 2 2048 ∷ []
shared_blocks = refl

pub shared_blocks_used : used (state_of (formatted small) (Record z128 ∷ Concat (replicate 16 1) ∷ [])) ≡ 16
shared_blocks_used = refl

pub room_again : on_small (Record z128 ∷ Record z1 ∷ Advance 60 ∷ Sweep 1 ∷ Record z1 ∷ []) ≡ Rope 1 128 ∷ No (NoRoom 1 0) ∷ Done ∷ Swept 0 (1 ∷ []) ∷ Rope 2 1 ∷ []
room_again = refl

-- a sub of nine samples keeps two blocks
pub blocks_of_an_edit :
    on_small (Record z16 ∷ Sub 1 0 9 ∷ Retain Held (107 ∷ []) 2 [] ∷ Advance 60 ∷ Sweep 9 ∷ Record z112 ∷ Record z1 ∷ [])
    ≡ Rope 1 16 ∷ Rope 2 9 ∷ Done ∷ Done ∷ Swept 0 (1 ∷ []) ∷ Rope 3 112 ∷ No (NoRoom 1 0) ∷ []
blocks_of_an_edit = refl

pub block_set_free :
    on_small (Record z16 ∷ Sub 1 0 8 ∷ Retain Held (107 ∷ []) 2 [] ∷ Advance 60 ∷ Sweep 9 ∷ Record z112 ∷ Record z1 ∷ [])
    ≡ Rope 1 16 ∷ Rope 2 8 ∷ Done ∷ Done ∷ Swept 0 (1 ∷ []) ∷ Rope 3 112 ∷ Rope 4 1 ∷ []
block_set_free = refl

pub grace : on_small (Record f20 ∷ Advance 59 ∷ Sweep 9 ∷ Advance 60 ∷ Sweep 9 ∷ []) ≡ Rope 1 20 ∷ Done ∷ Swept 0 [] ∷ Done ∷ Swept 0 (1 ∷ []) ∷ []
grace = refl

pub kept_by_a_row :
    on_small (Record f20 ∷ Advance 59 ∷ Sweep 9 ∷ Retain Held (107 ∷ []) 1 [] ∷ Advance 60 ∷ Sweep 9 ∷ [])
    ≡ Rope 1 20 ∷ Done ∷ Swept 0 [] ∷ Done ∷ Done ∷ Swept 0 [] ∷ []
kept_by_a_row = refl

pub three_classes :
    on_small (
    Record f20 ∷ Retain Until (117 ∷ []) 1 (0 ∷ 0 ∷ 0 ∷ 0 ∷ 0 ∷ 0 ∷ 0 ∷ 30 ∷ [])
    ∷ Advance 29 ∷ Sweep 9 ∷ Advance 30 ∷ Sweep 9 ∷ Advance 89 ∷ Sweep 9 ∷ Advance 90 ∷ Sweep 9
    ∷ Record f20 ∷ Retain Listed (109 ∷ []) 2 [] ∷ Retain Listed (110 ∷ []) 2 (0 ∷ []) ∷ Census ((110 ∷ []) ∷ []) ∷ Census []
    ∷ Retain Until (118 ∷ []) 2 (0 ∷ []) ∷ [])
    ≡ Rope 1 20 ∷ Done
    ∷ Done ∷ Swept 0 [] ∷ Done ∷ Swept 1 [] ∷ Done ∷ Swept 0 [] ∷ Done ∷ Swept 0 (1 ∷ [])
    ∷ Rope 2 20 ∷ Done ∷ Done ∷ Number 1 ∷ Number 1 ∷ No BadData ∷ []
three_classes = refl

pub interests :
    on_small (
    Record f20 ∷ Retain Held (107 ∷ []) 1 (0 ∷ []) ∷ Lookup Held (107 ∷ []) ∷ Length 1 ∷ Retain Held (107 ∷ []) 1 [] ∷ Forget Held (107 ∷ []) ∷ Forget Held (107 ∷ [])
    ∷ Retain Until (118 ∷ []) 1 (0 ∷ 0 ∷ 1 ∷ 0 ∷ 0 ∷ 0 ∷ 0 ∷ 1 ∷ []) ∷ [])
    ≡ Rope 1 20 ∷ Done ∷ Found 1 (0 ∷ []) ∷ Number 20 ∷ No (KeyTaken 1) ∷ Done ∷ No NoInterest ∷ No BadData ∷ []
interests = refl

-- six rows of keys of 64 bytes fill an area of 512
abbrev pub key_of : ℕ → List ℕ
key_of n = n ∷ replicate 63 97

abbrev pub retained : ℕ → Call
retained n = Retain Held (key_of n) 1 []

pub journal_of_rows :
    on_small (
    Record (record { tape = 0; from = 0; len = 0 }) ∷ retained 1 ∷ retained 2 ∷ retained 3 ∷ retained 4 ∷ retained 5 ∷ retained 6
    ∷ Forget Held (key_of 1) ∷ retained 6 ∷ [])
    ≡ Rope 1 0 ∷ Done ∷ Done ∷ Done ∷ Done ∷ Done ∷ No (JournalFull 533 495) ∷ Done ∷ Done ∷ []
journal_of_rows = refl

pub journal_of_rows_left :
    (state_of (formatted small) (
    Record (record { tape = 0; from = 0; len = 0 }) ∷ retained 1 ∷ retained 2 ∷ retained 3 ∷ retained 4 ∷ retained 5 ∷ retained 6
    ∷ Forget Held (key_of 1) ∷ retained 6 ∷ [])).left
    ≡ 43
journal_of_rows_left = refl

pub journal_of_rows_switched :
    (state_of (formatted small) (
    Record (record { tape = 0; from = 0; len = 0 }) ∷ retained 1 ∷ retained 2 ∷ retained 3 ∷ retained 4 ∷ retained 5 ∷ retained 6
    ∷ Forget Held (key_of 1) ∷ [])).left
    ≡ 124
journal_of_rows_switched = refl

-- on an old disk the size is that of form 1, and the switch goes to form 2
pub old_journal_of_rows :
    on_small_old (
    Record (record { tape = 0; from = 0; len = 0 }) ∷ retained 1 ∷ retained 2 ∷ retained 3 ∷ retained 4 ∷ retained 5 ∷ retained 6
    ∷ Forget Held (key_of 1) ∷ retained 6 ∷ [])
    ≡ Rope 1 0 ∷ Done ∷ Done ∷ Done ∷ Done ∷ Done ∷ No (JournalFull 532 495) ∷ Done ∷ Done ∷ []
old_journal_of_rows = refl

-- a recording that is streamed takes its room at once
pub streamed : on_small (Begin 0 ∷ Add 0 z64 ∷ Record (record { tape = 5; from = 0; len = 65 }) ∷ End 0 ∷ Record z64 ∷ []) ≡ Done ∷ Number 64 ∷ No (NoRoom 9 8) ∷ Rope 1 64 ∷ Rope 2 64 ∷ []
streamed = refl

pub lanes_recording :
    on_small (Begin 0 ∷ Begin 0 ∷ Record f20 ∷ Play 0 1 0 1 ∷ Play 1 1 0 1 ∷ Begin 1 ∷ Add 2 f20 ∷ [])
    ≡ Done ∷ No LaneRecording ∷ Rope 1 20 ∷ No LaneRecording ∷ Job 1 ∷ No (LaneBusy 1) ∷ No NoRecording ∷ []
lanes_recording = refl
