-- A day of mail in small: a message with a pause, the pause cut out, a note behind it, kept, heard, and the rest swept.
use Rattle.std.proofs.Common.{◌≡◌, ℕ, List, [], ◌∷◌, ◌++◌, refl, replicate, Some, None}
use Rattle.voice_model.proofs.RowsThatAreLong.{large}
use Rattle.voice_model.specs.State.{State, formatted}
use Rattle.voice_model.specs.Room.{used}
use Rattle.voice_model.specs.Step.{refusal, reply_by, answered}
use Rattle.voice_model.specs.declared.calls.Class.TheVariants.{Held}
use Rattle.voice_model.specs.declared.calls.Call.{Call}
use Rattle.voice_model.specs.declared.calls.Call.TheVariants.{Record, Describe, Sub, Replace, Concat, Retain, Lookup, Play, Feed, Advance, Sweep}
use Rattle.voice_model.specs.declared.calls.Reply.{Reply}
use Rattle.voice_model.specs.declared.calls.Reply.TheVariants.{Rope, Talk, Done, Found, Job, Window, Ended, Swept}

-- talk, a silence of half a second, talk; and a short note
abbrev pub mail_tapes : List (List ℕ)
mail_tapes = (replicate 1600 128 ++ replicate 4000 255 ++ replicate 1920 128) ∷ replicate 80 128 ∷ []

abbrev pub mail_key : List ℕ
mail_key = 109 ∷ 97 ∷ 105 ∷ 108 ∷ 46 ∷ 49 ∷ []

abbrev pub hi : List ℕ
hi = 104 ∷ 105 ∷ []

abbrev pub mailed : State → List Call → List Reply
mailed s [] = []
mailed s (call ∷ calls) = reply_by s mail_tapes call (refusal s mail_tapes call) ∷ mailed (answered s mail_tapes call) calls

abbrev pub mailed_state : State → List Call → State
mailed_state s [] = s
mailed_state s (call ∷ calls) = mailed_state (answered s mail_tapes call) calls

-- the pause is cut out, the note joined, and the whole kept and heard by two players
abbrev pub before_the_sweep : List Call
before_the_sweep =
    Record (record { tape = 0; from = 0; len = 7520 }) ∷ Describe 1 ∷ Sub 1 0 0 ∷ Replace 1 1600 4000 2 ∷ Record (record { tape = 1; from = 0; len = 80 }) ∷ Concat (3 ∷ 4 ∷ [])
    ∷ Retain Held mail_key 5 hi ∷ Lookup Held mail_key ∷ Play 0 5 0 3600 ∷ Feed 0 None ∷ Feed 0 (Some 3600) ∷ Play 1 5 0 3600 ∷ Feed 1 None ∷ Feed 1 (Some 3600) ∷ Advance 100 ∷ []

pub mail_day :
    mailed (formatted large) (before_the_sweep ++ Sweep 100 ∷ [])
    ≡ Rope 1 7520 ∷ Talk (record { start = 0; len = 1600 } ∷ record { start = 5600; len = 1920 } ∷ []) ∷ Rope 2 0 ∷ Rope 3 3520 ∷ Rope 4 80 ∷ Rope 5 3600
    ∷ Done ∷ Found 5 hi ∷ Job 1 ∷ Window 0 3600 ∷ Ended 1 3600 ∷ Job 2 ∷ Window 0 3600 ∷ Ended 2 3600 ∷ Done ∷ Swept 0 (1 ∷ 2 ∷ 3 ∷ 4 ∷ []) ∷ []
mail_day = refl

pub mail_blocks : used (mailed_state (formatted large) before_the_sweep) ≡ 3
mail_blocks = refl
