-- Worked rows of many samples.
use Rattle.std.proofs.Common.{◌≡◌, ℕ, List, [], ◌∷◌, ◌++◌, refl, replicate}
use Rattle.voice_units.specs.declared.shapes.Shape.{Shape}
use Rattle.voice_units.specs.Tested.{shape_tested}
use Rattle.voice_model.proofs.Small.{same_grace, letters}
use Rattle.voice_model.specs.State.{State, formatted}
use Rattle.voice_model.specs.Step.{refusal, reply_by, answered}
use Rattle.voice_model.specs.Talk.{talk}
use Rattle.voice_model.specs.declared.calls.Call.{Call}
use Rattle.voice_model.specs.declared.calls.Call.TheVariants.{Record, Concat, Describe, Levels}
use Rattle.voice_model.specs.declared.calls.Reply.{Reply}
use Rattle.voice_model.specs.declared.calls.Reply.TheVariants.{Rope, Talk, Peaks, No}
use Rattle.voice_model.specs.declared.calls.Why.TheVariants.{TooManyPieces, UnknownRope}

abbrev pub large : Shape
large = record { version = 2; block = 4096; blocks = 2000; area = 1048576; graces = same_grace 60; lanes = 4; conditions = shape_tested 2 4096 2000 1048576 (same_grace 60) 4 refl }

pub talk_with_a_pause : talk (replicate 4000 128 ++ replicate 4000 255 ++ replicate 4000 128) ≡ record { start = 0; len = 4000 } ∷ record { start = 8000; len = 4000 } ∷ []
talk_with_a_pause = refl

pub talk_without_a_pause : talk (replicate 4000 128 ++ replicate 3840 255 ++ replicate 4000 128) ≡ record { start = 0; len = 11840 } ∷ []
talk_without_a_pause = refl

abbrev pub long_tapes : List (List ℕ)
long_tapes = replicate 8 128 ∷ (replicate 4000 128 ++ replicate 4000 255 ++ replicate 4000 128) ∷ []

abbrev pub replies_to : State → List Call → List Reply
replies_to s [] = []
replies_to s (call ∷ calls) = reply_by s long_tapes call (refusal s long_tapes call) ∷ replies_to (answered s long_tapes call) calls

pub described : replies_to (formatted large) (Record (record { tape = 1; from = 0; len = 12000 }) ∷ Describe 1 ∷ []) ≡ Rope 1 12000 ∷ Talk (record { start = 0; len = 4000 } ∷ record { start = 8000; len = 4000 } ∷ []) ∷ []
described = refl

pub many_samples : replies_to (formatted large) (Record (record { tape = 0; from = 0; len = 8 }) ∷ Concat (replicate 16 1) ∷ Concat (replicate 16 2) ∷ []) ≡ Rope 1 8 ∷ Rope 2 128 ∷ Rope 3 2048 ∷ []
many_samples = refl

pub many_pieces :
    replies_to (formatted large) (Record (record { tape = 0; from = 0; len = 8 }) ∷ Concat (replicate 16 1) ∷ Concat (replicate 16 2) ∷ Concat (replicate 16 3) ∷ Concat (4 ∷ 4 ∷ []) ∷ [])
    ≡ Rope 1 8 ∷ Rope 2 128 ∷ Rope 3 2048 ∷ Rope 4 32768 ∷ No (TooManyPieces 8192) ∷ []
many_pieces = refl

abbrev pub level_tapes : List (List ℕ)
level_tapes = letters ∷ (replicate 160 255 ++ 128 ∷ []) ∷ []

abbrev pub leveled : State → List Call → List Reply
leveled s [] = []
leveled s (call ∷ calls) = reply_by s level_tapes call (refusal s level_tapes call) ∷ leveled (answered s level_tapes call) calls

pub levels :
    leveled (formatted large) (
    Record (record { tape = 0; from = 0; len = 20 }) ∷ Levels 1 ∷ Record (record { tape = 0; from = 0; len = 0 }) ∷ Levels 2
    ∷ Record (record { tape = 1; from = 0; len = 161 }) ∷ Levels 3 ∷ Levels 4 ∷ [])
    ≡ Rope 1 20 ∷ Peaks (62 ∷ []) ∷ Rope 2 0 ∷ Peaks [] ∷ Rope 3 161 ∷ Peaks (0 ∷ 127 ∷ []) ∷ No (UnknownRope 4) ∷ []
levels = refl
