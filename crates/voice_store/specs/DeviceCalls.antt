-- How many device calls the answer to a call takes at most, by the state that it is asked of.
--     journal_calls s effect      of the journal: 4 behind its other records, 6 where a base in the other area is written
--     blocks_written s call effect      of blocks: those of a recording, at most one a block; of an End the last one, where it is not whole
--     effect_calls s call effect      of a change that is made
--     change_calls s tapes call      of a change where nothing is in doubt: none where it is refused, or changes nothing
--     add_calls s tapes lane take      of an Add: none where it is refused, and else one for each block that becomes whole
--     other_calls s tapes call      of a call that makes no change, and is no Feed
--     plan_calls plan      of a plan, of the journal
--     landing_calls s      of the landing before it: 2 where a change is in doubt
--     most_calls s tapes call      of any call
use Rattle.std.specs.Prelude.{ℕ, ◌+◌, ◌-◌, ◌/◌, nat_le, cond, is_some, List, length, Option, Some, None}
use Rattle.voice_units.specs.Blocks.{blocks_for}
use Rattle.voice_model.specs.Samples.{Tagged}
use Rattle.voice_model.specs.State.{State, Effect}
use Rattle.voice_model.specs.State.Effect.{Recorded}
use Rattle.voice_units.specs.declared.pieces.Take.{Take}
use Rattle.voice_model.specs.Tapes.{taken}
use Rattle.voice_model.specs.Changes.{effect_of, frame_size, is_changing, taking_of}
use Rattle.voice_model.specs.Step.{refusal, landed}
use Rattle.voice_model.specs.declared.calls.Call.{Call}
use Rattle.voice_model.specs.declared.calls.Call.TheVariants as calls
use Rattle.recording_adds.specs.Adds.{whole_more}
use Rattle.voice_model.specs.declared.calls.Why.{Why}
use Rattle.voice_store.specs.declared.committing.Plan.{Plan}
use Rattle.voice_store.specs.declared.committing.Plan.TheVariants as plans
use Rattle.voice_store.specs.Facts.{most_reads}

-- its record behind the others: payload, sync, gate, sync; or a base in the other area, and its head
unfoldable pub journal_calls : State → Effect Tagged → ℕ
journal_calls s effect = cond (nat_le (frame_size s.form s.kept.shape.block effect) s.left) 4 6

abbrev pub plan_calls : Plan → ℕ
plan_calls plans.Append = 4
plan_calls (plans.Switch base) = 6

-- an End has written its whole blocks before
unfoldable pub blocks_written : State → Call → Effect Tagged → ℕ
blocks_written s (calls.End lane) effect = blocks_for s.kept.shape.block (length (taking_of s lane)) - length (taking_of s lane) / s.kept.shape.block
blocks_written s call (Recorded id samples) = blocks_for s.kept.shape.block (length samples)
blocks_written s call _ = 0

abbrev pub effect_calls : State → Call → Effect Tagged → ℕ
effect_calls s call effect = blocks_written s call effect + journal_calls s effect

abbrev pub calls_by : State → Call → Option Why → Option (Effect Tagged) → ℕ
calls_by s call None (Some effect) = effect_calls s call effect
calls_by s call _ _ = 0

unfoldable pub change_calls : State → List (List ℕ) → Call → ℕ
change_calls s tapes call = calls_by s call (refusal s tapes call) (effect_of s tapes call)

abbrev pub landing_calls : State → ℕ
landing_calls s = cond (is_some s.doubt) 2 0

abbrev pub calls_unless : Option Why → ℕ → ℕ
calls_unless None n = n
calls_unless (Some why) n = 0

-- an Add writes each block that becomes whole
unfoldable pub add_calls : State → List (List ℕ) → ℕ → Take → ℕ
add_calls s tapes lane take = calls_unless (refusal s tapes (calls.Add lane take)) (whole_more s.kept.shape.block (length (taking_of s lane)) (length (taken tapes take)))

abbrev pub other_calls : State → List (List ℕ) → Call → ℕ
other_calls s tapes (calls.Add lane take) = add_calls s tapes lane take
other_calls s tapes call = most_reads s call

unfoldable pub most_calls : State → List (List ℕ) → Call → ℕ
most_calls s tapes call = cond (is_changing call) (landing_calls s + change_calls (landed s) tapes call) (other_calls s tapes call)
