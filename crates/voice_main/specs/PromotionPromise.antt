-- What `promote` answers and leaves.
--     answer_status_of answer      the status of an answer
--     PromotionPromise old new status history      all of it
use Rattle.std.specs.Prelude.{List, [], ◌≡◌, ◌≤◌, ◌+◌, Result, Ok, Err}
use Rattle.voice_model.specs.declared.calls.Entry.{Entry}
use Rattle.mirror_commands.specs.declared.promoting.Refusal.{Refusal}
use Rattle.mirror_commands.specs.Promoting.{Promotes}
use Rattle.voice_main.specs.declared.status.Status.{Status}
use Rattle.voice_main.specs.declared.status.Status.TheVariants.{Done}
use Rattle.voice_main.specs.Outside.{Outside}
use Rattle.voice_main.specs.Statuses.{refusal_status_of}

-- each answer has a status of its own
abbrev pub answer_status_of : Result (Unit {0}) Refusal → Status
answer_status_of (Ok x) = Done
answer_status_of (Err e) = refusal_status_of e

-- the status is that of an answer of which this holds: it is what the disk's bytes decide, but for faults and want of memory; after Done each image reads as the voice disk with what the mirror had, within it and in doubt as the one or the other, after every other refusal as the mirror
pub record PromotionPromise (old new : Outside) (status : Status) (history : List Entry) : Type 0 where
  pub answer : Result (Unit {0}) Refusal
  pub status_is : status ≡ answer_status_of answer
  pub promotes : Promotes old.disk new.disk answer
  -- it makes at most 14 device calls
  pub calls : new.disk.calls ≤ old.disk.calls + 14
  -- it makes no call, prints nothing and sets no file
  pub silent : history ≡ []
  pub quiet : new.contents ≡ old.contents
  pub files : new.files ≡ old.files
