-- How a caller's entries follow the lines of its script.
--     Errand      what a line asks for, as its variables stand; the variable that it binds; the lane that it serves
--     Serving lane awaited entries      the entries serve one job of the lane, from what is awaited first
--     Follows variables errands entries      the entries are those of the errands, in order, each once
use Rattle.std.specs.Prelude.{◌≡◌, ℕ, ◌<◌, ◌⊎◌, cond, List, [], ◌∷◌, ◌++◌, take, bytes_eq, Option, Some, None}
use Rattle.voice_model.specs.Samples.{bytes_of}
use Rattle.voice_model.specs.State.{State, Job, lane_at}
use Rattle.voice_model.specs.Step.{after, first_job}
use Rattle.voice_model.specs.declared.calls.Call.{Call}
use Rattle.voice_model.specs.declared.calls.Call.TheVariants as calls
use Rattle.voice_model.specs.declared.calls.Reply.{Reply}
use Rattle.voice_model.specs.declared.calls.Reply.TheVariants as replies
use Rattle.voice_model.specs.declared.calls.Why.TheVariants as why
use Rattle.voice_model.specs.declared.calls.Entry.{Entry}

-- a variable and the number of its rope
pub record Binding : Type 0 where
  pub name : List ℕ
  pub rope : ℕ

-- the rope that a variable stands for, 0 where no reply set it
abbrev pub value_of : List Binding → List ℕ → ℕ
value_of [] name = 0
value_of (b ∷ bs) name = cond (bytes_eq b.name name) b.rope (value_of bs name)

pub record Errand : Type 0 where
  pub asks : List Binding → Option Call
  pub binds : Option (List ℕ)
  pub serves : Option ℕ

-- what a line sets its variable to
abbrev pub bound_rope : Reply → Option ℕ
bound_rope (replies.Rope id n) = Some id
bound_rope (replies.Found id note) = Some id
bound_rope _ = None

abbrev pub bound : Option (List ℕ) → Option ℕ → List Binding → List Binding
bound (Some name) (Some id) variables = record { name = name; rope = id } ∷ variables
bound _ _ variables = variables

-- what a serving awaits: a feed that brings nothing back; one that brings back a window of n samples; a stop after a fault
pub data Awaited : Type 0 where
  First : Awaited
  Back : ℕ → Awaited
  Halt : Awaited

abbrev pub IsStopped : Reply → Type 0
IsStopped (replies.Stopped job n) = Unit {0}
IsStopped _ = ⊥

-- all of the window was heard, or less of it and the job was stopped
abbrev pub IsAwaited : ℕ → Awaited → Call → Reply → Type 0
IsAwaited lane Awaited.First call reply = call ≡ calls.Feed lane None
IsAwaited lane (Awaited.Back n) call reply = (m : ℕ) × (call ≡ calls.Feed lane (Some m)) × ((m ≡ n) ⊎ ((m < n) × IsStopped reply))
IsAwaited lane Awaited.Halt call reply = call ≡ calls.Stop lane

abbrev pub after_feed : Reply → Option Awaited
after_feed (replies.Window at n) = Some (Awaited.Back n)
after_feed (replies.No why.DiskFault) = Some Awaited.Halt
after_feed _ = None

abbrev pub then_awaited : Awaited → Reply → Option Awaited
then_awaited Awaited.Halt reply = Some Awaited.First
then_awaited _ reply = after_feed reply

abbrev pub Goes_on : Option Awaited → (Awaited → Type 0) → Type 0 → Type 0
Goes_on None on over = over
Goes_on (Some awaited) on over = on awaited

abbrev pub Serving : ℕ → Awaited → List Entry → Type 0
Serving lane awaited [] = ⊥
Serving lane awaited (e ∷ es) = IsAwaited lane awaited e.call e.reply × Goes_on (then_awaited awaited e.reply) (λ next. Serving lane next es) (es ≡ [])

-- a play line serves its lane where its reply is a job
abbrev pub AfterPlay : ℕ → Reply → List Entry → Type 0
AfterPlay lane (replies.Job job) es = Serving lane Awaited.First es
AfterPlay lane _ es = es ≡ []

-- the entries of one line
abbrev pub Does : Option Call → Option ℕ → List Entry → Type 0
Does None None es = ⊥
Does None (Some lane) es = Serving lane Awaited.First es
Does (Some call) serves [] = ⊥
Does (Some call) None (e ∷ es) = (e.call ≡ call) × (es ≡ [])
Does (Some call) (Some lane) (e ∷ es) = (e.call ≡ call) × AfterPlay lane e.reply es

abbrev pub variables_after : Option (List ℕ) → List Entry → List Binding → List Binding
variables_after binds [] variables = variables
variables_after binds (e ∷ es) variables = bound binds (bound_rope e.reply) variables

abbrev pub Follows : List Binding → List Errand → List Entry → Type 0
Follows variables [] entries = entries ≡ []
Follows variables (errand ∷ errands) entries =
    (own : List Entry) × (rest : List Entry) × (entries ≡ own ++ rest) × Does (errand.asks variables) errand.serves own × Follows (variables_after errand.binds own variables) errands rest

-- the bytes that a serving gives, whose last entry is entry k of the history, from 0
abbrev pub passage_bytes : Option Job → List ℕ
passage_bytes None = []
passage_bytes (Some job) = bytes_of job.passage

abbrev pub heard_bytes : Reply → List ℕ → Option (List ℕ)
heard_bytes (replies.Ended job n) bytes = Some (take n bytes)
heard_bytes (replies.Stopped job n) bytes = Some (take n bytes)
heard_bytes _ bytes = None

abbrev pub served_bytes : State → List (List ℕ) → List Entry → ℕ → Reply → ℕ → Option (List ℕ)
served_bytes s tapes entries lane last k = heard_bytes last (passage_bytes (first_job (lane_at (after s tapes (take k entries)) lane).jobs))
