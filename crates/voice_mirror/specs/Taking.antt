-- What becomes of a packet.
--     settled s      the state once what is in doubt has landed;  with_landed doubt ack taken      the changes that were taken then
--     kept_then b body      what b keeps after a body's change
--     body_judged b s body, judged b s packet      the answer that is found before anything is written, none where the change goes to the disk
--     Judges s packet answer t      the answer to a packet, and the state behind it
--     Brings kept body effect      a body brings an effect to what is kept
--     Takes first from t0 taken doubt disk t body answer      what the disk stands for behind an answer
--     TakesAs, TakesOr      behind an answer or want of memory
use Rattle.std.specs.Prelude.{◌≡◌, ◌⊎◌, ℕ, ◌+◌, ◌-◌, ◌*◌, ◌^◌, ◌==◌, cond, nat_le, nat_lt, List, [], ◌∷◌, ◌++◌, length, Option, None, Some, IsSome, Result, Ok, Err}
use Rattle.voice_outside.specs.Disk.{Told}
use Rattle.voice_units.specs.Spots.{Spot, spots_from}
use Rattle.voice_units.specs.Blocks.{blocks_for}
use Rattle.voice_units.specs.declared.errors.NoMemory.{NoMemory}
use Rattle.voice_model.specs.Samples.{Tagged}
use Rattle.voice_model.specs.State.{Durable, Effect}
use Rattle.voice_model.specs.State.Effect.{Recorded}
use Rattle.voice_model.specs.Changes.{changed}
use Rattle.voice_model.specs.Spelling.{spelling}
use Rattle.voice_model.specs.Replay.{Rebuilt, brings, durable_by, recovered}
use Rattle.voice_journal.specs.Places.{JournalValue, landed, closed_after}
use Rattle.voice_journal.specs.declared.seats.Doubt.{Doubt}
use Rattle.voice_blocks.specs.Holders.{open_in}
use Rattle.checkpoint.specs.Size.{numbers_in}
use Rattle.recovery.specs.Shown.{Rebuilds, plain_sample}
use Rattle.mirror_packets.specs.Packets.{Body, Packet}
use Rattle.mirror_laws.specs.Standing.{Took, taken_at, kept_after, effects_of}
use Rattle.mirror_tables.specs.Numbered.{numbered_by_numbers}
use Rattle.mirror_effects.specs.Effects.{IsBrought, is_strange}
use Rattle.voice_mirror.specs.declared.inside.Pending.{Pending}
use Rattle.voice_mirror.specs.declared.answers.Taken.{Taken}
use Rattle.voice_mirror.specs.declared.answers.Taken.TheVariants.{Done, Again, Early, Strange, NoRoom, JournalFull, DiskFault, InDoubt}
use Rattle.voice_mirror.specs.Shown.{MirrorState, Keeps}

-- ---- a landing

abbrev pub journal_by : Option Doubt → JournalValue → JournalValue
journal_by None journal = journal
journal_by (Some doubt) journal = record { shape = journal.shape; seat = landed journal.seat doubt; doubt = None; is_closed = closed_after journal.is_closed doubt }

abbrev pub settled_by : Option Pending → MirrorState → MirrorState
settled_by None s = s
settled_by (Some p) s = record { journal = journal_by s.journal.doubt s.journal; parts = p.tables; position = s.position + 1; pending = None }

-- the state once what is in doubt has landed
abbrev pub settled : MirrorState → MirrorState
settled s = settled_by s.pending s

-- the changes that were taken, and behind them the one that was in doubt
abbrev pub with_landed : Option (Effect Tagged) → ℕ → List Took → List Took
with_landed None ack taken = taken
with_landed (Some effect) ack taken = taken ++ taken_at effect ack ∷ []

-- ---- what is found before anything is written

-- the change of a body, by places; a voice file is a rope of its own
abbrev pub spots_brought : Body → Option (Effect Spot)
spots_brought (Body.Voice id samples) = Some (Recorded id (spots_from id 0 (length samples)))
spots_brought (Body.Other change) = brings change

abbrev pub kept_by : Durable Spot → Option (Effect Spot) → Durable Spot
kept_by d None = d
kept_by d (Some effect) = changed 2 d effect

-- what b keeps after a body's change
abbrev pub kept_then : Rebuilt → Body → Durable Spot
kept_then b body = kept_by b.kept (spots_brought body)

-- the bytes of the change that keeps a body; a voice file's names the address of each block
abbrev pub change_size : ℕ → Body → ℕ
change_size block (Body.Voice id samples) = 17 + 4 * blocks_for block (length samples)
change_size block (Body.Other change) = length (spelling change)

-- how many blocks it takes
abbrev pub body_blocks : ℕ → Body → ℕ
body_blocks block (Body.Voice id samples) = blocks_for block (length samples)
body_blocks block (Body.Other change) = 0

-- the most device calls of a packet: two that land what is in doubt, one for each block of a voice file, and six that put the change
abbrev pub packet_calls : ℕ → Packet → ℕ
packet_calls block packet = body_blocks block packet.body + 8

-- as a record: with its gate, its length and its number
abbrev pub frame_of : ℕ → Body → ℕ
frame_of block body = 13 + change_size block body

-- the bytes of the numbered base of what there is then
abbrev pub size_then : Rebuilt → Body → ℕ
size_then b body = numbered_by_numbers (numbers_in (durable_by plain_sample (kept_then b body)))

-- at the last epoch the change has to fit the rest of the area, and else the base with it an area
abbrev pub need_of : JournalValue → ℕ → ℕ → ℕ
need_of journal size frame = cond (journal.seat.epoch == 2 ^ 48) frame size

abbrev pub left_of : JournalValue → ℕ
left_of journal = cond (journal.seat.epoch == 2 ^ 48) (journal.shape.area - 1 - journal.seat.gate) (journal.shape.area - 17)

abbrev pub if_full : ℕ → ℕ → Option Taken
if_full need left = cond (nat_lt left need) (Some (JournalFull need left)) None

-- a voice file needs free blocks
abbrev pub if_room : ℕ → ℕ → Body → Option Taken → Option Taken
if_room block free (Body.Voice id samples) later = cond (nat_lt free (blocks_for block (length samples))) (Some (NoRoom (blocks_for block (length samples)) free)) later
if_room block free (Body.Other change) later = later

-- the change may not follow; there is no room for its blocks, or none in the journal
abbrev pub body_judged : Rebuilt → MirrorState → Body → Option Taken
body_judged b s body =
    cond (is_strange b body) (Some Strange)
    (if_room s.journal.shape.block (open_in s.parts.blocks.holders) body (if_full (need_of s.journal (size_then b body) (frame_of s.journal.shape.block body)) (left_of s.journal)))

-- the number was taken before; it is above the next one; or what is found of the body
abbrev pub judged : Rebuilt → MirrorState → Packet → Option Taken
judged b s packet = cond (nat_le packet.number s.position) (Some Again) (cond (nat_lt (s.position + 1) packet.number) (Some (Early s.position)) (body_judged b s packet.body))

-- what is found is the answer; else it is how the device went
abbrev pub AnswersBy : Option Taken → Taken → Type 0
AnswersBy (Some found) answer = answer ≡ found
AnswersBy None answer = (answer ≡ Done) ⊎ ((answer ≡ DiskFault) ⊎ (answer ≡ InDoubt))

-- the state behind an answer
abbrev pub Becomes : MirrorState → Taken → MirrorState → Type 0
Becomes s Done t = (t.position ≡ s.position + 1) × (t.pending ≡ None)
Becomes s InDoubt t = (t.position ≡ s.position) × (t.parts ≡ s.parts) × IsSome t.pending
Becomes s DiskFault t = (t.position ≡ s.position) × (t.parts ≡ s.parts) × (t.pending ≡ None)
Becomes s Again t = t ≡ s
Becomes s (Early position) t = t ≡ s
Becomes s Strange t = t ≡ s
Becomes s (NoRoom need free) t = t ≡ s
Becomes s (JournalFull need left) t = t ≡ s

-- nothing was in doubt, or it has landed: the answer is what is found, by what the tables show, or how the device went
pub record Answers (s : MirrorState) (packet : Packet) (answer : Taken) (t : MirrorState) : Type 0 where
  pub found : (b : Rebuilt) → Rebuilds s.parts b → b.shape ≡ s.journal.shape → AnswersBy (judged b s packet) answer
  pub becomes : Becomes s answer t

-- the same of a body under the next number
pub record AnswersBody (s : MirrorState) (body : Body) (answer : Taken) (t : MirrorState) : Type 0 where
  pub found : (b : Rebuilt) → Rebuilds s.parts b → b.shape ≡ s.journal.shape → AnswersBy (body_judged b s body) answer
  pub becomes : Becomes s answer t

-- a landing failed, and nothing else was done
pub record IsStuck (s : MirrorState) (answer : Taken) (t : MirrorState) : Type 0 where
  pub waits : IsSome s.pending
  pub fault : answer ≡ DiskFault
  pub same : t ≡ s

-- the answer to a packet, and the state behind it
abbrev pub Judges : MirrorState → Packet → Taken → MirrorState → Type 0
Judges s packet answer t = IsStuck s answer t ⊎ Answers (settled s) packet answer t

-- ---- what the disk stands for

-- what is kept is what some bytes fill, and from them the body brings the effect
pub record Brings (kept : Durable Tagged) (body : Body) (effect : Effect Tagged) : Type 0 where
  pub image : List ℕ
  pub rebuilt : Rebuilt
  pub form : rebuilt.form ≡ 2
  pub fills : recovered image rebuilt ≡ kept
  pub brought : IsBrought image rebuilt body effect

-- a body of the next number brings the effect
pub record IsNext (kept : Durable Tagged) (position number : ℕ) (body : Body) (effect : Effect Tagged) : Type 0 where
  pub next : number ≡ position + 1
  pub brings : Brings kept body effect

-- a body's effect is taken, or in doubt; behind any other answer there is none more
abbrev pub Takes : Durable Tagged → ℕ → ℕ → List Took → Told → MirrorState → ℕ → Body → Taken → Type 0
Takes first from t0 taken disk t number body Done =
    (effect : Effect Tagged) × IsNext (kept_after first (effects_of taken)) (from + length taken) number body effect × Keeps first from t0 (taken ++ taken_at effect disk.calls ∷ []) None disk t
Takes first from t0 taken disk t number body InDoubt =
    (effect : Effect Tagged) × IsNext (kept_after first (effects_of taken)) (from + length taken) number body effect × Keeps first from t0 taken (Some effect) disk t
Takes first from t0 taken disk t number body Again = Keeps first from t0 taken None disk t
Takes first from t0 taken disk t number body (Early position) = Keeps first from t0 taken None disk t
Takes first from t0 taken disk t number body Strange = Keeps first from t0 taken None disk t
Takes first from t0 taken disk t number body (NoRoom need free) = Keeps first from t0 taken None disk t
Takes first from t0 taken disk t number body (JournalFull need left) = Keeps first from t0 taken None disk t
Takes first from t0 taken disk t number body DiskFault = Keeps first from t0 taken None disk t

-- the same where something may have been in doubt: it landed first, at some moment, or that failed
pub record Landed (first : Durable Tagged) (from t0 : ℕ) (taken : List Took) (doubt : Option (Effect Tagged)) (disk : Told) (t : MirrorState) (packet : Packet) (answer : Taken) : Type 0 where
  pub ack : ℕ
  pub takes : Takes first from t0 (with_landed doubt ack taken) disk t packet.number packet.body answer

abbrev pub TakesAs : Durable Tagged → ℕ → ℕ → List Took → Option (Effect Tagged) → Told → MirrorState → Packet → Taken → Type 0
TakesAs first from t0 taken doubt disk t packet answer = ((answer ≡ DiskFault) × Keeps first from t0 taken doubt disk t) ⊎ Landed first from t0 taken doubt disk t packet answer

-- after want of memory nothing of the packet is done
pub record HasLanded (first : Durable Tagged) (from t0 : ℕ) (taken : List Took) (doubt : Option (Effect Tagged)) (disk : Told) (t : MirrorState) : Type 0 where
  pub ack : ℕ
  pub keeps : Keeps first from t0 (with_landed doubt ack taken) None disk t

abbrev pub TakesOr : Durable Tagged → ℕ → ℕ → List Took → Option (Effect Tagged) → Told → MirrorState → Packet → Result Taken NoMemory → Type 0
TakesOr first from t0 taken doubt disk t packet (Ok answer) = TakesAs first from t0 taken doubt disk t packet answer
TakesOr first from t0 taken doubt disk t packet (Err e) = HasLanded first from t0 taken doubt disk t
