-- How a change is made ready, and put.
--     IsWay journal size frame way      a change of this frame is appended, or goes into a base of this size, or has no room
--     IsHow journal number x change how      what is written is the change, or the base of x that has it, and has room
--     IsPlanned, IsReadied      what was planned for tables that show x, or tried on tables that show b
--     put_on how r      a journal with what is put
--     IsOfDevice answer      the device failed
--     Commits first from t0 taken disk t effect answer      what the disk stands for behind a change that was put
use Rattle.std.specs.Prelude.{◌≡◌, ◌⊎◌, ℕ, ◌+◌, ◌^◌, ◌<◌, ◌≤◌, true, false, List, [], ◌∷◌, ◌++◌, length, None, Some, is_some}
use Rattle.voice_outside.specs.Disk.{Told}
use Rattle.voice_model.specs.Samples.{Tagged}
use Rattle.voice_model.specs.State.{Durable, Effect}
use Rattle.voice_model.specs.Spelling.{spelling, keeps_grammar}
use Rattle.voice_model.specs.Replay.{Rebuilt, brings, is_legal, acted, durable_by}
use Rattle.voice_model.specs.declared.changes.Change.{Change}
use Rattle.disk_areas.specs.Areas.{Journal}
use Rattle.voice_journal.specs.Places.{JournalValue}
use Rattle.voice_journal.specs.Readings.{framed_size, with_payload, switched}
use Rattle.checkpoint.specs.Size.{numbers_in}
use Rattle.recovery.specs.Shown.{Rebuilds, plain_sample}
use Rattle.mirror_readings.specs.Laws.{numbered_payload}
use Rattle.mirror_laws.specs.Standing.{Took, taken_at}
use Rattle.mirror_tables.specs.Numbered.{numbered_base_of, numbered_by_numbers}
use Rattle.voice_mirror.specs.declared.answers.Taken.{Taken}
use Rattle.voice_mirror.specs.declared.answers.Taken.TheVariants.{Done, Again, Early, Strange, NoRoom, JournalFull, DiskFault, InDoubt}
use Rattle.voice_mirror.specs.declared.ready.Way.{Way}
use Rattle.voice_mirror.specs.declared.ready.Way.TheVariants as ways
use Rattle.voice_mirror.specs.declared.ready.How.{How}
use Rattle.voice_mirror.specs.declared.ready.How.TheVariants as hows
use Rattle.voice_mirror.specs.declared.ready.Planned.{Planned}
use Rattle.voice_mirror.specs.declared.ready.Planned.TheVariants as plans
use Rattle.voice_mirror.specs.declared.ready.Ready.{Ready}
use Rattle.voice_mirror.specs.declared.ready.Readied.{Readied}
use Rattle.voice_mirror.specs.declared.ready.Readied.TheVariants as readied
use Rattle.voice_mirror.specs.Shown.{MirrorState, Keeps}
use Rattle.voice_mirror.specs.Taking.{need_of, left_of}

-- need and left are the bytes that are needed and left, and are not enough
pub record IsOver (journal : JournalValue) (size frame need left : ℕ) : Type 0 where
  pub need_is : need ≡ need_of journal size frame
  pub left_is : left ≡ left_of journal
  pub more : left < need

-- a change of this frame is appended where the rest of the area has room for it, and else goes into a base of this size, which has room in an area
abbrev pub IsWay : JournalValue → ℕ → ℕ → Way → Type 0
IsWay journal size frame ways.Append = (need_of journal size frame ≤ left_of journal) × (frame + journal.seat.gate < journal.shape.area)
IsWay journal size frame ways.Switch = (need_of journal size frame ≤ left_of journal) × (journal.seat.epoch < 2 ^ 48) × (size + 17 ≤ journal.shape.area)
IsWay journal size frame (ways.Full need left) = IsOver journal size frame need left

-- the numbered change, with room behind the last record; or the numbered base of x, with room in an area
abbrev pub IsHow : JournalValue → ℕ → Rebuilt → Change → How → Type 0
IsHow journal number x change (hows.Append payload) = (payload.items ≡ numbered_payload number (spelling change)) × (journal.seat.gate + 5 + length payload.items < journal.shape.area)
IsHow journal number x change (hows.Switch base) = (base ≡ numbered_base_of number x) × (framed_size base + 17 ≤ journal.shape.area) × (journal.seat.epoch < 2 ^ 48)

-- the bytes of the numbered base of x
abbrev pub size_of : Rebuilt → ℕ
size_of x = numbered_by_numbers (numbers_in (durable_by plain_sample x.kept))

-- a numbered change as a record
abbrev pub frame_size : Change → ℕ
frame_size change = 13 + length (spelling change)

-- how a change goes into the journal, where x is what there is with it; or why it does not
abbrev pub IsPlanned : JournalValue → ℕ → Rebuilt → Change → Planned → Type 0
IsPlanned journal number x change (plans.Goes how) = IsHow journal number x change how × (need_of journal (size_of x) (frame_size change) ≤ left_of journal)
IsPlanned journal number x change (plans.Full need left) = IsOver journal (size_of x) (frame_size change) need left

-- a change that was tried on tables that show b: it is legal, the tables have it, and it goes into the journal
pub record IsReady (journal : JournalValue) (number : ℕ) (change : Change) (b : Rebuilt) (ready : Ready) : Type 0 where
  pub same : ready.change ≡ change
  pub legal : is_legal b change ≡ true
  pub tables : Rebuilds ready.tables (acted b change)
  pub how : IsHow journal number (acted b change) change ready.how
  pub room : need_of journal (size_of (acted b change)) (frame_size change) ≤ left_of journal

abbrev pub IsReadied : JournalValue → ℕ → Change → Rebuilt → Readied → Type 0
IsReadied journal number change b (readied.Goes ready) = IsReady journal number change b ready
IsReadied journal number change b readied.Strange = is_legal b change ≡ false
IsReadied journal number change b (readied.Full need left) = (is_legal b change ≡ true) × IsOver journal (size_of (acted b change)) (frame_size change) need left

-- whatever the parts show
abbrev pub EachReadied : MirrorState → ℕ → Change → Readied → Type 0
EachReadied s number change r = (b : Rebuilt) → Rebuilds s.parts b → b.shape ≡ s.journal.shape → IsReadied s.journal number change b r

-- what may be committed
pub record MayCommit (s : MirrorState) (number : ℕ) (ready : Ready) : Type 0 where
  pub grammar : keeps_grammar ready.change ≡ true
  pub kind : is_some (brings ready.change) ≡ true
  pub sure : s.pending ≡ None
  pub next : number ≡ s.position + 1
  pub low : s.position < 2 ^ 48
  pub each : (b : Rebuilt) → Rebuilds s.parts b → b.shape ≡ s.journal.shape → IsReady s.journal number ready.change b ready

-- a journal with what is put
abbrev pub put_on : How → Journal → Journal
put_on (hows.Append payload) r = with_payload r payload.items
put_on (hows.Switch base) r = switched r base

-- the device failed
abbrev pub IsOfDevice : Taken → Type 0
IsOfDevice answer = (answer ≡ DiskFault) ⊎ (answer ≡ InDoubt)

-- how a change that was put went
abbrev pub IsPut : Taken → Type 0
IsPut answer = (answer ≡ Done) ⊎ IsOfDevice answer

-- the effect is taken, or in doubt, or not done
abbrev pub Commits : Durable Tagged → ℕ → ℕ → List Took → Told → MirrorState → Effect Tagged → Taken → Type 0
Commits first from t0 taken disk t effect Done = Keeps first from t0 (taken ++ taken_at effect disk.calls ∷ []) None disk t
Commits first from t0 taken disk t effect InDoubt = Keeps first from t0 taken (Some effect) disk t
Commits first from t0 taken disk t effect DiskFault = Keeps first from t0 taken None disk t
Commits first from t0 taken disk t effect Again = Keeps first from t0 taken None disk t
Commits first from t0 taken disk t effect (Early position) = Keeps first from t0 taken None disk t
Commits first from t0 taken disk t effect Strange = Keeps first from t0 taken None disk t
Commits first from t0 taken disk t effect (NoRoom need free) = Keeps first from t0 taken None disk t
Commits first from t0 taken disk t effect (JournalFull need left) = Keeps first from t0 taken None disk t
