-- Statuses, and where they are decided.
--     code_of status      the exit status of the program
--     reason_of cause      the cause of a bad line of a script, as the program tells it
--     Stops      why a run ended before it touched the disk
--     Opens      why a run ended as it opened the disk
--     Prints      the statuses that printing gives
--     Finishes shelf sink status      the statuses that setting files and printing give
--     Performs shelf sink old new status      the statuses of a run whose script and files are there
--     IsEarly, IsSilent      the statuses before the disk is touched;  those before the first call
use Rattle.std.specs.Prelude.{ℕ, List, Option, IfSome, codes}
use Rattle.voice_outside.specs.Counters.{HasRisen}
use Rattle.voice_outside.specs.Disk.{Told}
use Rattle.voice_outside.specs.Files.{Files}
use Rattle.voice_outside.specs.declared.errors.OutsideError.{OutsideError}
use Rattle.voice_outside.specs.declared.errors.OutsideError.TheVariants as outer
use Rattle.voice_journal.specs.declared.errors.OpenError.{OpenError}
use Rattle.voice_journal.specs.declared.errors.OpenError.TheVariants as opening
use Rattle.script_lang.specs.declared.scripts.Cause.{Cause}
use Rattle.script_lang.specs.declared.scripts.Cause.TheVariants as causes
use Rattle.script_lang.specs.declared.scripts.ScriptError.{ScriptError}
use Rattle.script_lang.specs.declared.scripts.ScriptError.TheVariants as script
use Rattle.voice_main.specs.declared.status.Status.{Status}
use Rattle.voice_main.specs.declared.status.Status.TheVariants.{Done, Usage, BadShape, BadScript, NoFile, ShelfFault, SinkFault, BadDisk, DiskFault, NoMemory, BadAu, BadIndex, BadNote, TooManyKeys, BadPackets, JournalFull, InDoubt, EpochSpent}
use Rattle.voice_notes.specs.declared.errors.NoteError.{NoteError}
use Rattle.voice_notes.specs.declared.errors.NoteError.TheVariants as notes
use Rattle.mirror_packets.specs.declared.errors.PacketError.{PacketError}
use Rattle.mirror_packets.specs.declared.errors.PacketError.TheVariants as packets
use Rattle.mirror_commands.specs.declared.promoting.Refusal.{Refusal}
use Rattle.mirror_commands.specs.declared.promoting.Refusal.TheVariants as promotion
use Rattle.voice_main.specs.declared.load.LoadError.{LoadError}
use Rattle.voice_main.specs.declared.load.LoadError.TheVariants as load
use Rattle.voice_main.specs.RunPromise.{IsBadScript, IsNoFile, IsDamaged}

-- the exit status of the program
abbrev pub code_of : Status → ℕ
code_of Done = 0
code_of Usage = 2
code_of BadShape = 2
code_of (BadScript n cause) = 3
code_of (NoFile name) = 4
code_of ShelfFault = 5
code_of SinkFault = 6
code_of (BadDisk place) = 7
code_of DiskFault = 8
code_of NoMemory = 9
code_of (BadAu name cause) = 10
code_of (BadIndex n) = 11
code_of (BadNote name place) = 12
code_of (TooManyKeys count) = 13
code_of (BadPackets place) = 14
code_of (JournalFull need left) = 15
code_of InDoubt = 16
code_of EpochSpent = 17

-- the cause of a bad line of a script, as the program tells it
abbrev pub reason_of : Cause → List ℕ
reason_of causes.Lines = codes "more than 65535 lines"
reason_of causes.Bytes = codes "a byte other than printed ASCII, space and tab"
reason_of causes.Caller = codes "no caller from 1 to 16 at its beginning"
reason_of causes.Verb = codes "no known verb where one belongs"
reason_of causes.Arguments = codes "wrong words behind the verb"
reason_of causes.Bind = codes "what is bound is no variable, or the verb binds nothing"
reason_of causes.LaneTaken = codes "another caller serves that lane"

-- why a run ended before it touched the disk
abbrev pub Stops : List ℕ → Option Files → Type 0 → Status → Type 0
Stops name told shelf (BadScript n cause) = IfSome told (λ files. IsBadScript files name n cause)
Stops name told shelf (NoFile missing) = IfSome told (λ files. IsNoFile files name missing)
Stops name told shelf ShelfFault = shelf
Stops name told shelf NoMemory = Unit {0}
Stops name told shelf _ = ⊥

-- why a run ended as it opened the disk
abbrev pub Opens : Told → Told → Status → Type 0
Opens old new (BadDisk place) = IsDamaged old place
Opens old new DiskFault = HasRisen old.faults new.faults
Opens old new NoMemory = Unit {0}
Opens old new _ = ⊥

-- the three statuses that printing gives
abbrev pub Prints : Type 0 → Status → Type 0
Prints sink Done = Unit {0}
Prints sink SinkFault = sink
Prints sink NoMemory = Unit {0}
Prints sink _ = ⊥

-- the statuses that setting the files of a finished script and printing give
abbrev pub Finishes : Type 0 → Type 0 → Status → Type 0
Finishes shelf sink ShelfFault = shelf
Finishes shelf sink status = Prints sink status

-- the statuses of a run whose script and files are there; the shelf may fault after the calls alone
abbrev pub Performs : Type 0 → Type 0 → Told → Told → Status → Type 0
Performs shelf sink old new Done = Unit {0}
Performs shelf sink old new SinkFault = sink
Performs shelf sink old new ShelfFault = shelf
Performs shelf sink old new status = Opens old new status

-- the statuses that are decided before the disk is touched
abbrev pub IsEarly : Status → Type 0
IsEarly Usage = Unit {0}
IsEarly BadShape = Unit {0}
IsEarly (BadScript n cause) = Unit {0}
IsEarly (NoFile name) = Unit {0}
IsEarly (BadAu name cause) = Unit {0}
IsEarly (BadIndex n) = Unit {0}
IsEarly (BadNote name place) = Unit {0}
IsEarly (TooManyKeys count) = Unit {0}
IsEarly (BadPackets place) = Unit {0}
IsEarly _ = ⊥

-- the statuses that are decided before the first call
abbrev pub IsSilent : Status → Type 0
IsSilent (BadDisk place) = Unit {0}
IsSilent DiskFault = Unit {0}
IsSilent status = IsEarly status

abbrev pub load_status_of : LoadError → Status
load_status_of (load.NoFile name) = NoFile name
load_status_of load.ShelfFault = ShelfFault
load_status_of load.NoMemory = NoMemory

-- the status of a note of that name that is refused
abbrev pub note_status_of : List ℕ → NoteError → Status
note_status_of name (notes.BadAnchor place) = BadNote name place
note_status_of name notes.NoMemory = NoMemory

abbrev pub shelf_status_of : OutsideError → Status
shelf_status_of outer.Failed = ShelfFault
shelf_status_of outer.NoMemory = NoMemory

abbrev pub script_status_of : ScriptError → Status
script_status_of (script.BadLine n cause) = BadScript n cause
script_status_of script.NoMemory = NoMemory

abbrev pub open_status_of : OpenError → Status
open_status_of (opening.BadDisk place) = BadDisk place
open_status_of opening.DiskFault = DiskFault
open_status_of opening.NoMemory = NoMemory

abbrev pub packets_status_of : PacketError → Status
packets_status_of (packets.BadPackets place) = BadPackets place
packets_status_of packets.NoMemory = NoMemory

abbrev pub refusal_status_of : Refusal → Status
refusal_status_of (promotion.BadDisk place) = BadDisk place
refusal_status_of promotion.EpochSpent = EpochSpent
refusal_status_of (promotion.JournalFull need left) = JournalFull need left
refusal_status_of promotion.DiskFault = DiskFault
refusal_status_of promotion.InDoubt = InDoubt
refusal_status_of promotion.NoMemory = NoMemory
