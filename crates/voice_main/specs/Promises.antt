-- What the words answer and leave.
--     Promises command      what a command answers and leaves
--     Comes words old new status history      what the words answer and leave
use Rattle.std.specs.Prelude.{ℕ, List, ◌≡◌, ◌⊎◌, true, false}
use Rattle.voice_model.specs.declared.calls.Entry.{Entry}
use Rattle.voice_main.specs.declared.status.Status.{Status}
use Rattle.voice_main.specs.declared.status.Status.TheVariants.{Usage}
use Rattle.voice_main.specs.Words.{Command, Says, IsRefused}
use Rattle.voice_main.specs.Outside.{Outside}
use Rattle.voice_main.specs.RunPromise.{RunPromise}
use Rattle.voice_main.specs.FormatPromise.{FormatPromise}
use Rattle.voice_main.specs.ConversionPromise.{ConversionPromise}
use Rattle.voice_main.specs.NotesPromise.{NotesPromise}
use Rattle.voice_main.specs.AuditPromise.{AuditPromise}
use Rattle.voice_main.specs.MakePromise.{MakePromise}
use Rattle.voice_main.specs.PacketsPromise.{PacketsPromise}
use Rattle.voice_main.specs.MirrorPromise.{MirrorPromise}
use Rattle.voice_main.specs.PromotionPromise.{PromotionPromise}

-- the promise of each command
abbrev pub Promises : Command → Outside → Outside → Status → List Entry → Type 0
Promises (Command.Run name) = RunPromise false name
Promises (Command.RunThreads name) = RunPromise true name
Promises (Command.Format numbers) = FormatPromise numbers
Promises (Command.Convert way source target) = ConversionPromise way source target
Promises (Command.Notes index) = NotesPromise index
Promises Command.Audit = AuditPromise
Promises (Command.Make seed lines) = MakePromise seed lines
Promises (Command.Packets script file first) = PacketsPromise script file first
Promises (Command.Mirror file) = MirrorPromise file
Promises Command.Promote = PromotionPromise

-- the words are refused, or they say a command, whose promise holds
abbrev pub Comes : List (List ℕ) → Outside → Outside → Status → List Entry → Type 0
Comes words old new status history = (IsRefused words × (status ≡ Usage)) ⊎ ((command : Command) × Says words command × Promises command old new status history)
