-- What becomes of the files of a run whose calls were made.
--     FilesStand history queues files after status      what stands of the files, once they are set and the history is printed
--     SetsAll, SetsFirst      the history of the whole script, and all its files set, or the first of them
--     Leaves      what stands of the files after the calls, whatever the status is
use Rattle.std.specs.Prelude.{ℕ, List, ◌≡◌, ◌⊎◌, Bool, Option, Some, IfSome}
use Rattle.voice_outside.specs.Disk.{Told}
use Rattle.voice_outside.specs.Files.{Files}
use Rattle.voice_model.specs.declared.calls.Entry.{Entry}
use Rattle.script_lang.specs.Shown.{Reading}
use Rattle.served_files.specs.Files.{Queues, files_set, SetInto}
use Rattle.voice_main.specs.declared.status.Status.{Status}
use Rattle.voice_main.specs.declared.status.Status.TheVariants.{Done, ShelfFault, SinkFault, NoMemory}
use Rattle.voice_main.specs.Ran.{Performed, MadeSetting, MadeSettingInto}

-- what stands of the files, once they are set and the history is printed
abbrev pub FilesStand : List Entry → Queues → Files → Option Files → Status → Type 0
FilesStand history queues files after Done = after ≡ Some (files_set history queues files)
FilesStand history queues files after SinkFault = after ≡ Some (files_set history queues files)
FilesStand history queues files after ShelfFault = IfSome after (SetInto history queues files)
FilesStand history queues files after NoMemory = (after ≡ Some (files_set history queues files)) ⊎ IfSome after (SetInto history queues files)
FilesStand history queues files after _ = Unit {0}

-- the history of the whole script, and its files set
abbrev pub SetsAll : Bool → List (List ℕ) → Reading → Files → Option Files → Told → Told → List Entry → Type 0
SetsAll threads tapes script files after old new history = Performed tapes (λ honest first. MadeSetting threads tapes script old new history files after honest first) old new history

-- the history of the whole script, and the first of its files set
abbrev pub SetsFirst : Bool → List (List ℕ) → Reading → Files → Option Files → Told → Told → List Entry → Type 0
SetsFirst threads tapes script files after old new history = Performed tapes (λ honest first. MadeSettingInto threads tapes script old new history files after honest first) old new history

-- what stands of the files after the calls, whatever the status is: all are set where the run is done, or only its text couldn't be printed; the first of them where one couldn't be set; else none
abbrev pub Leaves : Bool → List (List ℕ) → Reading → Files → Option Files → Told → Told → List Entry → Status → Type 0
Leaves threads tapes script files after old new history Done = SetsAll threads tapes script files after old new history
Leaves threads tapes script files after old new history SinkFault = SetsAll threads tapes script files after old new history
Leaves threads tapes script files after old new history ShelfFault = SetsFirst threads tapes script files after old new history
Leaves threads tapes script files after old new history NoMemory =
    (after ≡ Some files) ⊎ SetsAll threads tapes script files after old new history ⊎ SetsFirst threads tapes script files after old new history
Leaves threads tapes script files after old new history status = after ≡ Some files
