-- What `packets` writes behind the calls of a script.
--     next_line unsure n      the line that tells the number of the next packet, `unknown` where a change is in doubt
--     Spells, TellsNext      what a sender spells of a history that it follows;  the line that it tells then
--     IsSent, IsNext      on an honest disk the packets of the history's changes;  the line behind its text
--     MadeSpelled      the history of the whole script, the packets of its changes, and its text with the line behind it
--     MadePackets, MadePacketsInto      the files of all servings set, and behind them that of the packets;  or it couldn't be set, and what it holds is open
--     PacketsStand history queues file bytes files after status      what stands of the files, once they are set and the text is printed
--     SendsAll, SendsInto      the history of the whole script, and its files set so
--     SentLeaves      what stands of the files after the calls, whatever the status is
--     Prints packets      the text of a finished run, and its last line
use Rattle.std.specs.Prelude.{ℕ, ◌+◌, ◌≡◌, ◌⊎◌, List, [], ◌∷◌, ◌++◌, Bool, true, false, Option, Some, IfSome, IsTrue, codes, decimal, length, is_some, take}
use Rattle.std.specs.FinMap.{insert}
use Rattle.voice_outside.specs.Disk.{Told}
use Rattle.voice_outside.specs.Files.{Files, SameElsewhere}
use Rattle.voice_model.specs.declared.calls.Entry.{Entry}
use Rattle.voice_model.specs.State.{State}
use Rattle.voice_model.specs.Step.{Legal, after}
use Rattle.voice_model.specs.Text.{text_of}
use Rattle.mirror_packets.specs.Packets.{packets_spelling}
use Rattle.mirror_sender.specs.declared.sender.Sender.{Sender}
use Rattle.mirror_packets.specs.Effects.{packets_from}
use Rattle.mirror_sender.specs.Sent.{changes_of}
use Rattle.mirror_sender.specs.Abreast.{IsAbreast}
use Rattle.script_lang.specs.Shown.{Reading}
use Rattle.served_files.specs.Files.{Queues, files_set, SetInto}
use Rattle.voice_main.specs.declared.status.Status.{Status}
use Rattle.voice_main.specs.declared.status.Status.TheVariants.{Done, ShelfFault, SinkFault, NoMemory}
use Rattle.voice_main.specs.Ran.{Performed, MadeGiving, MadeSetting}
use Rattle.voice_main.specs.Played.{SetsFirst}

-- the line that tells the number of the next packet
abbrev pub next_line : Bool → ℕ → List ℕ
next_line true n = codes "next unknown" ++ 10 ∷ []
next_line false n = codes "next " ++ decimal n ++ 10 ∷ []

-- ---- of a sender

-- the packets of a legal history's changes, where the sender follows its first state
pub record Spells (tapes : List (List ℕ)) (sender : Sender) (history : List Entry) (bytes : List ℕ) : Type 0 where
  pub spelled : (s : State) → IsAbreast tapes sender s → Legal s tapes history → bytes ≡ packets_spelling (packets_from sender.next (changes_of s tapes history))

-- the line that it tells then: whether a change is in doubt, and the number behind all packets
pub record TellsNext (tapes : List (List ℕ)) (sender : Sender) (history : List Entry) (line : List ℕ) : Type 0 where
  pub unsure : Bool
  pub next : ℕ
  pub is : line ≡ next_line unsure next
  pub told : (s : State) → IsAbreast tapes sender s → Legal s tapes history → (unsure ≡ is_some (after s tapes history).doubt) × (next ≡ sender.next + length (changes_of s tapes history))

-- ---- of a history over a disk

-- on an honest disk the packets of the history's changes, in order, numbered from there on
abbrev pub IsSent : ℕ → List (List ℕ) → List Entry → List ℕ → Bool → State → Type 0
IsSent number tapes history bytes honest first = IsTrue honest → bytes ≡ packets_spelling (packets_from number (changes_of first tapes history))

-- on an honest disk the line tells the number behind them, or that a change is in doubt
pub record IsNext (number : ℕ) (tapes : List (List ℕ)) (history : List Entry) (line : List ℕ) (honest : Bool) (first : State) : Type 0 where
  pub unsure : Bool
  pub next : ℕ
  pub is : line ≡ next_line unsure next
  pub told : IsTrue honest → (unsure ≡ is_some (after first tapes history).doubt) × (next ≡ number + length (changes_of first tapes history))

-- the history of the whole script, the packets of its changes, and its text with the line behind it
pub record MadeSpelled (number : ℕ) (tapes : List (List ℕ)) (script : Reading) (old new : Told) (history : List Entry) (queues : Queues) (packets text : List ℕ) (honest : Bool) (first : State) : Type 0 where
  pub giving : MadeGiving false tapes script old new history queues honest first
  pub sent : IsSent number tapes history packets honest first
  pub line : List ℕ
  pub text_is : text ≡ text_of history ++ line
  pub next : IsNext number tapes history line honest first

-- the files of all servings were set, and behind them the file of the packets
pub record MadePackets (file : List ℕ) (number : ℕ) (tapes : List (List ℕ)) (script : Reading) (old new : Told) (history : List Entry) (files : Files) (after : Option Files) (honest : Bool) (first : State) : Type 0 where
  pub before : Files
  pub bytes : List ℕ
  pub served : MadeSetting false tapes script old new history files (Some before) honest first
  pub sent : IsSent number tapes history bytes honest first
  pub set : after ≡ Some (insert before file bytes)

-- or the latter couldn't be set, and what it holds is open
pub record MadePacketsInto (file : List ℕ) (tapes : List (List ℕ)) (script : Reading) (old new : Told) (history : List Entry) (files : Files) (after : Option Files) (honest : Bool) (first : State) : Type 0 where
  pub before : Files
  pub served : MadeSetting false tapes script old new history files (Some before) honest first
  pub elsewhere : IfSome after (SameElsewhere file before)

-- what stands of the files, once they are set and the text is printed
abbrev pub PacketsStand : List Entry → Queues → List ℕ → List ℕ → Files → Option Files → Status → Type 0
PacketsStand history queues file bytes files after Done = after ≡ Some (insert (files_set history queues files) file bytes)
PacketsStand history queues file bytes files after SinkFault = after ≡ Some (insert (files_set history queues files) file bytes)
PacketsStand history queues file bytes files after ShelfFault = IfSome after (SetInto history queues files) ⊎ IfSome after (SameElsewhere file (files_set history queues files))
PacketsStand history queues file bytes files after NoMemory =
    (after ≡ Some (insert (files_set history queues files) file bytes)) ⊎ IfSome after (SetInto history queues files) ⊎ IfSome after (SameElsewhere file (files_set history queues files))
PacketsStand history queues file bytes files after _ = Unit {0}

-- ---- of a run whose calls were made

-- the history of the whole script, its files set, and that of the packets
abbrev pub SendsAll : List ℕ → ℕ → List (List ℕ) → Reading → Files → Option Files → Told → Told → List Entry → Type 0
SendsAll file number tapes script files after old new history = Performed tapes (λ honest first. MadePackets file number tapes script old new history files after honest first) old new history

-- the history of the whole script, its files set, and that of the packets perhaps
abbrev pub SendsInto : List ℕ → List (List ℕ) → Reading → Files → Option Files → Told → Told → List Entry → Type 0
SendsInto file tapes script files after old new history = Performed tapes (λ honest first. MadePacketsInto file tapes script old new history files after honest first) old new history

-- what stands of the files after the calls, whatever the status is: all are set where the run is done, or only its text couldn't be printed; the first of them where one couldn't be set; else none
abbrev pub SentLeaves : List ℕ → ℕ → List (List ℕ) → Reading → Files → Option Files → Told → Told → List Entry → Status → Type 0
SentLeaves file number tapes script files after old new history Done = SendsAll file number tapes script files after old new history
SentLeaves file number tapes script files after old new history SinkFault = SendsAll file number tapes script files after old new history
SentLeaves file number tapes script files after old new history ShelfFault = SetsFirst false tapes script files after old new history ⊎ SendsInto file tapes script files after old new history
SentLeaves file number tapes script files after old new history NoMemory =
    (after ≡ Some files) ⊎ SendsAll file number tapes script files after old new history ⊎ SetsFirst false tapes script files after old new history ⊎ SendsInto file tapes script files after old new history
SentLeaves file number tapes script files after old new history status = after ≡ Some files

-- a sink gained the text of the history, and behind it a line of which this holds
abbrev pub GainsText : Option (List ℕ) → Option (List ℕ) → List Entry → (List ℕ → Type 0) → Type 0
GainsText had now history told = IfSome had (λ before. (line : List ℕ) × (now ≡ Some (before ++ (text_of history ++ line))) × told line)

-- or the front of it
abbrev pub GainsFront : Option (List ℕ) → Option (List ℕ) → List Entry → Type 0
GainsFront had now history = IfSome had (λ before. (unsure : Bool) × (next : ℕ) × (n : ℕ) × (now ≡ Some (before ++ take n (text_of history ++ next_line unsure next))))
