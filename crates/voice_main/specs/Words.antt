-- The words of the command line.
--     Command      what the words may ask for
--     Says words command      the words ask for it
--     IsRefused words      they ask for nothing that the program knows
use Rattle.std.specs.Prelude.{ℕ, List, [], ◌∷◌, ◌≡◌, ◌⊎◌, ◌<◌, ◌≤◌, ◌^◌, Bool, true, false, codes, decimal, IsTrue}
use Rattle.script_lang.specs.Forms.{is_file}
use Rattle.voice_main.specs.declared.convert.Way.{Way}
use Rattle.voice_main.specs.Conversions.{way_word}
use Rattle.voice_main.specs.declared.options.Given.{Given}
use Rattle.voice_main.specs.declared.options.FormatNumbers.{FormatNumbers}
use Rattle.voice_main.specs.Options.{none_given, Gives, numbers_of}

-- what the words may ask for: a run of a script in its order, or of each caller's lines on a thread of its own; a disk formatted; a file made of another; a census of the keys that notes name; an audit of the disk; a run of the script that a seed generates, of so many lines; a run of a script whose changes are written as packets to a file, numbered from there on; a mirror that takes the packets of a file; a mirror's disk made a voice disk
pub data Command : Type 0 where
  Run : List ℕ → Command
  RunThreads : List ℕ → Command
  Format : FormatNumbers → Command
  Convert : Way → List ℕ → List ℕ → Command
  Notes : List ℕ → Command
  Audit : Command
  Make : ℕ → ℕ → Command
  Packets : List ℕ → List ℕ → ℕ → Command
  Mirror : List ℕ → Command
  Promote : Command

-- the run of a script, on threads or not
abbrev pub run_command : Bool → List ℕ → Command
run_command false name = Command.Run name
run_command true name = Command.RunThreads name

-- the words are `run NAME`
pub record IsSerial (words : List (List ℕ)) (name : List ℕ) : Type 0 where
  pub form : words ≡ codes "run" ∷ name ∷ []
  pub file : IsTrue (is_file name)

-- they are `run NAME --threads` or `run --threads NAME`
pub record IsThreaded (words : List (List ℕ)) (name : List ℕ) : Type 0 where
  pub form : (words ≡ codes "run" ∷ name ∷ codes "--threads" ∷ []) ⊎ (words ≡ codes "run" ∷ codes "--threads" ∷ name ∷ [])
  pub file : IsTrue (is_file name)

-- they are `format` and options with their values, in any order, each at most once
pub record IsFormat (words : List (List ℕ)) (numbers : FormatNumbers) : Type 0 where
  pub options : List (List ℕ)
  pub given : Given
  pub form : words ≡ codes "format" ∷ options
  pub gives : Gives none_given options given
  pub numbers_are : numbers ≡ numbers_of given

-- they are `import AU FILE` or `export FILE AU`
pub record IsConversion (way : Way) (words : List (List ℕ)) (source target : List ℕ) : Type 0 where
  pub form : words ≡ way_word way ∷ source ∷ target ∷ []
  pub source_file : IsTrue (is_file source)
  pub target_file : IsTrue (is_file target)

-- they are this one and the name of a file
pub record IsNamed (word : List ℕ) (words : List (List ℕ)) (name : List ℕ) : Type 0 where
  pub form : words ≡ word ∷ name ∷ []
  pub file : IsTrue (is_file name)

-- they are `notes INDEX`
abbrev pub IsNotes : List (List ℕ) → List ℕ → Type 0
IsNotes words index = IsNamed (codes "notes") words index

-- they are `mirror FILE`
abbrev pub IsMirror : List (List ℕ) → List ℕ → Type 0
IsMirror words file = IsNamed (codes "mirror") words file

-- they are `audit`
abbrev pub IsAudit : List (List ℕ) → Type 0
IsAudit words = words ≡ codes "audit" ∷ []

-- they are `promote`
abbrev pub IsPromotion : List (List ℕ) → Type 0
IsPromotion words = words ≡ codes "promote" ∷ []

-- they are `make SEED LINES`, numbers in decimal digits, the second one from 1 to 65,535
pub record IsMake (words : List (List ℕ)) (seed lines : ℕ) : Type 0 where
  pub form : words ≡ codes "make" ∷ decimal seed ∷ decimal lines ∷ []
  pub seed_most : seed < 2 ^ 64
  pub least : 1 ≤ lines
  pub most : lines ≤ 65535

-- they are `packets SCRIPT FILE FIRST`, the number in decimal digits, from 1 to 2^47
pub record IsPackets (words : List (List ℕ)) (script file : List ℕ) (first : ℕ) : Type 0 where
  pub form : words ≡ codes "packets" ∷ script ∷ file ∷ decimal first ∷ []
  pub script_file : IsTrue (is_file script)
  pub packets_file : IsTrue (is_file file)
  pub least : 1 ≤ first
  pub most : first ≤ 2 ^ 47

abbrev pub Says : List (List ℕ) → Command → Type 0
Says words (Command.Run name) = IsSerial words name
Says words (Command.RunThreads name) = IsThreaded words name
Says words (Command.Format numbers) = IsFormat words numbers
Says words (Command.Convert way source target) = IsConversion way words source target
Says words (Command.Notes index) = IsNotes words index
Says words Command.Audit = IsAudit words
Says words (Command.Make seed lines) = IsMake words seed lines
Says words (Command.Packets script file first) = IsPackets words script file first
Says words (Command.Mirror file) = IsMirror words file
Says words Command.Promote = IsPromotion words

-- the words ask for nothing that the program knows
abbrev pub IsRefused : List (List ℕ) → Type 0
IsRefused words = (command : Command) → Says words command → ⊥

-- they run no script
abbrev pub IsNoRun : List (List ℕ) → Type 0
IsNoRun words = (threads : Bool) (name : List ℕ) → Says words (run_command threads name) → ⊥

-- they are no `format`
abbrev pub IsNoFormat : List (List ℕ) → Type 0
IsNoFormat words = (numbers : FormatNumbers) → IsFormat words numbers → ⊥

-- they ask for no conversion
abbrev pub IsNoConversion : List (List ℕ) → Type 0
IsNoConversion words = (way : Way) (source target : List ℕ) → IsConversion way words source target → ⊥

-- they are no such word with the name of a file
abbrev pub IsNotNamed : List ℕ → List (List ℕ) → Type 0
IsNotNamed word words = (name : List ℕ) → IsNamed word words name → ⊥

-- they ask for no census of notes
abbrev pub IsNoNotes : List (List ℕ) → Type 0
IsNoNotes words = IsNotNamed (codes "notes") words

-- they feed no mirror
abbrev pub IsNoMirror : List (List ℕ) → Type 0
IsNoMirror words = IsNotNamed (codes "mirror") words

-- they ask for no audit
abbrev pub IsNoAudit : List (List ℕ) → Type 0
IsNoAudit words = IsAudit words → ⊥

-- they promote no mirror
abbrev pub IsNoPromotion : List (List ℕ) → Type 0
IsNoPromotion words = IsPromotion words → ⊥

-- they ask for no generated script
abbrev pub IsNoMake : List (List ℕ) → Type 0
IsNoMake words = (seed lines : ℕ) → IsMake words seed lines → ⊥

-- they ask for no packets
abbrev pub IsNoPackets : List (List ℕ) → Type 0
IsNoPackets words = (script file : List ℕ) (first : ℕ) → IsPackets words script file first → ⊥
