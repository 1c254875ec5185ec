-- What a run of a generated script came to, and the line that tells it.
--     byte_total bytes      the sum of bytes
--     numbers_line, counted_line history ropes samples blocks      the line, by its numbers;  of a history, with these
--     made_line history s      the line of a history and the state after it
--     IsMadeRun, IsCounted      the history of the whole script, in short turns;  and how much there is after it
--     Gains, GainsPart      a sink gained a text, or the front of it
--     ToldSo      the history of the whole script, and what the sink gained of its line
--     IsTold      what stands of the history and of the sink, by the status
use Rattle.std.specs.Prelude.{ℕ, ◌≡◌, ◌⊎◌, ◌+◌, ◌%◌, ◌^◌, List, [], ◌∷◌, ◌++◌, Bool, false, Option, Some, IfSome, codes, decimal, length, take}
use Rattle.voice_outside.specs.Disk.{Told}
use Rattle.voice_model.specs.declared.calls.Entry.{Entry}
use Rattle.voice_model.specs.State.{State}
use Rattle.voice_model.specs.Room.{used}
use Rattle.voice_model.specs.Step.{after}
use Rattle.voice_model.specs.Text.{text_of}
use Rattle.tallies.specs.Tallies.{samples_of}
use Rattle.voice_store.specs.Turns.{ShortTurns}
use Rattle.script_lang.specs.Shown.{Reading}
use Rattle.voice_main.specs.declared.status.Status.{Status}
use Rattle.voice_main.specs.declared.status.Status.TheVariants.{Done, SinkFault, NoMemory}
use Rattle.voice_main.specs.Ran.{Made, Performed}

-- the sum of bytes
abbrev pub byte_total : List ℕ → ℕ
byte_total [] = 0
byte_total (b ∷ bytes) = b + byte_total bytes

-- the words of the line: entries, live ropes and their samples;  used blocks, and a sum
abbrev pub ropes_words : ℕ → ℕ → ℕ → List ℕ
ropes_words entries ropes samples = codes "entries " ++ decimal entries ++ codes " ropes " ++ decimal ropes ++ codes " samples " ++ decimal samples

abbrev pub blocks_words : ℕ → ℕ → List ℕ
blocks_words blocks sum = codes " blocks " ++ decimal blocks ++ codes " sum " ++ decimal sum ++ 10 ∷ []

-- the line, by its numbers
abbrev pub numbers_line : ℕ → ℕ → ℕ → ℕ → ℕ → List ℕ
numbers_line entries ropes samples blocks sum = ropes_words entries ropes samples ++ blocks_words blocks sum

-- how many entries there are, and the sum of the history's text modulo 2^32
abbrev pub counted_line : List Entry → ℕ → ℕ → ℕ → List ℕ
counted_line history ropes samples blocks = numbers_line (length history) ropes samples blocks (byte_total (text_of history) % 2 ^ 32)

-- the line of a history and the state after it
abbrev pub made_line : List Entry → State → List ℕ
made_line history s = counted_line history (length s.kept.ropes) (samples_of s.kept.ropes) (used s)

-- the history of the whole script in the order of its lines, each entry within the device calls that it may take, of which opening made five at most
abbrev pub IsMadeRun : List (List ℕ) → Reading → Told → Told → List Entry → Bool → State → Type 0
IsMadeRun tapes script old new history honest first = Made false tapes script history honest first × ShortTurns first tapes (old.calls + 5) history new.calls

-- and how much there is after it
abbrev pub IsCounted : List (List ℕ) → Reading → Told → Told → List Entry → ℕ → ℕ → ℕ → Bool → State → Type 0
IsCounted tapes script old new history ropes samples blocks honest first =
    IsMadeRun tapes script old new history honest first
    × ((ropes ≡ length (after first tapes history).kept.ropes) × (samples ≡ samples_of (after first tapes history).kept.ropes) × (blocks ≡ used (after first tapes history)))

-- a sink gained a text
abbrev pub Gains : Option (List ℕ) → Option (List ℕ) → List ℕ → Type 0
Gains had now text = IfSome had (λ before. now ≡ Some (before ++ text))

-- or the front of one
abbrev pub GainsPart : Option (List ℕ) → Option (List ℕ) → List ℕ → Type 0
GainsPart had now text = IfSome had (λ before. (n : ℕ) × (now ≡ Some (before ++ take n text)))

-- the history of the whole script, and what the sink gained of its line
abbrev pub ToldSo : List (List ℕ) → Reading → (List ℕ → Type 0) → Told → Told → List Entry → Type 0
ToldSo tapes script gained old new history = Performed tapes (λ honest first. IsMadeRun tapes script old new history honest first × gained (made_line history (after first tapes history))) old new history

-- what stands of the history and of the sink: the whole line where the run is done, a front of it where it couldn't be printed, and nothing else
abbrev pub IsTold : List (List ℕ) → Reading → Option (List ℕ) → Option (List ℕ) → Told → Told → List Entry → Status → Type 0
IsTold tapes script had now old new history Done = ToldSo tapes script (Gains had now) old new history
IsTold tapes script had now old new history SinkFault = ToldSo tapes script (GainsPart had now) old new history
IsTold tapes script had now old new history NoMemory = (now ≡ had) ⊎ ToldSo tapes script (GainsPart had now) old new history
IsTold tapes script had now old new history status = now ≡ had
