-- The files that servings give.
--     ends_serving e      a Feed that tells that a job is over: the last entry of a serving, which gives a file
--     gives_file own      the last of a line's entries is such a one
--     GivesFiles tapes variables lines entries names      the entries follow the lines from these variables on, and give files of these names
--     GivesTo caller s tapes entries given      the entries give the caller these bytes, from the state s on
--     given_name, given_bytes      the name and the bytes of the file that a serving gives, where it gives one
--     names_in, bytes_in      the names and the bytes of files that were heard
--     Gave tapes lines caller old new names      the caller gained the entries of its lines, which gave files of these names
--     FeedsAlone lines caller entries      each lane that the caller's lines serve is fed by the caller alone
use Rattle.std.specs.Prelude.{ℕ, Bool, true, false, ◌&&◌, ◌==◌, List, [], ◌∷◌, ◌++◌, ◌≡◌, map, Option, Some, slice_get}
use Rattle.voice_model.specs.declared.calls.Call.{Call}
use Rattle.voice_model.specs.declared.calls.Call.TheVariants as calls
use Rattle.voice_model.specs.declared.calls.Reply.{Reply}
use Rattle.voice_model.specs.declared.calls.Reply.TheVariants as replies
use Rattle.voice_model.specs.declared.calls.Entry.{Entry}
use Rattle.voice_model.specs.State.{State}
use Rattle.voice_model.specs.Step.{state_after}
use Rattle.voice_model.specs.Follows.{Binding, variables_after, passage_bytes, heard_bytes}
use Rattle.serving_laws.specs.Lanes.{FedBy, first_of_lane}
use Rattle.script_lang.specs.declared.scripts.Line.{Line}
use Rattle.script_lang.specs.Parts.{served}
use Rattle.served_files.specs.declared.heard.Heard.{Heard}
use Rattle.served_files.specs.Lines.{lines_of_caller, DoesLine}

abbrev pub is_feed : Call → Bool
is_feed (calls.Feed lane back) = true
is_feed _ = false

abbrev pub is_over : Reply → Bool
is_over (replies.Ended job n) = true
is_over (replies.Stopped job n) = true
is_over _ = false

-- the last entry of a serving, which gives a file
abbrev pub ends_serving : Entry → Bool
ends_serving e = is_feed e.call && is_over e.reply

-- the last of a line's entries ends a serving
abbrev pub gives_file : List Entry → Bool
gives_file [] = false
gives_file (e ∷ []) = ends_serving e
gives_file (e ∷ es) = gives_file es

-- the file of a line that gives one
abbrev pub given_name : Bool → Option (List ℕ) → List (List ℕ)
given_name true (Some name) = name ∷ []
given_name _ _ = []

-- the bytes of that file, of what was heard
abbrev pub given_bytes : Bool → List ℕ → List (List ℕ)
given_bytes true bytes = bytes ∷ []
given_bytes false bytes = []

-- the entries are those of the lines, in order, each once, from these variables on, and the lines whose servings ended a job give files of these names, in order
abbrev pub GivesFiles : List (List ℕ) → List Binding → List Line → List Entry → List (List ℕ) → Type 0
GivesFiles tapes variables [] entries names = (entries ≡ []) × (names ≡ [])
GivesFiles tapes variables (line ∷ lines) entries names =
    (own : List Entry) × (rest : List Entry) × (more : List (List ℕ)) × (entries ≡ own ++ rest) × (names ≡ given_name (gives_file own) line.file ++ more) × DoesLine tapes variables line own
    × GivesFiles tapes (variables_after line.bind own variables) lines rest more

-- the passage of the first job of the lane that a call feeds
abbrev pub passage_fed : State → Call → List ℕ
passage_fed s (calls.Feed lane back) = passage_bytes (first_of_lane s lane)
passage_fed s _ = []

-- the entry ends a serving of the caller
abbrev pub gives_to : ℕ → Entry → Bool
gives_to caller e = ends_serving e && (e.caller == caller)

-- what the entry gives comes first, where it gives something: as much of the passage as its reply tells of
abbrev pub GivesHere : Bool → State → Entry → List (List ℕ) → (List (List ℕ) → Type 0) → Type 0
GivesHere false s e given on = on given
GivesHere true s e given on = (bytes : List ℕ) × (more : List (List ℕ)) × (given ≡ bytes ∷ more) × (heard_bytes e.reply (passage_fed s e.call) ≡ Some bytes) × on more

-- the entries give the caller these bytes, from the state s on
abbrev pub GivesTo : ℕ → State → List (List ℕ) → List Entry → List (List ℕ) → Type 0
GivesTo caller s tapes [] given = given ≡ []
GivesTo caller s tapes (e ∷ es) given = GivesHere (gives_to caller e) s e given (λ more. GivesTo caller (state_after s tapes e) tapes es more)

abbrev pub names_in : List Heard → List (List ℕ)
names_in heard = map (λ h. h.file) heard

abbrev pub bytes_in : List Heard → List (List ℕ)
bytes_in heard = map (λ h. h.bytes.items) heard

-- the caller gained the entries of its lines, in order, each once, which gave files of these names
pub record Gave (tapes : List (List ℕ)) (lines : List Line) (caller : ℕ) (old new : List Entry) (names : List (List ℕ)) : Type 0 where
  pub own : List Entry
  pub gained : new ≡ old ++ own
  pub gives : GivesFiles tapes [] (lines_of_caller caller lines) own names

-- each lane that the caller's lines serve is fed by the caller alone
abbrev pub FeedsAlone : List Line → ℕ → List Entry → Type 0
FeedsAlone lines caller entries = (number : ℕ) (line : Line) (lane : ℕ) → slice_get lines number ≡ Some line → line.caller ≡ caller → served line.verb ≡ Some lane → FedBy caller lane entries
