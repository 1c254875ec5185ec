-- Reading the arguments of a verb, word by word.
use Rattle.std.specs.Prelude.{ℕ, List, [], ◌∷◌, ◌++◌, ◌≡◌, ◌^◌, Option, Some, None, option_and_then, option_map, if◌then◌else◌, ◌&&◌, nat_lt, nat_le, length, Result, Ok, Err, Vec}
use denote.Ref.{Bor}
use Rattle.std.specs.declared.alloc.Global.{Global}
use Rattle.voice_model.specs.declared.calls.Class.{Class}
use Rattle.script_lang.specs.declared.scripts.RopeArg.{RopeArg}
use Rattle.script_lang.specs.declared.scripts.RopeArg.TheVariants as ropes
use Rattle.script_lang.specs.declared.scripts.Verb.{Verb}
use Rattle.script_lang.specs.declared.scripts.Verb.TheVariants as verbs
use Rattle.script_lang.specs.declared.verbs.VerbName.{VerbName}
use Rattle.script_lang.specs.declared.verbs.VerbName.TheVariants as names
use Rattle.script_lang.specs.declared.phrases.Said.{Said}
use Rattle.script_lang.specs.declared.arguments.Unread.{Unread}
use Rattle.script_lang.specs.declared.arguments.Unread.TheVariants as unread
use Rattle.script_lang.specs.Numbers.{number_at_most}
use Rattle.script_lang.specs.Forms.{is_var, is_file, is_key, class_of, note_of}
use Rattle.script_lang.specs.Samples.{tape_of}

infixl 10 ◌>>=◌
abbrev pub ◌>>=◌ : {A B : Type 0} → Option A → (A → Option B) → Option B
o >>= f = option_and_then f o

-- the words that are left to read
abbrev pub Rest : Type 0
Rest = List (List ℕ)

-- what a reader returned, and the words that it left, are those that reading gives, unless memory ran out
abbrev pub Reads : {X : Type 0} → Result X Unread → Option (X × Rest) → Rest → Type 0
Reads (Ok x) read rest = read ≡ Some (x, rest)
Reads (Err unread.Arguments) read rest = read ≡ None
Reads (Err unread.NoMemory) read rest = Unit {0}

abbrev pub ReadsWord : Result (Bor (List ℕ)) Unread → Option (List ℕ × Rest) → Rest → Type 0
ReadsWord (Ok word) read rest = read ≡ Some (word.now, rest)
ReadsWord (Err e) read rest = read ≡ None

abbrev pub Says : {X : Type 0} → Result X Unread → Option X → Type 0
Says (Ok x) said = said ≡ Some x
Says (Err unread.Arguments) said = said ≡ None
Says (Err unread.NoMemory) said = Unit {0}

-- all the words that were left, unless memory ran out
abbrev pub ReadsAll : {X : Type 0} → Result (Vec X Global) Unread → Option (List X) → Rest → Type 0
ReadsAll (Ok v) read rest = (read ≡ Some v.items) × (rest ≡ [])
ReadsAll (Err unread.Arguments) read rest = read ≡ None
ReadsAll (Err unread.NoMemory) read rest = Unit {0}

abbrev pub with_front : {X : Type 0} → List X → Option (List X) → Option (List X)
with_front front read = option_map (λ rest. front ++ rest) read

abbrev pub next : Rest → Option (List ℕ × Rest)
next [] = None
next (word ∷ words) = Some (word, words)

-- a rope: by number, or by a variable
unfoldable pub rope_of : List ℕ → Option RopeArg
rope_of word = if is_var word then Some (ropes.Var word) else option_map ropes.Id (number_at_most (2 ^ 48) word)

unfoldable pub rope_at : Rest → Option (RopeArg × Rest)
rope_at words = do
  w ← next words
  rope ← rope_of w.0
  Some (rope, w.1)

unfoldable pub number_at : ℕ → Rest → Option (ℕ × Rest)
number_at most words = do
  w ← next words
  n ← number_at_most most w.0
  Some (n, w.1)

unfoldable pub file_of : List ℕ → Option (List ℕ)
file_of word = if is_file word then Some word else None

unfoldable pub file_at : Rest → Option (List ℕ × Rest)
file_at words = do
  w ← next words
  file ← file_of w.0
  Some (file, w.1)

-- what a verb alone says
abbrev pub just : Verb → Said
just verb = record { verb = verb; file = None; sample = None }

unfoldable pub record_at : List (List ℕ) → Rest → Option (Said × Rest)
record_at samples words = do
  file ← file_at words
  Some (record { verb = verbs.Record (tape_of samples file.0); file = None; sample = Some file.0 }, file.1)

unfoldable pub sub_at : Rest → Option (Said × Rest)
sub_at words = do
  rope ← rope_at words
  start ← number_at 4294967295 rope.1
  len ← number_at 4294967295 start.1
  Some (just (verbs.Sub rope.0 start.0 len.0), len.1)

unfoldable pub length_at : Rest → Option (Said × Rest)
length_at words = do
  rope ← rope_at words
  Some (just (verbs.Length rope.0), rope.1)

unfoldable pub key_of : List ℕ → Option (List ℕ)
key_of word = if is_key word then Some word else None

unfoldable pub key_at : Rest → Option (List ℕ × Rest)
key_at words = do
  w ← next words
  x ← key_of w.0
  Some (x, w.1)

unfoldable pub class_at : Rest → Option (Class × Rest)
class_at words = do
  w ← next words
  x ← class_of w.0
  Some (x, w.1)

unfoldable pub note_at : Rest → Option (List ℕ × Rest)
note_at words = do
  w ← next words
  x ← note_of w.0
  Some (x, w.1)

-- all the words that are left, each a rope
abbrev pub ropes_of : Rest → Option (List RopeArg)
ropes_of [] = Some []
ropes_of (word ∷ words) = option_and_then (λ rope. option_map (λ ropes. rope ∷ ropes) (ropes_of words)) (rope_of word)

-- all the words that are left, each a key
abbrev pub keys_of : Rest → Option (List (List ℕ))
keys_of [] = Some []
keys_of (word ∷ words) = option_and_then (λ key. option_map (λ keys. key ∷ keys) (keys_of words)) (key_of word)

unfoldable pub concat_at : Rest → Option (Said × Rest)
concat_at words = do
  ropes ← ropes_of words
  if nat_lt 0 (length ropes) && nat_le (length ropes) 16 then Some (just (verbs.Concat ropes), []) else None

unfoldable pub census_at : Rest → Option (Said × Rest)
census_at words = do
  keys ← keys_of words
  if nat_le (length keys) 1024 then Some (just (verbs.Census keys), []) else None

unfoldable pub replace_at : Rest → Option (Said × Rest)
replace_at words = do
  rope ← rope_at words
  start ← number_at 4294967295 rope.1
  len ← number_at 4294967295 start.1
  other ← rope_at len.1
  Some (just (verbs.Replace rope.0 start.0 len.0 other.0), other.1)

unfoldable pub retain_at : Rest → Option (Said × Rest)
retain_at words = do
  class ← class_at words
  key ← key_at class.1
  rope ← rope_at key.1
  note ← note_at rope.1
  Some (just (verbs.Retain class.0 key.0 rope.0 note.0), note.1)

unfoldable pub forget_at : Rest → Option (Said × Rest)
forget_at words = do
  class ← class_at words
  key ← key_at class.1
  Some (just (verbs.Forget class.0 key.0), key.1)

unfoldable pub lookup_at : Rest → Option (Said × Rest)
lookup_at words = do
  class ← class_at words
  key ← key_at class.1
  Some (just (verbs.Lookup class.0 key.0), key.1)

unfoldable pub advance_at : Rest → Option (Said × Rest)
advance_at words = do
  moment ← number_at (2 ^ 40) words
  Some (just (verbs.Advance moment.0), moment.1)

unfoldable pub sweep_at : Rest → Option (Said × Rest)
sweep_at words = do
  limit ← number_at 65535 words
  Some (just (verbs.Sweep limit.0), limit.1)

unfoldable pub describe_at : Rest → Option (Said × Rest)
describe_at words = do
  rope ← rope_at words
  Some (just (verbs.Describe rope.0), rope.1)

unfoldable pub queue_at : Rest → Option (Said × Rest)
queue_at words = do
  lane ← number_at 15 words
  rope ← rope_at lane.1
  start ← number_at 4294967295 rope.1
  len ← number_at 4294967295 start.1
  Some (just (verbs.Queue lane.0 rope.0 start.0 len.0), len.1)

unfoldable pub play_at : Rest → Option (Said × Rest)
play_at words = do
  lane ← number_at 15 words
  rope ← rope_at lane.1
  start ← number_at 4294967295 rope.1
  len ← number_at 4294967295 start.1
  file ← file_at len.1
  Some (record { verb = verbs.Play lane.0 rope.0 start.0 len.0; file = Some file.0; sample = None }, file.1)

unfoldable pub serve_at : Rest → Option (Said × Rest)
serve_at words = do
  lane ← number_at 15 words
  file ← file_at lane.1
  Some (record { verb = verbs.Serve lane.0; file = Some file.0; sample = None }, file.1)

unfoldable pub stop_at : Rest → Option (Said × Rest)
stop_at words = do
  lane ← number_at 15 words
  Some (just (verbs.Stop lane.0), lane.1)

unfoldable pub begin_at : Rest → Option (Said × Rest)
begin_at words = do
  lane ← number_at 15 words
  Some (just (verbs.Begin lane.0), lane.1)

unfoldable pub add_at : List (List ℕ) → Rest → Option (Said × Rest)
add_at samples words = do
  lane ← number_at 15 words
  file ← file_at lane.1
  Some (record { verb = verbs.Add lane.0 (tape_of samples file.0); file = None; sample = Some file.0 }, file.1)

unfoldable pub end_at : Rest → Option (Said × Rest)
end_at words = do
  lane ← number_at 15 words
  Some (just (verbs.End lane.0), lane.1)

unfoldable pub levels_at : Rest → Option (Said × Rest)
levels_at words = do
  rope ← rope_at words
  Some (just (verbs.Levels rope.0), rope.1)

abbrev pub verb_at : List (List ℕ) → VerbName → Rest → Option (Said × Rest)
verb_at samples names.Record words = record_at samples words
verb_at samples names.Concat words = concat_at words
verb_at samples names.Sub words = sub_at words
verb_at samples names.Replace words = replace_at words
verb_at samples names.Length words = length_at words
verb_at samples names.Retain words = retain_at words
verb_at samples names.Forget words = forget_at words
verb_at samples names.Lookup words = lookup_at words
verb_at samples names.Census words = census_at words
verb_at samples names.Advance words = advance_at words
verb_at samples names.Sweep words = sweep_at words
verb_at samples names.Describe words = describe_at words
verb_at samples names.Queue words = queue_at words
verb_at samples names.Play words = play_at words
verb_at samples names.Serve words = serve_at words
verb_at samples names.Stop words = stop_at words
verb_at samples names.Begin words = begin_at words
verb_at samples names.Add words = add_at samples words
verb_at samples names.End words = end_at words
verb_at samples names.Levels words = levels_at words

-- nothing may be left
abbrev pub whole : {X : Type 0} → Option (X × Rest) → Option X
whole None = None
whole (Some (x, [])) = Some x
whole (Some (x, (word ∷ words))) = None

unfoldable pub said_of : List (List ℕ) → VerbName → Rest → Option Said
said_of samples name words = whole (verb_at samples name words)
