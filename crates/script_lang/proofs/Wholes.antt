-- What holds of each script that was read.
use Rattle.std.proofs.Common.{◌≡◌, ℕ, suc, ◌+◌, ◌≤◌, ◌<◌, inl, inr, Bool, true, false, cond, List, [], ◌∷◌, ◌++◌, length, length-append, max, sym, refl, arith, subst, Option, Some, None, Ok, Err, lit≤, ltb-true, le-leb}
use Rattle.std.specs.Prelude.{Result, IfOk, All, is_some, option_map, unwrap_or, ◌&&◌, nat_lt, nat_le}
use Rattle.std.specs.Str.{bytes_eq}
use Rattle.std.specs.List.{list_all}
use Rattle.std.proofs.lemmas.Bool.{and_parts, and_from}
use Rattle.std.proofs.lemmas.List.Elements.{All-append, All-cons, All-nil}
use Rattle.voice_model.specs.Spelling.{is_key}
use Rattle.script_lang.specs.declared.scripts.ScriptError.{ScriptError}
use Rattle.script_lang.specs.declared.scripts.Line.{Line}
use Rattle.script_lang.specs.declared.scripts.Verb.{Verb}
use Rattle.script_lang.specs.declared.scripts.Verb.TheVariants as verbs
use Rattle.script_lang.specs.declared.verbs.VerbName.{VerbName}
use Rattle.script_lang.specs.declared.sentence.Spoken.{Spoken}
use Rattle.script_lang.specs.Words.{lines_of}
use Rattle.script_lang.specs.Shown.{Reading}
use Rattle.script_lang.specs.Forms.{is_file, is_short, is_name_byte}
use Rattle.script_lang.specs.Samples.{place_of}
use Rattle.script_lang.specs.Parts.{empty_script, mention, line_of, with_line, served, is_taken}
use Rattle.script_lang.specs.Owners.{HaveOneOwner}
use Rattle.script_lang.specs.Reading.{read_lines, Parses}
use Rattle.script_lang.specs.Grammar.{Spells, Adds, IsSpoken, Fits, IsGiven, IsSample}
use Rattle.script_lang.specs.Errands.{HasTape, HasFile, HasItsRopes, IsInItsRange}
use Rattle.script_lang.specs.Whole.{IsLineOf, IsWhole}
use Rattle.script_lang.proofs.Steps.{lines_found}
use Rattle.script_lang.proofs.Names.{mention_grows}
use Rattle.script_lang.proofs.Owned.{one_owner_more}

-- samples and callers only grow
mention_keeps : (names : List (List ℕ)) (name : Option (List ℕ)) → length names ≤ length (mention names name)
mention_keeps names None = omega arith
mention_keeps names (Some name) = by (is_some (place_of names name))
  where
    by : (b : Bool) → length names ≤ length (cond b names (names ++ name ∷ []))
    by true = omega arith
    by false = let e : length (names ++ name ∷ []) ≡ length names + 1 = length-append names (name ∷ []) in omega (arith, e)

tape_more : (verb : Verb) (m n : ℕ) → m ≤ n → HasTape m verb → HasTape n verb
tape_more (verbs.Record tape) m n h t = omega arith
tape_more (verbs.Concat args) m n h t = tt
tape_more (verbs.Sub rope start len) m n h t = tt
tape_more (verbs.Replace rope start len with) m n h t = tt
tape_more (verbs.Length rope) m n h t = tt
tape_more (verbs.Retain class key rope note) m n h t = tt
tape_more (verbs.Forget class key) m n h t = tt
tape_more (verbs.Lookup class key) m n h t = tt
tape_more (verbs.Census keys) m n h t = tt
tape_more (verbs.Advance moment) m n h t = tt
tape_more (verbs.Sweep limit) m n h t = tt
tape_more (verbs.Describe rope) m n h t = tt
tape_more (verbs.Queue lane rope start len) m n h t = tt
tape_more (verbs.Play lane rope start len) m n h t = tt
tape_more (verbs.Serve lane) m n h t = tt
tape_more (verbs.Stop lane) m n h t = tt
tape_more (verbs.Begin lane) m n h t = tt
tape_more (verbs.Add lane tape) m n h t = omega arith
tape_more (verbs.End lane) m n h t = tt
tape_more (verbs.Levels rope) m n h t = tt

-- the tape of a sample file is one of those that its line leaves
within_more : (b : Bool) (o : Option ℕ) (n k : ℕ) → (option_map (λ i. i + 1) o ≡ Some k → k < suc n) → cond b (Some 0) (option_map (λ i. i + 1) o) ≡ Some k → k < suc n
within_more true o n k h e = let z : 0 ≡ k = cc in omega (arith, z)
within_more false o n k h e = h e

place_suc : (o : Option ℕ) (n k : ℕ) → ((i : ℕ) → o ≡ Some i → i < n) → option_map (λ i. i + 1) o ≡ Some k → k < suc n
place_suc None n k h e = cc
place_suc (Some i) n k h e = let z : i + 1 ≡ k = cc in omega (arith, h i refl, z)

place_within : (names : List (List ℕ)) (name : List ℕ) (k : ℕ) → place_of names name ≡ Some k → k < length names
place_within [] name k e = cc
place_within (n ∷ ns) name k e =
    within_more (bytes_eq n name) (place_of ns name) (length ns) k (place_suc (place_of ns name) (length ns) k (place_within ns name)) e

tape_within : (o : Option ℕ) (names : List (List ℕ)) (name : List ℕ) → ((k : ℕ) → o ≡ Some k → k < length names) → unwrap_or o (length names) < length (cond (is_some o) names (names ++ name ∷ []))
tape_within None names name h = let e : length (names ++ name ∷ []) ≡ length names + 1 = length-append names (name ∷ []) in omega (arith, e)
tape_within (Some k) names name h = h k refl

sample_within : (names : List (List ℕ)) (tape : ℕ) (sample : Option (List ℕ)) → IsSample names tape sample → tape < length (mention names sample)
sample_within names tape None h = absurd h
sample_within names tape (Some name) h =
    let P : ℕ → Type 0 = λ t. t < length (mention names (Some name)) in
    subst P (sym h.1) (tape_within (place_of names name) names name (place_within names name))

has_tape : (names : List (List ℕ)) (verb : Verb) (file sample : Option (List ℕ)) → Fits names verb file sample → HasTape (length (mention names sample)) verb
has_tape names (verbs.Record tape) file sample f = sample_within names tape sample f.1
has_tape names (verbs.Concat args) file sample f = tt
has_tape names (verbs.Sub rope start len) file sample f = tt
has_tape names (verbs.Replace rope start len with) file sample f = tt
has_tape names (verbs.Length rope) file sample f = tt
has_tape names (verbs.Retain class key rope note) file sample f = tt
has_tape names (verbs.Forget class key) file sample f = tt
has_tape names (verbs.Lookup class key) file sample f = tt
has_tape names (verbs.Census keys) file sample f = tt
has_tape names (verbs.Advance moment) file sample f = tt
has_tape names (verbs.Sweep limit) file sample f = tt
has_tape names (verbs.Describe rope) file sample f = tt
has_tape names (verbs.Queue lane rope start len) file sample f = tt
has_tape names (verbs.Play lane rope start len) file sample f = tt
has_tape names (verbs.Serve lane) file sample f = tt
has_tape names (verbs.Stop lane) file sample f = tt
has_tape names (verbs.Begin lane) file sample f = tt
has_tape names (verbs.Add lane tape) file sample f = sample_within names tape sample f.1
has_tape names (verbs.End lane) file sample f = tt
has_tape names (verbs.Levels rope) file sample f = tt

-- a line that serves a lane names a file
given : (file : Option (List ℕ)) → IsGiven is_file file → (name : List ℕ) × (file ≡ Some name)
given None f = absurd f
given (Some name) f = (name, refl)

has_file : (names : List (List ℕ)) (verb : Verb) (file sample : Option (List ℕ)) → Fits names verb file sample → HasFile verb file
has_file names (verbs.Record tape) file sample f = tt
has_file names (verbs.Concat args) file sample f = tt
has_file names (verbs.Sub rope start len) file sample f = tt
has_file names (verbs.Replace rope start len with) file sample f = tt
has_file names (verbs.Length rope) file sample f = tt
has_file names (verbs.Retain class key rope note) file sample f = tt
has_file names (verbs.Forget class key) file sample f = tt
has_file names (verbs.Lookup class key) file sample f = tt
has_file names (verbs.Census keys) file sample f = tt
has_file names (verbs.Advance moment) file sample f = tt
has_file names (verbs.Sweep limit) file sample f = tt
has_file names (verbs.Describe rope) file sample f = tt
has_file names (verbs.Queue lane rope start len) file sample f = tt
has_file names (verbs.Play lane rope start len) file sample f = given file f.0
has_file names (verbs.Serve lane) file sample f = given file f.0
has_file names (verbs.Stop lane) file sample f = tt
has_file names (verbs.Begin lane) file sample f = tt
has_file names (verbs.Add lane tape) file sample f = tt
has_file names (verbs.End lane) file sample f = tt
has_file names (verbs.Levels rope) file sample f = tt

-- a concat has 1 to 16 ropes
has_ropes : (names : List (List ℕ)) (verb : Verb) (file sample : Option (List ℕ)) → Fits names verb file sample → HasItsRopes verb
has_ropes names (verbs.Record tape) file sample f = tt
has_ropes names (verbs.Concat args) file sample f = (f.2, f.3)
has_ropes names (verbs.Sub rope start len) file sample f = tt
has_ropes names (verbs.Replace rope start len with) file sample f = tt
has_ropes names (verbs.Length rope) file sample f = tt
has_ropes names (verbs.Retain class key rope note) file sample f = tt
has_ropes names (verbs.Forget class key) file sample f = tt
has_ropes names (verbs.Lookup class key) file sample f = tt
has_ropes names (verbs.Census keys) file sample f = tt
has_ropes names (verbs.Advance moment) file sample f = tt
has_ropes names (verbs.Sweep limit) file sample f = tt
has_ropes names (verbs.Describe rope) file sample f = tt
has_ropes names (verbs.Queue lane rope start len) file sample f = tt
has_ropes names (verbs.Play lane rope start len) file sample f = tt
has_ropes names (verbs.Serve lane) file sample f = tt
has_ropes names (verbs.Stop lane) file sample f = tt
has_ropes names (verbs.Begin lane) file sample f = tt
has_ropes names (verbs.Add lane tape) file sample f = tt
has_ropes names (verbs.End lane) file sample f = tt
has_ropes names (verbs.Levels rope) file sample f = tt

-- a key, a note and a moment are in the ranges of a call
key_short : (word : List ℕ) → (is_short word && list_all is_name_byte word) ≡ true → is_key word ≡ true
key_short word h =
    let short = (and_parts (is_short word) (list_all is_name_byte word) h).0 in
    let sizes = and_parts (nat_lt 0 (length word)) (nat_le (length word) 64) short in
    let some = ltb-true 0 (length word) sizes.0 in
    and_from (nat_le 1 (length word)) (nat_le (length word) 64) (le-leb 1 (length word) (omega (arith, some))) sizes.1

in_range : (names : List (List ℕ)) (verb : Verb) (file sample : Option (List ℕ)) → Fits names verb file sample → IsInItsRange verb
in_range names (verbs.Record tape) file sample f = tt
in_range names (verbs.Concat args) file sample f = tt
in_range names (verbs.Sub rope start len) file sample f = tt
in_range names (verbs.Replace rope start len with) file sample f = tt
in_range names (verbs.Length rope) file sample f = tt
in_range names (verbs.Retain class key rope note) file sample f = (key_short key f.2, f.4.0)
in_range names (verbs.Forget class key) file sample f = tt
in_range names (verbs.Lookup class key) file sample f = tt
in_range names (verbs.Census keys) file sample f = tt
in_range names (verbs.Advance moment) file sample f = f.2
in_range names (verbs.Sweep limit) file sample f = tt
in_range names (verbs.Describe rope) file sample f = tt
in_range names (verbs.Queue lane rope start len) file sample f = tt
in_range names (verbs.Play lane rope start len) file sample f = tt
in_range names (verbs.Serve lane) file sample f = tt
in_range names (verbs.Stop lane) file sample f = tt
in_range names (verbs.Begin lane) file sample f = tt
in_range names (verbs.Add lane tape) file sample f = tt
in_range names (verbs.End lane) file sample f = tt
in_range names (verbs.Levels rope) file sample f = tt

-- the script up to line n
pub record UpTo (known : VerbName → Bool) (n : ℕ) (r : Reading) : Type 0 where
  pub whole : IsWhole known r
  pub below : length r.samples + 1 ≤ n

line_kept : (known : VerbName → Bool) (s c t d : ℕ) (line : Line) → s ≤ t → c ≤ d → IsLineOf known s c line → IsLineOf known t d line
line_kept known s c t d line p q h = record {
  number = h.number;
  least = h.least;
  most = omega (arith, h.most);
  verb = h.verb;
  tape = tape_more line.verb s t p h.tape;
  file = h.file;
  bind = h.bind;
  ropes = h.ropes;
  range = h.range;
}

adds_whole : (known : VerbName → Bool) (n : ℕ) (r : Reading) (s : Spoken) → n ≤ 65535 → IsSpoken known r.samples s → is_taken r.lines s.caller (served s.said.verb) ≡ false → UpTo known n r → UpTo known (n + 1) (with_line n r s)
adds_whole known n r s few is free h =
    let grows = mention_grows r.samples s.said.sample in
    let keeps = mention_keeps r.samples s.said.sample in
    let long = length (mention r.samples s.said.sample) in
    let top = max r.callers s.caller in
    let old : All (IsLineOf known long top) r.lines = λ k d within. line_kept known (length r.samples) r.callers long top _ keeps (omega arith) (h.whole.lines k d within) in
    let new : IsLineOf known long top (line_of n s) = record {
      number = few;
      least = is.least;
      most = omega arith;
      verb = is.taken;
      tape = has_tape r.samples s.said.verb s.said.file s.said.sample is.fits;
      file = has_file r.samples s.said.verb s.said.file s.said.sample is.fits;
      bind = is.bind;
      ropes = has_ropes r.samples s.said.verb s.said.file s.said.sample is.fits;
      range = in_range r.samples s.said.verb s.said.file s.said.sample is.fits;
    } in
    let whole : IsWhole known (with_line n r s) = record {
      lines = All-append (IsLineOf known long top) r.lines (line_of n s ∷ []) old (All-cons (IsLineOf known long top) (line_of n s) [] new (All-nil (IsLineOf known long top)));
      owners = one_owner_more r.lines (line_of n s) h.whole.owners free;
      few = omega (arith, grows, h.below);
      least = omega (arith, h.whole.least);
      most = omega (arith, h.whole.most, is.most);
    } in
    record { whole = whole; below = omega (arith, grows, h.below) }

later : (known : VerbName → Bool) (n : ℕ) (r : Reading) → UpTo known n r → UpTo known (n + 1) r
later known n r h = record { whole = h.whole; below = omega (arith, h.below) }

line_whole : (known : VerbName → Bool) (n : ℕ) (r m : Reading) (line : List ℕ) → Adds known n r line m → UpTo known n r → UpTo known (n + 1) m
line_whole known n r m line a h =
    elim a.1 [
      | inl q ↦ subst (UpTo known (n + 1)) q.1 (later known n r h)
      | inr c ↦ subst (UpTo known (n + 1)) (sym c.grown) (adds_whole known n r c.spoken a.0 c.fits c.free h)
    ]

spelled_whole : (known : VerbName → Bool) (lines : List (List ℕ)) (n : ℕ) (r m : Reading) → Spells known n r lines m → UpTo known n r → IsWhole known m
spelled_whole known [] n r m e h = subst (IsWhole known) e h.whole
spelled_whole known (line ∷ lines) n r m e h = spelled_whole known lines (n + 1) e.0 m e.2 (line_whole known n r e.0 line e.1 h)

no_owners : HaveOneOwner []
no_owners k d within = absurd (omega arith)

none_yet : (known : VerbName → Bool) → UpTo known 1 empty_script
none_yet known = record {
  whole = record { lines = All-nil (IsLineOf known 0 1); owners = no_owners; few = lit≤ tt; least = lit≤ tt; most = lit≤ tt };
  below = lit≤ tt;
}

pub parsed_whole : (known : VerbName → Bool) (bytes : List ℕ) (result : Result Reading ScriptError) → Parses result (read_lines known 1 empty_script (lines_of bytes)) → IfOk result (IsWhole known)
parsed_whole known bytes (Ok r) e = spelled_whole known (lines_of bytes) 1 empty_script r (lines_found known (lines_of bytes) 1 empty_script r e) (none_yet known)
parsed_whole known bytes (Err x) e = tt
