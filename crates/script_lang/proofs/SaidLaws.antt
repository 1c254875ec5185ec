-- What a verb's words say, and how it is spelled.
use Rattle.std.proofs.Common.{◌≡◌, ℕ, ◌^◌, ◌<◌, ◌≤◌, Bool, true, false, cond, ◌&&◌, List, [], ◌∷◌, ◌++◌, length, map, sym, refl, ap, ◌∙◌, arith, Option, Some, None, lit<, subst, leb, ltb, append-nil}
use Rattle.std.specs.Prelude.{IsTrue, option_and_then}
use Rattle.std.specs.Fmt.{decimal}
use Rattle.std.proofs.lemmas.Bool.Decides.{nat_tests}
use Rattle.voice_model.specs.Text.{note_text}
use Rattle.voice_model.specs.declared.calls.Class.{Class}
use Rattle.script_lang.specs.declared.scripts.RopeArg.{RopeArg}
use Rattle.script_lang.specs.declared.scripts.Verb.{Verb}
use Rattle.script_lang.specs.declared.scripts.Verb.TheVariants as verbs
use Rattle.script_lang.specs.declared.verbs.VerbName.{VerbName}
use Rattle.script_lang.specs.declared.verbs.VerbName.TheVariants as names
use Rattle.script_lang.specs.declared.phrases.Said.{Said}
use Rattle.script_lang.specs.Forms.{is_file, is_key}
use Rattle.script_lang.specs.Arguments.{Rest, rope_at, number_at, file_at, key_at, class_at, note_at, ropes_of, keys_of, just, verb_at, said_of, whole, record_at, concat_at, sub_at, replace_at, length_at, retain_at, forget_at, lookup_at, census_at, advance_at, sweep_at, describe_at, queue_at, play_at, serve_at, stop_at, begin_at, add_at, end_at, levels_at}
use Rattle.script_lang.specs.Samples.{tape_of}
use Rattle.script_lang.specs.Grammar.{rope_text, IsRope, class_text, IsNote, Every, Fits, arguments, verb_name}
use Rattle.script_lang.proofs.Spelled.{bind_ok, some_is, number_found, number_again, file_found, file_again, key_found, key_again, rope_found, rope_again, class_found, class_again, ropes_found, ropes_again, keys_found, keys_again}
use Rattle.script_lang.proofs.Notes.{note_found, note_again}

abbrev made : Verb → Option (List ℕ) → Option (List ℕ) → Said
made verb file sample = record { verb = verb; file = file; sample = sample }

abbrev read_as : Said → Rest → Option (Said × Rest)
read_as said rest = Some (said, rest)

pub record IsSaid (samples : List (List ℕ)) (name : VerbName) (said : Said) (words rest : Rest) : Type 0 where
  pub fits : Fits samples said.verb said.file said.sample
  pub named : verb_name said.verb ≡ name
  pub spelled : words ≡ arguments said.verb said.file said.sample ++ rest

plain : (verb : Verb) (file sample : Option (List ℕ)) → file ≡ None → sample ≡ None → read_as (just verb) [] ≡ read_as (made verb file sample) []
plain verb file sample p q = ap (λ f. Some (made verb f None, [])) (sym p) ∙ ap (λ s. Some (made verb file s, [])) (sym q)

tested : {X : Type 0} (t : Bool) (x y : X) → cond t (Some x) None ≡ Some y → (t ≡ true) × (x ≡ y)
tested true x y e = (refl, cc)
tested false x y e = cc

few : (n : ℕ) → (ltb 0 n && leb n 16) ≡ true → (0 < n) × (n ≤ 16)
few n e = (grind (arith, nat_tests), grind (arith, nat_tests))

few_true : (n : ℕ) → 0 < n → n ≤ 16 → (ltb 0 n && leb n 16) ≡ true
few_true n p q = grind (arith, nat_tests)

le_from : (m n : ℕ) → leb m n ≡ true → m ≤ n
le_from m n h = grind (arith, nat_tests)

le_true : (m n : ℕ) → m ≤ n → leb m n ≡ true
le_true m n h = grind (arith, nat_tests)

-- what a reading of words says, if it says anything
abbrev Tells : List (List ℕ) → VerbName → Rest → Option (Said × Rest) → Type 0
Tells samples name words o = (rest : Rest) (said : Said) → o ≡ Some (said, rest) → IsSaid samples name said words rest

-- all arguments were read
tells : {samples : List (List ℕ)} {name : VerbName} {words : Rest} (s : Said) (r : Rest) → Fits samples s.verb s.file s.sample → verb_name s.verb ≡ name → words ≡ arguments s.verb s.file s.sample ++ r → Tells samples name words (Some (s, r))
tells {samples} {name} {words} s r fits named spelled rest said e =
    let P : Said × Rest → Type 0 = λ p. IsSaid samples name p.0 words p.1 in
    subst P (some_is (s, r) (said, rest) e) (record { fits = fits; named = named; spelled = spelled })

-- how an argument is read, and how it is spelled
record Argument (A : Type 0) : Type 1 where
  at : Rest → Option (A × Rest)
  text : A → List ℕ
  Is : A → Type 0
  found : (words rest : Rest) (x : A) → at words ≡ Some (x, rest) → (words ≡ text x ∷ rest) × Is x

abbrev a_rope : Argument RopeArg
a_rope = record { at = rope_at; text = rope_text; Is = IsRope; found = rope_found }

abbrev a_number : (most : ℕ) → most < 10 ^ 15 → Argument ℕ
a_number most small = record { at = number_at most; text = decimal; Is = λ n. n ≤ most; found = λ words rest n e. number_found most n words rest small e }

abbrev a_file : Argument (List ℕ)
a_file = record { at = file_at; text = λ file. file; Is = λ file. IsTrue (is_file file); found = file_found }

abbrev a_key : Argument (List ℕ)
a_key = record { at = key_at; text = λ key. key; Is = λ key. IsTrue (is_key key); found = key_found }

abbrev a_class : Argument Class
a_class = record { at = class_at; text = class_text; Is = λ class. Unit {0}; found = λ words rest class e. (class_found words rest class e, tt) }

abbrev a_note : Argument (List ℕ)
a_note = record { at = note_at; text = note_text; Is = IsNote; found = note_found }

-- one argument more is read, behind those in front
and_then : {samples : List (List ℕ)} {name : VerbName} {A : Type 0} (a : Argument A) (front : Rest → Rest) (words : Rest) (k : A × Rest → Option (Said × Rest)) →
    ((x : A) (r : Rest) → a.Is x → Tells samples name (front (a.text x ∷ r)) (k (x, r))) → Tells samples name (front words) (option_and_then k (a.at words))
and_then {samples} {name} a front words k more rest said e =
    let b = bind_ok (a.at words) k (said, rest) e in
    let p = a.found words b.0.1 b.0.0 b.1 in
    subst (λ (ws : Rest). IsSaid samples name said (front ws) rest) (sym p.0) (more b.0.0 b.0.1 p.1 rest said b.2)

found_record : (samples : List (List ℕ)) (words : Rest) → Tells samples names.Record words (record_at samples words)
unfolding record_at
found_record samples words =
    and_then a_file (λ t. t) words _ (λ file r0 p0.
    tells (made (verbs.Record (tape_of samples file)) None (Some file)) r0 (refl, (p0, refl)) refl refl)

found_sub : (samples : List (List ℕ)) (words : Rest) → Tells samples names.Sub words (sub_at words)
unfolding sub_at
found_sub samples words =
    and_then a_rope (λ t. t) words _ (λ rope r0 p0.
    and_then (a_number 4294967295 (lit< tt)) (λ t. rope_text rope ∷ t) r0 _ (λ start r1 p1.
    and_then (a_number 4294967295 (lit< tt)) (λ t. rope_text rope ∷ decimal start ∷ t) r1 _ (λ len r2 p2.
    tells (just (verbs.Sub rope start len)) r2 (refl, refl, p0, p1, p2) refl refl)))

found_replace : (samples : List (List ℕ)) (words : Rest) → Tells samples names.Replace words (replace_at words)
unfolding replace_at
found_replace samples words =
    and_then a_rope (λ t. t) words _ (λ rope r0 p0.
    and_then (a_number 4294967295 (lit< tt)) (λ t. rope_text rope ∷ t) r0 _ (λ start r1 p1.
    and_then (a_number 4294967295 (lit< tt)) (λ t. rope_text rope ∷ decimal start ∷ t) r1 _ (λ len r2 p2.
    and_then a_rope (λ t. rope_text rope ∷ decimal start ∷ decimal len ∷ t) r2 _ (λ other r3 p3.
    tells (just (verbs.Replace rope start len other)) r3 (refl, refl, p0, p1, p2, p3) refl refl))))

found_length : (samples : List (List ℕ)) (words : Rest) → Tells samples names.Length words (length_at words)
unfolding length_at
found_length samples words =
    and_then a_rope (λ t. t) words _ (λ rope r0 p0.
    tells (just (verbs.Length rope)) r0 (refl, refl, p0) refl refl)

found_retain : (samples : List (List ℕ)) (words : Rest) → Tells samples names.Retain words (retain_at words)
unfolding retain_at
found_retain samples words =
    and_then a_class (λ t. t) words _ (λ class r0 p0.
    and_then a_key (λ t. class_text class ∷ t) r0 _ (λ key r1 p1.
    and_then a_rope (λ t. class_text class ∷ key ∷ t) r1 _ (λ rope r2 p2.
    and_then a_note (λ t. class_text class ∷ key ∷ rope_text rope ∷ t) r2 _ (λ note r3 p3.
    tells (just (verbs.Retain class key rope note)) r3 (refl, refl, p1, p2, p3) refl refl))))

found_forget : (samples : List (List ℕ)) (words : Rest) → Tells samples names.Forget words (forget_at words)
unfolding forget_at
found_forget samples words =
    and_then a_class (λ t. t) words _ (λ class r0 p0.
    and_then a_key (λ t. class_text class ∷ t) r0 _ (λ key r1 p1.
    tells (just (verbs.Forget class key)) r1 (refl, refl, p1) refl refl))

found_lookup : (samples : List (List ℕ)) (words : Rest) → Tells samples names.Lookup words (lookup_at words)
unfolding lookup_at
found_lookup samples words =
    and_then a_class (λ t. t) words _ (λ class r0 p0.
    and_then a_key (λ t. class_text class ∷ t) r0 _ (λ key r1 p1.
    tells (just (verbs.Lookup class key)) r1 (refl, refl, p1) refl refl))

found_advance : (samples : List (List ℕ)) (words : Rest) → Tells samples names.Advance words (advance_at words)
unfolding advance_at
found_advance samples words =
    and_then (a_number (2 ^ 40) (lit< tt)) (λ t. t) words _ (λ moment r0 p0.
    tells (just (verbs.Advance moment)) r0 (refl, refl, p0) refl refl)

found_sweep : (samples : List (List ℕ)) (words : Rest) → Tells samples names.Sweep words (sweep_at words)
unfolding sweep_at
found_sweep samples words =
    and_then (a_number 65535 (lit< tt)) (λ t. t) words _ (λ limit r0 p0.
    tells (just (verbs.Sweep limit)) r0 (refl, refl, p0) refl refl)

found_describe : (samples : List (List ℕ)) (words : Rest) → Tells samples names.Describe words (describe_at words)
unfolding describe_at
found_describe samples words =
    and_then a_rope (λ t. t) words _ (λ rope r0 p0.
    tells (just (verbs.Describe rope)) r0 (refl, refl, p0) refl refl)

found_queue : (samples : List (List ℕ)) (words : Rest) → Tells samples names.Queue words (queue_at words)
unfolding queue_at
found_queue samples words =
    and_then (a_number 15 (lit< tt)) (λ t. t) words _ (λ lane r0 p0.
    and_then a_rope (λ t. decimal lane ∷ t) r0 _ (λ rope r1 p1.
    and_then (a_number 4294967295 (lit< tt)) (λ t. decimal lane ∷ rope_text rope ∷ t) r1 _ (λ start r2 p2.
    and_then (a_number 4294967295 (lit< tt)) (λ t. decimal lane ∷ rope_text rope ∷ decimal start ∷ t) r2 _ (λ len r3 p3.
    tells (just (verbs.Queue lane rope start len)) r3 (refl, refl, p0, p1, p2, p3) refl refl))))

found_play : (samples : List (List ℕ)) (words : Rest) → Tells samples names.Play words (play_at words)
unfolding play_at
found_play samples words =
    and_then (a_number 15 (lit< tt)) (λ t. t) words _ (λ lane r0 p0.
    and_then a_rope (λ t. decimal lane ∷ t) r0 _ (λ rope r1 p1.
    and_then (a_number 4294967295 (lit< tt)) (λ t. decimal lane ∷ rope_text rope ∷ t) r1 _ (λ start r2 p2.
    and_then (a_number 4294967295 (lit< tt)) (λ t. decimal lane ∷ rope_text rope ∷ decimal start ∷ t) r2 _ (λ len r3 p3.
    and_then a_file (λ t. decimal lane ∷ rope_text rope ∷ decimal start ∷ decimal len ∷ t) r3 _ (λ file r4 p4.
    tells (made (verbs.Play lane rope start len) (Some file) None) r4 (p4, refl, p0, p1, p2, p3) refl refl)))))

found_serve : (samples : List (List ℕ)) (words : Rest) → Tells samples names.Serve words (serve_at words)
unfolding serve_at
found_serve samples words =
    and_then (a_number 15 (lit< tt)) (λ t. t) words _ (λ lane r0 p0.
    and_then a_file (λ t. decimal lane ∷ t) r0 _ (λ file r1 p1.
    tells (made (verbs.Serve lane) (Some file) None) r1 (p1, refl, p0) refl refl))

found_stop : (samples : List (List ℕ)) (words : Rest) → Tells samples names.Stop words (stop_at words)
unfolding stop_at
found_stop samples words =
    and_then (a_number 15 (lit< tt)) (λ t. t) words _ (λ lane r0 p0.
    tells (just (verbs.Stop lane)) r0 (refl, refl, p0) refl refl)

found_begin : (samples : List (List ℕ)) (words : Rest) → Tells samples names.Begin words (begin_at words)
unfolding begin_at
found_begin samples words =
    and_then (a_number 15 (lit< tt)) (λ t. t) words _ (λ lane r0 p0.
    tells (just (verbs.Begin lane)) r0 (refl, refl, p0) refl refl)

found_add : (samples : List (List ℕ)) (words : Rest) → Tells samples names.Add words (add_at samples words)
unfolding add_at
found_add samples words =
    and_then (a_number 15 (lit< tt)) (λ t. t) words _ (λ lane r0 p0.
    and_then a_file (λ t. decimal lane ∷ t) r0 _ (λ file r1 p1.
    tells (made (verbs.Add lane (tape_of samples file)) None (Some file)) r1 (refl, (p1, refl), p0) refl refl))

found_end : (samples : List (List ℕ)) (words : Rest) → Tells samples names.End words (end_at words)
unfolding end_at
found_end samples words =
    and_then (a_number 15 (lit< tt)) (λ t. t) words _ (λ lane r0 p0.
    tells (just (verbs.End lane)) r0 (refl, refl, p0) refl refl)

found_levels : (samples : List (List ℕ)) (words : Rest) → Tells samples names.Levels words (levels_at words)
unfolding levels_at
found_levels samples words =
    and_then a_rope (λ t. t) words _ (λ rope r0 p0.
    tells (just (verbs.Levels rope)) r0 (refl, refl, p0) refl refl)

found_concat : (samples : List (List ℕ)) (words : Rest) → Tells samples names.Concat words (concat_at words)
unfolding concat_at
found_concat samples words rest said e =
    let a = bind_ok (ropes_of words) _ (said, rest) e in
    let p = ropes_found words a.0 a.1 in
    let t = tested (ltb 0 (length a.0) && leb (length a.0) 16) (just (verbs.Concat a.0), []) (said, rest) a.2 in
    let b = few (length a.0) t.0 in
    tells (just (verbs.Concat a.0)) [] (refl, refl, b.0, b.1, p.1) refl (p.0 ∙ sym (append-nil (map rope_text a.0))) rest said (ap Some t.1)

found_census : (samples : List (List ℕ)) (words : Rest) → Tells samples names.Census words (census_at words)
unfolding census_at
found_census samples words rest said e =
    let a = bind_ok (keys_of words) _ (said, rest) e in
    let p = keys_found words a.0 a.1 in
    let t = tested (leb (length a.0) 1024) (just (verbs.Census a.0), []) (said, rest) a.2 in
    tells (just (verbs.Census a.0)) [] (refl, refl, le_from (length a.0) 1024 t.0, p.1) refl (p.0 ∙ sym (append-nil a.0)) rest said (ap Some t.1)

found_verb : (samples : List (List ℕ)) (name : VerbName) (words : Rest) → Tells samples name words (verb_at samples name words)
found_verb samples names.Record words = found_record samples words
found_verb samples names.Concat words = found_concat samples words
found_verb samples names.Sub words = found_sub samples words
found_verb samples names.Replace words = found_replace samples words
found_verb samples names.Length words = found_length samples words
found_verb samples names.Retain words = found_retain samples words
found_verb samples names.Forget words = found_forget samples words
found_verb samples names.Lookup words = found_lookup samples words
found_verb samples names.Census words = found_census samples words
found_verb samples names.Advance words = found_advance samples words
found_verb samples names.Sweep words = found_sweep samples words
found_verb samples names.Describe words = found_describe samples words
found_verb samples names.Queue words = found_queue samples words
found_verb samples names.Play words = found_play samples words
found_verb samples names.Serve words = found_serve samples words
found_verb samples names.Stop words = found_stop samples words
found_verb samples names.Begin words = found_begin samples words
found_verb samples names.Add words = found_add samples words
found_verb samples names.End words = found_end samples words
found_verb samples names.Levels words = found_levels samples words

again_record : (samples : List (List ℕ)) (file : List ℕ) → IsTrue (is_file file) → record_at samples (file ∷ []) ≡ Some (made (verbs.Record (tape_of samples file)) None (Some file), [])
unfolding record_at
again_record samples file h0 =
    rw (file_again file ([]) h0) refl

again_sub : (samples : List (List ℕ)) (rope : RopeArg) (start : ℕ) (len : ℕ) → IsRope rope → start ≤ 4294967295 → len ≤ 4294967295 → sub_at (rope_text rope ∷ decimal start ∷ decimal len ∷ []) ≡ Some (just (verbs.Sub rope start len), [])
unfolding sub_at
again_sub samples rope start len h0 h1 h2 =
    rw (rope_again rope (decimal start ∷ decimal len ∷ []) h0, number_again 4294967295 start (decimal len ∷ []) (lit< tt) h1, number_again 4294967295 len ([]) (lit< tt) h2) refl

again_replace : (samples : List (List ℕ)) (rope : RopeArg) (start : ℕ) (len : ℕ) (with : RopeArg) → IsRope rope → start ≤ 4294967295 → len ≤ 4294967295 → IsRope with → replace_at (rope_text rope ∷ decimal start ∷ decimal len ∷ rope_text with ∷ []) ≡ Some (just (verbs.Replace rope start len with), [])
unfolding replace_at
again_replace samples rope start len with h0 h1 h2 h3 =
    rw (rope_again rope (decimal start ∷ decimal len ∷ rope_text with ∷ []) h0, number_again 4294967295 start (decimal len ∷ rope_text with ∷ []) (lit< tt) h1, number_again 4294967295 len (rope_text with ∷ []) (lit< tt) h2, rope_again with ([]) h3) refl

again_length : (samples : List (List ℕ)) (rope : RopeArg) → IsRope rope → length_at (rope_text rope ∷ []) ≡ Some (just (verbs.Length rope), [])
unfolding length_at
again_length samples rope h0 =
    rw (rope_again rope ([]) h0) refl

again_retain : (samples : List (List ℕ)) (class : Class) (key : List ℕ) (rope : RopeArg) (note : List ℕ) → IsTrue (is_key key) → IsRope rope → IsNote note → retain_at (class_text class ∷ key ∷ rope_text rope ∷ note_text note ∷ []) ≡ Some (just (verbs.Retain class key rope note), [])
unfolding retain_at
again_retain samples class key rope note h1 h2 h3 =
    rw (class_again class (key ∷ rope_text rope ∷ note_text note ∷ []), key_again key (rope_text rope ∷ note_text note ∷ []) h1, rope_again rope (note_text note ∷ []) h2, note_again note ([]) h3) refl

again_forget : (samples : List (List ℕ)) (class : Class) (key : List ℕ) → IsTrue (is_key key) → forget_at (class_text class ∷ key ∷ []) ≡ Some (just (verbs.Forget class key), [])
unfolding forget_at
again_forget samples class key h1 =
    rw (class_again class (key ∷ []), key_again key ([]) h1) refl

again_lookup : (samples : List (List ℕ)) (class : Class) (key : List ℕ) → IsTrue (is_key key) → lookup_at (class_text class ∷ key ∷ []) ≡ Some (just (verbs.Lookup class key), [])
unfolding lookup_at
again_lookup samples class key h1 =
    rw (class_again class (key ∷ []), key_again key ([]) h1) refl

again_advance : (samples : List (List ℕ)) (moment : ℕ) → moment ≤ (2 ^ 40) → advance_at (decimal moment ∷ []) ≡ Some (just (verbs.Advance moment), [])
unfolding advance_at
again_advance samples moment h0 =
    rw (number_again (2 ^ 40) moment ([]) (lit< tt) h0) refl

again_sweep : (samples : List (List ℕ)) (limit : ℕ) → limit ≤ 65535 → sweep_at (decimal limit ∷ []) ≡ Some (just (verbs.Sweep limit), [])
unfolding sweep_at
again_sweep samples limit h0 =
    rw (number_again 65535 limit ([]) (lit< tt) h0) refl

again_describe : (samples : List (List ℕ)) (rope : RopeArg) → IsRope rope → describe_at (rope_text rope ∷ []) ≡ Some (just (verbs.Describe rope), [])
unfolding describe_at
again_describe samples rope h0 =
    rw (rope_again rope ([]) h0) refl

again_queue : (samples : List (List ℕ)) (lane : ℕ) (rope : RopeArg) (start : ℕ) (len : ℕ) → lane ≤ 15 → IsRope rope → start ≤ 4294967295 → len ≤ 4294967295 → queue_at (decimal lane ∷ rope_text rope ∷ decimal start ∷ decimal len ∷ []) ≡ Some (just (verbs.Queue lane rope start len), [])
unfolding queue_at
again_queue samples lane rope start len h0 h1 h2 h3 =
    rw (number_again 15 lane (rope_text rope ∷ decimal start ∷ decimal len ∷ []) (lit< tt) h0, rope_again rope (decimal start ∷ decimal len ∷ []) h1, number_again 4294967295 start (decimal len ∷ []) (lit< tt) h2, number_again 4294967295 len ([]) (lit< tt) h3) refl

again_play : (samples : List (List ℕ)) (lane : ℕ) (rope : RopeArg) (start : ℕ) (len : ℕ) (file : List ℕ) → lane ≤ 15 → IsRope rope → start ≤ 4294967295 → len ≤ 4294967295 → IsTrue (is_file file) → play_at (decimal lane ∷ rope_text rope ∷ decimal start ∷ decimal len ∷ file ∷ []) ≡ Some (made (verbs.Play lane rope start len) (Some file) None, [])
unfolding play_at
again_play samples lane rope start len file h0 h1 h2 h3 h4 =
    rw (number_again 15 lane (rope_text rope ∷ decimal start ∷ decimal len ∷ file ∷ []) (lit< tt) h0, rope_again rope (decimal start ∷ decimal len ∷ file ∷ []) h1, number_again 4294967295 start (decimal len ∷ file ∷ []) (lit< tt) h2, number_again 4294967295 len (file ∷ []) (lit< tt) h3, file_again file ([]) h4) refl

again_serve : (samples : List (List ℕ)) (lane : ℕ) (file : List ℕ) → lane ≤ 15 → IsTrue (is_file file) → serve_at (decimal lane ∷ file ∷ []) ≡ Some (made (verbs.Serve lane) (Some file) None, [])
unfolding serve_at
again_serve samples lane file h0 h1 =
    rw (number_again 15 lane (file ∷ []) (lit< tt) h0, file_again file ([]) h1) refl

again_stop : (samples : List (List ℕ)) (lane : ℕ) → lane ≤ 15 → stop_at (decimal lane ∷ []) ≡ Some (just (verbs.Stop lane), [])
unfolding stop_at
again_stop samples lane h0 =
    rw (number_again 15 lane ([]) (lit< tt) h0) refl

again_begin : (samples : List (List ℕ)) (lane : ℕ) → lane ≤ 15 → begin_at (decimal lane ∷ []) ≡ Some (just (verbs.Begin lane), [])
unfolding begin_at
again_begin samples lane h0 =
    rw (number_again 15 lane ([]) (lit< tt) h0) refl

again_add : (samples : List (List ℕ)) (lane : ℕ) (file : List ℕ) → lane ≤ 15 → IsTrue (is_file file) → add_at samples (decimal lane ∷ file ∷ []) ≡ Some (made (verbs.Add lane (tape_of samples file)) None (Some file), [])
unfolding add_at
again_add samples lane file h0 h1 =
    rw (number_again 15 lane (file ∷ []) (lit< tt) h0, file_again file ([]) h1) refl

again_end : (samples : List (List ℕ)) (lane : ℕ) → lane ≤ 15 → end_at (decimal lane ∷ []) ≡ Some (just (verbs.End lane), [])
unfolding end_at
again_end samples lane h0 =
    rw (number_again 15 lane ([]) (lit< tt) h0) refl

again_levels : (samples : List (List ℕ)) (rope : RopeArg) → IsRope rope → levels_at (rope_text rope ∷ []) ≡ Some (just (verbs.Levels rope), [])
unfolding levels_at
again_levels samples rope h0 =
    rw (rope_again rope ([]) h0) refl

again_concat : (args : List RopeArg) → 0 < length args → length args ≤ 16 → Every IsRope args → concat_at (map rope_text args) ≡ Some (just (verbs.Concat args), [])
unfolding concat_at
again_concat args some most h = rw (ropes_again args h, few_true (length args) some most) refl

again_census : (keys : Rest) → length keys ≤ 1024 → Every (λ key. IsTrue (is_key key)) keys → census_at keys ≡ Some (just (verbs.Census keys), [])
unfolding census_at
again_census keys most h = rw (keys_again keys h, le_true (length keys) 1024 most) refl

pub said_again : (samples : List (List ℕ)) (verb : Verb) (file sample : Option (List ℕ)) → Fits samples verb file sample → verb_at samples (verb_name verb) (arguments verb file sample) ≡ Some (made verb file sample, [])
said_again samples (verbs.Record tape) file None f = absurd f.1
said_again samples (verbs.Record tape) file (Some name) f =
    again_record samples name f.1.0 ∙ ap (λ x. Some (made (verbs.Record x) None (Some name), [])) (sym f.1.1) ∙ ap (λ x. Some (made (verbs.Record tape) x (Some name), [])) (sym f.0)
said_again samples (verbs.Concat args) file sample f = again_concat args f.2 f.3 f.4 ∙ plain (verbs.Concat args) file sample f.0 f.1
said_again samples (verbs.Sub rope start len) file sample f = again_sub samples rope start len f.2 f.3 f.4 ∙ plain (verbs.Sub rope start len) file sample f.0 f.1
said_again samples (verbs.Replace rope start len with) file sample f = again_replace samples rope start len with f.2 f.3 f.4 f.5 ∙ plain (verbs.Replace rope start len with) file sample f.0 f.1
said_again samples (verbs.Length rope) file sample f = again_length samples rope f.2 ∙ plain (verbs.Length rope) file sample f.0 f.1
said_again samples (verbs.Retain class key rope note) file sample f = again_retain samples class key rope note f.2 f.3 f.4 ∙ plain (verbs.Retain class key rope note) file sample f.0 f.1
said_again samples (verbs.Forget class key) file sample f = again_forget samples class key f.2 ∙ plain (verbs.Forget class key) file sample f.0 f.1
said_again samples (verbs.Lookup class key) file sample f = again_lookup samples class key f.2 ∙ plain (verbs.Lookup class key) file sample f.0 f.1
said_again samples (verbs.Census keys) file sample f = again_census keys f.2 f.3 ∙ plain (verbs.Census keys) file sample f.0 f.1
said_again samples (verbs.Advance moment) file sample f = again_advance samples moment f.2 ∙ plain (verbs.Advance moment) file sample f.0 f.1
said_again samples (verbs.Sweep limit) file sample f = again_sweep samples limit f.2 ∙ plain (verbs.Sweep limit) file sample f.0 f.1
said_again samples (verbs.Describe rope) file sample f = again_describe samples rope f.2 ∙ plain (verbs.Describe rope) file sample f.0 f.1
said_again samples (verbs.Queue lane rope start len) file sample f = again_queue samples lane rope start len f.2 f.3 f.4 f.5 ∙ plain (verbs.Queue lane rope start len) file sample f.0 f.1
said_again samples (verbs.Play lane rope start len) None sample f = absurd f.0
said_again samples (verbs.Play lane rope start len) (Some file) sample f = again_play samples lane rope start len file f.2 f.3 f.4 f.5 f.0 ∙ ap (λ x. Some (made (verbs.Play lane rope start len) (Some file) x, [])) (sym f.1)
said_again samples (verbs.Serve lane) None sample f = absurd f.0
said_again samples (verbs.Serve lane) (Some file) sample f = again_serve samples lane file f.2 f.0 ∙ ap (λ x. Some (made (verbs.Serve lane) (Some file) x, [])) (sym f.1)
said_again samples (verbs.Stop lane) file sample f = again_stop samples lane f.2 ∙ plain (verbs.Stop lane) file sample f.0 f.1
said_again samples (verbs.Begin lane) file sample f = again_begin samples lane f.2 ∙ plain (verbs.Begin lane) file sample f.0 f.1
said_again samples (verbs.Add lane tape) file None f = absurd f.1
said_again samples (verbs.Add lane tape) file (Some name) f =
    again_add samples lane name f.2 f.1.0 ∙ ap (λ x. Some (made (verbs.Add lane x) None (Some name), [])) (sym f.1.1) ∙ ap (λ x. Some (made (verbs.Add lane tape) x (Some name), [])) (sym f.0)
said_again samples (verbs.End lane) file sample f = again_end samples lane f.2 ∙ plain (verbs.End lane) file sample f.0 f.1
said_again samples (verbs.Levels rope) file sample f = again_levels samples rope f.2 ∙ plain (verbs.Levels rope) file sample f.0 f.1

whole_ok : (o : Option (Said × Rest)) (s : Said) → whole o ≡ Some s → o ≡ Some (s, [])
whole_ok None s e = cc
whole_ok (Some (t, [])) s e = ap (λ x. Some (x, [])) (some_is t s e)
whole_ok (Some (t, (w ∷ ws))) s e = cc

-- what is read is spelled so
pub said_found : (samples : List (List ℕ)) (name : VerbName) (words : Rest) (said : Said) → said_of samples name words ≡ Some said → IsSaid samples name said words []
unfolding said_of
said_found samples name words said e = found_verb samples name words [] said (whole_ok (verb_at samples name words) said e)

-- what is spelled so is read
pub said_spelled : (samples : List (List ℕ)) (said : Said) → Fits samples said.verb said.file said.sample → said_of samples (verb_name said.verb) (arguments said.verb said.file said.sample) ≡ Some said
unfolding said_of
said_spelled samples said f = ap whole (said_again samples said.verb said.file said.sample f)
