-- What a generated line says in the language.
use Rattle.std.proofs.Common.{◌≡◌, ℕ, ◌+◌, ◌<◌, ◌≤◌, true, false, ◌&&◌, ◌||◌, not, eqb, List, [], ◌∷◌, ◌++◌, get_or, map, sym, refl, ap, ◌∙◌, arith, Option, Some, None, lit<, lit≤}
use Rattle.std.specs.Prelude.{codes, IsTrue}
use Rattle.std.specs.Fmt.{decimal, digits}
use Rattle.std.specs.List.{list_any, list_all}
use Rattle.std.proofs.lemmas.Bool.{or_from}
use Rattle.std.proofs.lemmas.Bool.Decides.{nat_tests}
use Rattle.std.proofs.lemmas.List.Folds.{list_any-append}
use Rattle.voice_model.specs.declared.calls.Class.TheVariants as classes
use Rattle.script_gen.specs.declared.lines.Order.{Order}
use Rattle.script_gen.specs.declared.lines.Order.TheVariants as orders
use Rattle.script_gen.specs.declared.lines.Line as made
use Rattle.script_gen.specs.Lines.{words_of, line_text, variable, file_name, key_name}
use Rattle.script_gen.specs.Scripts.{file_of}
use Rattle.script_gen.specs.Scripts as scripts
use Rattle.script_lang.specs.declared.scripts.RopeArg.TheVariants as ropes
use Rattle.script_lang.specs.declared.scripts.Verb.TheVariants as verbs
use Rattle.script_lang.specs.declared.scripts.Line.{Line}
use Rattle.script_lang.specs.declared.phrases.Said.{Said}
use Rattle.script_lang.specs.declared.sentence.Spoken.{Spoken}
use Rattle.script_lang.specs.Samples.{tape_of}
use Rattle.script_lang.specs.Shown.{Reading}
use Rattle.script_lang.specs.Parts.{served, serves, is_other, is_taken, mention, with_line, line_of}
use Rattle.script_lang.specs.Verbs.{is_built_verb}
use Rattle.script_lang.specs.Words.{are_quiet, some_bytes}
use Rattle.script_lang.specs.Grammar.{Every, Fits, IsBound, IsSpoken, AddsCall, verb_name, wording}
use Rattle.script_lang.proofs.Digits.{decimal_first}
use Rattle.made_scripts.proofs.Texts.{IsWord, is_printed, words_are, words_plain}
use Rattle.made_scripts.proofs.Named.{Few, number_word, variable_word, file_word, key_word, variable_form, file_form, key_form}
use Rattle.made_scripts.proofs.Drawn.{Within, IsDrawn}
use Rattle.made_scripts.proofs.Mentioned.{mention_same, mention_few}

-- what an order says, after some sample files
abbrev pub said_of : List (List ℕ) → Order → Said
said_of samples (orders.Record into file) = record { verb = verbs.Record (tape_of samples (file_name file)); file = None; sample = Some (file_name file) }
said_of samples (orders.Concat into first second) = record { verb = verbs.Concat (ropes.Var (variable first) ∷ ropes.Var (variable second) ∷ []); file = None; sample = None }
said_of samples (orders.Sub into rope start len) = record { verb = verbs.Sub (ropes.Var (variable rope)) start len; file = None; sample = None }
said_of samples (orders.Replace into rope start len with) = record { verb = verbs.Replace (ropes.Var (variable rope)) start len (ropes.Var (variable with)); file = None; sample = None }
said_of samples (orders.Length rope) = record { verb = verbs.Length (ropes.Var (variable rope)); file = None; sample = None }
said_of samples (orders.Play lane rope start len) = record { verb = verbs.Play lane (ropes.Var (variable rope)) start len; file = Some (codes "out"); sample = None }
said_of samples (orders.Retain key rope) = record { verb = verbs.Retain classes.Held (key_name key) (ropes.Var (variable rope)) []; file = None; sample = None }
said_of samples (orders.Forget key) = record { verb = verbs.Forget classes.Held (key_name key); file = None; sample = None }
said_of samples (orders.Advance moment) = record { verb = verbs.Advance moment; file = None; sample = None }
said_of samples orders.Sweep = record { verb = verbs.Sweep 64; file = None; sample = None }

-- the variable that it binds
abbrev pub bound_by : Order → Option (List ℕ)
bound_by (orders.Record into file) = Some (variable into)
bound_by (orders.Concat into first second) = Some (variable into)
bound_by (orders.Sub into rope start len) = Some (variable into)
bound_by (orders.Replace into rope start len with) = Some (variable into)
bound_by (orders.Length rope) = None
bound_by (orders.Play lane rope start len) = None
bound_by (orders.Retain key rope) = None
bound_by (orders.Forget key) = None
bound_by (orders.Advance moment) = None
bound_by orders.Sweep = None

abbrev pub spoken_by : List (List ℕ) → made.Line → Spoken
spoken_by samples l = record { caller = l.caller; bind = bound_by l.order; said = said_of samples l.order }

-- its words
fixed : (w : List ℕ) → some_bytes w ≡ true → list_all is_printed w ≡ true → IsWord w
fixed w some printed = record { some = some; printed = printed }

sixty_four : decimal 64 ≡ codes "64"
unfolding digits
sixty_four = refl

are_words : (caller : ℕ) (order : Order) → Within caller order → Every IsWord (words_of order)
are_words caller (orders.Record into file) h = (variable_word into h.0, (fixed (codes "=") refl refl, (fixed (codes "record") refl refl, (file_word file h.1, tt))))
are_words caller (orders.Concat into first second) h =
    (variable_word into h.0, (fixed (codes "=") refl refl, (fixed (codes "concat") refl refl, (variable_word first h.1, (variable_word second h.2, tt)))))
are_words caller (orders.Sub into rope start len) h =
    (variable_word into h.0, (fixed (codes "=") refl refl, (fixed (codes "sub") refl refl, (variable_word rope h.1, (number_word start h.2, (number_word len h.3, tt))))))
are_words caller (orders.Replace into rope start len with) h =
    (variable_word into h.0, (fixed (codes "=") refl refl, (fixed (codes "replace") refl refl, (variable_word rope h.1, (number_word start h.2, (number_word len h.3, (variable_word with h.4, tt)))))))
are_words caller (orders.Length rope) h = (fixed (codes "length") refl refl, (variable_word rope h, tt))
are_words caller (orders.Play lane rope start len) h =
    (fixed (codes "play") refl refl, (number_word lane (omega (arith, h.1)), (variable_word rope h.2, (number_word start h.3, (number_word len h.4, (fixed (codes "out") refl refl, tt))))))
are_words caller (orders.Retain key rope) h =
    (fixed (codes "retain") refl refl, (fixed (codes "held") refl refl, (key_word key h.0, (variable_word rope h.1, (fixed (codes "-") refl refl, tt)))))
are_words caller (orders.Forget key) h = (fixed (codes "forget") refl refl, (fixed (codes "held") refl refl, (key_word key h, tt)))
are_words caller (orders.Advance moment) h = (fixed (codes "advance") refl refl, (number_word moment h, tt))
are_words caller orders.Sweep h = (fixed (codes "sweep") refl refl, (fixed (codes "64") refl refl, tt))

-- are those that the language has for what it says
worded : (samples : List (List ℕ)) (caller : ℕ) (order : Order)
    → (let l : made.Line = record { caller = caller; order = order } in decimal caller ∷ words_of order ≡ wording (spoken_by samples l))
worded samples caller (orders.Record into file) = refl
worded samples caller (orders.Concat into first second) = refl
worded samples caller (orders.Sub into rope start len) = refl
worded samples caller (orders.Replace into rope start len with) = refl
worded samples caller (orders.Length rope) = refl
worded samples caller (orders.Play lane rope start len) = refl
worded samples caller (orders.Retain key rope) = refl
worded samples caller (orders.Forget key) = refl
worded samples caller (orders.Advance moment) = refl
worded samples caller orders.Sweep = ap (λ w. decimal caller ∷ (codes "sweep" ∷ (w ∷ []))) (sym sixty_four)

none_above : (i : ℕ) → get_or [] i 0 < 256
none_above i = lit< tt

fit : (samples : List (List ℕ)) (caller : ℕ) (order : Order) → Within caller order → Fits samples (said_of samples order).verb (said_of samples order).file (said_of samples order).sample
fit samples caller (orders.Record into file) h = (refl, (file_form file h.1, refl))
fit samples caller (orders.Concat into first second) h = (refl, refl, lit< tt, lit≤ tt, (variable_form first h.1, (variable_form second h.2, tt)))
fit samples caller (orders.Sub into rope start len) h = (refl, refl, variable_form rope h.1, omega (arith, h.2), omega (arith, h.3))
fit samples caller (orders.Replace into rope start len with) h = (refl, refl, variable_form rope h.1, omega (arith, h.2), omega (arith, h.3), variable_form with h.4)
fit samples caller (orders.Length rope) h = (refl, refl, variable_form rope h)
fit samples caller (orders.Play lane rope start len) h = (refl, refl, h.1, variable_form rope h.2, omega (arith, h.3), omega (arith, h.4))
fit samples caller (orders.Retain key rope) h = (refl, refl, key_form key h.0, variable_form rope h.1, (lit≤ tt, none_above))
fit samples caller (orders.Forget key) h = (refl, refl, key_form key h)
fit samples caller (orders.Advance moment) h = (refl, refl, omega (arith, h))
fit samples caller orders.Sweep h = (refl, refl, lit≤ tt)

built : (samples : List (List ℕ)) (order : Order) → IsTrue (is_built_verb (verb_name (said_of samples order).verb))
built samples (orders.Record into file) = refl
built samples (orders.Concat into first second) = refl
built samples (orders.Sub into rope start len) = refl
built samples (orders.Replace into rope start len with) = refl
built samples (orders.Length rope) = refl
built samples (orders.Play lane rope start len) = refl
built samples (orders.Retain key rope) = refl
built samples (orders.Forget key) = refl
built samples (orders.Advance moment) = refl
built samples orders.Sweep = refl

binds_so : (samples : List (List ℕ)) (caller : ℕ) (order : Order) → Within caller order → IsBound (said_of samples order).verb (bound_by order)
binds_so samples caller (orders.Record into file) h = (variable_form into h.0, refl)
binds_so samples caller (orders.Concat into first second) h = (variable_form into h.0, refl)
binds_so samples caller (orders.Sub into rope start len) h = (variable_form into h.0, refl)
binds_so samples caller (orders.Replace into rope start len with) h = (variable_form into h.0, refl)
binds_so samples caller (orders.Length rope) h = tt
binds_so samples caller (orders.Play lane rope start len) h = tt
binds_so samples caller (orders.Retain key rope) h = tt
binds_so samples caller (orders.Forget key) h = tt
binds_so samples caller (orders.Advance moment) h = tt
binds_so samples caller orders.Sweep h = tt

spoken_is : (samples : List (List ℕ)) (l : made.Line) → IsDrawn l → IsSpoken is_built_verb samples (spoken_by samples l)
spoken_is samples l h =
    let few = h.most in
    record { least = h.least; most = omega arith; taken = built samples l.order; fits = fit samples l.caller l.order h.within; bind = binds_so samples l.caller l.order h.within }

-- each line that serves a lane serves that of its own caller
abbrev pub OwnLanes : List Line → Type 0
OwnLanes lines = (lane : ℕ) → list_any (serves (lane + 1) lane) lines ≡ false

free : (lines : List Line) (samples : List (List ℕ)) (caller : ℕ) (order : Order) → OwnLanes lines → Within caller order → is_taken lines caller (served (said_of samples order).verb) ≡ false
free lines samples caller (orders.Record into file) own h = refl
free lines samples caller (orders.Concat into first second) own h = refl
free lines samples caller (orders.Sub into rope start len) own h = refl
free lines samples caller (orders.Replace into rope start len with) own h = refl
free lines samples caller (orders.Length rope) own h = refl
free lines samples caller (orders.Play lane rope start len) own h = ap (λ c. list_any (serves c lane) lines) h.0 ∙ own lane
free lines samples caller (orders.Retain key rope) own h = refl
free lines samples caller (orders.Forget key) own h = refl
free lines samples caller (orders.Advance moment) own h = refl
free lines samples caller orders.Sweep own h = refl

played : (caller lane other : ℕ) → caller ≡ lane + 1 → (eqb lane other && not (eqb caller (other + 1))) ≡ false
played caller lane other e = grind (arith, nat_tests)

own_lane : (samples : List (List ℕ)) (caller lane : ℕ) (order : Order) → Within caller order → is_other (served (said_of samples order).verb) lane caller (lane + 1) ≡ false
own_lane samples caller lane (orders.Record into file) h = refl
own_lane samples caller lane (orders.Concat into first second) h = refl
own_lane samples caller lane (orders.Sub into rope start len) h = refl
own_lane samples caller lane (orders.Replace into rope start len with) h = refl
own_lane samples caller lane (orders.Length rope) h = refl
own_lane samples caller lane (orders.Play mine rope start len) h = played caller mine lane h.0
own_lane samples caller lane (orders.Retain key rope) h = refl
own_lane samples caller lane (orders.Forget key) h = refl
own_lane samples caller lane (orders.Advance moment) h = refl
own_lane samples caller lane orders.Sweep h = refl

pub own_more : (lines : List Line) (samples : List (List ℕ)) (n : ℕ) (l : made.Line) → OwnLanes lines → IsDrawn l → OwnLanes (lines ++ line_of n (spoken_by samples l) ∷ [])
own_more lines samples n l own h lane =
    let new = line_of n (spoken_by samples l) in
    list_any-append (serves (lane + 1) lane) lines (new ∷ [])
    ∙ or_from (list_any (serves (lane + 1) lane) lines) (serves (lane + 1) lane new || false) (own lane) (or_from (serves (lane + 1) lane new) false (own_lane samples l.caller lane l.order h.within) refl)

-- the line is one of the language
no_comment : (n : ℕ) → n ≤ 4 → eqb (get_or (decimal n) 0 0) 35 ≡ false
no_comment n h = let f = decimal_first n (omega arith) in grind (arith, nat_tests, f)

pub line_said : (n : ℕ) (r : Reading) (l : made.Line) → OwnLanes r.lines → IsDrawn l → AddsCall is_built_verb n r (line_text l) (with_line n r (spoken_by r.samples l))
line_said n r l own h =
    let few = h.most in
    let first = number_word l.caller (omega arith) in
    let others = are_words l.caller l.order h.within in
    let words = words_are (decimal l.caller) (words_of l.order) first others in
    record {
      makes = ap are_quiet words ∙ no_comment l.caller h.most;
      plain = words_plain (decimal l.caller) (words_of l.order) first others;
      spoken = spoken_by r.samples l;
      words = words ∙ worded r.samples l.caller l.order;
      fits = spoken_is r.samples l h;
      free = free r.lines r.samples l.caller l.order own h.within;
      grown = refl;
    }

-- the sample files with that of the line
pub mentions : (files : List ℕ) (samples : List (List ℕ)) (caller : ℕ) (order : Order) → Every Few files → Within caller order
    → mention (map file_name files) (said_of samples order).sample ≡ map file_name (scripts.mention files (file_of order))
mentions files samples caller (orders.Record into file) few h = mention_same files file few h.1
mentions files samples caller (orders.Concat into first second) few h = refl
mentions files samples caller (orders.Sub into rope start len) few h = refl
mentions files samples caller (orders.Replace into rope start len with) few h = refl
mentions files samples caller (orders.Length rope) few h = refl
mentions files samples caller (orders.Play lane rope start len) few h = refl
mentions files samples caller (orders.Retain key rope) few h = refl
mentions files samples caller (orders.Forget key) few h = refl
mentions files samples caller (orders.Advance moment) few h = refl
mentions files samples caller orders.Sweep few h = refl

pub files_few : (files : List ℕ) (caller : ℕ) (order : Order) → Every Few files → Within caller order → Every Few (scripts.mention files (file_of order))
files_few files caller (orders.Record into file) few h = mention_few files file few h.1
files_few files caller (orders.Concat into first second) few h = few
files_few files caller (orders.Sub into rope start len) few h = few
files_few files caller (orders.Replace into rope start len with) few h = few
files_few files caller (orders.Length rope) few h = few
files_few files caller (orders.Play lane rope start len) few h = few
files_few files caller (orders.Retain key rope) few h = few
files_few files caller (orders.Forget key) few h = few
files_few files caller (orders.Advance moment) few h = few
files_few files caller orders.Sweep few h = few
