-- Files by the names that lines give.
use Rattle.std.proofs.Common.{◌≡◌, ℕ, ◌+◌, Bool, true, false, cond, ◌&&◌, eqb, List, [], ◌∷◌, ◌++◌, map, length, Option, refl, sym, ap, ap₂, subst, ◌∙◌, append_assoc, append-nil, length-append, zero-add}
use Rattle.std.specs.Prelude.{count_by}
use Rattle.std.proofs.lemmas.List.Sums.{sum_by-cons, sum_by-append}
use Rattle.voice_model.specs.declared.calls.Entry.{Entry}
use Rattle.voice_model.specs.Follows.{Binding, Follows, variables_after}
use Rattle.voice_model.specs.Valid.{Every}
use Rattle.script_lang.specs.declared.scripts.Line.{Line}
use Rattle.script_lang.specs.declared.scripts.Verb.{Verb}
use Rattle.script_lang.specs.declared.scripts.Verb.TheVariants as verbs
use Rattle.script_lang.specs.Parts.{served}
use Rattle.script_lang.specs.Errands.{errand_of, asked, HasFile}
use Rattle.served_files.specs.declared.heard.Heard.{Heard}
use Rattle.served_files.specs.Files.{GivenFile, given_of}
use Rattle.served_files.specs.Lines.{DoesLine, entries_of_caller}
use Rattle.served_files.specs.Given.{ends_serving, gives_to, gives_file, given_name, GivesFiles, names_in}
use Rattle.served_files.proofs.Servings.{NoFeed, IsNamed, line_count}

-- entries that give files follow their lines
pub follows_of : (tapes : List (List ℕ)) (variables : List Binding) (lines : List Line) (es : List Entry) (names : List (List ℕ)) → GivesFiles tapes variables lines es names → Follows variables (map (errand_of tapes) lines) es
follows_of tapes variables [] es names h = h.0
follows_of tapes variables (line ∷ lines) es names h = (h.0, h.1, h.3, h.5, follows_of tapes (variables_after line.bind h.0 variables) lines h.1 h.2 h.6)

-- ---- as many names as servings

-- no line asks a feed
pub asks_no_feed : (tapes : List (List ℕ)) (verb : Verb) (variables : List Binding) → NoFeed (asked tapes verb variables)
asks_no_feed tapes (verbs.Serve lane) variables = tt
asks_no_feed tapes verb variables = refl

-- a line that serves a lane has a name for its file
pub file_named : (verb : Verb) (file : Option (List ℕ)) → HasFile verb file → IsNamed (served verb) file
file_named (verbs.Play lane rope start len) file h = h
file_named (verbs.Serve lane) file h = h
file_named verb file h = tt

-- as many entries end a serving as files are given
pub names_count : (tapes : List (List ℕ)) (variables : List Binding) (lines : List Line) (es : List Entry) (names : List (List ℕ)) → GivesFiles tapes variables lines es names → Every (λ line. HasFile line.verb line.file) lines
    → count_by ends_serving es ≡ length names
names_count tapes variables [] es names h named = ap (count_by ends_serving) h.0 ∙ sym (ap length h.1)
names_count tapes variables (line ∷ lines) es names h named =
    let own : List Entry = h.0 in
    let rest : List Entry = h.1 in
    let more : List (List ℕ) = h.2 in
    let here : List (List ℕ) = given_name (gives_file own) line.file in
    let one : count_by ends_serving own ≡ length here = line_count (asked tapes line.verb variables) (served line.verb) own line.file (asks_no_feed tapes line.verb variables) (file_named line.verb line.file named.0) h.5 in
    let later : count_by ends_serving rest ≡ length more = names_count tapes (variables_after line.bind own variables) lines rest more h.6 named.1 in
    ap (count_by ends_serving) h.3 ∙ sum_by-append (λ x. cond (ends_serving x) 1 0) own rest ∙ ap₂ (λ a b. a + b) one later ∙ sym (ap length h.4 ∙ length-append here more)

count_by_test : (b t : Bool) (e : Entry) (es : List Entry) (n : ℕ) → ends_serving e ≡ b → n ≡ count_by ends_serving es → cond (b && t) 1 0 + n ≡ count_by ends_serving (cond t (e ∷ es) es)
count_by_test true true e es n is same = ap (λ m. 1 + m) same ∙ sym (sum_by-cons (λ x. cond (ends_serving x) 1 0) e es ∙ ap (λ b. cond b 1 0 + count_by ends_serving es) is)
count_by_test false true e es n is same = ap (λ m. 0 + m) same ∙ sym (sum_by-cons (λ x. cond (ends_serving x) 1 0) e es ∙ ap (λ b. cond b 1 0 + count_by ends_serving es) is)
count_by_test true false e es n is same = zero-add n ∙ same
count_by_test false false e es n is same = zero-add n ∙ same

-- a caller is given as many files as entries of its own end a serving
pub count_of_caller : (c : ℕ) (history : List Entry) → count_by (gives_to c) history ≡ count_by ends_serving (entries_of_caller c history)
count_of_caller c [] = refl
count_of_caller c (e ∷ es) = sum_by-cons (λ x. cond (gives_to c x) 1 0) e es ∙ count_by_test (ends_serving e) (eqb e.caller c) e (entries_of_caller c es) (count_by (gives_to c) es) refl (count_of_caller c es)

-- ---- one line more

-- the lines so far are done and gave these files, and then these variables stand: what gives files from here on gives them behind those
pub record ReachesGiving (tapes : List (List ℕ)) (lines : List Line) (variables : List Binding) (own : List Entry) (names : List (List ℕ)) : Type 0 where
  pub on : (more : List Line) (entries : List Entry) (others : List (List ℕ)) → GivesFiles tapes variables more entries others → GivesFiles tapes [] (lines ++ more) (own ++ entries) (names ++ others)

-- nothing is done yet
pub giving_start : (tapes : List (List ℕ)) → ReachesGiving tapes [] [] [] []
giving_start tapes = record { on = λ more entries others h. h }

-- one line more is done, and gives its file, if it gives one
pub giving_more : (tapes : List (List ℕ)) (lines : List Line) (line : Line) (variables : List Binding) (own here : List Entry) (names : List (List ℕ)) → ReachesGiving tapes lines variables own names → DoesLine tapes variables line here
    → ReachesGiving tapes (lines ++ line ∷ []) (variables_after line.bind here variables) (own ++ here) (names ++ given_name (gives_file here) line.file)
giving_more tapes lines line variables own here names h does = record {
  on = λ more entries others rest.
      let given : List (List ℕ) = given_name (gives_file here) line.file in
      let there : GivesFiles tapes variables (line ∷ more) (here ++ entries) (given ++ others) = (here, entries, others, refl, refl, does, rest) in
      let whole : GivesFiles tapes [] (lines ++ line ∷ more) (own ++ (here ++ entries)) (names ++ (given ++ others)) = h.on (line ∷ more) (here ++ entries) (given ++ others) there in
      let entered : GivesFiles tapes [] (lines ++ line ∷ more) ((own ++ here) ++ entries) (names ++ (given ++ others)) =
      subst (λ l. GivesFiles tapes [] (lines ++ line ∷ more) l (names ++ (given ++ others))) (sym (append_assoc own here entries)) whole in
      let called : GivesFiles tapes [] (lines ++ line ∷ more) ((own ++ here) ++ entries) ((names ++ given) ++ others) =
      subst (λ l. GivesFiles tapes [] (lines ++ line ∷ more) ((own ++ here) ++ entries) l) (sym (append_assoc names given others)) entered in
      subst (λ l. GivesFiles tapes [] l ((own ++ here) ++ entries) ((names ++ given) ++ others)) (sym (append_assoc lines (line ∷ []) more)) called;
}

-- what the lines so far gave
pub giving_done : (tapes : List (List ℕ)) (lines : List Line) (variables : List Binding) (own : List Entry) (names : List (List ℕ)) → ReachesGiving tapes lines variables own names → GivesFiles tapes [] lines own names
giving_done tapes lines variables own names h =
    let whole : GivesFiles tapes [] (lines ++ []) (own ++ []) (names ++ []) = h.on [] [] [] (refl, refl) in
    subst (λ l. GivesFiles tapes [] l own names) (append-nil lines)
    (subst (λ l. GivesFiles tapes [] (lines ++ []) l names) (append-nil own)
    (subst (λ l. GivesFiles tapes [] (lines ++ []) (own ++ []) l) (append-nil names) whole))

-- ---- what was heard

-- the names of a caller's files are those that it heard
pub queue_names : (heard : List Heard) → map (λ (f : GivenFile). f.name) (map given_of heard) ≡ names_in heard
queue_names [] = refl
queue_names (h ∷ hs) = ap (λ l. h.file ∷ l) (queue_names hs)
