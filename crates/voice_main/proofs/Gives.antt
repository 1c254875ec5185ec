-- The names of the files that the lines so far gave each caller.
use Rattle.std.proofs.Common.{◌≡◌, ◌<◌, ◌≤◌, ◌+◌, ℕ, suc, List, [], ◌∷◌, ◌++◌, length, get_or, set, cond, Bool, true, false, refl, sym, ap, subst, ◌∙◌, arith, append-nil}
use Rattle.std.specs.Prelude.{◌==◌, Vec, All}
use Rattle.std.specs.declared.alloc.Global.{Global}
use Rattle.std.proofs.lemmas.List.Elements.{filter-append}
use Rattle.std.proofs.lemmas.Bool.Decides.{nat_tests}
use Rattle.voice_model.specs.declared.calls.Entry.{Entry}
use Rattle.voice_model.specs.Follows.{Binding, variables_after}
use Rattle.script_lang.specs.declared.scripts.Line.{Line}
use Rattle.servings.specs.Asked.{asked_entries}
use Rattle.served_files.specs.declared.heard.Heard.{Heard}
use Rattle.served_files.specs.Lines.{DoesLine, lines_of_caller, entries_of_caller}
use Rattle.served_files.specs.Given.{GivesFiles, gives_file, given_name, names_in}
use Rattle.served_files.specs.Files.{heard_of}
use Rattle.served_files.proofs.Names.{ReachesGiving, giving_start, giving_more, giving_done}
use Rattle.served_files.proofs.SoFar.{heard_at}
use Rattle.voice_main.specs.Ordered.{Variables, unset, with_those_of}
use Rattle.voice_main.specs.Done.{LineDone}
use Rattle.voice_main.proofs.Followed.{all_by, same_caller}
use Rattle.voice_main.proofs.HeardLists.{set_here, set_there, none_heard}

-- each caller's lines so far are done and gave the files that it heard, and then these variables stand
pub record EachGives (tapes : List (List ℕ)) (lines : List Line) (history : List Entry) (variables : Variables) (lists : List (Vec Heard Global)) : Type 0 where
  pub gives : (c : ℕ) → 1 ≤ c → ReachesGiving tapes (lines_of_caller c lines) (variables c) (entries_of_caller c (asked_entries history)) (names_in (heard_of lists c))

pub none_given : (tapes : List (List ℕ)) (history : List Entry) (lists : List (Vec Heard Global)) → history ≡ [] → All (λ (v : Vec Heard Global). v.items ≡ []) lists → EachGives tapes [] history unset lists
none_given tapes history lists none nothing = record {
  gives = λ c some.
      subst (λ l. ReachesGiving tapes [] [] l (names_in (heard_of lists c))) (sym (ap (λ h. entries_of_caller c (asked_entries h)) none))
      (subst (λ l. ReachesGiving tapes [] [] [] (names_in l)) (sym (none_heard lists nothing c)) (giving_start tapes));
}

gives_at : (b : Bool) (tapes : List (List ℕ)) (line : Line) (c : ℕ) (variables : Variables) (lines : List Line) (before own : List Entry) (names : List (List ℕ)) → (line.caller == c) ≡ b → ReachesGiving tapes lines (variables c) before names
    → DoesLine tapes (variables line.caller) line own
    → ReachesGiving tapes (lines ++ cond b (line ∷ []) []) (cond b (variables_after line.bind own (variables line.caller)) (variables c)) (before ++ cond b own []) (names ++ cond b (given_name (gives_file own) line.file) [])
gives_at true tapes line c variables lines before own names is h does =
    giving_more tapes lines line (variables line.caller) before own names (subst (λ n. ReachesGiving tapes lines (variables n) before names) (sym (same_caller line.caller c is)) h) does
gives_at false tapes line c variables lines before own names is h does =
    subst (λ l. ReachesGiving tapes l (variables c) (before ++ []) (names ++ [])) (sym (append-nil lines))
    (subst (λ l. ReachesGiving tapes lines (variables c) l (names ++ [])) (sym (append-nil before)) (subst (ReachesGiving tapes lines (variables c) before) (sym (append-nil names)) h))

names_at : (b : Bool) (lists : List (Vec Heard Global)) (j caller c : ℕ) (v w : Vec Heard Global) (given : List (List ℕ)) → (caller == c) ≡ b → j + 1 ≡ caller → j < length lists → v ≡ get_or lists j v → names_in w.items ≡ names_in v.items ++ given
    → names_in (heard_of (set lists j w) c) ≡ names_in (heard_of lists c) ++ cond b given []
names_at true lists j caller c v w given is at within there more =
    let here : suc j ≡ c = (let same = same_caller caller c is in omega (arith, at, same)) in
    sym (ap (λ n. names_in (heard_of (set lists j w) n)) here) ∙ ap names_in (set_here lists j w within) ∙ more ∙ ap (λ l. names_in l ++ given) (sym (heard_at lists j v within there)) ∙ ap (λ n. names_in (heard_of lists n) ++ given) here
names_at false lists j caller c v w given is at within there more =
    let apart : ¬ (suc j ≡ c) = λ same. not_same (omega (arith, at, same)) in
    ap names_in (set_there lists j c w apart) ∙ sym (append-nil (names_in (heard_of lists c)))
  where
    not_same : caller ≡ c → ⊥
    not_same same = grind (arith, nat_tests)

-- one line more was done
pub gives_more :
    (tapes : List (List ℕ)) (lines : List Line) (line : Line) (old new : List Entry) (variables : Variables) (lists : List (Vec Heard Global)) (j : ℕ) (v w : Vec Heard Global) (after : List Binding) → j + 1 ≡ line.caller → j < length lists → v ≡ get_or lists j v
    → EachGives tapes lines old variables lists → (done : LineDone tapes line (variables line.caller) after old new v.items w.items)
    → EachGives tapes (lines ++ line ∷ []) new (with_those_of line.caller (variables_after line.bind done.own (variables line.caller)) variables) (set lists j w)
gives_more tapes lines line old new variables lists j v w after at within there h done = record {
  gives = λ c some.
      let b : Bool = line.caller == c in
      let values : List Binding = variables_after line.bind done.own (variables line.caller) in
      let entries : entries_of_caller c (asked_entries new) ≡ entries_of_caller c (asked_entries old) ++ cond b done.own [] =
      ap (entries_of_caller c) done.added ∙ filter-append (λ e. e.caller == c) (asked_entries old) done.own ∙ ap (λ l. entries_of_caller c (asked_entries old) ++ l) (all_by line.caller done.own c done.by) in
      let named = names_at b lists j line.caller c v w (given_name (gives_file done.own) line.file) refl at within there done.names in
      let ls = filter-append (λ (l : Line). l.caller == c) lines (line ∷ []) in
      let here = gives_at b tapes line c variables (lines_of_caller c lines) (entries_of_caller c (asked_entries old)) done.own (names_in (heard_of lists c)) refl (h.gives c some) done.does in
      subst (λ l. ReachesGiving tapes l (cond b values (variables c)) (entries_of_caller c (asked_entries new)) (names_in (heard_of (set lists j w) c))) (sym ls)
      (subst (λ l. ReachesGiving tapes (lines_of_caller c lines ++ cond b (line ∷ []) []) (cond b values (variables c)) l (names_in (heard_of (set lists j w) c))) (sym entries)
      (subst (ReachesGiving tapes (lines_of_caller c lines ++ cond b (line ∷ []) []) (cond b values (variables c)) (entries_of_caller c (asked_entries old) ++ cond b done.own [])) (sym named) here));
}

-- what each caller was given
pub given_so : (tapes : List (List ℕ)) (lines : List Line) (history : List Entry) (variables : Variables) (lists : List (Vec Heard Global)) → EachGives tapes lines history variables lists → (c : ℕ) → 1 ≤ c
    → GivesFiles tapes [] (lines_of_caller c lines) (entries_of_caller c (asked_entries history)) (names_in (heard_of lists c))
given_so tapes lines history variables lists h c some = giving_done tapes (lines_of_caller c lines) (variables c) (entries_of_caller c (asked_entries history)) (names_in (heard_of lists c)) (h.gives c some)
