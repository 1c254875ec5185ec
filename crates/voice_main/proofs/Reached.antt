-- Where the lines of a script that were done have led.
use Rattle.std.proofs.Common.{◌≡◌, ◌<◌, ◌≤◌, ◌+◌, ℕ, inl, inr, ◌⊎◌, List, [], ◌∷◌, ◌++◌, length, get_or, set, take, refl, sym, ap, subst, ◌∙◌, arith, append_assoc, append-nil, length-set}
use Rattle.std.specs.Prelude.{◌==◌, Vec, All}
use Rattle.std.specs.declared.alloc.Global.{Global}
use Rattle.std.proofs.lemmas.List.{take_more}
use Rattle.voice_model.specs.declared.calls.Entry.{Entry}
use Rattle.voice_model.specs.Follows.{Binding, value_of, variables_after}
use Rattle.script_lang.specs.declared.scripts.Line.{Line}
use Rattle.script_lang.specs.Errands.{SameValues}
use Rattle.servings.specs.Asked.{asked_entries}
use Rattle.served_files.specs.declared.heard.Heard.{Heard}
use Rattle.served_files.specs.Given.{GivesFiles, names_in}
use Rattle.served_files.specs.Lines.{lines_of_caller, entries_of_caller}
use Rattle.served_files.specs.Files.{heard_of}
use Rattle.voice_main.specs.Ordered.{Variables, unset, with_those_of, InOrder, BeginsInOrder, LineRan, LineBegan}
use Rattle.voice_main.specs.Done.{LineDone}
use Rattle.voice_main.proofs.Followed.{Reaches, AreStood, starts, in_order, one_line_more, reaches_still, stood_at}
use Rattle.voice_main.proofs.Gives.{EachGives, none_given, gives_more, given_so}

-- where the first i lines have led: they are in order, the environments stand for these variables, and each caller heard the files that its lines give
pub record IsAt (tapes : List (List ℕ)) (lines : List Line) (i : ℕ) (history : List Entry) (envs : List (List Binding)) (lists : List (Vec Heard Global)) : Type 0 where
  pub stand : Variables
  pub reaches : Reaches tapes (take i lines) history stand
  pub stood : AreStood envs stand
  pub given : EachGives tapes (take i lines) history stand lists

stands_so : (envs : List (List Binding)) (stand : Variables) (j caller : ℕ) (now : List Binding) → AreStood envs stand → j + 1 ≡ caller → j < length envs → now ≡ get_or envs j now → SameValues now (stand caller)
stands_so envs stand j caller now h at within is = subst (λ n. SameValues now (stand n)) at (subst (λ v. SameValues v (stand (j + 1))) (sym is) (h j now within))

one_more : (lines : List Line) (i : ℕ) (line : Line) → i < length lines → line ≡ get_or lines i line → take i lines ++ line ∷ [] ≡ take (i + 1) lines
one_more lines i line within is = ap (λ l. take i lines ++ l ∷ []) is ∙ sym (take_more lines i line within)

line_ran : (tapes : List (List ℕ)) (line : Line) (stand after : List Binding) (old new : List Entry) (was now : List Heard) → LineDone tapes line stand after old new was now → LineRan tapes line stand old new
line_ran tapes line stand after old new was now h = record { own = h.own; added = h.added; by = h.by; does = h.does }

-- one line more was done
pub reached_more :
    (tapes : List (List ℕ)) (lines : List Line) (i : ℕ) (line : Line) (old new : List Entry) (envs : List (List Binding)) (lists : List (Vec Heard Global)) (j : ℕ) (now after : List Binding) (v w : Vec Heard Global)
    → i < length lines → line ≡ get_or lines i line → j + 1 ≡ line.caller → j < length envs → j < length lists
    → now ≡ get_or envs j now → v ≡ get_or lists j v → IsAt tapes lines i old envs lists → ((stand : List Binding) → SameValues now stand → LineDone tapes line stand after old new v.items w.items) → IsAt tapes lines (i + 1) new (set envs j after) (set lists j w)
unfolding line_ran
reached_more tapes lines i line old new envs lists j now after v w within is at there listed stood here h f =
    let own = h.stand line.caller in
    let done : LineDone tapes line own after old new v.items w.items = f own (stands_so envs h.stand j line.caller now h.stood at there stood) in
    let values : List Binding = variables_after line.bind done.own own in
    record {
      stand = with_those_of line.caller values h.stand;
      reaches = subst (λ l. Reaches tapes l new (with_those_of line.caller values h.stand)) (one_more lines i line within is)
          (one_line_more tapes (take i lines) line old new h.stand h.reaches (line_ran tapes line own after old new v.items w.items done));
      stood = λ k d less. let less' : k < length envs = omega (arith, less, length-set envs j after) in stood_at (k == j) envs j line.caller k d after values h.stand refl at less' done.sets (h.stood k d less');
      given = subst (λ l. EachGives tapes l new (with_those_of line.caller values h.stand) (set lists j w)) (one_more lines i line within is)
          (gives_more tapes (take i lines) line old new h.stand lists j v w after at listed here h.given done);
    }

-- the first lines were done, and nothing of the next one
pub begins_so : (tapes : List (List ℕ)) (lines : List Line) (i : ℕ) (entries : List Entry) → InOrder tapes unset (take i lines) entries → BeginsInOrder tapes lines i entries
begins_so tapes lines i entries h = record { front = entries; part = []; more = []; split = sym (append-nil entries); order = h; into = inl refl }

-- none was
pub begins_none : (tapes : List (List ℕ)) (lines : List Line) (history : List Entry) → history ≡ [] → (k : ℕ) × BeginsInOrder tapes lines k (asked_entries history)
begins_none tapes lines history none = (0, begins_so tapes lines 0 (asked_entries history) (ap asked_entries none))

-- or some of the next one
begins_more : (tapes : List (List ℕ)) (lines : List Line) (i : ℕ) (line : Line) (old new : List Entry) (variables : Variables) → i < length lines → line ≡ get_or lines i line → Reaches tapes (take i lines) old variables
    → LineBegan tapes line (variables line.caller) old new → BeginsInOrder tapes lines i (asked_entries new)
begins_more tapes lines i line old new variables within is h began =
    let here : InOrder tapes variables (line ∷ []) (began.own ++ began.more) = (began.own ++ began.more, [], sym (append-nil (began.own ++ began.more)), began.by, began.does, refl) in
    let whole : InOrder tapes unset (take i lines ++ line ∷ []) (asked_entries old ++ (began.own ++ began.more)) = h.on (line ∷ []) (began.own ++ began.more) here in
    let same : asked_entries old ++ (began.own ++ began.more) ≡ asked_entries new ++ began.more = sym (append_assoc (asked_entries old) began.own began.more) ∙ ap (λ l. l ++ began.more) (sym began.added) in
    record {
      front = asked_entries old;
      part = began.own;
      more = began.more;
      split = began.added;
      order = in_order tapes (take i lines) old variables h;
      into = inr (subst (λ l. InOrder tapes unset l (asked_entries new ++ began.more)) (one_more lines i line within is) (subst (InOrder tapes unset (take i lines ++ line ∷ [])) same whole));
    }

either_way : (tapes : List (List ℕ)) (lines : List Line) (i : ℕ) (line : Line) (old new : List Entry) (variables : Variables) → i < length lines → line ≡ get_or lines i line → Reaches tapes (take i lines) old variables
    → (asked_entries new ≡ asked_entries old) ⊎ LineBegan tapes line (variables line.caller) old new → BeginsInOrder tapes lines i (asked_entries new)
either_way tapes lines i line old new variables within is h (inl same) = begins_so tapes lines i (asked_entries new) (in_order tapes (take i lines) new variables (reaches_still tapes (take i lines) old new variables same h))
either_way tapes lines i line old new variables within is h (inr began) = begins_more tapes lines i line old new variables within is h began

-- the line was begun, or nothing of it was done
pub reached_so_far : (tapes : List (List ℕ)) (lines : List Line) (i : ℕ) (line : Line) (old new : List Entry) (envs : List (List Binding)) (lists : List (Vec Heard Global)) (j : ℕ) (now : List Binding) → i < length lines → line ≡ get_or lines i line → j + 1 ≡ line.caller → j < length envs
    → now ≡ get_or envs j now → IsAt tapes lines i old envs lists → ((stand : List Binding) → SameValues now stand → (asked_entries new ≡ asked_entries old) ⊎ LineBegan tapes line stand old new) → (k : ℕ) × BeginsInOrder tapes lines k (asked_entries new)
reached_so_far tapes lines i line old new envs lists j now within is at there stood h f =
    (i, either_way tapes lines i line old new h.stand within is h.reaches (f (h.stand line.caller) (stands_so envs h.stand j line.caller now h.stood at there stood)))

-- the first i lines are in order
pub reached : (tapes : List (List ℕ)) (lines : List Line) (i : ℕ) (history : List Entry) (envs : List (List Binding)) (lists : List (Vec Heard Global)) → IsAt tapes lines i history envs lists → InOrder tapes unset (take i lines) (asked_entries history)
reached tapes lines i history envs lists h = in_order tapes (take i lines) history h.stand h.reaches

-- and gave the files that each caller heard
pub reached_names : (tapes : List (List ℕ)) (lines : List Line) (i : ℕ) (history : List Entry) (envs : List (List Binding)) (lists : List (Vec Heard Global)) → IsAt tapes lines i history envs lists → (c : ℕ) → 1 ≤ c
    → GivesFiles tapes [] (lines_of_caller c (take i lines)) (entries_of_caller c (asked_entries history)) (names_in (heard_of lists c))
reached_names tapes lines i history envs lists h = given_so tapes (take i lines) history h.stand lists h.given

-- before the first line
pub none_reached : (tapes : List (List ℕ)) (lines : List Line) (history : List Entry) (envs : List (List Binding)) (lists : List (Vec Heard Global)) → history ≡ [] → All (λ variables. variables ≡ []) envs → All (λ (v : Vec Heard Global). v.items ≡ []) lists → IsAt tapes lines 0 history envs lists
none_reached tapes lines history envs lists none h nothing = record {
  stand = unset;
  reaches = starts tapes history none;
  stood = λ k d less name. ap (λ v. value_of v name) (h k d less);
  given = none_given tapes history lists none nothing;
}
