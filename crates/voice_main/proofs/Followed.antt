-- Histories that follow the lines of a script.
use Rattle.std.proofs.Common.{◌≡◌, ◌≤◌, ◌<◌, ◌+◌, ℕ, inl, inr, ◌⊎◌, List, [], ◌∷◌, ◌++◌, length, get_or, set, take, map, cond, not, Bool, true, false, refl, sym, ap, subst, ◌∙◌, arith, append_assoc, append-nil}
use Rattle.std.specs.Prelude.{◌==◌, All}
use Rattle.std.proofs.lemmas.List.{get_or-set_other}
use Rattle.std.proofs.lemmas.Grind.{get_or-set_at}
use Rattle.std.proofs.lemmas.List.Elements.{filter-append}
use Rattle.std.proofs.lemmas.Bool.Decides.{nat_tests}
use Rattle.voice_model.specs.declared.calls.Entry.{Entry}
use Rattle.voice_model.specs.declared.calls.Call.{Call}
use Rattle.voice_model.specs.declared.calls.Call.TheVariants as calls
use Rattle.voice_model.specs.declared.calls.Reply.{Reply}
use Rattle.voice_model.specs.State.{State}
use Rattle.voice_model.specs.Step.{IsReply, state_after}
use Rattle.voice_model.specs.Heard.{IsReplyOn, IsAnswerOn, LegalOn}
use Rattle.voice_model.specs.Follows.{Binding, Follows, variables_after}
use Rattle.script_lang.specs.declared.scripts.Line.{Line}
use Rattle.script_lang.specs.Errands.{errand_of, SameValues}
use Rattle.servings.specs.Asked.{asked_entries, is_landing, AreBy}
use Rattle.served_files.specs.Lines.{DoesLine, BeginsLines, lines_of_caller, entries_of_caller}
use Rattle.voice_main.specs.Ordered.{Variables, unset, with_those_of, InOrder, BeginsInOrder, EachFollows, LineRan}

-- ---- one line more

-- the lines so far are done, and then these variables stand: what is in order from here on is in order behind them
pub record Reaches (tapes : List (List ℕ)) (lines : List Line) (history : List Entry) (variables : Variables) : Type 0 where
  pub on : (more : List Line) (entries : List Entry) → InOrder tapes variables more entries → InOrder tapes unset (lines ++ more) (asked_entries history ++ entries)

pub starts : (tapes : List (List ℕ)) (history : List Entry) → history ≡ [] → Reaches tapes [] history unset
starts tapes history none = record { on = λ more entries h. subst (λ l. InOrder tapes unset more (l ++ entries)) (sym (ap asked_entries none)) h }

-- they are in order
pub in_order : (tapes : List (List ℕ)) (lines : List Line) (history : List Entry) (variables : Variables) → Reaches tapes lines history variables → InOrder tapes unset lines (asked_entries history)
in_order tapes lines history variables h =
    subst (λ l. InOrder tapes unset l (asked_entries history)) (append-nil lines) (subst (λ l. InOrder tapes unset (lines ++ []) l) (append-nil (asked_entries history)) (h.on [] [] refl))

pub one_line_more : (tapes : List (List ℕ)) (lines : List Line) (line : Line) (old new : List Entry) (variables : Variables) → Reaches tapes lines old variables → (ran : LineRan tapes line (variables line.caller) old new)
    → Reaches tapes (lines ++ line ∷ []) new (with_those_of line.caller (variables_after line.bind ran.own (variables line.caller)) variables)
one_line_more tapes lines line old new variables h ran = record {
  on = λ more entries rest.
      let here : InOrder tapes variables (line ∷ more) (ran.own ++ entries) = (ran.own, entries, refl, ran.by, ran.does, rest) in
      let whole : InOrder tapes unset (lines ++ line ∷ more) (asked_entries old ++ ran.own ++ entries) = subst (λ l. InOrder tapes unset (lines ++ line ∷ more) l) (sym (append_assoc (asked_entries old) ran.own entries)) (h.on (line ∷ more) (ran.own ++ entries) here) in
      let grown : InOrder tapes unset (lines ++ line ∷ more) (asked_entries new ++ entries) = subst (λ l. InOrder tapes unset (lines ++ line ∷ more) (l ++ entries)) (sym ran.added) whole in
      subst (λ l. InOrder tapes unset l (asked_entries new ++ entries)) (sym (append_assoc lines (line ∷ []) more)) grown;
}

-- nothing was added
pub reaches_still : (tapes : List (List ℕ)) (lines : List Line) (old new : List Entry) (variables : Variables) → asked_entries new ≡ asked_entries old → Reaches tapes lines old variables → Reaches tapes lines new variables
reaches_still tapes lines old new variables same h = record { on = λ more entries rest. subst (λ l. InOrder tapes unset (lines ++ more) (l ++ entries)) (sym same) (h.on more entries rest) }

-- ---- each caller's entries

abbrev nobody : List Entry
nobody = []

none_either : (b : Bool) → nobody ≡ cond b nobody nobody
none_either true = refl
none_either false = refl

picked : (b : Bool) (e : Entry) (es : List Entry) → cond b (e ∷ cond b es []) (cond b es []) ≡ cond b (e ∷ es) []
picked true e es = refl
picked false e es = refl

pub all_by : (caller : ℕ) (es : List Entry) (c : ℕ) → AreBy caller es → entries_of_caller c es ≡ cond (caller == c) es []
all_by caller [] c h = none_either (caller == c)
all_by caller (e ∷ es) c h =
    ap (λ n. cond (n == c) (e ∷ entries_of_caller c es) (entries_of_caller c es)) h.0 ∙ ap (λ l. cond (caller == c) (e ∷ l) l) (all_by caller es c h.1) ∙ picked (caller == c) e es

pub same_caller : (a c : ℕ) → (a == c) ≡ true → a ≡ c
same_caller a c h = grind (arith, nat_tests)

at_caller : (b : Bool) (tapes : List (List ℕ)) (line : Line) (c : ℕ) (variables : Variables) (new : List Binding) (own rest : List Entry) (ls : List Line) → (line.caller == c) ≡ b
    → DoesLine tapes (variables line.caller) line own → new ≡ variables_after line.bind own (variables line.caller) → Follows (cond b new (variables c)) (map (errand_of tapes) ls) rest
    → Follows (variables c) (map (errand_of tapes) (cond b (line ∷ ls) ls)) (cond b own [] ++ rest)
at_caller true tapes line c variables new own rest ls is does set later =
    let same = same_caller line.caller c is in
    let here : DoesLine tapes (variables c) line own = subst (λ n. DoesLine tapes (variables n) line own) same does in
    let sets : new ≡ variables_after line.bind own (variables c) = set ∙ ap (λ n. variables_after line.bind own (variables n)) same in
    (own, rest, refl, here, subst (λ v. Follows v (map (errand_of tapes) ls) rest) sets later)
at_caller false tapes line c variables new own rest ls is does set later = later

each_of : (tapes : List (List ℕ)) (variables : Variables) (lines : List Line) (entries : List Entry) → InOrder tapes variables lines entries → (c : ℕ) →
    Follows (variables c) (map (errand_of tapes) (lines_of_caller c lines)) (entries_of_caller c entries)
each_of tapes variables [] entries h c = ap (entries_of_caller c) h
each_of tapes variables (line ∷ lines) entries h c =
    let own = h.0 in
    let rest = h.1 in
    let new = variables_after line.bind own (variables line.caller) in
    let split : entries_of_caller c entries ≡ cond (line.caller == c) own [] ++ entries_of_caller c rest =
    ap (entries_of_caller c) h.2 ∙ filter-append (λ e. e.caller == c) own rest ∙ ap (λ l. l ++ entries_of_caller c rest) (all_by line.caller own c h.3) in
    let later = each_of tapes (with_those_of line.caller new variables) lines rest h.5 c in
    subst (λ es. Follows (variables c) (map (errand_of tapes) (lines_of_caller c (line ∷ lines))) es) (sym split)
    (at_caller (line.caller == c) tapes line c variables new own (entries_of_caller c rest) (lines_of_caller c lines) refl h.4 refl later)

no : false ≡ true → ⊥
no e = cc

-- a landing is an entry of caller 0
by_nobody : (s : State) (tapes : List (List ℕ)) (caller : ℕ) (call : Call) (reply : Reply) → IsReply s tapes caller call reply → is_landing call ≡ true → caller ≡ 0
by_nobody s tapes caller calls.Landed reply h is = h.0
by_nobody s tapes caller (calls.Record take) reply h is = absurd (no is)
by_nobody s tapes caller (calls.Concat ids) reply h is = absurd (no is)
by_nobody s tapes caller (calls.Sub id start len) reply h is = absurd (no is)
by_nobody s tapes caller (calls.Replace id start len with) reply h is = absurd (no is)
by_nobody s tapes caller (calls.Length id) reply h is = absurd (no is)
by_nobody s tapes caller (calls.Describe id) reply h is = absurd (no is)
by_nobody s tapes caller (calls.Play lane id start len) reply h is = absurd (no is)
by_nobody s tapes caller (calls.Feed lane back) reply h is = absurd (no is)
by_nobody s tapes caller (calls.Stop lane) reply h is = absurd (no is)
by_nobody s tapes caller (calls.Retain class key id note) reply h is = absurd (no is)
by_nobody s tapes caller (calls.Forget class key) reply h is = absurd (no is)
by_nobody s tapes caller (calls.Lookup class key) reply h is = absurd (no is)
by_nobody s tapes caller (calls.Census keys) reply h is = absurd (no is)
by_nobody s tapes caller (calls.Advance moment) reply h is = absurd (no is)
by_nobody s tapes caller (calls.Sweep limit) reply h is = absurd (no is)
by_nobody s tapes caller (calls.Begin lane) reply h is = absurd (no is)
by_nobody s tapes caller (calls.Add lane take) reply h is = absurd (no is)
by_nobody s tapes caller (calls.End lane) reply h is = absurd (no is)
by_nobody s tapes caller (calls.Levels id) reply h is = absurd (no is)

-- also where only its reply is right, but for what was read off a disk
nobody_on : (honest : Bool) (s : State) (tapes : List (List ℕ)) (caller : ℕ) (call : Call) (reply : Reply) → IsReplyOn honest s tapes caller call reply → is_landing call ≡ true → caller ≡ 0
nobody_on true s tapes caller call reply h is = by_nobody s tapes caller call reply h is
nobody_on false s tapes caller call reply h is = by_nobody s tapes caller call h.right h.answer is

-- the first entry, and the later ones
pub parts : (honest : Bool) (s : State) (tapes : List (List ℕ)) (e : Entry) (es : List Entry) → LegalOn honest s tapes (e ∷ es) → IsAnswerOn honest s tapes e × LegalOn honest (state_after s tapes e) tapes es
parts true s tapes e es legal = legal
parts false s tapes e es legal = legal

not_nobody : (caller c : ℕ) → caller ≡ 0 → 1 ≤ c → (caller == c) ≡ false
not_nobody caller c none some = grind (arith, nat_tests)

aside : (b : Bool) (e : Entry) (asked all : List Entry) (c : ℕ) → is_landing e.call ≡ b → (b ≡ true → (e.caller == c) ≡ false) → entries_of_caller c asked ≡ entries_of_caller c all →
    entries_of_caller c (cond (not b) (e ∷ asked) asked) ≡ entries_of_caller c (e ∷ all)
aside true e asked all c is lands same = same ∙ sym (ap (λ x. cond x (e ∷ entries_of_caller c all) (entries_of_caller c all)) (lands refl))
aside false e asked all c is lands same = ap (λ l. cond (e.caller == c) (e ∷ l) l) same

-- landings are no entries of a caller
pub same_of_caller : (honest : Bool) (s : State) (tapes : List (List ℕ)) (history : List Entry) (c : ℕ) → 1 ≤ c → LegalOn honest s tapes history → entries_of_caller c (asked_entries history) ≡ entries_of_caller c history
same_of_caller honest s tapes [] c some legal = refl
same_of_caller honest s tapes (e ∷ es) c some legal =
    let both = parts honest s tapes e es legal in
    aside (is_landing e.call) e (asked_entries es) es c refl (λ is. not_nobody e.caller c (nobody_on honest s tapes e.caller e.call e.reply both.0 is) some) (same_of_caller honest (state_after s tapes e) tapes es c some both.1)

pub each_follows : (honest : Bool) (s : State) (tapes : List (List ℕ)) (lines : List Line) (history : List Entry) → LegalOn honest s tapes history → InOrder tapes unset lines (asked_entries history) → EachFollows tapes lines history
each_follows honest s tapes lines history legal order = λ c some.
    subst (Follows [] (map (errand_of tapes) (lines_of_caller c lines))) (same_of_caller honest s tapes history c some legal) (each_of tapes unset lines (asked_entries history) order c)

into_of : (honest : Bool) (s : State) (tapes : List (List ℕ)) (lines : List Line) (k : ℕ) (history part more : List Entry) (c : ℕ) → 1 ≤ c → LegalOn honest s tapes history → (part ≡ []) ⊎ InOrder tapes unset (take (k + 1) lines) (asked_entries history ++ more)
    → (entries_of_caller c part ≡ []) ⊎ Follows [] (map (errand_of tapes) (lines_of_caller c (take (k + 1) lines))) (entries_of_caller c history ++ entries_of_caller c more)
into_of honest s tapes lines k history part more c some legal (inl none) = inl (ap (entries_of_caller c) none)
into_of honest s tapes lines k history part more c some legal (inr order) =
    let split : entries_of_caller c (asked_entries history ++ more) ≡ entries_of_caller c history ++ entries_of_caller c more =
    filter-append (λ e. e.caller == c) (asked_entries history) more ∙ ap (λ l. l ++ entries_of_caller c more) (same_of_caller honest s tapes history c some legal) in
    inr (subst (Follows [] (map (errand_of tapes) (lines_of_caller c (take (k + 1) lines)))) split (each_of tapes unset (take (k + 1) lines) (asked_entries history ++ more) order c))

-- the last line's entries perhaps in part
pub each_begins : (honest : Bool) (s : State) (tapes : List (List ℕ)) (lines : List Line) (k : ℕ) (history : List Entry) → LegalOn honest s tapes history → BeginsInOrder tapes lines k (asked_entries history) → (c : ℕ) → 1 ≤ c → BeginsLines tapes lines c k (entries_of_caller c history)
each_begins honest s tapes lines k history legal h c some = record {
  front = entries_of_caller c h.front;
  part = entries_of_caller c h.part;
  more = entries_of_caller c h.more;
  split = sym (same_of_caller honest s tapes history c some legal) ∙ ap (entries_of_caller c) h.split ∙ filter-append (λ e. e.caller == c) h.front h.part;
  follows = each_of tapes unset (take k lines) h.front h.order c;
  into = into_of honest s tapes lines k history h.part h.more c some legal h.into;
}

-- ---- the variables that the callers' environments stand for

-- each environment stands for its caller's variables
abbrev pub AreStood : List (List Binding) → Variables → Type 0
AreStood envs variables = (k : ℕ) (d : List Binding) → k < length envs → SameValues (get_or envs k d) (variables (k + 1))

same_number : (a b : ℕ) → (a == b) ≡ true → a ≡ b
same_number a b h = grind (arith, nat_tests)

other_number : (a b : ℕ) → (a == b) ≡ false → a ≡ b → ⊥
other_number a b h = grind (arith, nat_tests)

is_same : (a b : ℕ) → a ≡ b → (a == b) ≡ true
is_same a b h = grind (arith, nat_tests)

is_other : (a b : ℕ) → (a ≡ b → ⊥) → (a == b) ≡ false
is_other a b h = grind (arith, nat_tests)

pub stood_at : (b : Bool) (envs : List (List Binding)) (j caller k : ℕ) (d after new : List Binding) (variables : Variables) → (k == j) ≡ b → j + 1 ≡ caller → k < length envs → SameValues after new → SameValues (get_or envs k d) (variables (k + 1))
    → SameValues (get_or (set envs j after) k d) (with_those_of caller new variables (k + 1))
stood_at true envs j caller k d after new variables is at within set_so stood =
    let same : k ≡ j = same_number k j is in
    let mine : (caller == (k + 1)) ≡ true = is_same caller (k + 1) (omega (arith, at, same)) in
    let new_there : new ≡ with_those_of caller new variables (k + 1) = sym (ap (λ x. cond x new (variables (k + 1))) mine) in
    let after_there : after ≡ get_or (set envs j after) k d = sym (get_or-set_at envs j k after d same (omega (arith, within, same))) in
    subst (λ v. SameValues (get_or (set envs j after) k d) v) new_there (subst (λ v. SameValues v new) after_there set_so)
stood_at false envs j caller k d after new variables is at within set_so stood =
    let apart : k ≡ j → ⊥ = other_number k j is in
    let others : (caller == (k + 1)) ≡ false = is_other caller (k + 1) (λ e. apart (omega (arith, at, e))) in
    let old_there : variables (k + 1) ≡ with_those_of caller new variables (k + 1) = sym (ap (λ x. cond x new (variables (k + 1))) others) in
    let env_there : get_or envs k d ≡ get_or (set envs j after) k d = sym (get_or-set_other envs j k after d apart) in
    subst (λ v. SameValues (get_or (set envs j after) k d) v) old_there (subst (λ v. SameValues v (variables (k + 1))) env_there stood)

-- what holds of each line holds of the line at a place
pub line_has : (P : Line → Type 0) (lines : List Line) (i : ℕ) (line : Line) → All P lines → i < length lines → line ≡ get_or lines i line → P line
line_has P lines i line h within is = subst P (sym is) (h i line within)
