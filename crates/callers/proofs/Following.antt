-- A caller's entries that follow its lines, and the files that they give.
--     gave_followed      entries that follow a caller's lines, with the files that they give, follow them
--     IsAt      where a caller is, once the first lines of the script are behind it
use Rattle.std.proofs.Common.{◌≡◌, ◌<◌, ◌≤◌, ◌+◌, ◌⊎◌, ℕ, inl, inr, List, [], ◌∷◌, ◌++◌, length, get_or, take, map, cond, true, false, refl, sym, ap, subst, ◌∙◌, arith, append_assoc, append-nil}
use Rattle.std.specs.Prelude.{◌==◌}
use Rattle.std.proofs.lemmas.List.{take_more, take_all}
use Rattle.std.proofs.lemmas.Option.{slice_get_read}
use Rattle.std.proofs.lemmas.List.Elements.{filter-append}
use Rattle.std.proofs.lemmas.Bool.Decides.{nat_tests}
use Rattle.voice_model.specs.declared.calls.Entry.{Entry}
use Rattle.voice_model.specs.Follows.{Binding, Follows, variables_after, value_of}
use Rattle.script_lang.specs.declared.scripts.Line.{Line}
use Rattle.script_lang.specs.Errands.{errand_of, SameValues}
use Rattle.served_files.specs.Lines.{lines_of_caller}
use Rattle.callers.specs.Lines.{LineBegan, Followed, FollowedInto, Stopped}
use Rattle.served_files.specs.Given.{GivesFiles, gives_file, given_name, Gave}
use Rattle.served_files.proofs.Names.{follows_of, ReachesGiving, giving_start, giving_more, giving_done}
use Rattle.callers.specs.Passed.{LinePassed}

-- entries that a caller gained, with the files that they give, follow its lines
pub gave_followed : (tapes : List (List ℕ)) (lines : List Line) (c : ℕ) (old new : List Entry) (names : List (List ℕ)) → Gave tapes lines c old new names → Followed tapes lines (length lines) c old new
gave_followed tapes lines c old new names h = record {
  own = h.own;
  gained = h.gained;
  follows = subst (λ ls. Follows [] (map (errand_of tapes) (lines_of_caller c ls)) h.own) (sym (take_all (length lines) lines (omega arith))) (follows_of tapes [] (lines_of_caller c lines) h.own names h.gives);
}

-- what a caller's lines so far come to follows them
followed : (tapes : List (List ℕ)) (lines : List Line) (variables : List Binding) (own : List Entry) (names : List (List ℕ)) → ReachesGiving tapes lines variables own names → Follows [] (map (errand_of tapes) lines) own
followed tapes lines variables own names h = follows_of tapes [] lines own names (giving_done tapes lines variables own names h)

-- where a caller is, once the first i lines of the script are behind it, which gave these files
pub record IsAt (tapes : List (List ℕ)) (lines : List Line) (i caller : ℕ) (start now : List Entry) (variables : List Binding) (names : List (List ℕ)) : Type 0 where
  pub stand : List Binding
  pub own : List Entry
  pub gained : now ≡ start ++ own
  pub reaches : ReachesGiving tapes (lines_of_caller caller (take i lines)) stand own names
  pub same : SameValues variables stand

pub at_start : (tapes : List (List ℕ)) (lines : List Line) (caller : ℕ) (start : List Entry) (variables : List Binding) (names : List (List ℕ)) → variables ≡ [] → names ≡ [] → IsAt tapes lines 0 caller start start variables names
at_start tapes lines caller start variables names none nothing = record {
  stand = [];
  own = [];
  gained = sym (append-nil start);
  reaches = subst (ReachesGiving tapes [] [] []) (sym nothing) (giving_start tapes);
  same = λ name. ap (λ v. value_of v name) none;
}

front_more : (lines : List Line) (i : ℕ) (line : Line) (c : ℕ) → i < length lines → line ≡ get_or lines i line → lines_of_caller c (take (i + 1) lines) ≡ lines_of_caller c (take i lines) ++ cond (line.caller == c) (line ∷ []) []
front_more lines i line c within is =
    ap (lines_of_caller c) (take_more lines i line within ∙ sym (ap (λ l. take i lines ++ l ∷ []) is)) ∙ filter-append (λ l. l.caller == c) (take i lines) (line ∷ [])

front_others : (lines : List Line) (i : ℕ) (line : Line) (c : ℕ) → i < length lines → line ≡ get_or lines i line → (line.caller ≡ c → ⊥) → lines_of_caller c (take (i + 1) lines) ≡ lines_of_caller c (take i lines)
front_others lines i line c within is other =
    let differs : (line.caller == c) ≡ false = grind (arith, nat_tests) in
    front_more lines i line c within is ∙ ap (λ b. lines_of_caller c (take i lines) ++ cond b (line ∷ []) []) differs ∙ append-nil (lines_of_caller c (take i lines))

front_own : (lines : List Line) (i : ℕ) (line : Line) (c : ℕ) → i < length lines → line ≡ get_or lines i line → line.caller ≡ c → lines_of_caller c (take (i + 1) lines) ≡ lines_of_caller c (take i lines) ++ line ∷ []
front_own lines i line c within is mine =
    let same : (line.caller == c) ≡ true = grind (arith, nat_tests) in
    front_more lines i line c within is ∙ ap (λ b. lines_of_caller c (take i lines) ++ cond b (line ∷ []) []) same

at_more :
    (tapes : List (List ℕ)) (lines : List Line) (i : ℕ) (line : Line) (c : ℕ) (start old new : List Entry) (was after : List Binding) (names names_new : List (List ℕ)) → i < length lines → line ≡ get_or lines i line
    → (h : IsAt tapes lines i c start old was names) → LinePassed c tapes line h.stand was after old new names names_new → IsAt tapes lines (i + 1) c start new after names_new
at_more tapes lines i line c start old new was after names names_new within is h (inl o) = record {
  stand = h.stand;
  own = h.own;
  gained = o.entries ∙ h.gained;
  reaches = subst (λ n. ReachesGiving tapes (lines_of_caller c (take (i + 1) lines)) h.stand h.own n) (sym o.names) (subst (λ ls. ReachesGiving tapes ls h.stand h.own names) (sym (front_others lines i line c within is o.other)) h.reaches);
  same = subst (λ v. SameValues v h.stand) (sym o.variables) h.same;
}
at_more tapes lines i line c start old new was after names names_new within is h (inr b) =
    let ran = b.1 in
    let stand = variables_after line.bind ran.own h.stand in
    record {
      stand = stand;
      own = h.own ++ ran.own;
      gained = ran.added ∙ ap (λ l. l ++ ran.own) h.gained ∙ append_assoc start h.own ran.own;
      reaches = subst (λ n. ReachesGiving tapes (lines_of_caller c (take (i + 1) lines)) stand (h.own ++ ran.own) n) (sym ran.names)
          (subst (λ ls. ReachesGiving tapes ls stand (h.own ++ ran.own) (names ++ given_name (gives_file ran.own) line.file)) (sym (front_own lines i line c within is b.0))
          (giving_more tapes (lines_of_caller c (take i lines)) line h.stand h.own ran.own names h.reaches ran.does));
      same = ran.sets;
    }

-- one line more is behind it; the pass's caller is c
pub moves_on : (tapes : List (List ℕ)) (lines : List Line) (i : ℕ) (line : Line) (c by : ℕ) (start old new : List Entry) (was after : List Binding) (names names_new : List (List ℕ)) → by ≡ c → i < length lines → line ≡ get_or lines i line
    → IsAt tapes lines i c start old was names → ((stand : List Binding) → SameValues was stand → LinePassed by tapes line stand was after old new names names_new) → IsAt tapes lines (i + 1) c start new after names_new
moves_on tapes lines i line c by start old new was after names names_new same within is h f =
    at_more tapes lines i line c start old new was after names names_new within is h (subst (λ b. LinePassed b tapes line h.stand was after old new names names_new) same (f h.stand h.same))

-- entries that follow the lines so far, with none of the next one
pub into_none : (tapes : List (List ℕ)) (lines : List Line) (i c : ℕ) (start now : List Entry) (variables : List Binding) (names : List (List ℕ)) → IsAt tapes lines i c start now variables names → FollowedInto tapes lines i c start now
into_none tapes lines i c start now variables names h = record {
  own = h.own;
  gained = h.gained;
  begins = record { front = h.own; part = []; more = []; split = sym (append-nil h.own); follows = followed tapes (lines_of_caller c (take i lines)) h.stand h.own names h.reaches; into = inl refl };
}

-- where it stopped in one
into_some : (tapes : List (List ℕ)) (lines : List Line) (i : ℕ) (line : Line) (c : ℕ) (start old new : List Entry) (was : List Binding) (names : List (List ℕ)) → i < length lines → line ≡ get_or lines i line → line.caller ≡ c
    → (h : IsAt tapes lines i c start old was names) → LineBegan tapes line h.stand old new → FollowedInto tapes lines i c start new
into_some tapes lines i line c start old new was names within is its h began =
    let front = lines_of_caller c (take i lines) in
    let here = began.own ++ began.more in
    let stand = variables_after line.bind here h.stand in
    let given = names ++ given_name (gives_file here) line.file in
    let reached = subst (λ ls. ReachesGiving tapes ls stand (h.own ++ here) given) (sym (front_own lines i line c within is its)) (giving_more tapes front line h.stand h.own here names h.reaches began.does) in
    record {
      own = h.own ++ began.own;
      gained = began.added ∙ ap (λ l. l ++ began.own) h.gained ∙ append_assoc start h.own began.own;
      begins = record {
        front = h.own;
        part = began.own;
        more = began.more;
        split = refl;
        follows = followed tapes front h.stand h.own names h.reaches;
        into = inr (subst (λ es. Follows [] (map (errand_of tapes) (lines_of_caller c (take (i + 1) lines))) es) (sym (append_assoc h.own began.own began.more)) (followed tapes (lines_of_caller c (take (i + 1) lines)) stand (h.own ++ here) given reached));
      };
    }

into_by : (tapes : List (List ℕ)) (lines : List Line) (i : ℕ) (line : Line) (c : ℕ) (start old new : List Entry) (was : List Binding) (names : List (List ℕ)) → i < length lines → line ≡ get_or lines i line → line.caller ≡ c
    → (h : IsAt tapes lines i c start old was names) → (new ≡ old) ⊎ LineBegan tapes line h.stand old new → FollowedInto tapes lines i c start new
into_by tapes lines i line c start old new was names within is its h (inl same) = subst (FollowedInto tapes lines i c start) (sym same) (into_none tapes lines i c start old was names h)
into_by tapes lines i line c start old new was names within is its h (inr began) = into_some tapes lines i line c start old new was names within is its h began

-- the caller stopped at that line
pub stops_at : (tapes : List (List ℕ)) (lines : List Line) (i : ℕ) (line : Line) (c : ℕ) (start old new : List Entry) (was : List Binding) (names : List (List ℕ)) → i < length lines → line ≡ get_or lines i line → line.caller ≡ c
    → IsAt tapes lines i c start old was names → ((stand : List Binding) → SameValues was stand → (new ≡ old) ⊎ LineBegan tapes line stand old new) → Stopped tapes lines c start new
stops_at tapes lines i line c start old new was names within is its h f = record {
  number = i;
  line = line;
  there = slice_get_read lines (length lines) i line refl within is;
  is_own = its;
  ran = into_by tapes lines i line c start old new was names within is its h (f h.stand h.same);
}

-- all lines are behind it
pub gave_at : (tapes : List (List ℕ)) (lines : List Line) (i c : ℕ) (start now : List Entry) (variables : List Binding) (names : List (List ℕ)) → length lines ≤ i → IsAt tapes lines i c start now variables names → Gave tapes lines c start now names
gave_at tapes lines i c start now variables names past h = record {
  own = h.own;
  gained = h.gained;
  gives = subst (λ ls. GivesFiles tapes [] (lines_of_caller c ls) h.own names) (take_all i lines past) (giving_done tapes (lines_of_caller c (take i lines)) h.stand h.own names h.reaches);
}
