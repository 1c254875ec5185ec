-- What all callers heard, line after line.
use Rattle.std.proofs.Common.{◌≡◌, ◌<◌, ◌+◌, ℕ, suc, List, [], ◌++◌, length, get_or, set, Bool, true, false, Some, refl, sym, ap, subst, ◌∙◌, arith, append-nil}
use Rattle.std.specs.Prelude.{◌==◌, Vec, All, IsTrue}
use Rattle.std.specs.declared.alloc.Global.{Global}
use Rattle.std.proofs.lemmas.Option.{slice_get-get_or}
use Rattle.std.proofs.lemmas.Bool.Decides.{nat_tests}
use Rattle.voice_outside.specs.Disk.{Told}
use Rattle.voice_model.specs.Image.{opened_from}
use Rattle.voice_model.specs.State.{State}
use Rattle.voice_model.specs.Step.{after}
use Rattle.voice_model.specs.declared.calls.Entry.{Entry}
use Rattle.voice_store.specs.Shown.{Shown, Keeps, history_of}
use Rattle.serving_laws.specs.Lanes.{FedBy, IsAtRest}
use Rattle.script_lang.specs.declared.scripts.Line.{Line}
use Rattle.script_lang.specs.Parts.{served}
use Rattle.served_files.specs.declared.heard.Heard.{Heard}
use Rattle.served_files.specs.Given.{GivesTo, FeedsAlone, bytes_in}
use Rattle.served_files.specs.Files.{heard_of}
use Rattle.served_files.proofs.Alone.{alone_front}
use Rattle.served_files.proofs.Bytes.{gives_append}
use Rattle.served_files.proofs.SoFar.{heard_at}
use Rattle.voice_main.specs.Done.{LineGave, AreGiven}
use Rattle.voice_main.proofs.HeardLists.{set_here, set_there, none_heard}

-- nobody heard anything yet
pub given_start : (first : State) (tapes : List (List ℕ)) (history : List Entry) (lists : List (Vec Heard Global)) → history ≡ [] → All (λ (v : Vec Heard Global). v.items ≡ []) lists → ((lane : ℕ) → IsAtRest first lane) → AreGiven first tapes history lists
given_start first tapes history lists none nothing rests = record {
  gives = λ c some. subst (λ h. GivesTo c first tapes h (bytes_in (heard_of lists c))) (sym none) (ap bytes_in (none_heard lists nothing c));
  rests = λ lane. subst (λ h. IsAtRest (after first tapes h) lane) (sym none) (rests lane);
}

gives_at : (b : Bool) (first : State) (tapes : List (List ℕ)) (caller j c : ℕ) (old new : List Entry) (lists : List (Vec Heard Global)) (v w : Vec Heard Global) → (caller == c) ≡ b → j + 1 ≡ caller → j < length lists → v ≡ get_or lists j v
    → GivesTo c first tapes old (bytes_in (heard_of lists c)) → (h : LineGave first tapes caller old new v.items w.items) → GivesTo c first tapes (old ++ h.more) (bytes_in (heard_of (set lists j w) c))
gives_at true first tapes caller j c old new lists v w is at within there before h =
    let same : caller ≡ c = grind (arith, nat_tests) in
    let here : suc j ≡ c = omega (arith, at, same) in
    let whole : GivesTo c first tapes (old ++ h.more) (bytes_in (heard_of lists c) ++ h.given) =
    gives_append c first tapes old h.more (bytes_in (heard_of lists c)) h.given before (subst (λ n. GivesTo n (after first tapes old) tapes h.more h.given) same h.gives) in
    let was : heard_of lists c ≡ v.items = sym (ap (heard_of lists) here) ∙ heard_at lists j v within there in
    let now : heard_of (set lists j w) c ≡ w.items = sym (ap (heard_of (set lists j w)) here) ∙ set_here lists j w within in
    subst (GivesTo c first tapes (old ++ h.more)) (ap (λ l. bytes_in l ++ h.given) was ∙ sym h.heard ∙ sym (ap bytes_in now)) whole
gives_at false first tapes caller j c old new lists v w is at within there before h =
    let apart : ¬ (c ≡ caller) = λ same. differs same in
    let else : ¬ (suc j ≡ c) = λ same. apart (omega (arith, at, same)) in
    let whole : GivesTo c first tapes (old ++ h.more) (bytes_in (heard_of lists c) ++ []) = gives_append c first tapes old h.more (bytes_in (heard_of lists c)) [] before (h.others c apart) in
    subst (GivesTo c first tapes (old ++ h.more)) (append-nil (bytes_in (heard_of lists c)) ∙ sym (ap bytes_in (set_there lists j c w else))) whole
  where
    differs : c ≡ caller → ⊥
    differs same = grind (arith, nat_tests)

-- one line more gave its caller what it heard
pub given_more : (first : State) (tapes : List (List ℕ)) (caller j : ℕ) (old new : List Entry) (lists : List (Vec Heard Global)) (v w : Vec Heard Global) → j + 1 ≡ caller → j < length lists → v ≡ get_or lists j v
    → AreGiven first tapes old lists → LineGave first tapes caller old new v.items w.items → AreGiven first tapes new (set lists j w)
given_more first tapes caller j old new lists v w at within there h line = record {
  gives = λ c some. subst (λ l. GivesTo c first tapes l (bytes_in (heard_of (set lists j w) c))) (sym line.grown) (gives_at (caller == c) first tapes caller j c old new lists v w refl at within there (h.gives c some) line);
  rests = line.rests;
}

-- the lane that a line serves is fed by its caller alone
pub line_alone : (lines : List Line) (i : ℕ) (line : Line) (history : List Entry) → i < length lines → line ≡ get_or lines i line → FeedsAlone lines line.caller history → (lane : ℕ) → served line.verb ≡ Some lane → FedBy line.caller lane history
line_alone lines i line history within is alone lane serves = alone i line lane (slice_get-get_or lines i line within ∙ ap Some (sym is)) refl serves

-- also so far
pub alone_so_far : (lines : List Line) (old new more : List Entry) → new ≡ old ++ more → ((c : ℕ) → FeedsAlone lines c new) → (c : ℕ) → FeedsAlone lines c old
alone_so_far lines old new more grown alone c = alone_front lines c old more (subst (FeedsAlone lines c) grown (alone c))

-- one line more, of a store that was opened as it was at first
pub all_given_more :
    {D : Type 0} (told : D → Told) (first : State) (tapes : List (List ℕ)) (lines : List Line) (i : ℕ) (line : Line) (mid : Shown D) (origin : D) (new : List Entry) (lists : List (Vec Heard Global)) (j : ℕ) (v w : Vec Heard Global)
    → i < length lines → line ≡ get_or lines i line → j + 1 ≡ line.caller → j < length lists → v ≡ get_or lists j v → mid.origin ≡ origin → (more : List Entry) × (new ≡ history_of mid ++ more)
    → (IsTrue (told mid.origin).honest → (s : State) → opened_from (told mid.origin).bytes ≡ Some s → Keeps told s mid → ((lane : ℕ) → IsAtRest (after s tapes (history_of mid)) lane) → ((lane : ℕ) → served line.verb ≡ Some lane → FedBy line.caller lane new)
    → LineGave s tapes line.caller (history_of mid) new v.items w.items)
    → IsTrue (told origin).honest → opened_from (told origin).bytes ≡ Some first → Keeps told first mid → (((c : ℕ) → FeedsAlone lines c (history_of mid)) → AreGiven first tapes (history_of mid) lists) → ((c : ℕ) → FeedsAlone lines c new)
    → AreGiven first tapes new (set lists j w)
all_given_more told first tapes lines i line mid origin new lists j v w within is at listed there same grown gave honest opened keeps before alone =
    let so_far = before (alone_so_far lines (history_of mid) new grown.0 grown.1 alone) in
    given_more first tapes line.caller j (history_of mid) new lists v w at listed there so_far
    (gave (subst (λ d. IsTrue (told d).honest) (sym same) honest) first (subst (λ d. opened_from (told d).bytes ≡ Some first) (sym same) opened) keeps so_far.rests (line_alone lines i line new within is (alone line.caller)))
