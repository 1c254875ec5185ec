-- Each lane that a caller's lines serve is fed by the caller alone, and each entry that ends a serving has its file.
use Rattle.std.proofs.Common.{◌≡◌, ◌≤◌, ℕ, suc, ◌⊎◌, inl, inr, Bool, true, false, true≢false, cond, eqb, List, [], ◌∷◌, ◌++◌, map, length, Some, slice_get, All, refl, sym, ap, subst, ◌∙◌, arith, Vec, Global, eqb-true}
use Rattle.std.specs.Prelude.{count_by}
use Rattle.std.proofs.lemmas.Bool.{eq-eqb, and_left}
use Rattle.std.proofs.lemmas.List.{length-map}
use Rattle.std.proofs.lemmas.List.Elements.{All-filter}
use Rattle.voice_model.specs.declared.calls.Call.TheVariants as calls
use Rattle.voice_model.specs.declared.calls.Entry.{Entry}
use Rattle.voice_model.specs.Follows.{Binding, Follows, variables_after}
use Rattle.voice_model.specs.Valid.{Every}
use Rattle.voice_model.proofs.KeptByChanges.{every-append, every-imply}
use Rattle.voice_model.proofs.Order.{every-split}
use Rattle.serving_laws.specs.Lanes.{Feeds}
use Rattle.script_lang.specs.declared.scripts.Line.{Line}
use Rattle.script_lang.specs.Parts.{served}
use Rattle.script_lang.specs.Owners.{HaveOneOwner}
use Rattle.script_lang.specs.Errands.{errand_of, asked, HasFile}
use Rattle.script_lang.proofs.Owned.{one_owner}
use Rattle.served_files.specs.declared.heard.Heard.{Heard}
use Rattle.served_files.specs.Lines.{lines_of_caller, entries_of_caller}
use Rattle.served_files.specs.Given.{is_feed, is_over, ends_serving, gives_to, GivesFiles, FeedsAlone}
use Rattle.served_files.specs.Files.{heard_of, AreEnough}
use Rattle.served_files.proofs.Servings.{line_feeds}
use Rattle.served_files.proofs.Names.{asks_no_feed, names_count, count_of_caller}

-- ---- each of a list

-- what follows of each element from two facts of it
pub every_both : {A : Type 0} (P Q R : A → Type 0) (xs : List A) → ((x : A) → P x → Q x → R x) → Every P xs → Every Q xs → Every R xs
every_both P Q R [] f h k = tt
every_both P Q R (x ∷ xs) f h k = (f x h.0 k.0, every_both P Q R xs f h.1 k.1)

-- what holds of each, said by place and by recursion
pub every_of_all : {A : Type 0} (P : A → Type 0) (xs : List A) → All P xs → Every P xs
every_of_all P [] h = tt
every_of_all P (x ∷ xs) h = (h 0 x (omega arith), every_of_all P xs (λ k d within. h (suc k) d (omega arith)))

-- ---- what a caller's lines feed

-- one of the lines serves the lane
abbrev pub IsServedBy : List Line → ℕ → Type 0
IsServedBy [] lane = ⊥
IsServedBy (line ∷ lines) lane = (served line.verb ≡ Some lane) ⊎ IsServedBy lines lane

-- entries that follow lines feed only lanes that the lines serve
pub follows_feeds : (tapes : List (List ℕ)) (variables : List Binding) (lines : List Line) (es : List Entry) → Follows variables (map (errand_of tapes) lines) es → Every (λ e. (lane : ℕ) → Feeds lane e.call → IsServedBy lines lane) es
follows_feeds tapes variables [] es h = subst (λ l. Every (λ e. (lane : ℕ) → Feeds lane e.call → ⊥) l) (sym h) tt
follows_feeds tapes variables (line ∷ lines) es h =
    let own : List Entry = h.0 in
    let rest : List Entry = h.1 in
    let here = line_feeds (asked tapes line.verb variables) (served line.verb) own (asks_no_feed tapes line.verb variables) h.3 in
    let later = follows_feeds tapes (variables_after line.bind own variables) lines rest h.4 in
    subst (Every (λ e. (lane : ℕ) → Feeds lane e.call → IsServedBy (line ∷ lines) lane)) (sym h.2)
    (every-append (λ e. (lane : ℕ) → Feeds lane e.call → IsServedBy (line ∷ lines) lane) own rest
    (every-imply _ _ (λ e f lane feeds. inl (f lane feeds)) own here) (every-imply _ _ (λ e f lane feeds. inr (f lane feeds)) rest later))

-- a line of the caller that serves the lane
abbrev pub IsServedAt : List Line → ℕ → ℕ → Type 0
IsServedAt lines caller lane = (k : ℕ) × (line : Line) × (slice_get lines k ≡ Some line) × (line.caller ≡ caller) × (served line.verb ≡ Some lane)

at_later : (line : Line) (lines : List Line) (caller lane : ℕ) → IsServedAt lines caller lane → IsServedAt (line ∷ lines) caller lane
at_later line lines caller lane h = (suc h.0, h.1, h.2, h.3, h.4)

served_by_test : (b : Bool) (line : Line) (lines own : List Line) (caller lane : ℕ) → eqb line.caller caller ≡ b → (IsServedBy own lane → IsServedAt lines caller lane) → IsServedBy (cond b (line ∷ own) own) lane → IsServedAt (line ∷ lines) caller lane
served_by_test false line lines own caller lane is f h = at_later line lines caller lane (f h)
served_by_test true line lines own caller lane is f (inl serves) = (0, line, refl, eqb-true line.caller caller is, serves)
served_by_test true line lines own caller lane is f (inr later) = at_later line lines caller lane (f later)

served_at : (lines : List Line) (caller lane : ℕ) → IsServedBy (lines_of_caller caller lines) lane → IsServedAt lines caller lane
served_at [] caller lane h = absurd h
served_at (line ∷ lines) caller lane h = served_by_test (eqb line.caller caller) line lines (lines_of_caller caller lines) caller lane refl (served_at lines caller lane) h

-- ---- each entry, by its caller

of_caller_test : (b : Bool) (P : Entry → Type 0) (e : Entry) (es own : List Entry) (c : ℕ) → eqb e.caller c ≡ b → (Every P own → Every (λ x. x.caller ≡ c → P x) es) → Every P (cond b (e ∷ own) own) → Every (λ x. x.caller ≡ c → P x) (e ∷ es)
of_caller_test true P e es own c is f h = ((λ same. h.0), f h.1)
of_caller_test false P e es own c is f h = ((λ same. absurd (true≢false (sym (eq-eqb e.caller c same) ∙ is))), f h)

-- what holds of each entry of a caller
pub of_caller : (P : Entry → Type 0) (c : ℕ) (es : List Entry) → Every P (entries_of_caller c es) → Every (λ x. x.caller ≡ c → P x) es
of_caller P c [] h = tt
of_caller P c (e ∷ es) h = of_caller_test (eqb e.caller c) P e es (entries_of_caller c es) c refl (of_caller P c es) h

-- and so of each caller, holds of each entry, of its caller
of_each : (P : ℕ → Entry → Type 0) (es : List Entry) → ((c : ℕ) → 1 ≤ c → Every (λ x. x.caller ≡ c → P c x) es) → Every (λ x. 1 ≤ x.caller → P x.caller x) es
of_each P [] f = tt
of_each P (e ∷ es) f = ((λ some. (f e.caller some).0 refl), of_each P es (λ c some. (f c some).1))

-- ---- alone

-- where each caller's entries follow its lines, and no lane is served for two callers, each lane that a caller's lines serve is fed by it alone
pub feeds_alone : (tapes : List (List ℕ)) (lines : List Line) (history : List Entry) → HaveOneOwner lines → ((c : ℕ) → 1 ≤ c → Follows [] (map (errand_of tapes) (lines_of_caller c lines)) (entries_of_caller c history))
    → Every (λ e. (1 ≤ e.caller) ⊎ (e.call ≡ calls.Landed)) history → (c : ℕ) → FeedsAlone lines c history
feeds_alone tapes lines history owners follows asked_by c number line lane at own serves =
    let P : ℕ → Entry → Type 0 = λ d x. Feeds lane x.call → IsServedBy (lines_of_caller d lines) lane in
    let each : Every (λ x. 1 ≤ x.caller → P x.caller x) history = of_each P history
    (λ d some. of_caller (P d) d history (every-imply (λ x. (other : ℕ) → Feeds other x.call → IsServedBy (lines_of_caller d lines) other) (P d) (λ x f. f lane) (entries_of_caller d history) (follows_feeds tapes [] (lines_of_caller d lines) (entries_of_caller d history) (follows d some)))) in
    every_both (λ x. 1 ≤ x.caller → P x.caller x) (λ e. (1 ≤ e.caller) ⊎ (e.call ≡ calls.Landed)) (λ e. Feeds lane e.call → e.caller ≡ c) history one each asked_by
  where
    one : (x : Entry) → (1 ≤ x.caller → Feeds lane x.call → IsServedBy (lines_of_caller x.caller lines) lane) → (1 ≤ x.caller) ⊎ (x.call ≡ calls.Landed) → Feeds lane x.call → x.caller ≡ c
    one x f (inl some) feeds =
        let there = served_at lines x.caller lane (f some feeds) in
        sym there.3 ∙ one_owner lines owners there.0 number there.1 line lane there.2 at there.4 serves ∙ own
    one x f (inr lands) feeds = absurd (subst (Feeds lane) lands feeds)

-- also in the front of a history
pub alone_front : (lines : List Line) (c : ℕ) (xs ys : List Entry) → FeedsAlone lines c (xs ++ ys) → FeedsAlone lines c xs
alone_front lines c xs ys h = λ number line lane at own serves. (every-split (λ e. Feeds lane e.call → e.caller ≡ c) xs ys (h number line lane at own serves)).0

-- ---- enough

lands_not : (e : Entry) → e.call ≡ calls.Landed → ends_serving e ≡ true → ⊥
lands_not e lands ends = true≢false (sym ends ∙ and_left (is_feed e.call) (is_over e.reply) (ap is_feed lands))

listed : (count : ℕ) (e : Entry) → ((1 ≤ e.caller) × (e.caller ≤ count)) ⊎ (e.call ≡ calls.Landed) → ends_serving e ≡ true → (1 ≤ e.caller) × (e.caller ≤ count)
listed count e (inl h) ends = h
listed count e (inr lands) ends = absurd (lands_not e lands ends)

-- where each caller heard the files that its lines give, there is one for each entry that ends a serving
pub enough : (tapes : List (List ℕ)) (lines : List Line) (history : List Entry) (lists : List (Vec Heard Global))
    → ((caller : ℕ) → 1 ≤ caller → GivesFiles tapes [] (lines_of_caller caller lines) (entries_of_caller caller history) (map (λ h. h.file) (heard_of lists caller))) → All (λ line. HasFile line.verb line.file) lines
    → Every (λ e. ((1 ≤ e.caller) × (e.caller ≤ length lists)) ⊎ (e.call ≡ calls.Landed)) history → AreEnough history lists
enough tapes lines history lists gives named asked_by = record {
  callers = every-imply _ _ (listed (length lists)) history asked_by;
  files = λ caller some.
      let own : Every (λ line. HasFile line.verb line.file) (lines_of_caller caller lines) = every_of_all _ (lines_of_caller caller lines) (All-filter (λ line. eqb line.caller caller) (λ line. HasFile line.verb line.file) lines named) in
      let names : List (List ℕ) = map (λ h. h.file) (heard_of lists caller) in
      let count : count_by (gives_to caller) history ≡ length names = count_of_caller caller history ∙ names_count tapes [] (lines_of_caller caller lines) (entries_of_caller caller history) names (gives caller some) own in
      let long : length names ≡ length (heard_of lists caller) = length-map (heard_of lists caller) (λ h. h.file) in
      omega (arith, count, long);
}
