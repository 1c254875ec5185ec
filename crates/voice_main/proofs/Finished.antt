-- What the lines of a serial run leave, and what their callers heard.
use Rattle.std.proofs.Common.{◌≡◌, ◌+◌, ◌≤◌, ℕ, suc, ◌⊎◌, inl, inr, List, [], ◌∷◌, ◌++◌, map, length, take, Some, Bool, true, false, not, refl, sym, subst, arith}
use Rattle.std.specs.Prelude.{IsTrue, All, Vec}
use Rattle.std.specs.declared.alloc.Global.{Global}
use Rattle.std.specs.Arc.{arc_value}
use Rattle.std.proofs.lemmas.List.{take_all}
use Rattle.voice_outside.specs.Disk.{Told}
use Rattle.voice_model.specs.declared.calls.Call.{Call}
use Rattle.voice_model.specs.declared.calls.Call.TheVariants as calls
use Rattle.voice_model.specs.declared.calls.Entry.{Entry}
use Rattle.voice_model.specs.State.{State}
use Rattle.voice_model.specs.Room.{used}
use Rattle.voice_model.specs.Step.{after}
use Rattle.tallies.specs.Tallies.{samples_of}
use Rattle.voice_model.specs.Heard.{LegalOn}
use Rattle.voice_model.specs.Image.{opened_from}
use Rattle.voice_model.specs.Follows.{Follows, variables_after}
use Rattle.voice_model.specs.Valid.{Every}
use Rattle.voice_store.specs.declared.inside.Inside.{Inside}
use Rattle.voice_store.specs.Shown.{Stands}
use Rattle.voice_store.specs.Turns.{ShortTurns}
use Rattle.serving_laws.specs.Lanes.{IsAtRest}
use Rattle.script_lang.specs.declared.scripts.Line.{Line}
use Rattle.script_lang.specs.Shown.{Reading}
use Rattle.script_lang.specs.Errands.{errand_of, HasFile}
use Rattle.script_lang.specs.Verbs.{is_built_verb}
use Rattle.script_lang.specs.Whole.{IsLineOf, IsWhole}
use Rattle.servings.specs.Asked.{asked_entries, is_landing, AreBy}
use Rattle.served_files.specs.declared.heard.Heard.{Heard}
use Rattle.served_files.specs.Lines.{lines_of_caller, entries_of_caller}
use Rattle.served_files.specs.Given.{GivesFiles, GivesTo, FeedsAlone, names_in, bytes_in}
use Rattle.served_files.specs.Files.{IsHeard, AreEnough, heard_of, queues_of}
use Rattle.served_files.proofs.Alone.{feeds_alone, enough}
use Rattle.voice_main.specs.Ordered.{Variables, unset, with_those_of, InOrder, BeginsInOrder}
use Rattle.voice_main.specs.Ran.{Begun, MadeGiving, Performed}
use Rattle.voice_main.specs.MadeRuns.{IsCounted}
use Rattle.voice_main.proofs.Came.{ended, in_short_turns}
use Rattle.voice_main.proofs.Followed.{each_begins, each_follows, same_of_caller}
use Rattle.voice_main.proofs.HeardLists.{queued_names, queued_bytes}
use Rattle.voice_main.proofs.LineGiven.{all_asked}
use Rattle.voice_main.proofs.Rested.{opened_rests}

-- ---- whose the entries are

lands : (call : Call) → is_landing call ≡ true → call ≡ calls.Landed
lands calls.Landed h = refl
lands _ h = cc

every_append : (P : Entry → Type 0) (xs ys : List Entry) → Every P xs → Every P ys → Every P (xs ++ ys)
every_append P [] ys h k = k
every_append P (x ∷ xs) ys h k = (h.0, every_append P xs ys h.1 k)

-- the caller is one of so many
abbrev IsOne : ℕ → Entry → Type 0
IsOne callers e = (1 ≤ e.caller) × (e.caller ≤ callers)

own_by : (callers caller : ℕ) (own : List Entry) → 1 ≤ caller → caller ≤ callers → AreBy caller own → Every (IsOne callers) own
own_by callers caller [] least most h = tt
own_by callers caller (e ∷ es) least most h = ((omega (arith, h.0, least), omega (arith, h.0, most)), own_by callers caller es least most h.1)

ordered_by : (tapes : List (List ℕ)) (samples callers : ℕ) (variables : Variables) (lines : List Line) (entries : List Entry) → All (IsLineOf is_built_verb samples callers) lines → InOrder tapes variables lines entries → Every (IsOne callers) entries
ordered_by tapes samples callers variables [] entries all h = subst (Every (IsOne callers)) (sym h) tt
ordered_by tapes samples callers variables (line ∷ lines) entries all h =
    let here : IsLineOf is_built_verb samples callers line = all 0 line (omega arith) in
    subst (Every (IsOne callers)) (sym h.2)
    (every_append (IsOne callers) h.0 h.1 (own_by callers line.caller h.0 here.least here.most h.3) (ordered_by tapes samples callers (with_those_of line.caller (variables_after line.bind h.0 (variables line.caller)) variables) lines h.1 (λ k d within. all (suc k) d (omega (arith, within))) h.5))

-- each entry is a landing, or a caller's
asked_by : (tapes : List (List ℕ)) (script : Reading) (history : List Entry) → IsWhole is_built_verb script → InOrder tapes unset script.lines (asked_entries history) → Every (λ e. IsOne script.callers e ⊎ (e.call ≡ calls.Landed)) history
asked_by tapes script history whole order =
    all_asked (λ e. IsOne script.callers e ⊎ (e.call ≡ calls.Landed)) (λ e is. inr (lands e.call is)) history
    (each_one (asked_entries history) (ordered_by tapes (length script.samples) script.callers unset script.lines (asked_entries history) whole.lines order))
  where
    each_one : (es : List Entry) → Every (IsOne script.callers) es → Every (λ e. IsOne script.callers e ⊎ (e.call ≡ calls.Landed)) es
    each_one [] h = tt
    each_one (e ∷ es) h = (inl h.0, each_one es h.1)

pub some_caller : (callers : ℕ) (es : List Entry) → Every (λ e. ((1 ≤ e.caller) × (e.caller ≤ callers)) ⊎ (e.call ≡ calls.Landed)) es → Every (λ e. (1 ≤ e.caller) ⊎ (e.call ≡ calls.Landed)) es
some_caller callers [] h = tt
some_caller callers (e ∷ es) h = (one h.0, some_caller callers es h.1)
  where
    one : ((1 ≤ e.caller) × (e.caller ≤ callers)) ⊎ (e.call ≡ calls.Landed) → (1 ≤ e.caller) ⊎ (e.call ≡ calls.Landed)
    one (inl k) = inl k.0
    one (inr k) = inr k

pub as_many : (callers count : ℕ) (es : List Entry) → callers ≡ count → Every (λ e. ((1 ≤ e.caller) × (e.caller ≤ callers)) ⊎ (e.call ≡ calls.Landed)) es → Every (λ e. ((1 ≤ e.caller) × (e.caller ≤ count)) ⊎ (e.call ≡ calls.Landed)) es
as_many callers count es same h = subst (λ n. Every (λ e. ((1 ≤ e.caller) × (e.caller ≤ n)) ⊎ (e.call ≡ calls.Landed)) es) same h

-- each line that serves a lane names a file
pub files_named : (samples callers : ℕ) (lines : List Line) → All (IsLineOf is_built_verb samples callers) lines → All (λ (line : Line). HasFile line.verb line.file) lines
files_named samples callers lines all k d within = (all k d within).file

-- ---- what callers heard

-- as their files are queued
pub heard_so : (honest : Bool) (first : State) (tapes : List (List ℕ)) (lines : List Line) (history : List Entry) (lists : List (Vec Heard Global))
    → ((c : ℕ) → 1 ≤ c → GivesFiles tapes [] (lines_of_caller c lines) (entries_of_caller c history) (names_in (heard_of lists c)))
    → (IsTrue honest → (c : ℕ) → 1 ≤ c → GivesTo c first tapes history (bytes_in (heard_of lists c))) → IsHeard honest first tapes lines history (queues_of lists)
heard_so honest first tapes lines history lists names bytes = record {
  names = λ c some. subst (GivesFiles tapes [] (lines_of_caller c lines) (entries_of_caller c history)) (sym (queued_names (heard_of lists c))) (names c some);
  bytes = λ is c some. subst (GivesTo c first tapes history) (sym (queued_bytes (heard_of lists c))) (bytes is c some);
}

-- ---- a serial run

begun_so : (honest : Bool) (first : State) (tapes : List (List ℕ)) (script : Reading) (k : ℕ) (history : List Entry) → LegalOn honest first tapes history → BeginsInOrder tapes script.lines k (asked_entries history) → Begun false tapes script k history honest first
begun_so honest first tapes script k history legal order = record { legal = legal; order = order; each = λ c some. (k, each_begins honest first tapes script.lines k history legal order c some) }

-- the first lines, as they stand on the disk
pub serial_begun :
    {D : Type 0} (told : D → Told) (first : State) (entry origin final out : D) (inside : Inside) (lent tapes : List (List ℕ)) (script : Reading) (shown history : List Entry) {wanted : Bool} → origin ≡ entry → out ≡ final → Stands first (told origin) (told final) inside wanted
    → (IsTrue (told entry).honest → opened_from (told entry).bytes ≡ Some first) → inside.history.items ≡ shown → history ≡ shown → arc_value inside.tapes ≡ tapes → lent ≡ tapes → (k : ℕ) × BeginsInOrder lent script.lines k (asked_entries shown)
    → (k : ℕ) × Performed tapes (Begun false tapes script k history) (told entry) (told out) history
serial_begun told first entry origin final out inside lent tapes script shown history origin_is out_is stands opened inside_history same_history inside_tapes same_tapes order = (
  order.0,
  ended told first entry origin final out inside tapes shown history (λ h. Begun false tapes script order.0 h) origin_is out_is stands opened inside_history same_history inside_tapes
      (λ legal. begun_so (told entry).honest first tapes script order.0 shown legal (subst (λ t. BeginsInOrder t script.lines order.0 (asked_entries shown)) same_tapes order.1)),
)

-- what all lines gave, by names
named_so : (honest : Bool) (first : State) (tapes : List (List ℕ)) (lines : List Line) (history : List Entry) (lists : List (Vec Heard Global)) → LegalOn honest first tapes history
    → ((c : ℕ) → 1 ≤ c → GivesFiles tapes [] (lines_of_caller c lines) (entries_of_caller c (asked_entries history)) (names_in (heard_of lists c)))
    → (c : ℕ) → 1 ≤ c → GivesFiles tapes [] (lines_of_caller c lines) (entries_of_caller c history) (names_in (heard_of lists c))
named_so honest first tapes lines history lists legal names c some = subst (λ es. GivesFiles tapes [] (lines_of_caller c lines) es (names_in (heard_of lists c))) (same_of_caller honest first tapes history c some legal) (names c some)

giving_so :
    (honest : Bool) (first : State) (tapes : List (List ℕ)) (script : Reading) (history : List Entry) (lists : List (Vec Heard Global)) → IsWhole is_built_verb script → LegalOn honest first tapes history → InOrder tapes unset script.lines (asked_entries history)
    → ((c : ℕ) → 1 ≤ c → GivesFiles tapes [] (lines_of_caller c script.lines) (entries_of_caller c (asked_entries history)) (names_in (heard_of lists c)))
    → (IsTrue honest → ((c : ℕ) → FeedsAlone script.lines c history) → (c : ℕ) → 1 ≤ c → GivesTo c first tapes history (bytes_in (heard_of lists c)))
    → (old new : Told) → ShortTurns first tapes (old.calls + 5) history new.calls → MadeGiving false tapes script old new history (queues_of lists) honest first
giving_so honest first tapes script history lists whole legal order names bytes old new turns =
    let all : take (length script.lines) script.lines ≡ script.lines = take_all (length script.lines) script.lines (omega arith) in
    let follows = each_follows honest first tapes script.lines history legal order in
    let alone = feeds_alone tapes script.lines history whole.owners follows (some_caller script.callers history (asked_by tapes script history whole order)) in (
      record {
        legal = legal;
        order = subst (λ l. InOrder tapes unset l (asked_entries history)) (sym all) order;
        each = subst (λ l. (c : ℕ) → 1 ≤ c → Follows [] (map (errand_of tapes) (lines_of_caller c l)) (entries_of_caller c history)) (sym all) follows;
      },
      heard_so honest first tapes script.lines history lists (named_so honest first tapes script.lines history lists legal names) (λ is. bytes is alone),
      turns,
    )

-- what is not so
pub never : (b : Bool) → not b ≡ true → b ≡ false
never false e = refl
never true e = let no : ⊥ = cc in absurd no

-- all lines of a script, as they stand on the disk
module _ {D : Type 0} (told : D → Told) (first : State) (entry opened_origin origin final out : D) (inside : Inside) (lent tapes : List (List ℕ)) (script : Reading) (shown history : List Entry) (lists : List (Vec Heard Global)) (wanted : Bool) where
  -- what they gave, by the tapes that the store has
  giving_lent : IsWhole is_built_verb script → opened_origin ≡ entry → origin ≡ entry → out ≡ final → Stands first (told origin) (told final) inside wanted → wanted ≡ false → (IsTrue (told entry).honest → opened_from (told entry).bytes ≡ Some first)
      → inside.history.items ≡ shown → arc_value inside.tapes ≡ tapes → lent ≡ tapes → InOrder lent unset script.lines (asked_entries shown)
      → ((c : ℕ) → 1 ≤ c → GivesFiles lent [] (lines_of_caller c script.lines) (entries_of_caller c (asked_entries shown)) (names_in (heard_of lists c)))
      → (IsTrue (told opened_origin).honest → opened_from (told opened_origin).bytes ≡ Some first → ((lane : ℕ) → IsAtRest first lane) → ((c : ℕ) → FeedsAlone script.lines c shown) → (c : ℕ) → 1 ≤ c → GivesTo c first lent shown (bytes_in (heard_of lists c)))
      → LegalOn (told entry).honest first tapes shown → MadeGiving false tapes script (told entry) (told out) shown (queues_of lists) (told entry).honest first
  giving_lent whole opened_is origin_is out_is stands unwanted opened inside_history inside_tapes same_tapes order names bytes legal =
      giving_so (told entry).honest first tapes script shown lists whole legal (subst (λ t. InOrder t unset script.lines (asked_entries shown)) same_tapes order)
      (λ c some. subst (λ t. GivesFiles t [] (lines_of_caller c script.lines) (entries_of_caller c (asked_entries shown)) (names_in (heard_of lists c))) same_tapes (names c some))
      (λ is alone c some. subst (λ t. GivesTo c first t shown (bytes_in (heard_of lists c))) same_tapes
      (bytes (subst (λ d. IsTrue (told d).honest) (sym opened_is) is) (subst (λ d. opened_from (told d).bytes ≡ Some first) (sym opened_is) (opened is)) (opened_rests (told entry).bytes first (opened is)) alone c some))
      (told entry) (told out) (in_short_turns told first entry origin final out inside tapes shown wanted origin_is out_is stands unwanted inside_history inside_tapes)

  pub serial_finished : IsWhole is_built_verb script → opened_origin ≡ entry → origin ≡ entry → out ≡ final → Stands first (told origin) (told final) inside wanted → wanted ≡ false → (IsTrue (told entry).honest → opened_from (told entry).bytes ≡ Some first)
      → inside.history.items ≡ shown → history ≡ shown → arc_value inside.tapes ≡ tapes → lent ≡ tapes → InOrder lent unset script.lines (asked_entries shown)
      → ((c : ℕ) → 1 ≤ c → GivesFiles lent [] (lines_of_caller c script.lines) (entries_of_caller c (asked_entries shown)) (names_in (heard_of lists c)))
      → (IsTrue (told opened_origin).honest → opened_from (told opened_origin).bytes ≡ Some first → ((lane : ℕ) → IsAtRest first lane) → ((c : ℕ) → FeedsAlone script.lines c shown) → (c : ℕ) → 1 ≤ c → GivesTo c first lent shown (bytes_in (heard_of lists c)))
      → Performed tapes (MadeGiving false tapes script (told entry) (told out) history (queues_of lists)) (told entry) (told out) history
  serial_finished whole opened_is origin_is out_is stands unwanted opened inside_history same_history inside_tapes same_tapes order names bytes =
      ended told first entry origin final out inside tapes shown history (λ h. MadeGiving false tapes script (told entry) (told out) h (queues_of lists)) origin_is out_is stands opened inside_history same_history inside_tapes
      (giving_lent whole opened_is origin_is out_is stands unwanted opened inside_history inside_tapes same_tapes order names bytes)

  -- and how much there is after them
  pub serial_counted : (ropes samples blocks : ℕ) → IsWhole is_built_verb script → opened_origin ≡ entry → origin ≡ entry → out ≡ final → Stands first (told origin) (told final) inside wanted → wanted ≡ false
      → (IsTrue (told entry).honest → opened_from (told entry).bytes ≡ Some first)
      → inside.history.items ≡ shown → history ≡ shown → arc_value inside.tapes ≡ tapes → lent ≡ tapes → InOrder lent unset script.lines (asked_entries shown)
      → ((c : ℕ) → 1 ≤ c → GivesFiles lent [] (lines_of_caller c script.lines) (entries_of_caller c (asked_entries shown)) (names_in (heard_of lists c)))
      → (IsTrue (told opened_origin).honest → opened_from (told opened_origin).bytes ≡ Some first → ((lane : ℕ) → IsAtRest first lane) → ((c : ℕ) → FeedsAlone script.lines c shown) → (c : ℕ) → 1 ≤ c → GivesTo c first lent shown (bytes_in (heard_of lists c)))
      → (let s = after first tapes shown in (ropes ≡ length s.kept.ropes) × (samples ≡ samples_of s.kept.ropes) × (blocks ≡ used s))
      → Performed tapes (IsCounted tapes script (told entry) (told out) history ropes samples blocks) (told entry) (told out) history
  serial_counted ropes samples blocks whole opened_is origin_is out_is stands unwanted opened inside_history same_history inside_tapes same_tapes order names bytes counts =
      ended told first entry origin final out inside tapes shown history (λ h. IsCounted tapes script (told entry) (told out) h ropes samples blocks) origin_is out_is stands opened inside_history same_history inside_tapes
      (λ legal. let giving = giving_lent whole opened_is origin_is out_is stands unwanted opened inside_history inside_tapes same_tapes order names bytes legal in ((giving.0, giving.2), counts))

-- there is a file for each entry that ends a serving
pub serial_enough :
    (honest : Bool) (first : State) (tapes : List (List ℕ)) (script : Reading) (shown history : List Entry) (lists : List (Vec Heard Global)) → IsWhole is_built_verb script → LegalOn honest first tapes shown → history ≡ shown → length lists ≡ script.callers → InOrder tapes unset script.lines (asked_entries shown)
    → ((c : ℕ) → 1 ≤ c → GivesFiles tapes [] (lines_of_caller c script.lines) (entries_of_caller c (asked_entries shown)) (names_in (heard_of lists c))) → AreEnough history lists × (length lists ≤ 16)
serial_enough honest first tapes script shown history lists whole legal same count order names = (
  subst (λ h. AreEnough h lists) (sym same)
      (enough tapes script.lines shown lists (named_so honest first tapes script.lines shown lists legal names) (files_named (length script.samples) script.callers script.lines whole.lines) (as_many script.callers (length lists) shown (sym count) (asked_by tapes script shown whole order))),
  (let few = whole.most in omega (arith, count, few)),
)
