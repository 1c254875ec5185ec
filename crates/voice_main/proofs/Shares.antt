-- A store that the callers of a script share.
use Rattle.std.proofs.Common.{◌≡◌, ◌<◌, ◌≤◌, ◌+◌, ◌-◌, ◌⊎◌, ◌&&◌, not, ℕ, zero, suc, inl, inr, Bool, true, false, List, [], ◌∷◌, ◌++◌, length, get_or, drop, cond, ◌==◌, refl, sym, ap, subst, ◌∙◌, arith, append-nil, Some}
use Rattle.std.specs.Prelude.{All, Vec, IsTrue, count_by}
use Rattle.std.specs.declared.alloc.Global.{Global}
use Rattle.std.proofs.lemmas.Bool.Decides.{nat_tests}
use Rattle.std.proofs.lemmas.List.{length-map}
use Rattle.std.proofs.lemmas.List.Sums.{sum_by-cons, sum_by-append}
use Rattle.voice_outside.specs.Disk.{Told}
use Rattle.voice_model.specs.State.{State}
use Rattle.voice_model.specs.Step.{state_after, after}
use Rattle.voice_model.specs.Image.{opened_from}
use Rattle.voice_model.specs.declared.calls.Entry.{Entry}
use Rattle.voice_model.specs.declared.calls.Call.TheVariants as calls
use Rattle.voice_model.specs.Valid.{Every as EachOf}
use Rattle.voice_store.specs.Shown.{Shown, history_of, tapes_in}
use Rattle.script_lang.specs.declared.scripts.Line.{Line}
use Rattle.script_lang.specs.Errands.{HasFile}
use Rattle.script_lang.specs.Shown.{Reading}
use Rattle.script_lang.specs.Verbs.{is_built_verb}
use Rattle.script_lang.specs.Whole.{IsLineOf, IsWhole}
use Rattle.turnstile.specs.Histories.{entries_of}
use Rattle.turnstile.specs.declared.parts.Pass.{Pass}
use Rattle.turnstile.specs.declared.parts.Turnstile.{Turnstile}
use Rattle.turnstile.specs.Turns.{Every, StandsIn, IsOfPasses, Begins}
use Rattle.turnstile.specs.Passes.{AreNewFrom, mine, seen, made_with}
use Rattle.turnstile.proofs.Views.{none_yet}
use Rattle.voice_server.specs.declared.born.Born.{Born}
use Rattle.voice_server.specs.declared.hall.Hall.{Hall}
use Rattle.voice_server.specs.declared.standing.Standing.{Standing}
use Rattle.voice_store.specs.Facts.{GoesOn}
use Rattle.voice_server.specs.Kept.{IsKept}
use Rattle.voice_server.specs.Kept as kept
use Rattle.voice_server.specs.Served.{store_of}
use Rattle.served_files.specs.declared.heard.Heard.{Heard}
use Rattle.served_files.specs.Lines.{BeginsLines, lines_of_caller, entries_of_caller}
use Rattle.served_files.specs.Given.{Gave, GivesFiles, GivesTo, GivesHere, FeedsAlone, gives_to, names_in, bytes_in}
use Rattle.served_files.specs.Files.{AreEnough, heard_of, queues_of}
use Rattle.served_files.proofs.Alone.{feeds_alone, alone_front, enough}
use Rattle.served_files.proofs.Bytes.{gives_append, gives_none}
use Rattle.served_files.proofs.Names.{follows_of, names_count, count_of_caller}
use Rattle.callers.specs.Lines.{FollowedInto}
use Rattle.callers.specs.Seats.{PassRan, EachRan, IsReadyPass}
use Rattle.voice_main.specs.Ordered.{EachFollows}
use Rattle.voice_main.specs.Ran.{Shared, SharedWhole, Begun, MadeGiving, Performed}
use Rattle.voice_main.proofs.Came.{performed_by, legal_of, in_short_turns}
use Rattle.voice_main.proofs.Finished.{heard_so, files_named, some_caller, as_many}
use Rattle.voice_main.proofs.Rested.{opened_rests}

-- ---- each caller's entries

same_entries : (c : ℕ) (es : List Entry) → entries_of c es ≡ entries_of_caller c es
same_entries c [] = refl
same_entries c (e ∷ es) = ap (λ l. cond (e.caller == c) (e ∷ l) l) (same_entries c es)

either : (a b : ℕ) → (a ≤ b) ⊎ (b < a)
either zero b = inl (omega arith)
either (suc a) zero = inr (omega arith)
either (suc a) (suc b) = by (either a b)
  where
    by : (a ≤ b) ⊎ (b < a) → (suc a ≤ suc b) ⊎ (suc b < suc a)
    by (inl h) = inl (omega arith)
    by (inr h) = inr (omega arith)

none_of_others : (callers c : ℕ) (history : List Entry) → callers < c → Every (IsOfPasses callers) history → entries_of_caller c history ≡ []
none_of_others callers c history high of = sym (same_entries c history) ∙ none_yet callers c history high of

no_lines : (callers samples c : ℕ) (lines : List Line) → callers < c → All (IsLineOf is_built_verb samples callers) lines → lines_of_caller c lines ≡ []
no_lines callers samples c [] high all = refl
no_lines callers samples c (l ∷ ls) high all =
    let here = all 0 l (omega arith) in
    let most = here.most in
    let other : (l.caller == c) ≡ false = grind (arith, nat_tests) in
    ap (λ b. cond b (l ∷ lines_of_caller c ls) (lines_of_caller c ls)) other ∙ no_lines callers samples c ls high (λ k d within. all (suc k) d (omega arith))

-- the files of a caller that is behind the last one with a list
none_past : (lists : List (Vec Heard Global)) (c : ℕ) → length lists < c → heard_of lists c ≡ []
none_past lists zero h = refl
none_past [] (suc c) h = refl
none_past (v ∷ vs) (suc zero) h = absurd (omega (arith, h))
none_past (v ∷ vs) (suc (suc c)) h = none_past vs (suc c) (omega (arith, h))

heard_or : (lists : List (Vec Heard Global)) (i : ℕ) (v : Vec Heard Global) → i < length lists → heard_of lists (suc i) ≡ (get_or lists i v).items
heard_or [] i v h = absurd (omega (arith, h))
heard_or (w ∷ ws) zero v h = refl
heard_or (w ∷ ws) (suc i) v h = heard_or ws i v (omega (arith, h))

-- what one caller's entries are: of all its lines where all had memory, which gave the files that it heard, and else of the first
pub record Own (tapes : List (List ℕ)) (lines : List Line) (memory : Bool) (c : ℕ) (entries : List Entry) (names : List (List ℕ)) : Type 0 where
  pub gave : memory ≡ true → GivesFiles tapes [] (lines_of_caller c lines) entries names
  pub so_far : (k : ℕ) × BeginsLines tapes lines c k entries

gave_by : (tapes : List (List ℕ)) (lines : List Line) (c by : ℕ) (old new entries : List Entry) (names : List (List ℕ)) → old ≡ [] → by ≡ c → new ≡ entries → Gave tapes lines by old new names → GivesFiles tapes [] (lines_of_caller c lines) entries names
gave_by tapes lines c by old new entries names none same is f =
    let all : f.own ≡ entries = sym (f.gained ∙ ap (λ l. l ++ f.own) none) ∙ is in
    subst (λ n. GivesFiles tapes [] (lines_of_caller n lines) entries names) same (subst (λ l. GivesFiles tapes [] (lines_of_caller by lines) l names) all f.gives)

begins_by : (tapes : List (List ℕ)) (lines : List Line) (k c by : ℕ) (old new entries : List Entry) → old ≡ [] → by ≡ c → new ≡ entries → FollowedInto tapes lines k by old new → BeginsLines tapes lines c k entries
begins_by tapes lines k c by old new entries none same is f =
    let all : f.own ≡ entries = sym (f.gained ∙ ap (λ l. l ++ f.own) none) ∙ is in
    subst (λ n. BeginsLines tapes lines n k entries) same (subst (BeginsLines tapes lines by k) all f.begins)

own_or_none : (tapes : List (List ℕ)) (lines : List Line) (memory : Bool) (callers samples c : ℕ) (history : List Entry) (lists : List (Vec Heard Global)) → All (IsLineOf is_built_verb samples callers) lines → Every (IsOfPasses callers) history → (memory ≡ true → length lists ≡ callers) → callers < c
    → Own tapes lines memory c (entries_of_caller c history) (names_in (heard_of lists c))
own_or_none tapes lines memory callers samples c history lists whole of count high =
    let none = none_of_others callers c history high of in
    record {
      gave = λ m.
          subst (λ ls. GivesFiles tapes [] ls (entries_of_caller c history) (names_in (heard_of lists c))) (sym (no_lines callers samples c lines high whole))
          (none, ap names_in (none_past lists c (let n = count m in omega (arith, high, n))));
      so_far = (0, record { front = []; part = []; more = []; split = none; follows = refl; into = inl refl });
    }

-- the files of a caller whose list is at this place, where there are as many lists as callers
named_at : (tapes : List (List ℕ)) (lines : List Line) (memory : Bool) (c i count : ℕ) (entries : List Entry) (lists : List (Vec Heard Global)) (v : Vec Heard Global) → (memory ≡ true → length lists ≡ count) → i < count → suc i ≡ c → Own tapes lines memory c entries (names_in (get_or lists i v).items)
    → Own tapes lines memory c entries (names_in (heard_of lists c))
named_at tapes lines memory c i count entries lists v many within is h = record {
  gave = λ m.
      subst (GivesFiles tapes [] (lines_of_caller c lines) entries)
      (ap names_in (sym (heard_or lists i v (let n = many m in omega (arith, within, n))) ∙ ap (heard_of lists) is)) (h.gave m);
  so_far = h.so_far;
}

module _ {D : Type 0} where
  every_at : (P : Pass (Standing D) (Born D) → Type 0) (ps : List (Pass (Standing D) (Born D))) (i : ℕ) (d : Pass (Standing D) (Born D)) → Every P ps → i < length ps → P (get_or ps i d)
  every_at P [] i d h within = absurd (omega arith)
  every_at P (p ∷ ps) zero d h within = h.0
  every_at P (p ∷ ps) (suc i) d h within = every_at P ps i d h.1 (omega arith)

  new_at : (start : Standing D → List Entry) (t : Turnstile (Standing D) (Born D)) (by : ℕ) (ps : List (Pass (Standing D) (Born D))) (i : ℕ) (d : Pass (Standing D) (Born D)) → AreNewFrom start t by ps → i < length ps → ((get_or ps i d).caller ≡ by + i) × (mine (get_or ps i d) ≡ []) × (seen (get_or ps i d) ≡ start (made_with t))
  new_at start t by [] i d h within = absurd (omega arith)
  new_at start t by (p ∷ ps) zero d h within = ((let e : p.caller ≡ by = h.0.2 in omega arith), h.0.4, h.0.3)
  new_at start t by (p ∷ ps) (suc i) d h within = let r = new_at start t (suc by) ps i d h.1 (omega arith) in ((let e = r.0 in omega arith), r.1, r.2)

  -- each pass knows all entries of its caller: none
  pub all_ready : (s : Hall (Standing D) (Born D)) (by : ℕ) (ps : List (Pass (Standing D) (Born D))) → AreNewFrom kept.history_of s.turnstile by ps → history_of (store_of s) ≡ [] → All (IsReadyPass s) ps
  all_ready s by [] h none k d within = absurd (omega (arith, within))
  all_ready s by (p ∷ ps) h none zero d within =
      let start = history_of (store_of s) in (
        (h.0.0, h.0.1),
        (
          (seen p, sym (ap (λ l. l ++ seen p) none)),
          h.0.4 ∙ sym (ap (λ l. entries_of p.caller (drop (length start) l)) (h.0.3 ∙ none) ∙ ap (λ (l : List Entry). entries_of p.caller (drop (length l) [])) none),
        ),
      )
  all_ready s by (p ∷ ps) h none (suc k) d within = all_ready s (suc by) ps h.1 none k d (omega (arith, within))

  own_by : (tapes : List (List ℕ)) (lines : List Line) (memory : Bool) (c : ℕ) (start history : List Entry) (p q : Pass (Standing D) (Born D)) (heard : List Heard) → PassRan tapes lines memory p q heard → p.caller ≡ c → mine p ≡ [] → start ≡ [] → StandsIn start history q.caller (seen q) (mine q)
      → Own tapes lines memory c (entries_of_caller c history) (names_in heard)
  own_by tapes lines memory c start history p q heard ran caller none fresh stands =
      let is : mine q ≡ entries_of_caller c history = stands.1 ∙ ap (λ n. entries_of n (drop (length start) history)) (ran.caller ∙ caller) ∙ ap (λ l. entries_of c (drop (length l) history)) fresh ∙ same_entries c history in
      record {
        gave = λ m. gave_by tapes lines c p.caller (mine p) (mine q) (entries_of_caller c history) (names_in heard) none caller is (ran.gave m);
        so_far = (ran.so_far.0, begins_by tapes lines ran.so_far.0 c p.caller (mine p) (mine q) (entries_of_caller c history) none caller is ran.so_far.1);
      }

  -- the entries of a caller that has a pass
  own_at : (told : D → Told) (tapes : List (List ℕ)) (lines : List Line) (s : Hall (Standing D) (Born D)) (memory : Bool) (starts : Standing D → List Entry) (c : ℕ) (start history : List Entry) (old new : List (Pass (Standing D) (Born D))) (lists : List (Vec Heard Global)) (v : Vec Heard Global) → EachRan told tapes lines s memory old new lists
      → AreNewFrom starts s.turnstile 1 old → start ≡ [] → Every (λ p. StandsIn start history p.caller (seen p) (mine p)) new → 1 ≤ c → c ≤ length old → Own tapes lines memory c (entries_of_caller c history) (names_in (heard_of lists c))
  own_at told tapes lines s memory starts c start history [] new lists v ran fresh none stand least most = absurd (omega arith)
  own_at told tapes lines s memory starts c start history (d ∷ old) new lists v ran fresh none stand least most =
      let all = d ∷ old in
      let i = c - 1 in
      let within : i < length all = omega arith in
      let there : i < length new = (let n = ran.count in omega arith) in
      let at = new_at starts s.turnstile 1 all i d fresh within in
      let caller : (get_or all i d).caller ≡ c = (let e = at.0 in omega arith) in
      named_at tapes lines memory c i (length all) (entries_of_caller c history) lists v ran.lists within (omega arith)
      (own_by tapes lines memory c start history (get_or all i d) (get_or new i d) (get_or lists i v).items (ran.each i d v within) caller at.1 none (every_at (λ p. StandsIn start history p.caller (seen p) (mine p)) new i d stand there))

  pub each_own : (told : D → Told) (tapes : List (List ℕ)) (lines : List Line) (s : Hall (Standing D) (Born D)) (memory : Bool) (callers samples : ℕ) (starts : Standing D → List Entry) (start history : List Entry) (old new : List (Pass (Standing D) (Born D))) (lists : List (Vec Heard Global)) (v : Vec Heard Global)
      → All (IsLineOf is_built_verb samples callers) lines → EachRan told tapes lines s memory old new lists → AreNewFrom starts s.turnstile 1 old → length old ≡ callers → start ≡ [] → Every (λ p. StandsIn start history p.caller (seen p) (mine p)) new → Every (IsOfPasses callers) history
      → (c : ℕ) → 1 ≤ c → Own tapes lines memory c (entries_of_caller c history) (names_in (heard_of lists c))
  each_own told tapes lines s memory callers samples starts start history old new lists v whole ran fresh count none stand of c least = by (either c callers)
    where
      by : (c ≤ callers) ⊎ (callers < c) → Own tapes lines memory c (entries_of_caller c history) (names_in (heard_of lists c))
      by (inl h) = own_at told tapes lines s memory starts c start history old new lists v ran fresh none stand least (omega arith)
      by (inr h) = own_or_none tapes lines memory callers samples c history lists whole of (λ m. ran.lists m ∙ count) h

-- ---- what each caller heard

-- as many files are given as entries end a serving of the caller
here_count : (b : Bool) (s : State) (e : Entry) (given : List (List ℕ)) (on : List (List ℕ) → Type 0) (n : ℕ) → ((more : List (List ℕ)) → on more → n ≡ length more) → GivesHere b s e given on → cond b 1 0 + n ≡ length given
here_count true s e given on n f h = let m = f h.1 h.4 in let l = ap length h.2 in omega (arith, m, l)
here_count false s e given on n f h = let m = f given h in omega (arith, m)

gives_count : (c : ℕ) (s : State) (tapes : List (List ℕ)) (es : List Entry) (given : List (List ℕ)) → GivesTo c s tapes es given → count_by (gives_to c) es ≡ length given
gives_count c s tapes [] given h = sym (ap length h)
gives_count c s tapes (e ∷ es) given h =
    sum_by-cons (λ x. cond (gives_to c x) 1 0) e es
    ∙ here_count (gives_to c e) s e given (λ more. GivesTo c (state_after s tapes e) tapes es more) (count_by (gives_to c) es) (λ more k. gives_count c (state_after s tapes e) tapes es more k) h

none_here : (b : Bool) (n : ℕ) → cond b 1 0 + n ≡ 0 → (b ≡ false) × (n ≡ 0)
none_here true n h = absurd (omega (arith, h))
none_here false n h = (refl, omega (arith, h))

none_counted : (p : Entry → Bool) (es : List Entry) → count_by p es ≡ 0 → EachOf (λ e. p e ≡ false) es
none_counted p [] h = tt
none_counted p (e ∷ es) h = let both = none_here (p e) (count_by p es) (sym (sum_by-cons (λ x. cond (p x) 1 0) e es) ∙ h) in (both.0, none_counted p es both.1)

-- what gave the caller all its files gave it all that the whole history does
on_behind : (c samples callers : ℕ) (s : State) (tapes : List (List ℕ)) (lines : List Line) (front history : List Entry) (heard : List Heard) → All (IsLineOf is_built_verb samples callers) lines → Begins front history
    → GivesFiles tapes [] (lines_of_caller c lines) (entries_of_caller c history) (names_in heard) → GivesTo c s tapes front (bytes_in heard) → GivesTo c s tapes history (bytes_in heard)
on_behind c samples callers s tapes lines front history heard all begins named given =
    let more : List Entry = begins.0 in
    let files : EachOf (λ (line : Line). HasFile line.verb line.file) (lines_of_caller c lines) = every_named c lines (files_named samples callers lines all) in
    let whole : count_by (gives_to c) history ≡ length (names_in heard) = count_of_caller c history ∙ names_count tapes [] (lines_of_caller c lines) (entries_of_caller c history) (names_in heard) named files in
    let here : count_by (gives_to c) front ≡ length (bytes_in heard) = gives_count c s tapes front (bytes_in heard) given in
    let split : count_by (gives_to c) history ≡ count_by (gives_to c) front + count_by (gives_to c) more = ap (count_by (gives_to c)) begins.1 ∙ sum_by-append (λ x. cond (gives_to c x) 1 0) front more in
    let long_names : length (names_in heard) ≡ length heard = length-map heard (λ h. h.file) in
    let long_bytes : length (bytes_in heard) ≡ length heard = length-map heard (λ h. h.bytes.items) in
    let none : count_by (gives_to c) more ≡ 0 = omega (arith, whole, here, split, long_names, long_bytes) in
    subst (λ l. GivesTo c s tapes l (bytes_in heard)) (sym begins.1)
    (subst (GivesTo c s tapes (front ++ more)) (append-nil (bytes_in heard)) (gives_append c s tapes front more (bytes_in heard) [] given (gives_none c (after s tapes front) tapes more (none_counted (gives_to c) more none))))
  where
    named_if : (b : Bool) (line : Line) (own : List Line) → HasFile line.verb line.file → EachOf (λ (l : Line). HasFile l.verb l.file) own → EachOf (λ (l : Line). HasFile l.verb l.file) (cond b (line ∷ own) own)
    named_if true line own h k = (h, k)
    named_if false line own h k = k

    every_named : (c : ℕ) (lines : List Line) → All (λ (l : Line). HasFile l.verb l.file) lines → EachOf (λ (l : Line). HasFile l.verb l.file) (lines_of_caller c lines)
    every_named c [] h = tt
    every_named c (l ∷ ls) h = named_if (l.caller == c) l (lines_of_caller c ls) (h 0 l (omega arith)) (every_named c ls (λ k d within. h (suc k) d (omega (arith, within))))

-- each entry is of a caller, or a landing
of_callers : (callers : ℕ) (es : List Entry) → Every (IsOfPasses callers) es → EachOf (λ e. ((1 ≤ e.caller) × (e.caller ≤ callers)) ⊎ (e.call ≡ calls.Landed)) es
of_callers callers [] h = tt
of_callers callers (e ∷ es) h = (one h.0, of_callers callers es h.1)
  where
    one : IsOfPasses callers e → ((1 ≤ e.caller) × (e.caller ≤ callers)) ⊎ (e.call ≡ calls.Landed)
    one (inl lands) = inr lands.1
    one (inr k) = inl (omega (arith, k.0), k.1)

own_follows : (tapes : List (List ℕ)) (lines : List Line) (memory : Bool) (history : List Entry) (lists : List (Vec Heard Global)) → ((c : ℕ) → 1 ≤ c → Own tapes lines memory c (entries_of_caller c history) (names_in (heard_of lists c))) → memory ≡ true → EachFollows tapes lines history
own_follows tapes lines memory history lists own done c some = follows_of tapes [] (lines_of_caller c lines) (entries_of_caller c history) (names_in (heard_of lists c)) ((own c some).gave done)

-- each lane that a caller's lines serve is fed by it alone
own_alone : (tapes : List (List ℕ)) (script : Reading) (memory : Bool) (history : List Entry) (lists : List (Vec Heard Global)) → IsWhole is_built_verb script → Every (IsOfPasses script.callers) history
    → ((c : ℕ) → 1 ≤ c → Own tapes script.lines memory c (entries_of_caller c history) (names_in (heard_of lists c))) → memory ≡ true → (c : ℕ) → FeedsAlone script.lines c history
own_alone tapes script memory history lists whole of own done =
    feeds_alone tapes script.lines history whole.owners (own_follows tapes script.lines memory history lists own done) (some_caller script.callers history (of_callers script.callers history of))

module _ {D : Type 0} where
  -- what a caller with a pass heard
  bytes_at :
      (told : D → Told) (tapes : List (List ℕ)) (script : Reading) (s : Hall (Standing D) (Born D)) (memory : Bool) (starts : Standing D → List Entry) (c : ℕ) (start history : List Entry) (old new : List (Pass (Standing D) (Born D))) (lists : List (Vec Heard Global)) (v : Vec Heard Global) (first : State)
      → IsWhole is_built_verb script → EachRan told tapes script.lines s memory old new lists → AreNewFrom starts s.turnstile 1 old → starts (made_with s.turnstile) ≡ [] → Every (λ p. StandsIn start history p.caller (seen p) (mine p)) new
      → GivesFiles tapes [] (lines_of_caller c script.lines) (entries_of_caller c history) (names_in (heard_of lists c)) → FeedsAlone script.lines c history → memory ≡ true → IsTrue (told (store_of s).origin).honest → opened_from (told (store_of s).origin).bytes ≡ Some first → 1 ≤ c → c ≤ length old
      → GivesTo c first tapes history (bytes_in (heard_of lists c))
  bytes_at told tapes script s memory starts c start history [] new lists v first whole ran fresh none stand named alone done honest opened least most = absurd (omega arith)
  bytes_at told tapes script s memory starts c start history (d ∷ old) new lists v first whole ran fresh none stand named alone done honest opened least most =
      let all = d ∷ old in
      let i = c - 1 in
      let within : i < length all = omega arith in
      let there : i < length new = (let n = ran.count in omega arith) in
      let at = new_at starts s.turnstile 1 all i d fresh within in
      let caller : (get_or all i d).caller ≡ c = (let e = at.0 in omega arith) in
      let q = get_or new i d in
      let begins : Begins (seen q) history = (every_at (λ p. StandsIn start history p.caller (seen p) (mine p)) new i d stand there).0 in
      let fed : FeedsAlone script.lines c (seen q) = alone_front script.lines c (seen q) begins.0 (subst (FeedsAlone script.lines c) begins.1 alone) in
      let place : suc i ≡ c = omega arith in
      let heard : (get_or lists i v).items ≡ heard_of lists c = sym (heard_or lists i v (let n = ran.lists done in omega arith)) ∙ ap (heard_of lists) place in
      let given = ran.bytes done i d v within honest first opened (at.2 ∙ none) (opened_rests (told (store_of s).origin).bytes first opened) (subst (λ n. FeedsAlone script.lines n (seen q)) (sym caller) fed) in
      let its : GivesTo c first tapes (seen q) (bytes_in (heard_of lists c)) = subst (λ h. GivesTo c first tapes (seen q) (bytes_in h)) heard (subst (λ n. GivesTo n first tapes (seen q) (bytes_in (get_or lists i v).items)) caller given) in
      on_behind c (length script.samples) script.callers first tapes script.lines (seen q) history (heard_of lists c) whole.lines begins named its

  -- what every caller heard
  pub each_bytes :
      (told : D → Told) (tapes : List (List ℕ)) (script : Reading) (s : Hall (Standing D) (Born D)) (memory : Bool) (starts : Standing D → List Entry) (start history : List Entry) (old new : List (Pass (Standing D) (Born D))) (lists : List (Vec Heard Global)) (v : Vec Heard Global) (first : State)
      → IsWhole is_built_verb script → EachRan told tapes script.lines s memory old new lists → AreNewFrom starts s.turnstile 1 old → length old ≡ script.callers → starts (made_with s.turnstile) ≡ [] → Every (λ p. StandsIn start history p.caller (seen p) (mine p)) new → Every (IsOfPasses script.callers) history
      → ((c : ℕ) → 1 ≤ c → Own tapes script.lines memory c (entries_of_caller c history) (names_in (heard_of lists c))) → memory ≡ true → IsTrue (told (store_of s).origin).honest → opened_from (told (store_of s).origin).bytes ≡ Some first → (c : ℕ) → 1 ≤ c → GivesTo c first tapes history (bytes_in (heard_of lists c))
  each_bytes told tapes script s memory starts start history old new lists v first whole ran fresh count none stand of own done honest opened c least = by (either c script.callers)
    where
      named : GivesFiles tapes [] (lines_of_caller c script.lines) (entries_of_caller c history) (names_in (heard_of lists c))
      named = (own c least).gave done

      by : (c ≤ script.callers) ⊎ (script.callers < c) → GivesTo c first tapes history (bytes_in (heard_of lists c))
      by (inl h) = bytes_at told tapes script s memory starts c start history old new lists v first whole ran fresh none stand named (own_alone tapes script memory history lists whole of own done c) done honest opened least (omega (arith, h, count))
      by (inr h) = on_behind c (length script.samples) script.callers first tapes script.lines [] history (heard_of lists c) whole.lines (history, refl) named (ap bytes_in (none_past lists c (let n = ran.lists done in omega (arith, h, n, count))))

-- ---- the whole

pub begun_shared : {D : Type 0} (told : D → Told) (s : Shown D) (entry out : D) (tapes : List (List ℕ)) (script : Reading) (memory : Bool) (lists : List (Vec Heard Global)) (history : List Entry) → (k : IsKept told s) → s.origin ≡ entry → (tapes_in s) ≡ tapes → out ≡ s.disk → history ≡ (history_of s) → Every (IsOfPasses script.callers) (history_of s)
    → ((c : ℕ) → 1 ≤ c → Own tapes script.lines memory c (entries_of_caller c (history_of s)) (names_in (heard_of lists c))) → Performed tapes (Begun true tapes script 0 history) (told entry) (told out) history
begun_shared told s entry out tapes script memory lists history k origin same_tapes same_disk same_history of own =
    let legal = legal_of k.first (told s.origin) (told s.disk) s.inside tapes (history_of s) k.keeps refl same_tapes in
    let made : Shared (told s.origin).honest k.first tapes script (history_of s) = record { legal = legal; of = of; each = λ c least. (own c least).so_far } in
    let there : Performed tapes (Begun true tapes script 0 (history_of s)) (told s.origin) (told s.disk) (history_of s) = performed_by k.first (told s.origin) (told s.disk) s.inside tapes (history_of s) (Begun true tapes script 0 (history_of s)) k.keeps k.opened refl same_tapes made in
    subst (λ h. Performed tapes (Begun true tapes script 0 h) (told entry) (told out) h) (sym same_history)
    (subst (λ d. Performed tapes (Begun true tapes script 0 (history_of s)) (told entry) (told d) (history_of s)) (sym same_disk) (subst (λ d. Performed tapes (Begun true tapes script 0 (history_of s)) (told d) (told s.disk) (history_of s)) origin there))

-- all lines, and what their callers heard
pub made_shared : {D : Type 0} (told : D → Told) (s : Shown D) (entry out : D) (tapes : List (List ℕ)) (script : Reading) (memory : Bool) (lists : List (Vec Heard Global)) (history : List Entry) → (k : IsKept told s) → s.origin ≡ entry → (tapes_in s) ≡ tapes → out ≡ s.disk → history ≡ (history_of s)
    → Every (IsOfPasses script.callers) (history_of s) → ((c : ℕ) → 1 ≤ c → Own tapes script.lines memory c (entries_of_caller c (history_of s)) (names_in (heard_of lists c)))
    → ((first : State) → IsTrue (told s.origin).honest → opened_from (told s.origin).bytes ≡ Some first → (c : ℕ) → 1 ≤ c → GivesTo c first tapes (history_of s) (bytes_in (heard_of lists c))) → memory ≡ true → s.wanted ≡ false
    → Performed tapes (MadeGiving true tapes script (told entry) (told out) history (queues_of lists)) (told entry) (told out) history
made_shared told s entry out tapes script memory lists history k origin same_tapes same_disk same_history of own bytes done unwanted =
    let legal = legal_of k.first (told s.origin) (told s.disk) s.inside tapes (history_of s) k.keeps refl same_tapes in
    let queues = queues_of lists in
    let shared : SharedWhole (told s.origin).honest k.first tapes script (history_of s) = record { legal = legal; of = of; each = own_follows tapes script.lines memory (history_of s) lists own done } in
    let made : MadeGiving true tapes script (told s.origin) (told s.disk) (history_of s) queues (told s.origin).honest k.first = (
      shared,
      heard_so (told s.origin).honest k.first tapes script.lines (history_of s) lists (λ c some. (own c some).gave done) (λ honest. bytes k.first honest (k.opened honest)),
      in_short_turns told k.first s.origin s.origin s.disk s.disk s.inside tapes (history_of s) s.wanted refl refl k.keeps unwanted refl same_tapes,
    ) in
    let there : Performed tapes (MadeGiving true tapes script (told s.origin) (told s.disk) (history_of s) queues) (told s.origin) (told s.disk) (history_of s) = performed_by k.first (told s.origin) (told s.disk) s.inside tapes (history_of s) (MadeGiving true tapes script (told s.origin) (told s.disk) (history_of s) queues) k.keeps k.opened refl same_tapes made in
    subst (λ h. Performed tapes (MadeGiving true tapes script (told entry) (told out) h queues) (told entry) (told out) h) (sym same_history)
    (subst (λ d. Performed tapes (MadeGiving true tapes script (told entry) (told d) (history_of s) queues) (told entry) (told d) (history_of s)) (sym same_disk) (subst (λ d. Performed tapes (MadeGiving true tapes script (told d) (told s.disk) (history_of s) queues) (told d) (told s.disk) (history_of s)) origin there))

-- there is a file for each entry that ends a serving
pub shared_enough : (tapes : List (List ℕ)) (script : Reading) (memory : Bool) (lists : List (Vec Heard Global)) (shown history : List Entry) → IsWhole is_built_verb script → history ≡ shown → Every (IsOfPasses script.callers) shown → length lists ≡ script.callers
    → ((c : ℕ) → 1 ≤ c → Own tapes script.lines memory c (entries_of_caller c shown) (names_in (heard_of lists c))) → memory ≡ true → AreEnough history lists × (length lists ≤ 16)
shared_enough tapes script memory lists shown history whole same of count own done = (
  subst (λ h. AreEnough h lists) (sym same)
      (enough tapes script.lines shown lists (λ c some. (own c some).gave done) (files_named (length script.samples) script.callers script.lines whole.lines) (as_many script.callers (length lists) shown (sym count) (of_callers script.callers shown of))),
  (let few = whole.most in omega (arith, count, few)),
)

no_true : false ≡ true → ⊥
no_true e = cc

-- no caller wanted memory, and the store didn't
pub both_fine : (memory wanted : Bool) → (memory && not wanted) ≡ true → (memory ≡ true) × (wanted ≡ false)
both_fine true false e = (refl, refl)
both_fine true true e = absurd (no_true e)
both_fine false wanted e = absurd (no_true e)

-- where none began
pub begun_fresh : {D : Type 0} (told : D → Told) (s : Shown D) (entry out : D) (tapes : List (List ℕ)) (script : Reading) (history : List Entry) → IsKept told s → s.origin ≡ entry → (tapes_in s) ≡ tapes → out ≡ s.disk → history ≡ (history_of s) → (history_of s) ≡ []
    → Performed tapes (Begun true tapes script 0 history) (told entry) (told out) history
begun_fresh told s entry out tapes script history kept origin same_tapes same_disk same_history fresh =
    begun_shared told s entry out tapes script false [] history kept origin same_tapes same_disk same_history (subst (Every (IsOfPasses script.callers)) (sym fresh) tt)
    (λ c least. record { gave = λ e. absurd (no_true e); so_far = (0, record { front = []; part = []; more = []; split = ap (entries_of_caller c) fresh; follows = refl; into = inl refl }) })

pub all_of : (callers made : ℕ) (start history : List Entry) → callers ≡ made → start ≡ [] → Every (IsOfPasses callers) (drop (length start) history) → Every (IsOfPasses made) history
all_of callers made start history same fresh h = subst (λ n. Every (IsOfPasses n) history) same (subst (λ l. Every (IsOfPasses callers) (drop (length l) history)) fresh h)

pub goes_between : {D : Type 0} (told : D → Told) (a b c d : D) → a ≡ b → c ≡ d → GoesOn (told b) (told d) → GoesOn (told a) (told c)
goes_between told a b c d p q h = subst (λ x. GoesOn (told x) (told c)) (sym p) (subst (λ x. GoesOn (told b) (told x)) (sym q) h)

-- the same of a disk that was handed in
pub begun_from : {D : Type 0} (told : D → Told) (threads t : Bool) (origin entry out : D) (lent tapes : List (List ℕ)) (script : Reading) (k : ℕ) (history : List Entry) → threads ≡ t → origin ≡ entry → lent ≡ tapes → Performed lent (Begun t lent script k history) (told origin) (told out) history
    → Performed tapes (Begun threads tapes script k history) (told entry) (told out) history
begun_from told threads t origin entry out lent tapes script k history same there is h =
    subst (λ d. Performed tapes (Begun threads tapes script k history) (told d) (told out) history) there
    (subst (λ ts. Performed ts (Begun threads ts script k history) (told origin) (told out) history) is (subst (λ (b : Bool). Performed lent (Begun b lent script k history) (told origin) (told out) history) (sym same) h))

pub made_from : {D : Type 0} (told : D → Told) (threads t : Bool) (origin entry out : D) (lent tapes : List (List ℕ)) (script : Reading) (lists : List (Vec Heard Global)) (history : List Entry) → threads ≡ t → origin ≡ entry → lent ≡ tapes
    → Performed lent (MadeGiving t lent script (told origin) (told out) history (queues_of lists)) (told origin) (told out) history → Performed tapes (MadeGiving threads tapes script (told entry) (told out) history (queues_of lists)) (told entry) (told out) history
made_from told threads t origin entry out lent tapes script lists history same there is h =
    subst (λ d. Performed tapes (MadeGiving threads tapes script (told d) (told out) history (queues_of lists)) (told d) (told out) history) there
    (subst (λ ts. Performed ts (MadeGiving threads ts script (told origin) (told out) history (queues_of lists)) (told origin) (told out) history) is
    (subst (λ (b : Bool). Performed lent (MadeGiving b lent script (told origin) (told out) history (queues_of lists)) (told origin) (told out) history) (sym same) h))
