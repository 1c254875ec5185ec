-- Passes lined up, and handed back.
use Rattle.std.proofs.Common.{◌≡◌, ◌<◌, ◌≤◌, ◌+◌, inl, ℕ, zero, suc, List, [], ◌∷◌, ◌++◌, length, get_or, take, drop, map, Bool, true, false, true≢false, refl, sym, ap, subst, ◌∙◌, arith, length-append, append_assoc, append-nil}
use Rattle.std.specs.Prelude.{◌&&◌, All, Some, slice_get, slice_index_or}
use Rattle.std.proofs.lemmas.Option.{slice_get-get_or}
use Rattle.std.proofs.lemmas.List.{take_all, drop_all, length-map, map_push, get_or-map}
use Rattle.std.proofs.lemmas.List.Elements.{All-cons}
use Rattle.std.proofs.lemmas.Bool.{false≢true, and_parts}
use Rattle.std.specs.Prelude.{Vec}
use Rattle.std.specs.declared.alloc.Global.{Global}
use Rattle.voice_outside.specs.Disk.{Told}
use Rattle.script_lang.specs.declared.scripts.Line.{Line}
use Rattle.turnstile.specs.declared.parts.Pass.{Pass}
use Rattle.turnstile.specs.Passes.{IsOf, IsOutside, AreOf, mine}
use Rattle.voice_server.specs.declared.born.Born.{Born}
use Rattle.voice_server.specs.declared.hall.Hall.{Hall}
use Rattle.voice_server.specs.declared.standing.Standing.{Standing}
use Rattle.served_files.specs.declared.heard.Heard.{Heard}
use Rattle.callers.specs.declared.seats.Runner.{Runner}
use Rattle.callers.specs.Lines.{FollowedInto}
use Rattle.callers.specs.Seats.{pass_of, heard_of, all_done, IsReadyPass, IsReady, HasRun, PassRan, IsHeardBy, EachRan, SomeStopped}

and_assoc : (a b c : Bool) → ((a && b) && c) ≡ (a && (b && c))
and_assoc true b c = refl
and_assoc false b c = refl

and_true : (a : Bool) → (a && true) ≡ a
and_true true = refl
and_true false = refl

and_flip : (a b c : Bool) → (a && (b && c)) ≡ (a && (c && b))
and_flip true true true = refl
and_flip true true false = refl
and_flip true false true = refl
and_flip true false false = refl
and_flip false b c = refl

module _ {P : Type 0} where
  all_done_snoc : (rs : List (Runner P)) (r : Runner P) → all_done (rs ++ r ∷ []) ≡ (all_done rs && r.done)
  all_done_snoc [] r = and_true r.done
  all_done_snoc (x ∷ xs) r = ap (λ b. x.done && b) (all_done_snoc xs r) ∙ sym (and_assoc x.done (all_done xs) r.done)

  -- one more runner was handed back
  pub back : {X : Type 0} (f : Runner P → X) (runners rest : List (Runner P)) (r : Runner P) (items whole : List X) → runners ≡ rest ++ r ∷ [] → map f runners ++ items ≡ whole → map f rest ++ (f r ∷ items) ≡ whole
  back f runners rest r items whole split h = sym (append_assoc (map f rest) (f r ∷ []) items) ∙ ap (λ l. l ++ items) (sym (map_push f rest r)) ∙ ap (λ l. map f l ++ items) (sym split) ∙ h

  pub done_back : (runners rest : List (Runner P)) (r : Runner P) (all whole : Bool) → runners ≡ rest ++ r ∷ [] → (all_done runners && all) ≡ whole → (all_done rest && (all && r.done)) ≡ whole
  done_back runners rest r all whole split h =
      and_flip (all_done rest) all r.done ∙ sym (and_assoc (all_done rest) r.done all) ∙ ap (λ b. b && all) (sym (all_done_snoc rest r)) ∙ ap (λ l. all_done l && all) (sym split) ∙ h

  pub room_back : {X : Type 0} (f : Runner P → X) (runners rest : List (Runner P)) (r : Runner P) (items after : List X) (room more : ℕ) → runners ≡ rest ++ r ∷ [] → after ≡ f r ∷ items → room ≤ more → length items + length runners ≤ room → length after + length rest ≤ more
  room_back f runners rest r items after room more split put grows h = let a = ap length split ∙ length-append rest (r ∷ []) in let b : length after ≡ suc (length items) = ap length put in omega arith

  -- a runner that has not begun
  abbrev pub a_runner : P → Vec Heard Global → Runner P
  a_runner p v = record { pass = p; heard = v; done = false }

  -- one more was lined up
  pub up : {X : Type 0} (f : Runner P → X) (items rest : List X) (r : Runner P) (rs rs_new : List (Runner P)) (whole : List X) → items ≡ rest ++ f r ∷ [] → rs_new ≡ r ∷ rs → items ++ map f rs ≡ whole → rest ++ map f rs_new ≡ whole
  up f items rest r rs rs_new whole split put h = ap (λ l. rest ++ map f l) put ∙ sym (append_assoc rest (f r ∷ []) (map f rs)) ∙ ap (λ l. l ++ map f rs) (sym split) ∙ h

  pub room_up : {X : Type 0} (items rest : List X) (x : X) (r : Runner P) (rs rs_new : List (Runner P)) (room more : ℕ) → items ≡ rest ++ x ∷ [] → rs_new ≡ r ∷ rs → room ≤ more → length items + length rs ≤ room → length rest + length rs_new ≤ more
  room_up items rest x r rs rs_new room more split put grows h = let a = ap length split ∙ length-append rest (x ∷ []) in let b : length rs_new ≡ suc (length rs) = ap length put in omega arith

  pub none_heard_up : (r : Runner P) (rs rs_new : List (Runner P)) → rs_new ≡ r ∷ rs → r.heard.items ≡ [] → All (λ r. r.heard.items ≡ []) rs → All (λ r. r.heard.items ≡ []) rs_new
  none_heard_up r rs rs_new put none h = subst (All (λ r. r.heard.items ≡ [])) (sym put) (All-cons (λ r. r.heard.items ≡ []) r rs none h)

  done_at : (rs : List (Runner P)) (i : ℕ) (r : Runner P) → i < length rs → all_done rs ≡ true → (get_or rs i r).done ≡ true
  done_at [] i r within h = absurd (omega arith)
  done_at (x ∷ xs) zero r within h = (and_parts x.done (all_done xs) h).0
  done_at (x ∷ xs) (suc i) r within h = done_at xs i r (omega arith) (and_parts x.done (all_done xs) h).1

  -- one that was not done
  pub not_done : (rs : List (Runner P)) → all_done rs ≡ false → (i : ℕ) × (i < length rs) × ((r : Runner P) → (get_or rs i r).done ≡ false)
  not_done [] h = absurd (true≢false h)
  not_done (x ∷ xs) h = by x.done refl (not_done xs)
    where
      by : (b : Bool) → x.done ≡ b → (all_done xs ≡ false → (i : ℕ) × (i < length xs) × ((r : Runner P) → (get_or xs i r).done ≡ false)) → (i : ℕ) × (i < length (x ∷ xs)) × ((r : Runner P) → (get_or (x ∷ xs) i r).done ≡ false)
      by false is rest = (0, omega arith, λ r. is)
      by true is rest =
          let found = rest (ap (λ b. b && all_done xs) (sym is) ∙ h) in
          let low = found.1 in
          (suc found.0, omega arith, found.2)

  -- what one of them heard
  some_heard : (rs : List (Runner P)) (i : ℕ) → i < length rs → Vec Heard Global
  some_heard [] i within = absurd (omega arith)
  some_heard (r ∷ rs) i within = r.heard

module _ {D : Type 0} where
  abbrev runner_of : Pass (Standing D) (Born D) → Vec Heard Global → Runner (Pass (Standing D) (Born D))
  runner_of p v = record { pass = p; heard = v; done = true }

  same_at : (rs : List (Runner (Pass (Standing D) (Born D)))) (passes : List (Pass (Standing D) (Born D))) (i : ℕ) (r : Runner (Pass (Standing D) (Born D))) → map pass_of rs ≡ passes → i < length rs → (get_or rs i r).pass ≡ get_or passes i r.pass
  same_at rs passes i r is within = sym (get_or-map pass_of rs i r r.pass within) ∙ ap (λ l. get_or l i r.pass) is

  same_heard : (rs : List (Runner (Pass (Standing D) (Born D)))) (lists : List (Vec Heard Global)) (i : ℕ) (r : Runner (Pass (Standing D) (Born D))) → map heard_of rs ≡ lists → i < length rs → (get_or rs i r).heard ≡ get_or lists i r.heard
  same_heard rs lists i r is within = sym (get_or-map heard_of rs i r r.heard within) ∙ ap (λ l. get_or l i r.heard) is

  pass_at : (rs : List (Runner (Pass (Standing D) (Born D)))) (passes : List (Pass (Standing D) (Born D))) (i : ℕ) (r : Runner (Pass (Standing D) (Born D))) → map pass_of rs ≡ passes → i < length rs → slice_get passes i ≡ Some (get_or rs i r).pass
  pass_at rs passes i r is within =
      let there : i < length passes = omega (arith, length-map rs pass_of, ap length is, within) in
      slice_get-get_or passes i r.pass there ∙ ap Some (sym (same_at rs passes i r is within))

  pub ready_from : (s : Hall (Standing D) (Born D)) (shown rs : List (Runner (Pass (Standing D) (Born D)))) (passes : List (Pass (Standing D) (Born D))) → shown ≡ rs → map pass_of rs ≡ passes → All (λ r. r.heard.items ≡ []) rs → All (IsReadyPass s) passes → All (IsReady s) shown
  ready_from s shown rs passes same is none ready = subst (All (IsReady s)) (sym same) (λ k r within.
      let there : k < length passes = omega (arith, length-map rs pass_of, ap length is, within) in
      (subst (IsReadyPass s) (sym (same_at rs passes k r is within)) (ready k r.pass there), none k r within))

  -- ready passes are of the server
  pub ready_of : (s : Hall (Standing D) (Born D)) (passes after : List (Pass (Standing D) (Born D))) → after ≡ passes → All (IsReadyPass s) passes → AreOf s.turnstile after
  ready_of s passes after same h = subst (AreOf s.turnstile) (sym same) (λ k p within. (h k p within).0)

  -- what each runner of the slice did
  abbrev pub Ran : (D → Told) → List (List ℕ) → List Line → Hall (Standing D) (Born D) → List (Runner (Pass (Standing D) (Born D))) → List (Runner (Pass (Standing D) (Born D))) → Type 0
  Ran told tapes lines s rs ts = (i : ℕ) (r : Runner (Pass (Standing D) (Born D))) → i < length rs → HasRun told tapes lines s (slice_index_or rs i r) (slice_index_or ts i r)

  pub of_after :
      (told : D → Told) (tapes : List (List ℕ)) (lines : List Line) (s : Hall (Standing D) (Born D)) (rs ts : List (Runner (Pass (Standing D) (Born D)))) (after : List (Pass (Standing D) (Born D))) → after ≡ map pass_of ts → length ts ≡ length rs → Ran told tapes lines s rs ts
      → AreOf s.turnstile after
  of_after told tapes lines s rs ts after is long h = λ k p within.
      let here : k < length ts = omega (arith, length-map ts pass_of, ap length is, within) in
      let r = runner_of p (some_heard ts k here) in
      subst (λ q. IsOf s.turnstile q × IsOutside q) (same_at ts after k r (sym is) here) (h k r (omega (arith, long, here))).of

  pub each_after :
      (told : D → Told) (tapes : List (List ℕ)) (lines : List Line) (memory : Bool) (s : Hall (Standing D) (Born D)) (rs ts : List (Runner (Pass (Standing D) (Born D)))) (passes after : List (Pass (Standing D) (Born D))) (lists : List (Vec Heard Global)) → map pass_of rs ≡ passes
      → after ≡ map pass_of ts → lists ≡ map heard_of ts → memory ≡ all_done ts → length ts ≡ length rs → Ran told tapes lines s rs ts → EachRan told tapes lines s memory passes after lists
  each_after told tapes lines memory s rs ts passes after lists was is heard all long h = record {
    count = ap length is ∙ length-map ts pass_of ∙ long ∙ sym (length-map rs pass_of) ∙ ap length was;
    lists = λ done. ap length heard ∙ length-map ts heard_of ∙ long ∙ sym (length-map rs pass_of) ∙ ap length was;
    each = λ i p v within.
        let r = runner_of p v in
        let here : i < length rs = omega (arith, length-map rs pass_of, ap length was, within) in
        let there : i < length ts = omega (arith, long, here) in
        let ran = (h i r here).ran in
        let its = (get_or ts i r).heard.items in
        let all_ran : PassRan tapes lines memory (get_or rs i r).pass (get_or ts i r).pass its = record {
          caller = ran.caller;
          whole = λ done. ran.whole (done_at ts i r there (sym all ∙ done));
          gave = λ done. ran.gave (done_at ts i r there (sym all ∙ done));
          so_far = ran.so_far;
        } in
        subst (λ (l : Vec Heard Global). PassRan tapes lines memory (get_or passes i p) (get_or after i p) l.items) (same_heard ts lists i r (sym heard) there)
        (subst (λ q. PassRan tapes lines memory (get_or passes i p) q its) (same_at ts after i r (sym is) there) (subst (λ q. PassRan tapes lines memory q (get_or ts i r).pass its) (same_at rs passes i r was here) all_ran));
    bytes = λ done i p v within.
        let r = runner_of p v in
        let here : i < length rs = omega (arith, length-map rs pass_of, ap length was, within) in
        let there : i < length ts = omega (arith, long, here) in
        let its = (get_or ts i r).heard.items in
        let told_all = (h i r here).heard (done_at ts i r there (sym all ∙ done)) in
        subst (λ (l : Vec Heard Global). IsHeardBy told tapes s lines (get_or passes i p) (get_or after i p) l.items) (same_heard ts lists i r (sym heard) there)
        (subst (λ q. IsHeardBy told tapes s lines (get_or passes i p) q its) (same_at ts after i r (sym is) there) (subst (λ q. IsHeardBy told tapes s lines q (get_or ts i r).pass its) (same_at rs passes i r was here) told_all));
  }

  -- without memory one stopped
  pub stopped_after :
      (told : D → Told) (tapes : List (List ℕ)) (lines : List Line) (memory : Bool) (s : Hall (Standing D) (Born D)) (rs ts : List (Runner (Pass (Standing D) (Born D)))) (passes after : List (Pass (Standing D) (Born D))) → map pass_of rs ≡ passes → after ≡ map pass_of ts → memory ≡ all_done ts
      → length ts ≡ length rs → Ran told tapes lines s rs ts → memory ≡ false → SomeStopped tapes lines passes after
  stopped_after told tapes lines memory s rs ts passes after was is all long h none = at rs refl
    where
      at : (some : List (Runner (Pass (Standing D) (Born D)))) → some ≡ rs → SomeStopped tapes lines passes after
      at [] same = let found = not_done ts (sym all ∙ none) in let low = found.1 in let short = ap length same in absurd (omega (arith, long))
      at (r ∷ some) same =
          let found = not_done ts (sym all ∙ none) in
          let i = found.0 in
          let within : i < length ts = found.1 in
          let here : i < length rs = omega (arith, long, within) in
          record {
            place = i;
            before = (get_or rs i r).pass;
            after = (get_or ts i r).pass;
            there = (pass_at rs passes i r was here, pass_at ts after i r (sym is) within);
            stopped = (h i r here).stopped (found.2 r);
          }

  no_entries : (tapes : List (List ℕ)) (lines : List Line) (p : Pass (Standing D) (Born D)) → FollowedInto tapes lines 0 p.caller (mine p) (mine p)
  no_entries tapes lines p = record { own = []; gained = sym (append-nil (mine p)); begins = record { front = []; part = []; more = []; split = refl; follows = refl; into = inl refl } }

  -- where none began
  pub none_ran : (told : D → Told) (tapes : List (List ℕ)) (lines : List Line) (s : Hall (Standing D) (Born D)) (memory : Bool) (passes after : List (Pass (Standing D) (Born D))) (lists : List (Vec Heard Global)) → memory ≡ false → after ≡ passes → EachRan told tapes lines s memory passes after lists
  none_ran told tapes lines s memory passes after lists none same =
      let never : memory ≡ true → ⊥ = λ e. false≢true (sym none ∙ e) in
      record {
        count = ap length same;
        lists = λ e. absurd (never e);
        each = λ i p v within.
            subst (λ l. PassRan tapes lines memory (get_or passes i p) (get_or l i p) (get_or lists i v).items) (sym same)
            (record { caller = refl; whole = λ e. absurd (never e); gave = λ e. absurd (never e); so_far = (0, no_entries tapes lines (get_or passes i p)) });
        bytes = λ e. absurd (never e);
      }

-- a slice that was written in full
pub slice_back : {X : Type 0} (n : ℕ) (xs ys : List X) → length xs ≡ length ys → n ≡ length ys → take n (xs ++ drop (length xs) ys) ≡ xs
slice_back n xs ys long is = ap (λ l. take n (xs ++ l)) (drop_all (length xs) ys (omega arith)) ∙ ap (take n) (append-nil xs) ∙ take_all n xs (omega arith)
