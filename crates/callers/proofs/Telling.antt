-- What a caller hears, as its pass knows it.
use Rattle.std.proofs.Common.{◌≡◌, ℕ, List, [], ◌∷◌, ◌++◌, Some, sym, ap, ◌∙◌, subst}
use Rattle.std.specs.Prelude.{IsTrue, slice_get}
use Rattle.voice_outside.specs.Disk.{Told}
use Rattle.voice_model.specs.State.{State}
use Rattle.voice_model.specs.Step.{after, is_asked_of}
use Rattle.voice_model.specs.Image.{opened_from}
use Rattle.voice_model.specs.declared.calls.Call.{Call}
use Rattle.voice_model.specs.declared.calls.Reply.{Reply}
use Rattle.turnstile.specs.declared.parts.Pass.{Pass}
use Rattle.turnstile.specs.Turns.{Begins}
use Rattle.turnstile.specs.Passes.{mine, seen, IsAllOf}
use Rattle.voice_store.specs.Shown.{history_of}
use Rattle.voice_server.specs.declared.born.Born.{Born}
use Rattle.voice_server.specs.declared.hall.Hall.{Hall}
use Rattle.voice_server.specs.declared.standing.Standing.{Standing}
use Rattle.voice_server.specs.Served.{store_of, tapes_of, AddsEntry}
use Rattle.serving_laws.specs.Lanes.{FedBy, IsAtRest}
use Rattle.servings.specs.Servings.{HasServed, HasHeard}
use Rattle.script_lang.specs.declared.scripts.Line.{Line}
use Rattle.script_lang.specs.declared.scripts.Verb.{Verb}
use Rattle.script_lang.specs.Parts.{served}
use Rattle.served_files.specs.declared.heard.Heard.{Heard}
use Rattle.served_files.specs.Given.{is_over, FeedsAlone, given_bytes, bytes_in}
use Rattle.served_files.proofs.Servings.{asked_not_feed, asked_feeds_not, asked_ends_not}
use Rattle.served_files.proofs.Alone.{alone_front}
use Rattle.callers.specs.Seats.{IsHeardBy}
use Rattle.callers.specs.Passed.{HearsMore, AreServable, LaneIsHeard, IsMoreHeard, IsHeardIfOwn}
use Rattle.callers.proofs.Hearing.{nothing_heard, call_hears, serving_hears}
use Rattle.callers.proofs.SoFar.{GivesSoFar, starts, goes_on, servable, then_heard}

module _ {D : Type 0} where
  -- a serving gives what was heard
  pub lane_heard :
      (told : D → Told) (s : Hall (Standing D) (Born D)) (at lane : ℕ) (reply : Reply) (p q : Pass (Standing D) (Born D)) (bytes : List ℕ) (was now : List (List ℕ)) → at ≡ lane → q.caller ≡ p.caller
      → IsAllOf (history_of (store_of s)) (seen p) p.caller (mine p) → IsAllOf (history_of (store_of s)) (seen q) q.caller (mine q) → Begins (seen p) (seen q) → HasServed at reply p q
      → (IsTrue (told (store_of s).origin).honest → (first : State) → opened_from (told (store_of s).origin).bytes ≡ Some first → FedBy p.caller at (seen q) → IsAtRest (after first (tapes_of s) (seen p)) at → HasHeard first (tapes_of s) (seen q) at reply bytes)
      → now ≡ was ++ given_bytes (is_over reply) bytes → LaneIsHeard told s lane p q was now
  lane_heard told s at lane reply p q bytes was now is same all_p all_q begins served heard grown = λ honest first opened able.
      let fed = subst (λ n. FedBy p.caller n (seen q)) (sym is) able.0 in
      let rest = subst (λ n. IsAtRest (after first (tapes_of s) (seen p)) n) (sym is) able.1 in
      serving_hears first (tapes_of s) (history_of (store_of s)) p.caller at reply p q bytes was now all_p (subst (λ c. IsAllOf (history_of (store_of s)) (seen q) c (mine q)) same all_q) begins served (heard honest first opened fed rest) grown

  -- a call gives nothing
  call_heard :
      (first : State) (tapes : List (List ℕ)) (s : Hall (Standing D) (Born D)) (call : Call) (reply : Reply) (p q : Pass (Standing D) (Born D)) (was : List (List ℕ)) → q.caller ≡ p.caller
      → IsAllOf (history_of (store_of s)) (seen p) p.caller (mine p) → IsAllOf (history_of (store_of s)) (seen q) q.caller (mine q) → IsTrue (is_asked_of call) → AddsEntry call reply p q
      → HearsMore first tapes p.caller (seen p) (seen q) was was
  call_heard first tapes s call reply p q was same all_p all_q plain adds =
      let between = adds.grown.0 in
      let is : seen q ≡ (seen p ++ between) ++ adds.entry ∷ [] = adds.last ∙ ap (λ l. l ++ adds.entry ∷ []) adds.grown.1 in
      let none = asked_not_feed call plain in
      call_hears first tapes (history_of (store_of s)) (seen p) between (seen q) adds.entry p.caller (mine p) (mine q) was all_p (subst (λ c. IsAllOf (history_of (store_of s)) (seen q) c (mine q)) same all_q)
      adds.gained adds.caller is (asked_ends_not call adds.entry adds.call_is none) (asked_feeds_not call adds.entry adds.call_is none)

  -- a line's call, and then what follows it
  pub line_heard :
      (told : D → Told) (tapes : List (List ℕ)) (s : Hall (Standing D) (Born D)) (line : Line) (call : Call) (reply : Reply) (p q r : Pass (Standing D) (Born D)) (was now : List (List ℕ)) → tapes_of s ≡ tapes → q.caller ≡ p.caller
      → IsAllOf (history_of (store_of s)) (seen p) p.caller (mine p) → IsAllOf (history_of (store_of s)) (seen q) q.caller (mine q) → IsTrue (is_asked_of call) → AddsEntry call reply p q → Begins (seen q) (seen r)
      → IsMoreHeard told (tapes_of s) s line.verb q r was now → IsMoreHeard told tapes s line.verb p r was now
  line_heard told tapes s line call reply p q r was now is same all_p all_q plain adds begins played = λ honest first opened.
      let behind : AreServable first tapes p.caller line.verb (seen q) (seen r) → HearsMore first tapes p.caller (seen q) (seen r) was now =
      subst (λ t. AreServable first t p.caller line.verb (seen q) (seen r) → HearsMore first t p.caller (seen q) (seen r) was now) is
      (subst (λ c. AreServable first (tapes_of s) c line.verb (seen q) (seen r) → HearsMore first (tapes_of s) c (seen q) (seen r) was now) same (played honest first opened)) in
      then_heard first tapes p.caller line (seen p) (seen q) (seen r) was now (call_heard first tapes s call reply p q was same all_p all_q plain adds) begins behind

  -- a line's serving gives what its lane gives
  pub line_serving : (told : D → Told) (s : Hall (Standing D) (Born D)) (verb : Verb) (lane : ℕ) (p q : Pass (Standing D) (Born D)) (was now : List (List ℕ)) → served verb ≡ Some lane → LaneIsHeard told s lane p q was now → IsMoreHeard told (tapes_of s) s verb p q was now
  line_serving told s verb lane p q was now is h = λ honest first opened able. h honest first opened (able lane is)

  -- nothing was done
  pub none_heard : (told : D → Told) (tapes : List (List ℕ)) (s : Hall (Standing D) (Born D)) (line : Line) (p : Pass (Standing D) (Born D)) (was : List (List ℕ)) → IsMoreHeard told tapes s line.verb p p was was
  none_heard told tapes s line p was = λ honest first opened able. nothing_heard first tapes p.caller (seen p) was

  pub others_heard : (told : D → Told) (tapes : List (List ℕ)) (s : Hall (Standing D) (Born D)) (line : Line) (p : Pass (Standing D) (Born D)) (was : List (List ℕ)) → IsHeardIfOwn told tapes s line p p was was
  others_heard told tapes s line p was = λ honest first opened able. nothing_heard first tapes p.caller (seen p) was

  -- told of the tapes that the server has
  pub of_tapes : (told : D → Told) (tapes : List (List ℕ)) (s : Hall (Standing D) (Born D)) (verb : Verb) (p q : Pass (Standing D) (Born D)) (was now : List (List ℕ)) → tapes_of s ≡ tapes → IsMoreHeard told (tapes_of s) s verb p q was now → IsMoreHeard told tapes s verb p q was now
  of_tapes told tapes s verb p q was now is h = subst (λ t. IsMoreHeard told t s verb p q was now) is h

  pub own_heard :
      (told : D → Told) (tapes : List (List ℕ)) (s : Hall (Standing D) (Born D)) (line : Line) (p q : Pass (Standing D) (Born D)) (was now : List (List ℕ)) → line.caller ≡ p.caller → IsMoreHeard told tapes s line.verb p q was now → IsHeardIfOwn told tapes s line p q was now
  own_heard told tapes s line p q was now own h = λ honest first opened able. h honest first opened (able own)

  -- ---- the lines so far

  -- on an honest disk the lines so far gave what was heard, where the caller's lanes are fed by it alone and the history began with the server
  abbrev pub KnowsHeard : (D → Told) → List (List ℕ) → Hall (Standing D) (Born D) → List Line → Pass (Standing D) (Born D) → Pass (Standing D) (Born D) → List Heard → Type 0
  KnowsHeard told tapes s lines p q heard =
      IsTrue (told (store_of s).origin).honest → (first : State) → opened_from (told (store_of s).origin).bytes ≡ Some first → seen p ≡ [] → ((lane : ℕ) → IsAtRest first lane)
      → FeedsAlone lines p.caller (seen q) → GivesSoFar first tapes lines p.caller (seen q) (bytes_in heard)

  pub knows_first : (told : D → Told) (tapes : List (List ℕ)) (s : Hall (Standing D) (Born D)) (lines : List Line) (p : Pass (Standing D) (Born D)) (heard : List Heard) → heard ≡ [] → KnowsHeard told tapes s lines p p heard
  knows_first told tapes s lines p heard none = λ honest first opened nothing rest alone. starts first tapes lines p.caller (seen p) (bytes_in heard) nothing (ap bytes_in none) rest

  pub knows_more :
      (told : D → Told) (tapes : List (List ℕ)) (s : Hall (Standing D) (Born D)) (lines : List Line) (number : ℕ) (line : Line) (p q r : Pass (Standing D) (Born D)) (was now : List Heard) → q.caller ≡ p.caller → slice_get lines number ≡ Some line → Begins (seen q) (seen r)
      → KnowsHeard told tapes s lines p q was → IsHeardIfOwn told tapes s line q r (bytes_in was) (bytes_in now) → KnowsHeard told tapes s lines p r now
  knows_more told tapes s lines number line p q r was now same there begins h k = λ honest first opened nothing rest alone.
      let before = h honest first opened nothing rest (alone_front lines p.caller (seen q) begins.0 (subst (FeedsAlone lines p.caller) begins.1 alone)) in
      let more : (line.caller ≡ p.caller → AreServable first tapes p.caller line.verb (seen q) (seen r)) → HearsMore first tapes p.caller (seen q) (seen r) (bytes_in was) (bytes_in now) =
      subst (λ c. (line.caller ≡ c → AreServable first tapes c line.verb (seen q) (seen r)) → HearsMore first tapes c (seen q) (seen r) (bytes_in was) (bytes_in now)) same (k honest first opened) in
      goes_on first tapes lines p.caller (seen q) (seen r) (bytes_in was) (bytes_in now) before (more (λ own. servable first tapes lines p.caller (seen q) (seen r) (bytes_in was) number line before alone there own)) alone

  pub knows_all : (told : D → Told) (tapes : List (List ℕ)) (s : Hall (Standing D) (Born D)) (lines : List Line) (p q : Pass (Standing D) (Born D)) (heard : List Heard) → KnowsHeard told tapes s lines p q heard → IsHeardBy told tapes s lines p q heard
  knows_all told tapes s lines p q heard h = λ honest first opened nothing rest alone. (h honest first opened nothing rest alone).gives
