-- Passes lined up for threads.
--     IsReady s r      the runner's pass is of this server and outside, and knows all entries of its caller; nothing was heard yet
--     PassRan tapes lines done p q heard      the caller's lines were run: of all where it had memory, and else of the first
--     IsHeardBy told tapes s lines p q heard      what the caller heard is what its servings give
--     HasRun told tapes lines s r t      the runner's caller did its lines, or the first of them
--     EachRan told tapes lines s memory passes after heard      each pass's caller did
--     SomeStopped tapes lines passes after      one stopped at a line of its own
use Rattle.std.specs.Prelude.{ℕ, ◌≡◌, ◌<◌, ◌&&◌, Bool, true, false, List, [], ◌∷◌, Some, IsTrue, length, slice_get, slice_index_or}
use Rattle.std.specs.Prelude.{Vec}
use Rattle.std.specs.declared.alloc.Global.{Global}
use Rattle.voice_outside.specs.Disk.{Told}
use Rattle.voice_model.specs.State.{State}
use Rattle.voice_model.specs.Image.{opened_from}
use Rattle.serving_laws.specs.Lanes.{IsAtRest}
use Rattle.script_lang.specs.declared.scripts.Line.{Line}
use Rattle.turnstile.specs.declared.parts.Pass.{Pass}
use Rattle.turnstile.specs.Passes.{mine, seen, IsAllOf}
use Rattle.voice_store.specs.Shown.{history_of}
use Rattle.voice_server.specs.declared.born.Born.{Born}
use Rattle.voice_server.specs.declared.hall.Hall.{Hall}
use Rattle.voice_server.specs.declared.standing.Standing.{Standing}
use Rattle.voice_server.specs.Served.{IsPassOf, store_of}
use Rattle.served_files.specs.declared.heard.Heard.{Heard}
use Rattle.callers.specs.declared.seats.Runner.{Runner}
use Rattle.callers.specs.Lines.{Followed, FollowedInto, Stopped}
use Rattle.served_files.specs.Given.{Gave, GivesTo, FeedsAlone, names_in, bytes_in}

module _ {P : Type 0} where
  abbrev pub pass_of : Runner P → P
  pass_of r = r.pass

  -- what its caller heard
  abbrev pub heard_of : Runner P → Vec Heard Global
  heard_of r = r.heard

  -- the lines of each were done
  abbrev pub all_done : List (Runner P) → Bool
  all_done [] = true
  all_done (r ∷ rs) = r.done && all_done rs

module _ {D : Type 0} where
  -- its caller gained the entries of its lines: of all where it had memory, which gave the files that it heard, and else of the first, and perhaps the first ones of the next line
  pub record PassRan (tapes : List (List ℕ)) (lines : List Line) (done : Bool) (p q : Pass (Standing D) (Born D)) (heard : List Heard) : Type 0 where
    pub caller : q.caller ≡ p.caller
    pub whole : done ≡ true → Followed tapes lines (length lines) p.caller (mine p) (mine q)
    pub gave : done ≡ true → Gave tapes lines p.caller (mine p) (mine q) (names_in heard)
    pub so_far : (k : ℕ) × FollowedInto tapes lines k p.caller (mine p) (mine q)

  -- On an honest disk the caller heard what its servings give, where its lanes are fed by it alone and nothing of their first jobs was heard before; the history began with the server.
  abbrev pub IsHeardBy : (D → Told) → List (List ℕ) → Hall (Standing D) (Born D) → List Line → Pass (Standing D) (Born D) → Pass (Standing D) (Born D) → List Heard → Type 0
  IsHeardBy told tapes s lines p q heard =
      IsTrue (told (store_of s).origin).honest → (first : State) → opened_from (told (store_of s).origin).bytes ≡ Some first → seen p ≡ [] → ((lane : ℕ) → IsAtRest first lane)
      → FeedsAlone lines p.caller (seen q) → GivesTo p.caller first tapes (seen q) (bytes_in heard)

  -- a pass of this server that is outside and knows all entries of its caller
  abbrev pub IsReadyPass : Hall (Standing D) (Born D) → Pass (Standing D) (Born D) → Type 0
  IsReadyPass s p = IsPassOf s p × IsAllOf (history_of (store_of s)) (seen p) p.caller (mine p)

  -- nothing was heard yet
  abbrev pub IsReady : Hall (Standing D) (Born D) → Runner (Pass (Standing D) (Born D)) → Type 0
  IsReady s r = IsReadyPass s r.pass × (r.heard.items ≡ [])

  -- the caller's lines were run
  pub record HasRun (told : D → Told) (tapes : List (List ℕ)) (lines : List Line) (s : Hall (Standing D) (Born D)) (r t : Runner (Pass (Standing D) (Born D))) : Type 0 where
    pub of : IsPassOf s t.pass
    pub ran : PassRan tapes lines t.done r.pass t.pass t.heard.items
    pub heard : t.done ≡ true → IsHeardBy told tapes s lines r.pass t.pass t.heard.items
    pub stopped : t.done ≡ false → Stopped tapes lines r.pass.caller (mine r.pass) (mine t.pass)

  -- the lines of each pass's caller were run; all of them, where there was memory, and then there is a list of what each heard
  pub record EachRan (told : D → Told) (tapes : List (List ℕ)) (lines : List Line) (s : Hall (Standing D) (Born D)) (memory : Bool) (old new : List (Pass (Standing D) (Born D))) (heard : List (Vec Heard Global)) : Type 0 where
    pub count : length new ≡ length old
    pub lists : memory ≡ true → length heard ≡ length old
    pub each : (i : ℕ) (d : Pass (Standing D) (Born D)) (v : Vec Heard Global) → i < length old → PassRan tapes lines memory (slice_index_or old i d) (slice_index_or new i d) (slice_index_or heard i v).items
    pub bytes : memory ≡ true → (i : ℕ) (d : Pass (Standing D) (Born D)) (v : Vec Heard Global) → i < length old → IsHeardBy told tapes s lines (slice_index_or old i d) (slice_index_or new i d) (slice_index_or heard i v).items

  -- one pass's caller stopped at a line of its own
  pub record SomeStopped (tapes : List (List ℕ)) (lines : List Line) (old new : List (Pass (Standing D) (Born D))) : Type 0 where
    pub place : ℕ
    pub before : Pass (Standing D) (Born D)
    pub after : Pass (Standing D) (Born D)
    pub there : (slice_get old place ≡ Some before) × (slice_get new place ≡ Some after)
    pub stopped : Stopped tapes lines before.caller (mine before) (mine after)
