-- Passes that were just made are ready to run lines.
use Rattle.std.proofs.Common.{◌≡◌, ℕ, suc, List, [], ◌∷◌, length, All, sym, ap, subst, append-nil, arith}
use Rattle.std.proofs.lemmas.List.{drop_all}
use Rattle.std.proofs.lemmas.List.Elements.{All-cons, All-nil}
use Rattle.voice_model.specs.declared.calls.Entry.{Entry}
use Rattle.turnstile.specs.declared.parts.Pass.{Pass}
use Rattle.turnstile.specs.Histories.{entries_of}
use Rattle.turnstile.specs.Passes.{IsNew, AreNewFrom, IsAllOf, seen, mine}
use Rattle.voice_store.specs.Shown.{history_of}
use Rattle.voice_server.specs.declared.born.Born.{Born}
use Rattle.voice_server.specs.declared.hall.Hall.{Hall}
use Rattle.voice_server.specs.declared.standing.Standing.{Standing}
use Rattle.voice_server.specs.Kept as kept
use Rattle.voice_server.specs.Served.{store_of}
use Rattle.callers.specs.Seats.{IsReadyPass}

-- a caller that did nothing since the start has no entry
none_since : (start : List Entry) (by : ℕ) → IsAllOf start start by []
none_since start by = (([], sym (append-nil start)), sym (ap (entries_of by) (drop_all (length start) start (omega arith))))

knows_none : (start seen : List Entry) (by : ℕ) (mine : List Entry) → seen ≡ start → mine ≡ [] → IsAllOf start seen by mine
knows_none start seen by mine same none = subst (λ m. IsAllOf start seen by m) (sym none) (subst (λ l. IsAllOf start l by []) (sym same) (none_since start by))

module _ {D : Type 0} where
  is_ready : (s : Hall (Standing D) (Born D)) (by : ℕ) (p : Pass (Standing D) (Born D)) → IsNew kept.history_of s.turnstile by p → IsReadyPass s p
  is_ready s by p h = ((h.0, h.1), knows_none (history_of (store_of s)) (seen p) p.caller (mine p) h.3 h.4)

  -- the passes of a new server
  pub new_ready : (s : Hall (Standing D) (Born D)) (by : ℕ) (passes : List (Pass (Standing D) (Born D))) → AreNewFrom kept.history_of s.turnstile by passes → All (IsReadyPass s) passes
  new_ready s by [] h = All-nil (IsReadyPass s)
  new_ready s by (p ∷ ps) h = All-cons (IsReadyPass s) p ps (is_ready s by p h.0) (new_ready s (suc by) ps h.1)
