-- The payload that replay refuses.
use Rattle.std.proofs.Common.{◌≡◌, ℕ, suc, ◌+◌, Bool, true, false, List, [], ◌∷◌, Option, Some, None, refl, sym, subst, arith}
use Rattle.std.specs.Prelude.{slice_get}
use Rattle.voice_model.specs.Spelling.{change_in}
use Rattle.voice_model.specs.Replay.{Rebuilt, is_legal, acted}
use Rattle.voice_model.specs.Image.{Replayed, replayed, by_change, if_allowed}
use Rattle.voice_model.specs.declared.changes.Change.{Change}
use Rattle.disk_areas.specs.Areas.{Record}
use Rattle.recovery.specs.Shown.{numbered}
use Rattle.recovery.specs.Replayed.{bytes_of, records_of}

refused_same : (m n : ℕ) → Replayed.Refused m ≡ Replayed.Refused n → m ≡ n
refused_same m n e = cc

-- among payloads that are numbered from k on, one has number n
record IsThere (ps : List Record) (k n : ℕ) : Type 0 where
  index : ℕ
  one : Record
  number : n ≡ k + index
  at : slice_get ps index ≡ Some one

refused_from : (r : Rebuilt) (k : ℕ) (ps : List Record) (n : ℕ) → replayed r (numbered k (bytes_of ps)) ≡ Replayed.Refused n → IsThere ps k n
refused_from r k [] n e = cc
refused_from r k (p ∷ ps) n e = by_bytes (change_in p.payload) (λ next h. refused_from next (k + 1) ps n h) e
  where
    here : n ≡ k → IsThere (p ∷ ps) k n
    here same = record { index = 0; one = p; number = omega (arith, same); at = refl }

    later : IsThere ps (k + 1) n → IsThere (p ∷ ps) k n
    later there = let number = there.number in record { index = suc there.index; one = there.one; number = omega (arith, number); at = there.at }

    by_test : (b : Bool) (x : Replayed) → (x ≡ Replayed.Refused n → IsThere ps (k + 1) n) → if_allowed b k x ≡ Replayed.Refused n → IsThere (p ∷ ps) k n
    by_test true x step h = later (step h)
    by_test false x step h = here (sym (refused_same k n h))

    by_bytes : (o : Option Change) → ((next : Rebuilt) → replayed next (numbered (k + 1) (bytes_of ps)) ≡ Replayed.Refused n → IsThere ps (k + 1) n)
        → by_change r k o (λ next. replayed next (numbered (k + 1) (bytes_of ps))) ≡ Replayed.Refused n → IsThere (p ∷ ps) k n
    by_bytes None step h = here (sym (refused_same k n h))
    by_bytes (Some c) step h = by_test (is_legal r c) (replayed (acted r c) (numbered (k + 1) (bytes_of ps))) (step (acted r c)) h

-- the payload of this index
pub record HasPayload (ps : List Record) (k : ℕ) : Type 0 where
  pub one : Record
  pub at : slice_get ps k ≡ Some one

-- the payload that is refused is among them
pub refused_there : (r : Rebuilt) (ps : List Record) (k : ℕ) → replayed r (records_of ps) ≡ Replayed.Refused k → HasPayload ps k
refused_there r ps k e =
    let there = refused_from r 0 ps k e in
    let number = there.number in
    let same : there.index ≡ k = omega (arith, number) in
    record { one = there.one; at = subst (λ (i : ℕ). slice_get ps i ≡ Some there.one) same there.at }
