-- Changes that are made, or none.
use Rattle.std.proofs.Common.{◌≡◌, ℕ, suc, ◌≤◌, ◌==◌, ◌&&◌, Bool, true, false, List, [], ◌∷◌, map, length, Option, Some, None, refl, arith}
use Rattle.std.proofs.lemmas.Bool.{eqb-true}
use Rattle.std.specs.Prelude.{Result, Ok, Err, IfOk}
use Rattle.voice_units.specs.Spots.{Spot}
use Rattle.voice_model.specs.State.{Durable}
use Rattle.voice_model.specs.declared.calls.Row.{Row}
use Rattle.voice_model.specs.declared.changes.Change.{Change}
use Rattle.voice_model.specs.declared.changes.Change.TheVariants as changes
use Rattle.ready_changes.specs.Ready.{IsReady, MayBeReady, census_of, sweep_of}
use Rattle.ready_changes.specs.declared.ReadyChange.{ReadyChange}

pub if_ok : {A B : Type 0} (P Q : A → Type 0) (r : Result A B) → ((x : A) → P x → Q x) → IfOk r P → IfOk r Q
if_ok P Q (Ok x) f h = f x h
if_ok P Q (Err e) f h = h

first_true : (a b : Bool) → (a && b) ≡ true → a ≡ true
first_true true b e = refl
first_true false b e = cc

pub some_of : {A : Type 0} (xs : List A) → (length xs == 0) ≡ false → 1 ≤ length xs
some_of [] e = cc
some_of (x ∷ xs) e = omega arith

pub census_none : (spare : ℕ) (d : Durable Spot) (keys : List (List ℕ)) → (length keys == 0) ≡ true → MayBeReady spare d None (census_of keys)
census_none spare d [] e = tt
census_none spare d (key ∷ keys) e = let n = length keys in let bad = eqb-true (suc n) 0 e in cc

pub census_some : (spare : ℕ) (d : Durable Spot) (ready : ReadyChange) (keys : List (List ℕ)) → 1 ≤ length keys → IsReady spare d ready (changes.Census keys) → MayBeReady spare d (Some ready) (census_of keys)
census_some spare d ready [] some h = absurd (omega (arith, some))
census_some spare d ready (key ∷ keys) some h = h

pub sweep_none : (spare : ℕ) (d : Durable Spot) (rows : List Row) (ids : List ℕ) → ((length (map (λ (row : Row). row.key) rows) == 0) && (length ids == 0)) ≡ true → MayBeReady spare d None (sweep_of rows ids)
sweep_none spare d [] [] e = tt
sweep_none spare d [] (id ∷ ids) e = let n = length ids in let bad = eqb-true (suc n) 0 e in cc
sweep_none spare d (row ∷ rows) ids e = let n = length (map (λ (row : Row). row.key) rows) in let bad = eqb-true (suc n) 0 (first_true (suc n == 0) (length ids == 0) e) in cc

pub sweep_some : (spare : ℕ) (d : Durable Spot) (ready : ReadyChange) (rows : List Row) (ids : List ℕ) → ((length (map (λ (row : Row). row.key) rows) == 0) && (length ids == 0)) ≡ false → IsReady spare d ready (changes.Swept ids) → MayBeReady spare d (Some ready) (sweep_of rows ids)
sweep_some spare d ready [] [] e h = cc
sweep_some spare d ready [] (id ∷ ids) e h = h
sweep_some spare d ready (row ∷ rows) ids e h = h

-- what is ready is ready for some change
pub some_ready : (spare : ℕ) (d : Durable Spot) (ready : ReadyChange) (o : Option Change) → MayBeReady spare d (Some ready) o → (c : Change) × IsReady spare d ready c
some_ready spare d ready (Some c) h = (c, h)
some_ready spare d ready None h = absurd h
