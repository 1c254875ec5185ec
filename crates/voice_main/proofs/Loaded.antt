-- Files that are read by name.
use Rattle.std.proofs.Common.{◌≡◌, ℕ, ◌+◌, ◌<◌, ◌≤◌, List, ◌∷◌, ◌++◌, length, get_or, take, drop, Some, None, Option, sym, ap, subst, ◌∙◌, arith, take-append-drop}
use Rattle.std.specs.Prelude.{IfSome}
use Rattle.std.specs.FinMap.{get}
use Rattle.std.proofs.lemmas.List.{drop_more}
use Rattle.voice_outside.specs.Files.{Files}
use Rattle.voice_outside.specs.Counters.{HasRisen}
use Rattle.voice_main.specs.declared.load.LoadError.{LoadError}
use Rattle.voice_main.specs.declared.load.LoadError.TheVariants as load
use Rattle.voice_main.specs.Load.{LoadIs}
use Rattle.voice_main.specs.Load.{AreFiles, FirstAbsent}

-- a count that rose later on rose since before
pub rose_since : (a b c : ℕ) → a ≤ b → b ≤ c → HasRisen b c → HasRisen a c
rose_since a b c early late rose below = omega (arith, rose below)

pub load_weaker : (e : LoadError) (A B : List ℕ → Type 0) (S T : Type 0) → ((m : List ℕ) → A m → B m) → (S → T) → LoadIs A S e → LoadIs B T e
load_weaker (load.NoFile name) A B S T f g h = f name h
load_weaker load.ShelfFault A B S T f g h = g h
load_weaker load.NoMemory A B S T f g h = h

pub absent_at : (told now : Option Files) (names : List (List ℕ)) (i : ℕ) (item : List ℕ) (tapes : List (List ℕ)) (missing : List ℕ) → now ≡ told → i < length names → item ≡ get_or names i item →
    IfSome told (λ files. AreFiles files (take i names) tapes) → (missing ≡ item) × IfSome now (λ files. get files item ≡ None) → IfSome told (λ files. FirstAbsent files names missing)
absent_at None now names i item tapes missing kept within is there absent = tt
absent_at (Some files) now names i item tapes missing kept within is there absent =
    let gone : get files item ≡ None = subst (λ t. IfSome t (λ files. get files item ≡ None)) kept absent.1 in
    record {
      front = take i names;
      rest = drop (i + 1) names;
      tapes = tapes;
      whole = sym (take-append-drop i names) ∙ ap (λ r. take i names ++ r) (drop_more names i item within ∙ ap (λ x. x ∷ drop (i + 1) names) (sym is ∙ sym absent.0));
      there = there;
      absent = ap (get files) absent.0 ∙ gone;
    }
