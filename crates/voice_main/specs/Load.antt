-- The files that a run reads.
--     AreFiles files names tapes      these are the files of these names
--     FirstAbsent files names missing      the first of the names that is absent
--     LoadIs absent shelf e      when each error of a load comes
use Rattle.std.specs.Prelude.{ℕ, List, ◌∷◌, ◌++◌, ◌≡◌, Some, None, map, Vec}
use Rattle.std.specs.declared.alloc.Global.{Global}
use Rattle.std.specs.FinMap.{get}
use Rattle.voice_outside.specs.Files.{Files}
use Rattle.voice_main.specs.declared.load.LoadError.{LoadError}
use Rattle.voice_main.specs.declared.load.LoadError.TheVariants.{NoFile, ShelfFault, NoMemory}

abbrev pub bytes_of : List (Vec ℕ Global) → List (List ℕ)
bytes_of files = map (λ v. v.items) files

-- these are the files of these names
abbrev pub AreFiles : Files → List (List ℕ) → List (List ℕ) → Type 0
AreFiles files names tapes = map (get files) names ≡ map Some tapes

-- the first of the names that is absent
pub record FirstAbsent (files : Files) (names : List (List ℕ)) (missing : List ℕ) : Type 0 where
  pub front : List (List ℕ)
  pub rest : List (List ℕ)
  pub tapes : List (List ℕ)
  pub whole : names ≡ front ++ missing ∷ rest
  pub there : AreFiles files front tapes
  pub absent : get files missing ≡ None

-- a file is absent, the shelf's faults rose, or memory was wanted
abbrev pub LoadIs : (List ℕ → Type 0) → Type 0 → LoadError → Type 0
LoadIs absent shelf (NoFile name) = absent name
LoadIs absent shelf ShelfFault = shelf
LoadIs absent shelf NoMemory = Unit {0}
