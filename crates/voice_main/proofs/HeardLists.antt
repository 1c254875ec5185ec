-- The lists of what callers heard, as one of them grows.
use Rattle.std.proofs.Common.{◌≡◌, ◌<◌, ℕ, zero, suc, List, [], ◌∷◌, length, set, map, refl, ap, arith}
use Rattle.std.specs.Prelude.{Vec, All}
use Rattle.std.specs.declared.alloc.Global.{Global}
use Rattle.served_files.specs.declared.heard.Heard.{Heard}
use Rattle.served_files.specs.Given.{names_in, bytes_in}
use Rattle.served_files.specs.Files.{GivenFile, given_of, heard_of}

abbrev Lists : Type 0
Lists = List (Vec Heard Global)

-- the list of the caller whose list is set
pub set_here : (lists : Lists) (j : ℕ) (v : Vec Heard Global) → j < length lists → heard_of (set lists j v) (suc j) ≡ v.items
set_here [] j v within = absurd (omega (arith, within))
set_here (w ∷ ws) zero v within = refl
set_here (w ∷ ws) (suc j) v within = set_here ws j v (omega (arith, within))

-- those of the others stay
pub set_there : (lists : Lists) (j c : ℕ) (v : Vec Heard Global) → ¬ (suc j ≡ c) → heard_of (set lists j v) c ≡ heard_of lists c
set_there lists j zero v apart = refl
set_there [] j (suc c) v apart = refl
set_there (w ∷ ws) zero (suc zero) v apart = absurd (apart refl)
set_there (w ∷ ws) zero (suc (suc c)) v apart = refl
set_there (w ∷ ws) (suc j) (suc zero) v apart = refl
set_there (w ∷ ws) (suc j) (suc (suc c)) v apart = set_there ws j (suc c) v (λ same. apart (ap suc same))

-- nobody heard anything yet
pub none_heard : (lists : Lists) → All (λ (v : Vec Heard Global). v.items ≡ []) lists → (c : ℕ) → heard_of lists c ≡ []
none_heard lists h zero = refl
none_heard [] h (suc c) = refl
none_heard (v ∷ vs) h (suc zero) = h 0 v (omega arith)
none_heard (v ∷ vs) h (suc (suc c)) = none_heard vs (λ k d within. h (suc k) d (omega (arith, within))) (suc c)

-- the names and the bytes of files as they are queued
pub queued_names : (heard : List Heard) → map (λ (f : GivenFile). f.name) (map given_of heard) ≡ names_in heard
queued_names [] = refl
queued_names (h ∷ hs) = ap (λ l. h.file ∷ l) (queued_names hs)

pub queued_bytes : (heard : List Heard) → map (λ (f : GivenFile). f.bytes) (map given_of heard) ≡ bytes_in heard
queued_bytes [] = refl
queued_bytes (h ∷ hs) = ap (λ l. h.bytes.items ∷ l) (queued_bytes hs)
