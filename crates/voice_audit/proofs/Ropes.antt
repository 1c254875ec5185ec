-- The lines of ropes, as the program goes over them.
use Rattle.std.proofs.Common.{◌≡◌, ℕ, ◌+◌, List, [], ◌∷◌, ◌++◌, Option, Some, None, flat_map, take, refl, sym, ◌∙◌, ap}
use Rattle.std.specs.Prelude.{slice_get, option_map}
use Rattle.std.proofs.lemmas.List.{append_assoc, append-nil}
use Rattle.voice_units.specs.declared.Piece.{Piece}
use Rattle.rope_table.specs.declared.ropes.Rope.{Rope}
use Rattle.rope_table.specs.Table.{rope_of, pieces_at}
use Rattle.rope_table.proofs.Edited.{id_of}
use Rattle.checkpoint.proofs.Lists.{take_get}

-- lines in front of others
pub lines_joined : {A : Type 0} (line : A → List ℕ) (xs ys : List A) → flat_map line (xs ++ ys) ≡ flat_map line xs ++ flat_map line ys
lines_joined line [] ys = refl
lines_joined line (x ∷ xs) ys = ap (λ l. line x ++ l) (lines_joined line xs ys) ∙ sym (append_assoc (line x) (flat_map line xs) (flat_map line ys))

-- one line more
pub lines_more : {A : Type 0} (line : A → List ℕ) (xs : List A) (k : ℕ) (x : A) → slice_get xs k ≡ Some x → flat_map line (take (k + 1) xs) ≡ flat_map line (take k xs) ++ line x
lines_more line xs k x e = ap (flat_map line) (take_get xs k x e) ∙ lines_joined line (take k xs) (x ∷ []) ∙ ap (λ l. flat_map line (take k xs) ++ l) (append-nil (line x))

-- the rope of a number, by its pieces
pub record IsFound (ropes : List Rope) (id : ℕ) (pieces : List Piece) : Type 0 where
  pub rope : Rope
  pub found : rope_of ropes id ≡ Some rope
  pub number : rope.id ≡ id
  pub same : rope.pieces ≡ pieces

pub found_of : (ropes : List Rope) (id : ℕ) (pieces : List Piece) → pieces_at ropes id ≡ Some pieces → IsFound ropes id pieces
found_of ropes id pieces e = by (rope_of ropes id) refl e
  where
    by : (o : Option Rope) → rope_of ropes id ≡ o → option_map (λ rope. rope.pieces) o ≡ Some pieces → IsFound ropes id pieces
    by None h e = cc
    by (Some rope) h e = let ps : rope.pieces ≡ pieces = cc in record { rope = rope; found = h; number = id_of id ropes rope h; same = ps }
