-- The pieces of joined and sliced ropes.
use Rattle.std.proofs.Common.{◌≡◌, ℕ, List, [], ◌∷◌, ◌++◌, take, drop, refl, sym, ◌∙◌, ap}
use Rattle.std.proofs.lemmas.List.{take-map, drop-map}
use Rattle.voice_units.specs.Spots.{spots_of, slice, IsNormal}
use Rattle.voice_units.specs.declared.pieces.Piece.{Piece}
use Rattle.voice_units.proofs.PiecesOfRopes.{spots_of-append, same_pieces}
use Rattle.voice_model.specs.Samples.{Tagged, spot_of, spots_in_rope, pieces_in}

pub spots-append : (xs ys : List Tagged) → spots_in_rope (xs ++ ys) ≡ spots_in_rope xs ++ spots_in_rope ys
spots-append [] ys = refl
spots-append (x ∷ xs) ys = ap (λ l. spot_of x ∷ l) (spots-append xs ys)

pub spots-slice : (xs : List Tagged) (s n : ℕ) → spots_in_rope (slice xs s n) ≡ slice (spots_in_rope xs) s n
spots-slice xs s n = sym (take-map spot_of n (drop s xs)) ∙ ap (take n) (sym (drop-map spot_of s xs))

-- pieces of two ropes, one after another, name the places of the joined rope
pub pieces-append : (xs ys : List Tagged) (ps qs : List Piece) → spots_of ps ≡ spots_in_rope xs → spots_of qs ≡ spots_in_rope ys → spots_of (ps ++ qs) ≡ spots_in_rope (xs ++ ys)
pieces-append xs ys ps qs h k = spots_of-append ps qs ∙ ap (λ l. l ++ spots_of qs) h ∙ ap (λ l. spots_in_rope xs ++ l) k ∙ sym (spots-append xs ys)

-- pieces in normal form that name the places of a slice are its pieces
pub pieces-slice : (xs : List Tagged) (s n : ℕ) (ps qs : List Piece) → spots_of ps ≡ spots_in_rope xs → IsNormal qs → spots_of qs ≡ slice (spots_of ps) s n → qs ≡ pieces_in (slice xs s n)
pieces-slice xs s n ps qs h normal e = same_pieces qs (spots_in_rope (slice xs s n)) normal (e ∙ ap (λ l. slice l s n) h ∙ sym (spots-slice xs s n))
