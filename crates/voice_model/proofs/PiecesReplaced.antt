-- The pieces of a replacement.
use Rattle.std.proofs.Common.{◌≡◌, ℕ, ◌+◌, List, ◌++◌, drop, sym, ◌∙◌, ap}
use Rattle.std.proofs.lemmas.List.{drop-map}
use Rattle.voice_units.specs.Spots.{spots_of, slice, replaced, IsNormal}
use Rattle.voice_units.specs.declared.pieces.Piece.{Piece}
use Rattle.voice_units.proofs.PiecesOfRopes.{same_pieces}
use Rattle.voice_model.specs.Samples.{Tagged, spot_of, spots_in_rope, pieces_in}
use Rattle.voice_model.proofs.Tagged.{spots-append, spots-slice}

spots-replaced : (xs ys : List Tagged) (start len : ℕ) → spots_in_rope (replaced xs start len ys) ≡ replaced (spots_in_rope xs) start len (spots_in_rope ys)
spots-replaced xs ys start len =
    spots-append (slice xs 0 start ++ ys) (drop (start + len) xs)
    ∙ ap (λ l. l ++ spots_in_rope (drop (start + len) xs)) (spots-append (slice xs 0 start) ys ∙ ap (λ l. l ++ spots_in_rope ys) (spots-slice xs 0 start))
    ∙ ap (λ l. (slice (spots_in_rope xs) 0 start ++ spots_in_rope ys) ++ l) (sym (drop-map spot_of (start + len) xs))

-- pieces in normal form that name the places of a replacement are its pieces
pub pieces-replaced : (xs ys : List Tagged) (start len : ℕ) (ps qs rs : List Piece) → spots_of ps ≡ spots_in_rope xs → spots_of qs ≡ spots_in_rope ys → IsNormal rs → spots_of rs ≡ replaced (spots_of ps) start len (spots_of qs) → rs ≡ pieces_in (replaced xs start len ys)
pieces-replaced xs ys start len ps qs rs h k normal e =
    same_pieces rs (spots_in_rope (replaced xs start len ys)) normal
    (e ∙ ap (λ l. replaced l start len (spots_of qs)) h ∙ ap (λ l. replaced (spots_in_rope xs) start len l) k ∙ sym (spots-replaced xs ys start len))
