-- Ropes by number in the tables, and in the state that they show.
use Rattle.std.proofs.Common.{◌≡◌, ℕ, ◌+◌, ◌-◌, ◌==◌, Bool, true, false, cond, List, [], ◌∷◌, ◌++◌, map, length, drop, ◌≤◌, Option, Some, None, refl, sym, ◌∙◌, ap, ap₂}
use Rattle.std.specs.Prelude.{option_map, is_some, unwrap_or}
use Rattle.std.proofs.lemmas.List.{length-append, length-map, append-nil, drop_all}
use Rattle.voice_units.specs.declared.pieces.Piece.{Piece}
use Rattle.voice_units.specs.Spots.{Spot, spots_of, pieces_of, samples_in, slice, replaced, nowhere}
use Rattle.voice_units.proofs.PiecesOfRopes.{spots_of-runs, spots_of-append, normal}
use Rattle.voice_model.specs.Samples.{Tagged, spot_of, spots_in_rope, pieces_in}
use Rattle.voice_model.specs.State.{State, Live, rope_at, is_live, samples_of, samples_or_none, joined, first_unknown}
use Rattle.voice_model.specs.Replay.{live_by}
use Rattle.voice_model.proofs.Tagged.{spots-append, pieces-slice}
use Rattle.voice_model.proofs.PiecesReplaced.{pieces-replaced}
use Rattle.rope_algebra.specs.Kept.{LieInFiles}
use Rattle.rope_algebra.proofs.Joins.{length_of_replaced}
use Rattle.rope_algebra.proofs.Parts.{length-spots_of, samples_in-append}
use Rattle.rope_table.specs.declared.ropes.Rope.{Rope}
use Rattle.rope_table.specs.Table.{pieces_at, rope_of}
use Rattle.recovery.specs.declared.parts.Parts.{Parts}
use Rattle.recovery.specs.Shown.{shown_rope}
use Rattle.recovery.proofs.Ropes.{rope_of-shown}
use Rattle.edits.specs.Tables.{pieces_here, first_missing, pieces_joined, length_joined, spots_joined}
use Rattle.edits.specs.Shown.{ShowsState}

found_here : (b : Bool) (rope : Live Tagged) (o : Option (Live Spot)) (q : Option (Live Tagged)) → o ≡ option_map (live_by spot_of) q → cond b (Some (live_by spot_of rope)) o ≡ option_map (live_by spot_of) (cond b (Some rope) q)
found_here true rope o q e = refl
found_here false rope o q e = e

rope_at-by : (ropes : List (Live Tagged)) (id : ℕ) → rope_at (map (live_by spot_of) ropes) id ≡ option_map (live_by spot_of) (rope_at ropes id)
rope_at-by [] id = refl
rope_at-by (rope ∷ ropes) id = found_here (rope.id == id) rope (rope_at (map (live_by spot_of) ropes) id) (rope_at ropes id) (rope_at-by ropes id)

abbrev pieces_of_live : Live Tagged → List Piece
pieces_of_live rope = pieces_in rope.samples

module _ (held : List (List Piece)) (parts : Parts) (s : State) (h : ShowsState held parts s) where
  abbrev shown : Live Spot → Rope
  shown = shown_rope s.shape.graces s.rows

  through : (o : Option (Live Tagged)) → option_map (λ rope. rope.pieces) (option_map shown (option_map (live_by spot_of) o)) ≡ option_map pieces_of_live o
  through None = refl
  through (Some rope) = refl

  -- the pieces of the rope of a number
  pub pieces_shown : (id : ℕ) → pieces_at parts.ropes.ropes id ≡ option_map pieces_of_live (rope_at s.ropes id)
  pieces_shown id =
      ap (λ (l : List Rope). option_map (λ rope. rope.pieces) (rope_of l id)) h.ropes
      ∙ ap (option_map (λ rope. rope.pieces)) (rope_of-shown s.shape.graces s.rows (map (live_by spot_of) s.ropes) id)
      ∙ ap (λ o. option_map (λ rope. rope.pieces) (option_map shown o)) (rope_at-by s.ropes id)
      ∙ through (rope_at s.ropes id)

  still_some : (o : Option (Live Tagged)) → is_some (option_map pieces_of_live o) ≡ is_some o
  still_some None = refl
  still_some (Some rope) = refl

  pub live_shown : (id : ℕ) → is_some (pieces_at parts.ropes.ropes id) ≡ is_live s.ropes id
  live_shown id = ap is_some (pieces_shown id) ∙ still_some (rope_at s.ropes id)

  of_none : (o : Option (Live Tagged)) → unwrap_or (option_map pieces_of_live o) [] ≡ pieces_in (samples_or_none o)
  of_none None = refl
  of_none (Some rope) = refl

  pub here_shown : (id : ℕ) → pieces_here parts.ropes.ropes id ≡ pieces_in (samples_of s.ropes id)
  here_shown id = ap (λ o. unwrap_or o []) (pieces_shown id) ∙ of_none (rope_at s.ropes id)

  -- the first rope that is not live
  pub missing_shown : (ids : List ℕ) → first_missing parts.ropes.ropes ids ≡ first_unknown s.ropes ids
  missing_shown [] = refl
  missing_shown (id ∷ ids) =
      ap (λ b. cond b (first_missing parts.ropes.ropes ids) (Some id)) (live_shown id) ∙ ap (λ o. cond (is_live s.ropes id) o (Some id)) (missing_shown ids)

  -- the places of a rope's samples, and of those of ropes one after another
  pub spots_shown : (id : ℕ) → spots_of (pieces_here parts.ropes.ropes id) ≡ spots_in_rope (samples_of s.ropes id)
  spots_shown id = ap spots_of (here_shown id) ∙ spots_of-runs nowhere (spots_in_rope (samples_of s.ropes id))

  pub joined_shown : (ids : List ℕ) → spots_joined parts.ropes.ropes ids ≡ spots_in_rope (joined s.ropes ids)
  joined_shown [] = refl
  joined_shown (id ∷ ids) = ap₂ (λ xs ys. xs ++ ys) (spots_shown id) (joined_shown ids) ∙ sym (spots-append (samples_of s.ropes id) (joined s.ropes ids))

  -- how long they are
  pub rope_length : (id : ℕ) → samples_in (pieces_here parts.ropes.ropes id) ≡ length (samples_of s.ropes id)
  rope_length id = sym (length-spots_of (pieces_here parts.ropes.ropes id)) ∙ ap length (spots_shown id) ∙ length-map (samples_of s.ropes id) spot_of

  pub joined_length : (ids : List ℕ) → length_joined parts.ropes.ropes ids ≡ length (joined s.ropes ids)
  joined_length [] = refl
  joined_length (id ∷ ids) = ap₂ (λ m n. m + n) (rope_length id) (joined_length ids) ∙ sym (length-append (samples_of s.ropes id) (joined s.ropes ids))

  -- a part of a rope, and a rope with another in place of a part
  pub slice_shown : (id start len : ℕ) → pieces_of (slice (spots_of (pieces_here parts.ropes.ropes id)) start len) ≡ pieces_in (slice (samples_of s.ropes id) start len)
  slice_shown id start len =
      let spots = slice (spots_of (pieces_here parts.ropes.ropes id)) start len in
      pieces-slice (samples_of s.ropes id) start len (pieces_here parts.ropes.ropes id) (pieces_of spots) (spots_shown id) (normal spots) (spots_of-runs nowhere spots)

  pub replaced_shown : (id start len with : ℕ) → pieces_of (replaced (spots_of (pieces_here parts.ropes.ropes id)) start len (spots_of (pieces_here parts.ropes.ropes with))) ≡ pieces_in (replaced (samples_of s.ropes id) start len (samples_of s.ropes with))
  replaced_shown id start len with =
      let spots = replaced (spots_of (pieces_here parts.ropes.ropes id)) start len (spots_of (pieces_here parts.ropes.ropes with)) in
      pieces-replaced (samples_of s.ropes id) (samples_of s.ropes with) start len (pieces_here parts.ropes.ropes id) (pieces_here parts.ropes.ropes with) (pieces_of spots) (spots_shown id) (spots_shown with) (normal spots) (spots_of-runs nowhere spots)

-- a rope has as many samples as its pieces
pub made_length : (xs : List Tagged) → samples_in (pieces_in xs) ≡ length xs
made_length xs = sym (length-spots_of (pieces_in xs)) ∙ ap length (spots_of-runs nowhere (spots_in_rope xs)) ∙ length-map xs spot_of

pub places_length : (ss : List Spot) → samples_in (pieces_of ss) ≡ length ss
places_length ss = sym (length-spots_of (pieces_of ss)) ∙ ap length (spots_of-runs nowhere ss)

-- ---- a look-up

pub no_rope : (ropes : List Rope) (id : ℕ) (ids : List ℕ) → None ≡ pieces_at ropes id → first_missing ropes (id ∷ ids) ≡ Some id
no_rope ropes id ids e = ap (λ o. cond (is_some o) (first_missing ropes ids) (Some id)) (sym e)

pub a_rope : (ropes : List Rope) (id : ℕ) (ids : List ℕ) (ps : List Piece) → Some ps ≡ pieces_at ropes id → first_missing ropes (id ∷ ids) ≡ first_missing ropes ids
a_rope ropes id ids ps e = ap (λ o. cond (is_some o) (first_missing ropes ids) (Some id)) (sym e)

pub its_pieces : (ropes : List Rope) (id : ℕ) (ps : List Piece) → Some ps ≡ pieces_at ropes id → pieces_here ropes id ≡ ps
its_pieces ropes id ps e = ap (λ o. unwrap_or o []) (sym e)

pub its_length : (ropes : List Rope) (id : ℕ) (ps : List Piece) (n : ℕ) → Some ps ≡ pieces_at ropes id → n ≡ samples_in ps → samples_in (pieces_here ropes id) ≡ n
its_length ropes id ps n e h = ap samples_in (its_pieces ropes id ps e) ∙ sym h

-- ---- ropes one after another

pub joined_places : (ropes : List Rope) (ids : List ℕ) → spots_of (pieces_joined ropes ids) ≡ spots_joined ropes ids
joined_places ropes [] = refl
joined_places ropes (id ∷ ids) = spots_of-append (pieces_here ropes id) (pieces_joined ropes ids) ∙ ap (λ l. spots_of (pieces_here ropes id) ++ l) (joined_places ropes ids)

pub joined_samples : (ropes : List Rope) (ids : List ℕ) → samples_in (pieces_joined ropes ids) ≡ length_joined ropes ids
joined_samples ropes [] = refl
joined_samples ropes (id ∷ ids) = samples_in-append (pieces_here ropes id) (pieces_joined ropes ids) ∙ ap (λ n. samples_in (pieces_here ropes id) + n) (joined_samples ropes ids)

pub lie-append : (ps qs : List Piece) → LieInFiles ps → LieInFiles qs → LieInFiles (ps ++ qs)
lie-append [] qs h k = k
lie-append (p ∷ ps) qs h k = (h.0, lie-append ps qs h.1 k)

-- the pieces that were put once all ropes were gone over
pub all_put : (ropes : List Rope) (ids : List ℕ) (k : ℕ) (list : List Piece) → length ids ≤ k → list ++ pieces_joined ropes (drop k ids) ≡ pieces_joined ropes ids → list ≡ pieces_joined ropes ids
all_put ropes ids k list h e = sym (append-nil list) ∙ ap (λ l. list ++ pieces_joined ropes l) (sym (drop_all k ids h)) ∙ e

-- ---- a rope with another one in place of a part

abbrev pub replaced_places : List Rope → ℕ → ℕ → ℕ → ℕ → List Spot
replaced_places ropes id start len with = replaced (spots_of (pieces_here ropes id)) start len (spots_of (pieces_here ropes with))

pub size_of_replaced : (ropes : List Rope) (id start len with : ℕ) (ps qs : List Piece) (m n : ℕ) → Some ps ≡ pieces_at ropes id → Some qs ≡ pieces_at ropes with → m ≡ samples_in ps → n ≡ samples_in qs → start + len ≤ m
    → length (replaced_places ropes id start len with) ≡ m - len + n
size_of_replaced ropes id start len with ps qs m n e f em en inside =
    sym (length_of_replaced (pieces_here ropes id) (pieces_here ropes with) m n start len (sym (its_length ropes id ps m e em)) (sym (its_length ropes with qs n f en)) inside)

pub pieces_of_replaced : (ropes : List Rope) (id start len with : ℕ) (ps qs : List Piece) → Some ps ≡ pieces_at ropes id → Some qs ≡ pieces_at ropes with
    → pieces_of (replaced_places ropes id start len with) ≡ pieces_of (replaced (spots_of ps) start len (spots_of qs))
pieces_of_replaced ropes id start len with ps qs e f = ap₂ (λ l r. pieces_of (replaced (spots_of l) start len (spots_of r))) (its_pieces ropes id ps e) (its_pieces ropes with qs f)
