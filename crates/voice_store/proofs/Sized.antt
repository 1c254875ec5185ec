-- What a recording of any bytes takes in the journal.
use Rattle.std.proofs.Common.{◌≡◌, ℕ, zero, suc, ◌+◌, ◌*◌, ◌≤◌, ◌==◌, Bool, true, false, cond, List, [], ◌∷◌, length, refl, sym, ◌∙◌, ap, arith}
use Rattle.voice_units.specs.declared.shapes.Shape.{Shape}
use Rattle.voice_units.specs.declared.pieces.Piece.{Piece}
use Rattle.voice_units.specs.Spots.{Spot, spots_from, pieces_of, samples_in}
use Rattle.voice_units.proofs.PiecesOfRopes.{length-spots_from}
use Rattle.voice_units.proofs.Counts.{one_piece}
use Rattle.voice_units.specs.Blocks.{blocks_for}
use Rattle.voice_model.specs.Samples.{Tagged, spot_of, recording, pieces_in}
use Rattle.voice_model.specs.State.{State, Durable, Effect}
use Rattle.voice_model.specs.Changes.{frame_size, base_size, changed, address_size, rope_size}
use Rattle.voice_model.specs.Replay.{durable_by}
use Rattle.voice_model.proofs.FitsOfCalls.{recorded_length, recorded_spots}
use Rattle.recovery.specs.Shown.{Shows}
use Rattle.edits.proofs.Seen.{places_length}
use Rattle.fillings.specs.Laws.{new_rope, blocks_size}
use Rattle.fillings.proofs.RecordedBlocks.{some_samples}
use Rattle.fillings.proofs.Sizes.{recorded_size}
use Rattle.voice_store.specs.declared.inside.Inside.{Inside}
use Rattle.voice_store.specs.Stood.{IsSeated, ShowsState}
use Rattle.voice_store.specs.Keeping.{recording_of}
use Rattle.voice_store.proofs.Kept.{base_shown}
use Rattle.voice_store.proofs.Taking.{below_next}

-- the samples of a recording are one piece, where there are any
one_run : (file from n : ℕ) → length (pieces_of (spots_from file from n)) ≡ cond (n == 0) 0 1
one_run file from zero = refl
one_run file from (suc n) = by (pieces_of (spots_from file from (suc n))) (places_length (spots_from file from (suc n)) ∙ length-spots_from file from (suc n)) (one_piece file from (suc n)) ∙ sym (ap (λ b. cond b 0 1) (some_samples n))
  where
    by : (ps : List Piece) → samples_in ps ≡ suc n → length ps ≤ 1 → length ps ≡ 1
    by [] some few = absurd (omega (arith, some))
    by (p ∷ ps) some few = omega (arith, few)

-- by tables that show the state
module _ (s : Inside) (last : State) (seated : IsSeated s.journal last) (shows : ShowsState s.parts last) (bytes : List ℕ) (len : ℕ) (many : length bytes ≡ len) where
  abbrev effect : Effect Tagged
  effect = recording_of last bytes

  block_is : last.kept.shape.block ≡ s.journal.shape.block
  block_is = ap (λ (x : Shape). x.block) seated.shape

  form_is : s.parts.form ≡ last.form
  form_is = shows.tables.in_form ∙ shows.fills.form

  -- the base of the tables is as long as that of the state
  pub base_sized : (size : ℕ) → ((held : List (List Piece)) (d : Durable Spot) (fill : Spot → Tagged) → Shows held s.parts d → ((x : Spot) → spot_of (fill x) ≡ x) → size ≡ base_size s.parts.form (durable_by fill d)) → size ≡ base_size last.form last.kept
  base_sized size told = base_shown shows.held s.parts shows.rebuilt shows.fill last form_is shows.tables.kept shows.fills size told

  -- its record takes so many bytes
  pub frame_sized : 22 + address_size s.parts.form * blocks_for s.journal.shape.block len ≡ frame_size last.form last.kept.shape.block effect
  frame_sized =
      let blocks : blocks_for s.journal.shape.block len ≡ blocks_for last.kept.shape.block (length (recording last.next bytes)) =
      ap (λ n. blocks_for n len) (sym block_is) ∙ ap (blocks_for last.kept.shape.block) (sym (recorded_length last.next 0 bytes ∙ many)) in
      ap (λ f. 22 + address_size f * blocks_for s.journal.shape.block len) form_is
      ∙ ap (λ n. 22 + address_size last.form * n) blocks
      ∙ spread (address_size last.form * blocks_for last.kept.shape.block (length (recording last.next bytes)))
    where
      spread : (x : ℕ) → 22 + x ≡ 5 + (17 + x)
      spread x = omega arith

  pieces_are : length (pieces_in (recording last.next bytes)) ≡ cond (len == 0) 0 1
  pieces_are =
      ap (λ ss. length (pieces_of ss)) (recorded_spots last.next 0 bytes) ∙ ap (λ n. length (pieces_of (spots_from last.next 0 n))) many ∙ one_run last.next 0 len

  grown : (form : ℕ) (none : Bool) (blocks : ℕ) → 24 + cond (form == 2) 1 0 + cond none 0 (34 + (4 + address_size form) * blocks) ≡ 24 + cond (form == 2) 1 0 + 16 * cond none 0 1 + cond none 0 (18 + (4 + address_size form) * blocks)
  grown form true blocks = omega arith
  grown form false blocks = omega arith

  -- and it adds so many to a base
  pub need_sized : (now n : ℕ) → now ≡ base_size last.form last.kept → n ≡ 24 + cond (s.parts.form == 2) 1 0 + cond (len == 0) 0 (34 + (4 + address_size s.parts.form) * blocks_for s.journal.shape.block len) → now + n ≡ base_size last.form (changed last.form last.kept effect)
  need_sized now n base is =
      let size = recorded_size last.form last.kept last.next bytes (below_next shows.fill shows.fills.spots shows.rebuilt last.kept shows.tables.placed shows.fills.kept) in
      let rope : rope_size last.form (new_rope last.kept last.next (recording last.next bytes)) ≡ 24 + cond (last.form == 2) 1 0 + 16 * cond (len == 0) 0 1 =
      ap (λ m. 24 + cond (last.form == 2) 1 0 + 16 * m) pieces_are in
      let blocks : blocks_size last.form last.kept.shape (length bytes) ≡ cond (len == 0) 0 (18 + (4 + address_size last.form) * blocks_for s.journal.shape.block len) =
      ap (λ m. blocks_size last.form last.kept.shape m) many ∙ ap (λ m. cond (len == 0) 0 (18 + (4 + address_size last.form) * blocks_for m len)) block_is in
      let more = is ∙ ap (λ f. 24 + cond (f == 2) 1 0 + cond (len == 0) 0 (34 + (4 + address_size f) * blocks_for s.journal.shape.block len)) form_is
      ∙ grown last.form (len == 0) (blocks_for s.journal.shape.block len) in
      sums _ _ _ _ _ _ _ base more rope blocks ∙ sym size
    where
      sums : (base n old rope r blocks k : ℕ) → base ≡ old → n ≡ r + k → rope ≡ r → blocks ≡ k → base + n ≡ old + rope + blocks
      sums base n old rope r blocks k e f g i = omega (arith, e, f, g, i)
