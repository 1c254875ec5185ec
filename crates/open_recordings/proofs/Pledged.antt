-- The blocks of an open recording become those of its file.
use Rattle.std.proofs.Common.{◌≡◌, ℕ, zero, suc, ◌+◌, ◌≤◌, ◌<◌, ◌==◌, ◌^◌, Bool, true, false, cond, List, [], ◌∷◌, Some, refl, sym, ◌∙◌, ap, subst, arith}
use Rattle.std.proofs.lemmas.Bool.{eq-eqb}
use Rattle.voice_units.specs.declared.pieces.Piece.{Piece}
use Rattle.voice_units.specs.Spots.{spots_of, spots_from, samples_in, pieces_of}
use Rattle.voice_units.specs.Blocks.{BlockPair, has_pair, pairs_at}
use Rattle.voice_model.specs.Replay.{Rebuilt, new_places, placed_from}
use Rattle.voice_model.specs.Valid.{Every}
use Rattle.voice_model.specs.declared.changes.Change.{Change}
use Rattle.voice_model.specs.declared.changes.Change.TheVariants as changes
use Rattle.voice_blocks.specs.Holders.{Holders, EachBecomes, holder_at, block_of, renamed}
use Rattle.voice_blocks.specs.declared.owner.Owner.TheVariants.{File, Taking}
use Rattle.rope_table.specs.Table.{Table, uses_at, new_pairs}
use Rattle.checkpoint.specs.Blocks.{IsHeld}
use Rattle.recovery.specs.declared.parts.Parts.{Parts}
use Rattle.recovery.specs.Shown.{Shows}
use Rattle.running_tables.specs.Running.{taken}
use Rattle.running_tables.specs.Laws.{HasEnded, HasFirst}
use Rattle.running_tables.proofs.Ended.{ended}
use Rattle.running_tables.proofs.Taken.{none_yet, first_blocks}
use Rattle.next_ropes.specs.declared.NextRope.{NextRope}
use Rattle.next_ropes.specs.Ready.{IsReady, new_samples, next_change, recorded_change}
use Rattle.open_recordings.specs.Blocks.{AreAt}
use Rattle.open_recordings.specs.Ending.{IsEnding}

abbrev pub either : Bool → ℕ → ℕ → List ℕ → Change
either w id len addresses = cond w (changes.Wide id len addresses) (changes.Recorded id len addresses)

pub places_of : (w : Bool) (id len : ℕ) (addresses : List ℕ) → new_places (either w id len addresses) ≡ placed_from id 0 addresses
places_of true id len addresses = refl
places_of false id len addresses = refl

pub samples_of : (w : Bool) (id len : ℕ) (addresses : List ℕ) → new_samples (either w id len addresses) ≡ spots_from id 0 len
samples_of true id len addresses = refl
samples_of false id len addresses = refl

-- the change of a recording
pub change_of : (form : ℕ) (next : NextRope) → next.recorded ≡ true → next_change form next ≡ recorded_change form next.id (samples_in next.pieces) next.addresses.items
change_of form next recorded = ap (λ r. cond r (recorded_change form next.id (samples_in next.pieces) next.addresses.items) (changes.Edited next.id next.pieces)) recorded

-- the file holds what the recording held
now_held : (old new : Holders) (lane file index : ℕ) (addresses : List ℕ) → EachBecomes (renamed lane file) old new → AreAt old (Taking lane) index addresses → Every (IsHeld new) (placed_from file index addresses)
now_held old new lane file index [] becomes h = tt
now_held old new lane file index (a ∷ rest) becomes h = (
  becomes.each a ∙ ap (renamed lane file) h.0 ∙ ap (λ t. cond t (Some (block_of (File file) index)) (Some (block_of (Taking lane) index))) (eq-eqb lane lane refl),
  now_held old new lane file (index + 1) rest becomes h.1,
)

module _ (held : List (List Piece)) (takings : List ℕ) (lane : ℕ) (old : Parts) (b : Rebuilt) (next : NextRope) (c : Change) (h : IsEnding held takings lane old b next c) where
  is : c ≡ recorded_change b.form next.id (samples_in next.pieces) next.addresses.items
  is = h.change ∙ change_of b.form next h.recorded

  pub whole : next.pieces ≡ pieces_of (spots_from next.id 0 (samples_in next.pieces))
  whole = h.pieces ∙ ap (λ x. pieces_of (new_samples x)) is ∙ ap pieces_of (samples_of (b.form == 2) next.id (samples_in next.pieces) next.addresses.items)

  first : HasFirst b.shape.block next.id (taken takings lane) next.pieces
  first =
      let some = b.shape.conditions.some_block in
      subst (HasFirst b.shape.block next.id (taken takings lane)) (sym whole)
      (subst (λ n. HasFirst b.shape.block next.id n (pieces_of (spots_from next.id 0 (samples_in next.pieces)))) (sym h.blocks) (first_blocks b.shape.block next.id (samples_in next.pieces) (omega (arith, some))))

  -- the new file has no block yet
  pub fresh : (a index : ℕ) → ¬ (holder_at old.blocks.holders a ≡ Some (block_of (File next.id) index))
  fresh a index e = none_yet held takings old b h.runs a index (e ∙ ap (λ i. Some (block_of (File i) index)) h.number)

  pub pledged : (more : List ℕ) (new : Parts) → Shows held new b.kept → new.form ≡ old.form → new.ropes ≡ old.ropes → EachBecomes (renamed lane next.id) old.blocks.holders new.blocks.holders → HasEnded lane takings more → IsReady held more new b next c
  pledged more new shows form same becomes ends = record {
    runs = ended held [] takings more old new b lane next.id next.pieces h.runs shows form becomes fresh first ends;
    places = subst (Every (IsHeld new.blocks.holders)) (sym (ap new_places is ∙ places_of (b.form == 2) next.id (samples_in next.pieces) next.addresses.items))
        (now_held old.blocks.holders new.blocks.holders lane next.id 0 next.addresses.items becomes h.addresses.each);
    legal = h.legal;
    kind = h.kind;
    grammar = h.grammar;
    change = h.change;
    number = h.number;
    pieces = h.pieces;
    payload = h.payload;
    room = subst (λ (t : Table). 1 ≤ t.spare_ropes) (sym same) h.room;
    pairs = subst (λ (t : Table). new_pairs t next.pieces ≤ t.spare_pairs) (sym same) h.pairs;
    fits = subst (λ (t : Table). (pair : BlockPair) → has_pair (pairs_at t.block (spots_of next.pieces)) pair ≡ true → uses_at t pair + 1 < 2 ^ 32) (sym same) h.fits;
  }

-- ---- one recording fewer

-- what open recordings have taken, but that of a lane, which has ended
abbrev pub without_lane : List ℕ → ℕ → List ℕ
without_lane [] lane = []
without_lane (n ∷ takings) zero = 0 ∷ takings
without_lane (n ∷ takings) (suc lane) = n ∷ without_lane takings lane

none_here : (takings : List ℕ) (lane : ℕ) → taken (without_lane takings lane) lane ≡ 0
none_here [] lane = refl
none_here (n ∷ takings) zero = refl
none_here (n ∷ takings) (suc lane) = none_here takings lane

same_elsewhere : (takings : List ℕ) (lane other : ℕ) → ¬ (other ≡ lane) → taken (without_lane takings lane) other ≡ taken takings other
same_elsewhere [] lane other apart = refl
same_elsewhere (n ∷ takings) zero zero apart = absurd (apart refl)
same_elsewhere (n ∷ takings) zero (suc other) apart = refl
same_elsewhere (n ∷ takings) (suc lane) zero apart = refl
same_elsewhere (n ∷ takings) (suc lane) (suc other) apart = same_elsewhere takings lane other (λ e. apart (ap suc e))

pub lane_ended : (takings : List ℕ) (lane : ℕ) → HasEnded lane takings (without_lane takings lane)
lane_ended takings lane = record { here = none_here takings lane; elsewhere = same_elsewhere takings lane }
