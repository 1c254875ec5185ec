-- The tables after a lane's open recording took more blocks.
use Rattle.std.proofs.Common.{◌≡◌, ℕ, zero, suc, ◌+◌, ◌/◌, ◌<◌, List, [], ◌∷◌, length, refl, sym, ◌∙◌, ap, subst, arith}
use Rattle.voice_units.specs.declared.pieces.Piece.{Piece}
use Rattle.voice_units.specs.declared.shapes.Shape.{Shape}
use Rattle.voice_units.specs.Blocks.{blocks_for}
use Rattle.voice_model.specs.Replay.{Rebuilt}
use Rattle.voice_outside.specs.Disk.{Told}
use Rattle.voice_blocks.specs.Holders.{block_of}
use Rattle.voice_blocks.specs.declared.owner.Owner.TheVariants.{Taking}
use Rattle.recovery.specs.declared.parts.Parts.{Parts}
use Rattle.recording_writer.specs.Wrote.{WroteAt, AreBelow}
use Rattle.running_tables.specs.Running.{Runs, IsGiven, taken}
use Rattle.running_tables.specs.Laws.{HasGrown}
use Rattle.next_ropes.specs.Addresses.{KeepsAddresses}
use Rattle.open_recordings.specs.Blocks.{AreAddresses, HandsOut}
use Rattle.open_recordings.proofs.Listed.{given_listed}
use Rattle.recording_adds.specs.Adds.{HoldsBlocks, WroteOwn, blocks_more, whole_more}
use Rattle.recording_adds.proofs.Listed.{are_below, were_open}
use Rattle.recording_adds.proofs.Numbers.{blocks_rise, whole_rises, whole_needed, some_block}

-- a lane's number, grown by n
abbrev pub grown_by : ℕ → ℕ → List ℕ → List ℕ
grown_by n zero [] = n ∷ []
grown_by n zero (t ∷ rest) = (t + n) ∷ rest
grown_by n (suc lane) [] = 0 ∷ grown_by n lane []
grown_by n (suc lane) (t ∷ rest) = t ∷ grown_by n lane rest

grown_here : (n lane : ℕ) (takings : List ℕ) → taken (grown_by n lane takings) lane ≡ taken takings lane + n
grown_here n zero [] = omega arith
grown_here n zero (t ∷ rest) = refl
grown_here n (suc lane) [] = grown_here n lane []
grown_here n (suc lane) (t ∷ rest) = grown_here n lane rest

grown_elsewhere : (n lane : ℕ) (takings : List ℕ) (other : ℕ) → ¬ (other ≡ lane) → taken (grown_by n lane takings) other ≡ taken takings other
grown_elsewhere n zero [] zero apart = absurd (apart refl)
grown_elsewhere n zero [] (suc other) apart = refl
grown_elsewhere n zero (t ∷ rest) zero apart = absurd (apart refl)
grown_elsewhere n zero (t ∷ rest) (suc other) apart = refl
grown_elsewhere n (suc lane) [] zero apart = refl
grown_elsewhere n (suc lane) [] (suc other) apart = grown_elsewhere n lane [] other (λ e. apart (ap suc e))
grown_elsewhere n (suc lane) (t ∷ rest) zero apart = refl
grown_elsewhere n (suc lane) (t ∷ rest) (suc other) apart = grown_elsewhere n lane rest other (λ e. apart (ap suc e))

pub has_grown : (n lane : ℕ) (takings : List ℕ) → HasGrown lane n takings (grown_by n lane takings)
has_grown n lane takings = record { here = grown_here n lane takings; elsewhere = grown_elsewhere n lane takings }

-- the tables before and after the recording took the blocks of n bytes more
pub record HasMore (shape : Shape) (lane total n : ℕ) (old new : Parts) : Type 0 where
  pub held : List (List Piece)
  pub pledged : List (List Piece)
  pub takings : List ℕ
  pub more : List ℕ
  pub what : Rebuilt
  pub before : Runs held pledged takings old what
  pub after : Runs held pledged more new what
  pub in_shape : what.shape ≡ shape
  pub had : taken takings lane ≡ blocks_for shape.block total
  pub has : taken more lane ≡ blocks_for shape.block (total + n)
  pub hands : HandsOut lane old.blocks.holders new.blocks.holders
  pub stays : KeepsAddresses new.blocks.holders old.blocks.holders

pub took_more : (shape : Shape) (lane total n extra : ℕ) (old new : Parts) → HoldsBlocks shape lane total old → extra ≡ blocks_more shape.block total n
    → ((held pledged : List (List Piece)) (takings more : List ℕ) (b : Rebuilt) → Runs held pledged takings old b → HasGrown lane extra takings more → Runs held pledged more new b)
    → HandsOut lane old.blocks.holders new.blocks.holders → KeepsAddresses new.blocks.holders old.blocks.holders → HasMore shape lane total n old new
took_more shape lane total n extra old new h is grown hands stays =
    let grows = has_grown extra lane h.takings in
    record {
      held = h.held;
      pledged = h.pledged;
      takings = h.takings;
      more = grown_by extra lane h.takings;
      what = h.what;
      before = h.runs;
      after = grown h.held h.pledged h.takings (grown_by extra lane h.takings) h.what h.runs grows;
      in_shape = h.in_shape;
      had = h.blocks;
      has =
          let here = grows.here in
          let blocks = h.blocks in
          let rise = blocks_rise shape.block total n (some_block shape) in
          omega (arith, here, blocks, rise, is);
      hands = hands;
      stays = stays;
    }

module _ (shape : Shape) (lane total n : ℕ) (old new : Parts) (h : HasMore shape lane total n old new) where
  -- each block that was whole had an address
  pub whole_had : (index : ℕ) → index < total / shape.block → IsGiven old.blocks.holders (block_of (Taking lane) index)
  whole_had index low =
      let needed = whole_needed shape.block total (some_block shape) in
      let had = h.had in
      h.before.given.recordings lane index (omega (arith, low, needed, had))

  -- those that become whole have addresses
  pub whole_listed : (addresses : List ℕ) × AreAddresses new.blocks.holders (Taking lane) (total / shape.block) (whole_more shape.block total n) addresses
  whole_listed = given_listed new.blocks.holders (Taking lane) (total / shape.block) (whole_more shape.block total n) (λ k low high.
      let needed = whole_needed shape.block (total + n) (some_block shape) in
      let rise = whole_rises shape.block total n (some_block shape) in
      let has = h.has in
      h.after.given.recordings lane k (omega (arith, high, needed, rise, has)))

  pub all_blocks : length new.blocks.holders ≡ shape.blocks
  all_blocks = h.after.size ∙ ap (λ (s : Shape). s.blocks) h.in_shape

  -- what is written at these lies in blocks that were free or were not whole
  pub wrote_own : (from to : Told) → ((addresses : List ℕ) → AreAddresses new.blocks.holders (Taking lane) (total / shape.block) (whole_more shape.block total n) addresses → WroteAt shape addresses from to)
      → WroteOwn shape old.blocks.holders lane (total / shape.block) from to
  wrote_own from to wrote = record {
    addresses = whole_listed.0;
    own = were_open lane (total / shape.block) (whole_more shape.block total n) old.blocks.holders new.blocks.holders whole_listed.0 whole_listed.1 h.stays;
    below = subst (λ m. AreBelow m whole_listed.0) (h.after.size ∙ sym h.before.size) (are_below new.blocks.holders (Taking lane) (total / shape.block) (whole_more shape.block total n) whole_listed.0 whole_listed.1);
    wrote = wrote whole_listed.0 whole_listed.1;
  }
