-- Which blocks the frames of a store hold.
use Rattle.std.proofs.Common.{◌≡◌, ◌⊎◌, inl, inr, ℕ, zero, suc, ◌+◌, ◌<◌, ◌≤◌, ◌==◌, Bool, true, false, ◌&&◌, ◌||◌, List, [], ◌∷◌, ◌++◌, Option, Some, None, IsTrue, refl, sym, ◌∙◌, ap, ap₂, subst, arith}
use Rattle.std.proofs.lemmas.Bool.{eqb-true}
use Rattle.voice_units.specs.declared.pieces.Piece.{Piece}
use Rattle.voice_units.specs.Blocks.{BlockPair, has_pair}
use Rattle.voice_outside.specs.Disk.{Told}
use Rattle.voice_model.specs.State.{State}
use Rattle.voice_model.specs.Replay.{used_pairs}
use Rattle.rope_table.specs.Table.{uses_by, uses_in, uses_at, pair_of, pairs_in, pieces_in}
use Rattle.voice_blocks.specs.Holders.{block_of}
use Rattle.voice_blocks.specs.declared.owner.Owner.TheVariants.{File}
use Rattle.running_tables.specs.Running.{held_in, IsGiven}
use Rattle.running_tables.proofs.Free.{rope_blocks}
use Rattle.running_tables.proofs.Passages.{used_by_state}
use Rattle.running_tables.proofs.Recounted.{used_once, once_used}
use Rattle.voice_blocks.proofs.Apart.{or_left, or_right, either_way}
use Rattle.playing.specs.declared.blocks.Block.{Block}
use Rattle.playing.specs.Frames.{resident_at, is_resident, uses_of}
use Rattle.playing.specs.Held.{held_by}
use Rattle.playing.specs.Moved.{IsReplaced, Left, MovesBlocks}
use Rattle.playing.proofs.Forgotten.{kept_at}
use Rattle.playing.proofs.Moved.{still_at}
use Rattle.lane_calls.proofs.Counting.{live_uses, uses_live}
use Rattle.lane_calls.proofs.HeldAgain.{passages_held}
use Rattle.lane_calls.proofs.LetGo.{has_both}
use Rattle.voice_store.specs.declared.inside.Inside.{Inside}
use Rattle.voice_store.specs.Stood.{Stood, last_of}
use Rattle.voice_store.specs.Residing.{has_use, KeepsUsed, KeepsFrames, MovesFrames, HoldsBlock}
use Rattle.voice_store.proofs.Turned.{stood_stands}
use Rattle.voice_store.proofs.Windowed.{on_disk}

-- ---- blocks that something has

no_or : (a b : Bool) → (a ≡ true → ⊥) → (b ≡ true → ⊥) → (a || b) ≡ false
no_or true b x y = absurd (x refl)
no_or false true x y = absurd (y refl)
no_or false false x y = refl

uses_last : (block : ℕ) (lists : List (List Piece)) (q : BlockPair) → uses_in block (lists ++ [] ∷ []) q ≡ uses_in block lists q
uses_last block [] q = refl
uses_last block (ps ∷ lists) q = ap (λ n. uses_by block ps q + n) (uses_last block lists q)

module _ (first : State) (t0 : ℕ) (disk : Told) (s : Inside) (stood : Stood first t0 disk s) (d : Block) where
  abbrev last : State
  last = last_of first s

  abbrev q : BlockPair
  q = pair_of d.file d.index

  abbrev uses : ℕ
  uses = uses_of s.parts.ropes d.file d.index

  -- where a state has the block
  had : has_use last d.file d.index ≡ (has_pair (used_pairs stood.b.kept) q || has_pair (pairs_in stood.b.shape.block (held_in last ++ [] ∷ [])) q)
  had = used_by_state stood.b (record last { doubt = None }) stood.fill stood.playing.shows.spots stood.upright.fills.kept q

  -- its uses are those of live ropes and of held passages
  counted : uses ≡ uses_in s.parts.ropes.block (pieces_in s.parts.ropes.ropes) q + uses_in stood.b.shape.block (held_in last ++ [] ∷ []) q
  counted =
      let shows = (stood_stands first t0 disk s stood).1.runs.kept in
      shows.uses q
      ∙ ap (λ n. uses_in s.parts.ropes.block (pieces_in s.parts.ropes.ropes) q + n)
      (ap (λ k. uses_in k (held_by s.lanes.queues) q) shows.block
      ∙ sym (passages_held stood.fill s.lanes s.made last stood.playing.shows stood.b.shape.block q)
      ∙ sym (uses_last stood.b.shape.block (held_in last) q))

  -- a block without uses is in no live rope and in no held passage
  pub freed : uses ≡ 0 → has_use last d.file d.index ≡ false
  freed none =
      let shows = (stood_stands first t0 disk s stood).1.runs.kept in
      had
      ∙ no_or (has_pair (used_pairs stood.b.kept) q) (has_pair (pairs_in stood.b.shape.block (held_in last ++ [] ∷ [])) q)
      (λ e. let some = live_uses (held_by s.lanes.queues) s.parts stood.b.kept shows q e in absurd (omega (arith, some, none, counted)))
      (λ e. let some = used_once stood.b.shape.block (held_in last ++ [] ∷ []) q e in absurd (omega (arith, some, none, counted)))

  -- and one with a use is in one of them
  pub in_use : 0 < uses → has_use last d.file d.index ≡ true
  in_use some = had ∙ by (uses_in s.parts.ropes.block (pieces_in s.parts.ropes.ropes) q) (uses_in stood.b.shape.block (held_in last ++ [] ∷ []) q) refl refl
    where
      by : (m n : ℕ) → uses_in s.parts.ropes.block (pieces_in s.parts.ropes.ropes) q ≡ m → uses_in stood.b.shape.block (held_in last ++ [] ∷ []) q ≡ n → (has_pair (used_pairs stood.b.kept) q || has_pair (pairs_in stood.b.shape.block (held_in last ++ [] ∷ [])) q) ≡ true
      by (suc m) n live held = or_left _ _ (uses_live (held_by s.lanes.queues) s.parts stood.b.kept (stood_stands first t0 disk s stood).1.runs.kept q (omega (arith, live)))
      by zero (suc n) live held = or_right _ _ (once_used stood.b.shape.block (held_in last ++ [] ∷ []) q (omega (arith, held)))
      by zero zero live held = absurd (omega (arith, some, counted, live, held))

-- ---- frames that forget the blocks that nothing has

came_of : (old new : Inside) → KeepsUsed old new → (f : ℕ) (d : Block) → resident_at new.lanes.frames.resident f ≡ Some d → resident_at old.lanes.frames.resident f ≡ Some d
came_of old new (inl same) f d at = ap (λ l. resident_at l f) (sym same) ∙ at
came_of old new (inr is) f d at = (kept_at (uses_of new.parts.ropes) old.lanes.frames.resident new.lanes.frames.resident f d is at).0

left_of : (first : State) (t0 : ℕ) (disk : Told) (old new : Inside) → Stood first t0 disk new → KeepsUsed old new → (f : ℕ) (d : Block) → resident_at old.lanes.frames.resident f ≡ Some d → (resident_at new.lanes.frames.resident f ≡ Some d) ⊎ (has_use (last_of first new) d.file d.index ≡ false)
left_of first t0 disk old new stood (inl same) f d at = inl (ap (λ l. resident_at l f) same ∙ at)
left_of first t0 disk old new stood (inr is) f d at = by (still_at (uses_of new.parts.ropes) old.lanes.frames.resident new.lanes.frames.resident f d is at)
  where
    by : (resident_at new.lanes.frames.resident f ≡ Some d) ⊎ (uses_of new.parts.ropes d.file d.index ≡ 0) → (resident_at new.lanes.frames.resident f ≡ Some d) ⊎ (has_use (last_of first new) d.file d.index ≡ false)
    by (inl there) = inl there
    by (inr none) = inr (freed first t0 disk new stood d none)

pub kept_frames : (first : State) (t0 : ℕ) (disk : Told) (s : State) (old new : Inside) → Stood first t0 disk new → KeepsUsed old new → KeepsFrames s (last_of first new) old.lanes.frames.resident new.lanes.frames.resident
kept_frames first t0 disk s old new stood keeps = record { came = came_of old new keeps; left = λ f d at. by f d (left_of first t0 disk old new stood keeps f d at) }
  where
    by : (f : ℕ) (d : Block) → (resident_at new.lanes.frames.resident f ≡ Some d) ⊎ (has_use (last_of first new) d.file d.index ≡ false) → (resident_at new.lanes.frames.resident f ≡ Some d) ⊎ ((has_use s d.file d.index ≡ false) ⊎ (has_use (last_of first new) d.file d.index ≡ false))
    by f d (inl there) = inl there
    by f d (inr none) = inr (inr none)

-- after a landing
pub kept_landed : (first : State) (t0 : ℕ) (t1 t2 : Told) (s : State) (old mid new : Inside) → Stood first t0 t1 mid → Stood first t0 t2 new → last_of first mid ≡ s → KeepsUsed old mid → KeepsUsed mid new
    → KeepsFrames s (last_of first new) old.lanes.frames.resident new.lanes.frames.resident
kept_landed first t0 t1 t2 s old mid new was stood is before after = record {
  came = λ f d at. came_of old mid before f d (came_of mid new after f d at);
  left = λ f d at. by f d (left_of first t0 t1 old mid was before f d at);
}
  where
    later : (f : ℕ) (d : Block) → (resident_at new.lanes.frames.resident f ≡ Some d) ⊎ (has_use (last_of first new) d.file d.index ≡ false) → (resident_at new.lanes.frames.resident f ≡ Some d) ⊎ ((has_use s d.file d.index ≡ false) ⊎ (has_use (last_of first new) d.file d.index ≡ false))
    later f d (inl there) = inl there
    later f d (inr none) = inr (inr none)

    by : (f : ℕ) (d : Block) → (resident_at mid.lanes.frames.resident f ≡ Some d) ⊎ (has_use (last_of first mid) d.file d.index ≡ false) → (resident_at new.lanes.frames.resident f ≡ Some d) ⊎ ((has_use s d.file d.index ≡ false) ⊎ (has_use (last_of first new) d.file d.index ≡ false))
    by f d (inl there) = later f d (left_of first t0 t2 mid new stood after f d there)
    by f d (inr none) = inr (inl (subst (λ (x : State). has_use x d.file d.index ≡ false) is none))

-- the history changed besides
pub keeps_noted : (old mid new : Inside) → KeepsUsed old mid → new ≡ record mid { history = new.history } → KeepsUsed old new
keeps_noted old mid new keeps rest = subst (KeepsUsed old) (sym rest) keeps

pub frames_reserved : (first : State) (t0 : ℕ) (disk : Told) (x : State) (s t new : Inside) → t ≡ record s { history = t.history } → Stood first t0 disk new → KeepsUsed t new → KeepsFrames x (last_of first new) s.lanes.frames.resident new.lanes.frames.resident
frames_reserved first t0 disk x s t new rest stood keeps =
    subst (λ (y : Inside). KeepsFrames x (last_of first new) y.lanes.frames.resident new.lanes.frames.resident) rest (kept_frames first t0 disk x t new stood keeps)

-- ---- frames that a window goes into

pub moved_frames : (first : State) (t0 : ℕ) (disk : Told) (old : List (Option Block)) (new : Inside) (block : ℕ) (w : List Piece) → Stood first t0 disk new → MovesBlocks (uses_of new.parts.ropes) block w old new.lanes.frames.resident → MovesFrames (last_of first new) old new.lanes.frames.resident
moved_frames first t0 disk old new block w stood moves f d at = by (moves.left f d at)
  where
    by : Left (uses_of new.parts.ropes) old new.lanes.frames.resident f d → (resident_at new.lanes.frames.resident f ≡ Some d) ⊎ (IsReplaced old new.lanes.frames.resident f ⊎ (has_use (last_of first new) d.file d.index ≡ false))
    by (inl there) = inl there
    by (inr (inl other)) = inr (inl other)
    by (inr (inr none)) = inr (inr (freed first t0 disk new stood d none))

-- ---- the bytes of a block that a frame holds

-- the frame of a block
holder_of : (resident : List (Option Block)) (file index : ℕ) → is_resident resident file index ≡ true → (f : ℕ) × (resident_at resident f ≡ Some (record { file = file; index = index }))
holder_of [] file index there = cc
holder_of (None ∷ resident) file index there = let later = holder_of resident file index there in (suc later.0, later.1)
holder_of (Some b ∷ resident) file index there = by (b.file == file) (b.index == index) refl refl (holder_of resident file index) there
  where
    by : (x y : Bool) → (b.file == file) ≡ x → (b.index == index) ≡ y → (is_resident resident file index ≡ true → (f : ℕ) × (resident_at resident f ≡ Some (record { file = file; index = index })))
        → ((b.file == file) && (b.index == index) || is_resident resident file index) ≡ true → (f : ℕ) × (resident_at (Some b ∷ resident) f ≡ Some (record { file = file; index = index }))
    by true true e g later h = (zero, ap₂ (λ i k. Some (record { file = i; index = k })) (eqb-true b.file file e) (eqb-true b.index index g))
    by true false e g later h = let found = later (sym (ap₂ (λ x y. x && y || is_resident resident file index) e g) ∙ h) in (suc found.0, found.1)
    by false y e g later h = let found = later (sym (ap (λ x. x && (b.index == index) || is_resident resident file index) e) ∙ h) in (suc found.0, found.1)

-- the address of a block that has a use
addressed : (first : State) (t0 : ℕ) (disk : Told) (s : Inside) (stood : Stood first t0 disk s) (d : Block) → 0 < uses_of s.parts.ropes d.file d.index → IsGiven s.parts.blocks.holders (block_of (File d.file) d.index)
addressed first t0 disk s stood d some =
    let standing = stood_stands first t0 disk s stood in
    let runs = standing.1.runs in
    either_way (has_pair (used_pairs stood.b.kept) (pair_of d.file d.index)) (has_pair (pairs_in stood.b.shape.block (held_in (last_of first s) ++ [] ∷ [])) (pair_of d.file d.index))
    (λ e. rope_blocks (held_by s.lanes.queues) standing.0 stood.takings s.parts stood.b runs (pair_of d.file d.index) e)
    (λ e. runs.given.passages (pair_of d.file d.index)
    (has_both stood.b.shape.block (held_by s.lanes.queues) standing.0 (pair_of d.file d.index)
    ∙ or_left _ _ (held_again first t0 disk s stood d e)))
    (sym (had first t0 disk s stood d) ∙ in_use first t0 disk s stood d some)
  where
    held_again : (first : State) (t0 : ℕ) (disk : Told) (s : Inside) (stood : Stood first t0 disk s) (d : Block) → has_pair (pairs_in stood.b.shape.block (held_in (last_of first s) ++ [] ∷ [])) (pair_of d.file d.index) ≡ true
        → has_pair (pairs_in stood.b.shape.block (held_by s.lanes.queues)) (pair_of d.file d.index) ≡ true
    held_again first t0 disk s stood d e =
        let q = pair_of d.file d.index in
        let block = stood.b.shape.block in
        let some = used_once block (held_in (last_of first s) ++ [] ∷ []) q e in
        let same = uses_last block (held_in (last_of first s)) q ∙ passages_held stood.fill s.lanes s.made (last_of first s) stood.playing.shows block q in
        once_used block (held_by s.lanes.queues) q (omega (arith, some, same))

-- a frame holds the bytes that the disk has at the block's address
pub held_block : (first : State) (t0 : ℕ) (disk : Told) (s : Inside) → Stood first t0 disk s → IsTrue disk.honest → (file index : ℕ) → is_resident s.lanes.frames.resident file index ≡ true → HoldsBlock s.journal.shape disk.bytes s.parts.blocks.holders s.lanes.frames file index
held_block first t0 disk s stood honest file index there =
    let at = holder_of s.lanes.frames.resident file index there in
    let given = addressed first t0 disk s stood (record { file = file; index = index }) (stood.playing.used at.0 (record { file = file; index = index }) at.1) in
    record {
      frame = at.0;
      address = given.0;
      held = at.1;
      given = given.1;
      bytes = stood.playing.bytes honest at.0 (record { file = file; index = index }) at.1
          ∙ sym (on_disk stood.fill s.journal.shape disk.bytes s.parts.blocks.holders (stood.upright.bytes honest).filled given.0 file index given.1);
    }

-- and a live rope or a held passage has it
pub held_in_use : (first : State) (t0 : ℕ) (disk : Told) (s : Inside) → Stood first t0 disk s → (file index : ℕ) → is_resident s.lanes.frames.resident file index ≡ true → has_use (last_of first s) file index ≡ true
held_in_use first t0 disk s stood file index there =
    let at = holder_of s.lanes.frames.resident file index there in
    in_use first t0 disk s stood (record { file = file; index = index }) (stood.playing.used at.0 (record { file = file; index = index }) at.1)
