-- Writes into free blocks, and into those of one lane's open recording from an index on, leave all else that a store holds.
use Rattle.std.proofs.Common.{◌≡◌, ◌⊎◌, inl, inr, ⊎_elim, ℕ, ◌+◌, ◌/◌, ◌<◌, ◌≤◌, ◌==◌, Bool, true, false, List, [], ◌∷◌, ◌++◌, length, Option, Some, None, is_some, IsTrue, refl, sym, ◌∙◌, ap, subst, arith}
use Rattle.std.specs.Prelude.{slice_index}
use Rattle.std.proofs.lemmas.Bool.{eqb-true}
use Rattle.voice_units.specs.Spots.{Spot}
use Rattle.voice_units.specs.Blocks.{has_pair}
use Rattle.voice_units.specs.declared.pieces.Piece.{Piece}
use Rattle.voice_units.specs.declared.shapes.Shape.{Shape}
use Rattle.voice_outside.specs.Disk.{Told}
use Rattle.voice_blocks.specs.Holders.{Holders, holder_at, block_of}
use Rattle.voice_blocks.specs.Place.{block_place}
use Rattle.voice_blocks.specs.declared.owner.Owner.TheVariants.{File, Taking}
use Rattle.voice_blocks.specs.declared.owner.Holder.{Holder}
use Rattle.voice_model.specs.Samples.{Tagged}
use Rattle.voice_model.specs.State.{State, Durable, Effect}
use Rattle.voice_model.specs.Changes.{changed, taking_of}
use Rattle.voice_model.specs.Replay.{Placed, Rebuilt, after_effect, acted, brings, has_address, new_places, used_pairs}
use Rattle.voice_model.specs.Valid.{Every}
use Rattle.voice_model.specs.declared.changes.Change.{Change}
use Rattle.voice_model.specs.declared.changes.Change.TheVariants as kinds
use Rattle.voice_model.proofs.KeptByChanges.{every-append, every-filter}
use Rattle.checkpoint.specs.Blocks.{IsHeld as IsHeldAt}
use Rattle.recovery.specs.declared.parts.Parts.{Parts}
use Rattle.voice_blocks.proofs.Apart.{either_way}
use Rattle.recording_writer.specs.Wrote.{WroteAt}
use Rattle.recording_adds.specs.Adds.{HasWhole, WroteOwn}
use Rattle.running_tables.specs.Running.{Runs}
use Rattle.next_changes.specs.Next.{IsNext, pledges}
use Rattle.next_changes.specs.declared.NextChange.{NextChange}
use Rattle.next_changes.specs.declared.NextChange.TheVariants.{Rope, Other}
use Rattle.next_changes.proofs.Given.{brings_rope, given, plain}
use Rattle.crash_laws.specs.Foundations.{Foundations}
use Rattle.crash_laws.specs.Standing.{IsHeld, IsLater}
use Rattle.crash_laws.specs.Calls.{SparesWithin}
use Rattle.crash_laws.proofs.Writing.{writes_carry}
use Rattle.voice_store.specs.declared.inside.Inside.{Inside}
use Rattle.voice_store.specs.Filled.{IsFilled, HaveBytes}
use Rattle.voice_store.specs.Stood.{tapes_of, last_of, IsSure, IsUnsure, Stood}
use Rattle.voice_store.proofs.Entries.{acks_later}
use Rattle.voice_store.proofs.Played.{playing_as_honest}
use Rattle.voice_store.proofs.Pushed.{as_honest}
use Rattle.voice_store.proofs.Refused.{wrong}
use Rattle.voice_store.proofs.Settled.{none_some, shape_of}
use Rattle.crash_laws.proofs.Spared.{outside_of, spares_within}

-- ---- places and their addresses

-- the address of a place is held by a block of a voice file
pub record IsOfFile (holders : Holders) (a : ℕ) : Type 0 where
  pub file : ℕ
  pub index : ℕ
  pub held : holder_at holders a ≡ Some (block_of (File file) index)

placed_file : (holders : Holders) (places : List Placed) (a : ℕ) → Every (IsHeldAt holders) places → has_address places a ≡ true → IsOfFile holders a
placed_file holders [] a h e = absurd (wrong e)
placed_file holders (p ∷ places) a h e =
    either_way (p.address == a) (has_address places a)
    (λ k. record { file = p.pair.file; index = p.pair.index; held = ap (holder_at holders) (sym (eqb-true p.address a k)) ∙ h.0 })
    (λ k. placed_file holders places a h.1 k) e

-- only a rope takes addresses
no_places : (c : Change) → brings_rope c ≡ false → new_places c ≡ []
no_places (kinds.Recorded id len addresses) none = cc
no_places (kinds.Wide id len addresses) none = cc
no_places _ none = refl

-- the addresses of a change that is ready are given out already
next_held : (held : List (List Piece)) (takings : List ℕ) (parts : Parts) (b : Rebuilt) (next : NextChange) (c : Change) → IsNext held takings parts b next c → Every (IsHeldAt parts.blocks.holders) (new_places c)
next_held held takings parts b (Rope rope) c h = h.places
next_held held takings parts b (Other other) c h =
    subst (λ ps. Every (IsHeldAt parts.blocks.holders) ps) (sym (no_places c (plain parts.interests.spare b.kept other.act c h.ready.does).no_rope)) tt

module _ (holders : Holders) (b : Rebuilt) (places : List Placed) (was : Every (IsHeldAt holders) b.places) (new : Every (IsHeldAt holders) places) where
  -- what an effect leaves of them stays held
  effect_held : (o : Option (Effect Spot)) → is_some o ≡ true → Every (IsHeldAt holders) (after_effect b places o).places
  effect_held None kind = absurd (wrong kind)
  effect_held (Some effect) kind =
      every-filter (IsHeldAt holders) (λ (place : Placed). has_pair (used_pairs (changed b.form b.kept effect)) place.pair) (b.places ++ places) (every-append (IsHeldAt holders) b.places places was new)

-- after a change the places are held that were, or were the change's own
acted_held : (holders : Holders) (b : Rebuilt) (c : Change) → is_some (brings c) ≡ true → Every (IsHeldAt holders) b.places → Every (IsHeldAt holders) (new_places c) → Every (IsHeldAt holders) (acted b c).places
acted_held holders b (kinds.Recorded id len addresses) kind was new = effect_held holders b (new_places (kinds.Recorded id len addresses)) was new (brings (kinds.Recorded id len addresses)) kind
acted_held holders b (kinds.Wide id len addresses) kind was new = effect_held holders b (new_places (kinds.Wide id len addresses)) was new (brings (kinds.Wide id len addresses)) kind
acted_held holders b (kinds.Edited id pieces) kind was new = effect_held holders b [] was tt (brings (kinds.Edited id pieces)) kind
acted_held holders b (kinds.Retained class key id note) kind was new = effect_held holders b [] was tt (brings (kinds.Retained class key id note)) kind
acted_held holders b (kinds.Forgotten class key) kind was new = effect_held holders b [] was tt (brings (kinds.Forgotten class key)) kind
acted_held holders b (kinds.Census keys) kind was new = effect_held holders b [] was tt (brings (kinds.Census keys)) kind
acted_held holders b (kinds.Swept ids) kind was new = effect_held holders b [] was tt (brings (kinds.Swept ids)) kind
acted_held holders b (kinds.Advanced moment) kind was new = effect_held holders b [] was tt (brings (kinds.Advanced moment)) kind
acted_held holders b (kinds.Base now next) kind was new = cc
acted_held holders b (kinds.Base2 now next) kind was new = cc
acted_held holders b (kinds.File file pairs) kind was new = cc
acted_held holders b (kinds.File2 file pairs) kind was new = cc
acted_held holders b (kinds.Rope id idle pieces) kind was new = cc
acted_held holders b (kinds.Rope2 id idle last pieces) kind was new = cc

-- ---- what is written there

not_taking : (lane i file index : ℕ) → Some (block_of (Taking lane) i) ≡ Some (block_of (File file) index) → ⊥
not_taking lane i file index e =
    let one : block_of (Taking lane) i ≡ block_of (File file) index = cc in
    let owner : Taking lane ≡ File file = ap (λ (h : Holder). h.owner) one in
    cc

-- blocks of open recordings that are the same are of one lane, and have one index
same_taking : (lane i l index : ℕ) → Some (block_of (Taking lane) i) ≡ Some (block_of (Taking l) index) → (lane ≡ l) × (i ≡ index)
same_taking lane i l index e =
    let one : block_of (Taking lane) i ≡ block_of (Taking l) index = cc in
    let owner : Taking lane ≡ Taking l = ap (λ (h : Holder). h.owner) one in
    let same : lane ≡ l = cc in
    (same, ap (λ (h : Holder). h.index) one)

module _ (shape : Shape) (holders : Holders) (lane from : ℕ) (old new : Told) (wrote : WroteOwn shape holders lane from old new) where
  -- nothing is written at the address of a block of a voice file
  off_files : (a file index k : ℕ) → holder_at holders a ≡ Some (block_of (File file) index) → k < length wrote.addresses → ¬ (slice_index wrote.addresses k ≡ a)
  off_files a file index k held less same =
      let here : holder_at holders (slice_index wrote.addresses k) ≡ Some (block_of (File file) index) = ap (holder_at holders) same ∙ held in
      ⊎_elim (λ none. none_some (block_of (File file) index) (sym none ∙ here)) (λ own. not_taking lane own.0 file index (sym own.2 ∙ here)) (wrote.own k less)

  -- where such blocks alone have places, the places are spared
  pub own_spared : (b : Rebuilt) → shape ≡ b.shape → length holders ≡ b.shape.blocks → Every (IsHeldAt holders) b.places → SparesWithin shape b old new
  own_spared b in_shape size placed =
      subst (λ (x : Shape). SparesWithin x b old new) (sym in_shape)
      (spares_within b wrote.addresses
      (λ k less. let below = wrote.below k less in omega (arith, below, size))
      (λ k less. free_of k less (has_address b.places (slice_index wrote.addresses k)) refl)
      old new (subst (λ (x : Shape). WroteAt x wrote.addresses old new) in_shape wrote.wrote))
    where
      free_of : (k : ℕ) → k < length wrote.addresses → (t : Bool) → has_address b.places (slice_index wrote.addresses k) ≡ t → has_address b.places (slice_index wrote.addresses k) ≡ false
      free_of k less true e = let at = placed_file holders b.places (slice_index wrote.addresses k) placed e in absurd (off_files (slice_index wrote.addresses k) at.file at.index k at.held less refl)
      free_of k less false e = e

  -- blocks of voice files keep their bytes
  pub own_filled : (fill : Spot → Tagged) → IsFilled fill shape old.bytes holders → IsFilled fill shape new.bytes holders
  own_filled fill was = record {
    each = λ a f index k held less.
        wrote.wrote.bytes.outside (block_place shape a + k) (outside_of shape wrote.addresses a (block_place shape a + k) (λ n low same. off_files a f index n held low same) (omega arith) (omega (arith, less)))
        ∙ was.each a f index k held less;
  }

  -- so do the whole blocks of open recordings, where those of this lane are below the index
  pub own_whole : (l : ℕ) (bytes : List ℕ) → (l ≡ lane → length bytes / shape.block ≤ from) → HasWhole shape old.bytes holders l bytes → HasWhole shape new.bytes holders l bytes
  own_whole l bytes most was a index k held less within =
      wrote.wrote.bytes.outside (block_place shape a + k) (outside_of shape wrote.addresses a (block_place shape a + k) (λ n low same. apart n low same) (omega arith) (omega (arith, within)))
      ∙ was a index k held less within
    where
      apart : (n : ℕ) → n < length wrote.addresses → slice_index wrote.addresses n ≡ a → ⊥
      apart n low same =
          let here : holder_at holders (slice_index wrote.addresses n) ≡ Some (block_of (Taking l) index) = ap (holder_at holders) same ∙ held in
          ⊎_elim
          (λ none. none_some (block_of (Taking l) index) (sym none ∙ here))
          (λ own.
          let one = same_taking lane own.0 l index (sym own.2 ∙ here) in
          let limit = most (sym one.0) in
          let low_index = own.1 in
          let is = one.1 in
          absurd (omega (arith, less, limit, low_index, is)))
          (wrote.own n low)

  -- all blocks keep their bytes
  pub own_has : (fill : Spot → Tagged) (last : State) → length (taking_of last lane) / shape.block ≤ from → HaveBytes fill shape old.bytes holders last → HaveBytes fill shape new.bytes holders last
  own_has fill last most was = record {
    filled = own_filled fill was.filled;
    whole = λ l. own_whole l (taking_of last l) (λ same. subst (λ (m : ℕ). length (taking_of last m) / shape.block ≤ from) (sym same) most) (was.whole l);
  }

-- ---- a store whose disk went on so

module _ (first : State) (t0 : ℕ) (old new : Told) (s : Inside) (stood : Stood first t0 old s) (lane from : ℕ) where
  abbrev last : State
  last = last_of first s

  abbrev shape : Shape
  shape = s.journal.shape

  abbrev holders : Holders
  holders = s.parts.blocks.holders

  abbrev standing : Type 0
  standing = (pledged : List (List Piece)) × Runs stood.held pledged stood.takings s.parts stood.b

  -- what was rebuilt is placed
  pub runs_now : standing
  runs_now = by stood.tables
    where
      by : IsSure stood.held stood.takings s stood.b stood.after last ⊎ IsUnsure stood.fill stood.held stood.takings s stood.b stood.after last → standing
      by (inl sure) = ([], sure.tables)
      by (inr unsure) = let gives = given stood.held stood.takings s.parts stood.b unsure.doubted.next unsure.change unsure.ready in (pledges unsure.doubted.next, gives.runs)

  in_shape : shape ≡ stood.b.shape
  in_shape = sym (shape_of first t0 old s stood)

  -- as many addresses as the disk has blocks
  sized : (b : Rebuilt) → shape ≡ b.shape → length holders ≡ b.shape.blocks
  sized b same = runs_now.1.size ∙ ap (λ (x : Shape). x.blocks) (sym in_shape) ∙ ap (λ (x : Shape). x.blocks) same

  -- once what is in doubt has landed its places are held by blocks of voice files too
  after_spared : WroteOwn shape holders lane from old new → SparesWithin shape stood.after old new
  after_spared wrote = by stood.tables
    where
      by : IsSure stood.held stood.takings s stood.b stood.after last ⊎ IsUnsure stood.fill stood.held stood.takings s stood.b stood.after last → SparesWithin shape stood.after old new
      by (inl sure) = subst (λ (x : Rebuilt). SparesWithin shape x old new) (sym sure.same) (own_spared shape holders lane from old new wrote stood.b in_shape (sized stood.b in_shape) runs_now.1.addresses)
      by (inr unsure) =
          let gives = given stood.held stood.takings s.parts stood.b unsure.doubted.next unsure.change unsure.ready in
          let same : shape ≡ stood.after.shape = sym (ap (λ (d : Durable Tagged). d.shape) unsure.lands.fills.kept ∙ unsure.lands.seated.shape) in
          own_spared shape holders lane from old new wrote stood.after same (sized stood.after same)
          (unsure.lands.places holders
          (acted_held holders stood.b unsure.change gives.kind gives.runs.addresses (next_held stood.held stood.takings s.parts stood.b unsure.doubted.next unsure.change unsure.ready)))

  -- the disk stands for the state still
  pub own_held : Foundations → IsTrue old.honest → IsLater old new → WroteOwn shape holders lane from old new → IsHeld first (tapes_of s) t0 s.journal new stood.b stood.after s.history.items
  own_held laws honest moments wrote =
      (writes_carry laws old new).spared first (tapes_of s) t0 s.journal stood.b stood.after s.history.items moments (stood.upright.held honest)
      (own_spared shape holders lane from old new wrote stood.b in_shape (sized stood.b in_shape) runs_now.1.addresses) (λ some. after_spared wrote)

  -- a store whose disk went on by such writes, with nothing new
  pub stood_own_went_on : Foundations → old.calls ≤ new.calls → new.size ≡ old.size → new.honest ≡ old.honest → (IsTrue old.honest → IsLater old new) → (IsTrue old.honest → WroteOwn shape holders lane from old new)
      → length (taking_of last lane) / shape.block ≤ from → Stood first t0 new s
  stood_own_went_on laws later size alike moments wrote most = record {
    fill = stood.fill;
    b = stood.b;
    after = stood.after;
    held = stood.held;
    takings = stood.takings;
    holding = stood.holding;
    upright = record {
      legal = as_honest first old new s alike stood.upright.legal;
      valid = stood.upright.valid;
      fills = stood.upright.fills;
      seated = stood.upright.seated;
      acks = acks_later t0 s.history.items old.calls new.calls stood.upright.acks later;
      held = λ is. let was = subst (λ (h : Bool). IsTrue h) alike is in own_held laws was (moments was) (wrote was);
      bytes = λ is. let was = subst (λ (h : Bool). IsTrue h) alike is in own_has shape holders lane from old new (wrote was) stood.fill last most (stood.upright.bytes was);
    };
    tables = stood.tables;
    playing = playing_as_honest stood.fill old.honest new.honest s.journal.shape.block s.parts.ropes s.lanes s.made s.recordings last alike stood.playing;
    size = let is = stood.size in omega (arith, is, size);
  }
