-- Tables whose map alone changes, while a change in doubt stays ready.
use Rattle.std.proofs.Common.{◌≡◌, ◌⊎◌, inl, inr, ℕ, ◌+◌, ◌-◌, ◌<◌, ◌≤◌, ◌^◌, true, List, [], refl, sym, ap, subst}
use Rattle.voice_units.specs.Spots.{spots_of}
use Rattle.voice_units.specs.Blocks.{BlockPair, has_pair, pairs_at}
use Rattle.voice_units.specs.declared.pieces.Piece.{Piece}
use Rattle.voice_outside.specs.Disk.{Told}
use Rattle.voice_blocks.specs.Holders.{block_of}
use Rattle.voice_blocks.specs.declared.owner.Owner.TheVariants.{File}
use Rattle.voice_model.specs.State.{State}
use Rattle.voice_model.specs.Replay.{Rebuilt, new_places}
use Rattle.voice_model.specs.declared.changes.Change.{Change}
use Rattle.voice_model.proofs.KeptByChanges.{every-imply}
use Rattle.rope_table.specs.Table.{Table, new_pairs, uses_at}
use Rattle.interest_table.specs.Table as rows
use Rattle.checkpoint.specs.Blocks.{IsHeld as IsHeldAt}
use Rattle.recovery.specs.declared.parts.Parts.{Parts}
use Rattle.running_tables.specs.Running.{Runs}
use Rattle.ready_changes.specs.Ready.{Does}
use Rattle.playing.specs.Frames.{AreUsed, uses_of}
use Rattle.next_ropes.specs.Addresses.{KeepsAddresses}
use Rattle.next_changes.specs.Next.{IsNext, pledges}
use Rattle.next_changes.specs.declared.NextChange.{NextChange}
use Rattle.next_changes.specs.declared.NextChange.TheVariants.{Rope, Other}
use Rattle.next_changes.proofs.Given.{given}
use Rattle.voice_store.specs.declared.inside.Inside.{Inside}
use Rattle.voice_store.specs.Stood.{last_of, IsSure, IsUnsure, Stood}
use Rattle.voice_store.proofs.Filled.{still_has, stays_same, takes_same}

-- ---- a change that is ready, as open recordings take addresses

-- it stays ready where what has an address keeps it, and the tables but for the map are the same
pub grown_ready : (held : List (List Piece)) (takings more : List ℕ) (old new : Parts) (b : Rebuilt) (next : NextChange) (c : Change) → IsNext held takings old b next c → Runs held (pledges next) more new b → KeepsAddresses new.blocks.holders old.blocks.holders
    → new.ropes ≡ old.ropes → new.interests ≡ old.interests → IsNext held more new b next c
grown_ready held takings more old new b (Rope rope) c h runs keeps ropes interests = record {
  runs = runs;
  places = every-imply (IsHeldAt old.blocks.holders) (IsHeldAt new.blocks.holders) (λ p e. keeps p.address (block_of (File p.pair.file) p.pair.index) e) (new_places c) h.places;
  legal = h.legal;
  kind = h.kind;
  grammar = h.grammar;
  change = h.change;
  number = h.number;
  pieces = h.pieces;
  payload = h.payload;
  room = subst (λ (t : Table). 1 ≤ t.spare_ropes) (sym ropes) h.room;
  pairs = subst (λ (t : Table). new_pairs t rope.pieces ≤ t.spare_pairs) (sym ropes) h.pairs;
  fits = subst (λ (t : Table). (pair : BlockPair) → has_pair (pairs_at t.block (spots_of rope.pieces)) pair ≡ true → uses_at t pair + 1 < 2 ^ 32) (sym ropes) h.fits;
}
grown_ready held takings more old new b (Other other) c h runs keeps ropes interests =
    record { runs = runs; legal = h.legal; kind = h.kind; ready = record { does = subst (λ (t : rows.Table). Does t.spare b.kept other.act c) (sym interests) h.ready.does; payload = h.ready.payload; grammar = h.ready.grammar } }

-- ---- the same recordings, at the same addresses

module _ (first : State) (t0 : ℕ) (disk : Told) (s : Inside) (stood : Stood first t0 disk s) (parts : Parts) (rest : parts ≡ record s.parts { blocks = parts.blocks }) where
  abbrev last : State
  last = last_of first s

  pub same_ropes : parts.ropes ≡ s.parts.ropes
  same_ropes = ap (λ (p : Parts). p.ropes) rest

  pub same_interests : parts.interests ≡ s.parts.interests
  same_interests = ap (λ (p : Parts). p.interests) rest

  pub used_still : AreUsed (uses_of s.parts.ropes) s.lanes.frames → AreUsed (uses_of parts.ropes) s.lanes.frames
  used_still was = subst (λ (t : Table). AreUsed (uses_of t) s.lanes.frames) (sym same_ropes) was

  -- a store whose map has room for other blocks, or had them
  pub stood_remapped : ((held pledged : List (List Piece)) (takings : List ℕ) (b : Rebuilt) → Runs held pledged takings s.parts b → Runs held pledged takings parts b) → KeepsAddresses s.parts.blocks.holders parts.blocks.holders → KeepsAddresses parts.blocks.holders s.parts.blocks.holders
      → Stood first t0 disk (record s { parts = parts })
  stood_remapped runs none stays = record {
    fill = stood.fill;
    b = stood.b;
    after = stood.after;
    held = stood.held;
    takings = stood.takings;
    holding = stood.holding;
    upright = record {
      legal = stood.upright.legal;
      valid = stood.upright.valid;
      fills = stood.upright.fills;
      seated = stood.upright.seated;
      acks = stood.upright.acks;
      held = stood.upright.held;
      bytes = λ h. still_has stood.fill s.journal.shape disk.bytes disk.bytes s.parts.blocks.holders parts.blocks.holders last last (takes_same last last refl) none (stays_same s.journal.shape disk.bytes disk.bytes refl) (stood.upright.bytes h);
    };
    tables = by stood.tables;
    playing = record { shows = stood.playing.shows; used = used_still stood.playing.used; bytes = stood.playing.bytes; below = stood.playing.below; recorded = stood.playing.recorded };
    size = stood.size;
  }
    where
      by : IsSure stood.held stood.takings s stood.b stood.after last ⊎ IsUnsure stood.fill stood.held stood.takings s stood.b stood.after last
          → IsSure stood.held stood.takings (record s { parts = parts }) stood.b stood.after last ⊎ IsUnsure stood.fill stood.held stood.takings (record s { parts = parts }) stood.b stood.after last
      by (inl sure) = inl (record { sure = sure.sure; in_journal = sure.in_journal; in_state = sure.in_state; tables = runs stood.held [] stood.takings stood.b sure.tables; same = sure.same })
      by (inr unsure) =
          let next = unsure.doubted.next in
          let gives = given stood.held stood.takings s.parts stood.b next unsure.change unsure.ready in
          inr (record {
            doubted = unsure.doubted;
            unsure = unsure.unsure;
            pending = unsure.pending;
            in_state = unsure.in_state;
            doubt = unsure.doubt;
            in_journal = unsure.in_journal;
            change = unsure.change;
            ready = grown_ready stood.held stood.takings stood.takings s.parts parts stood.b next unsure.change unsure.ready (runs stood.held (pledges next) stood.takings stood.b gives.runs) stays same_ropes same_interests;
            addresses = unsure.addresses;
            spelled = unsure.spelled;
            brings_it = unsure.brings_it;
            lands = unsure.lands;
          })
