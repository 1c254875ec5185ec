-- A call that changes what the lanes hold, and nothing that outlives a crash.
use Rattle.std.proofs.Common.{◌≡◌, ◌⊎◌, inl, inr, ℕ, ◌+◌, ◌<◌, ◌≤◌, ◌^◌, Bool, List, [], ◌∷◌, ◌++◌, length, Option, Some, None, IsTrue, is_some, refl, sym, ◌∙◌, ap, subst, arith}
use Rattle.voice_units.specs.declared.pieces.Piece.{Piece}
use Rattle.voice_units.specs.declared.shapes.Shape.{Shape}
use Rattle.voice_units.specs.Spots.{Spot}
use Rattle.voice_units.specs.Blocks.{BlockPair}
use Rattle.voice_outside.specs.Disk.{Told}
use Rattle.voice_journal.specs.Places.{JournalValue, landed as landed_seat}
use Rattle.voice_journal.specs.Readings.{extent}
use Rattle.voice_model.specs.Samples.{Tagged}
use Rattle.voice_model.specs.State.{State, LaneState, Pending}
use Rattle.voice_model.specs.Changes.{changed}
use Rattle.voice_model.specs.Step.{after_landing, landed, state_after}
use Rattle.voice_model.specs.Heard.{IsAnswerOn}
use Rattle.voice_model.specs.Replay.{Rebuilt}
use Rattle.voice_model.specs.Valid.{IsState}
use Rattle.voice_model.specs.declared.calls.Entry.{Entry}
use Rattle.voice_model.proofs.StatesKept.{state_kept}
use Rattle.rope_table.specs.Table.{uses_at, uses_in}
use Rattle.running_tables.specs.Running.{Runs, passages_of, takings_of}
use Rattle.running_tables.proofs.Recounted.{recounted}
use Rattle.playing.specs.Frames.{HoldsBytes}
use Rattle.playing.specs.Held.{held_by}
use Rattle.lane_calls.specs.Lanes.{Stands, ArePledged}
use Rattle.lane_calls.proofs.HeldAgain.{passages_held}
use Rattle.next_ropes.specs.Addresses.{KeepsAddresses}
use Rattle.next_changes.specs.Next.{pledges}
use Rattle.next_changes.proofs.Given.{given}
use Rattle.crash_laws.specs.Standing.{IsHeld, IsHonest}
use Rattle.crash_laws.specs.Calls.{KeepsDurable}
use Rattle.crash_laws.specs.Laws.{EntriesCount}
use Rattle.voice_store.specs.declared.inside.Inside.{Inside}
use Rattle.recording_calls.specs.Shown.{ShowsRecordings}
use Rattle.voice_store.specs.Filled.{HaveBytes}
use Rattle.voice_store.specs.Facts.{landing_at}
use Rattle.voice_store.specs.Playing.{bytes_by, PassagesBelow, KeepsTakings, MovesLanes}
use Rattle.voice_store.specs.Stood.{tapes_of, last_of, Fills, IsSeated, IsHolding, IsSure, IsUnsure, Plays, Stood}
use Rattle.voice_store.proofs.Filled.{still_has, stays_same}
use Rattle.voice_store.proofs.Pushed.{stood_pushed}
use Rattle.voice_store.proofs.Settled.{is_true}
use Rattle.voice_store.proofs.StillReady.{next_pledged, still_ready}

-- ---- states that differ by their lanes

landed_moved : (s : State) (lanes : List LaneState) (made : ℕ) → landed (record s { lanes = lanes; made = made }) ≡ record (landed s) { lanes = lanes; made = made }
landed_moved s lanes made = by s.doubt
  where
    by : (o : Option Pending) → after_landing (record (record s { lanes = lanes; made = made }) { doubt = None }) o ≡ record (after_landing (record s { doubt = None }) o) { lanes = lanes; made = made }
    by None = refl
    by (Some pending) = refl

-- what is the same but for the lanes, is the same where only these differ
abbrev pub SameButLanes : State → State → Type 0
SameButLanes old new = (lanes : List LaneState) × (made : ℕ) × (new ≡ record old { lanes = lanes; made = made })

pub landed_same : (old new : State) → MovesLanes old new → SameButLanes (landed old) (landed new)
landed_same old new moves = (new.lanes, new.made, ap landed moves ∙ landed_moved old new.lanes new.made)

pub fills_moved : (fill : Spot → Tagged) (b : Rebuilt) (old new : State) → SameButLanes old new → Fills fill b old → Fills fill b new
fills_moved fill b old new moves h = record {
  spots = h.spots;
  kept = h.kept ∙ sym (ap (λ (t : State). t.kept) moves.2);
  form = h.form ∙ sym (ap (λ (t : State). t.form) moves.2);
}

pub seated_moved : (j : JournalValue) (old new : State) → SameButLanes old new → IsSeated j old → IsSeated j new
seated_moved j old new moves h =
    let left = h.left in
    let same = ap (λ (t : State). t.left) moves.2 in
    record { shape = ap (λ (t : State). t.kept.shape) moves.2 ∙ h.shape; left = omega (arith, left, same); epoch = ap (λ (t : State). t.epoch) moves.2 ∙ h.epoch }

-- ---- the step

-- what such a call does to the store
pub record Turns (honest : Bool) (fill : Spot → Tagged) (b : Rebuilt) (s s' : Inside) (last now : State) : Type 0 where
  pub tapes : s'.tapes ≡ s.tapes
  pub journal : s'.journal ≡ s.journal
  pub doubt : s'.doubt ≡ s.doubt
  pub moves : MovesLanes last now
  pub stands : (pledged : List (List Piece)) (takings : List ℕ) → Stands fill pledged takings s.parts s.lanes s.made b last → ArePledged b pledged → Stands fill pledged takings s'.parts s'.lanes s'.made b now
  pub addresses : KeepsAddresses s.parts.blocks.holders s'.parts.blocks.holders
  pub spare_ropes : s'.parts.ropes.spare_ropes ≡ s.parts.ropes.spare_ropes
  pub spare_pairs : s.parts.ropes.spare_pairs ≤ s'.parts.ropes.spare_pairs
  pub uses : (q : BlockPair) → (uses_at s'.parts.ropes q + 1 < 2 ^ 32) ⊎ (uses_at s'.parts.ropes q ≤ uses_at s.parts.ropes q)
  pub interests : s'.parts.interests.spare ≡ s.parts.interests.spare
  pub bytes : IsTrue honest → HoldsBytes (bytes_by fill s.journal.shape.block) s.lanes.frames → HoldsBytes (bytes_by fill s.journal.shape.block) s'.lanes.frames
  pub below : PassagesBelow now.next now.lanes
  pub blocks : (block : ℕ) → takings_of block now.lanes ≡ takings_of block last.lanes
  pub takes : KeepsTakings last now
  pub recorded : ShowsRecordings s'.recordings now

module _ (first : State) (t0 : ℕ) (disk : Told) (s : Inside) (stood : Stood first t0 disk s) where
  abbrev last : State
  last = last_of first s

  -- what the tables show while this is pledged, they and the lanes stand for
  pub was_standing : (pledged : List (List Piece)) → Runs stood.held pledged stood.takings s.parts stood.b → Stands stood.fill pledged stood.takings s.parts s.lanes s.made stood.b last
  was_standing pledged runs = record {
    shows = stood.playing.shows;
    runs = recounted stood.held (held_by s.lanes.queues) pledged stood.takings s.parts stood.b
        (λ q. sym (passages_held stood.fill s.lanes s.made last stood.playing.shows stood.b.shape.block q) ∙ ap (λ l. uses_in stood.b.shape.block l q) (sym stood.holding.passages)) runs;
    kept = stood.upright.fills.kept;
    used = stood.playing.used;
  }

  -- they stand for the last state, with what a change in doubt pledges
  pub stood_stands : (pledged : List (List Piece)) × Stands stood.fill pledged stood.takings s.parts s.lanes s.made stood.b last × ArePledged stood.b pledged
  stood_stands = by stood.tables
    where
      by : IsSure stood.held stood.takings s stood.b stood.after last ⊎ IsUnsure stood.fill stood.held stood.takings s stood.b stood.after last → (pledged : List (List Piece)) × Stands stood.fill pledged stood.takings s.parts s.lanes s.made stood.b last × ArePledged stood.b pledged
      by (inl sure) = ([], was_standing [] sure.tables, λ q e. cc)
      by (inr unsure) = (
        pledges unsure.doubted.next,
        was_standing (pledges unsure.doubted.next) (given stood.held stood.takings s.parts stood.b unsure.doubted.next unsure.change unsure.ready).runs,
        next_pledged stood.held stood.takings s.parts stood.b unsure.doubted.next unsure.change unsure.ready,
      )

  module _ (s' : Inside) (e : Entry) (now : State) (valid : IsState now) (turns : Turns disk.honest stood.fill stood.b s s' last now) where
    abbrev block : ℕ
    block = s'.journal.shape.block

    abbrev held : List (List Piece)
    held = passages_of now.lanes

    abbrev standing : (pledged : List (List Piece)) × Stands stood.fill pledged stood.takings s.parts s.lanes s.made stood.b last × ArePledged stood.b pledged
    standing = stood_stands

    stands_now : Stands stood.fill standing.0 stood.takings s'.parts s'.lanes s'.made stood.b now
    stands_now = turns.stands standing.0 stood.takings standing.1 standing.2

    same_shape : now.shape ≡ last.shape
    same_shape = ap (λ (t : State). t.shape) turns.moves

    many : length now.lanes ≡ length last.lanes
    many = stands_now.shows.many ∙ sym stands_now.shows.shape ∙ ap (λ (x : Shape). x.lanes) same_shape ∙ stood.playing.shows.shape ∙ sym stood.playing.shows.many

    same_block : s'.journal.shape.block ≡ s.journal.shape.block
    same_block = ap (λ (j : JournalValue). j.shape.block) turns.journal

    holds : IsHolding held stood.takings block now.lanes
    holds = record {
      passages = refl;
      recordings = stood.holding.recordings ∙ ap (λ n. takings_of n last.lanes) (sym same_block) ∙ sym (turns.blocks block);
    }

    -- the tables run on
    runs_now : (pledged : List (List Piece)) → Runs stood.held pledged stood.takings s.parts stood.b → ArePledged stood.b pledged → Runs held pledged stood.takings s'.parts stood.b
    runs_now pledged runs are =
        let there = turns.stands pledged stood.takings (was_standing pledged runs) are in
        recounted (held_by s'.lanes.queues) held pledged stood.takings s'.parts stood.b (λ q. passages_held stood.fill s'.lanes s'.made now there.shows stood.b.shape.block q) there.runs

    plays_now : Plays stood.fill disk.honest s' now
    plays_now = record {
      shows = stands_now.shows;
      used = stands_now.used;
      bytes = λ h. subst (λ n. HoldsBytes (bytes_by stood.fill n) s'.lanes.frames) (sym same_block) (turns.bytes h (stood.playing.bytes h));
      below = turns.below;
      recorded = turns.recorded;
    }

    moved : SameButLanes last now
    moved = (now.lanes, now.made, turns.moves)

    tables_now : IsSure held stood.takings s' stood.b stood.after now ⊎ IsUnsure stood.fill held stood.takings s' stood.b stood.after now
    tables_now = by stood.tables
      where
        by : IsSure stood.held stood.takings s stood.b stood.after last ⊎ IsUnsure stood.fill stood.held stood.takings s stood.b stood.after last → IsSure held stood.takings s' stood.b stood.after now ⊎ IsUnsure stood.fill held stood.takings s' stood.b stood.after now
        by (inl sure) = inl (record {
          sure = turns.doubt ∙ sure.sure;
          in_journal = ap (λ (j : JournalValue). j.doubt) turns.journal ∙ sure.in_journal;
          in_state = ap (λ (t : State). t.doubt) turns.moves ∙ sure.in_state;
          tables = runs_now [] sure.tables (λ q e. cc);
          same = sure.same;
        })
        by (inr unsure) =
            let next = unsure.doubted.next in
            let runs = runs_now (pledges next) (given stood.held stood.takings s.parts stood.b next unsure.change unsure.ready).runs (next_pledged stood.held stood.takings s.parts stood.b next unsure.change unsure.ready) in
            let there : now.doubt ≡ Some unsure.pending = ap (λ (t : State). t.doubt) turns.moves ∙ unsure.in_state in
            inr (record {
              doubted = unsure.doubted;
              unsure = turns.doubt ∙ unsure.unsure;
              pending = unsure.pending;
              in_state = there;
              doubt = unsure.doubt;
              in_journal = ap (λ (j : JournalValue). j.doubt) turns.journal ∙ unsure.in_journal;
              change = unsure.change;
              ready = still_ready stood.held held stood.takings s.parts s'.parts stood.b next unsure.change unsure.ready runs turns.addresses turns.spare_ropes turns.spare_pairs turns.uses turns.interests;
              addresses = unsure.addresses;
              spelled = unsure.spelled;
              brings_it = record { spots = unsure.brings_it.spots; kept = unsure.brings_it.kept ∙ ap (λ (t : State). changed t.form t.kept unsure.pending.effect) (sym turns.moves) };
              lands = record {
                tables = unsure.lands.tables;
                places = unsure.lands.places;
                fills = fills_moved stood.fill stood.after (landed last) (landed now) (landed_same last now turns.moves) unsure.lands.fills;
                seated = subst (λ (j : JournalValue). IsSeated (record j { seat = landed_seat j.seat unsure.doubt }) (landed now)) (sym turns.journal)
                    (seated_moved (record s.journal { seat = landed_seat s.journal.seat unsure.doubt }) (landed last) (landed now) (landed_same last now turns.moves) unsure.lands.seated);
                valid = state_kept now (tapes_of s) (landing_at 0) valid tt (refl, refl, subst (λ (o : Option Pending). IsTrue (is_some o)) (sym there) is_true);
              };
            })

    pub stood_turned : s'.history.items ≡ s.history.items ++ e ∷ [] → e.ack ≡ disk.calls → IsAnswerOn disk.honest last (tapes_of s) e → state_after last (tapes_of s) e ≡ now
        → (IsTrue disk.honest → IsHonest disk) → EntriesCount disk → Stood first t0 disk s'
    stood_turned items ack answers after honest counts =
        let to : (P : State → Type 0) → P now → P (state_after last (tapes_of s) e) = λ P p. subst P (sym after) p in
        let up = stood.upright in
        let keeps : KeepsDurable last (state_after last (tapes_of s) e) = record {
          kept = ap (λ (t : State). t.kept) after ∙ ap (λ (t : State). t.kept) turns.moves;
          doubt = ap (λ (t : State). t.doubt) after ∙ ap (λ (t : State). t.doubt) turns.moves;
          form = ap (λ (t : State). t.form) after ∙ ap (λ (t : State). t.form) turns.moves;
          left = ap (λ (t : State). t.left) after ∙ ap (λ (t : State). t.left) turns.moves;
        } in
        stood_pushed first t0 disk disk s s' e turns.tapes items stood.fill stood.b stood.b stood.after stood.after held stood.takings up (omega arith) refl ack answers
        (to (λ t. IsState t) valid)
        (to (λ t. IsHolding held stood.takings block t.lanes) holds)
        (to (λ t. Fills stood.fill stood.b t) (fills_moved stood.fill stood.b last now moved up.fills))
        (to (λ t. IsSeated s'.journal t) (subst (λ (j : JournalValue). IsSeated j now) (sym turns.journal) (seated_moved s.journal last now moved up.seated)))
        (λ h. subst (λ (j : JournalValue). IsHeld first (tapes_of s) t0 j disk stood.b stood.after (s.history.items ++ e ∷ [])) (sym turns.journal)
        (counts.noted first (tapes_of s) t0 s.journal stood.b stood.after s.history.items e (honest h) (up.held h) ack keeps))
        (λ h. to (λ t. HaveBytes stood.fill s'.journal.shape disk.bytes s'.parts.blocks.holders t) (subst (λ (j : JournalValue). HaveBytes stood.fill j.shape disk.bytes s'.parts.blocks.holders now) (sym turns.journal)
        (still_has stood.fill s.journal.shape disk.bytes disk.bytes s.parts.blocks.holders s'.parts.blocks.holders last now turns.takes turns.addresses (stays_same s.journal.shape disk.bytes disk.bytes refl) (up.bytes h))))
        (to (λ t. IsSure held stood.takings s' stood.b stood.after t ⊎ IsUnsure stood.fill held stood.takings s' stood.b stood.after t) tables_now)
        (to (λ t. Plays stood.fill disk.honest s' t) plays_now)
        (subst (λ (j : JournalValue). extent j.shape ≤ disk.size) (sym turns.journal) stood.size)
