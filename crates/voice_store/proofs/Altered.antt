-- A change of rows, of the moment or a sweep: what it takes, and that it goes to the journal as any other.
use Rattle.voice_blocks.specs.Holders.{BlocksView, holder_at}
use Rattle.std.proofs.Common.{◌≡◌, ℕ, ◌==◌, inl, Bool, true, false, cond, [], List, length, Some, None, IsTrue, refl, sym, ◌∙◌, ap, subst}
use Rattle.voice_units.specs.declared.pieces.Piece.{Piece}
use Rattle.voice_units.specs.Spots.{Spot}
use Rattle.voice_outside.specs.Disk.{Told}
use Rattle.voice_model.specs.Samples.{Tagged, spot_of}
use Rattle.voice_model.specs.State.{State, Durable, Effect}
use Rattle.voice_model.specs.State.Effect.{Recorded, Edited, Retained, Forgotten, Counted, Swept, Advanced}
use Rattle.voice_model.specs.Early.{all_but_last}
use Rattle.voice_model.specs.Changes.{effect_of, base_size, changed}
use Rattle.voice_model.specs.Step.{refusal, conditions, first_of, reply_of, is_journal_full, journal_full, if_full, when}
use Rattle.voice_model.specs.Valid.{InRange, TakesFree}
use Rattle.voice_model.specs.Replay.{Rebuilt, acted, durable_by}
use Rattle.voice_model.specs.Base.{change_of}
use Rattle.voice_model.specs.declared.calls.Call.{Call}
use Rattle.voice_model.specs.declared.calls.Reply.{Reply}
use Rattle.voice_model.specs.declared.calls.Why.TheVariants as why
use Rattle.voice_model.specs.declared.changes.Change.{Change}
use Rattle.voice_model.specs.declared.changes.Change.TheVariants as kinds
use Rattle.recovery.specs.Shown.{Shows}
use Rattle.running_tables.specs.Running.{Runs}
use Rattle.recovery.specs.declared.parts.Parts.{Parts}
use Rattle.edits.specs.Shown.{before_journal}
use Rattle.edits.proofs.Refusals.{journal_last}
use Rattle.fillings.specs.Laws.{HasRecording}
use Rattle.fillings.proofs.Calls.{call_does}
use Rattle.crash_laws.specs.Foundations.{Foundations}
use Rattle.crash_laws.specs.Standing.{IsHonest}
use Rattle.crash_laws.proofs.Opened.{standing_gives}
use Rattle.crash_laws.proofs.Commits.{acted_form}
use Rattle.ready_changes.specs.declared.ReadyChange.{ReadyChange}
use Rattle.next_changes.specs.declared.NextChange.{NextChange}
use Rattle.next_changes.specs.declared.NextChange.TheVariants.{Other}
use Rattle.next_changes.specs.Laws.{Keeps}
use Rattle.next_changes.proofs.Given.{given, brings_rope, plain}
use Rattle.next_changes.proofs.Called.{of_call}
use Rattle.row_calls.specs.Asked as asked
use Rattle.running_tables.proofs.Taken.{reshown}
use Rattle.row_calls.specs.Asked.{is_row_call, Grows, IsChange}
use Rattle.row_calls.specs.declared.outcomes.Growth.{Growth}
use Rattle.voice_store.specs.declared.going.Going.TheVariants as goings
use Rattle.voice_store.specs.Going.{IsGoingIn}
use Rattle.voice_store.proofs.Filled.{takes_same}
use Rattle.voice_store.specs.declared.inside.Inside.{Inside}
use Rattle.voice_store.specs.declared.ways.Way.TheVariants as ways
use Rattle.voice_store.specs.Stood.{IsSure, Stood, last_of, tapes_of}
use Rattle.voice_store.specs.Facts.{Stays, IsFault}
use Rattle.voice_store.specs.Ways.{IsWay}
use Rattle.voice_store.specs.Trying.{IsReadyIn, Trying}
use Rattle.voice_store.specs.Altering.{Weighs, Alters}
use Rattle.voice_store.proofs.Kept.{is_sure, upright_by, plays_by, same_shape}
use Rattle.voice_store.proofs.Making.{IsMaking, row_makes, row_plain, may_commit, nothing_lands}
use Rattle.voice_store.proofs.Refused.{wrong, nothing_stays}

-- a change that brings no rope takes no address and has no samples
takes_none : (form : ℕ) (effect : Effect Tagged) → brings_rope (change_of form [] effect) ≡ false → (b : Rebuilt) (image : List ℕ) → TakesFree b [] effect × HasRecording image b.shape [] effect
takes_none form (Recorded id samples) none b image = absurd (by (form == 2) none)
  where
    by : (wide : Bool) → brings_rope (cond wide (kinds.Wide id (length samples) []) (kinds.Recorded id (length samples) [])) ≡ false → ⊥
    by true e = cc
    by false e = cc
takes_none form (Edited id samples) none b image = absurd (wrong (sym none))
takes_none form (Retained row) none b image = (tt, tt)
takes_none form (Forgotten class key) none b image = (tt, tt)
takes_none form (Counted keys) none b image = (tt, tt)
takes_none form (Swept ids) none b image = (tt, tt)
takes_none form (Advanced moment) none b image = (tt, tt)

abbrev Tells : ℕ → Parts → Type 0
Tells size parts = (held : List (List Piece)) (d : Durable Spot) (fill : Spot → Tagged) → Shows held parts d → ((x : Spot) → spot_of (fill x) ≡ x) → size ≡ base_size parts.form (durable_by fill d)

module _ (s : Inside) (b : Rebuilt) (next : NextChange) (c : Change) (state : State) (effect : Effect Tagged) (w : Weighs s b next c state effect) where
  -- the size that the tables tell is that of the state's base
  pub weighed_now : (size : ℕ) → Tells size s.parts → size ≡ base_size state.form state.kept
  weighed_now size told =
      let is = given w.held w.takings s.parts b next c w.is_next in
      told w.held b.kept w.fill is.runs.kept w.fills.spots
      ∙ ap (λ f. base_size f (durable_by w.fill b.kept)) (is.runs.in_form ∙ w.fills.form) ∙ ap (base_size state.form) w.fills.kept

  -- the size that the tables tell in which the change is done is that of the base after it
  pub weighed_after : (after : Parts) (size : ℕ) → Runs w.held [] w.takings after (acted b c) → Tells size after → size ≡ base_size state.form (changed state.form state.kept effect)
  weighed_after after size shows told =
      told w.held (acted b c).kept w.fill shows.kept w.brings_it.spots
      ∙ ap (λ f. base_size f (durable_by w.fill (acted b c).kept)) (shows.in_form ∙ acted_form b c (given w.held w.takings s.parts b next c w.is_next).kind ∙ w.fills.form)
      ∙ ap (base_size state.form) w.brings_it.kept

module _ (first : State) (t0 : ℕ) (disk : Told) (s : Inside) (call : Call) (ready : ReadyChange) (reply : Reply) (growth : Growth) (h : Alters first t0 disk s call ready reply growth) where
  abbrev last : State
  last = last_of first s

  abbrev b : Rebuilt
  b = h.stood.b

  abbrev sure : IsSure h.stood.held h.stood.takings s b h.stood.after last
  sure = is_sure first t0 disk s h.stood h.sure

  making : IsMaking last (tapes_of s) call
  making = row_makes last (tapes_of s) call h.alters h.range

  early : first_of (all_but_last (conditions last (tapes_of s) call)) ≡ None
  early = sym (ap (λ v. first_of (cond v (all_but_last (conditions last (tapes_of s) call)) (conditions last (tapes_of s) call))) making.changing) ∙ h.makes.unrefused

  -- what is ready may follow
  pub keeps : Keeps h.stood.held h.stood.takings h.stood.fill s.parts b last ready (effect_of last (tapes_of s) call)
  keeps = of_call h.stood.held h.stood.takings h.stood.fill h.stood.upright.fills.spots s.parts b last (tapes_of s) call ready sure.tables h.stood.upright.fills.kept h.stood.upright.fills.form h.stood.upright.valid h.range early h.makes.is_ready

  abbrev pub effect : Effect Tagged
  effect = keeps.effect

  abbrev pub change : Change
  change = change_of b.form [] effect

  pub ready_in : IsReadyIn s (Other ready)
  ready_in = record { held = h.stood.held; takings = h.stood.takings; b = b; c = change; ready = keeps.next; in_shape = same_shape first t0 disk s h.stood h.sure }

  pub going_in : IsGoingIn s.journal.shape s.parts (goings.Change (Other ready))
  going_in = record { held = h.stood.held; takings = h.stood.takings; more = h.stood.takings; b = b; c = change; ready = (refl, keeps.next); in_shape = same_shape first t0 disk s h.stood h.sure }

  pub weighs : Weighs s b (Other ready) change last effect
  weighs = record {
    held = h.stood.held;
    takings = h.stood.takings;
    is_next = keeps.next;
    in_shape = same_shape first t0 disk s h.stood h.sure;
    fill = h.stood.fill;
    fills = h.stood.upright.fills;
    seated = h.stood.upright.seated;
    frame = keeps.frame;
    brings_it = record { spots = h.stood.upright.fills.spots; kept = keeps.does };
  }

  pub grows : Grows last effect growth
  grows = h.makes.grows effect keeps.is

  -- the journal refuses it
  pub altering_full : (need left : ℕ) → IsWay last effect (ways.Full need left) → refusal last (tapes_of s) call ≡ Some (why.JournalFull need left)
  altering_full need left full =
      journal_last.late last (tapes_of s) call h.makes.unrefused ∙ ap (if_full last) keeps.is ∙ ap (λ b. when b (journal_full last effect)) full.0 ∙ ap Some full.1

  -- or it does not
  pub altering_free : is_journal_full last effect ≡ false → refusal last (tapes_of s) call ≡ None
  altering_free free = journal_last.late last (tapes_of s) call h.makes.unrefused ∙ ap (if_full last) keeps.is ∙ ap (λ b. when b (journal_full last effect)) free

  no_rope : brings_rope change ≡ false
  no_rope = (plain s.parts.interests.spare b.kept ready.act change keeps.next.ready.does).no_rope

  pub trying_change : Foundations → (IsTrue disk.honest → IsHonest disk) → (caller : ℕ) → is_journal_full last effect ≡ false → Trying first t0 disk s b (goings.Change (Other ready)) change effect caller call reply
  trying_change laws honest caller free =
      let up = upright_by first t0 disk s h.stood h.sure s.parts (λ a holder held. held) in
      record {
        fill = h.stood.fill;
        upright = up;
        sure = h.sure;
        in_journal = sure.in_journal;
        held = h.stood.held;
        takings = h.stood.takings;
        more = h.stood.takings;
        holding = h.stood.holding;
        ready = (refl, keeps.next);
        holding_then = h.stood.holding;
        jobs = refl;
        takes = takes_same last last refl;
        recorded = h.stood.playing.recorded;
        will_have = λ told. tt;
        playing = h.stood.playing;
        addresses = [];
        change = refl;
        lanes = last.lanes;
        may = may_commit last (tapes_of s) caller call effect making sure.in_state (altering_free free) keeps.is;
        replies = h.makes.replied;
        in_range = h.range;
        frame = keeps.frame;
        brings_it = record { spots = h.stood.upright.fills.spots; kept = keeps.does };
        does = λ told.
            let sound = (standing_gives laws disk).now first (tapes_of s) t0 s.journal b b s.history.items (honest told) (up.held told) in
            let takes = takes_none b.form effect no_rope b disk.bytes in
            call_does disk.bytes b last (tapes_of s) call [] effect sound.fills sound.form sound.placed keeps.is takes.0 takes.1;
        size = h.stood.size;
      }

-- ---- once the tables were asked

module _ (first : State) (t0 : ℕ) (disk : Told) (s : Inside) (stood : Stood first t0 disk s) (none : s.doubt ≡ None) where
  -- what the tables tell, whatever the map of blocks has
  pub told : asked.Tells stood.held s.parts stood.b
  told = let tables = (is_sure first t0 disk s stood none).tables in record { kept = tables.kept; in_form = tables.in_form; valid = tables.valid }

  -- after the question they show what they did
  pub asked_on : (parts : Parts) → Shows stood.held parts stood.b.kept → parts.form ≡ s.parts.form → parts.blocks ≡ s.parts.blocks → Runs stood.held [] stood.takings parts stood.b
  asked_on parts shows form blocks = reshown stood.held [] stood.takings s.parts parts stood.b (is_sure first t0 disk s stood none).tables shows form (ap (λ x. x.holders) blocks)

module _ (first : State) (t0 : ℕ) (disk : Told) (s : Inside) (stood : Stood first t0 disk s) (none : s.doubt ≡ None) (parts : Parts) (shows : Runs stood.held [] stood.takings parts stood.b) (same_blocks : parts.blocks ≡ s.parts.blocks) where
  abbrev then : Inside
  then = record s { parts = parts }

  abbrev now : State
  now = last_of first s

  abbrev was : IsSure stood.held stood.takings s stood.b stood.after now
  was = is_sure first t0 disk s stood none

  abbrev pub stood_on : Stood first t0 disk then
  stood_on = record {
    fill = stood.fill;
    b = stood.b;
    after = stood.b;
    held = stood.held;
    takings = stood.takings;
    holding = stood.holding;
    upright = upright_by first t0 disk s stood none parts (λ a holder held. ap (λ (x : BlocksView). holder_at x.holders a) (sym same_blocks) ∙ held);
    tables = inl (record { sure = none; in_journal = was.in_journal; in_state = was.in_state; tables = shows; same = refl });
    playing = plays_by first t0 disk s stood none parts shows.kept;
    size = stood.size;
  }

  module _ (call : Call) (row : IsTrue (is_row_call call)) (range : InRange call) where
    abbrev makes : IsMaking now (tapes_of s) call
    makes = row_makes now (tapes_of s) call row range

    -- a call whose change is ready
    pub alters : (ready : ReadyChange) (reply again : Reply) (growth : Growth) → again ≡ reply → IsChange parts stood.b now (tapes_of s) call ready reply growth → Alters first t0 disk then call ready again growth
    alters ready reply again growth same is =
        subst (λ (r : Reply). Alters first t0 disk then call ready r growth) (sym same) (record { stood = stood_on; sure = none; alters = row; range = range; makes = is })

    -- a call that alters nothing
    pub answers : (caller : ℕ) (reply again : Reply) → again ≡ reply → first_of (before_journal now (tapes_of s) call) ≡ None → effect_of now (tapes_of s) call ≡ None → reply_of now (tapes_of s) call ≡ reply
        → Stays disk.honest now (tapes_of s) caller call again
    answers caller reply again same early nothing is =
        nothing_stays disk.honest now (tapes_of s) caller call again makes.built (nothing_lands now call was.in_state) makes.lanes
        (journal_last.late now (tapes_of s) call early ∙ ap (if_full now) nothing) nothing (is ∙ sym same)

    -- what it replies tells of no device fault
    pub plain_reply : (reply again : Reply) → again ≡ reply → reply_of now (tapes_of s) call ≡ reply → ¬ IsFault again
    plain_reply reply again same is = subst (λ (r : Reply). ¬ IsFault r) (is ∙ sym same) (row_plain now (tapes_of s) call row)
