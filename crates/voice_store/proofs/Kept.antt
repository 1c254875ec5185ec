-- An edit that is kept.
use Rattle.std.proofs.Common.{◌≡◌, ◌⊎◌, inl, inr, ℕ, ◌+◌, ◌*◌, ◌≤◌, ◌^◌, ◌==◌, true, false, cond, nat_lt, List, [], ◌∷◌, length, Some, None, IsTrue, is_some, refl, sym, ◌∙◌, ap, subst, arith}
use Rattle.std.specs.List.{list_all}
use Rattle.std.proofs.lemmas.List.{length-map}
use Rattle.std.proofs.lemmas.Bool.{ltb-true}
use Rattle.voice_units.specs.declared.pieces.Piece.{Piece}
use Rattle.voice_units.specs.Spots.{Spot, spots_of, samples_in, pieces_of, nowhere}
use Rattle.voice_units.specs.Blocks.{BlockPair, same_pair, has_pair, pairs_at}
use Rattle.voice_units.proofs.PiecesOfRopes.{both, spots_of-runs}
use Rattle.voice_units.proofs.Distinct.{same_pair-true}
use Rattle.voice_outside.specs.Disk.{Told}
use Rattle.voice_model.specs.Samples.{Tagged, spot_of, spots_in_rope, pieces_in}
use Rattle.voice_model.specs.State.{State, Durable, Effect}
use Rattle.voice_model.specs.State.Effect.{Edited}
use Rattle.voice_model.specs.Changes.{frame_size, base_size, changed}
use Rattle.voice_model.specs.Step.{refusal, reply_of, samples_made, is_journal_full, journal_full, if_full, when}
use Rattle.voice_model.specs.Replay.{Rebuilt, acted, durable_by, effect_by, used_pairs, recovered}
use Rattle.voice_model.specs.Base.{change_of}
use Rattle.voice_model.specs.Valid.{MayFit, IsNextRope}
use Rattle.voice_model.specs.declared.calls.Call.{Call}
use Rattle.voice_model.specs.declared.calls.Reply.{Reply}
use Rattle.voice_model.specs.declared.calls.Reply.TheVariants as replies
use Rattle.voice_model.specs.declared.calls.Why.TheVariants as why
use Rattle.voice_model.specs.declared.changes.Change.TheVariants as kinds
use Rattle.voice_model.specs.Spelling.{spelling}
use Rattle.voice_model.proofs.ChangesOfEffects.{size_again}
use Rattle.voice_model.proofs.FitsOfCalls.{fit_call}
use Rattle.voice_model.proofs.LegalInReplay.{acted_again}
use Rattle.rope_table.specs.Table.{uses_in, pieces_in as pieces_here}
use Rattle.voice_model.proofs.PlacesKept.{all_samples}
use Rattle.recovery.proofs.Ropes.{uses_shown}
use Rattle.recovery.specs.declared.parts.Parts.{Parts}
use Rattle.recovery.specs.Shown.{Shows}
use Rattle.running_tables.specs.Running.{Runs}
use Rattle.edits.specs.Shown.{IsRopeOf}
use Rattle.edits.proofs.Refusals.{journal_last}
use Rattle.edits.proofs.UsedBlocks.{of_live_ropes}
use Rattle.edits.proofs.Seen.{places_length}
use Rattle.fillings.proofs.Sizes.{edited_size}
use Rattle.fillings.proofs.Calls.{call_does}
use Rattle.voice_blocks.proofs.Apart.{either_way}
use Rattle.crash_laws.specs.Foundations.{Foundations}
use Rattle.crash_laws.specs.Standing.{IsHonest, IsHeld}
use Rattle.crash_laws.proofs.Opened.{standing_gives}
use Rattle.next_ropes.specs.Addresses.{KeepsAddresses}
use Rattle.next_ropes.specs.Ready.{IsReady, AreLive, most_held}
use Rattle.next_changes.specs.declared.NextChange.TheVariants as changes
use Rattle.voice_store.specs.declared.going.Going.TheVariants as goings
use Rattle.next_ropes.specs.declared.NextRope.{NextRope}
use Rattle.voice_store.specs.declared.inside.Inside.{Inside}
use Rattle.voice_store.specs.declared.ways.Way.{Way}
use Rattle.voice_store.specs.declared.ways.Way.TheVariants as ways
use Rattle.voice_store.specs.Stood.{last_of, tapes_of, Fills, Upright, IsSure, IsUnsure, Plays, Stood}
use Rattle.voice_store.specs.Ways.{IsWay}
use Rattle.voice_store.specs.Going.{IsGoingIn}
use Rattle.voice_store.specs.Trying.{Trying}
use Rattle.voice_store.specs.Keeping.{MakesRope, HasWay}
use Rattle.voice_store.proofs.Filled.{still_has, takes_same, stays_same}
use Rattle.voice_store.proofs.Refused.{wrong, kept_again}
use Rattle.voice_store.proofs.Holding.{few_held}
use Rattle.voice_store.proofs.Played.{playing_by}
use Rattle.voice_store.proofs.Making.{IsMaking, edit_makes, edit_reply, may_commit}
use Rattle.voice_store.proofs.Again.{filled_again, timely_edit}

-- ---- nothing is in doubt

some_none : {A : Type 0} (x : A) → Some x ≡ None → ⊥
some_none x e = wrong (sym (ap is_some e))

-- few passages are held
pub stood_few : (first : State) (t0 : ℕ) (disk : Told) (s : Inside) (stood : Stood first t0 disk s) → length stood.held ≤ most_held
stood_few first t0 disk s stood = few_held stood.held stood.takings s.journal.shape.block (last_of first s) stood.holding stood.upright.valid

-- the base of tables that show a state is as long as that of the state
pub base_shown : (held : List (List Piece)) (parts : Parts) (b : Rebuilt) (fill : Spot → Tagged) (t : State) → parts.form ≡ t.form → Shows held parts b.kept → Fills fill b t → (size : ℕ)
    → ((held : List (List Piece)) (d : Durable Spot) (fill : Spot → Tagged) → Shows held parts d → ((x : Spot) → spot_of (fill x) ≡ x) → size ≡ base_size parts.form (durable_by fill d)) → size ≡ base_size t.form t.kept
base_shown held parts b fill t form shows fills size told =
    told held b.kept fill shows fills.spots ∙ ap (λ f. base_size f (durable_by fill b.kept)) form ∙ ap (base_size t.form) fills.kept

module _ (first : State) (t0 : ℕ) (disk : Told) (s : Inside) (stood : Stood first t0 disk s) (none : s.doubt ≡ None) where
  pub is_sure : IsSure stood.held stood.takings s stood.b stood.after (last_of first s)
  is_sure = by stood.tables
    where
      by : IsSure stood.held stood.takings s stood.b stood.after (last_of first s) ⊎ IsUnsure stood.fill stood.held stood.takings s stood.b stood.after (last_of first s) → IsSure stood.held stood.takings s stood.b stood.after (last_of first s)
      by (inl sure) = sure
      by (inr unsure) = absurd (some_none unsure.doubted (sym unsure.unsure ∙ none))

  -- the history is held as the tables show it, which give no address anew
  pub upright_by : (parts : Parts) → KeepsAddresses s.parts.blocks.holders parts.blocks.holders → Upright first t0 disk (record s { parts = parts }) stood.fill stood.b stood.b
  upright_by parts keeps = let up = stood.upright in record {
    legal = up.legal;
    valid = up.valid;
    fills = up.fills;
    seated = up.seated;
    acks = up.acks;
    held = λ h. subst (λ x. IsHeld first (tapes_of s) t0 s.journal disk stood.b x s.history.items) is_sure.same (up.held h);
    bytes = λ h. still_has stood.fill s.journal.shape disk.bytes disk.bytes s.parts.blocks.holders parts.blocks.holders (last_of first s) (last_of first s) (takes_same (last_of first s) (last_of first s) refl) keeps (stays_same s.journal.shape disk.bytes disk.bytes refl) (up.bytes h);
  }

  -- the lanes play on over other tables that show the same
  pub plays_by : (parts : Parts) → Shows stood.held parts stood.b.kept → Plays stood.fill disk.honest (record s { parts = parts }) (last_of first s)
  plays_by parts shows = playing_by stood.held s.parts parts stood.b.kept is_sure.tables.kept shows stood.fill disk.honest s.journal.shape.block s.lanes s.made s.recordings (last_of first s) stood.playing

  -- other tables that show the same
  pub same_parts : (parts : Parts) → Runs stood.held [] stood.takings parts stood.b → KeepsAddresses s.parts.blocks.holders parts.blocks.holders → Stood first t0 disk (record s { parts = parts })
  same_parts parts shows keeps = record {
    fill = stood.fill;
    b = stood.b;
    after = stood.b;
    held = stood.held;
    takings = stood.takings;
    holding = stood.holding;
    upright = upright_by parts keeps;
    tables = inl (record { sure = none; in_journal = is_sure.in_journal; in_state = is_sure.in_state; tables = shows; same = refl });
    playing = plays_by parts shows.kept;
    size = stood.size;
  }

  pub same_number : stood.b.next ≡ (last_of first s).next
  same_number = ap (λ (d : Durable Tagged). d.next) stood.upright.fills.kept

  pub same_shape : stood.b.shape ≡ s.journal.shape
  same_shape = ap (λ (d : Durable Tagged). d.shape) stood.upright.fills.kept ∙ stood.upright.seated.shape

  pub same_form : s.parts.form ≡ (last_of first s).form
  same_form = is_sure.tables.in_form ∙ stood.upright.fills.form

  -- the base of the tables is as long as that of the state
  pub base_now : (size : ℕ) → ((held : List (List Piece)) (d : Durable Spot) (fill : Spot → Tagged) → Shows held s.parts d → ((x : Spot) → spot_of (fill x) ≡ x) → size ≡ base_size s.parts.form (durable_by fill d))
      → size ≡ base_size (last_of first s).form (last_of first s).kept
  base_now size told = base_shown stood.held s.parts stood.b stood.fill (last_of first s) same_form is_sure.tables.kept stood.upright.fills size told

-- a change that gets into the journal is not refused there
pub not_full : (s : State) (effect : Effect Tagged) (way : Way) → IsWay s effect way → ((need left : ℕ) → way ≡ ways.Full need left → ⊥) → is_journal_full s effect ≡ false
not_full s effect (ways.Full need left) is other = absurd (other need left refl)
not_full s effect ways.Append is other = is.free
not_full s effect ways.Switch is other = is.free

-- ---- an edit, before the journal is asked

module _ (first : State) (t0 : ℕ) (disk : Told) (s : Inside) (call : Call) (pieces : List Piece) (h : MakesRope first t0 disk s call pieces) where
  abbrev last : State
  last = last_of first s

  abbrev effect : Effect Tagged
  effect = Edited last.next h.rope.samples

  pub frame_of : 16 + 16 * length pieces ≡ frame_size last.form last.kept.shape.block effect
  frame_of = subst (λ (ps : List Piece). 16 + 16 * length ps ≡ 5 + (11 + 16 * length (pieces_in h.rope.samples))) (sym h.rope.same) (omega arith)

  pub need_of : (now n : ℕ) → now ≡ base_size last.form last.kept → n ≡ 24 + cond (s.parts.form == 2) 1 0 + 16 * length pieces → now + n ≡ base_size last.form (changed last.form last.kept effect)
  need_of now n base is =
      let rope : 24 + cond (s.parts.form == 2) 1 0 + 16 * length pieces ≡ 24 + cond (last.form == 2) 1 0 + 16 * length (pieces_in h.rope.samples) =
      ap (λ f. 24 + cond (f == 2) 1 0 + 16 * length pieces) (same_form first t0 disk s h.stood h.sure) ∙ ap (λ (ps : List Piece). 24 + cond (last.form == 2) 1 0 + 16 * length ps) h.rope.same in
      ap (λ x. x + n) base ∙ ap (λ x. base_size last.form last.kept + x) (is ∙ rope)
      ∙ sym (edited_size last.form last.kept last.next h.rope.samples (timely_edit last (tapes_of s) call last.next h.rope.samples h.edits h.rope.effect))

  -- the journal refuses it
  pub refused_full : (need left : ℕ) → IsWay last effect (ways.Full need left) → refusal last (tapes_of s) call ≡ Some (why.JournalFull need left)
  refused_full need left full =
      journal_last.late last (tapes_of s) call h.rope.unrefused ∙ ap (if_full last) h.rope.effect ∙ ap (λ b. when b (journal_full last effect)) full.0 ∙ ap Some full.1

  pub refused_not : is_journal_full last effect ≡ false → refusal last (tapes_of s) call ≡ None
  refused_not free = journal_last.late last (tapes_of s) call h.rope.unrefused ∙ ap (if_full last) h.rope.effect ∙ ap (λ b. when b (journal_full last effect)) free

  pub has_way : (way : Way) → IsWay last effect way → ((need left : ℕ) → way ≡ ways.Full need left → ⊥) → HasWay first t0 disk s call pieces way
  has_way way goes other = record { makes = h; goes = goes; free = not_full last effect way goes other }

-- ---- an edit that the journal does not refuse

pub each_had : (others pairs : List BlockPair) → list_all (has_pair others) pairs ≡ true → (q : BlockPair) → has_pair pairs q ≡ true → has_pair others q ≡ true
each_had others [] h q e = absurd (wrong e)
each_had others (p ∷ pairs) h q e =
    let parts = both (has_pair others p) (list_all (has_pair others) pairs) h in
    either_way (same_pair q p) (has_pair pairs q) (λ k. ap (has_pair others) (same_pair-true q p k) ∙ parts.0) (λ k. each_had others pairs parts.1 q k) e

module _ (first : State) (t0 : ℕ) (disk : Told) (s : Inside) (call : Call) (pieces : List Piece) (way : Way) (h : HasWay first t0 disk s call pieces way) where
  abbrev now : State
  now = last_of first s

  abbrev rope : IsRopeOf now (tapes_of s) call pieces
  rope = h.makes.rope

  abbrev made : Effect Tagged
  made = Edited now.next rope.samples

  abbrev b : Rebuilt
  b = h.makes.stood.b

  abbrev sure : IsSure h.makes.stood.held h.makes.stood.takings s b h.makes.stood.after now
  sure = is_sure first t0 disk s h.makes.stood h.makes.sure

  making : IsMaking now (tapes_of s) call
  making = edit_makes now (tapes_of s) call h.makes.edits

  unrefused : refusal now (tapes_of s) call ≡ None
  unrefused = refused_not first t0 disk s call pieces h.makes h.free

  fit : IsNextRope now.kept now.next rope.samples
  fit = subst (MayFit now.form now.kept) rope.effect (fit_call now (tapes_of s) call h.makes.stood.upright.valid making.range unrefused)

  pub tables : Runs h.makes.stood.held [] h.makes.stood.takings s.parts b
  tables = sure.tables

  pub number : s.parts.next ≤ 2 ^ 48
  number = subst (λ n. n ≤ 2 ^ 48) (sym (tables.kept.next ∙ same_number first t0 disk s h.makes.stood h.makes.sure)) fit.number

  pub many : length pieces ≤ 4096
  many = subst (λ (ps : List Piece). length ps ≤ 4096) (sym rope.same) fit.many

  pub long : samples_in pieces ≤ 2 ^ 30
  long = subst (λ n. n ≤ 2 ^ 30) (sym (of_live_ropes.length now (tapes_of s) call rope.samples pieces rope.effect rope)) fit.long

  live_blocks : list_all (has_pair (used_pairs b.kept)) (pairs_at b.shape.block (spots_of pieces)) ≡ true
  live_blocks =
      let kept = ap (durable_by spot_of) (sym h.makes.stood.upright.fills.kept) ∙ kept_again h.makes.stood.fill h.makes.stood.upright.fills.spots b.kept in
      subst (λ (d : Durable Spot). list_all (has_pair (used_pairs d)) (pairs_at d.shape.block (spots_of pieces)) ≡ true) kept (of_live_ropes.blocks now (tapes_of s) call pieces rope)

  pub used : AreLive s.parts pieces
  used = λ pair e.
      let has = each_had (used_pairs b.kept) (pairs_at b.shape.block (spots_of pieces)) live_blocks pair (ap (λ n. has_pair (pairs_at n (spots_of pieces)) pair) (sym tables.kept.block) ∙ e) in
      let some = ltb-true 0 (uses_in s.parts.ropes.block (pieces_here s.parts.ropes.ropes) pair)
      (ap (λ l. nat_lt 0 (uses_in s.parts.ropes.block (pieces_here l) pair)) tables.kept.ropes ∙ uses_shown b.shape.graces b.kept.rows s.parts.ropes.block b.ropes pair ∙ ap (λ n. has_pair (pairs_at n (all_samples b.ropes)) pair) tables.kept.block ∙ has) in
      omega (arith, some)

  -- few passages are held
  pub held_few : length h.makes.stood.held ≤ most_held
  held_few = stood_few first t0 disk s h.makes.stood

  -- its rope is ready to go
  pub edit_going : (parts : Parts) (next : NextRope) → IsReady h.makes.stood.held h.makes.stood.takings parts b next (kinds.Edited b.next pieces) → IsGoingIn s.journal.shape parts (goings.Change (changes.Rope next))
  edit_going parts next ready = record { held = h.makes.stood.held; takings = h.makes.stood.takings; more = h.makes.stood.takings; b = b; c = kinds.Edited b.next pieces; ready = (refl, ready); in_shape = same_shape first t0 disk s h.makes.stood h.makes.sure }

  pub the_change : kinds.Edited b.next pieces ≡ change_of b.form [] made
  the_change = ap (λ n. kinds.Edited n pieces) (same_number first t0 disk s h.makes.stood h.makes.sure) ∙ ap (kinds.Edited now.next) rope.same

  again : effect_by h.makes.stood.fill (effect_by spot_of made) ≡ made
  again = filled_again h.makes.stood.fill h.makes.stood.upright.fills.spots b.kept now (tapes_of s) call now.next rope.samples h.makes.stood.upright.fills.kept h.makes.edits rope.effect

  brings_kept : durable_by h.makes.stood.fill (acted b (kinds.Edited b.next pieces)).kept ≡ changed now.form now.kept made
  brings_kept =
      ap (λ c. durable_by h.makes.stood.fill (acted b c).kept) the_change
      ∙ acted_again h.makes.stood.fill h.makes.stood.upright.fills.spots b [] made tt again
      ∙ ap (λ f. changed f (durable_by h.makes.stood.fill b.kept) made) h.makes.stood.upright.fills.form
      ∙ ap (λ d. changed now.form d made) h.makes.stood.upright.fills.kept

  reply_is : (next : NextRope) → next.id ≡ b.next → next.pieces ≡ pieces_of (spots_of pieces) → reply_of now (tapes_of s) call ≡ replies.Rope next.id (samples_in next.pieces)
  reply_is next id same =
      let len : length rope.samples ≡ samples_in next.pieces =
      sym (ap samples_in same ∙ places_length (spots_of pieces) ∙ ap length (ap spots_of rope.same ∙ spots_of-runs nowhere (spots_in_rope rope.samples)) ∙ length-map rope.samples spot_of) in
      edit_reply now (tapes_of s) call h.makes.edits ∙ ap (λ o. replies.Rope now.next (samples_made o now)) rope.effect ∙ ap (replies.Rope now.next) len
      ∙ ap (λ n. replies.Rope n (samples_in next.pieces)) (sym (id ∙ same_number first t0 disk s h.makes.stood h.makes.sure))

  pub trying : Foundations → (IsTrue disk.honest → IsHonest disk) → (caller : ℕ) (parts : Parts) → KeepsAddresses s.parts.blocks.holders parts.blocks.holders → (next : NextRope) → IsReady h.makes.stood.held h.makes.stood.takings parts b next (kinds.Edited b.next pieces)
      → (reply : Reply) → reply ≡ replies.Rope next.id (samples_in next.pieces)
      → Trying first t0 disk (record s { parts = parts }) b (goings.Change (changes.Rope next)) (kinds.Edited b.next pieces) made caller call reply
  trying laws honest caller parts keeps next ready reply is =
      let up = upright_by first t0 disk s h.makes.stood h.makes.sure parts keeps in
      record {
        fill = h.makes.stood.fill;
        upright = up;
        sure = h.makes.sure;
        in_journal = sure.in_journal;
        held = h.makes.stood.held;
        takings = h.makes.stood.takings;
        more = h.makes.stood.takings;
        holding = h.makes.stood.holding;
        ready = (refl, ready);
        holding_then = h.makes.stood.holding;
        jobs = refl;
        takes = takes_same now now refl;
        recorded = h.makes.stood.playing.recorded;
        will_have = λ told. tt;
        playing = plays_by first t0 disk s h.makes.stood h.makes.sure parts ready.runs.kept;
        addresses = [];
        change = the_change;
        lanes = now.lanes;
        may = may_commit now (tapes_of s) caller call made making sure.in_state unrefused rope.effect;
        replies = reply_is next ready.number ready.pieces ∙ sym is;
        in_range = making.range;
        frame = ap (λ n. 5 + n) (sym (ap length ready.payload ∙ ap (λ x. length (spelling x)) the_change ∙ size_again b.form now.kept.shape.block [] made tt));
        brings_it = record { spots = up.fills.spots; kept = brings_kept };
        does = λ told.
            let sound = (standing_gives laws disk).now first (tapes_of s) t0 s.journal b b s.history.items (honest told) (up.held told) in
            ap (λ c. recovered disk.bytes (acted b c)) the_change ∙ call_does disk.bytes b now (tapes_of s) call [] made sound.fills sound.form sound.placed rope.effect tt tt;
        size = h.makes.stood.size;
      }
