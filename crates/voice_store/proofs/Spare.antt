-- What the tables of a store tell of its state: the free blocks, whether a change is in doubt or not, and all else where none is.
use Rattle.std.proofs.Common.{◌≡◌, ◌⊎◌, inl, inr, ℕ, ◌+◌, ◌==◌, Bool, true, false, cond, List, [], ◌∷◌, ◌++◌, map, length, None, refl, sym, ◌∙◌, ap, subst}
use Rattle.std.proofs.lemmas.List.{map-append}
use Rattle.voice_units.specs.declared.shapes.Shape.{Shape}
use Rattle.voice_units.specs.declared.pieces.Piece.{Piece}
use Rattle.voice_units.specs.Spots.{Spot, samples_in, pieces_of}
use Rattle.voice_units.specs.Blocks.{BlockPair, has_pair}
use Rattle.voice_outside.specs.Disk.{Told}
use Rattle.voice_model.specs.Samples.{Tagged, spot_of}
use Rattle.voice_model.specs.State.{State, Durable, Live, Effect}
use Rattle.voice_model.specs.State.Effect.{Recorded, Edited, Retained, Forgotten, Counted, Swept, Advanced}
use Rattle.voice_model.specs.Room.{free, used, held_by_doubt, samples_brought}
use Rattle.voice_model.specs.Changes.{changed, with_rope}
use Rattle.voice_model.specs.Base.{change_of}
use Rattle.voice_model.specs.Replay.{durable_by, live_by}
use Rattle.voice_model.specs.declared.changes.Change.TheVariants as kinds
use Rattle.voice_blocks.specs.Holders.{Holders, open_in}
use Rattle.rope_table.specs.Table.{pairs_in}
use Rattle.running_tables.specs.Running.{Runs, RunsState, held_in, takings_in, pledged_in}
use Rattle.running_tables.proofs.Free.{counts_free, counts_used}
use Rattle.running_tables.proofs.Dropped.{repledged}
use Rattle.next_ropes.specs.declared.NextRope.{NextRope}
use Rattle.next_ropes.specs.Ready.{IsReady, next_change, new_samples}
use Rattle.next_ropes.proofs.Performed.{brings_ready}
use Rattle.next_changes.specs.Next.{IsNext, IsOther}
use Rattle.next_changes.specs.declared.NextChange.{NextChange}
use Rattle.next_changes.specs.declared.NextChange.TheVariants.{Rope, Other}
use Rattle.next_changes.proofs.Given.{brings_rope, plain}
use Rattle.ready_changes.specs.declared.ReadyChange.{ReadyChange}
use Rattle.voice_store.specs.declared.inside.Inside.{Inside}
use Rattle.voice_store.specs.Stood.{last_of, IsSure, IsUnsure, IsHolding, ShowsState, Stood}
use Rattle.voice_store.proofs.Refused.{spots_again}
use Rattle.voice_store.proofs.Settled.{none_some}

-- ---- the samples of a rope that a change brings

-- the last one of a list, or a default
final : {A : Type 0} → A → List A → A
final d [] = d
final d (x ∷ xs) = final x xs

final_is : {A : Type 0} (d : A) (xs : List A) (y : A) → final d (xs ++ y ∷ []) ≡ y
unfolding final
final_is d [] y = refl
final_is d (x ∷ xs) y = final_is x xs y

nothing_live : Live Tagged
nothing_live = record { id = 0; samples = []; idle = 0; last = 0 }

-- the effect that comes of a rope has the samples of the rope, wherever it came
samples_alike : (fill : Spot → Tagged) → ((x : Spot) → spot_of (fill x) ≡ x) → (d : Durable Spot) (e : Durable Tagged) (id number : ℕ) (places : List Spot) (samples : List Tagged)
    → durable_by fill (with_rope d id places) ≡ with_rope e number samples → places ≡ map spot_of samples
samples_alike fill same d e id number places samples is =
    sym (spots_again fill same places) ∙ ap (map spot_of) (sym (ap (λ (rope : Live Tagged). rope.samples) last_one))
  where
    rope : Live Spot
    rope = record { id = id; samples = places; idle = d.moment; last = 0 }

    came : Live Tagged
    came = record { id = number; samples = samples; idle = e.moment; last = 0 }

    last_one : came ≡ live_by fill rope
    last_one =
        sym (final_is nothing_live e.ropes came)
        ∙ ap (λ (k : Durable Tagged). final nothing_live k.ropes) (sym is)
        ∙ ap (final nothing_live) (map-append (live_by fill) d.ropes (rope ∷ []))
        ∙ final_is nothing_live (map (live_by fill) d.ropes) (live_by fill rope)

next_is_rope : (form : ℕ) (next : NextRope) → brings_rope (next_change form next) ≡ true
next_is_rope form next = by next.recorded (form == 2)
  where
    by : (r w : Bool) → brings_rope (cond r (cond w (kinds.Wide next.id (samples_in next.pieces) next.addresses.items) (kinds.Recorded next.id (samples_in next.pieces) next.addresses.items)) (kinds.Edited next.id next.pieces)) ≡ true
    by true true = refl
    by true false = refl
    by false w = refl

-- a change that brings no rope brings no samples
brings_none : (form : ℕ) (addresses : List ℕ) (effect : Effect Tagged) → brings_rope (change_of form addresses effect) ≡ false → samples_brought effect ≡ []
brings_none form addresses (Recorded id samples) none = by (form == 2) none
  where
    by : (wide : Bool) → brings_rope (cond wide (kinds.Wide id (length samples) addresses) (kinds.Recorded id (length samples) addresses)) ≡ false → samples ≡ []
    by true e = cc
    by false e = cc
brings_none form addresses (Edited id samples) none = cc
brings_none form addresses (Retained row) none = refl
brings_none form addresses (Forgotten class key) none = refl
brings_none form addresses (Counted keys) none = refl
brings_none form addresses (Swept ids) none = refl
brings_none form addresses (Advanced moment) none = refl

-- the rope that is ready has the samples that the effect brings
brought_alike : (fill : Spot → Tagged) → ((x : Spot) → spot_of (fill x) ≡ x) → (d : Durable Spot) (form area : ℕ) (addresses : List ℕ) (e : Durable Tagged) (id : ℕ) (places : List Spot) (effect : Effect Tagged) → brings_rope (change_of area addresses effect) ≡ true
    → durable_by fill (with_rope d id places) ≡ changed form e effect → places ≡ map spot_of (samples_brought effect)
brought_alike fill same d form area addresses e id places (Recorded number samples) kind is = samples_alike fill same d e id number places samples is
brought_alike fill same d form area addresses e id places (Edited number samples) kind is = samples_alike fill same d e id number places samples is
brought_alike fill same d form area addresses e id places (Retained row) kind is = cc
brought_alike fill same d form area addresses e id places (Forgotten class key) kind is = cc
brought_alike fill same d form area addresses e id places (Counted keys) kind is = cc
brought_alike fill same d form area addresses e id places (Swept ids) kind is = cc
brought_alike fill same d form area addresses e id places (Advanced moment) kind is = cc

-- ---- the free blocks

module _ (first : State) (t0 : ℕ) (disk : Told) (s : Inside) (stood : Stood first t0 disk s) where
  abbrev last : State
  last = last_of first s

  abbrev holders : Holders
  holders = s.parts.blocks.holders

  -- what the lanes hold, by the state alone
  holding_now : IsHolding stood.held stood.takings last.shape.block last.lanes
  holding_now = subst (λ (x : Shape). IsHolding stood.held stood.takings x.block last.lanes) (sym stood.upright.seated.shape) stood.holding

  -- the tables show the state where these pieces are those of the doubt
  runs_state : (pieces : List (List Piece)) → ((block : ℕ) (pair : BlockPair) → has_pair (pairs_in block (pledged_in last)) pair ≡ has_pair (pairs_in block pieces) pair) → Runs stood.held pieces stood.takings s.parts stood.b → RunsState s.parts stood.b last
  runs_state pieces alike runs =
      repledged (held_in last) pieces (pledged_in last) (takings_in last) s.parts stood.b (alike stood.b.shape.block)
      (subst (λ l. Runs l pieces (takings_in last) s.parts stood.b) holding_now.passages (subst (λ l. Runs stood.held pieces l s.parts stood.b) holding_now.recordings runs))

  -- nothing is pledged where the doubt brings no samples
  none_pledged : held_by_doubt last.doubt ≡ [] → Runs stood.held [] stood.takings s.parts stood.b → RunsState s.parts stood.b last
  none_pledged none runs = runs_state [] (λ block pair. ap (λ (ts : List Tagged). has_pair (pairs_in block (pieces_of (map spot_of ts) ∷ [])) pair) none) runs

  -- a rope holds its blocks
  with_rope_ready : (unsure : IsUnsure stood.fill stood.held stood.takings s stood.b stood.after last) (rope : NextRope) → IsReady stood.held stood.takings s.parts stood.b rope unsure.change → RunsState s.parts stood.b last
  with_rope_ready unsure rope ready =
      let effect = unsure.pending.effect in
      let b = stood.b in
      let kind : brings_rope (change_of b.form unsure.addresses effect) ≡ true = ap brings_rope (sym unsure.spelled ∙ ready.change) ∙ next_is_rope b.form rope in
      let after = (brings_ready stood.held stood.takings s.parts b rope unsure.change ready).after in
      let samples : new_samples unsure.change ≡ map spot_of (samples_brought effect) =
      brought_alike stood.fill unsure.brings_it.spots b.kept last.form b.form unsure.addresses last.kept rope.id (new_samples unsure.change) effect kind
      (ap (durable_by stood.fill) (sym after) ∙ unsure.brings_it.kept) in
      let same : map spot_of (held_by_doubt last.doubt) ≡ new_samples unsure.change = ap (λ o. map spot_of (held_by_doubt o)) unsure.in_state ∙ sym samples in
      runs_state (rope.pieces ∷ []) (λ block pair. ap (λ (l : List Piece). has_pair (pairs_in block (l ∷ [])) pair) (ap pieces_of same ∙ sym ready.pieces)) ready.runs

  -- any other change holds none
  with_other_ready : (unsure : IsUnsure stood.fill stood.held stood.takings s stood.b stood.after last) (other : ReadyChange) → IsOther stood.held stood.takings s.parts stood.b other unsure.change → RunsState s.parts stood.b last
  with_other_ready unsure other ready =
      let b = stood.b in
      let none : brings_rope (change_of b.form unsure.addresses unsure.pending.effect) ≡ false = ap brings_rope (sym unsure.spelled) ∙ (plain s.parts.interests.spare b.kept other.act unsure.change ready.ready.does).no_rope in
      none_pledged (ap held_by_doubt unsure.in_state ∙ brings_none b.form unsure.addresses unsure.pending.effect none) ready.runs

  when_unsure : IsUnsure stood.fill stood.held stood.takings s stood.b stood.after last → RunsState s.parts stood.b last
  when_unsure unsure = by unsure.doubted.next unsure.ready
    where
      by : (next : NextChange) → IsNext stood.held stood.takings s.parts stood.b next unsure.change → RunsState s.parts stood.b last
      by (Rope rope) ready = with_rope_ready unsure rope ready
      by (Other other) ready = with_other_ready unsure other ready

  -- the tables show the state, whether a change is in doubt or not
  pub runs_now : RunsState s.parts stood.b last
  runs_now = by stood.tables
    where
      by : IsSure stood.held stood.takings s stood.b stood.after last ⊎ IsUnsure stood.fill stood.held stood.takings s stood.b stood.after last → RunsState s.parts stood.b last
      by (inl sure) = none_pledged (ap held_by_doubt sure.in_state) sure.tables
      by (inr unsure) = when_unsure unsure

  pub free_is_open : free last ≡ open_in holders
  free_is_open = sym (counts_free s.parts stood.b last stood.fill stood.upright.fills.spots stood.upright.fills.kept runs_now)

  -- what is in use, and what nobody holds, are all blocks
  pub used_or_open : open_in holders + used last ≡ last.shape.blocks
  used_or_open = counts_used s.parts stood.b last stood.fill stood.upright.fills.spots stood.upright.fills.kept runs_now

  -- the live ropes are those of the tables, their samples filled in
  pub filled_ropes : last.kept.ropes ≡ map (live_by stood.fill) stood.b.kept.ropes
  filled_ropes = ap (λ (d : Durable Tagged). d.ropes) (sym stood.upright.fills.kept)

  -- the tables are of the journal's shape
  pub shape_now : stood.b.shape ≡ s.journal.shape
  shape_now = ap (λ (d : Durable Tagged). d.shape) stood.upright.fills.kept ∙ stood.upright.seated.shape

  -- ---- where nothing is in doubt

  pub shows_state : last.doubt ≡ None → ShowsState s.parts last
  shows_state none = by stood.tables
    where
      by : IsSure stood.held stood.takings s stood.b stood.after last ⊎ IsUnsure stood.fill stood.held stood.takings s stood.b stood.after last → ShowsState s.parts last
      by (inl sure) = record { held = stood.held; takings = stood.takings; holding = holding_now; rebuilt = stood.b; tables = sure.tables; fill = stood.fill; fills = stood.upright.fills }
      by (inr unsure) = absurd (none_some unsure.pending (sym none ∙ unsure.in_state))

  -- where the state has nothing in doubt, the store has nothing in doubt
  pub nothing_waits : last.doubt ≡ None → s.doubt ≡ None
  nothing_waits none = by stood.tables
    where
      by : IsSure stood.held stood.takings s stood.b stood.after last ⊎ IsUnsure stood.fill stood.held stood.takings s stood.b stood.after last → s.doubt ≡ None
      by (inl sure) = sure.sure
      by (inr unsure) = absurd (none_some unsure.pending (sym none ∙ unsure.in_state))
