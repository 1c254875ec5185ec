-- A change that is written as a base: what that leaves once it has landed.
use Rattle.std.proofs.Common.{◌≡◌, ℕ, ◌+◌, ◌-◌, ◌≤◌, ◌<◌, ◌==◌, List, [], ◌++◌, ◌∷◌, map, Bool, true, false, cond, ◌||◌, IsTrue, refl, sym, ◌∙◌, ap, subst, arith}
use Rattle.std.specs.Prelude.{nat_le}
use Rattle.voice_units.specs.declared.pieces.Piece.{Piece}
use Rattle.voice_outside.specs.Disk.{Told}
use Rattle.voice_units.specs.declared.shapes.Shape.{Shape}
use Rattle.voice_journal.specs.Readings.{switched as switched_to, formatted, framed_size}
use Rattle.voice_journal.specs.Places.{landed as landed_seat}
use Rattle.voice_model.specs.Samples.{Tagged}
use Rattle.voice_model.specs.State.{State, Durable, Effect}
use Rattle.voice_model.specs.Changes.{committed, changed, frame_size, base_size, form_after_switch}
use Rattle.voice_model.specs.Spelling.{spelling}
use Rattle.voice_model.specs.Step.{state_after}
use Rattle.voice_units.specs.Spots.{Spot}
use Rattle.voice_model.specs.Replay.{used_pairs, Rebuilt, acted, durable_by, recovered}
use Rattle.voice_model.specs.Base.{base_of}
use Rattle.voice_model.specs.Base as changes
use Rattle.voice_model.specs.Places.{IsPlaced, AllUsed}
use Rattle.voice_model.specs.Valid.{Every, IsRebuilt}
use Rattle.voice_model.proofs.Order.{every_ordered}
use Rattle.voice_model.specs.declared.calls.Call.{Call}
use Rattle.voice_model.specs.declared.calls.Reply.{Reply}
use Rattle.voice_model.specs.declared.calls.Reply.TheVariants as replies
use Rattle.voice_model.specs.declared.calls.Why.TheVariants as why
use Rattle.voice_model.specs.declared.changes.Change.{Change}
use Rattle.voice_model.proofs.BaseSize.{base_sized}
use Rattle.journal_readings.specs.Readings.{Rebuild}
use Rattle.journal_readings.proofs.Replays as replays
use Rattle.recovery.specs.Shown.{Shows, plain_sample}
use Rattle.checkpoint.specs.Blocks.{IsHeld as IsAt}
use Rattle.running_tables.specs.Running.{Runs, GivesJust}
use Rattle.recovery.specs.declared.parts.Parts.{Parts}
use Rattle.crash_laws.specs.Standing.{IsHeld}
use Rattle.crash_laws.specs.Calls.{IsBase, IsCommitted}
use Rattle.crash_laws.specs.Laws.{IsReadBack}
use Rattle.crash_laws.specs.Foundations.{Foundations}
use Rattle.crash_laws.proofs.Commits.{acted_form, switches_carry}
use Rattle.voice_store.specs.declared.inside.Inside.{Inside}
use Rattle.voice_store.specs.declared.going.Going.{Going}
use Rattle.voice_store.specs.declared.committing.Base.{Base}
use Rattle.voice_store.specs.declared.committing.Plan.{Plan}
use Rattle.voice_store.specs.declared.committing.Plan.TheVariants as plans
use Rattle.voice_store.specs.Stood.{tapes_of, last_of, in_form, Fills, IsSeated}
use Rattle.voice_store.specs.Ways.{FitsOther}
use Rattle.voice_store.specs.Trying.{Trying, IsBaseOf, IsPlan, CanGo, place_of}
use Rattle.recovery.proofs.Rebuilding.{acted_shape}
use Rattle.voice_store.proofs.Bases.{above_leb}
use Rattle.rope_table.specs.Table.{pairs_in}
use Rattle.voice_store.proofs.Played.{changed_shape}
use Rattle.voice_store.proofs.Appended.{committed_by, appended}
use Rattle.voice_store.proofs.Planned.{Planned, known, closed, done, said, next_done, waits}

-- where the frame does not fit, a base goes into the other area
pub fits_other : (s : State) (effect : Effect Tagged) → s.left < frame_size s.form s.kept.shape.block effect → committed s s.form effect ≡ committed_by false s effect
fits_other s effect long = ap (λ (b : Bool). committed_by b s effect) (above_leb (frame_size s.form s.kept.shape.block effect) s.left long)

-- what a base reads back as is shown by the same tables, in the form of the base
pub shown_read_back : (held : List (List Piece)) (takings : List ℕ) (parts : Parts) (x end : Rebuilt) (to : ℕ) → Runs held [] takings parts x → end.kept ≡ x.kept → end.places ≡ changes.in_order x.places → end.form ≡ to
    → IsRebuilt plain_sample end → IsPlaced end → AllUsed end → Runs held [] takings (in_form to parts) end
shown_read_back held takings parts x end to runs kept places form valid placed used = record {
  kept = subst (λ (d : Durable Spot). Shows held (in_form to parts) d) (sym kept) (record {
    block = runs.kept.block;
    ropes = runs.kept.ropes;
    uses = runs.kept.uses;
    rows = runs.kept.rows;
    moment = runs.kept.moment;
    next = runs.kept.next;
  });
  size = runs.size ∙ ap (λ (d : Durable Spot). d.shape.blocks) (sym kept);
  addresses = subst (λ ps. Every (IsAt parts.blocks.holders) ps) (sym places) (every_ordered (IsAt parts.blocks.holders) x.places runs.addresses);
  given = subst (λ (d : Durable Spot). GivesJust parts.blocks.holders (used_pairs d) (pairs_in d.shape.block (held ++ [])) takings) (sym kept) runs.given;
  below = subst (λ (d : Durable Spot). Every (λ pair. pair.file < d.next) (pairs_in d.shape.block held)) (sym kept) runs.below;
  in_form = sym form;
  valid = valid;
  placed = placed;
  used = used;
}

module _ {first : State} {t0 : ℕ} {old : Told} {s : Inside} {b : Rebuilt} {going : Going} {c : Change} {effect : Effect Tagged} {caller : ℕ} {call : Call} {reply : Reply}
    (tr : Trying first t0 old s b going c effect caller call reply) (laws : Foundations) (base : Base)
    (is_base : IsBaseOf s.journal.shape (acted b c) base) (fits : FitsOther (last_of first s) effect) (room : framed_size base.payloads + 17 ≤ s.journal.shape.area) where
  abbrev last : State
  last = last_of first s

  abbrev x : Rebuilt
  x = acted b c

  abbrev Reached : Type 0
  Reached =
      (end : Rebuilt) × Rebuild (switched_to (formatted x.shape) (map spelling (base_of base.form x))) end × (end.kept ≡ x.kept) × (end.form ≡ base.form) × (end.places ≡ changes.in_order x.places)
      × ((image : List ℕ) → recovered image end ≡ recovered image x)

  reached : Reached
  reached = replays.switch (formatted x.shape) base.form x is_base.valid is_base.placed is_base.used is_base.can refl

  abbrev end : Rebuilt
  end = reached.0

  is_then : done tr ≡ committed_by false (closed tr) effect
  is_then = fits_other (closed tr) effect fits.behind

  later_kept : durable_by tr.fill x.kept ≡ changed last.form last.kept effect
  later_kept = tr.brings_it.kept

  x_form : x.form ≡ last.form
  x_form = acted_form b c (known tr).kind ∙ tr.upright.fills.form

  size_of_base : (form : ℕ) → changes.framed_size (base_of form x) ≡ base_size form (changed last.form last.kept effect)
  size_of_base form = base_sized tr.fill tr.brings_it.spots form x is_base.placed is_base.used ∙ ap (λ (d : Durable Tagged). base_size form d) later_kept

  -- the form that the base has is the one that the definitions give
  to_form : base.form ≡ form_after_switch last.form (changed last.form last.kept effect)
  to_form =
      is_base.form
      ∙ ap (λ (f : ℕ). cond ((f == 2) || nat_le (changes.framed_size (base_of 2 x)) (s.journal.shape.area - 17)) 2 1) x_form
      ∙ ap (λ (n : ℕ). cond ((last.form == 2) || nat_le n (s.journal.shape.area - 17)) 2 1) (size_of_base 2)
      ∙ ap (λ (a : Shape). cond ((last.form == 2) || nat_le (base_size 2 (changed last.form last.kept effect)) (a.area - 17)) 2 1) (sym (changed_shape last.form last.kept effect ∙ tr.upright.seated.shape))

  fills_then : Fills tr.fill end (done tr)
  fills_then = subst (λ (t : State). Fills tr.fill end t) (sym is_then) (record {
    spots = tr.brings_it.spots;
    kept = ap (λ (d : Durable Spot). durable_by tr.fill d) (reached).2 ∙ later_kept;
    form = (reached).3 ∙ to_form;
  })

  seated_then : IsSeated (record s.journal { seat = landed_seat s.journal.seat (place_of going (plans.Switch base)) }) (done tr)
  seated_then =
      let was = tr.upright.seated in
      let size = is_base.size ∙ size_of_base base.form ∙ ap (λ (f : ℕ). base_size f (changed last.form last.kept effect)) to_form in
      let area : last.kept.shape.area ≡ s.journal.shape.area = ap (λ (x : Shape). x.area) was.shape in
      let epoch = was.epoch in
      subst (λ (t : State). IsSeated (record s.journal { seat = landed_seat s.journal.seat (place_of going (plans.Switch base)) }) t) (sym is_then)
      (record { shape = changed_shape last.form last.kept effect ∙ was.shape; left = omega (arith, size, area, room); epoch = omega (arith, epoch) })

  tables_then : (held : List (List Piece)) (takings : List ℕ) (parts : Parts) → Runs held [] takings parts x → Runs held [] takings (in_form base.form parts) end
  tables_then held takings parts shows =
      let v = replays.valid (switched_to (formatted x.shape) (map spelling (base_of base.form x))) end (reached).1 in
      shown_read_back held takings parts x end base.form shows (reached).2 (reached).4 (reached).3 v.0 v.1 v.2

  spells : IsTrue old.honest → IsBase old.bytes last effect b base.form base.payloads x
  spells h = record {
    spelled = is_base.spelled;
    valid = is_base.valid;
    placed = is_base.placed;
    used = is_base.used;
    can = is_base.can;
    in_shape = acted_shape b c;
    does = tr.does h;
  }

  -- what was reached is one thing
  same_end : (other : Rebuilt) → IsReadBack base.form x other → other ≡ end
  same_end other back = replays.once (switched_to (formatted x.shape) (map spelling (base_of base.form x))) other end back.rebuilds (reached).1

  committed_then : (calls : ℕ) → IsCommitted last effect base.form (state_after last (tapes_of s) (said tr reply calls))
  committed_then calls =
      let is = next_done tr calls ∙ is_then in
      record { kept = ap (λ (t : State). t.kept) is; doubt = ap (λ (t : State). t.doubt) is ∙ tr.may.sure; form = ap (λ (t : State). t.form) is ∙ sym to_form }

  pub switched : Planned tr (plans.Switch base)
  switched = record {
    after = end;
    fills = fills_then;
    seated = seated_then;
    tables = tables_then;
    places = λ holders there. subst (λ ps. Every (IsAt holders) ps) (sym (reached).4) (every_ordered (IsAt holders) x.places there);
    held_done = λ new journal h moments does stays.
        let e = said tr reply new.calls in
        let got = (switches_carry laws old new).ok first (tapes_of s) t0 s.journal journal b b s.history.items effect base.form base.payloads x e moments (tr.upright.held h) tr.may.sure (spells h) does stays refl (committed_then new.calls) in
        subst (λ (r : Rebuilt). IsHeld first (tapes_of s) t0 journal new r r (s.history.items ++ e ∷ [])) (same_end got.0 got.1) got.2;
    held_waits = λ new journal h moments doubts stays.
        let e = said tr (replies.No why.InDoubt) new.calls in
        let got = (switches_carry laws old new).doubt first (tapes_of s) t0 s.journal journal b b s.history.items effect base.form base.payloads x e moments (tr.upright.held h) tr.may.sure (spells h) doubts stays refl
        (fits.behind, to_form, waits tr new.calls) in
        subst (λ (r : Rebuilt). IsHeld first (tapes_of s) t0 journal new b r (s.history.items ++ e ∷ [])) (same_end got.0 got.1) got.2;
  }

-- what a plan leaves, whichever it is
pub planned : {first : State} {t0 : ℕ} {old : Told} {s : Inside} {b : Rebuilt} {going : Going} {c : Change} {effect : Effect Tagged} {caller : ℕ} {call : Call} {reply : Reply}
    → (tr : Trying first t0 old s b going c effect caller call reply) → Foundations → (plan : Plan) → IsPlan s.journal (last_of first s) effect (acted b c) plan → CanGo s.journal going plan → Planned tr plan
planned tr laws plans.Append fits can = appended tr laws fits
planned tr laws (plans.Switch base) is can = switched tr laws base is.1 is.0 can.0
