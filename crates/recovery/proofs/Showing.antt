-- What the tables show after a step of a change.
use Rattle.std.proofs.Common.{◌≡◌, ℕ, suc, ◌+◌, ◌≤◌, ◌<◌, ◌==◌, true, false, cond, nat_lt, List, [], ◌∷◌, ◌++◌, map, length, Option, None, refl, sym, ◌∙◌, ap, arith}
use Rattle.std.specs.Prelude.{is_some, option_map}
use Rattle.voice_units.specs.Blocks.{BlockPair, has_pair, pairs_at}
use Rattle.voice_model.specs.Replay.{used_pairs}
use Rattle.voice_model.proofs.PlacesKept.{all_samples}
use Rattle.voice_units.specs.declared.pieces.Piece.{Piece}
use Rattle.voice_units.specs.declared.shapes.Graces.{Graces}
use Rattle.voice_units.specs.Spots.{Spot, pieces_of}
use Rattle.voice_model.specs.State.{Durable, Live, rope_at, is_live, row_at, has_row, with_rows, class_number}
use Rattle.voice_model.specs.Changes.{with_rope, changed}
use Rattle.voice_model.specs.State.Effect.{Retained, Forgotten}
use Rattle.voice_model.specs.declared.calls.Row.{Row}
use Rattle.voice_model.specs.declared.calls.Class.{Class}
use Rattle.interest_table.specs.Table.{rows_of}
use Rattle.rope_table.specs.declared.ropes.Rope.{Rope}
use Rattle.interest_table.proofs.Found.{others, all_stay}
use Rattle.rope_table.specs.Table as table
use Rattle.rope_table.specs.Table.{Table, Counts, rope_of, made_rope, held_back, uses_at, uses_in, pieces_in}
use Rattle.recovery.specs.Shown.{shown_rope, ShowsKept, RowsGone, IsOrderly, left_idle}
use Rattle.recovery.proofs.Ropes.{shown_as, rope_of-shown, some_mapped, put_last, not_live, no_row_of, held_shown, unsettled, all_settled, last_for, some_rows, uses_shown}

-- a rope comes last
pub rope_shown : (held : List (List Piece)) (form : ℕ) (d : Durable Spot) (old new : Table) (rows : List Row) (moment next id : ℕ) (samples : List Spot) (wait : ℕ)
    → ShowsKept held old rows moment next d → IsOrderly form d → d.next ≤ id → wait ≡ d.shape.graces.common
    → new.ropes ≡ table.with_rope (made_rope id (pieces_of samples) moment 0 wait) old.ropes → new.block ≡ old.block → Counts new held
    → ShowsKept held new rows moment (id + 1) (with_rope d id samples)
rope_shown held form d old new rows moment next id samples wait h orderly later waits ropes block uses =
    let rope : Live Spot = record { id = id; samples = samples; idle = d.moment; last = 0 } in
    let g = d.shape.graces in
    let fresh : has_row d.rows id ≡ false = no_row_of d.ropes d.rows id orderly.rows_live (not_live 1 d.ropes d.next id orderly.rising later) in
    record {
      block = block ∙ h.block;
      ropes =
          ropes ∙ ap (λ m. table.with_rope (made_rope id (pieces_of samples) m 0 wait) old.ropes) h.moment
          ∙ ap (λ w. table.with_rope (made_rope id (pieces_of samples) d.moment 0 w) old.ropes) waits
          ∙ ap (λ k. table.with_rope (shown_as g k rope) old.ropes) (sym fresh)
          ∙ ap (table.with_rope (shown_rope g d.rows rope)) h.ropes
          ∙ put_last g d.rows 1 d.ropes d.next rope orderly.rising later;
      uses = uses;
      rows = h.rows;
      moment = h.moment;
      next = refl;
    }

-- a row comes
pub row_shown : (held : List (List Piece)) (form : ℕ) (d : Durable Spot) (old new : Table) (before after : List Row) (moment next : ℕ) (row : Row)
    → ShowsKept held old before moment next d → new.ropes ≡ map (held_back row.rope true) old.ropes → new.block ≡ old.block → Counts new held → after ≡ before ++ row ∷ []
    → ShowsKept held new after moment next (changed form d (Retained row))
row_shown held form d old new before after moment next row h ropes block uses rows = record {
  block = block ∙ h.block;
  ropes = ropes ∙ ap (map (held_back row.rope true)) h.ropes ∙ held_shown d.shape.graces d.rows row d.ropes;
  uses = uses;
  rows = rows ∙ ap (λ l. l ++ row ∷ []) h.rows;
  moment = h.moment;
  next = h.next;
}

-- rows went, and each of their ropes that has none any more is idle since now
pub rows_shown : (held : List (List Piece)) (form class : ℕ) (ids : List ℕ) (graces : Graces) (d : Durable Spot) (old new : Table) (after : List Row) (moment next : ℕ)
    → ShowsKept held old d.rows moment next d → RowsGone ids d.rows after → IsOrderly form d → d.shape.graces ≡ graces
    → new.ropes ≡ map (left_idle form graces moment class after ids) old.ropes → new.block ≡ old.block → Counts new held
    → ShowsKept held new after moment next (with_rows form class d after)
rows_shown held form class ids graces d old new after moment next h gone orderly same ropes block uses = record {
  block = block ∙ h.block;
  ropes =
      ropes ∙ ap (λ m. map (left_idle form graces m class after ids) old.ropes) h.moment
      ∙ ap (λ g. map (left_idle form g d.moment class after ids) old.ropes) (sym same)
      ∙ ap (map (left_idle form d.shape.graces d.moment class after ids)) h.ropes
      ∙ all_settled d.shape.graces form d.moment class d.rows after ids gone d.ropes (last_for form class (cond (form == 2) class 0) d.ropes orderly.lasts refl);
  uses = uses;
  rows = refl;
  moment = h.moment;
  next = h.next;
}

-- no row went
pub none_gone : (held : List (List Piece)) (form : ℕ) (d : Durable Spot) (old : Table) (before after : List Row) (moment next : ℕ) (class : Class) (key : List ℕ)
    → ShowsKept held old before moment next d → row_at before class key ≡ None → after ≡ others class key before → ShowsKept held old after moment next (changed form d (Forgotten class key))
none_gone held form d old before after moment next class key h none is =
    let stay : others class key d.rows ≡ d.rows = all_stay class key d.rows (ap (λ l. row_at l class key) (sym h.rows) ∙ none) in record {
      block = h.block;
      ropes =
          h.ropes ∙ unsettled d.shape.graces form d.moment (class_number class) d.rows (others class key d.rows) (λ id. ap (λ l. has_row l id) stay) d.ropes;
      uses = h.uses;
      rows = is ∙ ap (others class key) h.rows;
      moment = h.moment;
      next = h.next;
    }

-- a rope is live where the table has it
pub live_shown : (held : List (List Piece)) (d : Durable Spot) (old : Table) (rows : List Row) (moment next id : ℕ) (o : Option ℕ)
    → ShowsKept held old rows moment next d → o ≡ table.wait_at old.ropes id → is_live d.ropes id ≡ is_some o
live_shown held d old rows moment next id o h e =
    sym (ap is_some e ∙ some_mapped (λ (rope : Rope). rope.wait) (rope_of old.ropes id)
    ∙ ap (λ l. is_some (rope_of l id)) h.ropes ∙ ap is_some (rope_of-shown d.shape.graces d.rows d.ropes id) ∙ some_mapped (shown_rope d.shape.graces d.rows) (rope_at d.ropes id))

-- how many rows a rope has
pub has_some : (n id : ℕ) (rows : List Row) → n ≡ rows_of id rows → 0 < n → has_row rows id ≡ true
has_some n id rows e h = sym (some_rows rows id) ∙ ap (nat_lt 0) (sym e) ∙ above n h
  where
    above : (n : ℕ) → 0 < n → nat_lt 0 n ≡ true
    above n h = grind arith

pub has_none : (n id : ℕ) (rows : List Row) → n ≡ rows_of id rows → n ≤ 0 → has_row rows id ≡ false
has_none n id rows e h = sym (some_rows rows id) ∙ ap (nat_lt 0) (sym e) ∙ below n h
  where
    below : (n : ℕ) → n ≤ 0 → nat_lt 0 n ≡ false
    below n h = grind arith

-- room was made
pub reserved_shown : (held : List (List Piece)) (d : Durable Spot) (old new : Table) (rows : List Row) (moment next : ℕ) → ShowsKept held old rows moment next d
    → new.ropes ≡ old.ropes → new.block ≡ old.block → ((pair : BlockPair) → uses_at new pair ≡ uses_at old pair) → ShowsKept held new rows moment next d
reserved_shown held d old new rows moment next h ropes block uses = record {
  block = block ∙ h.block;
  ropes = ropes ∙ h.ropes;
  uses = λ pair. uses pair ∙ h.uses pair ∙ ap (λ l. uses_in old.block (pieces_in l) pair + uses_in old.block held pair) (sym ropes) ∙ ap (λ n. uses_in n (pieces_in new.ropes) pair + uses_in n held pair) (sym block);
  rows = h.rows;
  moment = h.moment;
  next = h.next;
}

-- a block is in use where a live rope has it, as long as no passage is held
pub used_shown : (d : Durable Spot) (old : Table) (rows : List Row) (moment next : ℕ) → ShowsKept [] old rows moment next d → (pair : BlockPair) → nat_lt 0 (uses_at old pair) ≡ has_pair (used_pairs d) pair
used_shown d old rows moment next h pair =
    ap (nat_lt 0) (h.uses pair ∙ (let e : uses_in old.block (pieces_in old.ropes) pair + 0 ≡ uses_in old.block (pieces_in old.ropes) pair = omega arith in e) ∙ ap (λ l. uses_in old.block (pieces_in l) pair) h.ropes)
    ∙ uses_shown d.shape.graces d.rows old.block d.ropes pair ∙ ap (λ n. has_pair (pairs_at n (all_samples d.ropes)) pair) h.block

-- a number that may come next is not live
pub fresh_shown : (held : List (List Piece)) (form : ℕ) (d : Durable Spot) (old : Table) (rows : List Row) (moment next id : ℕ) → ShowsKept held old rows moment next d → IsOrderly form d → d.next ≤ id → rope_of old.ropes id ≡ None
fresh_shown held form d old rows moment next id h orderly later =
    ap (λ l. rope_of l id) h.ropes ∙ rope_of-shown d.shape.graces d.rows d.ropes id ∙ ap (option_map (shown_rope d.shape.graces d.rows)) (not_live 1 d.ropes d.next id orderly.rising later)

pub pieces_few : (ropes : List Rope) → length (pieces_in ropes) ≡ length ropes
pieces_few [] = refl
pieces_few (rope ∷ ropes) = ap suc (pieces_few ropes)
