-- The rope of a number changes what it is besides its samples: the parts of the table before and after.
use Rattle.std.proofs.Common.{◌≡◌, ℕ, ◌+◌, ◌<◌, ◌≤◌, List, [], ◌∷◌, length, map, Bool, true, false, ◌&&◌, ◌==◌, cond, Option, Some, None, refl, sym, ◌∙◌, ap, ap₂, subst, arith}
use Rattle.std.proofs.lemmas.Bool.{cond_both}
use Rattle.voice_units.specs.declared.Piece.{Piece}
use Rattle.rope_table.specs.declared.ropes.Rope.{Rope}
use Rattle.rope_table.specs.declared.ropes.Standing.{Standing}
use Rattle.rope_table.specs.declared.dues.Due.{Due}
use Rattle.rope_table.specs.Table.{Counts, is_sooner, rope_of, without_rope, with_due, due_at, index_of, uses_in, pieces_in, held_back}
use Rattle.rope_table.specs.Inside.{Ropes, Dues, Uses, IsWhole, seen, standing_of, standing_at, rested}
use Rattle.rope_table.proofs.InOrder.{Apart}
use Rattle.rope_table.proofs.ById.{changed, gone}
use Rattle.rope_table.proofs.Edited.{fewer_due, id_of, dues_apart, index_with, standing_found, standing_none}
use Rattle.rope_table.proofs.Wholes.{class_of, index_split, one_more, whole_changed, whole_same}

-- what no row kept isn't kept still
pub none_still : (still kept : Bool) → kept ≡ false → (still && kept) ≡ false
none_still true kept e = e
none_still false kept e = refl

-- a rope that a row keeps, or none
abbrev pub kept_as : Bool → Rope → Rope
kept_as kept rope = record rope { kept = kept }

-- a rope that is idle since this moment, which a row that kept it still does, or none
abbrev pub idle_as : ℕ → ℕ → ℕ → Bool → Rope → Rope
idle_as idle last wait still rope = record rope { idle = idle; last = last; wait = wait; kept = still && rope.kept }

-- when the ropes but that of a number are due
abbrev pub dues_without : ℕ → List Rope → List Due
dues_without id ropes = index_of (without_rope id ropes)

-- and with that of the number, where it is this besides its samples
abbrev dues_with : ℕ → List Rope → Standing → List Due
dues_with id ropes s = cond s.kept (dues_without id ropes) (with_due (due_at id s.idle s.wait) (dues_without id ropes))

-- the rope of a number changes, and so what it is besides its samples
pub record Changes (old new : Ropes) (dues : Dues) (counts : Uses) (id : ℕ) (g : Rope → Rope) (h : Standing → Standing) : Type 0 where
  pub named : (r : Rope) → (g r).id ≡ r.id
  pub same : (r : Rope) → (g r).pieces ≡ r.pieces
  pub class : (r : Rope) → r.last ≤ 3 → (g r).last ≤ 3
  pub shows : (r : Rope) → standing_of (g r) ≡ h (standing_of r)
  pub is : new.ropes ≡ map (changed id g) old.ropes
  pub whole : IsWhole old dues counts

pub keeps : (old new : Ropes) (dues : Dues) (counts : Uses) (id : ℕ) (kept : Bool) → IsWhole old dues counts → new.ropes ≡ map (held_back id kept) old.ropes → Changes old new dues counts id (kept_as kept) (λ was. record was { kept = kept })
keeps old new dues counts id kept whole is = record {
  named = λ r. refl;
  same = λ r. refl;
  class = λ r c. c;
  shows = λ r. refl;
  is = is;
  whole = whole;
}

pub rests : (old new : Ropes) (dues : Dues) (counts : Uses) (id idle last wait : ℕ) (still : Bool) → IsWhole old dues counts → new.ropes ≡ map (rested id idle last wait still) old.ropes → last ≤ 3 → Changes old new dues counts id (idle_as idle last wait still) (λ was. record { idle = idle; wait = wait; kept = still && was.kept })
rests old new dues counts id idle last wait still whole is least = record {
  named = λ r. refl;
  same = λ r. refl;
  class = λ r c. least;
  shows = λ r. refl;
  is = is;
  whole = whole;
}

same_pieces : (id : ℕ) (g : Rope → Rope) → ((r : Rope) → (g r).pieces ≡ r.pieces) → (ropes : List Rope) → pieces_in (map (changed id g) ropes) ≡ pieces_in ropes
same_pieces id g same [] = refl
same_pieces id g same (r ∷ ropes) = ap₂ (λ (p : List Piece) (l : List (List Piece)). p ∷ l) (cond_both (r.id == id) (g r) r (λ (q : Rope). q.pieces ≡ r.pieces) (λ e. same r) (λ e. refl)) (same_pieces id g same ropes)

module _ {old new : Ropes} {dues : Dues} {counts : Uses} {id : ℕ} {g : Rope → Rope} {h : Standing → Standing} (change : Changes old new dues counts id g h) where
  -- the uses are told as before
  pub counts_now : (later : Dues) (held : List (List Piece)) → Counts (seen old dues counts) held → Counts (seen new later counts) held
  counts_now later held was = λ q. was q ∙ ap (λ ps. uses_in counts.block ps q + uses_in counts.block held q) (sym (ap pieces_in change.is ∙ same_pieces id g change.same old.ropes))

  -- no rope has the number
  pub none_changed : ◌≡◌ {A = Option Standing} None (standing_at old.ropes id) → IsWhole new dues counts
  none_changed none = whole_same old new dues counts change.whole (change.is ∙ standing_none id g old.ropes none)

-- a rope has the number, and was this besides its samples
module _ {old new : Ropes} {dues : Dues} {counts : Uses} {id : ℕ} {g : Rope → Rope} {h : Standing → Standing} (change : Changes old new dues counts id g h) {was : Standing} (live : Some was ≡ standing_at old.ropes id) where
  it : (rope : Rope) × (rope_of old.ropes id ≡ Some rope) × (was ≡ standing_of rope)
  it = standing_found old.ropes id was live

  index_was : dues.dues ≡ dues_with id old.ropes was
  index_was =
      change.whole.ordered
      ∙ index_split id old.ropes it.0 change.whole.table.rising it.1
      ∙ ap (λ n. cond it.0.kept (dues_without id old.ropes) (with_due (due_at n it.0.idle it.0.wait) (dues_without id old.ropes))) (id_of id old.ropes it.0 it.1)
      ∙ ap (dues_with id old.ropes) (sym it.2)

  index_now : index_with (g it.0) (dues_without id old.ropes) ≡ dues_with id old.ropes (h was)
  index_now =
      ap (λ n. cond (g it.0).kept (dues_without id old.ropes) (with_due (due_at n (g it.0).idle (g it.0).wait) (dues_without id old.ropes))) (change.named it.0 ∙ id_of id old.ropes it.0 it.1)
      ∙ ap (dues_with id old.ropes) (change.shows it.0 ∙ ap h (sym it.2))

  whole_now : (later : Dues) → later.dues ≡ dues_with id old.ropes (h was) → dues.room ≤ later.room → IsWhole new later counts
  whole_now later is room =
      whole_changed old new dues later counts id g it.0 change.whole it.1 (change.named it.0 ∙ id_of id old.ropes it.0 it.1) (change.same it.0)
      (change.class it.0 (class_of id old.ropes it.0 it.1 change.whole.table.classes)) change.is (is ∙ sym index_now) room

  -- it is what it was
  pub unchanged : h was ≡ was → IsWhole new dues counts
  unchanged same = whole_now dues (index_was ∙ ap (dues_with id old.ropes) (sym same)) (omega arith)

  -- a rope that was kept isn't due
  pub kept_out : was.kept ≡ true → dues.dues ≡ dues_without id old.ropes
  kept_out kept = index_was ∙ ap (λ b. cond b (dues_without id old.ropes) (with_due (due_at id was.idle was.wait) (dues_without id old.ropes))) kept

  -- and one that was due leaves
  pub left_out : (left : Dues) (due : Due) → due ≡ due_at id was.idle was.wait → was.kept ≡ false → ((rest : List Due) → Apart is_sooner due rest → dues.dues ≡ with_due due rest → left.dues ≡ rest) → left.dues ≡ dues_without id old.ropes
  left_out left due named free leaves =
      leaves (dues_without id old.ropes) (subst (λ (d : Due). Apart is_sooner d (dues_without id old.ropes)) (sym named) (dues_apart (due_at id was.idle was.wait) (without_rope id old.ropes) (gone id old.ropes)))
      (index_was ∙ ap (λ b. cond b (dues_without id old.ropes) (with_due (due_at id was.idle was.wait) (dues_without id old.ropes))) free ∙ sym (ap (λ d. with_due d (dues_without id old.ropes)) named))

  -- without it there is room, and it is not yet there
  pub room_for_due : (mid : Dues) → mid.dues ≡ dues_without id old.ropes → dues.room ≤ mid.room → length mid.dues < mid.room
  room_for_due mid out room =
      let few = fewer_due (without_rope id old.ropes) in
      let more = one_more id old.ropes it.0 change.whole.table.rising it.1 in
      let is = ap length out in
      omega (arith, few, more, is, change.whole.room, room)

  pub apart_yet : (mid : Dues) (due : Due) (idle wait : ℕ) → mid.dues ≡ dues_without id old.ropes → due ≡ due_at id idle wait → Apart is_sooner due mid.dues
  apart_yet mid due idle wait out named =
      subst (λ (l : List Due). Apart is_sooner due l) (sym out)
      (subst (λ (d : Due). Apart is_sooner d (dues_without id old.ropes)) (sym named) (dues_apart (due_at id idle wait) (without_rope id old.ropes) (gone id old.ropes)))

  -- now it is kept
  pub still_out : (mid : Dues) → mid.dues ≡ dues_without id old.ropes → dues.room ≤ mid.room → (h was).kept ≡ true → IsWhole new mid counts
  still_out mid out room kept = whole_now mid (out ∙ sym (ap (λ b. cond b (dues_without id old.ropes) (with_due (due_at id (h was).idle (h was).wait) (dues_without id old.ropes))) kept)) room

  -- now it is due
  pub entered : (mid later : Dues) (due : Due) → mid.dues ≡ dues_without id old.ropes → dues.room ≤ mid.room → (h was).kept ≡ false → due ≡ due_at id (h was).idle (h was).wait → later.dues ≡ with_due due mid.dues → mid.room ≤ later.room → IsWhole new later counts
  entered mid later due out room free named is more =
      whole_now later
      (is ∙ ap (with_due due) out ∙ ap (λ d. with_due d (dues_without id old.ropes)) named ∙ sym (ap (λ b. cond b (dues_without id old.ropes) (with_due (due_at id (h was).idle (h was).wait) (dues_without id old.ropes))) free))
      (omega (arith, room, more))
