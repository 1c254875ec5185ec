-- The last blocks of an open recording get free.
use Rattle.std.proofs.Common.{◌≡◌, ℕ, ◌+◌, ◌≤◌, ◌<◌, ◌==◌, Bool, true, false, cond, ◌&&◌, ◌||◌, nat_lt, List, ◌++◌, Option, Some, None, refl, sym, ◌∙◌, ap, subst, arith}
use Rattle.std.specs.Prelude.{nat_le}
use Rattle.std.proofs.lemmas.Bool.{eqb-true, eq-eqb, lt-ltb, ltb-true, ltb-false, le-leb}
use Rattle.std.proofs.lemmas.Bool.Decides.{nat_tests}
use Rattle.voice_units.specs.declared.pieces.Piece.{Piece}
use Rattle.voice_units.specs.Blocks.{BlockPair}
use Rattle.voice_model.specs.Replay.{Rebuilt, used_pairs}
use Rattle.voice_model.proofs.KeptByChanges.{every-imply}
use Rattle.voice_blocks.specs.Holders.{Holders, EachBecomes, holder_at, block_of, same_owner, same_holder, without_block}
use Rattle.voice_blocks.specs.declared.owner.Owner.{Owner}
use Rattle.voice_blocks.specs.declared.owner.Owner.TheVariants.{File, Taking}
use Rattle.voice_blocks.specs.declared.owner.Holder.{Holder}
use Rattle.rope_table.specs.Table.{pairs_in}
use Rattle.checkpoint.specs.Blocks.{IsHeld}
use Rattle.recovery.specs.declared.parts.Parts.{Parts}
use Rattle.recovery.specs.Shown.{Shows}
use Rattle.running_tables.specs.Running.{Runs, taken, is_wanted, GivesJust, IsGiven}
use Rattle.running_tables.specs.Laws.{HasGrown}
use Rattle.next_ropes.specs.Addresses.{KeepsAddresses}
use Rattle.open_recordings.specs.Blocks.{without_from}

-- ---- they are dropped one by one

one_more : (from a i : ℕ) → from ≤ i → (nat_le from a && nat_lt a (i + 1)) ≡ ((nat_le from a && nat_lt a i) || (i == a))
one_more from a i low = grind (arith, nat_tests, low)

block_dropped : (h block : Holder) (s l m e : Bool) → same_holder block h ≡ (s && e) → m ≡ (l || e) → without_block block (cond (s && l) None (Some h)) ≡ cond (s && m) None (Some h)
block_dropped h block false l m e same more = ap (λ t. cond t None (Some h)) same
block_dropped h block true true m e same more = ap (λ t. cond t None (Some h)) (sym more)
block_dropped h block true false m e same more = ap (λ t. cond t None (Some h)) (same ∙ sym more)

none_between : (s : Bool) (from a : ℕ) → (s && (nat_le from a && nat_lt a from)) ≡ false
none_between false from a = refl
none_between true from a = grind (arith, nat_tests)

pub from-step : (owner : Owner) (from i : ℕ) (v : Option Holder) → from ≤ i → without_block (block_of owner i) (without_from owner from i v) ≡ without_from owner from (i + 1) v
from-step owner from i None low = refl
from-step owner from i (Some h) low = block_dropped h (block_of owner i) (same_owner owner h.owner) (nat_le from h.index && nat_lt h.index i) (nat_le from h.index && nat_lt h.index (i + 1)) (i == h.index) refl (one_more from h.index i low)

pub from-none : (owner : Owner) (from : ℕ) (v : Option Holder) → v ≡ without_from owner from from v
from-none owner from None = refl
from-none owner from (Some h) = ap (λ t. cond t None (Some h)) (sym (none_between (same_owner owner h.owner) from h.index))

-- ---- what is left

-- what is held after it was held before, and is not one of those
left : (owner : Owner) (from end : ℕ) (o : Option Holder) (h : Holder) → without_from owner from end o ≡ Some h → (o ≡ Some h) × ((same_owner owner h.owner && (nat_le from h.index && nat_lt h.index end)) ≡ false)
left owner from end None h e = cc
left owner from end (Some g) h e = by (same_owner owner g.owner && (nat_le from g.index && nat_lt g.index end)) refl
  where
    by : (t : Bool) → (same_owner owner g.owner && (nat_le from g.index && nat_lt g.index end)) ≡ t → (Some g ≡ Some h) × ((same_owner owner h.owner && (nat_le from h.index && nat_lt h.index end)) ≡ false)
    by true k = let none : None ≡ Some h = sym (ap (λ t. cond t None (Some g)) k) ∙ e in cc
    by false k =
        let same : Some g ≡ Some h = sym (ap (λ t. cond t None (Some g)) k) ∙ e in
        let one : g ≡ h = cc in
        (same, subst (λ (x : Holder). (same_owner owner x.owner && (nat_le from x.index && nat_lt x.index end)) ≡ false) one k)

pub shrunk_keeps : (owner : Owner) (from end : ℕ) (old new : Holders) → EachBecomes (without_from owner from end) old new → KeepsAddresses old new
shrunk_keeps owner from end old new becomes a h e = (left owner from end (holder_at old a) h (sym (becomes.each a) ∙ e)).0

module _ (old new : Holders) (pairs others : List BlockPair) (takings more : List ℕ) (lane n : ℕ) (grown : HasGrown lane n takings more)
    (becomes : EachBecomes (without_from (Taking lane) (taken takings lane) (taken takings lane + n)) old new) (gives : GivesJust old pairs others more) where
  abbrev from : ℕ
  from = taken takings lane

  was : (a : ℕ) (h : Holder) → holder_at new a ≡ Some h → (holder_at old a ≡ Some h) × ((same_owner (Taking lane) h.owner && (nat_le from h.index && nat_lt h.index (from + n))) ≡ false)
  was a h e = left (Taking lane) from (from + n) (holder_at old a) h (sym (becomes.each a) ∙ e)

  -- of the lane's blocks those below are left
  below : (index : ℕ) → index < from + n → (nat_le from index && nat_lt index (from + n)) ≡ false → index < from
  below index less e = by (nat_lt index from) refl
    where
      by : (t : Bool) → nat_lt index from ≡ t → index < from
      by true k = ltb-true index from k
      by false k =
          let low = ltb-false index from k in
          let bad : true ≡ false = sym (ap (λ t. t && nat_lt index (from + n)) (le-leb from index low) ∙ lt-ltb index (from + n) less) ∙ e in cc

  still_wanted : (owner : Owner) (index : ℕ) → is_wanted pairs others more owner index ≡ true → (same_owner (Taking lane) owner && (nat_le from index && nat_lt index (from + n))) ≡ false → is_wanted pairs others takings owner index ≡ true
  still_wanted (File f) index e out = e
  still_wanted (Taking l) index e out = by (lane == l) refl
    where
      by : (t : Bool) → (lane == l) ≡ t → nat_lt index (taken takings l) ≡ true
      by true k =
          let same = eqb-true lane l k in
          let less : index < taken more lane = subst (λ x. index < taken more x) (sym same) (ltb-true index (taken more l) e) in
          let here = grown.here in
          let out_here : (nat_le from index && nat_lt index (from + n)) ≡ false = sym (ap (λ t. t && (nat_le from index && nat_lt index (from + n))) k) ∙ out in
          subst (λ x. nat_lt index (taken takings x) ≡ true) same (lt-ltb index from (below index (omega (arith, less, here)) out_here))
      by false k = ap (nat_lt index) (sym (grown.elsewhere l (λ i. let t = eq-eqb lane l (sym i) in cc))) ∙ e

  file_stays : (f index : ℕ) → IsGiven old (block_of (File f) index) → IsGiven new (block_of (File f) index)
  file_stays f index at = (at.0, becomes.each at.0 ∙ ap (without_from (Taking lane) from (from + n)) at.1)

  taking_stays : (l index : ℕ) → index < taken takings l → IsGiven new (block_of (Taking l) index)
  taking_stays l index less = by (lane == l) refl
    where
      stays : IsGiven old (block_of (Taking l) index) → (same_owner (Taking lane) (Taking l) && (nat_le from index && nat_lt index (from + n))) ≡ false → IsGiven new (block_of (Taking l) index)
      stays at out = (at.0, becomes.each at.0 ∙ ap (without_from (Taking lane) from (from + n)) at.1 ∙ ap (λ t. cond t None (Some (block_of (Taking l) index))) out)

      by : (t : Bool) → (lane == l) ≡ t → IsGiven new (block_of (Taking l) index)
      by true k =
          let same = eqb-true lane l k in
          let here = grown.here in
          let low : index < from = subst (λ x. index < taken takings x) (sym same) less in
          let within : index < taken more l = subst (λ x. index < taken more x) same (omega (arith, low, here)) in
          stays (gives.recordings l index within) (ap (λ t. t && (nat_le from index && nat_lt index (from + n))) k ∙ ap (λ t. t && nat_lt index (from + n)) (above index low))
        where
          above : (i : ℕ) → i < from → nat_le from i ≡ false
          above i under = grind (arith, nat_tests, under)
      by false k =
          let same = grown.elsewhere l (λ i. let t = eq-eqb lane l (sym i) in cc) in
          stays (gives.recordings l index (omega (arith, less, same))) (ap (λ t. t && (nat_le from index && nat_lt index (from + n))) k)

  gives_fewer : GivesJust new pairs others takings
  gives_fewer = record {
    only = λ a h e. let w = was a h e in still_wanted h.owner h.index (gives.only a h w.0) w.1;
    single = λ a c h e k. gives.single a c h (was a h e).0 (was c h k).0;
    passages = λ q e. file_stays q.file q.index (gives.passages q e);
    recordings = taking_stays;
  }

pub shrunk : (held pledged : List (List Piece)) (takings more : List ℕ) (old new : Parts) (b : Rebuilt) (lane from n : ℕ) → Runs held pledged more old b → Shows held new b.kept → new.form ≡ old.form
    → EachBecomes (without_from (Taking lane) from (from + n)) old.blocks.holders new.blocks.holders → taken takings lane ≡ from → HasGrown lane n takings more → Runs held pledged takings new b
shrunk held pledged takings more old new b lane from n runs shows form becomes has grows = record {
  kept = shows;
  size = becomes.count ∙ runs.size;
  addresses = every-imply (IsHeld old.blocks.holders) (IsHeld new.blocks.holders) (λ p e. becomes.each p.address ∙ ap (without_from (Taking lane) from (from + n)) e) b.places runs.addresses;
  given = gives_fewer old.blocks.holders new.blocks.holders (used_pairs b.kept) (pairs_in b.shape.block (held ++ pledged)) takings more lane n grows
      (subst (λ k. EachBecomes (without_from (Taking lane) k (k + n)) old.blocks.holders new.blocks.holders) (sym has) becomes) runs.given;
  below = runs.below;
  in_form = form ∙ runs.in_form;
  valid = runs.valid;
  placed = runs.placed;
  used = runs.used;
}
