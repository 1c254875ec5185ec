-- A new pool's table meets its rule.
use Rattle.std.proofs.Common.{◌≡◌, ℕ, zero, suc, List, [], ◌∷◌, get_or, refl, sym, subst, inr, arith}
use Rattle.std.specs.Prelude.{replicate}
use mathlib.Core.Option.{some, some-injective, some-ne-none}
use lib.ListN.{get_elem?}
use Rattle.std.proofs.lemmas.List.{length-replicate}
use Rattle.atomic_table.specs.Table.{opening}
use Rattle.frame_pool.specs.declared.views.Sizes.{Sizes}
use Rattle.frame_pool.specs.declared.views.LeaseView.{LeaseView}
use Rattle.frame_pool.specs.declared.views.View.TheVariants.{Keeper, Lease}
use Rattle.frame_pool.specs.Words.{lane_word, hint_word, word_count}
use Rattle.frame_pool.specs.Rule.{idle_lane, opened, Stands, Kept, Ruled}

abbrev pub zeros : ℕ → List ℕ
zeros n = replicate n 0

pub all_zero : (n i : ℕ) → get_or (zeros n) i 0 ≡ 0
all_zero zero i = refl
all_zero (suc n) zero = refl
all_zero (suc n) (suc i) = all_zero n i

pub same_there : {A : Type 0} (n i : ℕ) (x y : A) → get_elem? (replicate n x) i ≡ some y → x ≡ y
same_there zero i x y e = absurd (some-ne-none y (sym e))
same_there (suc n) zero x y e = some-injective x y e
same_there (suc n) (suc i) x y e = same_there n i x y e

idle_stands : (n lanes l : ℕ) → Stands (zeros n) lanes l idle_lane
idle_stands n lanes l = record {
  hint = all_zero n (hint_word lanes l);
  bit = omega arith;
  free = λ _. all_zero n (lane_word l);
  reserved = λ ps e. absurd (cc);
  ended = λ m e. all_zero n (lane_word l);
  marked = λ e _. absurd (omega arith);
  told = λ e. e;
  known = inr refl;
}

no_lease : {P : Type 0} (z : Sizes) (id : ℕ) (h : LeaseView) → get_elem? (Keeper (opened z) ∷ []) id ≡ some (Lease h) → P
no_lease z zero h e = absurd (cc (some-injective _ _ e))
no_lease z (suc id) h e = absurd (some-ne-none _ (sym e))

pub opens : (z : Sizes) (ws : List ℕ) → ws ≡ zeros (word_count z.lanes) → Ruled (opening {S = List Rattle.frame_pool.specs.declared.views.Part.Part} ws [] (Keeper (opened z)))
opens z ws is = subst (λ (w : List ℕ). (k : Rattle.frame_pool.specs.declared.views.KeeperView.KeeperView) × Kept w (Keeper (opened z) ∷ []) k) (sym is) (
  opened z,
  record {
    seated = refl;
    wide = length-replicate _ _;
    counted = length-replicate _ _;
    lanes = λ l d e. subst (Stands (zeros (word_count z.lanes)) z.lanes l) (same_there z.lanes l idle_lane d e) (idle_stands _ z.lanes l);
    leases = λ id h e. no_lease z id h e;
    once = λ i j h g e f same. no_lease z i h e;
  },
)
