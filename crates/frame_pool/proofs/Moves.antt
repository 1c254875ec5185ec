-- What each step of the keeper needs in order to keep the rule.
use Rattle.std.proofs.Common.{◌≡◌, ℕ, zero, suc, ◌<◌, List, [], ◌∷◌, length, get_or, set, refl, sym, ap, ◌∙◌, subst, ⊎_elim, arith}
use mathlib.Core.Option.{some, some-injective, some-ne-none}
use lib.ListN.{get_elem?}
use Rattle.atomic_table.specs.Table.{State}
use Rattle.atomic_table.proofs.Lists.{at_set, set_here}
use Rattle.frame_pool.specs.declared.views.Parts.{Parts}
use Rattle.frame_pool.specs.declared.views.Sizes.{Sizes}
use Rattle.frame_pool.specs.declared.views.LaneState.{LaneState}
use Rattle.frame_pool.specs.declared.views.KeeperView.{KeeperView}
use Rattle.frame_pool.specs.declared.views.LeaseView.{LeaseView}
use Rattle.frame_pool.specs.declared.views.View.{View}
use Rattle.frame_pool.specs.declared.views.View.TheVariants.{Keeper, Lease}
use Rattle.frame_pool.specs.Words.{lane_word, hint_word, word_count}
use Rattle.frame_pool.specs.Rule.{Stands, Bound, Kept, Ruled}
use Rattle.frame_pool.specs.Steps.{Seated, keeper_view, IsKeeper}

abbrev pub keeping : KeeperView → Seated
keeping k = (Keeper k, [])

module _ {A : Type 0} where
  pub there_lt : (l : List A) (i : ℕ) (a : A) → get_elem? l i ≡ some a → i < length l
  there_lt [] i a e = absurd (some-ne-none a (sym e))
  there_lt (x ∷ xs) zero a e = omega arith
  there_lt (x ∷ xs) (suc i) a e = omega (arith, there_lt xs i a e)

  pub get_there : (l : List A) (i : ℕ) (a d : A) → get_elem? l i ≡ some a → get_or l i d ≡ a
  get_there [] i a d e = absurd (some-ne-none a (sym e))
  get_there (x ∷ xs) zero a d e = some-injective x a e
  get_there (x ∷ xs) (suc i) a d e = get_there xs i a d e

  pub there_get : (l : List A) (i : ℕ) (d : A) → i < length l → get_elem? l i ≡ some (get_or l i d)
  there_get [] i d h = absurd (omega arith)
  there_get (x ∷ xs) zero d h = refl
  there_get (x ∷ xs) (suc i) d h = there_get xs i d (omega arith)

pub keeper_inj : (k w : KeeperView) → Keeper k ≡ Keeper w → k ≡ w
keeper_inj k w e = cc

pub lease_inj : (h e : LeaseView) → Lease h ≡ Lease e → h ≡ e
lease_inj h e q = cc

pub keeper_not_lease : {P : Type 0} (k : KeeperView) (h : LeaseView) → Keeper k ≡ Lease h → P
keeper_not_lease k h e = absurd (cc)

pub kept_at : (s : State Parts View) (k : KeeperView) → Ruled s → get_elem? s.views 0 ≡ some (Keeper k) → Kept s.words s.views k
kept_at s k o me = subst (λ (q : KeeperView). Kept s.words s.views q) (keeper_inj o.0 k (some-injective _ _ (sym o.1.seated ∙ me))) o.1

pub as_keeper : (z : Sizes) (id : ℕ) (m : Seated) → IsKeeper z id m → (P : ℕ → Seated → Type 0) → P 0 (Keeper (keeper_view m.0), []) → P id m
as_keeper z id m is P x = subst (λ (y : ℕ × Seated). P y.0 y.1) (λ i. (sym is.first i, sym is.me i)) x

-- the keeper's view and the words change
pub keeps_on : (ws ws' : List ℕ) (views : List View) (k k' : KeeperView) → Kept ws views k
    → k'.sizes ≡ k.sizes → length ws' ≡ length ws → length k'.lane_states ≡ length k.lane_states
    → ((l : ℕ) (d : LaneState) → get_elem? k'.lane_states l ≡ some d → Stands ws' k'.sizes.lanes l d)
    → ((id : ℕ) (h : LeaseView) → get_elem? views id ≡ some (Lease h) → Bound ws k h → Bound ws' k' h)
    → Kept ws' (set views 0 (Keeper k')) k'
keeps_on ws ws' views k k' o sizes long lane_states lanes leases =
    let other : (id : ℕ) (h : LeaseView) → get_elem? (set views 0 (Keeper k')) id ≡ some (Lease h) → get_elem? views id ≡ some (Lease h) =
    λ id h e. ⊎_elim (λ t. keeper_not_lease k' h t.1) (λ t. t.1) (at_set views 0 id (Keeper k') (Lease h) e) in
    record {
      seated = set_here views 0 (Keeper k') (there_lt views 0 (Keeper k) o.seated);
      wide = long ∙ o.wide ∙ ap (λ (z : Sizes). word_count z.lanes) (sym sizes);
      counted = lane_states ∙ o.counted ∙ ap (λ (z : Sizes). z.lanes) (sym sizes);
      lanes = lanes;
      leases = λ id h e. leases id h (other id h e) (o.leases id h (other id h e));
      once = λ i j h e g f same. o.once i j h e (other i h g) (other j e f) same;
    }

pub stands_same : (ws ws' : List ℕ) (lanes l : ℕ) (d : LaneState) → get_or ws' (hint_word lanes l) 0 ≡ get_or ws (hint_word lanes l) 0 → get_or ws' (lane_word l) 0 ≡ get_or ws (lane_word l) 0
    → Stands ws lanes l d → Stands ws' lanes l d
stands_same ws ws' lanes l d hint lane s = record {
  hint = hint ∙ s.hint;
  bit = s.bit;
  free = λ e. lane ∙ s.free e;
  reserved = λ ps e. lane ∙ s.reserved ps e;
  ended = λ n e. lane ∙ s.ended n e;
  marked = s.marked;
  told = s.told;
  known = s.known;
}
