-- How many blocks a set has.
use Rattle.std.proofs.Common.{◌≡◌, suc, Bool, true, false, ◌&&◌, ◌||◌, cond, List, [], ◌∷◌, map, filter, length, refl, sym, ◌∙◌, ap}
use Rattle.std.specs.HashSet.{HashSet}
use Rattle.std.specs.List.{IsDistinct, AllByRecursion, list_any}
use Rattle.voice_units.specs.Blocks.{BlockPair, has_pair, same_pair, distinct}
use Rattle.voice_units.proofs.Distinct.{same_count, same_pair-true}
use Rattle.rope_table.proofs.Blocks.{front_counts}
use Rattle.voice_audit.specs.declared.sharing.BlockName.{BlockName}
use Rattle.voice_audit.specs.Sharing.{name_of, pair_named, name_eq, is_noted}

-- ---- the blocks of names

abbrev blocks_of : List BlockName → List BlockPair
blocks_of names = map pair_named names

named : (names : List BlockName) (q : BlockPair) → has_pair (blocks_of names) q ≡ list_any (name_eq (name_of q)) names
named [] q = refl
named (k ∷ names) q = ap (λ b. same_pair q (pair_named k) || b) (named names q)

not_there : (k : BlockName) (names : List BlockName) → AllByRecursion (λ y. name_eq k y ≡ false) names → has_pair (blocks_of names) (pair_named k) ≡ false
not_there k [] none = refl
not_there k (other ∷ names) none = ap (λ b. b || has_pair (blocks_of names) (pair_named k)) none.0 ∙ not_there k names none.1

each_counts : (names : List BlockName) → IsDistinct name_eq names → length (distinct (blocks_of names)) ≡ length names
unfolding IsDistinct
each_counts [] apart = refl
each_counts (k ∷ names) apart = front_counts (blocks_of names) (pair_named k) (not_there k names apart.0) ∙ ap suc (each_counts names apart.1)

-- ---- those of a list that have a property

has_filtered : (p : BlockPair → Bool) (pairs : List BlockPair) (q : BlockPair) → has_pair (filter p pairs) q ≡ (p q && has_pair pairs q)
has_filtered p [] q = none (p q)
  where
    none : (b : Bool) → false ≡ (b && false)
    none true = refl
    none false = refl
has_filtered p (x ∷ pairs) q = by (has_filtered p pairs q) (p x) refl (same_pair q x) refl
  where
    more : (a b : Bool) → (b && a) ≡ (b && (false || a))
    more a true = refl
    more a false = refl

    by : has_pair (filter p pairs) q ≡ (p q && has_pair pairs q) → (b : Bool) → p x ≡ b → (c : Bool) → same_pair q x ≡ c → has_pair (cond b (x ∷ filter p pairs) (filter p pairs)) q ≡ (p q && (same_pair q x || has_pair pairs q))
    by rest true e true f =
        let same = same_pair-true q x f in
        let passes : p q ≡ true = ap p same ∙ e in
        ap (λ c. c || has_pair (filter p pairs) q) f ∙ sym (ap (λ b. b && (same_pair q x || has_pair pairs q)) passes ∙ ap (λ c. c || has_pair pairs q) f)
    by rest true e false f =
        ap (λ c. c || has_pair (filter p pairs) q) f ∙ rest ∙ more (has_pair pairs q) (p q) ∙ sym (ap (λ c. p q && (c || has_pair pairs q)) f)
    by rest false e true f =
        let same = same_pair-true q x f in
        let fails : p q ≡ false = ap p same ∙ e in
        rest ∙ ap (λ b. b && has_pair pairs q) fails ∙ sym (ap (λ b. b && (same_pair q x || has_pair pairs q)) fails)
    by rest false e false f = rest ∙ more (has_pair pairs q) (p q) ∙ sym (ap (λ c. p q && (c || has_pair pairs q)) f)

-- a set of just the blocks of a list that have a property has as many as there are
pub set_counts : {S : Type 0} (noted : HashSet BlockName S) (p : BlockPair → Bool) (pairs : List BlockPair) → IsDistinct name_eq noted.keys → ((q : BlockPair) → is_noted noted q ≡ (p q && has_pair pairs q)) → length noted.keys ≡ length (distinct (filter p pairs))
set_counts noted p pairs apart same =
    sym (each_counts noted.keys apart)
    ∙ same_count (blocks_of noted.keys) (filter p pairs) (λ q. named noted.keys q ∙ same q ∙ sym (has_filtered p pairs q))
