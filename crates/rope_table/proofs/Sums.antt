-- A sum over the entries of a map as one of them comes, changes or goes.
use Rattle.std.proofs.Common.{◌≡◌, ℕ, ◌+◌, ◌<◌, ◌≤◌, List, [], ◌∷◌, Bool, true, false, cond, Option, Some, None, unwrap_or, refl, sym, ◌∙◌, ap, subst, arith}
use Rattle.std.proofs.lemmas.List.Sums.{sum_by-cons}
use Rattle.std.proofs.lemmas.List.Sorted.{sum_by_pushed, sum_by-IsPermutation}
use Rattle.std.specs.Prelude.{Result, Ok, Err, IfOk, IsOk, OnOk, option_map, is_some}
use Rattle.std.specs.HashMap as hash
use Rattle.std.specs.HashMap.{HashMap, spare}
use Rattle.std.specs.List.{sum_by}
use Rattle.std.specs.List.Sorted.{IsPermutation}
use Rattle.std.specs.Map.{lookup, remove_entry, set_value}

pub ok_on : {A E : Type 0} (r : Result A E) (P : Type 0) → IsOk r → OnOk r P → P
ok_on (Ok x) P ok p = p
ok_on (Err e) P ok p = cc

module _ {K X : Type 0} (eq : K → K → Bool) (exact : (a b : K) → eq a b ≡ true → a ≡ b) (weigh : K × X → ℕ) (k : K) where
  -- the weight of the entry that a look-up finds, or 0
  abbrev pub weight : Option X → ℕ
  weight o = unwrap_or (option_map (λ x. weigh (k, x)) o) 0

  -- with the entry in front, or behind it
  set_front : (e : K × X) (es : List (K × X)) (old new : X) (b : Bool) → eq k e.0 ≡ b → cond b (Some e.1) (lookup (eq k) es) ≡ Some old
      → (lookup (eq k) es ≡ Some old → sum_by weigh (set_value (eq k) es new) + weigh (k, old) ≡ sum_by weigh es + weigh (k, new))
      → sum_by weigh (cond b ((e.0, new) ∷ es) (e ∷ set_value (eq k) es new)) + weigh (k, old) ≡ sum_by weigh (e ∷ es) + weigh (k, new)
  set_front e es old new true t found rest =
      let same = exact k e.0 t in
      let value : e.1 ≡ old = cc in
      let left = sum_by-cons weigh (e.0, new) es in
      let right = sum_by-cons weigh e es in
      let one : weigh (e.0, new) ≡ weigh (k, new) = ap (λ x. weigh (x, new)) (sym same) in
      let two : weigh e ≡ weigh (k, old) = ap (λ x. weigh (x, e.1)) (sym same) ∙ ap (λ x. weigh (k, x)) value in
      omega (arith, left, right, one, two)
  set_front e es old new false t found rest =
      let all = rest found in
      let left = sum_by-cons weigh e (set_value (eq k) es new) in
      let right = sum_by-cons weigh e es in
      omega (arith, all, left, right)

  pub sum-set : (es : List (K × X)) (old new : X) → lookup (eq k) es ≡ Some old → sum_by weigh (set_value (eq k) es new) + weigh (k, old) ≡ sum_by weigh es + weigh (k, new)
  sum-set [] old new found = cc
  sum-set (e ∷ es) old new found = set_front e es old new (eq k e.0) refl found (sum-set es old new)

  remove_front : (e : K × X) (es : List (K × X)) (b : Bool) → eq k e.0 ≡ b
      → sum_by weigh (remove_entry (eq k) es) + weight (lookup (eq k) es) ≡ sum_by weigh es
      → sum_by weigh (cond b es (e ∷ remove_entry (eq k) es)) + weight (cond b (Some e.1) (lookup (eq k) es)) ≡ sum_by weigh (e ∷ es)
  remove_front e es true t rest =
      let same = exact k e.0 t in
      let right = sum_by-cons weigh e es in
      let two : weigh e ≡ weigh (k, e.1) = ap (λ x. weigh (x, e.1)) (sym same) in
      omega (arith, right, two)
  remove_front e es false t rest =
      let left = sum_by-cons weigh e (remove_entry (eq k) es) in
      let right = sum_by-cons weigh e es in
      omega (arith, rest, left, right)

  sum-remove : (es : List (K × X)) → sum_by weigh (remove_entry (eq k) es) + weight (lookup (eq k) es) ≡ sum_by weigh es
  sum-remove [] = refl
  sum-remove (e ∷ es) = remove_front e es (eq k e.0) refl (sum-remove es)

  -- after `remove`
  pub sum_taken : (es fs : List (K × X)) (o : Option X) → IsPermutation (remove_entry (eq k) es) fs → o ≡ lookup (eq k) es → sum_by weigh fs + weight o ≡ sum_by weigh es
  sum_taken es fs o moved found =
      let same = sum_by-IsPermutation weigh (remove_entry (eq k) es) fs moved in
      let less = sum-remove es in
      let one = ap weight found in
      omega (arith, same, less, one)

  -- after a value was written through `get_mut`
  pub sum_changed : (es fs : List (K × X)) (old new : X) → fs ≡ set_value (eq k) es new → Some old ≡ lookup (eq k) es → sum_by weigh fs + weigh (k, old) ≡ sum_by weigh es + weigh (k, new)
  sum_changed es fs old new is found = ap (λ (l : List (K × X)). sum_by weigh l + weigh (k, old)) is ∙ sum-set es old new (sym found)

  entered : {S E : Type 0} (m n : HashMap K X S) (x : X) (r : Result (Option X) E) → IfOk r (λ old. old ≡ hash.get eq m k) → IfOk r (hash.PutsEntry eq m n k x) → IsOk r → hash.get eq m k ≡ None → sum_by weigh n.entries ≡ weigh (k, x) + sum_by weigh m.entries
  entered m n x (Err e) old puts ok none = cc
  entered m n x (Ok None) old puts ok none = sum_by_pushed weigh (k, x) m.entries n.entries puts
  entered m n x (Ok (Some o)) old puts ok none = cc

  -- after `insert`, where a look-up in vain gave the map back
  pub sum_entered : {S E : Type 0} (m back n : HashMap K X S) (x : X) (r : Result (Option X) E) → back ≡ m → None ≡ hash.get eq m k → (is_some (hash.get eq m k) ≡ false → 0 < spare m) → (0 < spare back → IsOk r)
      → IfOk r (λ old. old ≡ hash.get eq back k) → IfOk r (hash.PutsEntry eq back n k x) → sum_by weigh n.entries ≡ sum_by weigh m.entries + weigh (k, x)
  sum_entered {S} m back n x r same absent room succeeds old puts =
      let none : hash.get eq back k ≡ None = ap (λ (m : HashMap K X S). hash.get eq m k) same ∙ sym absent in
      let some : 0 < spare back = subst (λ (m : HashMap K X S). 0 < spare m) (sym same) (room (ap is_some (sym absent))) in
      let all = entered back n x r old puts (succeeds some) none in
      let was : sum_by weigh back.entries ≡ sum_by weigh m.entries = ap (λ (m : HashMap K X S). sum_by weigh m.entries) same in
      omega (arith, all, was)

  -- a found entry is among them
  pub sum_part : (es : List (K × X)) → weight (lookup (eq k) es) ≤ sum_by weigh es
  sum_part es = let all = sum-remove es in omega (arith, all)
