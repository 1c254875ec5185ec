-- The values of chunks under an edit of one chunk.
use Rattle.std.proofs.Common.{◌≡◌, ℕ, suc, zero, ◌+◌, ◌-◌, ◌*◌, ◌<◌, ◌≤◌, length, List, [], ◌∷◌, ◌++◌, take, drop, set, get_or, Some, slice_get, refl, ap, sym, ◌∙◌, subst, arith, length-append}
use Rattle.std.specs.List.{insert, remove}
use Rattle.std.proofs.lemmas.List.{append_assoc, append-nil, drop-append-le, drop-drop, drop_at, length-drop, set-append_left, set-append_right}
use Rattle.std.proofs.lemmas.List.Edits.{insert-append_left, insert-append_right, remove-append_left, remove-append_right, length-remove}
use Rattle.counted_row.specs.Row.{flat, IsDense, AreEmpty, Stands}

module _ {X : Type 0} where
  -- the values in front of a chunk, its own, and those behind
  pub flat-set : (cs : List (List X)) (i : ℕ) (x : List X) → i < length cs → flat (set cs i x) ≡ flat (take i cs) ++ (x ++ flat (drop (suc i) cs))
  flat-set [] i x h = absurd (omega (arith, h))
  flat-set (c ∷ cs) zero x h = refl
  flat-set (c ∷ cs) (suc i) x h = ap (λ l. c ++ l) (flat-set cs i x (omega (arith, h))) ∙ sym (append_assoc c (flat (take i cs)) (x ++ flat (drop (suc i) cs)))

  pub flat-at : (cs : List (List X)) (i : ℕ) → i < length cs → flat cs ≡ flat (take i cs) ++ (get_or cs i [] ++ flat (drop (suc i) cs))
  flat-at [] i h = absurd (omega (arith, h))
  flat-at (c ∷ cs) zero h = refl
  flat-at (c ∷ cs) (suc i) h = ap (λ l. c ++ l) (flat-at cs i (omega (arith, h))) ∙ sym (append_assoc c (flat (take i cs)) (get_or cs i [] ++ flat (drop (suc i) cs)))

  -- one more chunk in front
  pub get_or-default : (cs : List (List X)) (i : ℕ) (d e : List X) → i < length cs → get_or cs i d ≡ get_or cs i e
  get_or-default [] i d e h = absurd (omega (arith, h))
  get_or-default (c ∷ cs) zero d e h = refl
  get_or-default (c ∷ cs) (suc i) d e h = get_or-default cs i d e (omega (arith, h))

  pub flat-take_more : (cs : List (List X)) (i : ℕ) → i < length cs → length (flat (take (suc i) cs)) ≡ length (flat (take i cs)) + length (get_or cs i [])
  flat-take_more [] i h = absurd (omega (arith, h))
  flat-take_more (c ∷ cs) zero h = omega (arith, length-append c [])
  flat-take_more (c ∷ cs) (suc i) h =
      omega (arith, flat-take_more cs i (omega (arith, h)), length-append c (flat (take (suc i) cs)), length-append c (flat (take i cs)))

  pub flat-step : (cs : List (List X)) (i : ℕ) (c : List X) (count rest k : ℕ) → i < length cs → c ≡ get_or cs i c → count ≡ length c → count ≤ rest → k ≡ length (flat (take i cs)) + rest → k ≡ length (flat (take (i + 1) cs)) + (rest - count)
  flat-step cs i c count rest k h is counts le at =
      let same : length (get_or cs i []) ≡ count = ap length (get_or-default cs i [] c h) ∙ ap length (sym is) ∙ sym counts in
      let one : i + 1 ≡ suc i = omega arith in
      let next : length (flat (take (i + 1) cs)) ≡ length (flat (take i cs)) + length (get_or cs i []) = ap (λ n. length (flat (take n cs))) one ∙ flat-take_more cs i h in
      omega (arith, same, next, le, at)

  pub flat-append : (cs ds : List (List X)) → flat (cs ++ ds) ≡ flat cs ++ flat ds
  flat-append [] ds = refl
  flat-append (c ∷ cs) ds = ap (λ l. c ++ l) (flat-append cs ds) ∙ sym (append_assoc c (flat cs) (flat ds))

  -- ---- a value goes in or out

  insert_in : (a c b : List X) (k place : ℕ) (v : X) → place ≤ length c → k ≡ length a + place → insert (a ++ (c ++ b)) k v ≡ a ++ (insert c place v ++ b)
  insert_in a c b k place v within at =
      insert-append_right a (c ++ b) (length a) k v refl (omega (arith, at))
      ∙ ap (λ n. a ++ insert (c ++ b) n v) (omega (arith, at))
      ∙ ap (λ l. a ++ l) (insert-append_left c b place v within)

  remove_in : (a c b : List X) (k place : ℕ) → place < length c → k ≡ length a + place → remove (a ++ (c ++ b)) k ≡ a ++ (remove c place ++ b)
  remove_in a c b k place within at =
      remove-append_right a (c ++ b) (length a) k refl (omega (arith, at))
      ∙ ap (λ n. a ++ remove (c ++ b) n) (omega (arith, at))
      ∙ ap (λ l. a ++ l) (remove-append_left c b place within)

  pub flat-insert : (cs : List (List X)) (i place k : ℕ) (v : X) → Stands cs i place k → flat (set cs i (insert (get_or cs i []) place v)) ≡ insert (flat cs) k v
  flat-insert cs i place k v stands =
      flat-set cs i (insert (get_or cs i []) place v) stands.0
      ∙ sym (insert_in (flat (take i cs)) (get_or cs i []) (flat (drop (suc i) cs)) k place v (omega (arith, stands.1)) stands.2)
      ∙ ap (λ l. insert l k v) (sym (flat-at cs i stands.0))

  pub flat-remove : (cs : List (List X)) (i place k : ℕ) → Stands cs i place k → flat (set cs i (remove (get_or cs i []) place)) ≡ remove (flat cs) k
  flat-remove cs i place k stands =
      flat-set cs i (remove (get_or cs i []) place) stands.0
      ∙ sym (remove_in (flat (take i cs)) (get_or cs i []) (flat (drop (suc i) cs)) k place stands.1 stands.2)
      ∙ ap (λ l. remove l k) (sym (flat-at cs i stands.0))

  pub remove-behind : (xs : List X) (k : ℕ) → length xs ≤ k → remove xs k ≡ xs
  remove-behind [] zero h = refl
  remove-behind [] (suc k) h = refl
  remove-behind (x ∷ xs) zero h = absurd (omega (arith, h))
  remove-behind (x ∷ xs) (suc k) h = ap (λ l. x ∷ l) (remove-behind xs k (omega (arith, h)))

  -- ---- the k-th value

  get-right : (a b : List X) (k n : ℕ) → n ≡ length a + k → slice_get (a ++ b) n ≡ slice_get b k
  get-right [] b k n e = ap (λ m. slice_get b m) (omega (arith, e))
  get-right (x ∷ a) b k zero e = absurd (omega (arith, e))
  get-right (x ∷ a) b k (suc n) e = get-right a b k n (omega (arith, e))

  get-left : (a b : List X) (k : ℕ) → k < length a → slice_get (a ++ b) k ≡ slice_get a k
  get-left [] b k h = absurd (omega (arith, h))
  get-left (x ∷ a) b zero h = refl
  get-left (x ∷ a) b (suc k) h = get-left a b k (omega (arith, h))

  pub flat-get : (cs : List (List X)) (i place k : ℕ) → Stands cs i place k → slice_get (flat cs) k ≡ slice_get (get_or cs i []) place
  flat-get cs i place k stands =
      ap (λ l. slice_get l k) (flat-at cs i stands.0)
      ∙ get-right (flat (take i cs)) (get_or cs i [] ++ flat (drop (suc i) cs)) place k stands.2
      ∙ get-left (get_or cs i []) (flat (drop (suc i) cs)) place stands.1

  -- ---- chunks split, merged, and evened out

  pub flat-split : (cs : List (List X)) (i : ℕ) (lower upper : List X) → i < length cs → lower ++ upper ≡ get_or cs i [] → flat (insert (set cs i lower) (suc i) upper) ≡ flat cs
  flat-split [] i lower upper h parts = absurd (omega (arith, h))
  flat-split (c ∷ cs) zero lower upper h parts = sym (append_assoc lower upper (flat cs)) ∙ ap (λ l. l ++ flat cs) parts
  flat-split (c ∷ cs) (suc i) lower upper h parts = ap (λ l. c ++ l) (flat-split cs i lower upper (omega (arith, h)) parts)

  pub flat-merge : (cs : List (List X)) (i : ℕ) → suc i < length cs → flat (set (remove cs (suc i)) i (get_or cs i [] ++ get_or cs (suc i) [])) ≡ flat cs
  flat-merge [] i h = absurd (omega (arith, h))
  flat-merge (c ∷ []) i h = absurd (omega (arith, h))
  flat-merge (c ∷ d ∷ cs) zero h = append_assoc c d (flat cs)
  flat-merge (c ∷ d ∷ cs) (suc i) h = ap (λ l. c ++ l) (flat-merge (d ∷ cs) i (omega (arith, h)))

  first-goes : (d : List X) (v : X) → slice_get d 0 ≡ Some v → v ∷ remove d 0 ≡ d
  first-goes [] v at = cc
  first-goes (x ∷ d) v at = cc

  pub flat-borrow : (cs : List (List X)) (i : ℕ) (v : X) → suc i < length cs → slice_get (get_or cs (suc i) []) 0 ≡ Some v → flat (set (set cs (suc i) (remove (get_or cs (suc i) []) 0)) i (get_or cs i [] ++ v ∷ [])) ≡ flat cs
  flat-borrow [] i v h at = absurd (omega (arith, h))
  flat-borrow (c ∷ []) i v h at = absurd (omega (arith, h))
  flat-borrow (c ∷ d ∷ cs) zero v h at = append_assoc c (v ∷ []) (remove d 0 ++ flat cs) ∙ ap (λ l. c ++ (l ++ flat cs)) (first-goes d v at)
  flat-borrow (c ∷ d ∷ cs) (suc i) v h at = ap (λ l. c ++ l) (flat-borrow (d ∷ cs) i v (omega (arith, h)) at)

  -- ---- each chunk but the last is half full

  pub dense-at : (cs : List (List X)) (i : ℕ) → suc i < length cs → IsDense cs → 128 ≤ length (get_or cs i [])
  dense-at [] i h dense = absurd (omega (arith, h))
  dense-at (c ∷ cs) zero h dense = dense.0 (omega (arith, h))
  dense-at (c ∷ cs) (suc i) h dense = dense-at cs i (omega (arith, h)) dense.1

  pub length-set : (cs : List (List X)) (i : ℕ) (x : List X) → length (set cs i x) ≡ length cs
  length-set [] i x = refl
  length-set (c ∷ cs) zero x = refl
  length-set (c ∷ cs) (suc i) x = ap suc (length-set cs i x)

  pub dense-set : (cs : List (List X)) (i : ℕ) (x : List X) → (suc i < length cs → 128 ≤ length x) → IsDense cs → IsDense (set cs i x)
  dense-set [] i x long dense = tt
  dense-set (c ∷ cs) zero x long dense = ((λ h. long (omega (arith, h))), dense.1)
  dense-set (c ∷ cs) (suc i) x long dense = ((λ h. dense.0 (omega (arith, h, length-set cs i x))), dense-set cs i x (λ h. long (omega (arith, h))) dense.1)

  pub dense-split : (cs : List (List X)) (i : ℕ) (lower upper : List X) → i < length cs → 128 ≤ length lower → 128 ≤ length upper → IsDense cs → IsDense (insert (set cs i lower) (suc i) upper)
  dense-split [] i lower upper h l u dense = absurd (omega (arith, h))
  dense-split (c ∷ cs) zero lower upper h l u dense = ((λ _. l), ((λ _. u), dense.1))
  dense-split (c ∷ cs) (suc i) lower upper h l u dense = ((λ _. dense.0 (omega (arith, h))), dense-split cs i lower upper (omega (arith, h)) l u dense.1)

  pub dense-merge : (cs : List (List X)) (i : ℕ) (x : List X) → suc i < length cs → 128 ≤ length x → IsDense cs → IsDense (set (remove cs (suc i)) i x)
  dense-merge [] i x h l dense = absurd (omega (arith, h))
  dense-merge (c ∷ []) i x h l dense = absurd (omega (arith, h))
  dense-merge (c ∷ d ∷ cs) zero x h l dense = ((λ _. l), dense.1.1)
  dense-merge (c ∷ d ∷ cs) (suc i) x h l dense = ((λ _. dense.0 (omega arith)), dense-merge (d ∷ cs) i x (omega (arith, h)) l dense.1)

  pub dense-push : (cs : List (List X)) (x : List X) → ((i : ℕ) → suc i ≡ length cs → 128 ≤ length (get_or cs i [])) → IsDense cs → IsDense (cs ++ x ∷ [])
  dense-push [] x long dense = ((λ h. absurd (omega (arith, h))), tt)
  dense-push (c ∷ []) x long dense = ((λ _. long 0 refl), ((λ h. absurd (omega (arith, h))), tt))
  dense-push (c ∷ d ∷ cs) x long dense = ((λ _. dense.0 (omega arith)), dense-push (d ∷ cs) x (λ i e. long (suc i) (ap suc e)) dense.1)

  -- so many chunks have so many values
  pub dense-bound : (cs : List (List X)) → IsDense cs → 128 * length cs ≤ length (flat cs) + 128
  dense-bound [] dense = omega arith
  dense-bound (c ∷ []) dense = omega arith
  dense-bound (c ∷ d ∷ cs) dense = omega (arith, dense.0 (omega arith), dense-bound (d ∷ cs) dense.1, length-append c (flat (d ∷ cs)))

  pub dense-full : (cs : List (List X)) (i : ℕ) → i < length cs → length (get_or cs i []) ≡ 256 → IsDense cs → 128 * length cs ≤ length (flat cs)
  dense-full [] i h full dense = absurd (omega (arith, h))
  dense-full (c ∷ cs) zero h full dense = omega (arith, full, dense-bound cs dense.1, length-append c (flat cs))
  dense-full (c ∷ cs) (suc i) h full dense = omega (arith, dense.0 (omega (arith, h)), dense-full cs i (omega (arith, h)) full dense.1, length-append c (flat cs))

  -- ---- the stock

  pub empty-push : (cs : List (List X)) → AreEmpty cs → AreEmpty (cs ++ [] ∷ [])
  empty-push [] all = (refl, tt)
  empty-push (c ∷ cs) all = (all.0, empty-push cs all.1)

  pub empty-front : (cs ds : List (List X)) → AreEmpty (cs ++ ds) → AreEmpty cs × AreEmpty ds
  empty-front [] ds all = (tt, all)
  empty-front (c ∷ cs) ds all = ((all.0, (empty-front cs ds all.1).0), (empty-front cs ds all.1).1)

  pub last-empty : (cs ds : List (List X)) (x : List X) → AreEmpty cs → cs ≡ ds ++ x ∷ [] → AreEmpty ds × (x ≡ [])
  last-empty cs ds x all is = let both : AreEmpty ds × AreEmpty (x ∷ []) = empty-front ds (x ∷ []) (subst AreEmpty is all) in (both.0, both.1.0)

  -- ---- the same at `i + 1`

  merged : (cs : List (List X)) (i j : ℕ) → j ≡ suc i → j < length cs → flat (set (remove cs j) i (get_or cs i [] ++ get_or cs j [])) ≡ flat cs
  merged cs i j e h = subst (λ (n : ℕ). flat (set (remove cs n) i (get_or cs i [] ++ get_or cs n [])) ≡ flat cs) (sym e) (flat-merge cs i (omega (arith, e, h)))

  pub merge-values : (cs : List (List X)) (i : ℕ) → i + 1 < length cs → flat (set (remove cs (i + 1)) i (get_or cs i [] ++ get_or cs (i + 1) [])) ≡ flat cs
  merge-values cs i h = merged cs i (i + 1) (omega arith) h

  merged-dense : (cs : List (List X)) (i j : ℕ) (x : List X) → j ≡ suc i → j < length cs → 128 ≤ length x → IsDense cs → IsDense (set (remove cs j) i x)
  merged-dense cs i j x e h l dense = subst (λ (n : ℕ). IsDense (set (remove cs n) i x)) (sym e) (dense-merge cs i x (omega (arith, e, h)) l dense)

  pub merge-dense : (cs : List (List X)) (i : ℕ) (x : List X) → i + 1 < length cs → 128 ≤ length x → IsDense cs → IsDense (set (remove cs (i + 1)) i x)
  merge-dense cs i x h l dense = merged-dense cs i (i + 1) x (omega arith) h l dense

  borrowed : (cs : List (List X)) (i j : ℕ) (v : X) → j ≡ suc i → j < length cs → slice_get (get_or cs j []) 0 ≡ Some v → flat (set (set cs j (remove (get_or cs j []) 0)) i (get_or cs i [] ++ v ∷ [])) ≡ flat cs
  borrowed cs i j v e h = subst (λ (n : ℕ). slice_get (get_or cs n []) 0 ≡ Some v → flat (set (set cs n (remove (get_or cs n []) 0)) i (get_or cs i [] ++ v ∷ [])) ≡ flat cs) (sym e) (flat-borrow cs i v (omega (arith, e, h)))

  pub borrow-values : (cs : List (List X)) (i : ℕ) (v : X) → i + 1 < length cs → slice_get (get_or cs (i + 1) []) 0 ≡ Some v → flat (set (set cs (i + 1) (remove (get_or cs (i + 1) []) 0)) i (get_or cs i [] ++ v ∷ [])) ≡ flat cs
  borrow-values cs i v h at = borrowed cs i (i + 1) v (omega arith) h at

  pub borrow-dense : (cs : List (List X)) (i : ℕ) (v : X) → i + 1 < length cs → 128 ≤ length (get_or cs i []) → 128 < length (get_or cs (i + 1) []) → IsDense cs → IsDense (set (set cs (i + 1) (remove (get_or cs (i + 1) []) 0)) i (get_or cs i [] ++ v ∷ []))
  borrow-dense cs i v h here next dense =
      dense-set (set cs (i + 1) (remove (get_or cs (i + 1) []) 0)) i (get_or cs i [] ++ v ∷ [])
      (λ _. omega (arith, here, length-append (get_or cs i []) (v ∷ [])))
      (dense-set cs (i + 1) (remove (get_or cs (i + 1) []) 0) (λ _. omega (arith, next, length-remove (get_or cs (i + 1) []) 0 (omega (arith, next)))) dense)

  pub dense-here : (cs : List (List X)) (i : ℕ) → i + 1 < length cs → IsDense cs → 128 ≤ length (get_or cs i [])
  dense-here cs i h dense = dense-at cs i (omega (arith, h)) dense

  splitted : (cs : List (List X)) (i j : ℕ) (lower upper : List X) → j ≡ suc i → i < length cs → lower ++ upper ≡ get_or cs i [] → flat (insert (set cs i lower) j upper) ≡ flat cs
  splitted cs i j lower upper e h parts = subst (λ (n : ℕ). flat (insert (set cs i lower) n upper) ≡ flat cs) (sym e) (flat-split cs i lower upper h parts)

  pub split-values : (cs : List (List X)) (i : ℕ) (lower upper : List X) → i < length cs → lower ++ upper ≡ get_or cs i [] → flat (insert (set cs i lower) (i + 1) upper) ≡ flat cs
  split-values cs i lower upper h parts = splitted cs i (i + 1) lower upper (omega arith) h parts

  splitted-dense : (cs : List (List X)) (i j : ℕ) (lower upper : List X) → j ≡ suc i → i < length cs → 128 ≤ length lower → 128 ≤ length upper → IsDense cs → IsDense (insert (set cs i lower) j upper)
  splitted-dense cs i j lower upper e h l u dense = subst (λ (n : ℕ). IsDense (insert (set cs i lower) n upper)) (sym e) (dense-split cs i lower upper h l u dense)

  halves : (lower upper c : List X) → lower ++ upper ≡ c → length lower ≡ 128 → length c ≡ 256 → length upper ≡ 128
  halves lower upper c parts l full = omega (arith, length-append lower upper, ap length parts, l, full)

  pub split-dense : (cs : List (List X)) (i : ℕ) (lower upper : List X) → i < length cs → lower ++ upper ≡ get_or cs i [] → length lower ≡ 128 → length (get_or cs i []) ≡ 256 → IsDense cs → IsDense (insert (set cs i lower) (i + 1) upper)
  split-dense cs i lower upper h parts l full dense = splitted-dense cs i (i + 1) lower upper (omega arith) h (omega (arith, l)) (omega (arith, halves lower upper (get_or cs i []) parts l full)) dense

  split-front : (cs : List (List X)) (i : ℕ) (lower upper : List X) → i < length cs → length (flat (take (suc i) (insert (set cs i lower) (suc i) upper))) ≡ length (flat (take i cs)) + length lower
  split-front [] i lower upper h = absurd (omega (arith, h))
  split-front (c ∷ cs) zero lower upper h = omega (arith, length-append lower [])
  split-front (c ∷ cs) (suc i) lower upper h =
      omega (arith, split-front cs i lower upper (omega (arith, h)), length-append c (flat (take (suc i) (insert (set cs i lower) (suc i) upper))), length-append c (flat (take i cs)))

  split-at : (cs : List (List X)) (i : ℕ) (lower upper : List X) → i < length cs → get_or (insert (set cs i lower) (suc i) upper) (suc i) [] ≡ upper
  split-at [] i lower upper h = absurd (omega (arith, h))
  split-at (c ∷ cs) zero lower upper h = refl
  split-at (c ∷ cs) (suc i) lower upper h = split-at cs i lower upper (omega (arith, h))

  split-length : (cs : List (List X)) (i : ℕ) (lower upper : List X) → i < length cs → length (insert (set cs i lower) (suc i) upper) ≡ suc (length cs)
  split-length [] i lower upper h = absurd (omega (arith, h))
  split-length (c ∷ cs) zero lower upper h = refl
  split-length (c ∷ cs) (suc i) lower upper h = ap suc (split-length cs i lower upper (omega (arith, h)))

  -- behind the middle of the chunk that is split
  pub split-stands : (cs : List (List X)) (i place : ℕ) (lower upper : List X) → i < length cs → lower ++ upper ≡ get_or cs i [] → length lower ≡ 128 → 128 ≤ place → place < length (get_or cs i []) → Stands (insert (set cs i lower) (i + 1) upper) (i + 1) (place - 128) (length (flat (take i cs)) + place)
  split-stands cs i place lower upper h parts l long within =
      let one : i + 1 ≡ suc i = omega arith in
      let count : length lower + length upper ≡ length (get_or cs i []) = sym (length-append lower upper) ∙ ap length parts in
      let there : length (get_or (insert (set cs i lower) (suc i) upper) (suc i) []) ≡ length upper = ap length (split-at cs i lower upper h) in
      subst (λ (n : ℕ). Stands (insert (set cs i lower) n upper) n (place - 128) (length (flat (take i cs)) + place)) (sym one)
      (omega (arith, split-length cs i lower upper h, h), omega (arith, there, count, l, long, within), omega (arith, split-front cs i lower upper h, l, long))

  pub stands-within : (cs : List (List X)) (i place k : ℕ) → Stands cs i place k → k < length (flat cs)
  stands-within cs i place k stands =
      let whole : length (flat cs) ≡ length (flat (take i cs) ++ (get_or cs i [] ++ flat (drop (suc i) cs))) = ap length (flat-at cs i stands.0) in
      omega (arith, whole, length-append (flat (take i cs)) (get_or cs i [] ++ flat (drop (suc i) cs)), length-append (get_or cs i []) (flat (drop (suc i) cs)), stands.1, stands.2)

  -- a chunk that was read
  pub at-index : (cs : List (List X)) (i : ℕ) (x : List X) → i < length cs → x ≡ get_or cs i x → x ≡ get_or cs i []
  at-index cs i x h e = e ∙ get_or-default cs i x [] h

  pub count-at : (cs : List (List X)) (i n : ℕ) (x : List X) → i < length cs → x ≡ get_or cs i x → n ≡ length x → n ≡ length (get_or cs i [])
  count-at cs i n x h e counts = counts ∙ ap length (at-index cs i x h e)

  pub stands-after : (old mid : List (List X)) (i place k : ℕ) → Stands old i place k → i < length mid → length (get_or old i []) ≤ length (get_or mid i []) → take i mid ≡ take i old → Stands mid i place k
  stands-after old mid i place k stands h longer front = (h, omega (arith, stands.1, longer), stands.2 ∙ ap (λ l. length (flat l) + place) (sym front))

  -- ---- at the end

  pub flat-open : (cs : List (List X)) → flat (cs ++ [] ∷ []) ≡ flat cs
  flat-open [] = refl
  flat-open (c ∷ cs) = ap (λ l. c ++ l) (flat-open cs)

  pub flat-push : (cs : List (List X)) (i : ℕ) (v : X) → i + 1 ≡ length cs → flat (set cs i (get_or cs i [] ++ v ∷ [])) ≡ flat cs ++ v ∷ []
  flat-push [] i v h = absurd (omega (arith, h))
  flat-push (c ∷ []) zero v h = append-nil (c ++ v ∷ []) ∙ ap (λ l. l ++ v ∷ []) (sym (append-nil c))
  flat-push (c ∷ d ∷ cs) zero v h = absurd (omega (arith, h))
  flat-push (c ∷ []) (suc i) v h = absurd (omega (arith, h))
  flat-push (c ∷ d ∷ cs) (suc i) v h = ap (λ l. c ++ l) (flat-push (d ∷ cs) i v (omega (arith, h))) ∙ sym (append_assoc c (flat (d ∷ cs)) (v ∷ []))

  pub last-is : (cs : List (List X)) (i : ℕ) (x : List X) → i + 1 ≡ length (cs ++ x ∷ []) → get_or (cs ++ x ∷ []) i [] ≡ x
  last-is [] zero x h = refl
  last-is [] (suc i) x h = absurd (omega (arith, h))
  last-is (c ∷ cs) zero x h = absurd (omega (arith, h, length-append cs (x ∷ [])))
  last-is (c ∷ cs) (suc i) x h = last-is cs i x (omega (arith, h))

  -- ---- a value in the place of another

  set_in : (a c b : List X) (k place : ℕ) (v : X) → place < length c → k ≡ length a + place → set (a ++ (c ++ b)) k v ≡ a ++ (set c place v ++ b)
  set_in a c b k place v within at =
      set-append_right a (c ++ b) (length a) k v refl (omega (arith, at))
      ∙ ap (λ n. a ++ set (c ++ b) n v) (omega (arith, at))
      ∙ ap (λ l. a ++ l) (set-append_left c b place v within)

  pub flat-replace : (cs : List (List X)) (i place k : ℕ) (v : X) → Stands cs i place k → flat (set cs i (set (get_or cs i []) place v)) ≡ set (flat cs) k v
  flat-replace cs i place k v stands =
      flat-set cs i (set (get_or cs i []) place v) stands.0
      ∙ sym (set_in (flat (take i cs)) (get_or cs i []) (flat (drop (suc i) cs)) k place v stands.1 stands.2)
      ∙ ap (λ l. set l k v) (sym (flat-at cs i stands.0))

  pub length-put : (xs : List X) (i : ℕ) (v : X) → length (set xs i v) ≡ length xs
  length-put [] i v = refl
  length-put (x ∷ xs) zero v = refl
  length-put (x ∷ xs) (suc i) v = ap suc (length-put xs i v)

  -- ---- values side by side

  drop-right : (a b : List X) (k n : ℕ) → n ≡ length a + k → drop n (a ++ b) ≡ drop k b
  drop-right [] b k n e = ap (λ m. drop m b) (omega (arith, e))
  drop-right (x ∷ a) b k zero e = absurd (omega (arith, e))
  drop-right (x ∷ a) b k (suc n) e = drop-right a b k n (omega (arith, e))

  run-front : (cs : List (List X)) (i place k : ℕ) → Stands cs i place k → drop k (flat cs) ≡ drop place (get_or cs i []) ++ flat (drop (suc i) cs)
  run-front cs i place k stands =
      ap (λ l. drop k l) (flat-at cs i stands.0)
      ∙ drop-right (flat (take i cs)) (get_or cs i [] ++ flat (drop (suc i) cs)) place k stands.2
      ∙ drop-append-le place (get_or cs i []) (flat (drop (suc i) cs)) (omega (arith, stands.1))

  pub flat-run : (cs : List (List X)) (i place k : ℕ) (r : List X) → Stands cs i place k → r ≡ drop place (get_or cs i []) → drop k (flat cs) ≡ r ++ drop (k + length r) (flat cs)
  flat-run cs i place k r stands is =
      let front : drop k (flat cs) ≡ r ++ flat (drop (suc i) cs) = run-front cs i place k stands ∙ ap (λ l. l ++ flat (drop (suc i) cs)) (sym is) in
      let rest : drop (k + length r) (flat cs) ≡ flat (drop (suc i) cs) =
      sym (drop-drop (length r) k (flat cs)) ∙ ap (λ l. drop (length r) l) front ∙ drop_at r (flat (drop (suc i) cs)) (length r) refl in
      front ∙ ap (λ l. r ++ l) (sym rest)

  pub run-some : (cs : List (List X)) (i place k : ℕ) (r : List X) → Stands cs i place k → r ≡ drop place (get_or cs i []) → 0 < length r
  run-some cs i place k r stands is = omega (arith, ap length is, length-drop place (get_or cs i []), stands.1)
