-- Lists in order: where an element belongs, and what is left as it goes.
use Rattle.std.proofs.Common.{◌≡◌, ℕ, zero, suc, ◌<◌, ◌≤◌, List, [], ◌∷◌, length, get_or, Bool, true, false, not, cond, refl, sym, ◌∙◌, ap, arith}
use Rattle.std.proofs.lemmas.Bool.{cond_both, false≢true}
use Rattle.std.specs.List.{insert, remove}
use Rattle.std.specs.List.Sorted.{IsPartitionedBy}
use Rattle.rope_table.specs.Table.{Every, IsInOrder, put_in}
use Rattle.std.specs.Fn.{Called, ComputesKey}
use Rattle.std.proofs.lemmas.Fn.{always_returns_same}
use denote.Param.Members.{Mut}
use denote.Ref.{Bor}
use Rattle.counted_row.specs.Row.{passing}
use Rattle.rope_table.specs.Inside.{place_of}

pub split : {P : Type 0} (b : Bool) → (b ≡ true → P) → (b ≡ false → P) → P
split {P} b if_so if_not = elim b as (λ t. b ≡ t → P) [ true ↦ if_so | false ↦ if_not ] refl

-- ---- each element

pub every_at : {A : Type 0} (P : A → Type 0) (xs : List A) (k : ℕ) (d : A) → Every P xs → k < length xs → P (get_or xs k d)
every_at P [] k d all within = absurd (omega arith)
every_at P (x ∷ xs) zero d all within = all.0
every_at P (x ∷ xs) (suc k) d all within = every_at P xs k d all.1 (omega arith)

pub every_imp : {A : Type 0} (P Q : A → Type 0) → ((x : A) → P x → Q x) → (xs : List A) → Every P xs → Every Q xs
every_imp P Q f [] all = tt
every_imp P Q f (x ∷ xs) all = (f x all.0, every_imp P Q f xs all.1)

pub every_put : {A : Type 0} (P : A → Type 0) (comes : A → A → Bool) (x : A) (xs : List A) → P x → Every P xs → Every P (put_in comes x xs)
every_put P comes x [] p all = (p, tt)
every_put P comes x (y ∷ ys) p all =
    cond_both (comes x y) (x ∷ y ∷ ys) (y ∷ put_in comes x ys) (Every P)
    (λ e. (p, all)) (λ e. (all.0, every_put P comes x ys p all.1))

every_remove : {A : Type 0} (P : A → Type 0) (xs : List A) (i : ℕ) → Every P xs → Every P (remove xs i)
every_remove P [] zero all = tt
every_remove P [] (suc i) all = tt
every_remove P (x ∷ xs) zero all = all.1
every_remove P (x ∷ xs) (suc i) all = (all.0, every_remove P xs i all.1)

-- ---- a place

module _ {A : Type 0} (comes : A → A → Bool) where
  -- x comes before an element or behind it
  abbrev pub Apart : A → List A → Type 0
  Apart x xs = Every (λ y. comes y x ≡ not (comes x y)) xs

  -- ---- putting in

  goes_before : (b c : Bool) → c ≡ not b → b ≡ true → c ≡ false
  goes_before b c e is = cc (ap not is)

  goes_behind : (b c : Bool) → c ≡ not b → b ≡ false → c ≡ true
  goes_behind b c e is = cc (ap not is)

  pub in_order-put : ((x y z : A) → comes x y ≡ true → comes y z ≡ true → comes x z ≡ true) → (x : A) (xs : List A) → Apart x xs → IsInOrder comes xs → IsInOrder comes (put_in comes x xs)
  in_order-put through x [] apart order = (tt, tt)
  in_order-put through x (y ∷ ys) apart order =
      cond_both (comes x y) (x ∷ y ∷ ys) (y ∷ put_in comes x ys) (IsInOrder comes)
      (λ e. ((e, every_imp (λ z. comes y z ≡ true) (λ z. comes x z ≡ true) (λ z h. through x y z e h) ys order.0), order))
      (λ e. (every_put (λ z. comes y z ≡ true) comes x ys (goes_behind (comes x y) (comes y x) apart.0 e) order.0, in_order-put through x ys apart.1 order.1))

  pub in_order-remove : (xs : List A) (i : ℕ) → IsInOrder comes xs → IsInOrder comes (remove xs i)
  in_order-remove [] zero order = tt
  in_order-remove [] (suc i) order = tt
  in_order-remove (x ∷ xs) zero order = order.1
  in_order-remove (x ∷ xs) (suc i) order = (every_remove (λ y. comes x y ≡ true) xs i order.0, in_order-remove xs i order.1)

  place_here : (test : A → Bool) (y : A) (ys : List A) → test y ≡ false → place_of test (y ∷ ys) ≡ 0
  place_here test y ys e = ap (λ b. cond b (suc (place_of test ys)) 0) e

  place_later : (test : A → Bool) (y : A) (ys : List A) → test y ≡ true → place_of test (y ∷ ys) ≡ suc (place_of test ys)
  place_later test y ys e = ap (λ b. cond b (suc (place_of test ys)) 0) e

  -- what is put in stands at its place
  pub put_at_place : (x : A) (xs : List A) → Apart x xs → put_in comes x xs ≡ insert xs (place_of (λ y. comes y x) xs) x
  put_at_place x [] apart = refl
  put_at_place x (y ∷ ys) apart =
      cond_both (comes x y) (x ∷ y ∷ ys) (y ∷ put_in comes x ys) (λ l. l ≡ insert (y ∷ ys) (place_of (λ z. comes z x) (y ∷ ys)) x)
      (λ e. sym (ap (λ i. insert (y ∷ ys) i x) (place_here (λ z. comes z x) y ys (goes_before (comes x y) (comes y x) apart.0 e))))
      (λ e. ap (λ l. y ∷ l) (put_at_place x ys apart.1) ∙ sym (ap (λ i. insert (y ∷ ys) i x) (place_later (λ z. comes z x) y ys (goes_behind (comes x y) (comes y x) apart.0 e))))

  -- and goes from there
  pub remove_put : (x : A) (xs : List A) → comes x x ≡ false → Apart x xs → remove (put_in comes x xs) (place_of (λ y. comes y x) (put_in comes x xs)) ≡ xs
  remove_put x [] self apart = ap (remove (x ∷ [])) (place_here (λ z. comes z x) x [] self)
  remove_put x (y ∷ ys) self apart =
      cond_both (comes x y) (x ∷ y ∷ ys) (y ∷ put_in comes x ys) (λ l. remove l (place_of (λ z. comes z x) l) ≡ y ∷ ys)
      (λ e. ap (remove (x ∷ y ∷ ys)) (place_here (λ z. comes z x) x (y ∷ ys) self))
      (λ e. ap (remove (y ∷ put_in comes x ys)) (place_later (λ z. comes z x) y (put_in comes x ys) (goes_behind (comes x y) (comes y x) apart.0 e)) ∙ ap (λ l. y ∷ l) (remove_put x ys self apart.1))

  none_pass : (test : A → Bool) → ((x y : A) → comes x y ≡ true → test y ≡ true → test x ≡ true) → (x : A) (ys : List A) → test x ≡ false → Every (λ y. comes x y ≡ true) ys → place_of test ys ≡ 0
  none_pass test down x [] e all = refl
  none_pass test down x (y ∷ ys) e all = place_here test y ys (split (test y) (λ t. absurd (false≢true (sym e ∙ down x y all.0 t))) (λ t. t))

  -- the place of a test stays as the element goes from it
  pub place_gone : (test : A → Bool) → ((x y : A) → comes x y ≡ true → test y ≡ true → test x ≡ true) → (xs : List A) → IsInOrder comes xs → place_of test (remove xs (place_of test xs)) ≡ place_of test xs
  place_gone test down [] order = refl
  place_gone test down (x ∷ xs) order =
      split (test x)
      (λ e.
      ap (λ n. place_of test (remove (x ∷ xs) n)) (place_later test x xs e)
      ∙ place_later test x (remove xs (place_of test xs)) e
      ∙ ap suc (place_gone test down xs order.1)
      ∙ sym (place_later test x xs e))
      (λ e.
      ap (λ n. place_of test (remove (x ∷ xs) n)) (place_here test x xs e)
      ∙ none_pass test down x xs e order.0
      ∙ sym (place_here test x xs e))

  pub length-put : (x : A) (xs : List A) → length (put_in comes x xs) ≡ suc (length xs)
  length-put x [] = refl
  length-put x (y ∷ ys) =
      cond_both (comes x y) (x ∷ y ∷ ys) (y ∷ put_in comes x ys) (λ l. length l ≡ suc (length (y ∷ ys)))
      (λ e. refl) (λ e. ap suc (length-put x ys))

  put_here : (x y : A) (ys : List A) → comes x y ≡ true → put_in comes x (y ∷ ys) ≡ x ∷ y ∷ ys
  put_here x y ys e = ap (λ b. cond b (x ∷ y ∷ ys) (y ∷ put_in comes x ys)) e

  put_later : (x y : A) (ys : List A) → comes x y ≡ false → put_in comes x (y ∷ ys) ≡ y ∷ put_in comes x ys
  put_later x y ys e = ap (λ b. cond b (x ∷ y ∷ ys) (y ∷ put_in comes x ys)) e

  other_way : (b c : Bool) (p q : List A) → c ≡ not b → cond b p q ≡ cond c q p
  other_way true c p q e = ap (λ d. cond d q p) (sym e)
  other_way false c p q e = ap (λ d. cond d q p) (sym e)

  -- two that come one before the other may be put in either way
  pub put_swap : ((x y z : A) → comes x y ≡ true → comes y z ≡ true → comes x z ≡ true) → (x y : A) → comes y x ≡ not (comes x y) → (zs : List A) → put_in comes x (put_in comes y zs) ≡ put_in comes y (put_in comes x zs)
  put_swap through x y apart [] = other_way (comes x y) (comes y x) (x ∷ y ∷ []) (y ∷ x ∷ []) apart
  put_swap through x y apart (z ∷ zs) =
      split (comes x z)
      (λ xz. split (comes y z)
      (λ yz.
      ap (put_in comes x) (put_here y z zs yz)
      ∙ ap (λ l. cond (comes x y) (x ∷ y ∷ z ∷ zs) (y ∷ l)) (put_here x z zs xz)
      ∙ other_way (comes x y) (comes y x) (x ∷ y ∷ z ∷ zs) (y ∷ x ∷ z ∷ zs) apart
      ∙ sym (ap (λ l. cond (comes y x) (y ∷ x ∷ z ∷ zs) (x ∷ l)) (put_here y z zs yz))
      ∙ sym (ap (put_in comes y) (put_here x z zs xz)))
      (λ yz.
      let behind : comes y x ≡ false = split (comes y x) (λ yx. absurd (false≢true (sym yz ∙ through y x z yx xz))) (λ yx. yx) in
      ap (put_in comes x) (put_later y z zs yz)
      ∙ put_here x z (put_in comes y zs) xz
      ∙ sym (ap (λ l. x ∷ l) (put_later y z zs yz))
      ∙ sym (put_later y x (z ∷ zs) behind)
      ∙ sym (ap (put_in comes y) (put_here x z zs xz))))
      (λ xz. split (comes y z)
      (λ yz.
      let behind : comes x y ≡ false = split (comes x y) (λ xy. absurd (false≢true (sym xz ∙ through x y z xy yz))) (λ xy. xy) in
      ap (put_in comes x) (put_here y z zs yz)
      ∙ put_later x y (z ∷ zs) behind
      ∙ ap (λ l. y ∷ l) (put_later x z zs xz)
      ∙ sym (put_here y z (put_in comes x zs) yz)
      ∙ sym (ap (put_in comes y) (put_later x z zs xz)))
      (λ yz.
      ap (put_in comes x) (put_later y z zs yz)
      ∙ put_later x z (put_in comes y zs) xz
      ∙ ap (λ l. z ∷ l) (put_swap through x y apart zs)
      ∙ sym (put_later y z (put_in comes x zs) yz)
      ∙ sym (ap (put_in comes y) (put_later x z zs xz))))

pub place_of-le : {A : Type 0} (test : A → Bool) (xs : List A) → place_of test xs ≤ length xs
place_of-le test [] = omega arith
place_of-le test (x ∷ xs) = let i = place_of-le test xs in cond_both (test x) (suc (place_of test xs)) 0 (λ n. n ≤ length (x ∷ xs)) (λ e. omega (arith, i)) (λ e. omega arith)

-- ---- halving

-- a row's search ends at the place of a test
pub passing_place : {A : Type 0} (test : A → Bool) (xs : List A) → passing test xs ≡ place_of test xs
passing_place test [] = refl
passing_place test (x ∷ xs) = ap (λ n. cond (test x) (suc n) 0) (passing_place test xs)

-- from a clause on each test that a closure computes, where it computes this one
pub by_clause : {A F : Type 0} {g : Mut F (Bor A × Unit {0}) Bool} {f : F} (test : A → Bool) (P : (A → Bool) → Type 0)
    → ((q : A → Bool) → ComputesKey g q f → P q) → ((a : Bor A × Unit {0}) (r : Bool) (f' : F) → Called g f a r f' → (r ≡ test a.0.now) × (f' ≡ f)) → P test
by_clause {g = g} {f = f} test P clause h = clause test (always_returns_same g (λ a r. r ≡ test a.0.now) f h)

partitioned_at : {A : Type 0} (comes : A → A → Bool) (test : A → Bool) → ((x y : A) → comes x y ≡ true → test y ≡ true → test x ≡ true) → (x : A) (xs : List A) → IsInOrder comes (x ∷ xs) → IsPartitionedBy test xs → IsPartitionedBy test (x ∷ xs)
partitioned_at comes test down x xs order rest zero zero d le within e = e
partitioned_at comes test down x xs order rest zero (suc j) d le within e = down x (get_or xs j d) (every_at (λ y. comes x y ≡ true) xs j d order.0 (omega arith)) e
partitioned_at comes test down x xs order rest (suc i) zero d le within e = absurd (omega arith)
partitioned_at comes test down x xs order rest (suc i) (suc j) d le within e = rest i j d (omega arith) (omega arith) e

pub partitioned : {A : Type 0} (comes : A → A → Bool) (test : A → Bool) → ((x y : A) → comes x y ≡ true → test y ≡ true → test x ≡ true) → (xs : List A) → IsInOrder comes xs → IsPartitionedBy test xs
partitioned comes test down [] order = λ i j d le within e. absurd (omega arith)
partitioned comes test down (x ∷ xs) order = partitioned_at comes test down x xs order (partitioned comes test down xs order.1)
