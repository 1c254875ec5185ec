-- Items that are read one by one.
use Rattle.std.proofs.Common.{◌≡◌, ℕ, suc, ◌+◌, ◌-◌, ◌<◌, ◌≤◌, List, [], ◌∷◌, ◌++◌, Some, None, refl, ap, sym, ◌∙◌, arith, append_assoc}
use Rattle.std.specs.Prelude.{Option}
use Rattle.disk_areas.specs.Numbers.{number_at}
use Rattle.change_codec.specs.Refused.{first, each, next_key, number, place_at, places_by_kind, refused, IsPlace}
use Rattle.change_codec.specs.Said.{values}
use Rattle.change_codec.specs.declared.items.Rising.{Rising}
use Rattle.change_codec.specs.declared.errors.GetError.{GetError}
use Rattle.change_codec.specs.declared.errors.GetError.TheVariants.{NotAChange, NoMemory}

abbrev pub rising : ℕ → ℕ → Rising
rising at least = record { at = at; least = least }

-- i of so many items were read, and s is the state behind them
pub record IsRead {S A : Type 0} (item : S → Option ℕ) (value : S → A) (next : S → S) (stop : S → Option ℕ) (count : ℕ) (start : S) (i : ℕ) (s : S) (items : List A) : Type 0 where
  pub places : each item next stop count start ≡ each item next stop (count - i) s
  pub said : items ++ values value next (count - i) s ≡ values value next count start

nothing : {A : Type 0} (xs : List A) → xs ++ [] ≡ xs
nothing [] = refl
nothing (x ∷ xs) = ap (λ l. x ∷ l) (nothing xs)

pub first_none : (o : Option ℕ) (os : List (Option ℕ)) → o ≡ None → first (o ∷ os) ≡ first os
first_none o os h = ap (λ p. first (p ∷ os)) h

alone : (o : Option ℕ) → first (o ∷ []) ≡ o
alone None = refl
alone (Some p) = refl

pub place_here : (o : Option ℕ) (os : List (Option ℕ)) (e : GetError) → IsPlace o e → IsPlace (first (o ∷ os)) e
place_here o os (NotAChange place) h = ap (λ p. first (p ∷ os)) h
place_here o os NoMemory h = tt

pub place_later : (o : Option ℕ) (os : List (Option ℕ)) (e : GetError) → o ≡ None → IsPlace (first os) e → IsPlace (first (o ∷ os)) e
place_later o os (NotAChange place) n h = first_none o os n ∙ h
place_later o os NoMemory n h = tt

pub place_same : (o p : Option ℕ) (e : GetError) → o ≡ p → IsPlace p e → IsPlace o e
place_same o p (NotAChange place) s h = s ∙ h
place_same o p NoMemory s h = tt

pub each_more : {S : Type 0} (item : S → Option ℕ) (next : S → S) (stop : S → Option ℕ) (count : ℕ) (s : S) → each item next stop (suc count) s ≡ first (item s ∷ each item next stop count (next s) ∷ [])
unfolding each
each_more item next stop count s = refl

pub each_none : {S : Type 0} (item : S → Option ℕ) (next : S → S) (stop : S → Option ℕ) (s : S) → each item next stop 0 s ≡ stop s
unfolding each
each_none item next stop s = refl

pub values_more : {S A : Type 0} (value : S → A) (next : S → S) (count : ℕ) (s : S) → values value next (suc count) s ≡ value s ∷ values value next count (next s)
unfolding values
values_more value next count s = refl

pub values_none : {S A : Type 0} (value : S → A) (next : S → S) (s : S) → values value next 0 s ≡ []
unfolding values
values_none value next s = refl

pub read_none : {S A : Type 0} (item : S → Option ℕ) (value : S → A) (next : S → S) (stop : S → Option ℕ) (count : ℕ) (s : S) → IsRead item value next stop count s 0 s []
read_none item value next stop count s =
    let n : count ≡ count - 0 = omega arith in
    record { places = ap (λ m. each item next stop m s) n; said = ap (λ m. values value next m s) (sym n) }

-- what is left, while some are left
left : (count i : ℕ) → i < count → count - i ≡ suc (count - (i + 1))
left count i lt = omega arith

pub read_more : {S A : Type 0} (item : S → Option ℕ) (value : S → A) (next : S → S) (stop : S → Option ℕ) (count : ℕ) (start : S) (i : ℕ) (s s' : S) (items items' : List A) (x : A)
    → IsRead item value next stop count start i s items → i < count → item s ≡ None → x ≡ value s → s' ≡ next s → items' ≡ items ++ x ∷ [] → IsRead item value next stop count start (i + 1) s' items'
read_more item value next stop count start i s s' items items' x is lt none same behind pushed =
    let m = count - (i + 1) in
    let n = left count i lt in
    record {
      places =
          is.places ∙ ap (λ k. each item next stop k s) n ∙ each_more item next stop m s ∙ first_none (item s) (each item next stop m (next s) ∷ []) none ∙ alone (each item next stop m (next s))
          ∙ ap (λ t. each item next stop m t) (sym behind);
      said =
          ap (λ l. l ++ values value next m s') pushed
          ∙ append_assoc items (x ∷ []) (values value next m s')
          ∙ ap (λ y. items ++ y ∷ values value next m s') same
          ∙ ap (λ t. items ++ value s ∷ values value next m t) behind
          ∙ ap (λ l. items ++ l) (sym (values_more value next m s) ∙ ap (λ k. values value next k s) (sym n))
          ∙ is.said;
    }

pub read_stop : {S A : Type 0} (item : S → Option ℕ) (value : S → A) (next : S → S) (stop : S → Option ℕ) (count : ℕ) (start : S) (i : ℕ) (s : S) (items : List A) (e : GetError)
    → IsRead item value next stop count start i s items → i < count → IsPlace (item s) e → IsPlace (each item next stop count start) e
read_stop item value next stop count start i s items e is lt h =
    let m = count - (i + 1) in
    place_same _ _ e (is.places ∙ ap (λ k. each item next stop k s) (left count i lt) ∙ each_more item next stop m s) (place_here (item s) (each item next stop m (next s) ∷ []) e h)

pub read_places : {S A : Type 0} (item : S → Option ℕ) (value : S → A) (next : S → S) (stop : S → Option ℕ) (count : ℕ) (start : S) (i : ℕ) (s : S) (items : List A)
    → IsRead item value next stop count start i s items → count ≤ i → each item next stop count start ≡ stop s
read_places item value next stop count start i s items is le =
    let n : count - i ≡ 0 = omega arith in
    is.places ∙ ap (λ k. each item next stop k s) n ∙ each_none item next stop s

pub read_all : {S A : Type 0} (item : S → Option ℕ) (value : S → A) (next : S → S) (stop : S → Option ℕ) (count : ℕ) (start : S) (i : ℕ) (s : S) (items : List A)
    → IsRead item value next stop count start i s items → count ≤ i → items ≡ values value next count start
read_all item value next stop count start i s items is le =
    let n : count - i ≡ 0 = omega arith in
    sym (nothing items) ∙ ap (λ l. items ++ l) (sym (values_none value next s) ∙ ap (λ k. values value next k s) (sym n)) ∙ is.said

-- ---- states

pub rising_same : (a b c d : ℕ) → a ≡ b → c ≡ d → rising a c ≡ rising b d
rising_same a b c d h k = ap (λ n. rising n c) h ∙ ap (λ n. rising b n) k

pub next_key_same : (bytes : List ℕ) (at n m : ℕ) → m ≡ number_at 1 at bytes → n ≡ m → at + (1 + n) ≡ next_key bytes at
next_key_same bytes at n m h k = omega (arith, h, k)

-- ---- kinds

pub refused_is : (bytes : List ℕ) (kind : ℕ) → number 0 1 1 14 bytes ≡ None → kind ≡ number_at 1 0 bytes → refused bytes ≡ place_at (places_by_kind bytes) kind
unfolding refused
refused_is bytes kind none is =
    first_none (number 0 1 1 14 bytes) (place_at (places_by_kind bytes) (number_at 1 0 bytes) ∷ []) none
    ∙ alone (place_at (places_by_kind bytes) (number_at 1 0 bytes))
    ∙ ap (λ n. place_at (places_by_kind bytes) n) (sym is)

pub refused_kind : (bytes : List ℕ) (e : GetError) → IsPlace (number 0 1 1 14 bytes) e → IsPlace (refused bytes) e
unfolding refused
refused_kind bytes e h = place_here (number 0 1 1 14 bytes) (place_at (places_by_kind bytes) (number_at 1 0 bytes) ∷ []) e h
