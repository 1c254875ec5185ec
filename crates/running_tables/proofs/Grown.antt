-- An open recording takes more blocks.
use Rattle.std.proofs.Common.{◌≡◌, ℕ, zero, suc, ◌+◌, ◌≤◌, ◌<◌, ◌==◌, ◌⊎◌, inl, inr, Bool, true, false, List, [], ◌∷◌, ◌++◌, length, Some, None, refl, sym, ◌∙◌, ap, subst, arith}
use Rattle.std.proofs.lemmas.Bool.{lt-ltb, ltb-true, ltb-false, eqb-true, eq-eqb}
use Rattle.std.specs.Prelude.{nat_lt}
use Rattle.voice_units.specs.Blocks.{BlockPair}
use Rattle.voice_model.specs.Replay.{used_pairs}
use Rattle.voice_model.specs.Valid.{Every}
use Rattle.voice_model.proofs.KeptByChanges.{every-imply}
use Rattle.voice_blocks.specs.Holders.{Holders, holder_at, open_in, block_of, with_taken}
use Rattle.voice_blocks.specs.declared.owner.Owner.{Owner}
use Rattle.voice_blocks.specs.declared.owner.Owner.TheVariants.{File, Taking}
use Rattle.voice_blocks.specs.declared.owner.Holder.{Holder}
use Rattle.rope_table.specs.Table.{pairs_in}
use Rattle.checkpoint.specs.Blocks.{IsHeld}
use Rattle.running_tables.specs.Running.{taken, is_wanted, GivesJust, IsGiven}
use Rattle.running_tables.specs.Laws as laws
use Rattle.running_tables.proofs.Begins.{some_is}
use Rattle.running_tables.proofs.Counts.{Single, later_single}

pub grown_size : (o : Owner) (from n : ℕ) (hs : Holders) → length (with_taken o from n hs) ≡ length hs
grown_size o from zero hs = refl
grown_size o from (suc n) [] = refl
grown_size o from (suc n) (None ∷ hs) = ap suc (grown_size o (suc from) n hs)
grown_size o from (suc n) (Some h ∷ hs) = ap suc (grown_size o from (suc n) hs)

-- an address that was given out stays so
pub old_stays : (o : Owner) (from n : ℕ) (hs : Holders) (a : ℕ) (h : Holder) → holder_at hs a ≡ Some h → holder_at (with_taken o from n hs) a ≡ Some h
old_stays o from zero hs a h e = e
old_stays o from (suc n) [] a h e = e
old_stays o from (suc n) (None ∷ hs) zero h e = cc
old_stays o from (suc n) (None ∷ hs) (suc a) h e = old_stays o (suc from) n hs a h e
old_stays o from (suc n) (Some g ∷ hs) zero h e = e
old_stays o from (suc n) (Some g ∷ hs) (suc a) h e = old_stays o from (suc n) hs a h e

-- one of the blocks that were taken
pub record IsNew (o : Owner) (from n : ℕ) (h : Holder) : Type 0 where
  pub index : ℕ
  pub low : from ≤ index
  pub high : index < from + n
  pub is : h ≡ block_of o index

new_later : (o : Owner) (from n : ℕ) (h : Holder) → IsNew o (suc from) n h → IsNew o from (suc n) h
new_later o from n h r = let low = r.low in let high = r.high in record { index = r.index; low = omega (arith, low); high = omega (arith, high); is = r.is }

-- an address that is given out was so, or is that of a new block
pub old_or_new : (o : Owner) (from n : ℕ) (hs : Holders) (a : ℕ) (h : Holder) → holder_at (with_taken o from n hs) a ≡ Some h → (holder_at hs a ≡ Some h) ⊎ IsNew o from n h
old_or_new o from zero hs a h e = inl e
old_or_new o from (suc n) [] a h e = inl e
old_or_new o from (suc n) (None ∷ hs) zero h e = inr (record { index = from; low = omega arith; high = omega arith; is = sym (some_is e) })
old_or_new o from (suc n) (None ∷ hs) (suc a) h e = elim (old_or_new o (suc from) n hs a h e) [ inl k ↦ inl k | inr r ↦ inr (new_later o from n h r) ]
old_or_new o from (suc n) (Some g ∷ hs) zero h e = inl e
old_or_new o from (suc n) (Some g ∷ hs) (suc a) h e = old_or_new o from (suc n) hs a h e

-- each new block has an address
pub new_has : (o : Owner) (from n : ℕ) (hs : Holders) (k : ℕ) → n ≤ open_in hs → from ≤ k → k < from + n → IsGiven (with_taken o from n hs) (block_of o k)
new_has o from zero hs k room low high = absurd (omega (arith, low, high))
new_has o from (suc n) [] k room low high = absurd (omega (arith, room))
new_has o from (suc n) (None ∷ hs) k room low high = by (k == from) refl (λ l. new_has o (suc from) n hs k (omega (arith, room)) l (omega (arith, high)))
  where
    by : (t : Bool) → (k == from) ≡ t → (suc from ≤ k → IsGiven (with_taken o (suc from) n hs) (block_of o k)) → IsGiven (with_taken o from (suc n) (None ∷ hs)) (block_of o k)
    by true e later = (zero, ap (λ i. Some (block_of o i)) (sym (eqb-true k from e)))
    by false e later =
        let other : ¬ (k ≡ from) = λ i. let t = eq-eqb k from i in cc in
        let r = later (omega (arith, low, other)) in
        (suc r.0, r.1)
new_has o from (suc n) (Some g ∷ hs) k room low high = let r = new_has o from (suc n) hs k room low high in (suc r.0, r.1)

-- the indices of an owner's blocks lie below one
abbrev AreLow : Owner → ℕ → Holders → Type 0
AreLow o from hs = (a k : ℕ) → holder_at hs a ≡ Some (block_of o k) → k < from

index_same : (o : Owner) (i k : ℕ) → block_of o i ≡ block_of o k → i ≡ k
index_same o i k e = ap (λ (h : Holder). h.index) e

-- a block stands at one address alone
pub still_single : (o : Owner) (from n : ℕ) (hs : Holders) → AreLow o from hs → Single hs → Single (with_taken o from n hs)
still_single o from zero hs low single = single
still_single o from (suc n) [] low single = single
still_single o from (suc n) (None ∷ hs) low single =
    cases (still_single o (suc from) n hs (λ a k e. let less = low (suc a) k e in omega (arith, less)) (later_single None hs single))
  where
    never : (a : ℕ) (h : Holder) → block_of o from ≡ h → holder_at (with_taken o (suc from) n hs) a ≡ Some h → ⊥
    never a h same e = elim (old_or_new o (suc from) n hs a h e) [
      | inl k ↦ (let less = low (suc a) from (k ∙ ap (λ x. Some x) (sym same)) in omega (arith, less))
      | inr r ↦ (let high = r.low in let i = index_same o from r.index (same ∙ r.is) in omega (arith, high, i))
    ]

    cases : Single (with_taken o (suc from) n hs) → Single (with_taken o from (suc n) (None ∷ hs))
    cases later zero zero h e k = refl
    cases later zero (suc c) h e k = absurd (never c h (some_is e) k)
    cases later (suc a) zero h e k = absurd (never a h (some_is k) e)
    cases later (suc a) (suc c) h e k = ap suc (later a c h e k)
still_single o from (suc n) (Some g ∷ hs) low single =
    cases (still_single o from (suc n) hs (λ a k e. low (suc a) k e) (later_single (Some g) hs single))
  where
    never : (a : ℕ) (h : Holder) → g ≡ h → holder_at (with_taken o from (suc n) hs) a ≡ Some h → ⊥
    never a h same e = elim (old_or_new o from (suc n) hs a h e) [
      | inl k ↦ (let far = single zero (suc a) h (ap (λ x. Some x) same) k in omega (arith, far))
      | inr r ↦ (let high = r.low in let less = low zero r.index (ap (λ x. Some x) (same ∙ r.is)) in omega (arith, high, less))
    ]

    cases : Single (with_taken o from (suc n) hs) → Single (with_taken o from (suc n) (Some g ∷ hs))
    cases later zero zero h e k = refl
    cases later zero (suc c) h e k = absurd (never c h (some_is e) k)
    cases later (suc a) zero h e k = absurd (never a h (some_is k) e)
    cases later (suc a) (suc c) h e k = ap suc (later a c h e k)

-- ---- what is given out

module _ (hs : Holders) (pairs others : List BlockPair) (takings more : List ℕ) (lane n : ℕ) (room : n ≤ open_in hs) (grown : laws.HasGrown lane n takings more) (gives : GivesJust hs pairs others takings) where
  never_less : (other : ℕ) → taken takings other ≤ taken more other
  never_less other = by (other == lane) refl
    where
      by : (t : Bool) → (other == lane) ≡ t → taken takings other ≤ taken more other
      by true e = subst (λ l. taken takings l ≤ taken more l) (sym (eqb-true other lane e)) (let here = grown.here in omega (arith, here))
      by false e = let same = grown.elsewhere other (λ i. let t = eq-eqb other lane i in cc) in omega (arith, same)

  wanted_more : (owner : Owner) (index : ℕ) → is_wanted pairs others takings owner index ≡ true → is_wanted pairs others more owner index ≡ true
  wanted_more (File file) index e = e
  wanted_more (Taking other) index e = let less = ltb-true index (taken takings other) e in let grows = never_less other in lt-ltb index (taken more other) (omega (arith, less, grows))

  only_wanted : (a : ℕ) (h : Holder) → holder_at (with_taken (Taking lane) (taken takings lane) n hs) a ≡ Some h → is_wanted pairs others more h.owner h.index ≡ true
  only_wanted a h e = elim (old_or_new (Taking lane) (taken takings lane) n hs a h e) [
    | inl k ↦ wanted_more h.owner h.index (gives.only a h k)
    | inr r ↦ (let high = r.high in let here = grown.here in
        subst (λ (x : Holder). is_wanted pairs others more x.owner x.index ≡ true) (sym r.is) (lt-ltb r.index (taken more lane) (omega (arith, high, here))))
  ]

  was_given : (h : Holder) → IsGiven hs h → IsGiven (with_taken (Taking lane) (taken takings lane) n hs) h
  was_given h at = (at.0, old_stays (Taking lane) (taken takings lane) n hs at.0 h at.1)

  here_given : (index : ℕ) → index < taken takings lane + n → IsGiven (with_taken (Taking lane) (taken takings lane) n hs) (block_of (Taking lane) index)
  here_given index less = by (nat_lt index (taken takings lane)) refl
    where
      by : (t : Bool) → nat_lt index (taken takings lane) ≡ t → IsGiven (with_taken (Taking lane) (taken takings lane) n hs) (block_of (Taking lane) index)
      by true e = was_given (block_of (Taking lane) index) (gives.recordings lane index (ltb-true index (taken takings lane) e))
      by false e = new_has (Taking lane) (taken takings lane) n hs index room (ltb-false index (taken takings lane) e) less

  all_given : (other index : ℕ) → index < taken more other → IsGiven (with_taken (Taking lane) (taken takings lane) n hs) (block_of (Taking other) index)
  all_given other index less = by (other == lane) refl
    where
      by : (t : Bool) → (other == lane) ≡ t → IsGiven (with_taken (Taking lane) (taken takings lane) n hs) (block_of (Taking other) index)
      by true e =
          let same = eqb-true other lane e in
          let within : index < taken more lane = subst (λ l. index < taken more l) same less in
          let here = grown.here in
          subst (λ l. IsGiven (with_taken (Taking lane) (taken takings lane) n hs) (block_of (Taking l) index)) (sym same) (here_given index (omega (arith, within, here)))
      by false e =
          let same = grown.elsewhere other (λ i. let t = eq-eqb other lane i in cc) in
          was_given (block_of (Taking other) index) (gives.recordings other index (omega (arith, less, same)))

  gives_grown : GivesJust (with_taken (Taking lane) (taken takings lane) n hs) pairs others more
  gives_grown = record {
    only = only_wanted;
    single = still_single (Taking lane) (taken takings lane) n hs (λ a k e. ltb-true k (taken takings lane) (gives.only a (block_of (Taking lane) k) e)) gives.single;
    passages = λ q e. was_given (block_of (File q.file) q.index) (gives.passages q e);
    recordings = all_given;
  }

pub grown : laws.Grown
grown held pledged takings more old new b lane n runs shows form room is grows = record {
  kept = shows;
  size = ap length is ∙ grown_size (Taking lane) (taken takings lane) n old.blocks.holders ∙ runs.size;
  addresses = subst (λ hs. Every (IsHeld hs) b.places) (sym is)
      (every-imply (IsHeld old.blocks.holders) (IsHeld (with_taken (Taking lane) (taken takings lane) n old.blocks.holders))
      (λ p e. old_stays (Taking lane) (taken takings lane) n old.blocks.holders p.address (block_of (File p.pair.file) p.pair.index) e) b.places runs.addresses);
  given = subst (λ hs. GivesJust hs (used_pairs b.kept) (pairs_in b.shape.block (held ++ pledged)) more) (sym is)
      (gives_grown old.blocks.holders (used_pairs b.kept) (pairs_in b.shape.block (held ++ pledged)) takings more lane n room grows runs.given);
  below = runs.below;
  in_form = form ∙ runs.in_form;
  valid = runs.valid;
  placed = runs.placed;
  used = runs.used;
}
