-- What a pass over blocks does to their counts.
use Rattle.std.proofs.Common.{◌≡◌, ℕ, ◌+◌, ◌<◌, ◌≤◌, List, Bool, true, false, not, ◌||◌, ◌==◌, cond, if◌then◌else◌, Option, Some, None, unwrap_or, refl, sym, ◌∙◌, ap, subst, arith}
use Rattle.std.proofs.lemmas.Bool.{false≢true, eq-eqb}
use Rattle.std.specs.Prelude.{is_some}
use Rattle.voice_units.specs.Blocks.{BlockPair, has_pair, same_pair}
use Rattle.rope_table.specs.declared.counts.Count.{Count}
use Rattle.rope_table.specs.declared.counts.Pass.{Pass}
use Rattle.rope_table.specs.declared.counts.Pass.TheVariants.{Raise, Lower, Settle, RaiseApart, LowerApart}
use Rattle.rope_table.specs.Table.{no_count, unused, uses_counted}
use Rattle.rope_table.specs.Inside.{Tallied, count_in, found_in, is_entered, touched, used_less, missing, needed, entries_made, raises, lowers, goes_apart, is_met}
use Rattle.voice_units.proofs.Distinct.{same_pair-true}
use Rattle.rope_table.proofs.InOrder.{split}
use Rattle.rope_table.proofs.Blocks.{one_comes, no_more_missing, fewer_pass}

-- a pass has met the blocks of a test, and there is room for those of `pairs` that it hasn't
pub record IsPassed (live : Bool) (pass : Pass) (old now : Tallied) (pairs : List BlockPair) (test : BlockPair → Bool) : Type 0 where
  pub counts : (q : BlockPair) → count_in now q ≡ cond (test q) (touched live pass (count_in old q)) (count_in old q)
  pub room : old.spare + needed pass now pairs ≤ now.spare + needed pass old pairs

again : (live : Bool) (pass : Pass) (c : Count) → goes_apart pass ≡ false → touched live pass (touched live pass c) ≡ touched live pass c
again live Raise c marks = refl
again live Lower c marks = refl
again live Settle c marks = refl
again live RaiseApart c marks = cc
again live LowerApart c marks = cc

-- a block met again is marked
met_twice : (live : Bool) (pass : Pass) (old mid new : Count) (t s : Bool) → (t ≡ true → s ≡ true → goes_apart pass ≡ false) → mid ≡ cond t (touched live pass old) old → new ≡ cond s (touched live pass mid) mid → new ≡ cond (t || s) (touched live pass old) old
met_twice live pass old mid new true true marks e f = f ∙ ap (touched live pass) e ∙ again live pass old (marks refl refl)
met_twice live pass old mid new true false marks e f = f ∙ e
met_twice live pass old mid new false true marks e f = f ∙ ap (touched live pass) e
met_twice live pass old mid new false false marks e f = f ∙ e

none : (o : Option Count) → is_some o ≡ false → unwrap_or o no_count ≡ no_count
none None e = refl
none (Some c) e = cc

not_true : (b : Bool) → not b ≡ true → b ≡ false
not_true true e = cc
not_true false e = refl

not_entered : (counts : Tallied) (p : BlockPair) → is_entered counts p ≡ false → count_in counts p ≡ no_count
not_entered counts p e = none (found_in counts.counts p) e

-- a block with a use has a count
pub used_entered : (counts : Tallied) (p : BlockPair) → 1 ≤ (count_in counts p).uses → is_entered counts p ≡ true
used_entered counts p some = split (is_entered counts p) (λ e. e)
    (λ e. let none : (count_in counts p).uses ≡ 0 = ap (λ (c : Count). c.uses) (not_entered counts p e) in absurd (omega (arith, none, some)))

-- one use less where pieces have the block
pub less_uses : (live s t : Bool) (new old : Count) → t ≡ s → new ≡ cond s (used_less live old) old → (t ≡ true → 1 ≤ old.uses) → new.uses + cond t 1 0 ≡ old.uses
less_uses live true true new old e f some = let u = ap (λ (c : Count). c.uses) f in let least = some refl in omega (arith, u, least)
less_uses live true false new old e f some = absurd (false≢true e)
less_uses live false true new old e f some = absurd (false≢true (sym e))
less_uses live false false new old e f some = let u = ap (λ (c : Count). c.uses) f in omega (arith, u)

pub less_lives : (live s t : Bool) (new old : Count) → t ≡ s → new ≡ cond s (used_less live old) old → (live ≡ true → t ≡ true → 1 ≤ old.live) → new.live + cond live (cond t 1 0) 0 ≡ old.live
less_lives true true true new old e f some = let u = ap (λ (c : Count). c.live) f in let least = some refl refl in omega (arith, u, least)
less_lives false true true new old e f some = let u = ap (λ (c : Count). c.live) f in omega (arith, u)
less_lives live true false new old e f some = absurd (false≢true e)
less_lives live false true new old e f some = absurd (false≢true (sym e))
less_lives true false false new old e f some = let u = ap (λ (c : Count). c.live) f in omega (arith, u)
less_lives false false false new old e f some = let u = ap (λ (c : Count). c.live) f in omega (arith, u)

-- a block without a count has no use
pub missing_unused : (counts : Tallied) (ps : List BlockPair) → missing counts ps ≤ unused (uses_counted counts.counts) ps
missing_unused counts ps = fewer_pass (λ q. not (is_entered counts q)) (λ q. uses_counted counts.counts q == 0) ps
    (λ q e. let none = not_entered counts q (not_true (is_entered counts q) e) in eq-eqb _ 0 (ap (λ (c : Count). c.uses) none))

-- a block without a count is one of those without a use
pub one_unused : (counts : Tallied) (ps : List BlockPair) (p : BlockPair) → has_pair ps p ≡ true → is_entered counts p ≡ false → 1 ≤ unused (uses_counted counts.counts) ps
one_unused counts ps p has absent =
    let some = no_more_missing ps p (is_entered counts) has absent in
    let most = missing_unused counts ps in
    omega (arith, some, most)

pub once_unused : (counts : Tallied) (ps : List BlockPair) (p : BlockPair) → has_pair ps p ≡ true → (if is_entered counts p then 0 else 1) ≤ unused (uses_counted counts.counts) ps
once_unused counts ps p has = split (is_entered counts p)
    (λ e. let none = ap {B = ℕ} (λ b. if b then 0 else 1) e in omega (arith, none))
    (λ e. let one = ap {B = ℕ} (λ b. if b then 0 else 1) e in let some = one_unused counts ps p has e in omega (arith, one, some))

-- a pass that meets a block again marks
marks_met : (pass : Pass) (test : BlockPair → Bool) (p q : BlockPair) → (goes_apart pass ≡ true → test p ≡ false) → test q ≡ true → same_pair p q ≡ true → goes_apart pass ≡ false
marks_met pass test p q fresh t same = split (goes_apart pass) (λ a. absurd (false≢true (sym (fresh a) ∙ ap test (same_pair-true p q same) ∙ t))) (λ a. a)

module _ (live : Bool) where
  -- ---- before a block is met

  pub room_for : (pass : Pass) (old now : Tallied) (pairs : List BlockPair) (test : BlockPair → Bool) (p : BlockPair) → IsPassed live pass old now pairs test → (raises pass ≡ true → missing old pairs ≤ old.spare) → has_pair pairs p ≡ true → raises pass ≡ true → is_entered now p ≡ false → 0 < now.spare
  room_for Raise old now pairs test p h room has is absent =
      let some = no_more_missing pairs p (is_entered now) has absent in
      omega (arith, some, h.room, room refl)
  room_for Lower old now pairs test p h room has is absent = cc
  room_for Settle old now pairs test p h room has is absent = cc
  room_for RaiseApart old now pairs test p h room has is absent =
      let some = no_more_missing pairs p (is_entered now) has absent in
      omega (arith, some, h.room, room refl)
  room_for LowerApart old now pairs test p h room has is absent = cc

  -- a pass that raises and marks has marked what it met
  marked_met : (pass : Pass) (c d : Count) → raises pass ≡ true → goes_apart pass ≡ false → d ≡ touched live pass c → is_met pass d ≡ true
  marked_met Raise c d is marks e = ap (λ (n : Count). n.marked) e
  marked_met Lower c d is marks e = cc
  marked_met Settle c d is marks e = cc
  marked_met RaiseApart c d is marks e = cc
  marked_met LowerApart c d is marks e = cc

  pub fits_in : (Fits : Count → Type 0) (pass : Pass) (old now : Tallied) (pairs : List BlockPair) (test : BlockPair → Bool) (p : BlockPair) → IsPassed live pass old now pairs test → (goes_apart pass ≡ true → test p ≡ false) → (raises pass ≡ true → (q : BlockPair) → has_pair pairs q ≡ true → Fits (count_in old q)) → has_pair pairs p ≡ true → raises pass ≡ true → is_met pass (count_in now p) ≡ false → Fits (count_in now p)
  fits_in Fits pass old now pairs test p h fresh fits has is unmet = split (test p)
      (λ t. absurd (false≢true (split (goes_apart pass)
      (λ a. sym (fresh a) ∙ t)
      (λ a. sym unmet ∙ marked_met pass (count_in old p) (count_in now p) is a (h.counts p ∙ ap (λ b. cond b (touched live pass (count_in old p)) (count_in old p)) t)))))
      (λ t. let same = h.counts p ∙ ap (λ b. cond b (touched live pass (count_in old p)) (count_in old p)) t in subst Fits (sym same) (fits is p has))

  -- a pass that lowers and marks has a count for what it met
  lowered_marked : (pass : Pass) (c : Count) → lowers pass ≡ true → goes_apart pass ≡ false → (touched live pass c).marked ≡ true
  lowered_marked Raise c is marks = cc
  lowered_marked Lower c is marks = refl
  lowered_marked Settle c is marks = cc
  lowered_marked RaiseApart c is marks = cc
  lowered_marked LowerApart c is marks = cc

  pub there : (pass : Pass) (old now : Tallied) (pairs : List BlockPair) (test : BlockPair → Bool) (p : BlockPair) → IsPassed live pass old now pairs test → (goes_apart pass ≡ true → test p ≡ false) → (lowers pass ≡ true → (q : BlockPair) → has_pair pairs q ≡ true → 1 ≤ (count_in old q).uses) → has_pair pairs p ≡ true → lowers pass ≡ true → is_entered now p ≡ true
  there pass old now pairs test p h fresh used has is = split (is_entered now p) (λ e. e)
      (λ e. let none = not_entered now p e in split (test p)
      (λ t. absurd (false≢true (split (goes_apart pass)
      (λ a. sym (fresh a) ∙ t)
      (λ a. ap (λ (c : Count). c.marked) (sym none ∙ h.counts p ∙ ap (λ b. cond b (touched live pass (count_in old p)) (count_in old p)) t) ∙ lowered_marked pass (count_in old p) is a))))
      (λ t. let zero : (count_in old p).uses ≡ 0 = ap (λ (c : Count). c.uses) (sym (sym none ∙ h.counts p ∙ ap (λ b. cond b (touched live pass (count_in old p)) (count_in old p)) t)) in absurd (omega (arith, zero, used is p has))))

  -- ---- after it

  slack : (pass : Pass) (now new : Tallied) (pairs : List BlockPair) (p : BlockPair) → has_pair pairs p ≡ true → (raises pass ≡ true → (q : BlockPair) → is_entered new q ≡ (same_pair p q || is_entered now q)) → needed pass new pairs + entries_made pass (is_entered now p) ≤ needed pass now pairs
  slack Raise now new pairs p has step = one_comes pairs p (is_entered now) (is_entered new) (step refl) has
  slack Lower now new pairs p has step = omega arith
  slack Settle now new pairs p has step = omega arith
  slack RaiseApart now new pairs p has step = one_comes pairs p (is_entered now) (is_entered new) (step refl) has
  slack LowerApart now new pairs p has step = omega arith

  pub one_met : (pass : Pass) (old now new : Tallied) (pairs : List BlockPair) (test next : BlockPair → Bool) (p : BlockPair) → IsPassed live pass old now pairs test → (goes_apart pass ≡ true → test p ≡ false) → has_pair pairs p ≡ true
      → ((q : BlockPair) → count_in new q ≡ cond (same_pair p q) (touched live pass (count_in now q)) (count_in now q))
      → (raises pass ≡ true → (q : BlockPair) → is_entered new q ≡ (same_pair p q || is_entered now q))
      → now.spare ≤ new.spare + entries_made pass (is_entered now p)
      → ((q : BlockPair) → (test q || same_pair p q) ≡ next q) → IsPassed live pass old new pairs next
  one_met pass old now new pairs test next p h fresh has counts entered room step = record {
    counts = λ q. met_twice live pass (count_in old q) (count_in now q) (count_in new q) (test q) (same_pair p q) (λ t same. marks_met pass test p q fresh t same) (h.counts q) (counts q) ∙ ap (λ b. cond b (touched live pass (count_in old q)) (count_in old q)) (step q);
    room = omega (arith, h.room, room, slack pass now new pairs p has entered);
  }

  pub same_test : (pass : Pass) (old now : Tallied) (pairs : List BlockPair) (test next : BlockPair → Bool) → ((q : BlockPair) → test q ≡ next q) → IsPassed live pass old now pairs test → IsPassed live pass old now pairs next
  same_test pass old now pairs test next same h = record { counts = λ q. h.counts q ∙ ap (λ b. cond b (touched live pass (count_in old q)) (count_in old q)) (same q); room = h.room }

  pub none_met : (pass : Pass) (old : Tallied) (pairs : List BlockPair) (test : BlockPair → Bool) → ((q : BlockPair) → test q ≡ false) → IsPassed live pass old old pairs test
  none_met pass old pairs test none = record { counts = λ q. sym (ap (λ b. cond b (touched live pass (count_in old q)) (count_in old q)) (none q)); room = omega arith }
