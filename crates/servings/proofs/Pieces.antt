-- A window copied piece by piece.
use Rattle.std.proofs.Common.{◌≡◌, ℕ, ◌+◌, ◌-◌, ◌≤◌, ◌<◌, inl, inr, not, ◌||◌, ◌==◌, min, Bool, true, false, List, ◌++◌, length, take, drop, slice_range, Option, Some, None, refl, sym, ap, ◌∙◌, subst, arith, append_assoc, append-nil}
use Rattle.std.proofs.lemmas.Bool.{eqb-true}
use Rattle.std.proofs.lemmas.Bool.Decides.{nat_tests}
use Rattle.std.proofs.Math.Seq.{take-add}
use Rattle.frame_pool.specs.Pool.{LeaseState, with_look}
use Rattle.players.specs.declared.took.Took.{Took}
use Rattle.players.specs.declared.took.Took.TheVariants.{Samples, Dry, Hinted}
use Rattle.players.specs.Players.{PlayerState, Gets, seen, looked, moved, is_over, is_dry, left_of, rest_of, samples_in, samples_of}
use Rattle.servings.specs.Copied.{IsToHear, IsThrough, HasCopied}

-- where a player is in its window
pub record IsIn (old new : PlayerState) (before after : List ℕ) : Type 0 where
  pub window : LeaseState
  pub had : old.lease ≡ Some window
  pub now : LeaseState
  pub has : new.lease ≡ Some now
  pub len : now.len ≡ window.len
  pub live : now.live ≡ true
  pub taken : now.taken ≡ window.taken
  pub samples : now.samples ≡ window.samples
  pub most : new.at ≤ window.len
  pub copied : after ≡ before ++ take new.at window.samples

pub begins : (old : PlayerState) (before : List ℕ) → IsToHear old → IsIn old old before before
begins old before h = record {
  window = h.window;
  had = h.out;
  now = h.window;
  has = h.out;
  len = refl;
  live = h.live;
  taken = refl;
  samples = refl;
  most = omega (arith, h.none_yet);
  copied = sym (append-nil before) ∙ ap (λ n. before ++ take n h.window.samples) (sym h.none_yet);
}

more : (before bs : List ℕ) (at n : ℕ) → (before ++ take at bs) ++ slice_range bs at (at + n) ≡ before ++ take (at + n) bs
more before bs at n =
    let same : slice_range bs at (at + n) ≡ take n (drop at bs) = grind arith in
    append_assoc before (take at bs) (slice_range bs at (at + n)) ∙ ap (λ k. before ++ k) (ap (λ k. take at bs ++ k) same ∙ sym (take-add at n bs))

looked_window : (b : Bool) (p : PlayerState) (l : LeaseState) → p.lease ≡ Some l → (looked b p).lease ≡ Some (with_look l b)
looked_window b p l e = ap (seen b) e

within : (n m left : ℕ) → n ≡ min m left → n ≤ left
within n m left e = omega (arith, e)

-- one piece more
pub goes_on :
    (old now new : PlayerState) (before heard piece : List ℕ) (n m : ℕ) → IsIn old now before heard → n ≡ min m (rest_of now) → new ≡ moved n (looked false now)
    → piece ≡ slice_range (samples_of now) now.at (now.at + n) → IsIn old new before (heard ++ piece)
goes_on old now new before heard piece n m h few e f =
    let at : new.at ≡ now.at + n = ap (λ (p : PlayerState). p.at) e in
    let left : rest_of now ≡ h.now.len - now.at = ap (left_of now.at) h.has in
    let bytes : samples_of now ≡ h.window.samples = ap samples_in h.has ∙ h.samples in
    let few2 = within n m (rest_of now) few in
    record {
      window = h.window;
      had = h.had;
      now = with_look h.now false;
      has = ap (λ (p : PlayerState). p.lease) e ∙ looked_window false now h.now h.has;
      len = h.len;
      live = h.live;
      taken = h.taken;
      samples = h.samples;
      most = omega (arith, at, left, few2, h.most, h.len);
      copied =
          ap (λ l. l ++ piece) h.copied ∙ ap (λ l. (before ++ take now.at h.window.samples) ++ l) (f ∙ ap (λ bs. slice_range bs now.at (now.at + n)) bytes)
          ∙ more before h.window.samples now.at n ∙ ap (λ k. before ++ take k h.window.samples) (sym at);
    }

-- what is left of the window is less
pub falls : (now new : PlayerState) (n m : ℕ) → 1 ≤ n → n ≡ min m (rest_of now) → new ≡ moved n (looked false now) → rest_of new < rest_of now
falls now new n m some few e = by now.lease refl
  where
    by : (o : Option LeaseState) → now.lease ≡ o → rest_of new < rest_of now
    by None g = let none : rest_of now ≡ 0 = ap (left_of now.at) g in omega (arith, none, few, some)
    by (Some l) g =
        let left : rest_of now ≡ l.len - now.at = ap (left_of now.at) g in
        let at : new.at ≡ now.at + n = ap (λ (p : PlayerState). p.at) e in
        let has : new.lease ≡ Some (with_look l false) = ap (λ (p : PlayerState). p.lease) e ∙ looked_window false now l g in
        let left2 : rest_of new ≡ l.len - new.at = ap (left_of new.at) has in
        let few2 = within n m (rest_of now) few in
        omega (arith, left, left2, at, few2, some)

dry_all : (live : Bool) (at len : ℕ) → live ≡ true → (not live || (at == len)) ≡ true → at ≡ len
dry_all true at len e h = eqb-true at len h
dry_all false at len e h = cc

dry_less : (live : Bool) (at len : ℕ) → at ≤ len → (not live || (at == len)) ≡ false → at < len
dry_less true at len le h = grind (arith, nat_tests)
dry_less false at len le h = cc

-- nothing is left of it
pub ends_dry : (old now new : PlayerState) (before heard : List ℕ) → IsIn old now before heard → is_dry now ≡ true → new ≡ now → HasCopied old new before heard
ends_dry old now new before heard h dry e =
    let over : (not h.now.live || (now.at == h.now.len)) ≡ true = sym (ap (is_over now.at) h.has) ∙ dry in
    let all : now.at ≡ h.now.len = dry_all h.now.live now.at h.now.len h.live over in
    let at : new.at ≡ now.at = ap (λ (p : PlayerState). p.at) e in
    let has : new.lease ≡ Some h.now = ap (λ (p : PlayerState). p.lease) e ∙ h.has in
    record {
      window = h.window;
      had = h.had;
      window_after = h.now;
      has = has;
      len = h.len;
      copied = h.copied ∙ ap (λ n. before ++ take n h.window.samples) (sym at);
      through = λ _. subst (IsThrough new.at) (sym has) (inl (at ∙ all));
    }

-- the hint was seen
pub ends_hinted : (old now new : PlayerState) (before heard : List ℕ) → IsIn old now before heard → is_dry now ≡ false → new ≡ looked true now → HasCopied old new before heard
ends_hinted old now new before heard h dry e =
    let over : (not h.now.live || (now.at == h.now.len)) ≡ false = sym (ap (is_over now.at) h.has) ∙ dry in
    let less : now.at < h.now.len = dry_less h.now.live now.at h.now.len (omega (arith, h.most, h.len)) over in
    let at : new.at ≡ now.at = ap (λ (p : PlayerState). p.at) e in
    let has : new.lease ≡ Some (with_look h.now true) = ap (λ (p : PlayerState). p.lease) e ∙ looked_window true now h.now h.has in
    record {
      window = h.window;
      had = h.had;
      window_after = with_look h.now true;
      has = has;
      len = h.len;
      copied = h.copied ∙ ap (λ n. before ++ take n h.window.samples) (sym at);
      through = λ free. subst (IsThrough new.at) (sym has) (inr (omega (arith, at, less), h.taken ∙ free, refl));
    }

-- it got no samples
pub ends :
    (took : Took) (old now new : PlayerState) (before heard piece room : List ℕ) → IsIn old now before heard → ((n : ℕ) → took ≡ Samples n → ⊥) → Gets now took piece room new
    → HasCopied old new before heard
ends (Samples n) old now new before heard piece room h none gets = absurd (none n refl)
ends Dry old now new before heard piece room h none gets = ends_dry old now new before heard h gets.0 gets.1
ends Hinted old now new before heard piece room h none gets = ends_hinted old now new before heard h gets.0 gets.1

-- it got some, which were put behind the others
pub got :
    (old now new : PlayerState) (before heard after piece room : List ℕ) (n : ℕ) → IsIn old now before heard → Gets now (Samples n) piece room new
    → after ≡ heard ++ take n room → IsIn old new before after
got old now new before heard after piece room n h gets e =
    subst (IsIn old new before) (sym e) (goes_on old now new before heard (take n room) n (length piece) h gets.2 gets.3 gets.4)

-- its lane stays
pub same_lane : (took : Took) (now new : PlayerState) (piece room : List ℕ) → Gets now took piece room new → new.lane ≡ now.lane
same_lane (Samples n) now new piece room gets = ap (λ (p : PlayerState). p.lane) gets.3
same_lane Dry now new piece room gets = ap (λ (p : PlayerState). p.lane) gets.1
same_lane Hinted now new piece room gets = ap (λ (p : PlayerState). p.lane) gets.1
