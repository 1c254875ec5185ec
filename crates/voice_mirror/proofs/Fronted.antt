-- A front of a list of changes: where a mirror is opened, and what a crash leaves of it.
use Rattle.std.proofs.Common.{◌≡◌, ℕ, zero, suc, ◌+◌, ◌≤◌, List, [], ◌∷◌, length, take, drop, Some, None, refl, sym, ◌∙◌, ap, subst, arith, length-append}
use Rattle.voice_outside.specs.Disk.{Told, Now}
use Rattle.voice_journal.specs.Looks.{Since}
use Rattle.voice_model.specs.Samples.{Tagged}
use Rattle.voice_model.specs.State.{Durable, Effect}
use Rattle.mirror_readings.specs.Readings.{Mirrored, mirrored_from}
use Rattle.crash_laws.specs.Standing.{IsHonest}
use Rattle.mirror_laws.specs.Standing.{kept_after, with_doubt, moment_of, mirrored_after}
use Rattle.mirror_effects.specs.Laws.{FrontsGrow}
use Rattle.voice_mirror.specs.Shown.{MirrorState, Keeps, IsOpened}
use Rattle.voice_mirror.specs.Serving.{HasFront, IsFrontOf}

some_same : (x y : Mirrored) → Some x ≡ Some y → x ≡ y
some_same x y e = cc

-- a mirror that was opened has a front where its bytes have it
pub front_opened : (start : Durable Tagged) (effects : List (Effect Tagged)) (j : ℕ) (bytes : List ℕ) (calls : ℕ) (disk : Told) (s : MirrorState) → j ≤ length effects → mirrored_from bytes ≡ Some (mirrored_after start 0 effects j)
    → (is : IsOpened bytes calls disk s) → HasFront start effects is.had.kept j is.t0 disk s
front_opened start effects j bytes calls disk s le has is =
    let same : is.had ≡ mirrored_after start 0 effects j = some_same is.had (mirrored_after start 0 effects j) (sym is.mirrored ∙ has) in
    let at : is.had.position ≡ j = ap (λ (m : Mirrored). m.position) same ∙ omega arith in
    let kept : is.had.kept ≡ kept_after start (take j effects) = ap (λ (m : Mirrored). m.kept) same in
    record {
      taken = [];
      doubt = None;
      keeps = subst (λ (n : ℕ). Keeps is.had.kept n is.t0 [] None disk s) at is.keeps;
      front = record { within = le; had = kept; rest = drop j effects; is = refl };
    }

drop_long : {A : Type 0} (n : ℕ) (xs : List A) → n ≤ length xs → length xs ≡ n + length (drop n xs)
drop_long zero xs le = omega arith
drop_long (suc n) [] le = absurd (omega (arith, le))
drop_long (suc n) (x ∷ xs) le = let rest = drop_long n xs (omega (arith, le)) in omega (arith, rest)

module _ (grow : FrontsGrow) (start : Durable Tagged) (effects : List (Effect Tagged)) (first : Durable Tagged) (from t0 : ℕ) (disk : Told) (honest : IsHonest disk) (s : MirrorState) (has : HasFront start effects first from t0 disk s) where
  abbrev xs : List (Effect Tagged)
  xs = with_doubt has.doubt has.taken

  fits : from + length (xs) ≤ length effects
  fits =
      let all = drop_long from effects has.front.within in
      let parts : length (drop from effects) ≡ length (xs) + length has.front.rest = ap length has.front.is ∙ length-append (xs) has.front.rest in
      omega (arith, all, parts)

  by : (k least : ℕ) (image : List ℕ) → k ≤ length has.taken → least ≤ from + k → disk.may_leave (moment_of t0 has.taken k) image → IsFrontOf start effects least image
  by k least image le low left =
      let got = has.keeps.held.held.each k image le left in
      let above = got.1 in
      let below = got.2 in
      record {
        count = from + got.0;
        least_of = omega (arith, low, above);
        most = let f = fits in omega (arith, below, f);
        is = got.3 ∙ ap (λ (m : Mirrored). Some m) (grow.same start effects first from (xs) got.0 has.front below);
      }

  -- each crash since then left a front that has what was there at first
  pub front_since : Since t0 disk (IsFrontOf start effects from)
  front_since image left = by zero from image (omega arith) (omega arith) left

  -- and now it leaves one that has all that was taken
  pub front_now : Now disk (IsFrontOf start effects s.position)
  front_now image left =
      let at = has.keeps.position in
      by (length has.taken) s.position image (omega arith) (omega (arith, at)) (honest.since (moment_of t0 has.taken (length has.taken)) disk.calls image (has.keeps.held.past (length has.taken) (omega arith)) left)
