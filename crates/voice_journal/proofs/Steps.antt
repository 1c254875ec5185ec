-- The steps of a change, and what a crash leaves in them.
use Rattle.std.proofs.Common.{◌≡◌, ◌⊎◌, inl, inr, ⊎_elim, ℕ, ◌+◌, ◌*◌, ◌≤◌, List, [], ◌∷◌, length, get_or, Bool, true, false, refl, ap, sym, ◌∙◌, subst, arith}
use Rattle.std.specs.Prelude.{Result, Ok, Err, OnOk, OnErr, not}
use Rattle.std.specs.Result.{is_err}
use Rattle.std.proofs.lemmas.Bool.{cases_eq}
use Rattle.voice_units.specs.declared.shapes.Shape.{Shape}
use Rattle.voice_outside.specs.Disk.{Told, AgreesOutside, IsTorn, Now, Leaves, WroteSynced, IsSettled}
use Rattle.disk_areas.specs.Areas.{Journal}
use Rattle.voice_journal.specs.Readings.{Reads, OtherIs, IsPending, other_start, SameElsewhere, NearOld, Without, Within, WithinLand}
use Rattle.voice_journal.specs.Places.{area_start}
use Rattle.voice_journal.specs.Stands.{IsAt}
use Rattle.voice_journal.specs.declared.seats.Seat.{Seat}
use Rattle.voice_journal.proofs.Segments.{agrees_refl, agrees_trans, agrees_wider, get_or-segment}
use Rattle.voice_journal.proofs.Newer.{other_of, other_first, other_second}
use Rattle.voice_journal.proofs.Relations.{other_is}

pub on_ok : {T E : Type 0} (r : Result T E) (P : Type 0) → is_err r ≡ false → OnOk r P → P
on_ok (Ok x) P is p = p
on_ok (Err e) P is p = cc

pub when_ok : {T E : Type 0} (r : Result T E) (P Q : Type 0) → (P → Q) → OnOk r P → OnOk r Q
when_ok (Ok x) P Q f p = f p
when_ok (Err e) P Q f p = tt

pub of_err : {T E : Type 0} (r : Result T E) (P : Type 0) → is_err r ≡ true → OnErr r P → P
of_err (Ok x) P is p = cc
of_err (Err e) P is p = p

pub on_err : {T E : Type 0} (r : Result T E) (P : Type 0) → P → OnErr r P
on_err (Ok x) P p = tt
on_err (Err e) P p = p

-- ---- places

pub area_high : (shape : Shape) (second : Bool) → area_start shape second + shape.area ≤ 64 + 2 * shape.area
area_high shape false = omega arith
area_high shape true = omega arith

pub area_low : (shape : Shape) (second : Bool) → 64 ≤ area_start shape second
area_low shape false = omega arith
area_low shape true = omega arith

other_area : (shape : Shape) (second : Bool) → area_start shape (not second) ≡ other_of shape (area_start shape second)
other_area shape false = sym (other_first shape 64 refl)
other_area shape true = sym (other_second shape (64 + shape.area) refl)

-- where the other area begins, from the seat
pub other_at : (shape : Shape) (seat : Seat) (r : Journal) → IsAt shape seat r → area_start shape (not seat.second) ≡ other_start r
other_at shape seat r at =
    other_area shape seat.second ∙ ap (λ (n : ℕ). other_of shape n) at.start ∙ ap (λ (s : Shape). other_of s r.start) at.shape_is ∙ sym (other_is r)

pub area_at : (shape : Shape) (seat : Seat) (r : Journal) → IsAt shape seat r → shape.area ≡ r.shape.area
area_at shape seat r at = ap (λ (s : Shape). s.area) at.shape_is

-- ---- one write and one sync that commit nothing

module _ (old new : Told) (r : Journal) (was is : Bool) (at n : ℕ) (each : Now old (λ image. Reads image r × OtherIs was r image)) (low : 64 ≤ at) (high : at + n ≤ 64 + 2 * r.shape.area)
    (step : (a b : List ℕ) → AgreesOutside at n a b → Reads a r × OtherIs was r a → Reads b r × OtherIs is r b) (bytes : List ℕ) (len : length bytes ≡ n) (wrote : WroteSynced at bytes old new) where
  torn_at : (image : List ℕ) → IsTorn at (length bytes) old image → IsTorn at n old image
  torn_at image torn = subst (λ (m : ℕ). IsTorn at m old image) len torn

  pub each_kept : Now new (λ image. Reads image r × OtherIs is r image)
  each_kept image left = let torn = torn_at image (wrote.torn image left) in step torn.0 image torn.2 (each torn.0 torn.1)

  pub crash_kept : Leaves old new (Without r old)
  crash_kept t image le left =
      ⊎_elim (λ before. inl before) (λ torn'.
      let torn = torn_at image torn' in
      inr ((step torn.0 image torn.2 (each torn.0 torn.1)).0, (torn.0, torn.1, agrees_wider at n 64 (2 * r.shape.area) torn.0 image low high torn.2))) (wrote.crash t image le left)

-- ---- the commit

pub same_elsewhere : (shape : Shape) (at n : ℕ) (a b : List ℕ) → 64 ≤ at → at + n ≤ 64 + 2 * shape.area → AgreesOutside at n a b → SameElsewhere shape a b
same_elsewhere shape at n a b low high agrees = agrees_wider at n 64 (2 * shape.area) a b low high agrees

pub near_torn : (shape : Shape) (old : Told) (at n : ℕ) (image : List ℕ) → 64 ≤ at → at + n ≤ 64 + 2 * shape.area → IsTorn at n old image → NearOld shape old image
near_torn shape old at n image low high torn = (torn.0, torn.1, same_elsewhere shape at n torn.0 image low high torn.2)

-- an image in doubt stays so, whatever is written at the gate
pub pending_moved : (place : ℕ) (r s : Journal) (is_closed : Bool) (a b : List ℕ) → AgreesOutside place 1 a b → IsPending place r s is_closed a → IsPending place r s is_closed b
pending_moved place r s is_closed a b agrees is = record {
  shut = λ c further. is.shut c (agrees_trans place 1 a b c agrees further);
  landed = λ c further. is.landed c (agrees_trans place 1 a b c agrees further);
}

pub pending_either : (place : ℕ) (r s : Journal) (is_closed : Bool) (image : List ℕ) → IsPending place r s is_closed image → Reads image r ⊎ Reads image s
pending_either place r s is_closed image is =
    elim (cases_eq (get_or image place 0) 1) [
      | inl one ↦ inr (is.landed image (agrees_refl place 1 image) one).0
      | inr shut ↦ inl (is.shut image (agrees_refl place 1 image) shut)
    ]

module _ (old new : Told) (r s : Journal) (is_closed : Bool) (place : ℕ) (each : Now old (IsPending place r s is_closed)) (low : 64 ≤ place) (high : place + 1 ≤ 64 + 2 * r.shape.area)
    (wrote : WroteSynced place (1 ∷ []) old new) where
  pub commit_pending : Now new (IsPending place r s is_closed)
  commit_pending image left = let torn = wrote.torn image left in pending_moved place r s is_closed torn.0 image torn.2 (each torn.0 torn.1)

  pub commit_crash : Leaves old new (WithinLand r s old)
  commit_crash t image le left =
      ⊎_elim (λ was. inl was) (λ torn. inr (pending_either place r s is_closed image (pending_moved place r s is_closed torn.0 image torn.2 (each torn.0 torn.1)), near_torn r.shape old place 1 image low high torn)) (wrote.crash t image le left)

  pub commit_landed : new.may_leave new.calls new.bytes → IsSettled place (1 ∷ []) new → Now new (λ image. Reads image s × OtherIs is_closed s image)
  commit_landed present done image left =
      let here : IsPending place r s is_closed new.bytes = commit_pending new.bytes present in
      let z : place ≡ place + 0 = omega arith in
      let one : get_or new.bytes place 0 ≡ 1 = ap (λ (g : ℕ). get_or new.bytes g 0) z ∙ sym (get_or-segment new.bytes place 1 0 (omega arith)) ∙ ap (λ (l : List ℕ). get_or l 0 0) done.written in
      subst (λ (i : List ℕ). Reads i s × OtherIs is_closed s i) (sym (done.settled image left)) (here.landed new.bytes (agrees_refl place 1 new.bytes) one)

-- ---- a step that commits nothing, and then a commit

module _ (old mid new : Told) (r s : Journal) (present : old.may_leave old.calls old.bytes) (later : old.calls ≤ mid.calls) (before : Leaves old mid (Without r old)) (settled : Now mid (λ image. image ≡ mid.bytes))
    (bytes : SameElsewhere r.shape old.bytes mid.bytes) where
  elsewhere : (image : List ℕ) → NearOld r.shape mid image → SameElsewhere r.shape old.bytes image
  elsewhere image near =
      agrees_trans 64 (2 * r.shape.area) old.bytes mid.bytes image bytes (subst (λ (from : List ℕ). AgreesOutside 64 (2 * r.shape.area) from image) (settled near.0 near.1) near.2)

  pub then_elsewhere : Now new (NearOld r.shape mid) → Now new (SameElsewhere r.shape old.bytes)
  then_elsewhere near image left = elsewhere image (near image left)

  pub then_crash : Leaves mid new (WithinLand r s mid) → Leaves old new (Within r s old)
  then_crash crash t image le left =
      ⊎_elim
      (λ in_mid. ⊎_elim (λ was. inl was) (λ kept. inr (inl kept)) (before t image le in_mid))
      (λ here. inr (⊎_elim (λ reads. inl (reads, (old.bytes, present, elsewhere image here.1))) (λ reads. inr (reads, elsewhere image here.1)) here.0))
      (crash t image (omega (arith, le, later)) left)

-- ---- steps one after the other

pub near_now : (old mid : Told) (r : Journal) (image : List ℕ) → ((t u : ℕ) (i : List ℕ) → t ≤ u → mid.may_leave u i → mid.may_leave t i) → old.calls ≤ mid.calls → Leaves old mid (Without r old) → mid.may_leave mid.calls image → NearOld r.shape old image
near_now old mid r image since later crash left =
    ⊎_elim (λ was. (image, was, agrees_refl 64 (2 * r.shape.area) image)) (λ kept. kept.1) (crash old.calls image (omega arith) (since old.calls mid.calls image later left))

pub kept_twice : (old mid new : Told) (r : Journal) → ((t u : ℕ) (i : List ℕ) → t ≤ u → mid.may_leave u i → mid.may_leave t i) → old.calls ≤ mid.calls → Leaves old mid (Without r old) → Leaves mid new (Without r mid) → Leaves old new (Without r old)
kept_twice old mid new r since later first second t image le left =
    ⊎_elim (λ in_mid. first t image le in_mid)
    (λ here.
    let near = near_now old mid r here.1.0 since later first here.1.1 in
    inr (here.0, (near.0, near.1, agrees_trans 64 (2 * r.shape.area) near.0 here.1.0 image near.2 here.1.2)))
    (second t image (omega (arith, le, later)) left)
