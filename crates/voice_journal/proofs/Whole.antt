-- A change as a whole: a step that commits nothing, and the commit.
use Rattle.std.proofs.Common.{◌≡◌, ⊎_elim, inl, inr, ℕ, ◌*◌, ◌≤◌, List, sym, subst, ap, ◌∙◌}
use Rattle.std.specs.Prelude.{IsTrue}
use Rattle.voice_units.specs.declared.shapes.Shape.{Shape}
use Rattle.voice_outside.specs.Disk.{Told, Now, Leaves}
use Rattle.disk_areas.specs.Areas.{Journal}
use Rattle.voice_journal.specs.Readings.{SameElsewhere, NearOld, Without, Within, WithinLand}
use Rattle.voice_journal.specs.Places.{JournalValue}
use Rattle.voice_journal.specs.Stands.{IsReady, IsKept, IsWhole}
use Rattle.voice_journal.specs.declared.seats.Doubt.{Doubt}
use Rattle.voice_journal.proofs.Segments.{agrees_trans}
use Rattle.voice_journal.proofs.Steps.{then_elsewhere, then_crash, kept_twice}

-- steps that commit nothing, of a journal that is `j` before the last of them and `i` behind it, and which commits `d` next
pub record IsWritten (j i : JournalValue) (d : Doubt) (old mid : Told) (r s : Journal) : Type 0 where
  pub same : i ≡ j
  pub present : old.may_leave old.calls old.bytes
  pub later : old.calls ≤ mid.calls
  pub honest : IsTrue mid.honest
  pub kept : IsKept j old mid r
  pub whole : IsWhole j d mid r s
  pub bytes : SameElsewhere j.shape old.bytes mid.bytes

module _ {j i : JournalValue} {d : Doubt} {old mid : Told} {r s : Journal} (is : IsWritten j i d old mid r s) where
  here : SameElsewhere r.shape old.bytes mid.bytes
  here = subst (λ (x : Shape). SameElsewhere x old.bytes mid.bytes) is.whole.ready.at.shape_is is.bytes

  -- the commit finds all ready
  pub is_ready : IsReady i d mid r s
  is_ready = subst (λ (x : JournalValue). IsReady x d mid r s) (sym is.same) is.whole.ready

  -- a crash in the commit leaves what a crash of the change may leave
  pub whole_crash : (new : Told) → (IsTrue mid.honest → (r s : Journal) → IsReady i d mid r s → Leaves mid new (WithinLand r s mid)) → Leaves old new (Within r s old)
  whole_crash new tells = then_crash old mid new r s is.present is.later is.kept.crash is.whole.settled here (tells is.honest r s is_ready)

  -- nothing else is written
  pub whole_elsewhere : (new : Told) → (IsTrue mid.honest → Now new (NearOld i.shape mid)) → Now new (SameElsewhere r.shape old.bytes)
  whole_elsewhere new tells =
      then_elsewhere old mid new r s is.present is.later is.kept.crash is.whole.settled here
      (subst (λ (x : Shape). Now new (NearOld x mid)) (ap (λ (x : JournalValue). x.shape) is.same ∙ is.whole.ready.at.shape_is) (tells is.honest))

-- what has not committed is within a change
pub kept_within : (old new : Told) (r s : Journal) → Leaves old new (Without r old) → Leaves old new (Within r s old)
kept_within old new r s kept t image le left = ⊎_elim (λ was. inl was) (λ is. inr (inl is)) (kept t image le left)

-- two steps that commit nothing
pub both_kept : (j i : JournalValue) (old mid new : Told) (r : Journal) → ((t u : ℕ) (image : List ℕ) → t ≤ u → mid.may_leave u image → mid.may_leave t image) → old.calls ≤ mid.calls → IsKept i old mid r → IsKept j mid new r → IsKept j old new r
both_kept j i old mid new r since later first second = record { stands = second.stands; crash = kept_twice old mid new r since later first.crash second.crash }

pub elsewhere_both : (x y : Shape) (a b c : List ℕ) → y ≡ x → SameElsewhere x a b → SameElsewhere y b c → SameElsewhere y a c
elsewhere_both x y a b c is first second = agrees_trans 64 (2 * y.area) a b c (subst (λ (z : Shape). SameElsewhere z a b) (sym is) first) second
