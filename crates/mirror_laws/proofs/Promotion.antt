-- A mirror's disk that becomes a plain voice disk.
use Rattle.std.proofs.Common.{◌≡◌, ◌⊎◌, inl, inr, ℕ, ◌-◌, List, map, Some, refl, sym, ◌∙◌, ap, subst}
use Rattle.voice_outside.specs.Disk.{Told, Now, Leaves}
use Rattle.disk_areas.specs.Areas.{Journal}
use Rattle.voice_journal.specs.Readings.{Reads, switched, SameElsewhere, Without, Within}
use Rattle.voice_journal.specs.Places.{JournalValue, commit_place, closed_after}
use Rattle.voice_journal.specs.Stands.{StandsInDoubt}
use Rattle.voice_model.specs.Samples.{Tagged}
use Rattle.voice_model.specs.State.{State, Durable, opened}
use Rattle.voice_model.specs.Spelling.{spelling}
use Rattle.voice_model.specs.Replay.{Rebuilt, recovered}
use Rattle.voice_model.specs.Base.{base_of, in_order}
use Rattle.voice_model.specs.Image.{opened_from}
use Rattle.journal_readings.specs.Readings.{Rebuild}
use Rattle.mirror_readings.specs.Readings.{Mirrored}
use Rattle.crash_laws.specs.Standing.{IsLater}
use Rattle.crash_laws.specs.Calls.{Does, Undoes, Doubts, StaysWithin}
use Rattle.crash_laws.proofs.Near.{fills_same}
use Rattle.mirror_laws.specs.Standing.{Gives, StandsSure}
use Rattle.mirror_laws.specs.Foundations.{MirrorFoundations}
use Rattle.mirror_laws.specs.Promotion.{IsMirror, IsPlain, IsEither, PromotionsTurn}
use Rattle.mirror_laws.proofs.Near.{shape_is, means, means_near, gives_moved}

-- what an image of a disk that opens gives
abbrev OpensWith : Durable Tagged → List ℕ → Type 0
OpensWith kept image = (s : State) × (opened_from image ≡ Some s) × (s.kept ≡ kept) × (s.form ≡ 2)

module _ (laws : MirrorFoundations) (old new : Told) (journal : JournalValue) (b : Rebuilt) (had : Mirrored) (is : IsLater old new) (u : StandsSure journal old b had.position had.kept) where
  abbrev r : Journal
  r = u.reading

  in_shape : b.shape ≡ r.shape
  in_shape = shape_is laws r b had.position u.gives.rebuilds

  -- an image with all that had been written elsewhere is filled as the disk's bytes
  fills : (image : List ℕ) → SameElsewhere r.shape old.bytes image → recovered image b ≡ had.kept
  fills image same = fills_same laws.below old new is r.shape b had.kept in_shape (u.gives.fills old.bytes is.was.present) image same

  near_is_mirror : (image : List ℕ) → Without r old image → IsMirror had image
  near_is_mirror image w = means_near laws old new is r b had.position had.kept u.gives image w.0 w.1

  -- ---- the switch failed before it counted

  module _ (journal' : JournalValue) (undoes : Undoes journal journal' old new) where
    abbrev after : Gives new r b had.position had.kept
    after = gives_moved laws old new is r b had.position had.kept u.gives (Without r old) (undoes r u.stands).1 (λ image w. w.1)

    undone : Now new (IsMirror had)
    undone image left =
        means laws image r b had.position had.kept ((undoes r u.stands).0.each image left).0 u.gives.version u.gives.rebuilds ((after).fills image left)

  -- ---- the switch to the plain base

  module _ (payloads : List (List ℕ)) (spelled : payloads ≡ map spelling (base_of 2 b)) where
    abbrev s : Journal
    s = switched r payloads

    abbrev Reached : Type 0
    Reached =
        (end : Rebuilt) × Rebuild (switched r (map spelling (base_of 2 b))) end × (end.kept ≡ b.kept) × (end.form ≡ 2) × (end.places ≡ in_order b.places) × ((image : List ℕ) → recovered image end ≡ recovered image b)

    reached : Reached
    reached = let v = laws.valid.valid r b had.position u.gives.rebuilds in laws.below.base.switch r 2 b v.0 v.1 v.2 (inl refl) v.3

    abbrev end : Rebuilt
    end = (reached).0

    rebuilds : Rebuild (s) (end)
    rebuilds = subst (λ (ps : List (List ℕ)). Rebuild (switched r ps) (end)) (sym spelled) (reached).1

    filled : (image : List ℕ) → SameElsewhere r.shape old.bytes image → recovered image (end) ≡ had.kept
    filled image same = (reached).5 image ∙ fills image same

    -- an image that reads so is a voice disk's
    is_plain : (image : List ℕ) → Reads image (s) → SameElsewhere r.shape old.bytes image → IsPlain had.kept image
    is_plain image reads same = laws.below.opens.recovers image (s) (end) reads (rebuilds) ∙ ap Some (filled image same)

    opens_with : (image : List ℕ) → Reads image (s) → SameElsewhere r.shape old.bytes image → OpensWith had.kept image
    opens_with image reads same = (
      opened (recovered image (end)) (r.shape.area - 1 - (s).gate) (s).epoch (end).form,
      laws.below.opens.opened image (s) (end) reads (rebuilds),
      filled image same,
      (reached).3,
    )

    by_reading : (image : List ℕ) → Within r (s) old image → IsEither had image
    by_reading image (inl w) = inl (near_is_mirror image w)
    by_reading image (inr w) = inr (is_plain image w.0 w.1)

    within : StaysWithin (λ r. switched r payloads) journal old new → Leaves old new (IsEither had)
    within stays t image le left = elim (stays r u.stands t image le left) [
      | inl was ↦ inl was
      | inr w ↦ inr (by_reading image w)
    ]

    module _ (journal' : JournalValue) (does : Does (λ r. switched r payloads) journal journal' old new) where
      reads_so : (image : List ℕ) → new.may_leave new.calls image → Reads image (s)
      reads_so image left = ((does r u.stands).0.each image left).0

      plain_now : Now new (IsPlain had.kept)
      plain_now image left = is_plain image (reads_so image left) ((does r u.stands).1 image left)

      opens_now : Now new (OpensWith had.kept)
      opens_now image left = opens_with image (reads_so image left) ((does r u.stands).1 image left)

    module _ (journal' : JournalValue) (doubts : Doubts (λ r. switched r payloads) journal journal' old new) where
      abbrev unsure : StandsInDoubt journal' new r (s)
      unsure = (doubts r u.stands).0

      by_gate : (image : List ℕ) → SameElsewhere r.shape old.bytes image → Reads image r ⊎ Reads image (s) → IsEither had image
      by_gate image same (inl reads) = inl (means laws image r b had.position had.kept reads u.gives.version u.gives.rebuilds (fills image same))
      by_gate image same (inr reads) = inr (is_plain image reads same)

      either_now : Now new (IsEither had)
      either_now image left =
          by_gate image ((doubts r u.stands).1 image left)
          (laws.below.either (commit_place journal'.shape journal'.seat (unsure).doubt) r (s) (closed_after journal'.is_closed (unsure).doubt) image ((unsure).ready.each image left))

pub promotions_turn : MirrorFoundations → (old new : Told) → PromotionsTurn old new
promotions_turn laws old new = record {
  within = λ journal b had payloads is u spelled stays. within laws old new journal b had is u payloads spelled stays;
  ok = λ journal journal' b had payloads is u spelled does. plain_now laws old new journal b had is u payloads spelled journal' does;
  opens = λ journal journal' b had payloads is u spelled does. opens_now laws old new journal b had is u payloads spelled journal' does;
  doubt = λ journal journal' b had payloads is u spelled doubts. either_now laws old new journal b had is u payloads spelled journal' doubts;
  before = λ journal journal' b had is u undoes. undone laws old new journal b had is u journal' undoes;
}
