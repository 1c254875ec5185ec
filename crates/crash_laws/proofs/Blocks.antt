-- Writes into blocks without a place leave what is read and how it is filled.
use Rattle.std.proofs.Common.{◌≡◌, ◌⊎◌, inl, inr, ℕ, ◌+◌, ◌*◌, ◌<◌, ◌≤◌, List, length, Bool, true, false, not, sym, ◌∙◌, ap, subst, arith}
use Rattle.voice_units.specs.declared.shapes.Shape.{Shape}
use Rattle.voice_outside.specs.Disk.{Told, AgreesOutside}
use Rattle.disk_areas.specs.Areas.{Journal}
use Rattle.voice_journal.specs.Readings.{Reads, OtherIs, IsPending, data_start}
use Rattle.voice_journal.specs.Places.{JournalValue, area_start, landed, commit_place, closed_after}
use Rattle.voice_journal.specs.Stands.{Stands, IsReady, IsAt}
use Rattle.voice_journal.specs.declared.seats.Doubt.{Doubt}
use Rattle.voice_journal.specs.declared.seats.Doubt.TheVariants.{Record, Area}
use Rattle.voice_journal.specs.declared.seats.Seat.{Seat}
use Rattle.voice_journal.proofs.Relations.{reads_as}
use Rattle.voice_journal.proofs.Moves.{layout}
use Rattle.voice_blocks.specs.Place.{block_place}
use Rattle.voice_model.specs.Replay.{Rebuilt, recovered}
use Rattle.journal_readings.specs.Readings.{Rebuild}
use Rattle.crash_laws.specs.Calls.{AreFree}
use Rattle.crash_laws.specs.Foundations.{Foundations}

-- where a reading's gate stands
record Placed (image : List ℕ) (r : Journal) : Type 0 where
  pub high : r.start + r.gate < 64 + 2 * r.shape.area
  pub least : 512 ≤ r.shape.area
  pub whole : 64 + 2 * r.shape.area ≤ length image

placed : (image : List ℕ) (r : Journal) → Reads image r → Placed image r
placed image r reads =
    let is = reads_as image r reads in
    let l = layout image r is.stem.front is.stem.at in
    record { high = omega (arith, l.high, is.stem.room); least = l.least; whole = l.whole }

other_area : (shape : Shape) (second : Bool) → 512 ≤ shape.area → area_start shape second < 64 + 2 * shape.area
other_area shape true least = omega arith
other_area shape false least = omega arith

-- the gate that commits lies in the areas
pub place_within : (shape : Shape) (seat : Seat) (doubt : Doubt) (image : List ℕ) (r s : Journal) → IsAt shape seat r → IsAt shape (landed seat doubt) s → Reads image r ⊎ Reads image s
    → (commit_place shape seat doubt < 64 + 2 * shape.area) × (64 + 2 * shape.area ≤ length image)
place_within shape seat (Record len) image r s at next (inl reads) =
    let p = placed image r reads in
    let area : shape.area ≡ r.shape.area = ap (λ (x : Shape). x.area) at.shape_is in
    (omega (arith, p.high, at.start, at.gate, area), omega (arith, p.whole, area))
place_within shape seat (Record len) image r s at next (inr reads) =
    let p = placed image s reads in
    let area : shape.area ≡ s.shape.area = ap (λ (x : Shape). x.area) next.shape_is in
    let start : area_start shape seat.second ≡ s.start = next.start in
    let gate : seat.gate + (5 + len) ≡ s.gate = next.gate in
    (omega (arith, p.high, start, gate, area), omega (arith, p.whole, area))
place_within shape seat (Area gate) image r s at next (inl reads) =
    let p = placed image r reads in
    let area : shape.area ≡ r.shape.area = ap (λ (x : Shape). x.area) at.shape_is in
    (other_area shape (not seat.second) (omega (arith, p.least, area)), omega (arith, p.whole, area))
place_within shape seat (Area gate) image r s at next (inr reads) =
    let p = placed image s reads in
    let area : shape.area ≡ s.shape.area = ap (λ (x : Shape). x.area) next.shape_is in
    (other_area shape (not seat.second) (omega (arith, p.least, area)), omega (arith, p.whole, area))

-- blocks lie behind the areas
pub behind : (shape : Shape) (address : ℕ) → data_start shape ≤ block_place shape address
behind shape address = omega arith

module _ (laws : Foundations) (journal : JournalValue) (address n : ℕ) (old : Told) where
  abbrev at : ℕ
  at = block_place journal.shape address

  beyond : (r : Journal) → journal.shape ≡ r.shape → data_start r.shape ≤ at
  beyond r shape = subst (λ (x : Shape). data_start x ≤ at) shape (behind journal.shape address)

  pub sure_kept : (r : Journal) → Stands journal old r → (from image : List ℕ) → old.may_leave old.calls from → AgreesOutside at n from image → Reads image r × OtherIs journal.is_closed r image
  sure_kept r stands from image was agrees = laws.apart.sure journal.is_closed from image r at n (beyond r stands.at.shape_is) agrees (stands.each from was)

  pub pending_kept : (doubt : Doubt) (r s : Journal) → IsReady journal doubt old r s → (from image : List ℕ) → old.may_leave old.calls from → AgreesOutside at n from image
      → IsPending (commit_place journal.shape journal.seat doubt) r s (closed_after journal.is_closed doubt) image
  pending_kept doubt r s ready from image was agrees =
      let pending = ready.each from was in
      let place = place_within journal.shape journal.seat doubt from r s ready.at ready.next (laws.either (commit_place journal.shape journal.seat doubt) r s (closed_after journal.is_closed doubt) from pending) in
      let low = behind journal.shape address in
      laws.apart.unsure (closed_after journal.is_closed doubt) (commit_place journal.shape journal.seat doubt) from image r s at n
      (beyond r ready.at.shape_is) (beyond s ready.next.shape_is) (omega (arith, place.0, low)) (omega (arith, place.0, place.1)) agrees pending

-- an image that agrees outside blocks without a place is filled as the other
pub spared : Foundations → (shape : Shape) (address count n : ℕ) → n ≤ count * shape.block → (r : Journal) (b : Rebuilt) → shape ≡ r.shape → Rebuild r b → AreFree address count b
    → (from image : List ℕ) → AgreesOutside (block_place shape address) n from image → recovered image b ≡ recovered from b
spared laws shape address count n fits r b in_shape rebuilds free from image agrees =
    let v = laws.valid.valid r b rebuilds in
    let same : shape ≡ b.shape = in_shape ∙ sym v.3 in
    laws.alike.blocks b from image v.1
    (laws.alike.free b from image address count n free (subst (λ (x : Shape). n ≤ count * x.block) same fits) (subst (λ (x : Shape). AgreesOutside (block_place x address) n from image) same agrees))
