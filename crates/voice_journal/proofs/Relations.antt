-- Reading an image as a relation, which the proofs of the calls use.
--     ReadsAs image r      the parts of an image that make it read so
--     reads_as, as_reads      the same as the reading that computes
use Rattle.std.proofs.Common.{◌≡◌, ◌≢◌, ◌⊎◌, inl, inr, ℕ, ◌+◌, ◌-◌, ◌*◌, ◌<◌, ◌≤◌, List, length, get_or, refl, ap, sym, ◌∙◌, subst, arith, Option, Some, None}
use Rattle.voice_units.specs.declared.shapes.Shape.{Shape}
use Rattle.voice_units.specs.Spots.{slice}
use Rattle.disk_areas.specs.Areas.{Head, Record, Records, JournalReading, Journal, current_head, records_from, by_records, by_head}
use Rattle.voice_journal.specs.Readings.{Reads, other_start}
use Rattle.voice_journal.proofs.Slices.{segment_is}
use Rattle.voice_journal.proofs.Fronts.{Front, by_front, front_of, front_size}
use Rattle.voice_journal.proofs.Newer.{IsStart, IsCurrent, other_of, other_first, other_second, current_then, current_is}
use Rattle.voice_journal.proofs.Listing.{AreRecords, Listed, listed, lists}

-- all but what stands at the next gate
pub record Stem (image : List ℕ) (r : Journal) : Type 0 where
  pub front : Front image r.shape
  pub at : IsStart r.shape r.start
  pub current : IsCurrent image r.start (other_of r.shape r.start) r.epoch
  pub records : AreRecords image r.start r.shape.area 16 r.records r.gate
  pub room : r.gate < r.shape.area

-- behind the records stands a gate that is not 1
pub record ReadsAs (image : List ℕ) (r : Journal) : Type 0 where
  pub stem : Stem image r
  pub shut : get_or image (r.start + r.gate) 0 ≢ 1

pub other_is : (r : Journal) → other_start r ≡ other_of r.shape r.start
unfolding other_of
other_is r = refl

-- the two areas lie apart, behind the superblock
pub record Apart (shape : Shape) (start : ℕ) : Type 0 where
  pub low : 64 ≤ start
  pub high : start + shape.area ≤ 64 + 2 * shape.area
  pub other_low : 64 ≤ other_of shape start
  pub other_high : other_of shape start + shape.area ≤ 64 + 2 * shape.area
  pub apart : (start + shape.area ≤ other_of shape start) ⊎ (other_of shape start + shape.area ≤ start)

pub areas_apart : (shape : Shape) (start : ℕ) → IsStart shape start → Apart shape start
areas_apart shape start (inl s) = let o = other_first shape start s in record { low = omega (arith, s); high = omega (arith, s); other_low = omega (arith, o); other_high = omega (arith, o); apart = inl (omega (arith, s, o)) }
areas_apart shape start (inr s) = let o = other_second shape start s in record { low = omega (arith, s); high = omega (arith, s); other_low = omega (arith, o); other_high = omega (arith, o); apart = inr (omega (arith, s, o)) }

pub other_starts : (shape : Shape) (start : ℕ) → IsStart shape start → IsStart shape (other_of shape start)
other_starts shape start (inl s) = inr (other_first shape start s)
other_starts shape start (inr s) = inl (other_second shape start s)

pub other_twice : (shape : Shape) (start : ℕ) → IsStart shape start → other_of shape (other_of shape start) ≡ start
other_twice shape start (inl s) = ap (λ (n : ℕ). other_of shape n) (other_first shape start s) ∙ other_second shape (64 + shape.area) refl ∙ sym s
other_twice shape start (inr s) = ap (λ (n : ℕ). other_of shape n) (other_second shape start s) ∙ other_first shape 64 refl ∙ sym s

pub fits : (image : List ℕ) (shape : Shape) (start : ℕ) → Front image shape → IsStart shape start → start + shape.area ≤ length image
fits image shape start f s = let size = front_size image shape f in let a = (areas_apart shape start s).high in omega arith

headed : (shape : Shape) (image : List ℕ) (o : Option Head) (r : Journal) → by_head shape image o ≡ JournalReading.Stands r
    → (h : Head) × (o ≡ Some h) × (by_records shape h (records_from shape.area shape.area 16 (slice image (h.start + 16) (shape.area - 16))) ≡ JournalReading.Stands r)
headed shape image None r e = cc
headed shape image (Some h) r e = (h, refl, e)

stands_is : (a b : Journal) → JournalReading.Stands a ≡ JournalReading.Stands b → a ≡ b
stands_is a b e = cc

abbrev journal_of : Shape → Head → List Record → ℕ → Journal
journal_of shape h rs gate = record { shape = shape; start = h.start; epoch = h.epoch; records = rs; gate = gate }

sound_of : (shape : Shape) (h : Head) (o : Records) (r : Journal) → by_records shape h o ≡ JournalReading.Stands r → (rs : List Record) × (gate : ℕ) × (o ≡ Records.Sound rs gate) × (journal_of shape h rs gate ≡ r)
sound_of shape h (Records.Sound rs gate) r e = (rs, gate, refl, stands_is _ r e)
sound_of shape h (Records.Broken at) r e = cc

pub reads_as : (image : List ℕ) (r : Journal) → Reads image r → ReadsAs image r
reads_as image r e =
    let f = front_of image r e in
    let h = headed f.0 image (current_head f.0 image) r f.2 in
    let c = current_then f.0 image h.0 h.1 in
    let l = sound_of f.0 h.0 (records_from f.0.area f.0.area 16 (slice image (h.0.start + 16) (f.0.area - 16))) r h.2 in
    let whole = fits image f.0 h.0.start f.1 c.0 in
    let at_is : h.0.start + 16 + (f.0.area - 16) ≤ length image = let least = f.0.conditions.area_least in omega arith in
    let low : 16 < f.0.area = let least = f.0.conditions.area_least in omega arith in
    let is : Listed image h.0.start f.0.area 16 l.0 l.1 = listed image h.0.start f.0.area f.0.area 16 _ l.0 l.1 (segment_is image (h.0.start + 16) (f.0.area - 16) at_is) low (omega arith) whole l.2 in
    let made : ReadsAs image (journal_of f.0 h.0 l.0 l.1) = record { stem = record { front = f.1; at = c.0; current = c.1; records = is.records; room = is.room }; shut = is.shut } in
    subst (λ (x : Journal). ReadsAs image x) l.3 made

pub as_reads : (image : List ℕ) (r : Journal) → ReadsAs image r → Reads image r
as_reads image r is =
    let s = is.stem in
    let h : Head = record { start = r.start; epoch = r.epoch } in
    let whole = fits image r.shape r.start s.front s.at in
    let at_is : r.start + 16 + (r.shape.area - 16) ≤ length image = let least = r.shape.conditions.area_least in omega arith in
    let found : records_from r.shape.area r.shape.area 16 (slice image (r.start + 16) (r.shape.area - 16)) ≡ Records.Sound r.records r.gate =
    lists image r.start r.shape.area r.shape.area 16 _ r.records r.gate (segment_is image (r.start + 16) (r.shape.area - 16) at_is) (omega arith) whole (record { records = s.records; room = s.room; shut = is.shut }) in
    by_front image r.shape s.front ∙ ap (λ (o : Option Head). by_head r.shape image o) (current_is r.shape image r.start r.epoch s.at s.current) ∙ ap (λ (o : Records). by_records r.shape h o) found
