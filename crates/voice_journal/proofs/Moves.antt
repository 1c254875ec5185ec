-- What a write leaves of an image's reading.
use Rattle.std.proofs.Common.{◌≡◌, ◌⊎◌, inl, inr, ⊎_elim, ℕ, ◌+◌, ◌*◌, ◌^◌, ◌<◌, ◌≤◌, List, [], ◌∷◌, length, get_or, refl, ap, sym, ◌∙◌, subst, arith, Bool, true, false}
use Rattle.std.specs.Prelude.{◌&&◌, ◌==◌, nat_le}
use Rattle.std.proofs.lemmas.Bool.{leb-true, eqb-true, eq-eqb}
use Rattle.std.proofs.lemmas.Bool.Decides.{nat_tests}
use Rattle.voice_outside.specs.Disk.{AgreesOutside}
use Rattle.disk_areas.specs.Numbers.{number_at}
use Rattle.disk_areas.specs.Areas.{Record, Journal, is_head}
use Rattle.voice_journal.specs.Readings.{Reads, OtherIs, other_start, data_start}
use Rattle.voice_journal.proofs.Segments.{segment_same}
use Rattle.voice_journal.proofs.Slices.{number_same, number_byte}
use Rattle.voice_journal.proofs.Fronts.{Front, front_same, front_size, front_length}
use Rattle.voice_journal.proofs.Newer.{IsStart, other_of}
use Rattle.voice_journal.proofs.Listing.{AreRecords, order}
use Rattle.voice_journal.proofs.Relations.{Stem, areas_apart, other_is, fits, reads_as, as_reads}

both_true : (a b : Bool) → (a && b) ≡ true → (a ≡ true) × (b ≡ true)
both_true true true h = (refl, refl)
both_true true false h = cc
both_true false b h = cc

all_true : (a b : Bool) → a ≡ true → b ≡ true → (a && b) ≡ true
all_true true true h k = refl
all_true true false h k = cc
all_true false b h k = cc

below : (m n : ℕ) → m ≤ n → nat_le m n ≡ true
below m n h = grind (arith, nat_tests)

-- a head that counts
pub record Counts (image : List ℕ) (start : ℕ) : Type 0 where
  pub gate : number_at 1 start image ≡ 1
  pub some : 1 ≤ number_at 8 (start + 8) image
  pub limit : number_at 8 (start + 8) image ≤ 2 ^ 48

pub counts : (image : List ℕ) (start : ℕ) → is_head image start ≡ true → Counts image start
unfolding is_head
counts image start h =
    let n = number_at 8 (start + 8) image in
    let front = both_true ((number_at 1 start image == 1) && nat_le 1 n) (nat_le n (2 ^ 48)) h in
    let first = both_true (number_at 1 start image == 1) (nat_le 1 n) front.0 in
    record { gate = eqb-true _ _ first.0; some = leb-true 1 n first.1; limit = leb-true n (2 ^ 48) front.1 }

pub is_counted : (image : List ℕ) (start : ℕ) → Counts image start → is_head image start ≡ true
unfolding is_head
is_counted image start c = all_true _ _ (all_true _ _ (eq-eqb _ _ c.gate) (below 1 _ c.some)) (below _ (2 ^ 48) c.limit)

-- a head that is closed, or whose epoch is older, does not win
pub other_loses : (is_closed : Bool) (image : List ℕ) (r : Journal) → other_start r + 16 ≤ length image → OtherIs is_closed r image → is_head image (other_of r.shape r.start) ≡ true → number_at 8 (other_of r.shape r.start + 8) image < r.epoch
other_loses true image r within is h =
    let c = counts image (other_start r) (ap (λ (n : ℕ). is_head image n) (other_is r) ∙ h) in
    absurd (is (sym (number_byte image (other_start r) (omega arith)) ∙ c.gate))
other_loses false image r within is h =
    let same = other_is r in
    let c = counts image (other_start r) (ap (λ (n : ℕ). is_head image n) same ∙ h) in
    subst (λ (n : ℕ). number_at 8 (n + 8) image < r.epoch) same (is c.limit)

-- bytes of one image that another has too
abbrev pub SameIn : ℕ → ℕ → List ℕ → List ℕ → Type 0
SameIn from to a b = (i : ℕ) → from ≤ i → i < to → get_or b i 0 ≡ get_or a i 0

pub records_same : (a b : List ℕ) (start area at : ℕ) (rs : List Record) (last : ℕ) → length b ≡ length a → start + area ≤ length a → SameIn (start + at) (start + last) a b → AreRecords a start area at rs last → AreRecords b start area at rs last
records_same a b start area at [] last len within same is = is
records_same a b start area at (r ∷ rs) last len within same is =
    let n = length r.payload in
    let later = order a start area (at + 5 + n) rs last is.5 in
    let room = is.4 in (
      is.0,
      same (start + at) (omega arith) (omega arith) ∙ is.1,
      number_same b a (start + at + 1) 4 len (omega arith) (λ i lo hi. same i (omega arith) (omega arith)) ∙ is.2,
      segment_same b a (start + at + 5) n (λ i lo hi. same i (omega arith) (omega arith)) ∙ is.3,
      is.4,
      records_same a b start area (at + 5 + n) rs last len within (λ i lo hi. same i (omega arith) hi) is.5,
    )

pub head_same : (a b : List ℕ) (start : ℕ) → length b ≡ length a → start + 16 ≤ length a → SameIn start (start + 16) a b → is_head b start ≡ is_head a start
unfolding is_head
head_same a b start len within same =
    rw (number_same b a start 1 len (omega arith) (λ i lo hi. same i lo (omega arith)), number_same b a (start + 8) 8 len (omega arith) (λ i lo hi. same i (omega arith) (omega arith))) refl

-- the superblock, and the current area up to the gate, are as before; and the other head does not win
pub stem_moved : (a b : List ℕ) (r : Journal) → length b ≡ length a → SameIn 0 64 a b → SameIn r.start (r.start + r.gate) a b
    → (is_head b (other_of r.shape r.start) ≡ true → number_at 8 (other_of r.shape r.start + 8) b < r.epoch) → Stem a r → Stem b r
stem_moved a b r len front same wins s =
    let from = order a r.start r.shape.area 16 r.records r.gate s.records in
    let within = fits a r.shape r.start s.front s.at in
    let room = s.room in
    record {
      front = front_same a b (front_length a r.shape s.front) len (λ i lt. front i (omega arith) lt) r.shape s.front;
      at = s.at;
      current = record {
        head = head_same a b r.start len (omega arith) (λ i lo hi. same i lo (omega arith)) ∙ s.current.head;
        epoch_is = number_same b a (r.start + 8) 8 len (omega arith) (λ i lo hi. same i (omega arith) (omega arith)) ∙ s.current.epoch_is;
        wins = wins;
      };
      records = records_same a b r.start r.shape.area 16 r.records r.gate len within (λ i lo hi. same i (omega arith) hi) s.records;
      room = s.room;
    }

-- the other head's bytes are as before, or what is known of it
pub other_same : (is_closed : Bool) (a b : List ℕ) (r : Journal) → length b ≡ length a → other_start r + 16 ≤ length a → SameIn (other_start r) (other_start r + 16) a b → OtherIs is_closed r a → OtherIs is_closed r b
other_same true a b r len within same is = λ one. is (sym (same (other_start r) (omega arith) (omega arith)) ∙ one)
other_same false a b r len within same is =
    let n = number_same b a (other_start r + 8) 8 len (omega arith) (λ i lo hi. same i (omega arith) (omega arith)) in
    λ limit. subst (λ (m : ℕ). m < r.epoch) (sym n) (is (subst (λ (m : ℕ). m ≤ 2 ^ 48) n limit))

-- where the two areas of a reading lie
pub record Layout (image : List ℕ) (r : Journal) : Type 0 where
  pub low : 64 ≤ r.start
  pub high : r.start + r.shape.area ≤ 64 + 2 * r.shape.area
  pub other_low : 64 ≤ other_start r
  pub other_high : other_start r + r.shape.area ≤ 64 + 2 * r.shape.area
  pub apart : (r.start + r.shape.area ≤ other_start r) ⊎ (other_start r + r.shape.area ≤ r.start)
  pub whole : 64 + 2 * r.shape.area ≤ length image
  pub least : 512 ≤ r.shape.area

pub layout : (image : List ℕ) (r : Journal) → Front image r.shape → IsStart r.shape r.start → Layout image r
layout image r f at =
    let a = areas_apart r.shape r.start at in
    let o = other_is r in
    let size = front_size image r.shape f in
    record {
      low = a.low;
      high = a.high;
      other_low = subst (λ (n : ℕ). 64 ≤ n) (sym o) a.other_low;
      other_high = subst (λ (n : ℕ). n + r.shape.area ≤ 64 + 2 * r.shape.area) (sym o) a.other_high;
      apart = ⊎_elim (λ lt. inl (omega (arith, lt, o))) (λ lt. inr (omega (arith, lt, o))) a.apart;
      whole = omega arith;
      least = r.shape.conditions.area_least;
    }

outside : (at n : ℕ) (a b : List ℕ) → AgreesOutside at n a b → (i : ℕ) → (i < at) ⊎ (at + n ≤ i) → get_or b i 0 ≡ get_or a i 0
outside at n a b agrees i (inl lt) = agrees.before i lt
outside at n a b agrees i (inr le) = agrees.after i le

-- a write behind the gate, within the current area
pub in_current : (is_closed : Bool) (a b : List ℕ) (r : Journal) (at n : ℕ) → r.start + r.gate ≤ at → at + n ≤ r.start + r.shape.area → AgreesOutside at n a b → Stem a r → OtherIs is_closed r a → Stem b r × OtherIs is_closed r b
in_current is_closed a b r at n low high agrees s is =
    let l = layout a r s.front s.at in
    let from = order a r.start r.shape.area 16 r.records r.gate s.records in
    let apart : (i : ℕ) → other_start r ≤ i → i < other_start r + 16 → (i < at) ⊎ (at + n ≤ i) =
    λ i lo hi. ⊎_elim (λ behind. inr (omega (arith, behind, l.least))) (λ ahead. inl (omega (arith, ahead, l.least))) l.apart in
    let within : other_start r + 16 ≤ length a = omega (arith, l.other_high, l.whole, l.least) in
    let other = other_same is_closed a b r agrees.same_length within (λ i lo hi. outside at n a b agrees i (apart i lo hi)) is in
    (stem_moved a b r agrees.same_length (λ i lo hi. agrees.before i (omega (arith, l.low))) (λ i lo hi. agrees.before i (omega arith)) (other_loses is_closed b r (omega (arith, within, agrees.same_length)) other) s, other)

-- a write within the other area
pub in_other : (is_closed : Bool) (a b : List ℕ) (r : Journal) (at n : ℕ) → other_start r ≤ at → at + n ≤ other_start r + r.shape.area → AgreesOutside at n a b → Stem a r → OtherIs is_closed r b → Stem b r
in_other is_closed a b r at n low high agrees s is =
    let l = layout a r s.front s.at in
    let room = s.room in
    let apart : (i : ℕ) → r.start ≤ i → i < r.start + r.gate → (i < at) ⊎ (at + n ≤ i) = λ i lo hi. ⊎_elim (λ behind. inl (omega (arith, behind))) (λ ahead. inr (omega (arith, ahead))) l.apart in
    let within : other_start r + 16 ≤ length b = omega (arith, l.other_high, l.whole, l.least, agrees.same_length) in
    stem_moved a b r agrees.same_length (λ i lo hi. agrees.before i (omega (arith, l.other_low))) (λ i lo hi. outside at n a b agrees i (apart i lo hi)) (other_loses is_closed b r within is) s

gate_apart : (a : List ℕ) (r : Journal) (at n : ℕ) → Stem a r → other_start r ≤ at → at + n ≤ other_start r + r.shape.area → (r.start + r.gate < at) ⊎ (at + n ≤ r.start + r.gate)
gate_apart a r at n s low high =
    let l = layout a r s.front s.at in
    let room = s.room in
    ⊎_elim (λ behind. inl (omega (arith, behind))) (λ ahead. inr (omega (arith, ahead))) l.apart

-- ---- the same of what an image reads as

pub reads_current : (is_closed : Bool) (a b : List ℕ) (r : Journal) (at n : ℕ) → r.start + r.gate < at → at + n ≤ r.start + r.shape.area → AgreesOutside at n a b → Reads a r × OtherIs is_closed r a → Reads b r × OtherIs is_closed r b
reads_current is_closed a b r at n low high agrees is =
    let x = reads_as a r is.0 in
    let moved = in_current is_closed a b r at n (omega arith) high agrees x.stem is.1 in
    (as_reads b r (record { stem = moved.0; shut = λ one. x.shut (sym (agrees.before (r.start + r.gate) low) ∙ one) }), moved.1)

pub reads_other : (is_closed : Bool) (a b : List ℕ) (r : Journal) (at n : ℕ) → other_start r ≤ at → at + n ≤ other_start r + r.shape.area → AgreesOutside at n a b → Reads a r → OtherIs is_closed r b → Reads b r
reads_other is_closed a b r at n low high agrees is other =
    let x = reads_as a r is in
    as_reads b r (record {
      stem = in_other is_closed a b r at n low high agrees x.stem other;
      shut = λ one. x.shut (sym (outside at n a b agrees (r.start + r.gate) (gate_apart a r at n x.stem low high)) ∙ one);
    })

-- behind the other head's gate, where that is closed
pub reads_closed : (a b : List ℕ) (r : Journal) (at n : ℕ) → other_start r < at → at + n ≤ other_start r + r.shape.area → AgreesOutside at n a b → Reads a r × OtherIs true r a → Reads b r × OtherIs true r b
reads_closed a b r at n low high agrees is =
    let other : OtherIs true r b = λ one. is.1 (sym (agrees.before (other_start r) low) ∙ one) in
    (reads_other true a b r at n (omega arith) high agrees is.0 other, other)

-- the other head's gate, where its epoch is older
pub reads_older : (a b : List ℕ) (r : Journal) → AgreesOutside (other_start r) 1 a b → Reads a r × OtherIs false r a → Reads b r × OtherIs false r b
reads_older a b r agrees is =
    let x = reads_as a r is.0 in
    let l = layout a r x.stem.front x.stem.at in
    let within : other_start r + 16 ≤ length a = omega (arith, l.other_high, l.whole, l.least) in
    let n = number_same b a (other_start r + 8) 8 agrees.same_length (omega arith) (λ i lo hi. agrees.after i (omega arith)) in
    let other : OtherIs false r b = λ limit. subst (λ (m : ℕ). m < r.epoch) (sym n) (is.1 (subst (λ (m : ℕ). m ≤ 2 ^ 48) n limit)) in
    (reads_other false a b r (other_start r) 1 (omega arith) (omega (arith, l.least)) agrees is.0 other, other)

-- behind the areas
pub reads_beyond : (a b : List ℕ) (r : Journal) (at n : ℕ) → data_start r.shape ≤ at → AgreesOutside at n a b → Reads a r → Reads b r
reads_beyond a b r at n beyond agrees is =
    let x = reads_as a r is in
    let l = layout a r x.stem.front x.stem.at in
    let room = x.stem.room in
    let o = other_is r in
    let other_within : other_of r.shape r.start + 16 ≤ length a = omega (arith, o, l.other_high, l.whole, l.least) in
    let below_it : other_of r.shape r.start + 16 ≤ at = omega (arith, o, l.other_high, l.least, beyond) in
    let heads = head_same a b (other_of r.shape r.start) agrees.same_length other_within (λ i lo hi. agrees.before i (omega arith)) in
    let number = number_same b a (other_of r.shape r.start + 8) 8 agrees.same_length (omega arith) (λ i lo hi. agrees.before i (omega arith)) in
    as_reads b r (record {
      stem = stem_moved a b r agrees.same_length (λ i lo hi. agrees.before i (omega arith)) (λ i lo hi. agrees.before i (omega (arith, l.high)))
          (λ h. subst (λ (m : ℕ). m < r.epoch) (sym number) (x.stem.current.wins (sym heads ∙ h))) x.stem;
      shut = λ one. x.shut (sym (agrees.before (r.start + r.gate) (omega (arith, l.high))) ∙ one);
    })
