-- What was written behind a closed gate is read once the gate is open.
use Rattle.std.proofs.Common.{◌≡◌, ⊎_elim, ℕ, zero, suc, ◌+◌, ◌*◌, ◌/◌, ◌%◌, ◌^◌, ◌<◌, ◌≤◌, List, [], ◌∷◌, ◌++◌, length, get_or, replicate, refl, ap, sym, ◌∙◌, subst, arith, Bool, true, false, length-append, append_assoc}
use Rattle.std.specs.Prelude.{fold}
use Rattle.std.proofs.Math.Arith.{mod-mul}
use Rattle.std.proofs.Math.Nat.{pow-succ', mod-eq_of_lt}
use Rattle.voice_outside.specs.Disk.{segment, AgreesOutside}
use Rattle.disk_areas.specs.Numbers.{spelled_number, number_at, number_bytes}
use Rattle.disk_areas.specs.Areas.{Record, Journal}
use Rattle.voice_journal.specs.Readings.{Reads, OtherIs, IsPending, other_start, with_payload, switched, record_at, records_of, frame, frames, framed_size}
use Rattle.voice_journal.specs.Spelled.{area_bytes}
use Rattle.voice_journal.proofs.Segments.{segment_same, segment_part, get_or-segment, get_or-append_front, get_or-append_back}
use Rattle.voice_journal.proofs.Slices.{number_same, number_byte, number_segment}
use Rattle.voice_journal.proofs.Fronts.{front_same, front_length}
use Rattle.voice_journal.proofs.Newer.{IsStart, other_of}
use Rattle.voice_journal.proofs.Listing.{AreRecords, order}
use Rattle.voice_journal.proofs.Relations.{Stem, ReadsAs, other_starts, other_is, other_twice, fits, reads_as, as_reads}
use Rattle.voice_journal.proofs.Moves.{is_counted, layout, in_current, reads_other}

-- ---- numbers

pow_positive : (width : ℕ) → 0 < 256 ^ width
pow_positive zero = omega arith
pow_positive (suc width) = let less = pow_positive width in let whole = pow-succ' 256 width in omega (arith, less, whole)

shifted : (from q p r s : ℕ) → s ≡ 256 * p → (from * 256 + q) * p + r ≡ from * s + (q * p + r)
shifted from q p r s e = subst (λ x. (from * 256 + q) * p + r ≡ from * x + (q * p + r)) (sym e) (grind arith)

folded : (width n from : ℕ) → fold (λ m b. m * 256 + b) from (number_bytes width n) ≡ from * 256 ^ width + n % 256 ^ width
folded zero n from = omega arith
folded (suc width) n from =
    let p = 256 ^ width in
    let q = n / p % 256 in
    let whole = pow-succ' 256 width in
    folded width n (from * 256 + q)
    ∙ shifted from q p (n % p) (256 ^ suc width) whole
    ∙ ap (λ x. from * 256 ^ suc width + x) (sym (mod-mul n (omega arith) (pow_positive width)) ∙ ap (λ x. n % x) (sym whole))

-- a number is read as it was written
pub read_number : (width n : ℕ) → n < 256 ^ width → spelled_number (number_bytes width n) ≡ n
read_number width n h = let whole = folded width n 0 in let small = mod-eq_of_lt h in omega (arith, whole, small)

pub number_length : (width n : ℕ) → length (number_bytes width n) ≡ width
number_length zero n = refl
number_length (suc width) n = let later = number_length width n in omega (arith, later)

-- ---- parts of what was written

pub cut : (a whole xs ys zs : List ℕ) (p : ℕ) → whole ≡ xs ++ (ys ++ zs) → segment a p (length whole) ≡ whole → segment a (p + length xs) (length ys) ≡ ys
cut a whole xs ys zs p is at =
    let n : length whole ≡ length xs + (length ys + length zs) = ap length is ∙ length-append xs (ys ++ zs) ∙ ap (λ (m : ℕ). length xs + m) (length-append ys zs) in
    segment_part a whole ys p (length whole) (length xs) at (omega (arith, n))
    (λ j lt. ap (λ (l : List ℕ). get_or l (length xs + j) 0) is ∙ get_or-append_back xs (ys ++ zs) (length xs) j refl ∙ get_or-append_front ys zs j lt)

pub byte_of : (a : List ℕ) (p x : ℕ) → segment a p 1 ≡ x ∷ [] → get_or a p 0 ≡ x
byte_of a p x is = let z : p ≡ p + 0 = omega arith in ap (λ (n : ℕ). get_or a n 0) z ∙ sym (get_or-segment a p 1 0 (omega arith)) ∙ ap (λ (l : List ℕ). get_or l 0 0) is

pub length-frame : (p : List ℕ) → length (frame p) ≡ length p + 5
length-frame p = omega (arith, length-append (number_bytes 4 (length p) ++ p) (0 ∷ []), length-append (number_bytes 4 (length p)) p)

pub length-frames : (ps : List (List ℕ)) → length (frames ps) ≡ framed_size ps
length-frames [] = refl
length-frames (p ∷ ps) =
    let later = length-frames ps in
    omega (arith, later, length-append (number_bytes 4 (length p) ++ p) (frames ps), length-append (number_bytes 4 (length p)) p)

pub length-area_bytes : (epoch : ℕ) (ps : List (List ℕ)) → length (area_bytes epoch ps) ≡ 16 + framed_size ps
length-area_bytes epoch ps =
    omega (arith, length-frames ps, length-append (replicate 7 0 ++ number_bytes 8 epoch ++ frames ps) (0 ∷ []), length-append (replicate 7 0 ++ number_bytes 8 epoch) (frames ps), length-append (replicate 7 0) (number_bytes 8 epoch))

-- a frame's parts: the length, the payload and the gate behind it
pub record Framed (image : List ℕ) (place : ℕ) (p : List ℕ) : Type 0 where
  pub len : segment image (place + 1) 4 ≡ number_bytes 4 (length p)
  pub payload : segment image (place + 5) (length p) ≡ p
  pub next : get_or image (place + 5 + length p) 0 ≡ 0

pub framed : (image : List ℕ) (place : ℕ) (p : List ℕ) → segment image (place + 1) (length (frame p)) ≡ frame p → Framed image place p
framed image place p is =
    let spelled : List ℕ = number_bytes 4 (length p) in
    let whole : frame p ≡ spelled ++ (p ++ 0 ∷ []) = append_assoc spelled p (0 ∷ []) in
    let front : place + 1 + 0 ≡ place + 1 = omega arith in
    let middle : place + 1 + 4 ≡ place + 5 = omega arith in
    let n : length (spelled ++ p) ≡ 4 + length p = length-append spelled p in
    let back : place + 1 + length (spelled ++ p) ≡ place + 5 + length p = omega (arith, n) in
    record {
      len = ap (λ (m : ℕ). segment image m 4) (sym front) ∙ cut image (frame p) [] spelled (p ++ 0 ∷ []) (place + 1) whole is;
      payload = ap (λ (m : ℕ). segment image m (length p)) (sym middle) ∙ cut image (frame p) spelled p (0 ∷ []) (place + 1) whole is;
      next = ap (λ (m : ℕ). get_or image m 0) (sym back) ∙ byte_of image (place + 1 + length (spelled ++ p)) 0 (cut image (frame p) (spelled ++ p) (0 ∷ []) [] (place + 1) refl is);
    }

-- ---- records

records_push : (image : List ℕ) (start area at : ℕ) (rs : List Record) (last : ℕ) (p : List ℕ) → AreRecords image start area at rs last → get_or image (start + last) 0 ≡ 1 → number_at 4 (start + last + 1) image ≡ length p
    → segment image (start + last + 5) (length p) ≡ p → last + 5 + length p < area → AreRecords image start area at (rs ++ record_at last p ∷ []) (last + 5 + length p)
records_push image start area at [] last p is open_gate len payload room = (
  sym is,
  ap (λ (n : ℕ). get_or image (start + n) 0) is ∙ open_gate,
  ap (λ (n : ℕ). number_at 4 (start + n + 1) image) is ∙ len,
  ap (λ (n : ℕ). segment image (start + n + 5) (length p)) is ∙ payload,
  omega (arith, is, room),
  ap (λ (n : ℕ). n + 5 + length p) is,
)
records_push image start area at (r ∷ rs) last p is open_gate len payload room =
    (is.0, is.1, is.2, is.3, is.4, records_push image start area (at + 5 + length r.payload) rs last p is.5 open_gate len payload room)

-- records written one behind the other
pub records_written : (image : List ℕ) (start area at : ℕ) (ps : List (List ℕ)) → start + area ≤ length image → area ≤ 2 ^ 24 → at + framed_size ps < area → segment image (start + at) (length (frames ps)) ≡ frames ps
    → AreRecords image start area at (records_of at ps) (at + framed_size ps)
records_written image start area at [] within small room is = omega arith
records_written image start area at (p ∷ ps) within small room is =
    let spelled : List ℕ = number_bytes 4 (length p) in
    let whole = frames (p ∷ ps) in
    let front : List ℕ = (1 ∷ []) ++ spelled in
    let assoc : spelled ++ (p ++ frames ps) ≡ (spelled ++ p) ++ frames ps = sym (append_assoc spelled p (frames ps)) in
    let by_len : whole ≡ (1 ∷ []) ++ (spelled ++ (p ++ frames ps)) = ap (λ (l : List ℕ). 1 ∷ l) (sym assoc) in
    let by_payload : whole ≡ front ++ (p ++ frames ps) = by_len in
    let by_rest : whole ≡ (front ++ p) ++ (frames ps ++ []) = ap (λ (l : List ℕ). (1 ∷ spelled ++ p) ++ l) (sym (nothing (frames ps))) in
    let gate : get_or image (start + at) 0 ≡ 1 = let z : start + at + 0 ≡ start + at = omega arith in byte_of image (start + at) 1 (ap (λ (n : ℕ). segment image n 1) (sym z) ∙ cut image whole [] (1 ∷ []) (spelled ++ (p ++ frames ps)) (start + at) by_len is) in
    let len : segment image (start + at + 1) 4 ≡ spelled = cut image whole (1 ∷ []) spelled (p ++ frames ps) (start + at) by_len is in
    let payload : segment image (start + at + 5) (length p) ≡ p = cut image whole front p (frames ps) (start + at) by_payload is in
    let n : length (front ++ p) ≡ 5 + length p = length-append front p in
    let place : start + at + length (front ++ p) ≡ start + (at + 5 + length p) = omega (arith, n) in
    let rest : segment image (start + (at + 5 + length p)) (length (frames ps)) ≡ frames ps =
    ap (λ (m : ℕ). segment image m (length (frames ps))) (sym place) ∙ cut image whole (front ++ p) (frames ps) [] (start + at) by_rest is in
    let ends : at + 5 + length p + framed_size ps ≡ at + framed_size (p ∷ ps) = omega arith in (
      refl,
      gate,
      number_segment image (start + at + 1) 4 (omega arith) ∙ ap spelled_number len ∙ read_number 4 (length p) (omega arith),
      payload,
      omega arith,
      subst (λ (m : ℕ). AreRecords image start area (at + 5 + length p) (records_of (at + 5 + length p) ps) m) ends (records_written image start area (at + 5 + length p) ps within small (omega arith) rest),
    )
  where
    nothing : (xs : List ℕ) → xs ++ [] ≡ xs
    nothing [] = refl
    nothing (x ∷ xs) = ap (λ (l : List ℕ). x ∷ l) (nothing xs)

-- ---- what stands ready

other_kept : (is_closed : Bool) (b : List ℕ) (r : Journal) (p : List ℕ) → OtherIs is_closed r b → OtherIs is_closed (with_payload r p) b
other_kept true b r p is = is
other_kept false b r p is = is

-- a frame behind the records
pub frame_pending : (is_closed : Bool) (base : List ℕ) (r : Journal) (p : List ℕ) → Reads base r × OtherIs is_closed r base → segment base (r.start + r.gate + 1) (length (frame p)) ≡ frame p → r.gate + 5 + length p < r.shape.area
    → IsPending (r.start + r.gate) r (with_payload r p) is_closed base
frame_pending is_closed base r p is written room =
    record {
      shut = λ b agrees shut. as_reads b r (record { stem = (moved b agrees).0; shut = shut });
      landed = λ b agrees one.
          let m = moved b agrees in (
            as_reads b (with_payload r p) (record {
              stem = record { front = m.0.front; at = m.0.at; current = m.0.current; records = records b agrees one m.0; room = room };
              shut = λ e. absurd (let z = next b agrees in omega (arith, z, e));
            }),
            other_kept is_closed b r p m.1,
          );
    }
  where
    place : ℕ
    place = r.start + r.gate

    f : Framed base place p
    f = framed base place p written

    moved : (b : List ℕ) → AgreesOutside (r.start + r.gate) 1 base b → Stem b r × OtherIs is_closed r b
    moved b agrees = let x = reads_as base r is.0 in in_current is_closed base b r (r.start + r.gate) 1 (omega arith) (omega arith) agrees x.stem is.1

    next : (b : List ℕ) → AgreesOutside (r.start + r.gate) 1 base b → get_or b (r.start + (r.gate + 5 + length p)) 0 ≡ 0
    next b agrees =
        let at : r.start + (r.gate + 5 + length p) ≡ r.start + r.gate + 5 + length p = omega arith in
        ap (λ (n : ℕ). get_or b n 0) at ∙ agrees.after (r.start + r.gate + 5 + length p) (omega arith) ∙ (framed base (r.start + r.gate) p written).next

    records : (b : List ℕ) → AgreesOutside (r.start + r.gate) 1 base b → get_or b (r.start + r.gate) 0 ≡ 1 → Stem b r → AreRecords b r.start r.shape.area 16 (r.records ++ record_at r.gate p ∷ []) (r.gate + 5 + length p)
    records b agrees one s =
        let g = framed base (r.start + r.gate) p written in
        let within = fits b r.shape r.start s.front s.at in
        let small = r.shape.conditions.area_limit in
        let len : number_at 4 (r.start + r.gate + 1) b ≡ length p =
        number_segment b (r.start + r.gate + 1) 4 (omega arith) ∙ ap spelled_number (segment_same b base (r.start + r.gate + 1) 4 (λ i lo hi. agrees.after i (omega arith)) ∙ g.len) ∙ read_number 4 (length p) (omega arith) in
        records_push b r.start r.shape.area 16 r.records r.gate p s.records one len (segment_same b base (r.start + r.gate + 5) (length p) (λ i lo hi. agrees.after i (omega arith)) ∙ g.payload) room

-- the other area, behind its closed head
pub area_pending : (base : List ℕ) (r : Journal) (ps : List (List ℕ)) → Reads base r × OtherIs true r base → segment base (other_start r + 1) (length (area_bytes (r.epoch + 1) ps)) ≡ area_bytes (r.epoch + 1) ps
    → framed_size ps + 17 ≤ r.shape.area → r.epoch < 2 ^ 48 → IsPending (other_start r) r (switched r ps) false base
area_pending base r ps is written room limit =
    record {
      shut = λ b agrees shut. reads_other true base b r (other_start r) 1 (omega arith) (omega arith) agrees is.0 shut;
      landed = λ b agrees one. (as_reads b (switched r ps) (record { stem = stem b agrees one; shut = λ e. absurd (let z = behind b agrees in omega (arith, z, e)) }), old b agrees);
    }
  where
    x : ReadsAs base r
    x = reads_as base r is.0

    spelled : List ℕ
    spelled = number_bytes 8 (r.epoch + 1)

    low : List ℕ
    low = replicate 7 0

    -- a part of what was written
    part : (b : List ℕ) → AgreesOutside (other_start r) 1 base b → (xs ys zs : List ℕ) (at : ℕ) → area_bytes (r.epoch + 1) ps ≡ xs ++ (ys ++ zs) → length xs + 1 ≡ at → segment b (other_start r + at) (length ys) ≡ ys
    part b agrees xs ys zs at whole n =
        let place : other_start r + 1 + length xs ≡ other_start r + at = omega (arith, n) in
        segment_same b base (other_start r + at) (length ys) (λ i lo hi. agrees.after i (omega (arith, n, lo))) ∙ ap (λ (m : ℕ). segment base m (length ys)) (sym place) ∙ cut base (area_bytes (r.epoch + 1) ps) xs ys zs (other_start r + 1) whole written

    epoch_part : (b : List ℕ) → AgreesOutside (other_start r) 1 base b → segment b (other_start r + 8) 8 ≡ number_bytes 8 (r.epoch + 1)
    epoch_part b agrees =
        part b agrees (replicate 7 0) (number_bytes 8 (r.epoch + 1)) (frames ps ++ 0 ∷ []) 8
        (append_assoc (replicate 7 0 ++ number_bytes 8 (r.epoch + 1)) (frames ps) (0 ∷ []) ∙ append_assoc (replicate 7 0) (number_bytes 8 (r.epoch + 1)) (frames ps ++ 0 ∷ [])) refl

    head_length : length (replicate 7 0 ++ number_bytes 8 (r.epoch + 1)) ≡ 15
    head_length = refl

    records_part : (b : List ℕ) → AgreesOutside (other_start r) 1 base b → segment b (other_start r + 16) (length (frames ps)) ≡ frames ps
    records_part b agrees = part b agrees (replicate 7 0 ++ number_bytes 8 (r.epoch + 1)) (frames ps) (0 ∷ []) 16 (append_assoc (replicate 7 0 ++ number_bytes 8 (r.epoch + 1)) (frames ps) (0 ∷ [])) refl

    behind : (b : List ℕ) → AgreesOutside (other_start r) 1 base b → get_or b (other_start r + (16 + framed_size ps)) 0 ≡ 0
    behind b agrees =
        let n = length-append (replicate 7 0 ++ number_bytes 8 (r.epoch + 1)) (frames ps) in
        let m = length-frames ps in
        byte_of b (other_start r + (16 + framed_size ps)) 0 (part b agrees (replicate 7 0 ++ number_bytes 8 (r.epoch + 1) ++ frames ps) (0 ∷ []) [] (16 + framed_size ps) refl (omega (arith, n, m)))

    within : (b : List ℕ) → AgreesOutside (other_start r) 1 base b → other_start r + r.shape.area ≤ length b
    within b agrees = let l = layout base r (reads_as base r is.0).stem.front (reads_as base r is.0).stem.at in omega (arith, l.other_high, l.whole, agrees.same_length)

    epoch_is : (b : List ℕ) → AgreesOutside (other_start r) 1 base b → number_at 8 (other_start r + 8) b ≡ r.epoch + 1
    epoch_is b agrees = let least = r.shape.conditions.area_least in let w = within b agrees in number_segment b (other_start r + 8) 8 (omega arith) ∙ ap spelled_number (epoch_part b agrees) ∙ read_number 8 (r.epoch + 1) (omega arith)

    -- the head that was current keeps its epoch
    epoch_before : (b : List ℕ) → AgreesOutside (other_start r) 1 base b → number_at 8 (r.start + 8) b ≡ r.epoch
    epoch_before b agrees =
        let s = (reads_as base r is.0).stem in
        let l = layout base r s.front s.at in
        let from = order base r.start r.shape.area 16 r.records r.gate s.records in
        let away : (i : ℕ) → r.start + 8 ≤ i → i < r.start + 8 + 8 → get_or b i 0 ≡ get_or base i 0 =
        λ i lo hi. ⊎_elim (λ behind. agrees.before i (omega (arith, behind, l.least, hi))) (λ ahead. agrees.after i (omega (arith, ahead, l.least, lo))) l.apart in
        number_same b base (r.start + 8) 8 agrees.same_length (omega (arith, l.high, l.whole, l.least)) away ∙ s.current.epoch_is

    old : (b : List ℕ) → AgreesOutside (other_start r) 1 base b → OtherIs false (switched r ps) b
    old b agrees =
        let s = (reads_as base r is.0).stem in
        let twice : other_start (switched r ps) ≡ r.start = other_is (switched r ps) ∙ ap (λ (n : ℕ). other_of r.shape n) (other_is r) ∙ other_twice r.shape r.start s.at in
        let n : number_at 8 (other_start (switched r ps) + 8) b ≡ r.epoch = ap (λ (m : ℕ). number_at 8 (m + 8) b) twice ∙ epoch_before b agrees in
        λ most. omega (arith, n)

    stem : (b : List ℕ) → AgreesOutside (other_start r) 1 base b → get_or b (other_start r) 0 ≡ 1 → Stem b (switched r ps)
    stem b agrees one =
        let s = (reads_as base r is.0).stem in
        let l = layout base r s.front s.at in
        let w = within b agrees in
        let e = epoch_is b agrees in
        let twice : other_of r.shape (other_start r) ≡ r.start = ap (λ (n : ℕ). other_of r.shape n) (other_is r) ∙ other_twice r.shape r.start s.at in
        record {
          front = front_same base b (front_length base r.shape s.front) agrees.same_length (λ i lt. agrees.before i (omega (arith, l.other_low))) r.shape s.front;
          at = subst (λ (n : ℕ). IsStart r.shape n) (sym (other_is r)) (other_starts r.shape r.start s.at);
          current = record {
            head = is_counted b (other_start r) (record { gate = number_byte b (other_start r) (omega (arith, l.least)) ∙ one; some = omega (arith, e); limit = omega (arith, e) });
            epoch_is = e;
            wins = λ h. let n : number_at 8 (other_of r.shape (other_start r) + 8) b ≡ r.epoch = ap (λ (m : ℕ). number_at 8 (m + 8) b) twice ∙ epoch_before b agrees in omega (arith, n);
          };
          records = records_written b (other_start r) r.shape.area 16 ps w r.shape.conditions.area_limit (omega arith) (records_part b agrees);
          room = omega arith;
        }
