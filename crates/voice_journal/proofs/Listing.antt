-- The records of an area.
use Rattle.std.proofs.Common.{◌≡◌, ◌≢◌, ◌⊎◌, inl, inr, ℕ, zero, suc, ◌+◌, ◌-◌, ◌<◌, ◌≤◌, List, [], ◌∷◌, length, drop, take, get_or, refl, ap, sym, ◌∙◌, subst, arith, Bool, true, false, length-drop}
use Rattle.std.specs.Prelude.{◌==◌, nat_lt}
use Rattle.std.proofs.lemmas.Bool.{eqb-true, eq-eqb}
use Rattle.std.proofs.lemmas.Bool.Decides.{nat_tests}
use Rattle.voice_units.specs.Spots.{slice}
use Rattle.voice_outside.specs.Disk.{segment}
use Rattle.disk_areas.specs.Numbers.{spelled_number, number_at}
use Rattle.disk_areas.specs.Areas.{Record, Records, with_record, if_sound, if_open, records_from}
use Rattle.voice_journal.specs.Readings.{record_at}
use Rattle.voice_journal.proofs.Segments.{segment_shifted, get_or-segment}
use Rattle.voice_journal.proofs.Slices.{segment_is, length-segment, number_segment}

-- open records of an area, from the offset of one gate to that of another
abbrev pub AreRecords : List ℕ → ℕ → ℕ → ℕ → List Record → ℕ → Type 0
AreRecords image start area at [] last = at ≡ last
AreRecords image start area at (r ∷ rs) last =
    (r.at ≡ at) × (get_or image (start + at) 0 ≡ 1) × (number_at 4 (start + at + 1) image ≡ length r.payload) × (segment image (start + at + 5) (length r.payload) ≡ r.payload) × (at + 5 + length r.payload < area)
    × AreRecords image start area (at + 5 + length r.payload) rs last

-- the list ends at a gate in the area that is not 1
pub record Listed (image : List ℕ) (start area at : ℕ) (rs : List Record) (last : ℕ) : Type 0 where
  pub records : AreRecords image start area at rs last
  pub room : last < area
  pub shut : get_or image (start + last) 0 ≢ 1

less : (m n : ℕ) → nat_lt m n ≡ true → m < n
less m n h = grind (arith, nat_tests)

less_tested : (m n : ℕ) → m < n → nat_lt m n ≡ true
less_tested m n h = grind (arith, nat_tests)

differs : (m n : ℕ) → (m == n) ≡ false → m ≢ n
differs m n h = grind (arith, nat_tests)

differ_tested : (m n : ℕ) → m ≢ n → (m == n) ≡ false
differ_tested m n h = grind (arith, nat_tests)

take_all : (xs : List ℕ) (n : ℕ) → length xs ≡ n → take n xs ≡ xs
take_all [] zero h = refl
take_all [] (suc n) h = absurd (omega (arith, h))
take_all (x ∷ xs) zero h = absurd (omega (arith, h))
take_all (x ∷ xs) (suc n) h = ap (λ (l : List ℕ). x ∷ l) (take_all xs n (omega (arith, h)))

-- the bytes of an area from an offset on begin with the gate there
module _ (image : List ℕ) (start area at b : ℕ) (rest : List ℕ) (is : b ∷ rest ≡ segment image (start + at) (area - at)) (low : at < area) where
  gate_is : b ≡ get_or image (start + at) 0
  gate_is =
      let zero_is : start + at + 0 ≡ start + at = omega arith in
      ap (λ (l : List ℕ). get_or l 0 0) is ∙ get_or-segment image (start + at) (area - at) 0 (omega arith) ∙ ap (λ (n : ℕ). get_or image n 0) zero_is

  rest_length : length rest + 1 ≡ area - at
  rest_length = let n = ap length is in let m = length-segment image (start + at) (area - at) in omega (arith, n, m)

  rest_byte : (j : ℕ) → j + 1 < area - at → get_or rest j 0 ≡ get_or image (start + at + 1 + j) 0
  rest_byte j lt =
      let place : start + at + suc j ≡ start + at + 1 + j = omega arith in
      ap (λ (l : List ℕ). get_or l (suc j) 0) is ∙ get_or-segment image (start + at) (area - at) (suc j) (omega arith) ∙ ap (λ (n : ℕ). get_or image n 0) place

  -- a part of the rest
  rest_part : (from n : ℕ) → from + n + 1 ≤ area - at → slice rest from n ≡ segment image (start + at + 1 + from) n
  rest_part from n fits =
      segment_is rest from n (let m = rest_length in omega arith)
      ∙ segment_shifted rest image from (start + at + 1 + from) n (λ j lt. let place : start + at + 1 + (from + j) ≡ start + at + 1 + from + j = omega arith in rest_byte (from + j) (omega arith) ∙ ap (λ (i : ℕ). get_or image i 0) place)

  len_is : at + 5 < area → start + area ≤ length image → spelled_number (take 4 rest) ≡ number_at 4 (start + at + 1) image
  len_is room fits =
      let zero_is : start + at + 1 + 0 ≡ start + at + 1 = omega arith in
      ap spelled_number (rest_part 0 4 (omega arith) ∙ ap (λ (n : ℕ). segment image n 4) zero_is) ∙ sym (number_segment image (start + at + 1) 4 (omega arith))

  payload_is : (len : ℕ) → at + 5 + len < area → take len (drop 4 rest) ≡ segment image (start + at + 5) len
  payload_is len room = let place : start + at + 1 + 4 ≡ start + at + 5 = omega arith in rest_part 4 len (omega arith) ∙ ap (λ (n : ℕ). segment image n len) place

  later_is : (len : ℕ) → at + 5 + len < area → drop (4 + len) rest ≡ segment image (start + (at + 5 + len)) (area - (at + 5 + len))
  later_is len room =
      let n : ℕ = area - (at + 5 + len) in
      let size = length-drop (4 + len) rest in
      let all : length (drop (4 + len) rest) ≡ n = let m = rest_length in omega arith in
      let place : start + at + 1 + (4 + len) ≡ start + (at + 5 + len) = omega arith in
      sym (take_all (drop (4 + len) rest) n all) ∙ rest_part (4 + len) n (let m = rest_length in omega arith) ∙ ap (λ (i : ℕ). segment image i n) place

-- one step of the reading
ends_or_goes : (gate sound : Bool) (at : ℕ) (r : Record) (later : Records) (rs : List Record) (last : ℕ) → if_open gate at (if_sound sound at (with_record r later)) ≡ Records.Sound rs last
    → ((gate ≡ false) × (rs ≡ []) × (last ≡ at)) ⊎ ((gate ≡ true) × (sound ≡ true) × (qs : List Record) × (later ≡ Records.Sound qs last) × (rs ≡ r ∷ qs))
ends_or_goes false sound at r later rs last e = inl (refl, cc, cc)
ends_or_goes true false at r later rs last e = cc
ends_or_goes true true at r (Records.Sound qs end) rs last e = let same : end ≡ last = cc in let all : rs ≡ r ∷ qs = cc in inr (refl, refl, qs, ap (λ (n : ℕ). Records.Sound qs n) same, all)
ends_or_goes true true at r (Records.Broken end) rs last e = cc

pub listed : (image : List ℕ) (start area most at : ℕ) (xs : List ℕ) (rs : List Record) (last : ℕ) → xs ≡ segment image (start + at) (area - at) → at < area → area ≤ at + most → start + area ≤ length image
    → records_from most area at xs ≡ Records.Sound rs last → Listed image start area at rs last
unfolding records_from
listed image start area zero at xs rs last is low enough fits e = absurd (omega arith)
listed image start area (suc most) at [] rs last is low enough fits e = absurd (let n = ap length is in let m = length-segment image (start + at) (area - at) in omega (arith, n, m))
listed image start area (suc most) at (b ∷ rest) rs last is low enough fits e =
    let len = spelled_number (take 4 rest) in
    let first : Record = record_at at (take len (drop 4 rest)) in
    elim (ends_or_goes (b == 1) (nat_lt (at + 5 + len) area) at first (records_from most area (at + 5 + len) (drop (4 + len) rest)) rs last e) [
      | inl done ↦
          record {
            records = subst (λ (l : List Record). AreRecords image start area at l last) (sym done.1) (sym done.2);
            room = omega (arith, done.2);
            shut = λ one. differs b 1 done.0 (gate_is image start area at b rest is low ∙ sym (ap (λ (n : ℕ). get_or image (start + n) 0) done.2) ∙ one);
          }
      | inr goes ↦
          let room : at + 5 + len < area = less (at + 5 + len) area goes.1 in
          let payload = payload_is image start area at b rest is low len room in
          let size : length (take len (drop 4 rest)) ≡ len = ap length payload ∙ length-segment image (start + at + 5) len in
          let later = listed image start area most (at + 5 + len) (drop (4 + len) rest) goes.2 last (later_is image start area at b rest is low len room) room (omega arith) fits goes.3 in
          let here : AreRecords image start area at (first ∷ goes.2) last = (
            refl,
            sym (gate_is image start area at b rest is low) ∙ eqb-true b 1 goes.0,
            sym (len_is image start area at b rest is low (omega arith) fits) ∙ sym size,
            ap (λ (n : ℕ). segment image (start + at + 5) n) size ∙ sym payload,
            subst (λ (n : ℕ). at + 5 + n < area) (sym size) room,
            subst (λ (n : ℕ). AreRecords image start area (at + 5 + n) goes.2 last) (sym size) later.records,
          ) in
          record { records = subst (λ (l : List Record). AreRecords image start area at l last) (sym goes.4) here; room = later.room; shut = later.shut }
    ]

opened : (gate sound : Bool) (at : ℕ) (r : Record) (later : Records) → gate ≡ true → sound ≡ true → if_open gate at (if_sound sound at (with_record r later)) ≡ with_record r later
opened false sound at r later h k = cc
opened true false at r later h k = cc
opened true true at r later h k = refl

closed : (gate : Bool) (at : ℕ) (later : Records) → gate ≡ false → if_open gate at later ≡ Records.Sound [] at
closed true at later h = cc
closed false at later h = refl

pub order : (image : List ℕ) (start area at : ℕ) (rs : List Record) (last : ℕ) → AreRecords image start area at rs last → at ≤ last
order image start area at [] last is = omega arith
order image start area at (r ∷ rs) last is = let later = order image start area (at + 5 + length r.payload) rs last is.5 in omega arith

same_record : (r : Record) (at : ℕ) (payload : List ℕ) → r.at ≡ at → payload ≡ r.payload → record_at at payload ≡ r
same_record r at payload p q = ap (λ (n : ℕ). record_at n payload) (sym p) ∙ ap (λ (l : List ℕ). record_at r.at l) q

pub lists : (image : List ℕ) (start area most at : ℕ) (xs : List ℕ) (rs : List Record) (last : ℕ) → xs ≡ segment image (start + at) (area - at) → area ≤ at + most → start + area ≤ length image
    → Listed image start area at rs last → records_from most area at xs ≡ Records.Sound rs last
unfolding records_from
lists image start area zero at xs rs last is enough fits l = absurd (let low = order image start area at rs last l.records in let room = l.room in omega arith)
lists image start area (suc most) at [] rs last is enough fits l =
    absurd (let low = order image start area at rs last l.records in let room = l.room in let n = ap length is in let m = length-segment image (start + at) (area - at) in omega (arith, n, m))
lists image start area (suc most) at (b ∷ rest) [] last is enough fits l =
    let low : at < area = let e = l.records in let room = l.room in omega arith in
    closed (b == 1) at _ (differ_tested b 1 (λ one. l.shut (sym (ap (λ (n : ℕ). get_or image (start + n) 0) l.records) ∙ sym (gate_is image start area at b rest is low) ∙ one)))
    ∙ ap (λ (n : ℕ). Records.Sound [] n) l.records
lists image start area (suc most) at (b ∷ rest) (r ∷ rs) last is enough fits l =
    let n = length r.payload in
    let parts = l.records in
    let room : at + 5 + n < area = parts.4 in
    let low : at < area = omega arith in
    let len : spelled_number (take 4 rest) ≡ n = len_is image start area at b rest is low (omega arith) fits ∙ parts.2 in
    let payload : take n (drop 4 rest) ≡ r.payload = payload_is image start area at b rest is low n room ∙ parts.3 in
    let later : records_from most area (at + 5 + n) (drop (4 + n) rest) ≡ Records.Sound rs last =
    lists image start area most (at + 5 + n) (drop (4 + n) rest) rs last (later_is image start area at b rest is low n room) (omega arith) fits (record { records = parts.5; room = l.room; shut = l.shut }) in
    let step : ℕ → Records =
    λ m. if_open (b == 1) at (if_sound (nat_lt (at + 5 + m) area) at (with_record (record_at at (take m (drop 4 rest))) (records_from most area (at + 5 + m) (drop (4 + m) rest)))) in
    ap step len
    ∙ opened (b == 1) (nat_lt (at + 5 + n) area) at _ _ (eq-eqb b 1 (gate_is image start area at b rest is low ∙ parts.1)) (less_tested (at + 5 + n) area room)
    ∙ ap (λ (o : Records). with_record (record_at at (take n (drop 4 rest))) o) later
    ∙ ap (λ (x : Record). Records.Sound (x ∷ rs) last) (same_record r at (take n (drop 4 rest)) parts.0 payload)
