-- What formatting writes reads as the empty disk.
use Rattle.std.proofs.Common.{◌≡◌, ◌⊎◌, inl, ℕ, ◌+◌, ◌-◌, ◌^◌, ◌<◌, ◌≤◌, List, [], ◌∷◌, ◌++◌, length, get_or, take, replicate, refl, ap, sym, ◌∙◌, arith, Bool, true, false, Option, cond, length-append, append_assoc}
use Rattle.std.specs.Prelude.{◌==◌, bytes_eq, Result, Ok, Err, OnOk}
use Rattle.std.specs.List.{list_all}
use Rattle.std.proofs.lemmas.Bool.{eqb-true}
use Rattle.voice_units.specs.declared.shapes.Shape.{Shape}
use Rattle.voice_units.specs.declared.shapes.Graces.{Graces}
use Rattle.voice_units.specs.Spots.{slice}
use Rattle.voice_outside.specs.Disk.{segment, AgreesOutside}
use Rattle.disk_areas.specs.Numbers.{spelled_number, number_at, number_bytes}
use Rattle.disk_areas.specs.Areas.{Head, Records, is_head, graces_in, current_head, records_from, by_records, by_head, magic, magic_and_numbers, graces_by_class, superblock, journal_in}
use Rattle.voice_journal.specs.Readings.{extent, Reads, formatted}
use Rattle.voice_journal.specs.Spelled.{first_bytes, AreSpellable}
use Rattle.voice_journal.specs.Formatted.{IsFormatted}
use Rattle.voice_journal.proofs.Segments.{get_or-segment, segment_same}
use Rattle.voice_journal.proofs.Slices.{segment_is, number_segment, number_byte}
use Rattle.voice_journal.proofs.Newer.{IsCurrent, other_of, other_first, current_is}
use Rattle.voice_journal.proofs.Listing.{lists}
use Rattle.voice_journal.proofs.Moves.{counts, is_counted}
use Rattle.voice_journal.proofs.Filling.{cut, byte_of, read_number}
use Rattle.voice_journal.proofs.ShapesRead.{IsSpelled, is_superblock}

-- ---- the superblock

-- the superblock of a version that is 1, or not
abbrev spelled_by : Bool → Shape → List ℕ
spelled_by t s = magic_and_numbers s ++ cond t (replicate 34 0) (graces_by_class s ++ replicate 22 0)

abbrev graces_of : ℕ → ℕ → ℕ → ℕ → Graces
graces_of a b c d = record { common = a; held = b; until = c; listed = d }

same_graces : (g : Graces) (a b c d : ℕ) → g.common ≡ a → g.held ≡ b → g.until ≡ c → g.listed ≡ d → g ≡ graces_of a b c d
same_graces g a b c d ea eb ec ed =
    ap (λ (x : ℕ). graces_of x g.held g.until g.listed) ea ∙ ap (λ (x : ℕ). graces_of a x g.until g.listed) eb ∙ ap (λ (x : ℕ). graces_of a b x g.listed) ec ∙ ap (λ (x : ℕ). graces_of a b c x) ed

most : (t : Bool) → cond t 65535 1048576 ≤ 1048576
most true = omega arith
most false = omega arith

module _ (s : Shape) (t : Bool) where
  version_at : s.version ≡ number_at 4 8 (spelled_by t s)
  version_at = sym (read_number 4 s.version (let limit = s.conditions.version_limit in omega arith))

  block_at : s.block ≡ number_at 4 12 (spelled_by t s)
  block_at = sym (read_number 4 s.block (let limit = s.conditions.block_limit in omega arith))

  blocks_at : s.blocks ≡ number_at 4 16 (spelled_by t s)
  blocks_at = sym (read_number 4 s.blocks (let limit = s.conditions.blocks_limit in let l = most (s.version == 1) in omega arith))

  area_at : s.area ≡ number_at 4 20 (spelled_by t s)
  area_at = sym (read_number 4 s.area (let limit = s.conditions.area_limit in omega arith))

  lanes_at : s.lanes ≡ number_at 2 28 (spelled_by t s)
  lanes_at = sym (read_number 2 s.lanes (let limit = s.conditions.lanes_limit in omega arith))

  common_at : s.graces.common < 2 ^ 32 → s.graces.common ≡ number_at 4 24 (spelled_by t s)
  common_at h = sym (read_number 4 s.graces.common (omega (arith, h)))

module _ (s : Shape) (g : AreSpellable s.graces) where
  held_at : s.graces.held ≡ number_at 4 30 (spelled_by false s)
  held_at = let h = g.held in sym (read_number 4 s.graces.held (omega (arith, h)))

  until_at : s.graces.until ≡ number_at 4 34 (spelled_by false s)
  until_at = let h = g.until in sym (read_number 4 s.graces.until (omega (arith, h)))

  listed_at : s.graces.listed ≡ number_at 4 38 (spelled_by false s)
  listed_at = let h = g.listed in sym (read_number 4 s.graces.listed (omega (arith, h)))

  graces_at : (t : Bool) → (s.version == 1) ≡ t → s.graces ≡ graces_in s.version (spelled_by t s)
  unfolding graces_in
  graces_at true is =
      let one = s.conditions.one_grace (eqb-true s.version 1 is) in
      let n : ℕ = number_at 4 24 (spelled_by true s) in
      let c = common_at s true g.common in
      same_graces s.graces n n n n c (one.held ∙ c) (one.until ∙ c) (one.listed ∙ c) ∙ ap (λ (x : Bool). graces_of n (cond x n (number_at 4 30 (spelled_by true s))) (cond x n (number_at 4 34 (spelled_by true s))) (cond x n (number_at 4 38 (spelled_by true s)))) (sym is)
  graces_at false is =
      let n : ℕ = number_at 4 24 (spelled_by false s) in
      same_graces s.graces n _ _ _ (common_at s false g.common) held_at until_at listed_at
      ∙ ap (λ (x : Bool). graces_of n (cond x n (number_at 4 30 (spelled_by false s))) (cond x n (number_at 4 34 (spelled_by false s))) (cond x n (number_at 4 38 (spelled_by false s)))) (sym is)

  spelled : (t : Bool) → (s.version == 1) ≡ t → IsSpelled (spelled_by t s) s.version s.block s.blocks s.area s.graces s.lanes
  spelled t is = record { block = block_at s t; blocks = blocks_at s t; area = area_at s t; graces = graces_at t is; lanes = lanes_at s t }

zero_rest : (s : Shape) (t : Bool) → list_all (λ b. b == 0) (slice (spelled_by t s) (cond t 30 42) (64 - cond t 30 42)) ≡ true
zero_rest s true = refl
zero_rest s false = refl

magic_first : (s : Shape) (t : Bool) → bytes_eq (take 8 (spelled_by t s)) magic ≡ true
magic_first s t = refl

long_by : (s : Shape) (t : Bool) → length (spelled_by t s) ≡ 64
long_by s true = refl
long_by s false = refl

superblock_is : (s : Shape) → superblock s ≡ spelled_by (s.version == 1) s
unfolding superblock
superblock_is s = refl

length-superblock : (s : Shape) → length (superblock s) ≡ 64
length-superblock s = ap length (superblock_is s) ∙ long_by s (s.version == 1)

versions : (v : ℕ) → 1 ≤ v → v ≤ 2 → (v ≡ 1) ⊎ (v ≡ 2)
versions v least limit = grind arith

-- an image that begins with the superblock of a shape reads by its heads
by_superblock : (image : List ℕ) (s : Shape) → AreSpellable s.graces → extent s ≤ length image → segment image 0 64 ≡ superblock s → journal_in image ≡ by_head s image (current_head s image)
by_superblock image s g fits is =
    let t : Bool = s.version == 1 in
    is_superblock image (spelled_by t s) (length image) refl (is ∙ superblock_is s) (omega arith) s.version (version_at s t) (magic_first s t) (versions s.version s.conditions.some_version s.conditions.version_limit) s refl (spelled s g t refl) fits
    (zero_rest s t)

-- ---- the parts of what is written

module _ (image : List ℕ) (s : Shape) (g : AreSpellable s.graces) (fits : extent s ≤ length image) (first : segment image 0 81 ≡ first_bytes s) (second : segment image (64 + s.area) 16 ≡ replicate 16 0) where
  by_parts : first_bytes s ≡ superblock s ++ ((1 ∷ replicate 7 0) ++ (number_bytes 8 1 ++ 0 ∷ []))
  by_parts =
      append_assoc (superblock s ++ (1 ∷ replicate 7 0)) (number_bytes 8 1) (0 ∷ []) ∙ append_assoc (superblock s) (1 ∷ replicate 7 0) (number_bytes 8 1 ++ 0 ∷ [])

  long : length (first_bytes s) ≡ 81
  long = ap length by_parts ∙ length-append (superblock s) ((1 ∷ replicate 7 0) ++ (number_bytes 8 1 ++ 0 ∷ [])) ∙ ap (λ (n : ℕ). n + 17) (length-superblock s)

  whole : segment image 0 (length (first_bytes s)) ≡ first_bytes s
  whole = ap (λ (n : ℕ). segment image 0 n) long ∙ first

  part : (xs ys zs : List ℕ) (at n : ℕ) → first_bytes s ≡ xs ++ (ys ++ zs) → length xs ≡ at → length ys ≡ n → segment image at n ≡ ys
  part xs ys zs at n is size width =
      let place : 0 + length xs ≡ at = omega (arith, size) in
      ap (λ (m : ℕ). segment image at m) (sym width) ∙ ap (λ (m : ℕ). segment image m (length ys)) (sym place) ∙ cut image (first_bytes s) xs ys zs 0 is whole

  front : segment image 0 64 ≡ superblock s
  front = part [] (superblock s) ((1 ∷ replicate 7 0) ++ (number_bytes 8 1 ++ 0 ∷ [])) 0 64 by_parts refl (length-superblock s)

  gate : get_or image 64 0 ≡ 1
  gate = byte_of image 64 1 (part (superblock s) (1 ∷ []) (replicate 7 0 ++ (number_bytes 8 1 ++ 0 ∷ [])) 64 1 by_parts (length-superblock s) refl)

  epoch_part : segment image 72 8 ≡ number_bytes 8 1
  epoch_part =
      part (superblock s ++ (1 ∷ replicate 7 0)) (number_bytes 8 1) (0 ∷ []) 72 8 (append_assoc (superblock s ++ (1 ∷ replicate 7 0)) (number_bytes 8 1) (0 ∷ []))
      (length-append (superblock s) (1 ∷ replicate 7 0) ∙ ap (λ (n : ℕ). n + 8) (length-superblock s)) refl

  next : get_or image 80 0 ≡ 0
  next =
      byte_of image 80 0 (part (superblock s ++ (1 ∷ replicate 7 0) ++ number_bytes 8 1) (0 ∷ []) [] 80 1 refl
      (length-append (superblock s ++ (1 ∷ replicate 7 0)) (number_bytes 8 1) ∙ ap (λ (n : ℕ). n + 8) (length-append (superblock s) (1 ∷ replicate 7 0) ∙ ap (λ (n : ℕ). n + 8) (length-superblock s))) refl)

  other : get_or image (64 + s.area) 0 ≡ 0
  other =
      let z : 64 + s.area + 0 ≡ 64 + s.area = omega arith in
      ap (λ (n : ℕ). get_or image n 0) (sym z) ∙ sym (get_or-segment image (64 + s.area) 16 0 (omega arith)) ∙ ap (λ (l : List ℕ). get_or l 0 0) second

  epoch_is : number_at 8 (64 + 8) image ≡ 1
  epoch_is = let least = s.conditions.area_least in number_segment image 72 8 (omega arith) ∙ ap (λ (l : List ℕ). spelled_number l) epoch_part

  current : IsCurrent image 64 (other_of s 64) 1
  current =
      let least = s.conditions.area_least in
      let e = epoch_is in
      record {
        head = is_counted image 64 (record { gate = number_byte image 64 (omega arith) ∙ gate; some = omega (arith, e); limit = omega (arith, e) });
        epoch_is = epoch_is;
        wins = λ h.
            let c = counts image (64 + s.area) (ap (λ (n : ℕ). is_head image n) (sym (other_first s 64 refl)) ∙ h) in
            let z : 0 ≡ 1 = sym other ∙ sym (number_byte image (64 + s.area) (omega arith)) ∙ c.gate in
            absurd (omega (arith, z));
      }

  records : records_from s.area s.area 16 (slice image (64 + 16) (s.area - 16)) ≡ Records.Sound [] 16
  records =
      let least = s.conditions.area_least in
      let n = next in
      lists image 64 s.area s.area 16 _ [] 16 (segment_is image (64 + 16) (s.area - 16) (omega arith)) (omega arith) (omega arith)
      (record { records = refl; room = omega arith; shut = λ e. absurd (omega (arith, n, e)) })

  pub formatted_reads : Reads image (formatted s)
  formatted_reads =
      let h : Head = record { start = 64; epoch = 1 } in
      by_superblock image s g fits front ∙ ap (λ (o : Option Head). by_head s image o) (current_is s image 64 1 (inl refl) current) ∙ ap (λ (o : Records). by_records s h o) records

-- ---- the calls

-- a write to the second head, and one to the front
pub front_written : (s : Shape) (a b c zeros bytes : List ℕ) (from : ℕ) → AreSpellable s.graces → extent s ≤ length c → zeros ≡ replicate 16 0 → bytes ≡ first_bytes s → length bytes ≡ 81 → from ≡ 64 + s.area → AgreesOutside from (length zeros) a b
    → segment b from (length zeros) ≡ zeros → AgreesOutside 0 (length bytes) b c → segment c 0 (length bytes) ≡ bytes → IsFormatted s a c
front_written s a b c zeros bytes from g fits zero_is bytes_is size at near closed far written =
    let least = s.conditions.area_least in
    let n : length zeros ≡ 16 = ap length zero_is in
    let first : segment c 0 81 ≡ first_bytes s = ap (λ (k : ℕ). segment c 0 k) (sym size) ∙ written ∙ bytes_is in
    let second : segment c (64 + s.area) 16 ≡ replicate 16 0 =
    segment_same c b (64 + s.area) 16 (λ i lo hi. far.after i (omega (arith, size))) ∙ ap (λ (k : ℕ). segment b k 16) (sym at) ∙ ap (λ (k : ℕ). segment b from k) (sym n) ∙ closed ∙ zero_is in
    record {
      reads = formatted_reads c s g fits first second;
      first = first;
      second = second;
      same = record {
        same_length = far.same_length ∙ near.same_length;
        between = λ i lo hi. far.after i (omega (arith, size)) ∙ near.before i (omega (arith, at));
        behind = λ i lo. far.after i (omega (arith, size)) ∙ near.after i (omega (arith, n, at));
      };
    }

pub on_ok : {T E P Q : Type 0} (r : Result T E) → OnOk r P → (P → Q) → OnOk r Q
on_ok (Ok v) p f = f p
on_ok (Err e) p f = p
