-- The superblock, read from its 64 bytes.
use Rattle.std.proofs.Common.{◌≡◌, ◌⊎◌, inl, inr, ℕ, ◌+◌, ◌-◌, ◌<◌, ◌≤◌, List, length, get_or, take, refl, ap, sym, ◌∙◌, arith, Bool, true, false, Option, Some, None, cond}
use Rattle.std.specs.Prelude.{◌&&◌, ◌||◌, ◌==◌, nat_le, not, bytes_eq}
use Rattle.std.specs.Coded.{le_prop}
use Rattle.std.proofs.Math.Nat.{ℕ_set}
use Rattle.std.specs.List.{list_all}
use Rattle.std.proofs.lemmas.Bool.{leb-true, eqb-true, le-leb, eq-eqb, ne_eqb}
use Rattle.voice_units.specs.declared.shapes.Shape.{Shape}
use Rattle.voice_units.specs.declared.shapes.Graces.{Graces}
use Rattle.voice_units.specs.Layout.{IsShape, IsOneGrace, is_shape, is_one_grace, bytes_needed}
use Rattle.voice_units.specs.Tested.{shape_if, shape_of, shape_tested}
use Rattle.voice_units.specs.Spots.{slice}
use Rattle.voice_outside.specs.Disk.{segment}
use Rattle.disk_areas.specs.Numbers.{spelled_number, number_at}
use Rattle.disk_areas.specs.Areas.{graces_in, shape_in, if_fits, rest_is_zero, superblock_end, JournalReading, unless_damaged, by_shape, by_head, current_head, magic, journal_in}
use Rattle.voice_journal.proofs.Segments.{segment_same, get_or-segment}
use Rattle.voice_journal.proofs.Slices.{segment_is, length-segment}
use Rattle.voice_journal.proofs.Fronts.{when_true, when_false}

-- the test of a shape passes where the conditions hold
pub tested : (version block blocks area : ℕ) (graces : Graces) (lanes : ℕ) → IsShape version block blocks area graces lanes → is_shape version block blocks area graces lanes ≡ true
tested version block blocks area graces lanes is =
    all (all (all (all (all (all (all (all (all (all (all (le-leb _ _ is.some_version) (le-leb _ _ is.version_limit)) (eq-eqb _ _ is.whole_words)) (le-leb _ _ is.some_block)) (le-leb _ _ is.block_limit)) (le-leb _ _ is.some_blocks))
    (le-leb _ _ is.blocks_limit)) (le-leb _ _ is.area_least)) (le-leb _ _ is.area_limit)) (le-leb _ _ is.some_lane)) (le-leb _ _ is.lanes_limit)) (unless (version == 1) (is_one_grace graces) refl (λ one. graces_equal (is.one_grace one)))
  where
    all : {a b : Bool} → a ≡ true → b ≡ true → (a && b) ≡ true
    all {a = true} {b = true} h k = refl
    all {a = false} h k = cc
    all {a = true} {b = false} h k = cc

    graces_equal : IsOneGrace graces → is_one_grace graces ≡ true
    graces_equal g = all (all (eq-eqb _ _ g.held) (eq-eqb _ _ g.until)) (eq-eqb _ _ g.listed)

    unless : (a b : Bool) → (version == 1) ≡ a → (version ≡ 1 → b ≡ true) → (not a || b) ≡ true
    unless true b e h = h (eqb-true version 1 e)
    unless false b e h = refl

-- a shape is the one that its numbers make
pub shape_again : (s : Shape) → shape_of s.version s.block s.blocks s.area s.graces s.lanes ≡ Some s
shape_again s = by (is_shape s.version s.block s.blocks s.area s.graces s.lanes) (shape_tested s.version s.block s.blocks s.area s.graces s.lanes) (tested s.version s.block s.blocks s.area s.graces s.lanes s.conditions)
  where
    by : (b : Bool) (h : b ≡ true → IsShape s.version s.block s.blocks s.area s.graces s.lanes) → b ≡ true → shape_if s.version s.block s.blocks s.area s.graces s.lanes b h ≡ Some s
    by false h e = cc
    by true h e = ap (λ (c : IsShape s.version s.block s.blocks s.area s.graces s.lanes). with_conditions c) (one_proof (h refl) s.conditions)
      where
        with_conditions : IsShape s.version s.block s.blocks s.area s.graces s.lanes → Option Shape
        with_conditions c = Some (record { version = s.version; block = s.block; blocks = s.blocks; area = s.area; graces = s.graces; lanes = s.lanes; conditions = c })

        one_proof : (a b : IsShape s.version s.block s.blocks s.area s.graces s.lanes) → a ≡ b
        one_proof = hlevel (le_prop, ℕ_set)

same_shape : (v v' k k' n n' a a' : ℕ) (g g' : Graces) (l l' : ℕ) → v ≡ v' → k ≡ k' → n ≡ n' → a ≡ a' → g ≡ g' → l ≡ l' → shape_of v k n a g l ≡ shape_of v' k' n' a' g' l'
same_shape v v' k k' n n' a a' g g' l l' ev ek en ea eg el =
    ap (λ (x : ℕ). shape_of x k n a g l) ev ∙ ap (λ (x : ℕ). shape_of v' x n a g l) ek ∙ ap (λ (x : ℕ). shape_of v' k' x a g l) en ∙ ap (λ (x : ℕ). shape_of v' k' n' x g l) ea
    ∙ ap (λ (x : Graces). shape_of v' k' n' a' x l) eg ∙ ap (λ (x : ℕ). shape_of v' k' n' a' g' x) el

-- no shape where the conditions fail
no_shape : (v k n a : ℕ) (g : Graces) (l size : ℕ) → (IsShape v k n a g l × (bytes_needed k n a ≤ size) → ⊥) → if_fits size (shape_of v k n a g l) ≡ None
no_shape v k n a g l size never = by (is_shape v k n a g l) (shape_tested v k n a g l)
  where
    split : (t : Bool) (o : Option Shape) → IsShape v k n a g l → nat_le (bytes_needed k n a) size ≡ t → cond t o None ≡ None
    split true o is e = absurd (never (is, leb-true _ _ e))
    split false o is e = refl

    by : (b : Bool) (h : b ≡ true → IsShape v k n a g l) → if_fits size (shape_if v k n a g l b h) ≡ None
    by false h = refl
    by true h = split (nat_le (bytes_needed k n a) size) _ (h refl) refl

-- what fits is kept
kept_shape : (size : ℕ) (s : Shape) (o : Option Shape) → o ≡ Some s → bytes_needed s.block s.blocks s.area ≤ size → if_fits size o ≡ Some s
kept_shape size s o e fits = ap (λ (x : Option Shape). if_fits size x) e ∙ ap (λ (t : Bool). cond t (Some s) None) (le-leb _ _ fits)

-- the numbers of a superblock
pub record IsSpelled (bytes : List ℕ) (v k n a : ℕ) (g : Graces) (l : ℕ) : Type 0 where
  pub block : k ≡ number_at 4 12 bytes
  pub blocks : n ≡ number_at 4 16 bytes
  pub area : a ≡ number_at 4 20 bytes
  pub graces : g ≡ graces_in v bytes
  pub lanes : l ≡ number_at 2 28 bytes

-- too short for a superblock
pub short_image : (image : List ℕ) → length image < 64 → journal_in image ≡ JournalReading.Damaged 0
unfolding journal_in
short_image image short = when_false _ 0 _ (ap (λ (t : Bool). t && bytes_eq (take 8 image) magic) (too_short (nat_le 64 (length image)) refl))
  where
    too_short : (t : Bool) → nat_le 64 (length image) ≡ t → t ≡ false
    too_short true e = absurd (let le = leb-true 64 (length image) e in omega (arith, le, short))
    too_short false e = refl

-- an image that begins with these bytes
module _ (image bytes : List ℕ) (size : ℕ) (len : length image ≡ size) (is : segment image 0 64 ≡ bytes) (long : 64 ≤ size) where
  size_is : length bytes ≡ 64
  size_is = sym (ap length is) ∙ length-segment image 0 64

  byte : (j : ℕ) → j < 64 → get_or bytes j 0 ≡ get_or image j 0
  byte j lt = let z : 0 + j ≡ j = omega arith in ap (λ (l : List ℕ). get_or l j 0) (sym is) ∙ get_or-segment image 0 64 j lt ∙ ap (λ (i : ℕ). get_or image i 0) z

  part : (at n : ℕ) → at + n ≤ 64 → slice image at n ≡ slice bytes at n
  part at n fits = segment_is image at n (omega (arith, len, long)) ∙ segment_same image bytes at n (λ i lo hi. sym (byte i (omega arith))) ∙ sym (segment_is bytes at n (omega (arith, size_is)))

  number : (w at : ℕ) → at + w ≤ 64 → number_at w at image ≡ number_at w at bytes
  number w at fits = ap spelled_number (part at w fits)

  magic_seen : (nat_le 64 (length image) && bytes_eq (take 8 image) magic) ≡ bytes_eq (take 8 bytes) magic
  magic_seen = ap (λ (t : Bool). t && bytes_eq (take 8 image) magic) (le-leb 64 (length image) (omega (arith, len, long))) ∙ ap (λ (l : List ℕ). bytes_eq l magic) (part 0 8 (omega arith))

  graces_seen : (v : ℕ) → graces_in v image ≡ graces_in v bytes
  unfolding graces_in
  graces_seen v = rw (number 4 24 (omega arith), number 4 30 (omega arith), number 4 34 (omega arith), number 4 38 (omega arith)) refl

  ends : (v : ℕ) → superblock_end v ≤ 64
  ends v = at_most (v == 1)
    where
      at_most : (t : Bool) → cond t 30 42 ≤ 64
      at_most true = omega arith
      at_most false = omega arith

  rest_seen : (v : ℕ) → rest_is_zero v image ≡ list_all (λ b. b == 0) (slice bytes (superblock_end v) (64 - superblock_end v))
  unfolding rest_is_zero
  rest_seen v = ap (λ (l : List ℕ). list_all (λ x. x == 0) l) (part (superblock_end v) (64 - superblock_end v) (let e = ends v in omega arith))

  pub bad_magic : bytes_eq (take 8 bytes) magic ≡ false → journal_in image ≡ JournalReading.Damaged 0
  unfolding journal_in
  bad_magic m = when_false _ 0 _ (magic_seen ∙ m)

  module _ (v : ℕ) (v_is : v ≡ number_at 4 8 bytes) (m : bytes_eq (take 8 bytes) magic ≡ true) where
    to_version : journal_in image ≡ unless_damaged ((v == 1) || (v == 2)) 8 (by_shape v image (shape_in v image))
    unfolding journal_in
    to_version =
        when_true _ 0 _ (magic_seen ∙ m)
        ∙ ap (λ (n : ℕ). unless_damaged ((n == 1) || (n == 2)) 8 (by_shape n image (shape_in n image))) (number 4 8 (omega arith) ∙ sym v_is)

    pub bad_version : (v ≡ 1 → ⊥) → (v ≡ 2 → ⊥) → journal_in image ≡ JournalReading.Damaged 8
    bad_version one two = to_version ∙ when_false _ 8 _ (ap (λ (t : Bool). t || (v == 2)) (ne_eqb v 1 one) ∙ ne_eqb v 2 two)

    module _ (some : (v ≡ 1) ⊎ (v ≡ 2)) where
      version_is : (v : ℕ) → (v ≡ 1) ⊎ (v ≡ 2) → ((v == 1) || (v == 2)) ≡ true
      version_is v (inl e) = ap (λ (n : ℕ). (n == 1) || (n == 2)) e
      version_is v (inr e) = ap (λ (n : ℕ). (n == 1) || (n == 2)) e

      to_shape : journal_in image ≡ by_shape v image (shape_in v image)
      to_shape = to_version ∙ when_true _ 8 _ (version_is v some)

      shape_seen : (k n a : ℕ) (g : Graces) (l : ℕ) → IsSpelled bytes v k n a g l → shape_in v image ≡ if_fits size (shape_of v k n a g l)
      unfolding shape_in
      shape_seen k n a g l x =
          ap (λ (z : ℕ). if_fits z (shape_of v (number_at 4 12 image) (number_at 4 16 image) (number_at 4 20 image) (graces_in v image) (number_at 2 28 image))) len
          ∙ ap (λ (o : Option Shape). if_fits size o)
          (same_shape v v (number_at 4 12 image) k (number_at 4 16 image) n (number_at 4 20 image) a (graces_in v image) g (number_at 2 28 image) l refl (number 4 12 (omega arith) ∙ sym x.block) (number 4 16 (omega arith) ∙ sym x.blocks)
          (number 4 20 (omega arith) ∙ sym x.area) (graces_seen v ∙ sym x.graces) (number 2 28 (omega arith) ∙ sym x.lanes))

      pub bad_shape : (k n a : ℕ) (g : Graces) (l : ℕ) → IsSpelled bytes v k n a g l → (IsShape v k n a g l × (bytes_needed k n a ≤ size) → ⊥) → journal_in image ≡ JournalReading.Damaged 12
      bad_shape k n a g l x never = to_shape ∙ ap (λ (o : Option Shape). by_shape v image o) (shape_seen k n a g l x ∙ no_shape v k n a g l size never)

      module _ (s : Shape) (same : s.version ≡ v) (x : IsSpelled bytes v s.block s.blocks s.area s.graces s.lanes) (fits : bytes_needed s.block s.blocks s.area ≤ size) where
        to_rest : journal_in image ≡ unless_damaged (rest_is_zero v image) (superblock_end v) (by_head s image (current_head s image))
        to_rest =
            to_shape
            ∙ ap (λ (o : Option Shape). by_shape v image o)
            (shape_seen s.block s.blocks s.area s.graces s.lanes x
            ∙ kept_shape size s _ (same_shape v s.version s.block s.block s.blocks s.blocks s.area s.area s.graces s.graces s.lanes s.lanes (sym same) refl refl refl refl refl ∙ shape_again s) fits)

        pub bad_rest : list_all (λ b. b == 0) (slice bytes (superblock_end v) (64 - superblock_end v)) ≡ false → journal_in image ≡ JournalReading.Damaged (superblock_end v)
        bad_rest h = to_rest ∙ when_false _ (superblock_end v) _ (rest_seen v ∙ h)

        pub is_superblock : list_all (λ b. b == 0) (slice bytes (superblock_end v) (64 - superblock_end v)) ≡ true → journal_in image ≡ by_head s image (current_head s image)
        is_superblock h = to_rest ∙ when_true _ (superblock_end v) _ (rest_seen v ∙ h)
