-- A shape that passes the test keeps the conditions.
use Rattle.std.specs.Prelude.{◌≡◌, ℕ, Bool, true, false, ◌&&◌, ◌||◌, not, Option, Some, None}
use Rattle.std.proofs.Common.{refl}
use Rattle.std.proofs.lemmas.Bool.{leb-true, eqb-true, eq-eqb}
use Rattle.voice_units.specs.declared.shapes.Graces.{Graces}
use Rattle.voice_units.specs.declared.shapes.Shape.{Shape}
use Rattle.voice_units.specs.Layout.{IsShape, IsOneGrace, is_shape, is_one_grace}

front : (a b : Bool) → (a && b) ≡ true → a ≡ true
front true b h = refl
front false b h = h

rest : (a b : Bool) → (a && b) ≡ true → b ≡ true
rest true b h = h
rest false b h = cc

unless : (a b : Bool) → (not a || b) ≡ true → a ≡ true → b ≡ true
unless true b h k = h
unless false b h k = cc

one_grace_tested : (graces : Graces) → is_one_grace graces ≡ true → IsOneGrace graces
one_grace_tested graces h = record {
  held = eqb-true _ _ (front _ _ (front _ _ h));
  until = eqb-true _ _ (rest _ _ (front _ _ h));
  listed = eqb-true _ _ (rest _ _ h);
}

pub shape_tested : (version block blocks area : ℕ) (graces : Graces) (lanes : ℕ) → is_shape version block blocks area graces lanes ≡ true → IsShape version block blocks area graces lanes
shape_tested version block blocks area graces lanes h =
    let h10 = front _ _ h in
    let h9 = front _ _ h10 in
    let h8 = front _ _ h9 in
    let h7 = front _ _ h8 in
    let h6 = front _ _ h7 in
    let h5 = front _ _ h6 in
    let h4 = front _ _ h5 in
    let h3 = front _ _ h4 in
    let h2 = front _ _ h3 in
    let h1 = front _ _ h2 in
    record {
      some_version = leb-true _ _ (front _ _ h1);
      version_limit = leb-true _ _ (rest _ _ h1);
      whole_words = eqb-true _ _ (rest _ _ h2);
      some_block = leb-true _ _ (rest _ _ h3);
      block_limit = leb-true _ _ (rest _ _ h4);
      some_blocks = leb-true _ _ (rest _ _ h5);
      blocks_limit = leb-true _ _ (rest _ _ h6);
      area_least = leb-true _ _ (rest _ _ h7);
      area_limit = leb-true _ _ (rest _ _ h8);
      some_lane = leb-true _ _ (rest _ _ h9);
      lanes_limit = leb-true _ _ (rest _ _ h10);
      one_grace = λ v. one_grace_tested graces (unless _ _ (rest _ _ h) (eq-eqb _ _ v));
    }

-- the shape of these numbers where it passes the test
abbrev pub shape_if : (version block blocks area : ℕ) (graces : Graces) (lanes : ℕ) (b : Bool) → (b ≡ true → IsShape version block blocks area graces lanes) → Option Shape
shape_if version block blocks area graces lanes true h = Some (record { version = version; block = block; blocks = blocks; area = area; graces = graces; lanes = lanes; conditions = h refl })
shape_if version block blocks area graces lanes false h = None

abbrev pub shape_of : ℕ → ℕ → ℕ → ℕ → Graces → ℕ → Option Shape
shape_of version block blocks area graces lanes =
    shape_if version block blocks area graces lanes (is_shape version block blocks area graces lanes) (shape_tested version block blocks area graces lanes)
