use Rattle.std.proofs.Common.{◌≡◌, ◌⊎◌, inl, inr, ◌-◌, ◌≤◌, ℕ, List, take, Bool, true, false, refl, sym, ap, ◌∙◌, subst}
use Rattle.std.specs.Prelude.{bytes_eq, not, ◌==◌}
use Rattle.std.specs.List.{list_all}
use Rattle.voice_units.specs.Layout.{bytes_needed}
use Rattle.voice_units.specs.Spots.{slice}
use Rattle.disk_areas.specs.Areas.{JournalReading, magic, superblock_end}
use Rattle.voice_journal.proofs.ShapesRead.{IsSpelled, bad_magic, bad_version, bad_shape, bad_rest, is_superblock}
use Rattle.voice_journal.proofs.superblocks.read_superblock.Goals.{else-version-ne1-via-then-version-ne1+else-version-ne2, else-version-ne1-via-else-version-ne1}
use Rattle.voice_journal.proofs.superblocks.read_superblock.Goals.{After-read_4-version, After-read_graces-graces, After-is_zero}
use Rattle.voice_journal.proofs.superblocks.read_superblock.Goals as goal

equal : (b : Bool) → not b ≡ false → b ≡ true
equal true h = refl
equal false h = cc

differs : (b : Bool) → not b ≡ true → b ≡ false
differs true h = cc
differs false h = refl

never : false ≡ true → ⊥
never e = cc

needed_same : (k k' n n' a a' size : ℕ) → k ≡ k' → n ≡ n' → a ≡ a' → bytes_needed k' n' a' ≤ size → bytes_needed k n a ≤ size
needed_same k k' n n' a a' size ek en ea h = subst (λ (x : ℕ). bytes_needed x n a ≤ size) (sym ek) (subst (λ (x : ℕ). bytes_needed k' x a ≤ size) (sym en) (subst (λ (x : ℕ). bytes_needed k' n' x ≤ size) (sym ea) h))

pub returns-then-ne-clause-value : goal.returns-then-ne-clause-value
returns-then-ne-clause-value c =
    λ image len is.
    let bytes = c.args.bytes.now in
    let m : bytes_eq (take 8 bytes) magic ≡ false = differs _ (sym (c.ne.ensures ∙ ap (λ (l : List ℕ). not (bytes_eq (take 8 bytes) l)) c.as_slice.ensures) ∙ c.if-ne.true) in
    bad_magic image bytes c.args.size len is c.requires m

-- the bytes begin as a disk of this kind does
magic_is : (c : After-read_4-version) → bytes_eq (take 8 c.args.bytes.now) magic ≡ true
magic_is c = equal _ (sym (c.ne.ensures ∙ ap (λ (l : List ℕ). not (bytes_eq (take 8 c.args.bytes.now) l)) c.as_slice.ensures) ∙ c.if-ne.false)

-- the version is one of the two
version_is : (c : After-read_graces-graces) → (c.read_4-version.result ≡ 1) ⊎ (c.read_4-version.result ≡ 2)
version_is c = elim c.else-version-ne1.branch [ else-version-ne1-via-then-version-ne1+else-version-ne2 w ↦ inr w.if-version-ne2.false | else-version-ne1-via-else-version-ne1 w ↦ inl w.if-version-ne1.false ]

-- the bytes spell the shape
is_spelled : (c : After-is_zero) → IsSpelled c.args.bytes.now c.read_4-version.result c.in-Ok.shape.block c.in-Ok.shape.blocks c.in-Ok.shape.area c.in-Ok.shape.graces c.in-Ok.shape.lanes
is_spelled c =
    let n = c.in-Ok.ensures.numbers in
    record { block = n.1 ∙ c.read_4.ensures; blocks = n.2 ∙ c.read_4-2.ensures; area = n.3 ∙ c.read_4-3.ensures; graces = n.4 ∙ c.read_graces-graces.ensures; lanes = n.5 ∙ c.from-lanes.ensures ∙ c.read_2.ensures }

-- a disk of that shape fits the size
is_fit : (c : After-is_zero) → bytes_needed c.in-Ok.shape.block c.in-Ok.shape.blocks c.in-Ok.shape.area ≤ c.args.size
is_fit c = let n = c.in-Ok.ensures.numbers in needed_same _ _ _ _ _ _ _ n.1 n.2 n.3 (c.in-Ok.ensures.exact.0 refl).1

-- the test of the rest is of what is behind the fields of that version
rest_is : (c : After-is_zero) → c.is_zero.result ≡ list_all (λ b. b == 0) (slice c.args.bytes.now (superblock_end c.read_4-version.result) (64 - superblock_end c.read_4-version.result))
rest_is c = c.is_zero.ensures ∙ ap (λ (e : ℕ). list_all (λ b. b == 0) (slice c.args.bytes.now e (64 - e))) c.fields_end-end.ensures.value

pub returns-then-version-ne2-clause-value : goal.returns-then-version-ne2-clause-value
returns-then-version-ne2-clause-value c =
    λ image len is.
    let begins = magic_is (goal.at.returns-then-version-ne2-clause-value c).After-read_4-version in
    bad_version image c.args.bytes.now c.args.size len is c.requires _ c.read_4-version.ensures begins c.if-version-ne1.true c.if-version-ne2.true

pub returns-in_default-clause-value : goal.returns-in_default-clause-value
returns-in_default-clause-value c =
    λ image len is.
    let at = goal.at.returns-in_default-clause-value c in
    bad_shape image c.args.bytes.now c.args.size len is c.requires _ c.read_4-version.ensures (magic_is at.After-read_4-version) (version_is at.After-read_graces-graces) c.read_4.result c.read_4-2.result c.read_4-3.result c.read_graces-graces.result c.from-lanes.result
    (record { block = c.read_4.ensures; blocks = c.read_4-2.ensures; area = c.read_4-3.ensures; graces = c.read_graces-graces.ensures; lanes = c.from-lanes.ensures ∙ c.read_2.ensures }) (λ h. never (c.in_default.ensures.exact.1 h))

pub returns-then-not-is_zero-clause-value : goal.returns-then-not-is_zero-clause-value
returns-then-not-is_zero-clause-value c =
    λ image len is.
    let at = goal.at.returns-then-not-is_zero-clause-value c in
    bad_rest image c.args.bytes.now c.args.size len is c.requires _ c.read_4-version.ensures (magic_is at.After-read_4-version) (version_is at.After-read_graces-graces) c.in-Ok.shape c.in-Ok.ensures.numbers.0 (is_spelled at.After-is_zero)
    (is_fit at.After-is_zero) (sym (rest_is at.After-is_zero) ∙ c.if-not-is_zero.true) ∙ ap (λ (e : ℕ). JournalReading.Damaged e) (sym c.fields_end-end.ensures.value)

pub returns-clause-value : goal.returns-clause-value
returns-clause-value c =
    λ image len is.
    let at = goal.at.returns-clause-value c in
    is_superblock image c.args.bytes.now c.args.size len is c.requires _ c.read_4-version.ensures (magic_is at.After-read_4-version) (version_is at.After-read_graces-graces) c.in-Ok.shape c.in-Ok.ensures.numbers.0 (is_spelled at.After-is_zero)
    (is_fit at.After-is_zero) (sym (rest_is at.After-is_zero) ∙ c.if-not-is_zero.false)
