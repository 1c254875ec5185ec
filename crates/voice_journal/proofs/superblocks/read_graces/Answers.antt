use Rattle.std.proofs.Common.{◌≡◌, ℕ, List, refl}
use Rattle.std.proofs.lemmas.Bool.{ne_eqb}
use Rattle.voice_units.specs.declared.shapes.Graces.{Graces}
use Rattle.disk_areas.specs.Numbers.{number_at}
use Rattle.disk_areas.specs.Areas.{graces_in}
use Rattle.voice_journal.proofs.superblocks.read_graces.Goals as goal

abbrev graces_of : ℕ → ℕ → ℕ → ℕ → Graces
graces_of a b c d = record { common = a; held = b; until = c; listed = d }

one_grace : (version a : ℕ) (bytes : List ℕ) → version ≡ 1 → a ≡ number_at 4 24 bytes → graces_of a a a a ≡ graces_in version bytes
unfolding graces_in
one_grace version a bytes one is = rw (one, is) refl

four_graces : (version a b c d : ℕ) (bytes : List ℕ) → (version ≡ 1 → ⊥) → a ≡ number_at 4 24 bytes → b ≡ number_at 4 30 bytes → c ≡ number_at 4 34 bytes → d ≡ number_at 4 38 bytes → graces_of a b c d ≡ graces_in version bytes
unfolding graces_in
four_graces version a b c d bytes other ea eb ec ed = rw (ne_eqb version 1 other, ea, eb, ec, ed) refl

pub returns-then-version-eq1 : goal.returns-then-version-eq1
returns-then-version-eq1 c = one_grace c.args.version c.read_4-common.result c.args.bytes.now c.if-version-eq1.true c.read_4-common.ensures

pub returns : goal.returns
returns c =
    four_graces c.args.version c.read_4-common.result c.read_4.result c.read_4-2.result c.read_4-3.result c.args.bytes.now c.if-version-eq1.false c.read_4-common.ensures c.read_4.ensures c.read_4-2.ensures
    c.read_4-3.ensures
