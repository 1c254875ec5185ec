use Rattle.std.proofs.Common.{◌≡◌, ◌+◌, ◌++◌, length, Bool, true, false, cond, replicate, refl}
use Rattle.std.specs.Prelude.{◌==◌}
use Rattle.voice_units.specs.declared.shapes.Shape.{Shape}
use Rattle.disk_areas.specs.Areas.{superblock, magic, graces_by_class}
use Rattle.voice_journal.proofs.Putting.{put_first, put_next}
use Rattle.voice_journal.proofs.superblocks.put_superblock.Goals as goal

end_length : (shape : Shape) → 30 + length (cond (shape.version == 1) (replicate 34 0) (graces_by_class shape ++ replicate 22 0)) ≡ 64
end_length shape = by (shape.version == 1)
  where
    by : (t : Bool) → 30 + length (cond t (replicate 34 0) (graces_by_class shape ++ replicate 22 0)) ≡ 64
    by true = refl
    by false = refl

pub returns-clause-value : goal.returns-clause-value
unfolding superblock
returns-clause-value c =
    let front = put_first _ _ magic 8 c.put_at.ensures refl refl in
    let version = put_next _ _ _ _ _ 8 12 c.put_at-2.ensures front c.four_bytes.ensures.value refl in
    let block = put_next _ _ _ _ _ 12 16 c.put_at-3.ensures version c.four_bytes-2.ensures.value refl in
    let blocks = put_next _ _ _ _ _ 16 20 c.put_at-4.ensures block c.four_bytes-3.ensures.value refl in
    let area = put_next _ _ _ _ _ 20 24 c.put_at-5.ensures blocks c.four_bytes-4.ensures.value refl in
    let grace = put_next _ _ _ _ _ 24 28 c.put_at-6.ensures area c.four_bytes-5.ensures.value refl in
    let lanes = put_next _ _ _ _ _ 28 30 c.put_at-7.ensures grace c.two_bytes.ensures refl in
    put_next _ _ _ _ _ 30 64 c.put_at-8.ensures lanes c.end_bytes.ensures.value (end_length c.args.shape.now)
