use Rattle.std.proofs.Common.{rules, ◌≡◌, ◌∷◌, [], length, replicate, refl, sym, ◌∙◌}
use Rattle.disk_areas.proofs.Digits.{take_all}
use Rattle.voice_journal.proofs.Putting.{put_next}
use Rattle.voice_journal.proofs.formatting.first_bytes.Goals as goal

pub returns-clause-value : goal.returns-clause-value
returns-clause-value c =
    let len : length c.put_at-3.new.bytes ≡ 81 = search rules in
    let gate = put_next _ _ _ _ (1 ∷ replicate 7 0) 64 72 c.put_at.ensures c.put_superblock.ensures.value refl refl in
    let epoch = put_next _ _ _ _ _ 72 80 c.put_at-2.ensures gate c.eight_bytes.ensures refl in
    sym (take_all c.put_at-3.new.bytes 81 len) ∙ put_next _ _ _ _ (0 ∷ []) 80 81 c.put_at-3.ensures epoch refl refl
