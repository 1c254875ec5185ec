use Rattle.std.proofs.Common.{rules, ◌≡◌, ◌++◌, length, take, Bool, false, cond, replicate, refl, sym, ap, ◌∙◌}
use Rattle.std.specs.Prelude.{◌==◌}
use Rattle.std.proofs.lemmas.Bool.{ne_eqb}
use Rattle.disk_areas.specs.Areas.{graces_by_class}
use Rattle.disk_areas.proofs.Digits.{take_all}
use Rattle.voice_journal.proofs.Putting.{put_first, put_next}
use Rattle.voice_journal.proofs.superblocks.end_bytes.Goals as goal

pub returns-clause-value : goal.returns-clause-value
returns-clause-value c =
    let other : (c.args.shape.now.version == 1) ≡ false = ne_eqb c.args.shape.now.version 1 c.if-shape-eq1.false in
    let len : length c.put_at-2.new.bytes ≡ 34 = search rules in
    let classes : take 12 c.put_at.new.bytes ≡ graces_by_class c.args.shape.now = put_first _ _ _ 12 c.put_at.ensures c.class_bytes-classes.ensures.value refl in
    sym (take_all c.put_at-2.new.bytes 34 len) ∙ put_next _ _ _ _ (replicate 22 0) 12 34 c.put_at-2.ensures classes refl refl
    ∙ ap (λ (t : Bool). cond t (replicate 34 0) (graces_by_class c.args.shape.now ++ replicate 22 0)) (sym other)
