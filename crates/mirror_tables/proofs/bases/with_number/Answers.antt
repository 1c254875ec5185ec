use Rattle.std.proofs.Common.{◌≡◌, ◌+◌, ◌++◌, drop, ◌∙◌, ap}
use Rattle.mirror_tables.specs.Numbered.{with_number}
use Rattle.mirror_tables.proofs.Sized.{next_numbered, all_numbered}
use Rattle.mirror_tables.proofs.bases.with_number.Goals as goal

pub loop-payload-preserved : goal.loop-payload-preserved
loop-payload-preserved c =
    let next : c.in-Some-checked_add.next ≡ c.loop-payload.index + 1 = c.in-Some-checked_add.ensures.1 in
    ap (λ k. c.put_numbered.new.numbered ++ with_number c.args.number (drop k c.args.base.now)) next
    ∙ next_numbered c.args.number c.loop-payload.index c.args.base.now c.loop-payload.numbered c.put_numbered.new.numbered c.in-Some.payload.now c.in-Some.ensures c.in_ok-put_numbered.ensures
    ∙ c.loop-payload.invariant

pub returns : goal.returns
returns c = all_numbered c.args.number c.loop-payload.index c.args.base.now c.loop-payload.numbered c.in_default.ensures c.loop-payload.invariant
