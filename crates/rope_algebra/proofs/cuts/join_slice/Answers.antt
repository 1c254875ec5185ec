use Rattle.std.proofs.Common.{◌+◌, ◌-◌, sym, subst, drop, ℕ, ◌∷◌}
use Rattle.rope_algebra.proofs.Parts.{at_item}
use Rattle.rope_algebra.proofs.Joins.{IsUnderway, one_further}
use Rattle.rope_algebra.proofs.cuts.join_slice.Goals as goal

pub loop-other-preserved : goal.loop-other-preserved
loop-other-preserved c =
    let old = c.args.pieces.now.items in
    let now = c.loop-other.pieces.items in
    let others = c.args.others.now in
    let rest = drop (c.loop-other.other-index + 1) others in
    let item = c.other-item.result in
    let part = c.part_of-part.result in
    let here = at_item others c.loop-other.other-index item c.loop-other-test.true c.other-item.is in
    let was : IsUnderway old now others (item ∷ rest) c.args.start c.args.len c.loop-other.skip c.loop-other.left = subst (λ ps. IsUnderway old now others ps c.args.start c.args.len c.loop-other.skip c.loop-other.left) here c.loop-other.invariant in
    subst (λ (skip : ℕ). IsUnderway old c.join.new.pieces.items others rest c.args.start c.args.len skip (c.loop-other.left - part.len)) (sym c.saturating_sub-skip.ensures)
    (one_further old now c.join.new.pieces.items others rest item part c.args.start c.args.len c.loop-other.skip c.loop-other.left was c.in_ok-join.ensures c.part_of-part.ensures.spots)
