use Rattle.std.proofs.Common.{◌≡◌, ◌+◌, [], ◌∷◌, length, Some, sym, ◌∙◌, ap, subst, arith, length-append}
use Rattle.voice_blocks.specs.Holders.{block_of}
use Rattle.mirror_tables.specs.Taken.{for_now, AreHeld}
use Rattle.mirror_tables.proofs.Opened.{held_more}
use Rattle.mirror_tables.proofs.addresses.addresses_of.Goals as goal

pub loop-index-preserved : goal.loop-index-preserved
loop-index-preserved c =
    let items = c.in_ok-push.ensures.items in
    let list = c.loop-index.list.items in
    let count = c.loop-index.invariant.0 in
    let index : c.loop-index.index ≡ 0 + length list = omega (arith, count) in
    let more = length-append list (c.in-Some.address ∷ []) in
    let longer = ap length items in (
      omega (arith, count, more, longer),
      subst (AreHeld 0 c.args.blocks.now.holders) (sym items)
          (held_more 0 c.args.blocks.now.holders list c.in-Some.address c.loop-index.invariant.1 (c.in-Some.ensures.found ∙ ap (λ k. Some (block_of for_now k)) index)),
    )
