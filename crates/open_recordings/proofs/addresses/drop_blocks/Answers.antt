use Rattle.std.proofs.Common.{◌≡◌, ◌+◌, refl, ◌∙◌, ap, subst, arith}
use Rattle.voice_blocks.specs.Holders.{EachBecomes, holder_at, block_of, without_block}
use Rattle.voice_blocks.specs.declared.owner.Owner.TheVariants.{Taking}
use Rattle.open_recordings.specs.Blocks.{without_from}
use Rattle.open_recordings.proofs.Fewer.{from-none, from-step}
use Rattle.open_recordings.proofs.addresses.drop_blocks.Goals as goal

pub loop-index-init : goal.loop-index-init
loop-index-init c = record { low = omega arith; high = omega arith; each = record { count = refl; each = λ a. from-none (Taking c.args.lane) c.args.from (holder_at c.args.blocks.now.holders a) } }

pub loop-index-preserved : goal.loop-index-preserved
loop-index-preserved c =
    let inv = c.loop-index.invariant in
    let low = inv.low in
    let test = c.loop-index-test.true in
    let dropped = c.drop_block.ensures.holders in
    record {
      low = omega (arith, low);
      high = omega (arith, test);
      each = record {
        count = dropped.count ∙ inv.each.count;
        each = λ a. dropped.each a ∙ ap (without_block (block_of (Taking c.args.lane) c.loop-index.index)) (inv.each.each a) ∙ from-step (Taking c.args.lane) c.args.from c.loop-index.index (holder_at c.args.blocks.now.holders a) low;
      };
    }

pub returns : goal.returns
returns c =
    let inv = c.loop-index.invariant in
    let high = inv.high in
    let test = c.loop-index-test.false in
    subst (λ end. EachBecomes (without_from (Taking c.args.lane) c.args.from end) c.args.blocks.now.holders c.loop-index.blocks.holders) (let last : c.loop-index.index ≡ c.args.from + c.args.n = omega (arith, high, test) in last) inv.each
