use Rattle.std.proofs.Common.{◌≡◌, Some, refl, sym, ◌∙◌, ap, arith}
use Rattle.voice_units.specs.Spots.{spots_in}
use Rattle.voice_units.specs.Blocks.{BlockPair, pairs_at, has_pair, in_run}
use Rattle.voice_blocks.specs.declared.owner.Owner.TheVariants.{File}
use Rattle.voice_blocks.specs.Holders.{block_of}
use Rattle.rope_table.specs.Table.{uses_at}
use Rattle.recovery.proofs.BlocksUsed.{none_in_run, in_longer_run}
use Rattle.recovery.proofs.freeing.free_piece.Goals as goal

pub loop-index-init : goal.loop-index-init
loop-index-init c = record {
  only = λ a. refl;
  held = λ a h e. e;
  gone = λ a q e. absurd (none_in_run c.args.piece.now.file c.blocks-indexes.result.start q e);
  size = refl;
}

pub loop-index-preserved : goal.loop-index-preserved
loop-index-preserved c =
    let step = c.loop-index.invariant in
    let free = c.free_block.ensures in
    record {
      only = λ a. free.only a ∙ step.only a;
      held = λ a h e. step.held a h (free.held a h e);
      gone = λ a q there unused e.
          in_longer_run {P = ⊥} c.args.piece.now.file c.blocks-indexes.result.start c.loop-index.index q c.loop-index.auto.index there
          (λ within. step.gone a q within unused (free.held a _ e))
          (λ last. free.gone (ap (uses_at c.args.ropes.now) last ∙ unused) a (e ∙ sym (ap (λ (p : BlockPair). Some (block_of (File p.file) p.index)) last)));
      size = free.size ∙ step.size;
    }

pub returns-clause-gone : goal.returns-clause-gone
returns-clause-gone c = λ a pair has unused e.
    let piece = c.args.piece.now in
    let run = c.blocks-indexes.result in
    let end : c.loop-index.index ≡ run.end = omega (arith, c.blocks-indexes.ensures.ordered, c.loop-index-test.false, c.loop-index.auto) in
    c.loop-index.invariant.gone a pair
    (ap (λ n. in_run piece.file run.start n pair) end ∙ sym (c.blocks-indexes.ensures.blocks pair) ∙ ap (λ n. has_pair (pairs_at n (spots_in piece)) pair) c.block.ensures.value ∙ has) unused e

pub blocks-indexes-requires-clause-fits : goal.blocks-indexes-requires-clause-fits
blocks-indexes-requires-clause-fits c = omega arith
