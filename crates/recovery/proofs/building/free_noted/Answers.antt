use Rattle.std.proofs.Common.{◌≡◌, ◌+◌, ◌≤◌, ◌||◌, Bool, length, drop, true, false, Some, refl, sym, ◌∙◌, ap, arith}
use Rattle.std.proofs.Math.ListN.{drop_of_length-le}
use Rattle.voice_units.specs.Blocks.{BlockPair, same_pair}
use Rattle.voice_units.proofs.Distinct.{same_pair-true}
use Rattle.voice_blocks.specs.declared.owner.Owner.TheVariants.{File}
use Rattle.voice_blocks.specs.Holders.{block_of}
use Rattle.rope_table.specs.Table.{uses_at, pair_of}
use Rattle.recovery.specs.Building.{is_noted}
use Rattle.recovery.proofs.RowsGone.{drop_next}
use Rattle.recovery.proofs.building.free_noted.Goals as goal

left_over : (a b : Bool) → (a || b) ≡ true → (a ≡ true → ⊥) → b ≡ true
left_over true b e f = absurd (f refl)
left_over false b e f = e

pub loop-block-preserved : goal.loop-block-preserved
loop-block-preserved c =
    let step = c.loop-block.invariant in
    let free = c.free_block.ensures in
    let noted = c.args.noted.now in
    let k = c.loop-block.block-index in
    let block = c.block-item.result in
    let test = c.loop-block-test.true in
    record {
      only = λ a. free.only a ∙ step.only a;
      held = λ a h e. step.held a h (free.held a h e);
      rest = λ a pair has unused e.
          let before = step.rest a pair has unused (free.held a _ e) in
          left_over (same_pair (pair_of block.file block.index) pair) (is_noted (drop (k + 1) noted) pair)
          (sym (ap (λ l. is_noted l pair) (drop_next noted k block (omega arith) c.block-item.is)) ∙ before)
          (λ here.
          let is : pair_of block.file block.index ≡ pair = same_pair-true (pair_of block.file block.index) pair here in
          free.gone (ap (uses_at c.args.ropes.now) is ∙ unused) a (e ∙ ap (λ (p : BlockPair). Some (block_of (File p.file) p.index)) (sym is)));
      size = free.size ∙ step.size;
    }

pub returns-clause-gone : goal.returns-clause-gone
returns-clause-gone c = λ a pair has unused e.
    let test = c.loop-block-test.false in
    let over : length c.args.noted.now ≤ c.loop-block.block-index = omega arith in
    let bad : false ≡ true = sym (ap (λ l. is_noted l pair) (drop_of_length-le c.args.noted.now over)) ∙ c.loop-block.invariant.rest a pair has unused e in cc
