use Rattle.std.proofs.Common.{◌≡◌, ◌+◌, ◌≤◌, ◌||◌, Bool, length, drop, true, false, refl, sym, ◌∙◌, ap, arith}
use Rattle.std.proofs.Math.ListN.{drop_of_length-le}
use Rattle.voice_units.specs.Spots.{spots_in, spots_of}
use Rattle.voice_units.specs.Blocks.{pairs_at, has_pair}
use Rattle.voice_model.proofs.PlacesKept.{has_pair-append}
use Rattle.recovery.proofs.Freed.{drop_some}
use Rattle.recovery.proofs.freeing.free_unused.Goals as goal

left_over : (a b : Bool) → (a || b) ≡ true → (a ≡ true → ⊥) → b ≡ true
left_over true b e f = absurd (f refl)
left_over false b e f = e

pub loop-k-preserved : goal.loop-k-preserved
loop-k-preserved c =
    let step = c.loop-k.invariant in
    let free = c.free_piece.ensures in
    let piece = c.in-Some.piece in
    let block = c.args.ropes.now.block in
    let pieces = c.args.pieces.now in
    record {
      only = λ a. free.only a ∙ step.only a;
      held = λ a h e. step.held a h (free.held a h e);
      rest = λ a pair has unused e.
          let before = step.rest a pair has unused (free.held a _ e) in
          left_over (has_pair (pairs_at block (spots_in piece)) pair) (has_pair (pairs_at block (spots_of (drop (c.loop-k.k + 1) pieces))) pair)
          (sym (has_pair-append block (spots_in piece) (spots_of (drop (c.loop-k.k + 1) pieces)) pair) ∙ ap (λ l. has_pair (pairs_at block (spots_of l)) pair) (sym (drop_some pieces c.loop-k.k piece c.in-Some.ensures)) ∙ before)
          (λ inside. free.gone a pair inside unused e);
      size = free.size ∙ step.size;
    }

pub returns-clause-gone : goal.returns-clause-gone
returns-clause-gone c = λ a pair has unused e.
    let test = c.loop-k-test.false in
    let count = c.count-k-end.ensures in
    let over : length c.args.pieces.now ≤ c.loop-k.k = omega (arith, count, test) in
    let bad : false ≡ true = sym (ap (λ l. has_pair (pairs_at c.args.ropes.now.block (spots_of l)) pair) (drop_of_length-le c.args.pieces.now over)) ∙ c.loop-k.invariant.rest a pair has unused e in cc
