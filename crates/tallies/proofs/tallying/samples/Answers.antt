use Rattle.std.proofs.Common.{◌≡◌, ◌+◌, ◌≤◌, ◌*◌, ◌^◌, List, Option, sym, ◌∙◌, ap, subst, arith}
use Rattle.std.specs.Prelude.{IfSome}
use Rattle.voice_units.specs.Spots.{samples_in}
use Rattle.rope_table.specs.declared.ropes.Rope.{Rope}
use Rattle.checkpoint.specs.Blocks.{above}
use Rattle.checkpoint.proofs.Above.{above_start, above_none, above_next}
use Rattle.tallies.specs.Tallies.{samples_held}
use Rattle.tallies.proofs.tallying.samples.Goals as goal

pub loop-id-init : goal.loop-id-init
loop-id-init c =
    let all = ap samples_held (above_start c.args.table.now.ropes c.requires) in
    record {
      most = omega arith;
      small = omega arith;
      so_far = omega (arith, all);
    }

pub loop-id-smaller : goal.loop-id-smaller
loop-id-smaller c =
    let next = above_next c.loop-id.last c.in-Some.id c.args.table.now.ropes c.block-block.ensures.laws.rising (sym c.in-Some.ensures) in
    let higher = next.higher in
    omega (arith, higher, c.number-last.ensures.value, c.number-last.ensures.most)

pub loop-id-preserved : goal.loop-id-preserved
loop-id-preserved c =
    let ropes = c.args.table.now.ropes in
    let next = above_next c.loop-id.last c.in-Some.id ropes c.block-block.ensures.laws.rising (sym c.in-Some.ensures) in
    let length = subst (λ (o : Option Rope). IfSome o (λ rope. c.length_of.result ≡ samples_in rope.pieces)) next.found c.length_of.ensures in
    let value = c.number-last.ensures.value in
    let higher = next.higher in
    let small = c.loop-id.invariant.small in
    let rest : samples_held (above c.loop-id.last ropes) ≡ samples_in next.rope.pieces + samples_held (above c.in-Some.id ropes) = ap samples_held next.above in
    let here : samples_held (above c.number-last.result ropes) ≡ samples_held (above c.in-Some.id ropes) = ap (λ n. samples_held (above n ropes)) value in
    let so_far = c.loop-id.invariant.so_far in
    record {
      most = c.number-last.ensures.most;
      small = omega (arith, higher, value, small);
      so_far = omega (arith, length, rest, here, so_far);
    }

pub returns : goal.returns
returns c =
    let none : samples_held (above c.loop-id.last c.args.table.now.ropes) ≡ 0 = ap samples_held (above_none c.loop-id.last c.args.table.now.ropes (sym c.in_default.ensures)) in
    let so_far = c.loop-id.invariant.so_far in
    omega (arith, none, so_far)
