use Rattle.std.proofs.Common.{sym, ◌∙◌, arith}
use Rattle.voice_blocks.proofs.TakeLemmas.{found_at, absent_at}
use Rattle.open_recordings.proofs.Counted.{no_more}
use Rattle.open_recordings.proofs.addresses.blocks_taken.Goals as goal

pub loop-low-init : goal.loop-low-init
loop-low-init c = record { order = omega arith; limit = omega arith; bounds = λ count h. let most = h.most in (omega arith, omega (arith, most)) }

pub loop-low-preserved-then-is_some : goal.loop-low-preserved-then-is_some
loop-low-preserved-then-is_some c =
    let inv = c.loop-low.invariant in
    let test = c.loop-low-test.true in
    let found = found_at _ c.args.blocks.now.holders c.address.result (sym c.is_some.ensures ∙ c.if-is_some.true) c.address.ensures in
    record {
      order = omega (arith, test);
      limit = inv.limit;
      bounds = λ count h. let less = h.only found.0 _ found.1 in let known = inv.bounds count h in (omega (arith, less), known.1);
    }

pub loop-low-preserved : goal.loop-low-preserved
loop-low-preserved c =
    let inv = c.loop-low.invariant in
    let test = c.loop-low-test.true in
    let limit = inv.limit in
    let none = absent_at _ c.args.blocks.now.holders c.address.result (sym c.is_some.ensures ∙ c.if-is_some.false) c.address.ensures in
    record {
      order = omega (arith, test);
      limit = omega (arith, test, limit);
      bounds = λ count h. let known = inv.bounds count h in (known.0, no_more c.args.blocks.now.holders c.args.lane count _ h none);
    }

pub returns : goal.returns
returns c = λ count h.
    let inv = c.loop-low.invariant in
    let known = inv.bounds count h in
    let low = known.0 in
    let high = known.1 in
    let test = c.loop-low-test.false in
    omega (arith, low, high, test)
