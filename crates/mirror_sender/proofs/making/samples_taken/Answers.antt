use Rattle.std.proofs.Common.{◌≡◌, ◌+◌, ◌≤◌, ◌<◌, ◌^◌, length, drop, sym, ◌∙◌, ap, subst, arith}
use Rattle.mirror_sender.specs.Coming.{bytes_taken}
use Rattle.mirror_sender.proofs.Lists.{dropped, dropped_all, no_take}
use Rattle.mirror_sender.proofs.making.samples_taken.Goals as goal

pub returns-then-samples-from-gt-MOST_SAMPLES-clause-none : goal.returns-then-samples-from-gt-MOST_SAMPLES-clause-none
returns-then-samples-from-gt-MOST_SAMPLES-clause-none c = λ e.
    let step = dropped c.args.tapes.now c.args.takes.now c.loop-take.take-index no_take c.loop-take-test.true in
    let same = ap length c.samples-samples.ensures in
    let all = c.loop-take.invariant.0 in
    omega (arith, step, same, all, c.from.ensures, c.if-samples-from-gt-MOST_SAMPLES.true)

pub loop-take-preserved : goal.loop-take-preserved
loop-take-preserved c =
    let step = dropped c.args.tapes.now c.args.takes.now c.loop-take.take-index no_take c.loop-take-test.true in
    let same = ap length c.samples-samples.ensures in
    let all = c.loop-take.invariant.0 in
    (omega (arith, step, same, all), omega (arith, c.from.ensures, c.if-samples-from-gt-MOST_SAMPLES.false))

pub returns : goal.returns
returns c =
    let none = dropped_all c.args.tapes.now c.args.takes.now c.loop-take.take-index c.loop-take-test.false in
    let all = c.loop-take.invariant.0 in
    record { some = omega (arith, none, all); most = c.loop-take.invariant.1; none = λ e. cc }
