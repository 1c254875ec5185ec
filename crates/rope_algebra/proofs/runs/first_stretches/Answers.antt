use Rattle.std.proofs.Common.{inl, inr}
use Rattle.rope_algebra.proofs.Stretched.{none_yet, one_more, all_stretches}
use Rattle.rope_algebra.proofs.runs.first_stretches.Goals as goal

pub loop-count-init : goal.loop-count-init
loop-count-init c = none_yet c.args.block c.args.from c.args.len c.args.most

pub loop-count-preserved : goal.loop-count-preserved
loop-count-preserved c = one_more c.args.block c.args.from c.args.len c.args.most c.loop-count.count c.loop-count.samples c.min-samples.result c.requires.block c.loop-count-test.true c.if-samples-len.true c.min-samples.ensures c.loop-count.invariant

pub returns-after-loop-count-clause-count : goal.returns-after-loop-count-clause-count
returns-after-loop-count-clause-count c file = (all_stretches c.args.block c.args.from c.args.len c.args.most c.loop-count.count c.loop-count.samples (inl c.loop-count-test.false) c.loop-count.invariant file).0

pub returns-after-loop-count-clause-samples : goal.returns-after-loop-count-clause-samples
returns-after-loop-count-clause-samples c file = (all_stretches c.args.block c.args.from c.args.len c.args.most c.loop-count.count c.loop-count.samples (inl c.loop-count-test.false) c.loop-count.invariant file).1

pub returns-else-samples-len-clause-count : goal.returns-else-samples-len-clause-count
returns-else-samples-len-clause-count c file = (all_stretches c.args.block c.args.from c.args.len c.args.most c.loop-count.count c.loop-count.samples (inr c.if-samples-len.false) c.loop-count.invariant file).0

pub returns-else-samples-len-clause-samples : goal.returns-else-samples-len-clause-samples
returns-else-samples-len-clause-samples c file = (all_stretches c.args.block c.args.from c.args.len c.args.most c.loop-count.count c.loop-count.samples (inr c.if-samples-len.false) c.loop-count.invariant file).1
