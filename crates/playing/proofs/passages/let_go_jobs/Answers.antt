use Rattle.std.proofs.Common.{◌∙◌, ◌+◌, ◌++◌, sym, drop, arith}
use Rattle.play_queue.specs.Queued.{lane_of}
use Rattle.playing.specs.Held.{held_in}
use Rattle.playing.proofs.Letting.{job_skipped, job_gone, job_held, steps_skipped, steps_gone}
use Rattle.playing.proofs.passages.let_go_jobs.Goals as goal

pub loop-k-preserved-then-job : goal.loop-k-preserved-then-job
loop-k-preserved-then-job g c = record {
  gone = job_skipped c.args.ropes.now c.loop-k.ropes c.args.blocks.now.holders c.loop-k.blocks.holders (lane_of c.args.queues.now c.args.lane) c.loop-k.k c.in-Some.job.now (sym c.in-Some.ensures.value) c.if-job.true c.loop-k.invariant.gone;
  spare = c.loop-k.invariant.spare;
  spare_ropes = c.loop-k.invariant.spare_ropes;
  spare_pairs = c.loop-k.invariant.spare_pairs;
  steps = steps_skipped c.args.ropes.now.block c.args.steps.now c.loop-k.steps (lane_of c.args.queues.now c.args.lane) c.loop-k.k c.in-Some.job.now (sym c.in-Some.ensures.value) c.if-job.true c.loop-k.invariant.steps;
}

pub let_go-requires : goal.let_go-requires
let_go-requires g c = record {
  held = (
    held_in (drop (c.loop-k.k + 1) (lane_of c.args.queues.now c.args.lane)) ++ c.requires.held.0,
    job_held c.args.ropes.now c.loop-k.ropes c.args.blocks.now.holders c.loop-k.blocks.holders (lane_of c.args.queues.now c.args.lane) c.loop-k.k c.in-Some.job.now c.requires.held.0 (sym c.in-Some.ensures.value) c.if-job.false c.loop-k.invariant.gone c.requires.held.1,
  );
}

pub loop-k-preserved : goal.loop-k-preserved
loop-k-preserved g c = record {
  gone = job_gone c.args.ropes.now c.loop-k.ropes c.let_go.new.ropes c.args.blocks.now.holders c.loop-k.blocks.holders c.let_go.new.blocks.holders (lane_of c.args.queues.now c.args.lane) c.loop-k.k c.in-Some.job.now (sym c.in-Some.ensures.value) c.if-job.false c.loop-k.invariant.gone c.let_go.ensures.gone;
  spare = c.let_go.ensures.spare ∙ c.loop-k.invariant.spare;
  spare_ropes = c.let_go.ensures.spare_ropes ∙ c.loop-k.invariant.spare_ropes;
  spare_pairs = let one = c.let_go.ensures.spare_pairs in let more = c.loop-k.invariant.spare_pairs in omega (arith, one, more);
  steps = steps_gone c.args.ropes.now.block c.loop-k.ropes.block c.args.steps.now c.loop-k.steps c.let_go.new.steps (lane_of c.args.queues.now c.args.lane) c.loop-k.k c.in-Some.job.now (sym c.in-Some.ensures.value) c.if-job.false c.loop-k.invariant.gone.block c.loop-k.invariant.steps c.let_go.ensures.steps;
}
