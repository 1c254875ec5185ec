use Rattle.std.proofs.Common.{ap, ◌∙◌, map, replicate, arith, ◌≡◌, [], subst, sym}
use Rattle.circular_buffer.specs.Buffer.{buffer}
use Rattle.play_queue.specs.Queued.{items_of, AreQueues}
use Rattle.play_queue.proofs.Lanewise.{empties, all_empty}
use Rattle.play_queue.proofs.lanes.Queues.new.Goals as goal

pub invariant_of-result : goal.invariant_of-result
invariant_of-result c = subst AreQueues (sym c.loop.invariant) (all_empty c.loop.counter)

pub returns : goal.returns
returns c =
    let all : c.loop.counter ≡ c.args.lanes = omega arith in
    ap (map items_of) c.loop.invariant ∙ (ap (λ n. map items_of (replicate n (buffer [] 8))) all ∙ empties c.args.lanes)
