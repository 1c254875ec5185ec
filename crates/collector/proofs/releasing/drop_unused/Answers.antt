use Rattle.std.proofs.Common.{◌≡◌, ◌<◌, length, ◌+◌, ◌-◌, ◌/◌, ◌||◌, cond, take, Some, ap, sym, ◌∙◌, arith}
use Rattle.std.proofs.lemmas.Bool.{ne_eqb}
use Rattle.std.specs.Prelude.{slice_get}
use Rattle.std.proofs.lemmas.List.{take_all}
use Rattle.voice_units.specs.Spots.{spots_of, stretches}
use Rattle.voice_units.specs.Blocks.{pairs_at, has_pair, same_pair, in_run}
use Rattle.rope_table.specs.Table.{pair_of, uses_at}
use Rattle.rope_table.proofs.Blocks.{no_run, run_more, front_more, some_samples, ends_in_file, at_get}
use Rattle.collector.proofs.Released.{both_freed, same_becomes}
use Rattle.collector.proofs.Stretched.{spans, spans_more, spans_stretches}
use Rattle.collector.proofs.releasing.drop_unused.Goals as goal

pub blocks-indexes-requires-clause-fits : goal.blocks-indexes-requires-clause-fits
blocks-indexes-requires-clause-fits g c =
    let end = ends_in_file c.args.pieces.now c.loop-k.k c.in-Some.piece c.length-length.ensures.rope.ends (sym c.piece.ensures ∙ c.in-Some.is) in
    omega (arith, end, c.block-block.ensures.laws.least, c.block-block.ensures.value)

pub loop-index-init : goal.loop-index-init
loop-index-init g c =
    let front = has_pair (pairs_at c.block-block.result (spots_of (take c.loop-k.k c.args.pieces.now))) in
    let first = c.blocks-indexes.result.start in
    record {
      holders = same_becomes front (λ q. front q || in_run c.in-Some.piece.file first first q) (uses_at c.args.table.now) _ _ (λ q. sym (no_run c.in-Some.piece.file first q (front q))) c.loop-k.invariant.holders;
      spare = c.loop-k.invariant.spare;
      steps = omega (arith, c.loop-k.invariant.steps);
    }

pub loop-index-preserved : goal.loop-index-preserved
loop-index-preserved g c =
    let first = c.blocks-indexes.result.start in
    let front = has_pair (pairs_at c.block-block.result (spots_of (take c.loop-k.k c.args.pieces.now))) in
    record {
      holders = both_freed (λ q. front q || in_run c.in-Some.piece.file first c.loop-index.index q) (same_pair (pair_of c.in-Some.piece.file c.loop-index.index)) (λ q. front q || in_run c.in-Some.piece.file first (c.loop-index.index + 1) q) (uses_at c.args.table.now) _ _ _
          (λ q. run_more c.in-Some.piece.file first c.loop-index.index q (front q) c.loop-index.auto.index) c.loop-index.invariant.holders c.drop_if_unused.ensures.holders;
      spare = c.drop_if_unused.ensures.spare ∙ c.loop-index.invariant.spare;
      steps = omega (arith, c.loop-index.invariant.steps, c.tick.ensures, c.loop-index.auto.index);
    }

pub loop-k-preserved : goal.loop-k-preserved
loop-k-preserved g c =
    let ps = c.args.pieces.now in
    let piece = c.in-Some.piece in
    let block = c.block-block.result in
    let run = c.blocks-indexes.result in
    let at : slice_get ps c.loop-k.k ≡ Some piece = sym c.piece.ensures ∙ c.in-Some.is in
    let long = some_samples ps c.loop-k.k piece c.length-length.ensures.rope.normal at in
    let end : c.loop-index.index ≡ run.end = omega (arith, c.blocks-indexes.ensures.ordered, c.loop-index-test.false, c.loop-index.auto) in
    let within : c.loop-k.k < length ps = omega (arith, c.loop-k-test.true, c.count-k-end.ensures) in
    let last : run.end ≡ (piece.from + piece.len - 1) / block + 1 = c.blocks-indexes.ensures.end ∙ ap (λ b. cond b (piece.from / block) ((piece.from + piece.len - 1) / block + 1)) (ne_eqb piece.len 0 (λ none. omega (arith, none, long))) in
    let more = spans_more block ps c.loop-k.k piece within (at_get ps c.loop-k.k piece at) in
    record {
      holders = same_becomes (λ q. has_pair (pairs_at block (spots_of (take c.loop-k.k ps))) q || in_run piece.file run.start c.loop-index.index q) (has_pair (pairs_at block (spots_of (take (c.loop-k.k + 1) ps)))) (uses_at c.args.table.now) _ _
          (λ q. ap (λ n. has_pair (pairs_at block (spots_of (take c.loop-k.k ps))) q || in_run piece.file run.start n q) end
          ∙ ap (λ b. has_pair (pairs_at block (spots_of (take c.loop-k.k ps))) q || b) (sym (c.blocks-indexes.ensures.blocks q))
          ∙ front_more block c.loop-k.k ps piece q within (at_get ps c.loop-k.k piece at)) c.loop-index.invariant.holders;
      spare = c.loop-index.invariant.spare;
      steps = omega (arith, more, c.loop-index.invariant.steps, end, last, c.blocks-indexes.ensures.start, c.blocks-indexes.ensures.ordered);
    }

pub returns-clause-steps : goal.returns-clause-steps
returns-clause-steps g c =
    let ps = c.args.pieces.now in
    let some : 0 < c.block-block.result = omega (arith, c.block-block.ensures.value, c.block-block.ensures.laws.least) in
    let all = ap (spans c.block-block.result) (take_all c.loop-k.k ps (omega (arith, c.loop-k-test.false, c.count-k-end.ensures))) in
    let same = spans_stretches c.block-block.result ps some c.length-length.ensures.rope.normal in
    let block = ap (λ n. length (stretches n (spots_of ps))) c.block-block.ensures.value in
    omega (arith, c.loop-k.invariant.steps, all, same, block)
