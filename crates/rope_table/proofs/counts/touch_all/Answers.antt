use Rattle.std.proofs.Common.{◌≡◌, ◌^◌, ◌<◌, length, ◌+◌, ◌||◌, take, true, false, sym, ◌∙◌, arith}
use Rattle.voice_units.specs.Spots.{spots_of}
use Rattle.voice_units.specs.Blocks.{pairs_at, has_pair, in_run}
use Rattle.rope_table.specs.Table.{pair_of}
use Rattle.rope_table.specs.Inside.{goes_apart}
use Rattle.rope_table.proofs.Apart.{unmet}
use Rattle.rope_table.proofs.Blocks.{meets, no_run, run_more, blocks_fit, piece_met}
use Rattle.rope_table.proofs.Passes.{room_for, fits_in, there, one_met, same_test}
use Rattle.rope_table.proofs.counts.touch_all.Goals as goal

pub blocks-blocks-requires-clause-fits : goal.blocks-blocks-requires-clause-fits
blocks-blocks-requires-clause-fits c = blocks_fit c.args.block c.loop-k.k c.args.pieces.now c.in-Some.piece c.requires.some c.length-length.ensures.rope.ends (sym c.piece.ensures ∙ c.in-Some.is)

pub loop-index-init : goal.loop-index-init
loop-index-init c =
    same_test c.args.live c.args.pass c.args.tally.now c.loop-k.tally _ _ _ (λ q. sym (no_run c.in-Some.piece.file c.blocks-blocks.result.start q _)) c.loop-k.invariant

-- where no block comes twice, this one was not met
fresh : (c : goal.After-touch-arg-1) → goes_apart c.args.pass ≡ true → (has_pair (pairs_at c.args.block (spots_of (take c.loop-k.k c.args.pieces.now))) (pair_of c.in-Some.piece.file c.loop-index.index) || in_run c.in-Some.piece.file c.blocks-blocks.result.start c.loop-index.index (pair_of c.in-Some.piece.file c.loop-index.index)) ≡ false
fresh c apart = unmet c.args.block c.loop-k.k c.args.pieces.now c.in-Some.piece c.blocks-blocks.result.start c.loop-index.index c.blocks-blocks.result.end (c.requires.apart apart) (sym c.piece.ensures ∙ c.in-Some.is) c.blocks-blocks.ensures.blocks c.loop-index.auto.index c.loop-index-test.true

met : (c : goal.After-touch-arg-1) → has_pair (pairs_at c.args.block (spots_of c.args.pieces.now)) (pair_of c.in-Some.piece.file c.loop-index.index) ≡ true
met c = meets c.args.block c.loop-k.k c.loop-index.index c.blocks-blocks.result.start c.blocks-blocks.result.end c.args.pieces.now c.in-Some.piece (sym c.piece.ensures ∙ c.in-Some.is) c.blocks-blocks.ensures.blocks c.loop-index.auto.index c.loop-index-test.true

pub touch-requires-clause-room : goal.touch-requires-clause-room
touch-requires-clause-room c = room_for c.args.live c.args.pass c.args.tally.now c.loop-index.tally _ _ (pair_of c.in-Some.piece.file c.loop-index.index) c.loop-index.invariant c.requires.room (met c)

pub touch-requires-clause-fits : goal.touch-requires-clause-fits
touch-requires-clause-fits c = fits_in c.args.live (λ count. count.uses + 1 < 2 ^ 32) c.args.pass c.args.tally.now c.loop-index.tally _ _ (pair_of c.in-Some.piece.file c.loop-index.index) c.loop-index.invariant (fresh c) c.requires.fits (met c)

pub touch-requires-clause-live_fits : goal.touch-requires-clause-live_fits
touch-requires-clause-live_fits c = fits_in c.args.live (λ count. count.live + 1 < 2 ^ 32) c.args.pass c.args.tally.now c.loop-index.tally _ _ (pair_of c.in-Some.piece.file c.loop-index.index) c.loop-index.invariant (fresh c) c.requires.live_fits (met c)

pub touch-requires-clause-there : goal.touch-requires-clause-there
touch-requires-clause-there c = there c.args.live c.args.pass c.args.tally.now c.loop-index.tally _ _ (pair_of c.in-Some.piece.file c.loop-index.index) c.loop-index.invariant (fresh c) c.requires.there (met c)

met_now : (c : goal.After-touch) → has_pair (pairs_at c.args.block (spots_of c.args.pieces.now)) (pair_of c.in-Some.piece.file c.loop-index.index) ≡ true
met_now c = meets c.args.block c.loop-k.k c.loop-index.index c.blocks-blocks.result.start c.blocks-blocks.result.end c.args.pieces.now c.in-Some.piece (sym c.piece.ensures ∙ c.in-Some.is) c.blocks-blocks.ensures.blocks c.loop-index.auto.index c.loop-index-test.true

fresh_now : (c : goal.After-touch) → goes_apart c.args.pass ≡ true → (has_pair (pairs_at c.args.block (spots_of (take c.loop-k.k c.args.pieces.now))) (pair_of c.in-Some.piece.file c.loop-index.index) || in_run c.in-Some.piece.file c.blocks-blocks.result.start c.loop-index.index (pair_of c.in-Some.piece.file c.loop-index.index)) ≡ false
fresh_now c apart = unmet c.args.block c.loop-k.k c.args.pieces.now c.in-Some.piece c.blocks-blocks.result.start c.loop-index.index c.blocks-blocks.result.end (c.requires.apart apart) (sym c.piece.ensures ∙ c.in-Some.is) c.blocks-blocks.ensures.blocks c.loop-index.auto.index c.loop-index-test.true

pub loop-index-preserved : goal.loop-index-preserved
loop-index-preserved c =
    let first = c.blocks-blocks.result.start in
    let front = has_pair (pairs_at c.args.block (spots_of (take c.loop-k.k c.args.pieces.now))) in
    one_met c.args.live c.args.pass c.args.tally.now c.loop-index.tally c.touch.new.tally (pairs_at c.args.block (spots_of c.args.pieces.now))
    (λ q. front q || in_run c.in-Some.piece.file first c.loop-index.index q) (λ q. front q || in_run c.in-Some.piece.file first (c.loop-index.index + 1) q)
    (pair_of c.in-Some.piece.file c.loop-index.index) c.loop-index.invariant (fresh_now c) (met_now c) c.touch.ensures.counts c.touch.ensures.entered c.touch.ensures.spare
    (λ q. run_more c.in-Some.piece.file first c.loop-index.index q (front q) c.loop-index.auto.index)

pub loop-k-preserved : goal.loop-k-preserved
loop-k-preserved c =
    let ps = c.args.pieces.now in
    let last : c.loop-index.index ≡ c.blocks-blocks.result.end = omega (arith, c.blocks-blocks.ensures.ordered, c.loop-index-test.false, c.loop-index.auto) in
    let within : c.loop-k.k < length ps = omega (arith, c.loop-k-test.true, c.count-k-end.ensures) in
    same_test c.args.live c.args.pass c.args.tally.now c.loop-index.tally _ _ _
    (λ q. piece_met c.args.block c.loop-k.k c.blocks-blocks.result.start c.loop-index.index c.blocks-blocks.result.end ps c.in-Some.piece q within (sym c.piece.ensures ∙ c.in-Some.is) c.blocks-blocks.ensures.blocks last) c.loop-index.invariant
