use Rattle.std.proofs.Common.{◌≡◌, true, false, ◌∙◌, ap, sym, arith}
use Rattle.voice_units.specs.Spots.{spots_in}
use Rattle.voice_units.specs.Blocks.{pairs_at, has_pair, in_run}
use Rattle.voice_model.specs.Replay.{has_place}
use Rattle.rope_table.specs.Table.{pair_of}
use Rattle.rope_table.proofs.Blocks.{in_its_run, all_pass, one_fails}
use Rattle.recovery.proofs.BlocksUsed.{none_in_run, in_longer_run}
use Rattle.recovery.proofs.PlacesHeld.{address_tells}
use Rattle.recovery.proofs.bases.is_piece_placed.Goals as goal

pub returns-then-is_none : goal.returns-then-is_none
returns-then-is_none c = λ places h.
    let piece = c.args.piece.now in
    let run = c.blocks-indexes.result in
    let p = pair_of piece.file c.loop-index.index in
    let none : has_place places p ≡ false = address_tells c.args.blocks.now.holders places p c.address.result h c.address.ensures ∙ c.if-is_none.ensures in
    let has : has_pair (pairs_at c.args.block (spots_in piece)) p ≡ true = c.blocks-indexes.ensures.blocks p ∙ in_its_run piece.file run.start c.loop-index.index run.end c.loop-index.auto.index c.loop-index-test.true in
    sym (one_fails (has_place places) (pairs_at c.args.block (spots_in piece)) p has none)

pub loop-index-init : goal.loop-index-init
loop-index-init c = λ places h q e. absurd (none_in_run c.args.piece.now.file c.blocks-indexes.result.start q e)

pub loop-index-preserved : goal.loop-index-preserved
loop-index-preserved c = λ places h q e.
    let piece = c.args.piece.now in
    in_longer_run piece.file c.blocks-indexes.result.start c.loop-index.index q c.loop-index.auto.index e
    (λ within. c.loop-index.invariant places h q within)
    (λ last. sym (ap (has_place places) last) ∙ address_tells c.args.blocks.now.holders places (pair_of piece.file c.loop-index.index) c.address.result h c.address.ensures ∙ c.if-is_none.ensures)

pub returns : goal.returns
returns c = λ places h.
    let piece = c.args.piece.now in
    let run = c.blocks-indexes.result in
    let end : c.loop-index.index ≡ run.end = omega (arith, c.blocks-indexes.ensures.ordered, c.loop-index-test.false, c.loop-index.auto) in
    sym (all_pass (has_place places) (pairs_at c.args.block (spots_in piece)) (λ q has. c.loop-index.invariant places h q (ap (λ n. in_run piece.file run.start n q) end ∙ sym (c.blocks-indexes.ensures.blocks q) ∙ has)))

pub blocks-indexes-requires-clause-fits : goal.blocks-indexes-requires-clause-fits
blocks-indexes-requires-clause-fits c = omega arith
