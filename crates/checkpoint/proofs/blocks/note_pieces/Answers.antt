use Rattle.std.proofs.Common.{◌≡◌, ◌<◌, length, ◌||◌, take, Some, true, false, Bool, refl, ap, sym, ◌∙◌, arith}
use Rattle.std.specs.Prelude.{slice_get}
use Rattle.voice_units.specs.Spots.{spots_of, spots_in}
use Rattle.voice_units.specs.Blocks.{pairs_at, has_pair, same_pair, in_run}
use Rattle.rope_table.specs.Table.{pair_of}
use Rattle.rope_table.proofs.Blocks.{no_run, run_more, front_more, ends_in_file, at_get}
use Rattle.checkpoint.specs.Blocks.{is_noted}
use Rattle.checkpoint.proofs.blocks.note_pieces.Goals as goal

pub blocks-blocks-requires-clause-fits : goal.blocks-blocks-requires-clause-fits
blocks-blocks-requires-clause-fits c =
    let end = ends_in_file c.args.pieces.now c.loop-k.k c.in-Some.piece c.length-length.ensures.rope.ends (sym c.piece.ensures ∙ c.in-Some.is) in
    omega (arith, end, c.requires)

pub loop-index-init : goal.loop-index-init
loop-index-init c = λ q. c.loop-k.invariant q ∙ sym (no_run c.in-Some.piece.file c.blocks-blocks.result.start q (is_noted c.args.noted.now q || has_pair (pairs_at c.args.block (spots_of (take c.loop-k.k c.args.pieces.now))) q))

pub loop-index-preserved : goal.loop-index-preserved
loop-index-preserved c = λ q.
    c.in_ok-note.ensures q
    ∙ ap (λ b. b || same_pair (pair_of c.in-Some.piece.file c.loop-index.index) q) (c.loop-index.invariant q)
    ∙ run_more c.in-Some.piece.file c.blocks-blocks.result.start c.loop-index.index q (is_noted c.args.noted.now q || has_pair (pairs_at c.args.block (spots_of (take c.loop-k.k c.args.pieces.now))) q) c.loop-index.auto.index

or_assoc : (a b c : Bool) → ((a || b) || c) ≡ (a || (b || c))
or_assoc true b c = refl
or_assoc false b c = refl

pub loop-k-preserved : goal.loop-k-preserved
loop-k-preserved c =
    let ps = c.args.pieces.now in
    let piece = c.in-Some.piece in
    let run = c.blocks-blocks.result in
    let at : slice_get ps c.loop-k.k ≡ Some piece = sym c.piece.ensures ∙ c.in-Some.is in
    let end : c.loop-index.index ≡ run.end = omega (arith, c.blocks-blocks.ensures.ordered, c.loop-index-test.false, c.loop-index.auto) in
    let within : c.loop-k.k < length ps = omega (arith, c.loop-k-test.true, c.count-k-end.ensures) in
    λ q.
    let was = is_noted c.args.noted.now q in
    let front = has_pair (pairs_at c.args.block (spots_of (take c.loop-k.k ps))) q in
    c.loop-index.invariant q
    ∙ ap (λ n. (was || front) || in_run piece.file run.start n q) end
    ∙ ap (λ b. (was || front) || b) (sym (c.blocks-blocks.ensures.blocks q))
    ∙ or_assoc was front (has_pair (pairs_at c.args.block (spots_in piece)) q)
    ∙ ap (λ b. was || b) (front_more c.args.block c.loop-k.k ps piece q within (at_get ps c.loop-k.k piece at))
