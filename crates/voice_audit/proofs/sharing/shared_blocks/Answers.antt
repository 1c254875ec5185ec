use Rattle.std.proofs.Common.{◌≡◌, ◌&&◌, ◌||◌, List, ◌∷◌, Some, None, refl, sym, ◌∙◌, ap, arith}
use Rattle.std.specs.Prelude.{option_map}
use Rattle.std.specs.List.{list_any}
use Rattle.voice_units.specs.declared.Piece.{Piece}
use Rattle.voice_units.specs.Spots.{spots_of}
use Rattle.voice_units.specs.Blocks.{pairs_at, has_pair}
use Rattle.rope_table.specs.declared.ropes.Rope.{Rope}
use Rattle.rope_table.specs.Table.{pieces_at}
use Rattle.rope_table.proofs.Blocks.{has_pair-append}
use Rattle.checkpoint.specs.Blocks.{spots_in_ropes, above}
use Rattle.checkpoint.proofs.Above.{above_start, above_none, above_next}
use Rattle.voice_audit.specs.declared.sharing.BlockName.{BlockName}
use Rattle.voice_audit.specs.Sharing.{is_noted, is_shared, name_eq, name_of}
use Rattle.voice_audit.proofs.Noted.{noted_step, noted_none}
use Rattle.voice_audit.proofs.sharing.shared_blocks.Goals as goal

pub loop-id-init : goal.loop-id-init
loop-id-init c = record {
  most = omega arith;
  so_far = λ q.
      ap (λ b. b || (is_shared c.args.table.now q && has_pair (pairs_at c.args.table.now.block (spots_in_ropes (above 0 c.args.table.now.ropes))) q)) (ap (λ (names : List BlockName). list_any (name_eq (name_of q)) names) c.new-noted.ensures.empty)
      ∙ ap (λ (l : List Rope). is_shared c.args.table.now q && has_pair (pairs_at c.args.table.now.block (spots_in_ropes l)) q) (above_start c.args.table.now.ropes c.requires);
}

pub returns-in_default-get : goal.returns-in_default-get
returns-in_default-get c =
    let next = above_next c.loop-id.last c.in-Some.id c.args.table.now.ropes c.block-block.ensures.laws.rising (sym c.in-Some.ensures) in
    let none : None ≡ pieces_at c.args.table.now.ropes c.in-Some.id = c.in_default-get.ensures in
    let some : pieces_at c.args.table.now.ropes c.in-Some.id ≡ Some next.rope.pieces = ap (option_map (λ (rope : Rope). rope.pieces)) next.found in
    λ pair. cc

pub loop-id-smaller : goal.loop-id-smaller
loop-id-smaller c =
    let next = above_next c.loop-id.last c.in-Some.id c.args.table.now.ropes c.block-block.ensures.laws.rising (sym c.in-Some.ensures) in
    let higher = next.higher in
    omega (arith, higher, c.number-last.ensures.value, c.number-last.ensures.most)

pub loop-id-preserved : goal.loop-id-preserved
loop-id-preserved c =
    let table = c.args.table.now in
    let ropes = table.ropes in
    let block = table.block in
    let next = above_next c.loop-id.last c.in-Some.id ropes c.block-block.ensures.laws.rising (sym c.in-Some.ensures) in
    let some : Some c.in-Some-get.pieces.now ≡ Some next.rope.pieces = c.in-Some-get.ensures ∙ ap (option_map (λ (rope : Rope). rope.pieces)) next.found in
    let same : c.in-Some-get.pieces.now ≡ next.rope.pieces = cc in
    record {
      most = c.number-last.ensures.most;
      so_far = λ q.
          let was = is_noted c.loop-id.noted q in
          let now = is_noted c.note_pieces.new.noted q in
          let rest = has_pair (pairs_at block (spots_in_ropes (above c.in-Some.id ropes))) q in
          ap (λ n. now || (is_shared table q && has_pair (pairs_at block (spots_in_ropes (above n ropes))) q)) c.number-last.ensures.value
          ∙ noted_step (is_shared table q) was (has_pair (pairs_at block (spots_of next.rope.pieces)) q) rest (has_pair (pairs_at block (spots_in_ropes (next.rope ∷ above c.in-Some.id ropes))) q) now (now || (is_shared table q && rest))
          (c.in_ok-note_pieces.ensures q ∙ ap (λ (ps : List Piece). was || (is_shared table q && has_pair (pairs_at block (spots_of ps)) q)) same)
          refl
          (sym (has_pair-append block (spots_of next.rope.pieces) (spots_in_ropes (above c.in-Some.id ropes)) q))
          ∙ sym (ap (λ (l : List Rope). was || (is_shared table q && has_pair (pairs_at block (spots_in_ropes l)) q)) next.above)
          ∙ c.loop-id.invariant.so_far q;
    }

pub returns : goal.returns
returns c = λ q.
    noted_none (is_shared c.args.table.now q) (is_noted c.loop-id.noted q)
    ∙ sym (ap (λ (l : List Rope). is_noted c.loop-id.noted q || (is_shared c.args.table.now q && has_pair (pairs_at c.args.table.now.block (spots_in_ropes l)) q)) (above_none c.loop-id.last c.args.table.now.ropes (sym c.in_default.ensures)))
    ∙ c.loop-id.invariant.so_far q
