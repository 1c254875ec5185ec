use Rattle.std.proofs.Common.{◌≡◌, subst, ◌∙◌, ap, take, arith}
use Rattle.std.specs.Prelude.{IfOk}
use Rattle.voice_units.specs.Spots.{spots_of, slice}
use Rattle.rope_algebra.proofs.Joins.{Names, from_nothing, are_pieces_of, are_counted, length_of_slice}
use Rattle.rope_algebra.proofs.algebra.Pieces.slice.Goals as goal
use Rattle.rope_algebra.proofs.algebra.Pieces.slice.Goals.{In_ok-join_slice}

names : (c : In_ok-join_slice) → Names c.join_slice.new.pieces.items (slice (spots_of c.args.self.now) c.args.start c.args.len)
names c =
    let rest = c.rest_at-rest in
    subst (Names c.join_slice.new.pieces.items)
    (ap (take c.args.len) rest.ensures.spots ∙ ap (λ l. slice (spots_of l) c.args.start c.args.len) (c.deref.ensures.value ∙ c.self.view_is))
    (from_nothing c.in_ok-pieces.pieces.items c.join_slice.new.pieces.items (slice (spots_of rest.result.pieces.now) rest.result.skip c.args.len) c.in_ok-pieces.ensures c.in_ok-join_slice.ensures)

pub placed-requires : goal.placed-requires
placed-requires c =
    are_counted c.join_slice.new.pieces.items (slice (spots_of c.args.self.now) c.args.start c.args.len) c.args.len (names c) (length_of_slice c.args.self.now c.args.start c.args.len c.requires.interval) (omega arith)

pub returns : goal.returns
returns c = subst (λ ps. IfOk c.placed.result (λ rope. rope ≡ ps)) (are_pieces_of c.join_slice.new.pieces.items (slice (spots_of c.args.self.now) c.args.start c.args.len) (names (goal.at.returns c).In_ok-join_slice)) c.placed.ensures
