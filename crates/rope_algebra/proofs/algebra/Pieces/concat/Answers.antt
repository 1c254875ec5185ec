use Rattle.std.proofs.Common.{subst, ◌≡◌, ◌+◌, ◌++◌, ◌∙◌, ap, arith}
use Rattle.std.specs.Prelude.{IfOk}
use Rattle.voice_units.specs.Spots.{spots_of, slice, samples_in}
use Rattle.rope_algebra.proofs.Joins.{Names, first_part, next_part, both_whole, are_pieces_of, are_counted, length_of_both}
use Rattle.rope_algebra.proofs.algebra.Pieces.concat.Goals as goal
use Rattle.rope_algebra.proofs.algebra.Pieces.concat.Goals.{In_ok-join_slice-2}

own : (c : In_ok-join_slice-2) → c.self.inside.length ≡ samples_in c.args.self.now
own c = c.self.invariant.total ∙ ap samples_in c.self.view_is

others : (c : In_ok-join_slice-2) → c.other.inside.length ≡ samples_in c.args.other.now
others c = c.other.invariant.total ∙ ap samples_in c.other.view_is

names : (c : In_ok-join_slice-2) → Names c.join_slice-2.new.pieces.items (spots_of c.args.self.now ++ spots_of c.args.other.now)
names c =
    both_whole c.join_slice-2.new.pieces.items c.args.self.now c.args.other.now c.self.inside.length c.other.inside.length (own c) (others c)
    (next_part c.join_slice.new.pieces.items c.join_slice-2.new.pieces.items c.deref-2.result.now c.args.other.now (slice (spots_of c.args.self.now) 0 c.self.inside.length) 0 c.other.inside.length
    (first_part c.in_ok-pieces.pieces.items c.join_slice.new.pieces.items c.deref.result.now c.args.self.now 0 c.self.inside.length c.in_ok-pieces.ensures (c.deref.ensures.value ∙ c.self.view_is) c.in_ok-join_slice.ensures)
    (c.deref-2.ensures.value ∙ c.other.view_is) c.in_ok-join_slice-2.ensures)

pub placed-requires : goal.placed-requires
placed-requires c =
    are_counted c.join_slice-2.new.pieces.items (spots_of c.args.self.now ++ spots_of c.args.other.now) (c.self.inside.length + c.other.inside.length) (names c)
    (length_of_both c.args.self.now c.args.other.now c.self.inside.length c.other.inside.length (own c) (others c)) (let a = own c in let b = others c in omega (arith, a, b, c.requires))

pub returns : goal.returns
returns c = subst (λ ps. IfOk c.placed.result (λ rope. rope ≡ ps)) (are_pieces_of c.join_slice-2.new.pieces.items (spots_of c.args.self.now ++ spots_of c.args.other.now) (names (goal.at.returns c).In_ok-join_slice-2)) c.placed.ensures
