use Rattle.std.proofs.Common.{subst, ◌≡◌, ◌+◌, ◌-◌, ◌++◌, ◌∙◌, ap, refl, arith}
use Rattle.std.specs.Prelude.{IfOk}
use Rattle.voice_units.specs.Spots.{spots_of, slice, replaced, samples_in}
use Rattle.rope_algebra.proofs.Joins.{Names, first_part, next_part, as_replaced, are_pieces_of, are_counted, length_of_replaced}
use Rattle.rope_algebra.proofs.algebra.Pieces.replace.Goals as goal
use Rattle.rope_algebra.proofs.algebra.Pieces.replace.Goals.{In_ok-join_slice-3}

pub overflow_add-end : goal.overflow_add-end
overflow_add-end c =
    let all = c.self.invariant.total ∙ ap samples_in c.self.view_is in
    omega (arith, all, c.self.invariant.fits, c.requires.interval)

own : (c : In_ok-join_slice-3) → c.self.inside.length ≡ samples_in c.args.self.now
own c = c.self.invariant.total ∙ ap samples_in c.self.view_is

others : (c : In_ok-join_slice-3) → c.with.inside.length ≡ samples_in c.args.with.now
others c = c.with.invariant.total ∙ ap samples_in c.with.view_is

names : (c : In_ok-join_slice-3) → Names c.join_slice-3.new.pieces.items (replaced (spots_of c.args.self.now) c.args.start c.args.len (spots_of c.args.with.now))
names c =
    let end = c.args.start + c.args.len in
    let own_length = c.self.inside.length in
    let other_length = c.with.inside.length in
    as_replaced c.join_slice-3.new.pieces.items c.args.self.now c.args.with.now own_length other_length c.args.start c.args.len end (own c) (others c) refl
    (next_part c.join_slice-2.new.pieces.items c.join_slice-3.new.pieces.items c.deref-3.result.now c.args.self.now (slice (spots_of c.args.self.now) 0 c.args.start ++ slice (spots_of c.args.with.now) 0 other_length) end (own_length - end)
    (next_part c.join_slice.new.pieces.items c.join_slice-2.new.pieces.items c.deref-2.result.now c.args.with.now (slice (spots_of c.args.self.now) 0 c.args.start) 0 other_length
    (first_part c.in_ok-pieces.pieces.items c.join_slice.new.pieces.items c.deref.result.now c.args.self.now 0 c.args.start c.in_ok-pieces.ensures (c.deref.ensures.value ∙ c.self.view_is) c.in_ok-join_slice.ensures)
    (c.deref-2.ensures.value ∙ c.with.view_is) c.in_ok-join_slice-2.ensures)
    (c.deref-3.ensures.value ∙ c.self.view_is) c.in_ok-join_slice-3.ensures)

pub placed-requires : goal.placed-requires
placed-requires c =
    let a = own c in
    let b = others c in
    are_counted c.join_slice-3.new.pieces.items (replaced (spots_of c.args.self.now) c.args.start c.args.len (spots_of c.args.with.now)) (c.self.inside.length - c.args.len + c.with.inside.length) (names c)
    (length_of_replaced c.args.self.now c.args.with.now c.self.inside.length c.with.inside.length c.args.start c.args.len a b (omega (arith, a, c.requires.interval))) (omega (arith, a, b, c.requires.most))

pub returns : goal.returns
returns c = subst (λ ps. IfOk c.placed.result (λ rope. rope ≡ ps)) (are_pieces_of c.join_slice-3.new.pieces.items (replaced (spots_of c.args.self.now) c.args.start c.args.len (spots_of c.args.with.now)) (names (goal.at.returns c).In_ok-join_slice-3)) c.placed.ensures
