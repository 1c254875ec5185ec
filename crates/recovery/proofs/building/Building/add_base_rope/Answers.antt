use Rattle.std.proofs.Common.{◌≡◌, [], length, refl, sym, ◌∙◌, ap, arith, nat_lt}
use Rattle.std.specs.List.{list_all}
use Rattle.voice_units.specs.declared.shapes.Shape.{Shape}
use Rattle.voice_units.specs.Spots.{spots_of}
use Rattle.voice_units.specs.Blocks.{pairs_at}
use Rattle.voice_units.proofs.PiecesOfRopes.{pieces_of-spots_of, both}
use Rattle.voice_model.specs.Changes.{wait_of}
use Rattle.voice_model.specs.Replay.{has_place, may_be_rope}
use Rattle.rope_table.specs.Table as table
use Rattle.rope_table.specs.Table.{made_rope, rope_of, uses_at, pieces_in, unused, new_pairs}
use Rattle.recovery.proofs.BlocksUsed.{uses_few, are_rope}
use Rattle.recovery.proofs.Showing.{reserved_shown, used_shown, pieces_few}
use Rattle.recovery.proofs.Rebuilding.{orderly_rebuilt}
use Rattle.recovery.proofs.Noted.{few_new}
use Rattle.recovery.proofs.Based.{built_rope, above_tested, unknown_rope}
use Rattle.recovery.proofs.building.Building.add_base_rope.Goals as goal

pub from_normal-requires : goal.from_normal-requires
from_normal-requires c = are_rope c.args.pieces.items c.requires.grammar

pub add-requires-clause-unknown : goal.add-requires-clause-unknown
add-requires-clause-unknown c =
    let r = c.requires.building.what in
    let h = c.requires.building.builds in
    ap (λ l. rope_of l c.args.id) c.in_ok-reserve.ensures.ropes
    ∙ unknown_rope c.args.self.now r c.args.id h c.requires.number (above_tested r c.args.id c.args.idle c.args.pieces.items (sym (c.if-not-may_add_rope.ensures r h ∙ ap (may_be_rope r c.args.id c.args.idle) c.deref.ensures.value)))

pub add-requires-clause-pairs : goal.add-requires-clause-pairs
add-requires-clause-pairs c =
    let old = c.args.self.now in
    let r = c.requires.building.what in
    let h = c.requires.building.builds in
    let new = c.reserve.new.self in
    let pieces = c.args.pieces.items in
    let is : new_pairs new c.in_ok-rope.rope ≡ unused (uses_at new) (pairs_at r.shape.block (spots_of pieces)) =
    ap (λ ps. unused (uses_at new) (pairs_at new.block (spots_of ps))) c.in_ok-rope.ensures ∙ ap (λ n. unused (uses_at new) (pairs_at n (spots_of pieces))) (c.in_ok-reserve.ensures.block ∙ h.kept.block) in
    let few = few_new old.noted.items r.kept r.places (uses_at new) (pairs_at r.shape.block (spots_of pieces))
    (λ pair. ap (nat_lt 0) (c.in_ok-reserve.ensures.uses pair) ∙ used_shown r.kept old.parts.ropes old.parts.interests.rows old.parts.moment old.parts.next h.kept pair) h.known
    (both _ (list_all (has_place r.places) (pairs_at r.shape.block (spots_of pieces))) (sym (c.if-not-may_add_rope.ensures r h ∙ ap (may_be_rope r c.args.id c.args.idle) c.deref.ensures.value))).1 in
    let count : c.in_ok-most.most ≡ length old.noted.items = c.in_ok-most.ensures ∙ ap (λ l. length l) c.deref-2.ensures.value in
    let room = c.in_ok-reserve.ensures.spare_pairs in
    omega (arith, is, few, count, room)

pub add-requires-clause-fits : goal.add-requires-clause-fits
add-requires-clause-fits c = λ pair e.
    let old = c.args.self.now.parts.ropes in
    let uses = c.in_ok-reserve.ensures.uses pair ∙ c.requires.building.builds.kept.uses pair in
    let most = uses_few old.block (pieces_in old.ropes) pair in
    let count = pieces_few old.ropes in
    let ropes = c.count.ensures in
    let few = c.if-count-gt4294967293.false in
    omega (arith, uses, most, count, ropes, few)

pub returns-clause-done : goal.returns-clause-done
returns-clause-done c = λ r change h s e legal grammar acts.
    let old = c.args.self.now in
    let between = c.reserve.new.self in
    let pieces = c.args.pieces.items in
    let normal = (are_rope pieces c.requires.grammar).normal in
    let kept = reserved_shown [] r.kept old.parts.ropes between old.parts.interests.rows old.parts.moment old.parts.next h.kept c.in_ok-reserve.ensures.ropes c.in_ok-reserve.ensures.block c.in_ok-reserve.ensures.uses in
    built_rope old _ r change c.args.id c.args.idle c.args.last c.wait_after-wait.result c.args.pieces.items between h legal grammar acts (orderly_rebuilt r h.valid) c.requires.number
    (above_tested r c.args.id c.args.idle c.args.pieces.items (sym (c.if-not-may_add_rope.ensures r h ∙ ap (may_be_rope r c.args.id c.args.idle) c.deref.ensures.value)))
    (c.wait_after-wait.ensures ∙ ap (λ (shape : Shape). wait_of shape.graces c.args.last) (sym s)) kept
    (c.add.ensures.ropes ∙ ap (λ ps. table.with_rope (made_rope c.args.id ps c.args.idle c.args.last c.wait_after-wait.result) between.ropes) (c.in_ok-rope.ensures ∙ sym (pieces_of-spots_of pieces normal)))
    c.add.ensures.block (c.add.ensures.counts [] kept.uses) refl refl refl refl refl refl refl
