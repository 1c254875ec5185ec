use Rattle.std.proofs.Common.{◌≡◌, ℕ, ◌≤◌, ◌==◌, ◌&&◌, true, false, [], length, refl, sym, ◌∙◌, ap, subst, arith}
use Rattle.voice_units.specs.declared.shapes.Shape.{Shape}
use Rattle.voice_units.specs.Spots.{spots_of, spots_from, nowhere}
use Rattle.voice_units.specs.Blocks.{pairs_at, blocks_for}
use Rattle.voice_units.proofs.PiecesOfRopes.{spots_of-runs}
use Rattle.voice_model.specs.Replay.{placed_from, all_differ}
use Rattle.std.specs.List.{list_all}
use Rattle.voice_blocks.specs.Holders.{Holders, holder_at, without_owner}
use Rattle.voice_blocks.specs.declared.owner.Owner.TheVariants.{File}
use Rattle.rope_table.specs.Table.{uses_at, pieces_in, unused, new_pairs, rope_of}
use Rattle.recovery.specs.Shown.{placed_at}
use Rattle.recovery.specs.Placing.{or_else, is_open}
use Rattle.recovery.proofs.BlocksUsed.{uses_few}
use Rattle.recovery.proofs.Recordings.{not_known, legal_recording, placed_append, few_fresh}
use Rattle.recovery.proofs.Showing.{reserved_shown, fresh_shown, pieces_few}
use Rattle.recovery.proofs.Rebuilding.{orderly_rebuilt}
use Rattle.recovery.proofs.parts.Parts.record.Goals as goal

same_holders : (old new : Holders) (id : ℕ) → new ≡ old → ((a : ℕ) → without_owner (File id) (holder_at old a) ≡ holder_at old a) → (a : ℕ) → without_owner (File id) (holder_at new a) ≡ holder_at new a
same_holders old new id e h a = subst (λ (l : Holders). without_owner (File id) (holder_at l a) ≡ holder_at l a) (sym e) (h a)

pub place_all-requires-clause-none : goal.place_all-requires-clause-none
place_all-requires-clause-none c =
    let r = c.requires.parts.what in
    let h = c.requires.parts.shows in
    let later : r.next ≤ c.args.id = let a = c.if-number-self.false in let b = c.number.ensures.value in let n = h.kept.next in omega (arith, a, b, n) in
    same_holders c.args.self.now.blocks.holders c.reserve-2.new.self.holders c.args.id c.in_ok-reserve-2.ensures.holders
    (λ a. subst (λ o. without_owner (File c.args.id) o ≡ o) (sym (h.places.each a)) (not_known c.args.id r.next r.shape.blocks r.places later h.placed.ranges a))

pub returns-then-not-place_all-clause-legal : goal.returns-then-not-place_all-clause-legal
returns-then-not-place_all-clause-legal c = λ r h s.
    let later : c.args.self.now.next ≤ c.args.id = let a = c.if-number-self.false in let b = c.number.ensures.value in omega (arith, a, b) in
    let count : length c.args.addresses.now ≡ blocks_for r.shape.block c.args.len = c.if-addresses-blocks_needed.false ∙ c.blocks_needed.ensures ∙ ap (λ (shape : Shape). blocks_for shape.block c.args.len) (sym s) in
    legal_recording c.args.self.now r c.args.id c.args.len c.args.addresses.now false h later count (c.if-not-place_all.ensures.exact ∙ ap (λ l. all_differ c.args.addresses.now && list_all (is_open l) c.args.addresses.now) c.in_ok-reserve-2.ensures.holders)

pub add_rope-requires-clause-unknown : goal.add_rope-requires-clause-unknown
add_rope-requires-clause-unknown c =
    let old = c.args.self.now in
    let h = c.requires.parts.shows in
    let later : c.requires.parts.what.next ≤ c.args.id = let a = c.if-number-self.false in let b = c.number.ensures.value in let n = h.kept.next in omega (arith, a, b, n) in
    ap (λ l. rope_of l c.args.id) c.in_ok-reserve.ensures.ropes
    ∙ fresh_shown [] c.requires.parts.what.form c.requires.parts.what.kept old.ropes old.interests.rows old.moment old.next c.args.id h.kept (orderly_rebuilt c.requires.parts.what h.valid) later

pub add_rope-requires-clause-pairs : goal.add_rope-requires-clause-pairs
add_rope-requires-clause-pairs c =
    let new = c.reserve.new.self in
    let spots : spots_of c.in_ok-rope.rope ≡ spots_from c.args.id 0 c.args.len = ap spots_of c.in_ok-rope.ensures ∙ spots_of-runs nowhere (spots_from c.args.id 0 c.args.len) in
    let is : new_pairs new c.in_ok-rope.rope ≡ unused (uses_at new) (pairs_at new.block (spots_from c.args.id 0 c.args.len)) = ap (λ ss. unused (uses_at new) (pairs_at new.block ss)) spots in
    let same : new.block ≡ c.args.shape.now.block = c.in_ok-reserve.ensures.block ∙ c.requires.parts.shows.kept.block ∙ ap (λ (shape : Shape). shape.block) c.requires.parts.in_shape in
    let some : 1 ≤ new.block = let least = c.args.shape.now.conditions.some_block in omega (arith, same, least) in
    let most = few_fresh (λ pair. uses_at new pair == 0) new.block c.args.id c.args.len some in
    let count : length c.args.addresses.now ≡ blocks_for new.block c.args.len = c.if-addresses-blocks_needed.false ∙ c.blocks_needed.ensures ∙ ap (λ n. blocks_for n c.args.len) (sym same) in
    let room = c.in_ok-reserve.ensures.spare_pairs in
    omega (arith, is, most, count, room)

pub add_rope-requires-clause-fits : goal.add_rope-requires-clause-fits
add_rope-requires-clause-fits c = λ pair e.
    let old = c.args.self.now.ropes in
    let uses = c.in_ok-reserve.ensures.uses pair ∙ c.requires.parts.shows.kept.uses pair in
    let most = uses_few old.block (pieces_in old.ropes) pair in
    let count = pieces_few old.ropes in
    let few = c.requires.few in
    omega (arith, uses, most, count, few)

pub returns-clause-legal : goal.returns-clause-legal
returns-clause-legal c = λ r h s.
    let later : c.args.self.now.next ≤ c.args.id = let a = c.if-number-self.false in let b = c.number.ensures.value in omega (arith, a, b) in
    let count : length c.args.addresses.now ≡ blocks_for r.shape.block c.args.len = c.if-addresses-blocks_needed.false ∙ c.blocks_needed.ensures ∙ ap (λ (shape : Shape). blocks_for shape.block c.args.len) (sym s) in
    legal_recording c.args.self.now r c.args.id c.args.len c.args.addresses.now true h later count (c.if-not-place_all.ensures.exact ∙ ap (λ l. all_differ c.args.addresses.now && list_all (is_open l) c.args.addresses.now) c.in_ok-reserve-2.ensures.holders)

pub returns-clause-done : goal.returns-clause-done
returns-clause-done c = λ r h s e.
    let old = c.args.self.now in
    let next = h.kept.next in
    let later : r.next ≤ c.args.id = let a = c.if-number-self.false in let b = c.number.ensures.value in omega (arith, a, b, next) in (
      c.add_rope.ensures.shows [] r.form r.kept (spots_from c.args.id 0 c.args.len)
          (reserved_shown [] r.kept old.ropes c.reserve.new.self old.interests.rows old.moment old.next h.kept c.in_ok-reserve.ensures.ropes c.in_ok-reserve.ensures.block c.in_ok-reserve.ensures.uses)
          (orderly_rebuilt r h.valid) later c.in_ok-rope.ensures (ap (λ (shape : Shape). shape.graces.common) (sym s)),
      record {
        size = ap (λ b. length b.holders) c.add_rope.ensures.blocks ∙ c.if-not-place_all.ensures.size ∙ ap length c.in_ok-reserve-2.ensures.holders ∙ h.places.size;
        each = λ a.
            ap (λ b. holder_at b.holders a) c.add_rope.ensures.blocks ∙ c.if-not-place_all.ensures.done refl a
            ∙ ap (λ o. or_else o (placed_at (placed_from c.args.id 0 c.args.addresses.now) a)) (ap (λ l. holder_at l a) c.in_ok-reserve-2.ensures.holders ∙ h.places.each a)
            ∙ sym (placed_append r.places (placed_from c.args.id 0 c.args.addresses.now) a);
      },
    )
