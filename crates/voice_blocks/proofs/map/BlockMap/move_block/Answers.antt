use Rattle.std.proofs.Common.{◌≡◌, ◌≤◌, ◌<◌, ◌-◌, ◌^◌, ℕ, Option, Some, cond, arith, ap, ◌∙◌, sym}
use Rattle.std.specs.HashMap.{get, spare}
use Rattle.voice_blocks.specs.declared.owner.Holder.{Holder}
use Rattle.voice_blocks.specs.declared.owner.Owner.{Owner}
use Rattle.voice_blocks.specs.Holders.{holder_at, block_of}
use Rattle.voice_blocks.specs.Sound.{place_in, end_in, owner_eq, holder_eq}
use Rattle.voice_blocks.proofs.SoundLemmas.{ok_part, raised, raised_own, raised_fits, owner_is, taking-le, held-within}
use Rattle.voice_blocks.proofs.MoveLemmas.{moved}
use Rattle.voice_blocks.proofs.map.BlockMap.move_block.Goals as goal

pub overflow_sub-self : goal.overflow_sub-self
overflow_sub-self c =
    let hs = c.self.inside.holders.items in
    let held : holder_at hs c.args.address ≡ Some c.args.from.now = ap (λ v. holder_at v.holders c.args.address) c.self.view_is ∙ c.requires.held in
    let least = taking-le hs c.args.address c.args.from.now held in
    omega (arith, least, c.self.invariant.takings_is, c.requires.recording)

pub invariant_of-self : goal.invariant_of-self
invariant_of-self c =
    let hs = c.self.inside.holders.items in
    let h = c.args.from.now in
    let k = c.args.to.now in
    let held : holder_at hs c.args.address ≡ Some h = ap (λ v. holder_at v.holders c.args.address) c.self.view_is ∙ c.requires.held in
    let least = taking-le hs c.args.address h held in
    let one : 1 ≤ c.self.inside.takings = omega (arith, least, c.self.invariant.takings_is, c.requires.recording) in
    let some_end : 0 < spare c.self.inside.ends = omega (arith, one, c.self.invariant.room_ends) in
    let some_place : 0 < spare c.remove-left.new.self = omega (arith, one, c.self.invariant.room_places, c.remove-left.ensures.spare) in
    let ends = ok_part _ (c.insert-ended.ensures.succeeds some_end) c.insert-ended.ensures.updates in
    let places = ok_part _ (c.insert-placed.ensures.succeeds some_place) c.insert-placed.ensures.updates in
    let old : Owner → Option ℕ = get owner_eq c.self.inside.ends in
    let new : Owner → Option ℕ = get owner_eq c.insert-ended.new.self in
    let kept : (b : ℕ) (q : Holder) → holder_at hs b ≡ Some q → q.index < end_in c.insert-ended.new.self q.owner = λ b q is.
    raised old new k.owner q.owner c.max-end.result q.index (ends.0 q.owner)
    (λ hit. let below = c.end_of.ensures.bound b q.index (ap (λ v. holder_at v.holders b) (sym c.self.view_is) ∙ is ∙ ap (λ o. Some (block_of o q.index)) (sym (owner_is k.owner q.owner hit))) in omega (arith, below, c.max-end.ensures))
    (c.self.invariant.ended b q is) in
    let own : k.index < end_in c.insert-ended.new.self k.owner = raised_own old new k.owner c.max-end.result k.index (ends.0 k.owner) (omega (arith, c.max-end.ensures)) in
    let fits : (o : Owner) → end_in c.insert-ended.new.self o ≤ 2 ^ 32 = λ o. raised_fits old new k.owner o c.max-end.result (ends.0 o) (omega (arith, c.max-end.ensures, c.end_of.ensures.fits)) (c.self.invariant.ends_fit o) in
    moved hs c.self.inside.taken.words.items c.self.inside.free c.self.inside.takings c.self.inside.room (place_in c.self.inside.places) (end_in c.self.inside.ends) _ _ c.self.invariant
    c.args.address h k (held-within hs c.args.address h held) held (λ b is. c.requires.new_block b (ap (λ v. holder_at v.holders b) (sym c.self.view_is) ∙ is))
    (place_in c.insert-placed.new.self) (λ q. places.0 q ∙ ap (λ (r : Option ℕ). cond (holder_eq k q) (Some c.args.address) r) (c.remove-left.ensures.updates.0 q))
    (end_in c.insert-ended.new.self) kept fits own
    (c.self.inside.takings - 1) (c.self.inside.takings - 1) c.self.inside.room _ _ (omega (arith, one, c.requires.recording)) (omega (arith, one, c.requires.to_file))
    (omega (arith, one, c.self.invariant.room_places, c.remove-left.ensures.spare, c.insert-placed.ensures.spare)) (omega (arith, one, c.self.invariant.room_ends, c.insert-ended.ensures.spare))
