use Rattle.std.proofs.Common.{◌≡◌, ◌≤◌, ◌<◌, ◌^◌, ℕ, length, Option, None, Some, arith, ap, ◌∙◌, sym, subst}
use Rattle.std.proofs.Math.ListN.{set}
use Rattle.std.proofs.lemmas.List.{length-set}
use Rattle.std.specs.HashMap.{get, spare}
use Rattle.voice_blocks.specs.declared.owner.Holder.{Holder}
use Rattle.voice_blocks.specs.declared.owner.Owner.{Owner}
use Rattle.voice_blocks.specs.Holders.{holder_at, block_of}
use Rattle.voice_blocks.specs.Sound.{place_in, end_in, owner_eq, of_taking}
use Rattle.voice_blocks.proofs.SoundLemmas.{entered, ok_part, raised, raised_own, raised_fits, owner_is, owner_at_most, open_in-set_some, takings_in-set, takings_in-le}
use Rattle.voice_blocks.proofs.map.BlockMap.enter.Goals as goal

pub overflow_sub-self : goal.overflow_sub-self
overflow_sub-self c =
    let hs = c.self.inside.holders.items in
    let within : c.args.address < length hs = subst (λ v. c.args.address < length v.holders) (sym c.self.view_is) c.requires.within in
    let free : holder_at hs c.args.address ≡ None = ap (λ v. holder_at v.holders c.args.address) c.self.view_is ∙ c.requires.was_free in
    let one = open_in-set_some hs c.args.address c.args.holder.now within free in
    omega (arith, one, c.self.invariant.free_is)

pub overflow_add-self : goal.overflow_add-self
overflow_add-self c =
    let hs = c.self.inside.holders.items in
    let within : c.args.address < length hs = subst (λ v. c.args.address < length v.holders) (sym c.self.view_is) c.requires.within in
    let more = takings_in-set hs c.args.address (Some c.args.holder.now) within in
    let most = takings_in-le (set hs c.args.address (Some c.args.holder.now)) in
    let count = length-set hs c.args.address (Some c.args.holder.now) in
    let free : holder_at hs c.args.address ≡ None = ap (λ v. holder_at v.holders c.args.address) c.self.view_is ∙ c.requires.was_free in
    let none = ap of_taking free in
    omega (arith, more, most, count, none, c.self.invariant.takings_is, c.self.invariant.few, c.of_taking.ensures)

pub invariant_of-self : goal.invariant_of-self
invariant_of-self c =
    let hs = c.self.inside.holders.items in
    let h = c.args.holder.now in
    let within : c.args.address < length hs = subst (λ v. c.args.address < length v.holders) (sym c.self.view_is) c.requires.within in
    let free : holder_at hs c.args.address ≡ None = ap (λ v. holder_at v.holders c.args.address) c.self.view_is ∙ c.requires.was_free in
    let one = open_in-set_some hs c.args.address h within free in
    let room : 1 ≤ c.self.inside.room = subst (λ v. 1 ≤ v.spare) (sym c.self.view_is) c.requires.room in
    let words : length c.insert.new.self.words.items ≡ length c.self.inside.taken.words.items = omega (arith, c.insert.ensures.len, c.insert.new.self.words.ok, c.self.inside.taken.words.ok) in
    let some_end : 0 < spare c.self.inside.ends = omega (arith, room, c.self.invariant.room_ends) in
    let some_place : 0 < spare c.self.inside.places = omega (arith, room, c.self.invariant.room_places) in
    let ends = ok_part _ (c.insert-ended.ensures.succeeds some_end) c.insert-ended.ensures.updates in
    let places = ok_part _ (c.insert-placed.ensures.succeeds some_place) c.insert-placed.ensures.updates in
    let one_more = owner_at_most h.owner in
    let old : Owner → Option ℕ = get owner_eq c.self.inside.ends in
    let new : Owner → Option ℕ = get owner_eq c.insert-ended.new.self in
    let kept : (b : ℕ) (q : Holder) → holder_at hs b ≡ Some q → q.index < end_in c.insert-ended.new.self q.owner = λ b q held.
    raised old new h.owner q.owner c.max-end.result q.index (ends.0 q.owner)
    (λ hit. let below = c.end_of.ensures.bound b q.index (ap (λ v. holder_at v.holders b) (sym c.self.view_is) ∙ held ∙ ap (λ o. Some (block_of o q.index)) (sym (owner_is h.owner q.owner hit))) in omega (arith, below, c.max-end.ensures))
    (c.self.invariant.ended b q held) in
    let own : h.index < end_in c.insert-ended.new.self h.owner = raised_own old new h.owner c.max-end.result h.index (ends.0 h.owner) (omega (arith, c.max-end.ensures)) in
    let fits : (o : Owner) → end_in c.insert-ended.new.self o ≤ 2 ^ 32 = λ o. raised_fits old new h.owner o c.max-end.result (ends.0 o) (omega (arith, c.max-end.ensures, c.end_of.ensures.fits)) (c.self.invariant.ends_fit o) in
    entered hs c.self.inside.taken.words.items c.self.inside.free c.self.inside.takings c.self.inside.room (place_in c.self.inside.places) (end_in c.self.inside.ends) _ _ c.self.invariant
    c.args.address h within c.insert.new.self.words.items words c.insert.ensures.others (place_in c.insert-placed.new.self) (end_in c.insert-ended.new.self)
    kept fits _ _ _ _ _ (omega (arith, room, c.self.invariant.room_places, c.insert-placed.ensures.spare, c.of_taking.ensures, one_more)) (omega (arith, room, c.self.invariant.room_ends, c.insert-ended.ensures.spare, c.of_taking.ensures, one_more))
    free (λ b held. c.requires.new_block b (ap (λ v. holder_at v.holders b) (sym c.self.view_is) ∙ held)) c.insert.ensures.this (λ q. places.0 q) own (omega (arith, one, c.self.invariant.free_is)) (omega (arith, c.of_taking.ensures))
