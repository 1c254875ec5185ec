use Rattle.std.proofs.Common.{◌≡◌, length, None, Some, arith, ap, ◌∙◌}
use Rattle.voice_blocks.specs.Holders.{holder_at}
use Rattle.std.proofs.Math.ListN.{set}
use Rattle.std.proofs.lemmas.List.{length-set}
use Rattle.voice_blocks.specs.Sound.{place_in, end_in}
use Rattle.voice_blocks.proofs.SoundLemmas.{left, open_in-le, taking-le, held-within, open_in-set_none}
use Rattle.voice_blocks.proofs.map.BlockMap.leave.Goals as goal

pub overflow_add-self : goal.overflow_add-self
overflow_add-self c =
    let hs = c.self.inside.holders.items in
    let held : holder_at hs c.args.address ≡ Some c.args.holder.now = ap (λ v. holder_at v.holders c.args.address) c.self.view_is ∙ c.requires in
    let one = open_in-set_none hs c.args.address c.args.holder.now (held-within hs c.args.address c.args.holder.now held) held in
    let most = open_in-le (set hs c.args.address None) in
    let count = length-set hs c.args.address None in
    omega (arith, one, most, count, c.self.invariant.free_is, c.self.invariant.few)

pub overflow_sub-self : goal.overflow_sub-self
overflow_sub-self c =
    let hs = c.self.inside.holders.items in
    let held : holder_at hs c.args.address ≡ Some c.args.holder.now = ap (λ v. holder_at v.holders c.args.address) c.self.view_is ∙ c.requires in
    let least = taking-le hs c.args.address c.args.holder.now held in
    omega (arith, least, c.self.invariant.takings_is, c.of_taking.ensures)

pub invariant_of-self : goal.invariant_of-self
invariant_of-self c =
    let hs = c.self.inside.holders.items in
    let held : holder_at hs c.args.address ≡ Some c.args.holder.now = ap (λ v. holder_at v.holders c.args.address) c.self.view_is ∙ c.requires in
    let least = taking-le hs c.args.address c.args.holder.now held in
    let words : length c.remove.new.self.words.items ≡ length c.self.inside.taken.words.items = omega (arith, c.remove.ensures.len, c.remove.new.self.words.ok, c.self.inside.taken.words.ok) in
    left hs c.self.inside.taken.words.items c.self.inside.free c.self.inside.takings c.self.inside.room (place_in c.self.inside.places) (end_in c.self.inside.ends) _ _ c.self.invariant
    c.args.address c.args.holder.now (held-within hs c.args.address c.args.holder.now held) c.remove.new.self.words.items words c.remove.ensures.others (place_in c.remove-address.new.self) (end_in c.self.inside.ends)
    c.self.invariant.ended c.self.invariant.ends_fit _ _ _ _ _ (omega (arith, c.self.invariant.room_places, c.remove-address.ensures.spare)) (omega (arith, c.self.invariant.room_ends))
    held c.remove.ensures.this (λ q. c.remove-address.ensures.updates.0 q) (omega arith) (omega (arith, least, c.self.invariant.takings_is, c.of_taking.ensures))
