use Rattle.std.proofs.Common.{◌≡◌, ◌∙◌, ap, subst, arith}
use Rattle.voice_blocks.specs.Holders.{Holders, next_index}
use Rattle.mirror_tables.specs.Taken.{for_now, AreHeld}
use Rattle.mirror_tables.proofs.Opened.{from_zero, taken_is, back_size, back_same, are_open}
use Rattle.mirror_tables.proofs.addresses.lowest_free.Goals as goal

pub take-requires-clause-fits : goal.take-requires-clause-fits
take-requires-clause-fits c =
    let first : next_index for_now c.reserve.new.self.holders ≡ 0 = ap (next_index for_now) c.in_ok-reserve.ensures.holders ∙ from_zero c.args.blocks.now.holders c.requires in
    let fits = c.ranges.n.fits in
    omega (arith, first, fits)

pub returns-in_err-taken-clause-size : goal.returns-in_err-taken-clause-size
returns-in_err-taken-clause-size c = back_size c.args.blocks.now.holders c.reserve.new.self.holders c.take.new.self.holders c.args.n c.requires c.in_ok-reserve.ensures.holders c.if-not-take.ensures.holders c.drop_owner.new.self.holders c.drop_owner.ensures.holders

pub returns-in_err-taken-clause-same : goal.returns-in_err-taken-clause-same
returns-in_err-taken-clause-same c = back_same c.args.blocks.now.holders c.reserve.new.self.holders c.take.new.self.holders c.args.n c.requires c.in_ok-reserve.ensures.holders c.if-not-take.ensures.holders c.drop_owner.new.self.holders c.drop_owner.ensures.holders

pub returns-clause-size : goal.returns-clause-size
returns-clause-size c = back_size c.args.blocks.now.holders c.reserve.new.self.holders c.take.new.self.holders c.args.n c.requires c.in_ok-reserve.ensures.holders c.if-not-take.ensures.holders c.drop_owner.new.self.holders c.drop_owner.ensures.holders

pub returns-clause-same : goal.returns-clause-same
returns-clause-same c = back_same c.args.blocks.now.holders c.reserve.new.self.holders c.take.new.self.holders c.args.n c.requires c.in_ok-reserve.ensures.holders c.if-not-take.ensures.holders c.drop_owner.new.self.holders c.drop_owner.ensures.holders

pub returns-clause-free : goal.returns-clause-free
returns-clause-free c =
    let taken = taken_is c.args.blocks.now.holders c.reserve.new.self.holders c.take.new.self.holders c.args.n c.requires c.in_ok-reserve.ensures.holders c.if-not-take.ensures.holders in
    are_open c.args.blocks.now.holders c.args.n c.in_ok-taken.field-0.items c.requires c.in_ok-taken.ensures.count
    (subst (λ (l : Holders). AreHeld 0 l c.in_ok-taken.field-0.items) taken c.in_ok-taken.ensures.held)
