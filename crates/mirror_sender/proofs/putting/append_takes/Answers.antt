use Rattle.std.proofs.Common.{ap, sym, ◌∙◌, ◌++◌, ◌+◌, ◌≤◌, length, subst}
use Rattle.std.specs.Vec.{vec_capacity}
use Rattle.voice_model.specs.Tapes.{HasTake, taken}
use Rattle.change_codec.proofs.Appended.{room_next, appended_more, appended_all}
use Rattle.mirror_sender.proofs.Lists.{every_get, same_get}
use Rattle.mirror_sender.proofs.putting.append_takes.Goals as goal

pub samples-requires : goal.samples-requires
samples-requires c = every_get (HasTake c.args.tapes.now) c.args.takes.now c.loop-take.take-index _ c.requires.within c.loop-take-test.true

pub append-requires : goal.append-requires
append-requires c = record {
  room = subst (λ l. length c.loop-take.out.items + length l ≤ vec_capacity c.loop-take.out) (sym c.samples.ensures)
      (room_next (taken c.args.tapes.now) c.args.out.now.items c.loop-take.out.items (vec_capacity c.loop-take.out) c.loop-take.take-index c.args.takes.now _ c.loop-take.invariant c.loop-take-test.true (same_get c.args.takes.now c.loop-take.take-index _ _ c.loop-take-test.true));
}

pub loop-take-preserved : goal.loop-take-preserved
loop-take-preserved c =
    appended_more (taken c.args.tapes.now) c.args.out.now.items c.loop-take.out.items c.append.new.out.items (vec_capacity c.loop-take.out) (vec_capacity c.append.new.out) c.loop-take.take-index c.args.takes.now _
    c.loop-take.invariant c.loop-take-test.true (same_get c.args.takes.now c.loop-take.take-index _ _ c.loop-take-test.true) c.append.ensures.capacity (c.append.ensures.items ∙ ap (λ l. c.loop-take.out.items ++ l) c.samples.ensures)

pub returns : goal.returns
returns c = appended_all (taken c.args.tapes.now) c.args.out.now.items c.loop-take.out.items (vec_capacity c.loop-take.out) c.loop-take.take-index c.args.takes.now c.loop-take.invariant c.loop-take-test.false
