use Rattle.std.proofs.Common.{arith}
use Rattle.std.specs.Prelude.{vec_capacity}
use Rattle.callers.specs.Seats.{pass_of}
use Rattle.callers.proofs.Rows.{a_runner, up, room_up, none_heard_up}
use Rattle.callers.proofs.seats.line_up.Goals as goal

pub loop-pass-preserved : goal.loop-pass-preserved
loop-pass-preserved g c =
    let was = c.loop-pass.invariant in
    let passes = c.loop-pass.passes.items in
    let rest = c.pop.new.self.items in
    let r = a_runner c.in-Some.pass c.new.result in
    let rs = c.loop-pass.runners.items in
    record {
      all = up pass_of passes rest r rs c.put_runner.new.runners.items c.args.passes.now.items c.in-Some.ensures.items c.put_runner.ensures.items was.all;
      heard = none_heard_up r rs c.put_runner.new.runners.items c.put_runner.ensures.items c.new.ensures.items was.heard;
      room = room_up passes rest c.in-Some.pass r rs c.put_runner.new.runners.items (vec_capacity c.loop-pass.runners) (vec_capacity c.put_runner.new.runners) c.in-Some.ensures.items c.put_runner.ensures.items c.put_runner.ensures.room was.room;
      back = omega (arith, was.back, c.in-Some.ensures.capacity);
    }
