use Rattle.callers.specs.Seats.{pass_of, heard_of, all_done}
use Rattle.std.proofs.Common.{map, ◌++◌, ◌≡◌, subst, sym}
use Rattle.std.specs.Prelude.{vec_capacity}
use Rattle.callers.proofs.Rows.{back, done_back, room_back}
use Rattle.callers.proofs.seats.hand_back.Goals as goal

pub loop-runner-preserved : goal.loop-runner-preserved
loop-runner-preserved g c =
    let was = c.loop-runner.invariant in
    let runners = c.loop-runner.runners.items in
    let rest = c.pop.new.self.items in
    let r = c.in-Some.runner in
    record {
      all = subst (λ l. map pass_of rest ++ l ≡ map pass_of c.args.runners.items) (sym c.put_pass.ensures.items) (back pass_of runners rest r c.loop-runner.passes.items (map pass_of c.args.runners.items) c.in-Some.ensures.items was.all);
      heard = subst (λ l. map heard_of rest ++ l ≡ map heard_of c.args.runners.items) (sym c.put_list.ensures.items) (back heard_of runners rest r c.loop-runner.lists.items (map heard_of c.args.runners.items) c.in-Some.ensures.items was.heard);
      done = done_back runners rest r c.loop-runner.all (all_done c.args.runners.items) c.in-Some.ensures.items was.done;
      room = room_back pass_of runners rest r c.loop-runner.passes.items c.put_pass.new.passes.items (vec_capacity c.loop-runner.passes) (vec_capacity c.put_pass.new.passes) c.in-Some.ensures.items c.put_pass.ensures.items c.put_pass.ensures.room was.room;
      room_heard = room_back heard_of runners rest r c.loop-runner.lists.items c.put_list.new.lists.items (vec_capacity c.loop-runner.lists) (vec_capacity c.put_list.new.lists) c.in-Some.ensures.items c.put_list.ensures.items c.put_list.ensures.room was.room_heard;
    }
