use Rattle.std.proofs.Common.{◌+◌, ◌%◌, sym, subst, refl, List, take}
use Rattle.frame_pool.specs.declared.views.Part.{Part}
use Rattle.std.specs.Prelude.{slice_index}
use Rattle.playing.specs.Windows.{ArePartsOf}
use Rattle.playing.proofs.Bringing.{get_slice}
use Rattle.playing.proofs.Samples.{next_part}
use Rattle.playing.proofs.frames.parts_of.Goals as goal

pub loop-k-preserved : goal.loop-k-preserved
loop-k-preserved c resident found =
    let x = c.index-window-k.result in
    let p : Part = record { frame = slice_index c.args.found.now c.loop-k.k; from = x.from % c.args.block; len = x.len } in
    subst (λ (ps : List Part). ArePartsOf c.args.block resident (take (c.loop-k.k + 1) c.args.window.now) ps) (sym c.in_ok-push.ensures.items)
    (next_part c.args.block resident c.args.window.now c.loop-k.k c.loop-k.parts.items x p c.loop-k-test.true c.index-window-k.is (c.loop-k.invariant resident found)
    (record {
      held = found c.loop-k.k x c.loop-k-test.true (get_slice c.args.window.now c.loop-k.k x c.loop-k-test.true c.index-window-k.is);
      from = refl;
      len = refl;
    }))
