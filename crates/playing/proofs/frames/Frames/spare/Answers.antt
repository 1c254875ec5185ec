use Rattle.std.proofs.Common.{◌≡◌, ◌≢◌, ◌||◌, ◌<◌, sym, subst, ℕ, Some, length, true, List, Option}
use Rattle.frame_pool.specs.declared.views.Part.{Part}
use Rattle.frame_pool.specs.declared.views.Stage.TheVariants.{Free}
use Rattle.frame_pool.specs.Pool.{lanes_of, stage_of}
use Rattle.playing.specs.declared.blocks.Block.{Block}
use Rattle.playing.specs.Frames.{FramesState, resident_at, is_read, is_wanted}
use Rattle.playing.proofs.Kept.{spare_frames}
use Rattle.playing.proofs.frames.Frames.spare.Goals as goal

pub unreachable-requires : goal.unreachable-requires
unreachable-requires c =
    let s = c.self.inside in
    spare_frames s.keeper s.resident.items s.readers.items _ c.args.block c.args.window.now c.args.lane c.args.b.now c.self.invariant
    (subst (λ (s : FramesState). c.args.lane < lanes_of s.keeper) (sym c.self.view_is) c.requires.lane)
    (subst (λ (s : FramesState). stage_of s.keeper c.args.lane ≡ Free) (sym c.self.view_is) c.requires.free)
    c.requires.few c.requires.wanted
    (subst (λ (s : FramesState). (f : ℕ) → resident_at s.resident f ≢ Some c.args.b.now) (sym c.self.view_is) c.requires.absent)
    (subst (λ (readers : List (List Part)). (f : ℕ) → f < length s.resident.items → (is_read readers f || is_wanted c.args.block c.args.window.now (resident_at s.resident.items f)) ≡ true) c.deref.ensures.value
    (subst (λ (resident : List (Option Block)). (f : ℕ) → f < length resident → (is_read c.deref.result.now f || is_wanted c.args.block c.args.window.now (resident_at resident f)) ≡ true) c.deref-2.ensures.value c.in_default.ensures.none))
