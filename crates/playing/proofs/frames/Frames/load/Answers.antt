use Rattle.std.proofs.Common.{◌∙◌, sym, ap, subst, ◌≢◌, ℕ, Some, length, ◌<◌}
use Rattle.playing.specs.Frames.{FramesState, resident_at}
use Rattle.playing.proofs.Kept.{frames_loaded}
use Rattle.playing.proofs.frames.Frames.load.Goals as goal

pub invariant_of-self-2 : goal.invariant_of-self-2
invariant_of-self-2 g c =
    frames_loaded c.self.inside.keeper c.fill.new.self c.self.inside.resident.items c.self.inside.readers.items _ _ c.args.frame c.args.b c.self.invariant c.fill.ensures.lanes.0 c.fill.ensures.lanes.1
    (subst (λ (s : FramesState). (f : ℕ) → resident_at s.resident f ≢ Some c.args.b) (sym c.self.view_is) c.requires.new_block)
    (c.fill.ensures.room ∙ c.read_room.ensures.whole ∙ c.self.invariant.room_is)
    (subst (λ (s : FramesState). c.args.frame < length s.resident) (sym c.self.view_is) c.requires.frame)
    (ap (λ l. length l) c.fill.ensures.filled ∙ c.read_room.ensures.whole ∙ c.self.invariant.room_is)
    c.fill.ensures.others
