use Rattle.std.proofs.Common.{[], ◌∙◌}
use Rattle.voice_model.specs.Replay.{acted}
use Rattle.recovery.proofs.Rebuilding.{acted_shape}
use Rattle.next_uses.proofs.changes.finish.Goals as goal

pub perform-requires : goal.perform-requires
perform-requires c = ([], [], c.requires.b, c.requires.c, c.requires.next)

pub returns-then-comes : goal.returns-then-comes
returns-then-comes c =
    let b = c.requires.b in
    let change = c.requires.c in
    record { what = acted b change; runs = c.perform.ensures.runs [] [] b change c.requires.next c.requires.in_shape; in_shape = acted_shape b change ∙ c.requires.in_shape }

pub returns-else-comes : goal.returns-else-comes
returns-else-comes c = record { what = c.requires.b; runs = c.give_back.ensures.runs [] [] c.requires.b c.requires.c c.requires.next; in_shape = c.requires.in_shape }
