use Rattle.std.proofs.Common.{[], ◌∙◌}
use Rattle.voice_model.specs.Replay.{acted}
use Rattle.recovery.proofs.Rebuilding.{acted_shape}
use Rattle.next_uses.proofs.ropes.finish.Goals as goal

pub perform-requires : goal.perform-requires
perform-requires c = ([], [], c.requires.0, c.requires.1, c.requires.2)

pub returns-then-comes : goal.returns-then-comes
returns-then-comes c =
    let b = c.requires.0 in
    let change = c.requires.1 in
    record { what = acted b change; runs = c.perform.ensures.runs [] [] b change c.requires.2 c.requires.3; in_shape = acted_shape b change ∙ c.requires.3 }

pub returns-else-comes : goal.returns-else-comes
returns-else-comes c = record { what = c.requires.0; runs = c.give_back.ensures.runs [] [] c.requires.0 c.requires.1 c.requires.2; in_shape = c.requires.3 }
