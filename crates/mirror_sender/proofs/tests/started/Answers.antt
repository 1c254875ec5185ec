use Rattle.std.proofs.Common.{refl}
use Rattle.voice_model.specs.Replay.{nothing_rebuilt}
use Rattle.mirror_sender.proofs.tests.started.Goals as goal

pub new-requires-clause-parts : goal.new-requires-clause-parts
new-requires-clause-parts c =
    let h = c.in_ok-parts.ensures in
    (nothing_rebuilt c.args.shape.now, record { kept = h.kept; in_form = h.in_form; valid = h.valid }, refl)
