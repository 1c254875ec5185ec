use Rattle.std.proofs.Common.{sym, ap, ◌∙◌}
use Rattle.voice_outside.specs.Disk.{segment}
use Rattle.voice_blocks.specs.Place.{block_place}
use Rattle.listening.specs.Heard.{pair_of}
use Rattle.listening.proofs.Standing.{on_ok, stretch_bytes}
use Rattle.listening.proofs.stretches.read_around.Goals as goal

pub returns-clause-bytes : goal.returns-clause-bytes
returns-clause-bytes g c honest =
    let image = (g.D.Disk.told c.args.disk.now).bytes in
    let shape = c.args.shape.now in
    on_ok c.read_block.result _ _
    (λ filled address place. stretch_bytes image shape address c.args.stretch.now c.in-Some.address c.read_block.new.into c.requires.inside (filled ∙ ap (segment image (block_place shape c.in-Some.address)) c.requires.room) (sym (c.in-Some.ensures.only (address (pair_of shape.block c.args.stretch.now)) place)))
    (c.read_block.ensures.content honest).filled
