use Rattle.voice_main.proofs.Converted.{set_elsewhere}
use Rattle.voice_main.proofs.convert.put.Goals as goal

pub returns-in-Ok-clause-elsewhere : goal.returns-in-Ok-clause-elsewhere
returns-in-Ok-clause-elsewhere g c = set_elsewhere (g.K.Shelf.files c.args.shelf.now) _ c.args.name.now c.args.bytes.now c.in-Ok.ensures.told
