use Rattle.served_files.specs.Files.{queues_of}
use Rattle.voice_main.proofs.Left.{printed, no_shelf_fault, stood}
use Rattle.voice_main.proofs.played.finish.Goals as goal

pub returns-in-Ok-clause-which : goal.returns-in-Ok-clause-which
returns-in-Ok-clause-which g c = printed _ _ c.print.result c.print.ensures.which

pub returns-in-Ok-clause-files : goal.returns-in-Ok-clause-files
returns-in-Ok-clause-files g c = stood (g.K.Shelf.files c.args.shelf.now) _ c.args.history.now (queues_of c.args.heard.now) _ c.print.result c.print.ensures.which c.in-Ok.ensures.ok

pub returns-in-Ok-clause-unprinted : goal.returns-in-Ok-clause-unprinted
returns-in-Ok-clause-unprinted g c = λ is. absurd (no_shelf_fault _ c.print.result c.print.ensures.which is)
