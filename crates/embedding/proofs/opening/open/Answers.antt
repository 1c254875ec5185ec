use Rattle.voice_server.proofs.Keeping.{opened_kept}
use Rattle.embedding.proofs.opening.open.Goals as goal

pub returns-in-Ok-clause-kept : goal.returns-in-Ok-clause-kept
returns-in-Ok-clause-kept g c = opened_kept g.D.Disk.told c.args.disk c.in-Ok.store c.in-Ok.ensures.ok.0 c.in-Ok.ensures.state c.in-Ok.ensures.ok.3
