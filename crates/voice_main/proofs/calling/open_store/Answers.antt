use Rattle.voice_server.proofs.Keeping.{opened_kept}
use Rattle.voice_main.proofs.calling.open_store.Goals as goal

pub returns-in-Ok-open-clause-kept : goal.returns-in-Ok-open-clause-kept
returns-in-Ok-open-clause-kept g c = opened_kept g.D.Disk.told c.args.disk c.in-Ok-open.store c.in-Ok-open.ensures.ok.0 c.in-Ok-open.ensures.state c.in-Ok-open.ensures.ok.3
