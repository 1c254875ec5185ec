use Rattle.crash_laws.proofs.Noted.{entries_count}
use Rattle.crash_laws.proofs.laws.entries_count.Goals as goal

pub returns : goal.returns
returns g c = entries_count (g.D.Disk.told c.args.disk.now)
