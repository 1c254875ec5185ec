use Rattle.voice_store.proofs.Returned.{stood_back}
use Rattle.voice_store.proofs.inside.Inside.take_back.Goals as goal

pub returns-clause-stood : goal.returns-clause-stood
returns-clause-stood g c = λ first t0 stood.
    let b = c.bring_back-is_the_window in
    stood_back first t0 (g.D.Disk.told c.args._disk.now) c.args.self.now b.new.self c.lane-lane.result b.ensures.queues b.ensures.frames stood
