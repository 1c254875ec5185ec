use Rattle.std.proofs.Common.{ap}
use Rattle.std.specs.Prelude.{Some}
use Rattle.play_queue.specs.Queued.{lane_of}
use Rattle.voice_store.proofs.Windowed.{looked_four}
use Rattle.voice_store.proofs.WindowReads.{fed_reads, fed_within}
use Rattle.voice_store.proofs.inside.Inside.serve.Goals as goal

pub returns-clause-looks : goal.returns-clause-looks
returns-clause-looks g c = let s = c.args.self.now in looked_four s.journal.shape.block c.args.heard s.lanes.frames.resident (lane_of s.lanes.queues c.args.lease.now.lane) (g.D.Disk.told c.args.disk.now) (g.D.Disk.told c.serve_by.new.disk) c.serve_by.ensures.made

pub returns-clause-reads : goal.returns-clause-reads
returns-clause-reads g c = λ first t0 stood.
    fed_reads first t0 (g.D.Disk.told c.args.disk.now) c.args.self.now c.args.lease.now.lane (Some c.args.heard) (g.D.Disk.told c.serve_by.new.disk) stood c.serve_by.ensures.made (λ e. ap (λ d. g.D.Disk.told d) (c.serve_by.ensures.still e))

pub returns-clause-calls : goal.returns-clause-calls
returns-clause-calls g c = λ first t0 stood.
    fed_within first c.args.self.now c.args.lease.now.lane (Some c.args.heard) (g.D.Disk.told c.args.disk.now).calls (g.D.Disk.told c.serve_by.new.disk).calls (returns-clause-reads g c first t0 stood)
