use Rattle.std.proofs.Common.{◌∙◌, sym, ap, reverse, not}
use Rattle.voice_disk.proofs.Calls.{pushed, on_ok, sync_done}
use Rattle.voice_disk.proofs.memory.MemDiskDisk.sync.Goals as goal

pub returns-clause-content : goal.returns-clause-content
returns-clause-content c =
    let d = c.args.self.now in
    let kept = on_ok c.keep.result _ (sym c.is_err.ensures.value ∙ c.if-is_err.false) c.keep.ensures.ok in
    λ honest. sync_done d.first.items (reverse d.log.items) d.calls d.faults _ d.bytes.items d.numbered _ _ _ (ap not c.if-not-done-2.false) d.replayed (pushed d.log.items _ _ kept)
