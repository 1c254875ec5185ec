use Rattle.std.proofs.Common.{◌≡◌, ◌+◌, ◌-◌, ◌∙◌, sym, reverse, length, arith}
use Rattle.voice_outside.specs.Disk.{segment}
use Rattle.voice_disk.specs.Over.{segment_is}
use Rattle.voice_disk.proofs.Calls.{pushed, on_ok, read_done}
use Rattle.voice_disk.proofs.memory.MemDiskDisk.read.Goals as goal

pub returns-clause-content : goal.returns-clause-content
returns-clause-content c =
    let d = c.args.self.now in
    let kept = on_ok c.keep.result _ (sym c.is_err.ensures.value ∙ c.if-is_err.false) c.keep.ensures.ok in
    let filled : c.copy_from_slice.new.self ≡ segment d.bytes.items c.args.at (length c.args.into.now) =
    let n : (c.args.at + length c.args.into.now) - c.args.at ≡ length c.args.into.now = omega arith in
    c.copy_from_slice.ensures.after ∙ rw (n, c.deref-2.ensures.value) (segment_is d.bytes.items c.args.at (length c.args.into.now) c.requires) in
    λ honest. read_done d.first.items (reverse d.log.items) d.calls d.faults _ d.bytes.items d.numbered _ c.args.at (length c.args.into.now) _ _ _ filled (pushed d.log.items _ _ kept)
