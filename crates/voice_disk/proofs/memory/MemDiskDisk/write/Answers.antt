use Rattle.std.proofs.Common.{◌≡◌, rules, ◌∙◌, sym, ap, reverse, length}
use Rattle.std.proofs.lemmas.List.{with_items_is}
use Rattle.voice_disk.specs.Bytes.{over}
use Rattle.voice_disk.specs.Over.{length-over}
use Rattle.voice_disk.proofs.Calls.{pushed, on_ok, write_done, write_failed, write_starved}
use Rattle.voice_disk.proofs.memory.MemDiskDisk.write.Goals as goal

pub returns-then-not-done-clause-content : goal.returns-then-not-done-clause-content
returns-then-not-done-clause-content c =
    let d = c.args.self.now in
    let same : c.keep_write.new.log.items ≡ d.log.items = search rules in
    λ honest. write_starved d.first.items (reverse d.log.items) d.calls d.faults _ d.bytes.items d.numbered _ c.args.bytes.now c.args.at _ (ap reverse same)

pub returns-then-is_err-clause-content : goal.returns-then-is_err-clause-content
returns-then-is_err-clause-content c =
    let d = c.args.self.now in
    let same : c.keep_write.new.log.items ≡ d.log.items = search rules in
    λ honest. write_starved d.first.items (reverse d.log.items) d.calls d.faults _ d.bytes.items d.numbered _ c.args.bytes.now c.args.at _ (ap reverse same)

pub returns-then-not-done-2-clause-content : goal.returns-then-not-done-2-clause-content
returns-then-not-done-2-clause-content c =
    let d = c.args.self.now in
    let kept = on_ok c.keep_write.result _ (sym c.is_err.ensures.value ∙ c.if-is_err.false) c.keep_write.ensures.ok in
    λ honest. write_failed d.first.items (reverse d.log.items) d.calls d.faults _ d.bytes.items d.numbered _ c.args.bytes.now c.args.at kept.0 _ _ kept.1 (pushed d.log.items _ _ kept.2)

pub returns-clause-content : goal.returns-clause-content
returns-clause-content c =
    let d = c.args.self.now in
    let kept = on_ok c.keep_write.result _ (sym c.is_err.ensures.value ∙ c.if-is_err.false) c.keep_write.ensures.ok in
    let put : c.put_over.new.bytes ≡ over d.bytes.items c.args.at c.args.bytes.now = search rules in
    let size : length c.put_over.new.bytes ≡ length d.bytes.items = ap length put ∙ length-over d.bytes.items c.args.at c.args.bytes.now in
    λ honest. write_done d.first.items (reverse d.log.items) d.calls d.faults _ d.bytes.items d.numbered _ _ c.args.bytes.now c.args.at kept.0 _ _ kept.1 c.requires (with_items_is d.bytes c.put_over.new.bytes (search (rules, size)) ∙ put) (pushed d.log.items _ _ kept.2)
