use Rattle.std.proofs.Common.{◌∙◌, sym, ap, subst, length, List, ℕ, arith}
use Rattle.recording_writer.specs.Wrote.{AreDistinct}
use Rattle.recording_writer.specs.Runs.{writes_for}
use Rattle.voice_model.specs.Tapes.{taken}
use Rattle.voice_store.specs.Stood.{tapes_of}
use Rattle.voice_units.specs.Blocks.{blocks_for}
use Rattle.voice_store.proofs.Fewer.{made_fewer, has_bytes, is_padded}
use Rattle.voice_store.proofs.Written.{distinct}
use Rattle.voice_store.proofs.inside.Inside.write_recording.Goals as goal

pub write_samples-result-requires-clause-differ : goal.write_samples-result-requires-clause-differ
write_samples-result-requires-clause-differ g c κs within =
    let h = c.requires.holds in
    subst (λ (l : List ℕ). AreDistinct l) (sym c.deref-2.ensures.value) (distinct h.0 h.1 (g.D.Disk.told c.args.disk.now) c.args.self.now c.args.take c.args.next.now h.2)

pub returns-clause-made : goal.returns-clause-made
returns-clause-made g c =
    let h = c.requires.holds in
    let few = c.write_samples-result.ensures.few in
    let many = ap length c.deref-2.ensures.value ∙ h.2.many in
    made_fewer (writes_for c.shape-shape.result.block c.deref-2.result.now (length c.samples-samples.result.now)) (blocks_for c.args.self.now.journal.shape.block c.args.take.len) (g.D.Disk.told c.args.disk.now) (g.D.Disk.told c.write_samples-result.new.disk)
    c.write_samples-result.result (omega (arith, few, many)) c.write_samples-result.ensures.made

pub returns-clause-written : goal.returns-clause-written
returns-clause-written g c = λ is.
    let s = c.args.self.now in
    has_bytes c.write_samples-result.result (g.D.Disk.told c.write_samples-result.new.disk).bytes c.shape-shape.result s.journal.shape c.deref-2.result.now c.args.next.now.addresses.items
    c.samples-samples.result.now (taken (tapes_of s) c.args.take) c.shape-shape.ensures c.deref-2.ensures.value
    (c.samples-samples.ensures ∙ ap (λ (ts : List (List ℕ)). taken ts c.args.take) c.deref.ensures)
    (c.write_samples-result.ensures.written is)

pub returns-clause-padded : goal.returns-clause-padded
returns-clause-padded g c = λ is.
    let s = c.args.self.now in
    is_padded c.write_samples-result.result (g.D.Disk.told c.write_samples-result.new.disk).bytes c.shape-shape.result s.journal.shape c.deref-2.result.now c.args.next.now.addresses.items
    c.samples-samples.result.now (taken (tapes_of s) c.args.take) c.shape-shape.ensures c.deref-2.ensures.value
    (c.samples-samples.ensures ∙ ap (λ (ts : List (List ℕ)). taken ts c.args.take) c.deref.ensures)
    (c.write_samples-result.ensures.padded is)
