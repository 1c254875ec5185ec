use Rattle.std.proofs.Common.{◌≡◌, ◌-◌, ◌/◌, ◌∙◌, ℕ, List, drop, length, refl, sym, ap, subst, arith}
use Rattle.voice_units.specs.Blocks.{blocks_for}
use Rattle.voice_units.specs.declared.shapes.Shape.{Shape}
use Rattle.recording_calls.specs.Shown.{recording_at, total_in}
use Rattle.recording_writer.specs.Wrote.{AreBelow, AreDistinct}
use Rattle.recording_writer.specs.Runs.{writes_for}
use Rattle.voice_store.specs.Ends.{whole_in, last_addresses}
use Rattle.voice_store.proofs.Fewer.{made_fewer, has_bytes}
use Rattle.voice_store.proofs.Ended.{tail_below, tail_distinct, tail_many, tail_enough, whole_within}
use Rattle.voice_store.proofs.inside.Inside.write_last.Goals as goal

pub tail_of-addresses-requires : goal.tail_of-addresses-requires
tail_of-addresses-requires g c =
    let s = c.args.self.now in
    let lane = c.args.lane in
    let h = c.requires.holds in
    let whole : c.total.result / c.shape-shape.result.block ≡ whole_in s lane = ap (λ n. n / c.shape-shape.result.block) c.total.ensures.own ∙ ap (λ (x : Shape). total_in (recording_at s.recordings lane) / x.block) c.shape-shape.ensures in
    let within = whole_within h.0 h.1 (g.D.Disk.told c.args.disk.now) s lane c.args.rope.now h.2 in
    let many = ap length c.deref.ensures.value in
    omega (arith, whole, within, many)

pub write_samples-result-requires-clause-enough : goal.write_samples-result-requires-clause-enough
write_samples-result-requires-clause-enough g c κs within =
    let s = c.args.self.now in
    let lane = c.args.lane in
    let h = c.requires.holds in
    let whole : c.total.result / c.shape-shape.result.block ≡ whole_in s lane = ap (λ n. n / c.shape-shape.result.block) c.total.ensures.own ∙ ap (λ (x : Shape). total_in (recording_at s.recordings lane) / x.block) c.shape-shape.ensures in
    let tail : c.tail_of-addresses.result.now ≡ last_addresses s lane c.args.rope.now = c.tail_of-addresses.ensures ∙ ap (λ n. drop n c.deref.result.now) whole ∙ ap (drop (whole_in s lane)) c.deref.ensures.value in
    ap length tail ∙ tail_enough h.0 h.1 (g.D.Disk.told c.args.disk.now) s lane c.args.rope.now h.2
    ∙ ap (λ (l : List ℕ). blocks_for s.journal.shape.block (length l)) (sym h.3) ∙ ap (λ (x : Shape). blocks_for x.block (length c.args.last.now)) (sym c.shape-shape.ensures)

pub write_samples-result-requires-clause-within : goal.write_samples-result-requires-clause-within
write_samples-result-requires-clause-within g c κs within =
    let s = c.args.self.now in
    let lane = c.args.lane in
    let h = c.requires.holds in
    let whole : c.total.result / c.shape-shape.result.block ≡ whole_in s lane = ap (λ n. n / c.shape-shape.result.block) c.total.ensures.own ∙ ap (λ (x : Shape). total_in (recording_at s.recordings lane) / x.block) c.shape-shape.ensures in
    let tail : c.tail_of-addresses.result.now ≡ last_addresses s lane c.args.rope.now = c.tail_of-addresses.ensures ∙ ap (λ n. drop n c.deref.result.now) whole ∙ ap (drop (whole_in s lane)) c.deref.ensures.value in
    subst (λ (x : Shape). AreBelow x.blocks c.tail_of-addresses.result.now) (sym c.shape-shape.ensures)
    (subst (λ (l : List ℕ). AreBelow s.journal.shape.blocks l) (sym tail) (tail_below h.0 h.1 (g.D.Disk.told c.args.disk.now) s lane c.args.rope.now h.2))

pub write_samples-result-requires-clause-differ : goal.write_samples-result-requires-clause-differ
write_samples-result-requires-clause-differ g c κs within =
    let s = c.args.self.now in
    let lane = c.args.lane in
    let h = c.requires.holds in
    let whole : c.total.result / c.shape-shape.result.block ≡ whole_in s lane = ap (λ n. n / c.shape-shape.result.block) c.total.ensures.own ∙ ap (λ (x : Shape). total_in (recording_at s.recordings lane) / x.block) c.shape-shape.ensures in
    let tail : c.tail_of-addresses.result.now ≡ last_addresses s lane c.args.rope.now = c.tail_of-addresses.ensures ∙ ap (λ n. drop n c.deref.result.now) whole ∙ ap (drop (whole_in s lane)) c.deref.ensures.value in
    subst (λ (l : List ℕ). AreDistinct l) (sym tail) (tail_distinct h.0 h.1 (g.D.Disk.told c.args.disk.now) s lane c.args.rope.now h.2)

pub returns-clause-made : goal.returns-clause-made
returns-clause-made g c =
    let s = c.args.self.now in
    let lane = c.args.lane in
    let h = c.requires.holds in
    let whole : c.total.result / c.shape-shape.result.block ≡ whole_in s lane = ap (λ n. n / c.shape-shape.result.block) c.total.ensures.own ∙ ap (λ (x : Shape). total_in (recording_at s.recordings lane) / x.block) c.shape-shape.ensures in
    let tail : c.tail_of-addresses.result.now ≡ last_addresses s lane c.args.rope.now = c.tail_of-addresses.ensures ∙ ap (λ n. drop n c.deref.result.now) whole ∙ ap (drop (whole_in s lane)) c.deref.ensures.value in
    let few = c.write_samples-result.ensures.few in
    let many = ap length tail ∙ tail_many h.0 h.1 (g.D.Disk.told c.args.disk.now) s lane c.args.rope.now h.2 in
    made_fewer (writes_for c.shape-shape.result.block c.tail_of-addresses.result.now (length c.args.last.now)) (length c.args.rope.now.addresses.items - whole_in s lane) (g.D.Disk.told c.args.disk.now) (g.D.Disk.told c.write_samples-result.new.disk)
    c.write_samples-result.result (omega (arith, few, many)) c.write_samples-result.ensures.made

pub returns-clause-written : goal.returns-clause-written
returns-clause-written g c = λ is.
    let s = c.args.self.now in
    let lane = c.args.lane in
    let whole : c.total.result / c.shape-shape.result.block ≡ whole_in s lane = ap (λ n. n / c.shape-shape.result.block) c.total.ensures.own ∙ ap (λ (x : Shape). total_in (recording_at s.recordings lane) / x.block) c.shape-shape.ensures in
    let tail : c.tail_of-addresses.result.now ≡ last_addresses s lane c.args.rope.now = c.tail_of-addresses.ensures ∙ ap (λ n. drop n c.deref.result.now) whole ∙ ap (drop (whole_in s lane)) c.deref.ensures.value in
    has_bytes c.write_samples-result.result (g.D.Disk.told c.write_samples-result.new.disk).bytes c.shape-shape.result s.journal.shape c.tail_of-addresses.result.now (last_addresses s lane c.args.rope.now)
    c.args.last.now c.args.last.now c.shape-shape.ensures tail refl (c.write_samples-result.ensures.written is)
