use Rattle.std.proofs.Common.{◌+◌, ◌*◌, ◌==◌, cond, ◌∙◌, ap, subst}
use Rattle.voice_model.specs.State.Effect.{Edited}
use Rattle.voice_store.specs.Stood.{last_of}
use Rattle.voice_store.specs.declared.ways.Way.{Way}
use Rattle.voice_store.specs.Ways.{IsWay}
use Rattle.voice_store.proofs.Making.{nothing_lands}
use Rattle.voice_store.proofs.Kept.{is_sure, base_now, frame_of, need_of, refused_full, has_way}
use Rattle.voice_store.proofs.inside.Inside.keep.Goals as goal

pub returns-in-Full-clause-stood : goal.returns-in-Full-clause-stood
returns-in-Full-clause-stood g c = λ first t0 makes.
    let s = c.args.self.now in
    let disk = g.D.Disk.told c.args.disk.now in
    let last = last_of first s in
    let frame = ap (λ n. 16 + 16 * n) (c.from.ensures ∙ c.count-count.ensures) ∙ frame_of first t0 disk s c.args.call c.args.pieces makes in
    let base = base_now first t0 disk s makes.stood makes.sure c.parts_size-base.result c.parts_size-base.ensures.size in
    let need = need_of first t0 disk s c.args.call c.args.pieces makes c.parts_size-base.result c.from-more.result base (c.from-more.ensures ∙ c.rope_size.ensures ∙ ap (λ n. 24 + cond (s.parts.form == 2) 1 0 + 16 * n) c.count-count.ensures) in
    let full = subst (λ (w : Way). IsWay last (Edited last.next makes.rope.samples) w) c.in-Full.is (c.in_ok-way.ensures last (Edited last.next makes.rope.samples) makes.stood.upright.seated base frame need) in
    c.refuse.ensures.stood first t0 makes.stood (nothing_lands last c.args.call (is_sure first t0 disk s makes.stood makes.sure).in_state)
    (refused_full first t0 disk s c.args.call c.args.pieces makes c.in-Full.most c.in-Full.left full)

pub keep_by-requires-clause-way : goal.keep_by-requires-clause-way
keep_by-requires-clause-way g c κs within =
    let s = c.args.self.now in
    let disk = g.D.Disk.told c.args.disk.now in
    let first = c.requires.makes.0 in
    let t0 = c.requires.makes.1 in
    let makes = c.requires.makes.2 in
    let last = last_of first s in
    let frame = ap (λ n. 16 + 16 * n) (c.from.ensures ∙ c.count-count.ensures) ∙ frame_of first t0 disk s c.args.call c.args.pieces makes in
    let base = base_now first t0 disk s makes.stood makes.sure c.parts_size-base.result c.parts_size-base.ensures.size in
    let need = need_of first t0 disk s c.args.call c.args.pieces makes c.parts_size-base.result c.from-more.result base (c.from-more.ensures ∙ c.rope_size.ensures ∙ ap (λ n. 24 + cond (s.parts.form == 2) 1 0 + 16 * n) c.count-count.ensures) in
    let goes = c.in_ok-way.ensures last (Edited last.next makes.rope.samples) makes.stood.upright.seated base frame need in
    (first, t0, has_way first t0 disk s c.args.call c.args.pieces makes _ goes c.in_default.not-Full)

pub returns-in_default-clause-stood : goal.returns-in_default-clause-stood
returns-in_default-clause-stood g c = λ first t0 makes.
    let s = c.args.self.now in
    let disk = g.D.Disk.told c.args.disk.now in
    let last = last_of first s in
    let frame = ap (λ n. 16 + 16 * n) (c.from.ensures ∙ c.count-count.ensures) ∙ frame_of first t0 disk s c.args.call c.args.pieces makes in
    let base = base_now first t0 disk s makes.stood makes.sure c.parts_size-base.result c.parts_size-base.ensures.size in
    let need = need_of first t0 disk s c.args.call c.args.pieces makes c.parts_size-base.result c.from-more.result base (c.from-more.ensures ∙ c.rope_size.ensures ∙ ap (λ n. 24 + cond (s.parts.form == 2) 1 0 + 16 * n) c.count-count.ensures) in
    let goes = c.in_ok-way.ensures last (Edited last.next makes.rope.samples) makes.stood.upright.seated base frame need in
    c.keep_by.ensures.stood first t0 (has_way first t0 disk s c.args.call c.args.pieces makes _ goes c.in_default.not-Full)

pub returns-in_default-clause-calls : goal.returns-in_default-clause-calls
returns-in_default-clause-calls g c = λ first t0 makes.
    let s = c.args.self.now in
    let disk = g.D.Disk.told c.args.disk.now in
    let last = last_of first s in
    let frame = ap (λ n. 16 + 16 * n) (c.from.ensures ∙ c.count-count.ensures) ∙ frame_of first t0 disk s c.args.call c.args.pieces makes in
    let base = base_now first t0 disk s makes.stood makes.sure c.parts_size-base.result c.parts_size-base.ensures.size in
    let need = need_of first t0 disk s c.args.call c.args.pieces makes c.parts_size-base.result c.from-more.result base (c.from-more.ensures ∙ c.rope_size.ensures ∙ ap (λ n. 24 + cond (s.parts.form == 2) 1 0 + 16 * n) c.count-count.ensures) in
    let goes = c.in_ok-way.ensures last (Edited last.next makes.rope.samples) makes.stood.upright.seated base frame need in
    c.keep_by.ensures.calls first t0 (has_way first t0 disk s c.args.call c.args.pieces makes _ goes c.in_default.not-Full)
