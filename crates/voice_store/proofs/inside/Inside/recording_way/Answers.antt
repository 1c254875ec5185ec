use Rattle.std.proofs.Common.{◌+◌, ◌*◌, ◌==◌, cond, ◌∙◌, ap}
use Rattle.voice_units.specs.declared.shapes.Shape.{Shape}
use Rattle.voice_units.specs.Blocks.{blocks_for}
use Rattle.voice_model.specs.Changes.{address_size}
use Rattle.voice_store.specs.Keeping.{recording_of}
use Rattle.voice_store.proofs.Sized.{frame_sized, base_sized, need_sized}
use Rattle.voice_store.proofs.inside.Inside.recording_way.Goals as goal

pub returns : goal.returns
returns c = λ last bytes seated shows many.
    let s = c.args.self.now in
    let len = c.args.len in
    let frame = ap (λ n. 22 + c.address_width.result * n) (c.from-blocks.ensures ∙ c.blocks_needed.ensures ∙ ap (λ (x : Shape). blocks_for x.block len) c.shape-shape.ensures)
    ∙ ap (λ w. 22 + w * blocks_for s.journal.shape.block len) c.address_width.ensures ∙ frame_sized s last seated shows bytes len many in
    let base = base_sized s last seated shows bytes len many c.parts_size-base.result c.parts_size-base.ensures.size in
    let need = need_sized s last seated shows bytes len many c.parts_size-base.result c.from-more.result base
    (c.from-more.ensures ∙ c.growth.ensures ∙ ap (λ (x : Shape). 24 + cond (s.parts.form == 2) 1 0 + cond (len == 0) 0 (34 + (4 + address_size s.parts.form) * blocks_for x.block len)) c.shape-shape.ensures) in
    c.way.ensures last (recording_of last bytes) seated base frame need
