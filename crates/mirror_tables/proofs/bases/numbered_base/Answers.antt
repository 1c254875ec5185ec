use Rattle.std.proofs.Common.{inl, refl}
use Rattle.checkpoint.proofs.Held.{used_alone}
use Rattle.mirror_tables.proofs.Sized.{base_numbered, numbered_fits}
use Rattle.mirror_tables.proofs.bases.numbered_base.Goals as goal

pub compact_parts-requires-clause-shown : goal.compact_parts-requires-clause-shown
compact_parts-requires-clause-shown c = (c.requires.0, used_alone c.args.parts.now c.requires.0 c.requires.1)

pub compact_parts-requires-clause-form : goal.compact_parts-requires-clause-form
compact_parts-requires-clause-form c = inl refl

pub returns-clause-base : goal.returns-clause-base
returns-clause-base c = λ b shows. base_numbered c.args.number b c.in_ok-base.base c.with_number.result (c.in_ok-base.ensures.base b (used_alone c.args.parts.now b shows)) c.with_number.ensures

pub returns-clause-size : goal.returns-clause-size
returns-clause-size c =
    let b = c.requires.0 in
    let shows = c.requires.1 in
    numbered_fits c.args.number c.args.parts.now b c.with_number.result shows (base_numbered c.args.number b c.in_ok-base.base c.with_number.result (c.in_ok-base.ensures.base b (used_alone c.args.parts.now b shows)) c.with_number.ensures)
