use Rattle.std.proofs.Common.{sym, ◌∙◌, ap}
use Rattle.checkpoint.specs.Size.{size_by_numbers}
use Rattle.checkpoint.proofs.Shown.{size_shown}
use Rattle.checkpoint.proofs.sizes.parts_size.Goals as goal

pub returns-clause-size : goal.returns-clause-size
returns-clause-size c = λ held d fill shows spots.
    let parts = c.args.parts.now in
    c.framed_bytes.ensures ∙ ap (size_by_numbers parts.form) c.counted.ensures
    ∙ sym (size_shown fill spots parts.form held parts.ropes parts.interests.rows parts.moment parts.next d shows)
