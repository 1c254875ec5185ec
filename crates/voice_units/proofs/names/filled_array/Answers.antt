use Rattle.std.proofs.Common.{◌++◌, length, drop, ap, ◌∙◌, replicate}
use Rattle.std.proofs.lemmas.List.{drop-replicate}
use Rattle.voice_units.proofs.names.filled_array.Goals as goal

pub returns : goal.returns
returns g c =
    ap (λ front. front ++ drop (length c.args.bytes.now) (replicate g.row.N 0)) c.copy_from_slice.ensures.after
    ∙ ap (λ rest. c.args.bytes.now ++ rest) (drop-replicate (length c.args.bytes.now) g.row.N 0)
