use Rattle.std.proofs.Common.{arith}
use Rattle.rope_table.proofs.Filings.{filed_most, once_le}
use Rattle.rope_table.proofs.files.FileCounts.change.Goals as goal

pub recounted-self-inside-requires-clause-fits : goal.recounted-self-inside-requires-clause-fits
recounted-self-inside-requires-clause-fits c =
    let most = filed_most c.self.inside.files.entries in
    let one = once_le c.change.result.1 in
    omega (arith, most, one, c.self.invariant.total, c.len-most.ensures.len, c.len-most.ensures.small)
