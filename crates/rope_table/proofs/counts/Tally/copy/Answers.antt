use Rattle.std.proofs.Common.{◌∙◌, ap}
use Rattle.rope_table.specs.Table.{count_of}
use Rattle.rope_table.specs.Inside.{Tallied, count_in}
use Rattle.rope_table.proofs.Lives.{tallied_same}
use Rattle.rope_table.proofs.counts.Tally.copy.Goals as goal

pub invariant_of-result : goal.invariant_of-result
invariant_of-result c = tallied_same c.self.inside.counts c.in_ok-counts.counts c.self.inside.files c.in_ok-files.files c.self.inside.live c.self.invariant c.in_ok-counts.ensures c.in_ok-files.ensures

pub returns : goal.returns
returns c = λ q. ap (λ es. count_of es q) c.in_ok-counts.ensures ∙ ap (λ (t : Tallied). count_in t q) c.self.view_is
