use Rattle.std.specs.HashSet as bag
use Rattle.std.proofs.lemmas.Iterator.{YieldsList-from_slice}
use Rattle.std.proofs.lemmas.Iterator.Adapters.{fact_from_collect}
use Rattle.std.proofs.lemmas.Iterator.Consumers.{YieldsList-from_copied}
use Rattle.std.specs.Prelude.{bytes_eq}
use Rattle.interest_table.proofs.Keys.{named_by}
use Rattle.interest_table.proofs.going.collect_keys.Goals as goal

pub returns : goal.returns
returns c =
    let road = YieldsList-from_copied (YieldsList-from_slice c.args.keys.now cc) in
    let got = fact_from_collect (λ ys s. bag.IsFromIterResult bytes_eq ys s) c.collect.result c.collect.ensures.ran road in
    named_by c.collect.result c.args.keys.now got
