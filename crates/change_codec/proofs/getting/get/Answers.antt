use Rattle.change_codec.proofs.Answers.{answer, bytes_from}
use Rattle.change_codec.proofs.getting.get.Goals as goal

pub returns-clause-ok : goal.returns-clause-ok
returns-clause-ok c = (answer c.args.bytes.now c.read.result (bytes_from c.args.bytes.now c.type_inv.bytes) c.read.ensures.place c.read.ensures.value).ok

pub returns-clause-refusal : goal.returns-clause-refusal
returns-clause-refusal c = (answer c.args.bytes.now c.read.result (bytes_from c.args.bytes.now c.type_inv.bytes) c.read.ensures.place c.read.ensures.value).refusal

pub returns-clause-exact : goal.returns-clause-exact
returns-clause-exact c = (answer c.args.bytes.now c.read.result (bytes_from c.args.bytes.now c.type_inv.bytes) c.read.ensures.place c.read.ensures.value).exact
