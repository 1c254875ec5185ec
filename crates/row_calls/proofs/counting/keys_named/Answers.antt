use Rattle.row_calls.proofs.Grown.{named_few, named_keys}
use Rattle.row_calls.proofs.counting.keys_named.Goals as goal

pub returns-then-payload-lt3 : goal.returns-then-payload-lt3
returns-then-payload-lt3 c = λ keys is grammar. named_few c.args.payload.now keys is c.if-payload-lt3.true

pub returns : goal.returns
returns c = λ keys is grammar. named_keys c.args.payload.now keys is grammar
