use Rattle.std.proofs.Common.{◌∙◌}
use Rattle.made_scripts.proofs.Reading.{read_is, never_refused, as_many}
use Rattle.made_scripts.proofs.making.made.Goals as goal

pub returns-in-Ok-clause-script : goal.returns-in-Ok-clause-script
returns-in-Ok-clause-script c =
    read_is c.args.seed c.args.lines c.requires.some c.requires.most c.as_slice.result.now (c.as_slice.ensures.value ∙ c.in_ok-bytes.ensures.script) c.in-Ok.script c.in-Ok.ensures.only

pub returns-in-Ok-clause-as_many : goal.returns-in-Ok-clause-as_many
returns-in-Ok-clause-as_many c =
    let made = read_is c.args.seed c.args.lines c.requires.some c.requires.most c.as_slice.result.now (c.as_slice.ensures.value ∙ c.in_ok-bytes.ensures.script) c.in-Ok.script c.in-Ok.ensures.only in
    as_many c.args.seed c.args.lines c.in-Ok.script made c.in_ok-bytes.tapes c.in_ok-bytes.ensures.tapes

pub unreachable-requires : goal.unreachable-requires
unreachable-requires c =
    never_refused c.args.seed c.args.lines c.requires.some c.requires.most c.as_slice.result.now (c.as_slice.ensures.value ∙ c.in_ok-bytes.ensures.script) c.in-Err-BadLine.field-0 _ _ c.in-Err-BadLine.field-0-is
    c.in-Err-BadLine.ensures.only
