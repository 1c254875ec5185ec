use Rattle.std.proofs.Common.{refl, arith}
use Rattle.open_recordings.proofs.Counted.{taken_few}
use Rattle.open_recordings.proofs.Fewer.{shrunk}
use Rattle.open_recordings.proofs.growing.shrink.Goals as goal

pub drop_blocks-requires : goal.drop_blocks-requires
drop_blocks-requires c =
    let few = taken_few c.requires.0 c.requires.1 c.requires.2 c.args.parts.now c.requires.3 c.args.lane c.requires.4 in
    let has = c.requires.5 in
    omega (arith, few, has)

pub returns-clause-runs : goal.returns-clause-runs
returns-clause-runs c = λ held pledged takings more b runs has grows.
    let old = c.args.parts.now in
    shrunk held pledged takings more old (record old { blocks = c.drop_blocks.new.blocks }) b c.args.lane c.args.from c.args.n runs runs.kept refl c.drop_blocks.ensures has grows
