use Rattle.std.proofs.Common.{refl}
use Rattle.mirror_tables.proofs.Alike.{copied}
use Rattle.mirror_tables.proofs.beside.copy_of.Goals as goal

pub returns : goal.returns
returns c = copied c.args.parts.now _ c.in_ok-copy.ensures.ropes c.in_ok-copy.ensures.block c.in_ok-copy.ensures.uses c.in_ok-copy-2.ensures c.in_ok-copy-3.ensures refl refl refl
