use Rattle.mirror_tables.proofs.Alike.{same_parts}
use Rattle.mirror_tables.proofs.tests.follow.Goals as goal

pub look_at_bases-requires : goal.look_at_bases-requires
look_at_bases-requires g c = same_parts c.args.shape.now c.followed.new.parts c.in_ok-tables-2.tables c.in_ok-tables-2.ensures.parts c.in_ok-tables-2.ensures.same

pub look_for_addresses-requires : goal.look_for_addresses-requires
look_for_addresses-requires g c = same_parts c.args.shape.now c.followed.new.parts c.in_ok-tables-2.tables c.in_ok-tables-2.ensures.parts c.in_ok-tables-2.ensures.same
