use Rattle.mirror_tables.proofs.tests.look_at_bases.Goals as goal

pub numbered_base-requires : goal.numbered_base-requires
numbered_base-requires g c = (c.requires.what, c.requires.shows)
