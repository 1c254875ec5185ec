use Rattle.mirror_tables.proofs.tests.look_for_addresses.Goals as goal

pub free_addresses-requires : goal.free_addresses-requires
free_addresses-requires g c = (c.requires.what, c.requires.shows)

pub free_addresses-requires-2 : goal.free_addresses-requires-2
free_addresses-requires-2 g c = (c.requires.what, c.free_addresses.ensures.same c.requires.what c.requires.shows)
