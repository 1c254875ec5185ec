use Rattle.mirror_tables.proofs.beside.try_change.Goals as goal

pub returns : goal.returns
returns c = record { legal = c.apply.ensures.legal; done = c.apply.ensures.done; same = c.apply.ensures.same }
