use Rattle.mirror_sender.proofs.tests.row_script.Goals as goal

pub noted-requires-clause-within : goal.noted-requires-clause-within
noted-requires-clause-within c = c.retain-comes.ensures.within c.args.tapes.now
