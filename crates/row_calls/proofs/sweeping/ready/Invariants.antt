use Rattle.row_calls.proofs.sweeping.ready.Given as goal

abbrev pub ghosts-ready_by : goal.ghosts-ready_by
ghosts-ready_by a = record { name = a.blank.name; parts = a.blank.parts }
