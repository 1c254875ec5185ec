use Rattle.change_uses.proofs.rows.sweep.Given as goal

abbrev pub ghosts-sweep_with : goal.ghosts-sweep_with
ghosts-sweep_with a = record { name = a.blank.name; parts = a.blank.parts }
