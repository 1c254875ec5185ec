use Rattle.table_measures.proofs.ropes.due_now.Given as goal

abbrev pub ghosts-due_at : goal.ghosts-due_at
ghosts-due_at a = record { name = a.blank.name; parts = a.blank.parts }
