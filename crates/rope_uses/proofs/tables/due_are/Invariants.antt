use Rattle.rope_uses.proofs.tables.due_are.Given as goal

abbrev pub ghosts-are_due : goal.ghosts-are_due
ghosts-are_due a = record { name = a.blank.name; parts = a.blank.parts }
