use Rattle.rope_uses.proofs.collections.freed_beside.Given as goal

abbrev pub ghosts-released : goal.ghosts-released
ghosts-released a = record { name = a.blank.name; parts = a.blank.parts }
