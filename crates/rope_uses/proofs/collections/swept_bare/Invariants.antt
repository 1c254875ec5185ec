use Rattle.rope_uses.proofs.collections.swept_bare.Given as goal

abbrev pub ghosts-swept : goal.ghosts-swept
ghosts-swept a = record { name = a.blank.name; parts = a.blank.parts }
