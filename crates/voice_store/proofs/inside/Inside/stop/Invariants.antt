use Rattle.voice_store.proofs.inside.Inside.stop.Given as goal

abbrev pub ghosts-stop_by : goal.ghosts-stop_by
ghosts-stop_by g a = record { name = a.blank.name; parts = a.blank.parts }
