use Rattle.voice_main.specs.Load.{bytes_of}
use Rattle.voice_main.proofs.Noted.{Gathered}
use Rattle.voice_main.proofs.notes.keys_in.Given as goal

abbrev pub invariant-loop-i : goal.invariant-loop-i
invariant-loop-i l = Gathered (bytes_of l.notes) l.i l.keys
