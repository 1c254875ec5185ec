use Rattle.voice_notes.specs.Anchors.{anchored, bad_place, with_keys}
use Rattle.voice_notes.proofs.Fronts.{SoFar}
use Rattle.voice_notes.proofs.notes.gathered_from.Given as goal

abbrev pub invariant-loop-place : goal.invariant-loop-place
invariant-loop-place l = SoFar l.note (with_keys l.fn.keys (anchored l.note)) (bad_place l.note) l.gathered l.place
