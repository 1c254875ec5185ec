use Rattle.std.proofs.Common.{◌≡◌, take}
use Rattle.voice_notes.specs.Anchors.{SameKeys}
use Rattle.voice_notes.proofs.gathered.Gathered.of.Given as goal

abbrev pub invariant-loop-key : goal.invariant-loop-key
invariant-loop-key l = record { items : l.copied.items ≡ take l.key-index l.keys; same : SameKeys l.known.keys l.copied.items }
