use Rattle.std.proofs.Common.{◌≡◌, drop}
use Rattle.voice_model.specs.Changes.{rows_left}
use Rattle.voice_model.specs.Replay.{each_listed}
use Rattle.recovery.proofs.census.are_listed.Given as goal

abbrev pub invariant-loop-key : goal.invariant-loop-key
invariant-loop-key l = each_listed l.interests.rows l.keys ≡ each_listed (rows_left l.interests.rows l.noted.keys) (drop l.key-index l.keys)
