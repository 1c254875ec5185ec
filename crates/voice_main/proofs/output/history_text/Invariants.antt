use Rattle.std.proofs.Common.{◌≡◌, take}
use Rattle.voice_model.specs.Text.{text_of}
use Rattle.voice_main.proofs.output.history_text.Given as goal

abbrev pub invariant-loop-i : goal.invariant-loop-i
invariant-loop-i l = l.text.items ≡ text_of (take l.i l.history)
