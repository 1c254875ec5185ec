use Rattle.std.proofs.Common.{take}
use Rattle.std.specs.Fmt.{HasWritten, IsPlainFormatter}
use Rattle.voice_model.specs.Text.{hex}
use Rattle.voice_model.proofs.display.NoteDisplay.fmt.Given as goal

abbrev pub invariant-loop-b : goal.invariant-loop-b
invariant-loop-b g l =
    IsPlainFormatter l.initial.f → HasWritten g.W.Write.write_str_gives l.initial.f (hex (take l.b-index l.bytes)) l.f
