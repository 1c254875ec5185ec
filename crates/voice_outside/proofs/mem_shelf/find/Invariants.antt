use Rattle.std.proofs.Common.{◌≡◌, drop}
use Rattle.voice_outside.specs.Files.{named, found}
use Rattle.voice_outside.proofs.mem_shelf.find.Given as goal

-- it isn't among those that were looked at
abbrev pub invariant-loop-file : goal.invariant-loop-file
invariant-loop-file l = found l.name (named (drop l.file-index l.files)) ≡ found l.name (named l.files)
