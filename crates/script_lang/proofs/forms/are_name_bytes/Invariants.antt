use Rattle.std.proofs.Common.{◌≡◌, take}
use Rattle.std.specs.List.{list_all}
use Rattle.script_lang.specs.Forms.{is_name_byte}
use Rattle.script_lang.proofs.forms.are_name_bytes.Given as goal

abbrev pub invariant-loop-c : goal.invariant-loop-c
invariant-loop-c l = l.all ≡ list_all is_name_byte (take l.c-index l.word)
