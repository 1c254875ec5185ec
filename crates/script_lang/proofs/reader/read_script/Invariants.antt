use Rattle.std.proofs.Common.{true, ◌≡◌, ◌+◌, ◌≤◌, length}
use Rattle.script_lang.specs.Words.{lines_of, is_clean}
use Rattle.script_lang.specs.Reading.{read_lines}
use Rattle.script_lang.specs.Parts.{empty_script}
use Rattle.script_lang.specs.Verbs.{verbs_of}
use Rattle.script_lang.proofs.reader.read_script.Given as goal

abbrev pub invariant-lines : goal.invariant-lines
invariant-lines l = record {
  read : read_lines (verbs_of l.built) 1 empty_script (lines_of l.fn.bytes) ≡ read_lines (verbs_of l.built) (l.number + 1) l.reader (lines_of l.rest);
  few : l.number ≤ 65535;
  samples : length l.reader.samples ≤ l.number;
  clean : l.clean ≡ true → is_clean l.rest ≡ true;
}

abbrev pub decreases-lines : goal.decreases-lines
decreases-lines l = length l.rest
