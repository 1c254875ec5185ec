-- A generated script in the language of scripts.
--     IsMade seed count m      m is what the bytes of the script of that seed, of so many lines, say
--     MadeIsRead      there is one for each seed, of 1 to 65,535 lines
use Rattle.std.specs.Prelude.{ℕ, ◌≡◌, ◌≤◌, map, length}
use Rattle.script_gen.specs.Lines.{file_name}
use Rattle.script_gen.specs.Scripts.{lines_of, script_of, files_of}
use Rattle.script_lang.specs.Grammar.{IsScript}
use Rattle.script_lang.specs.Verbs.{is_built_verb}
use Rattle.script_lang.specs.Shown.{Reading}

-- m is what the bytes of the script of that seed, of so many lines, say
pub record IsMade (seed count : ℕ) (m : Reading) : Type 0 where
  pub spelled : IsScript is_built_verb (script_of (lines_of seed count)) m
  -- so that there are as many tapes as sample files
  pub samples : m.samples ≡ map file_name (files_of (lines_of seed count))
  pub callers : m.callers ≤ 4
  pub lines : length m.lines ≡ count

-- each generated script of 1 to 65,535 lines is in the language
abbrev pub MadeIsRead : Type 0
MadeIsRead = (seed count : ℕ) → 1 ≤ count → count ≤ 65535 → (m : Reading) × IsMade seed count m
