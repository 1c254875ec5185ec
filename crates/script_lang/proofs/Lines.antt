-- One line more.
use Rattle.std.proofs.Common.{◌≡◌, ℕ, ◌+◌, List, ◌∷◌, map, ap, ◌∙◌, Ok, Err}
use Rattle.script_lang.specs.Words.{lines_of, parts, is_end, without_return}
use Rattle.script_lang.specs.Reading.{read_lines, step, at_line}
use Rattle.script_lang.specs.Shown.{Reading}
use Rattle.script_lang.specs.declared.scripts.Cause.{Cause}
use Rattle.std.specs.Prelude.{Result, Bool}
use Rattle.script_lang.specs.declared.verbs.VerbName.{VerbName}

abbrev All : Type 0
All = Result Reading (ℕ × Cause)

pub line_adds : (known : VerbName → Bool) (whole : All) (rest line more : List ℕ) (n : ℕ) (r m : Reading) → whole ≡ read_lines known n r (lines_of rest) → parts is_end rest ≡ line ∷ parts is_end more →
    step known n r (without_return line) ≡ Ok m → whole ≡ read_lines known (n + 1) m (lines_of more)
line_adds known whole rest line more n r m e cut one =
    e ∙ ap (λ ls. read_lines known n r (map without_return ls)) cut ∙ ap (λ s. at_line n s (λ t. read_lines known (n + 1) t (lines_of more))) one

pub line_stops : (known : VerbName → Bool) (whole : All) (rest line more : List ℕ) (n : ℕ) (r : Reading) (cause : Cause) → whole ≡ read_lines known n r (lines_of rest) → parts is_end rest ≡ line ∷ parts is_end more →
    step known n r (without_return line) ≡ Err cause → whole ≡ Err (n, cause)
line_stops known whole rest line more n r cause e cut one =
    e ∙ ap (λ ls. read_lines known n r (map without_return ls)) cut ∙ ap (λ s. at_line n s (λ t. read_lines known (n + 1) t (lines_of more))) one
