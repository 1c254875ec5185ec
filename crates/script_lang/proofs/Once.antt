-- Bytes spell at most one script, or have one first bad line, and never both.
use Rattle.std.proofs.Common.{◌≡◌, ℕ, List, sym, ◌∙◌}
use Rattle.script_lang.specs.declared.scripts.Cause.{Cause}
use Rattle.script_lang.specs.Shown.{Reading}
use Rattle.script_lang.specs.Words.{lines_of}
use Rattle.script_lang.specs.Parts.{empty_script}
use Rattle.script_lang.specs.Grammar.{IsScript}
use Rattle.script_lang.specs.Causes.{FirstBad}
use Rattle.script_lang.proofs.Again.{Known, lines_again, bad_again, stopped_is, done_is, not_both}

pub one_script : (known : Known) (bytes : List ℕ) (m n : Reading) → IsScript known bytes m → IsScript known bytes n → m ≡ n
one_script known bytes m n p q = done_is m n (sym (lines_again known (lines_of bytes) 1 empty_script m p) ∙ lines_again known (lines_of bytes) 1 empty_script n q)

pub script_not_bad : (known : Known) (bytes : List ℕ) (m : Reading) (k : ℕ) (cause : Cause) → IsScript known bytes m → FirstBad known bytes k cause → ⊥
script_not_bad known bytes m k cause p b = not_both m k cause (sym (bad_again known (lines_of bytes) k cause b) ∙ lines_again known (lines_of bytes) 1 empty_script m p)

pub one_bad : (known : Known) (bytes : List ℕ) (k n : ℕ) (c d : Cause) → FirstBad known bytes k c → FirstBad known bytes n d → k ≡ n
one_bad known bytes k n c d p q = (stopped_is k n c d (sym (bad_again known (lines_of bytes) k c p) ∙ bad_again known (lines_of bytes) n d q)).0
