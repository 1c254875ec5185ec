-- A script and one more line.
use Rattle.std.proofs.Common.{◌≡◌, ℕ, ◌+◌, List, [], ◌∷◌, ◌++◌, sym, ap, ◌∙◌, arith, add-one, append-nil}
use Rattle.std.proofs.lemmas.List.Concat.{flat_map-append}
use Rattle.std.proofs.lemmas.List.FromFn.{map-range_with_len_more}
use Rattle.script_gen.specs.declared.lines.Line.{Line}
use Rattle.script_gen.specs.Lines.{line_of, after_line, line_text}
use Rattle.script_gen.specs.Scripts.{state_before, line, lines_of, script_of, files_of, file_of, mention}
use Rattle.script_gen.proofs.Mentions.{files_of-push}

-- what stands before line k
pub record IsMade (seed k state : ℕ) (script files : List ℕ) : Type 0 where
  pub drawn : state ≡ state_before seed k
  pub written : script ≡ script_of (lines_of seed k)
  pub mentioned : files ≡ files_of (lines_of seed k)

lines_of-push : (seed k x : ℕ) → x ≡ state_before seed k → lines_of seed (k + 1) ≡ lines_of seed k ++ line_of k x ∷ []
unfolding line
lines_of-push seed k x e =
    map-range_with_len_more (line seed) 0 k k (omega arith) ∙ ap (λ y. lines_of seed k ++ line_of k y ∷ []) (sym e)

script_of-push : (ls : List Line) (l : Line) → script_of (ls ++ l ∷ []) ≡ script_of ls ++ (line_text l ++ 10 ∷ [])
script_of-push ls l =
    flat_map-append (λ m. line_text m ++ 10 ∷ []) ls (l ∷ []) ∙ ap (λ bytes. script_of ls ++ bytes) (append-nil (line_text l ++ 10 ∷ []))

pub made_more : (seed k x : ℕ) (script files : List ℕ) → IsMade seed k x script files
    → IsMade seed (k + 1) (after_line x) (script ++ (line_text (line_of k x) ++ 10 ∷ [])) (mention files (file_of (line_of k x).order))
made_more seed k x script files h =
    let more = lines_of-push seed k x h.drawn in
    record {
      drawn = ap after_line h.drawn ∙ sym (ap (state_before seed) (add-one k));
      written = ap (λ bytes. bytes ++ (line_text (line_of k x) ++ 10 ∷ [])) h.written ∙ sym (script_of-push (lines_of seed k) (line_of k x)) ∙ sym (ap script_of more);
      mentioned = ap (λ seen. mention seen (file_of (line_of k x).order)) h.mentioned ∙ sym (files_of-push (lines_of seed k) (line_of k x)) ∙ sym (ap files_of more);
    }
