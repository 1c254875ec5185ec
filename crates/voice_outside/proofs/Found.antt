-- What stands under a name, one file on.
use Rattle.std.proofs.Common.{◌≡◌, ℕ, ◌+◌, ◌<◌, Bool, true, false, cond, List, ◌∷◌, length, get_or, drop, Some, sym, ap, ◌∙◌, Vec, Global}
use Rattle.std.specs.Str.{bytes_eq}
use Rattle.std.proofs.lemmas.Map.Text.{is_eq-slice_cmp}
use Rattle.std.proofs.lemmas.List.{at_drop_more}
use Rattle.voice_outside.specs.Files.{named, found}

pub found-step : (name : List ℕ) (files : List (List ℕ × Vec ℕ Global)) (i : ℕ) (file : List ℕ × Vec ℕ Global) → i < length files → file ≡ get_or files i file →
    found name (named (drop i files)) ≡ cond (bytes_eq name file.0) (Some file.1.items) (found name (named (drop (i + 1) files)))
found-step name files i file within is =
    at_drop_more (λ fs. found name (named fs)) files i file within
    ∙ ap (λ f. found name (named (f ∷ drop (i + 1) files))) (sym is)
    ∙ ap (λ b. cond b (Some file.1.items) (found name (named (drop (i + 1) files)))) (is_eq-slice_cmp name file.0)

-- as the loop meets it: the two texts that are compared are the name and the file's name
pub found-other : (name : List ℕ) (files : List (List ℕ × Vec ℕ Global)) (i : ℕ) (file : List ℕ × Vec ℕ Global) (r : Bool) (a b : List ℕ) → i < length files → file ≡ get_or files i file →
    a ≡ name → b ≡ file.0 → r ≡ bytes_eq a b → r ≡ false → found name (named (drop (i + 1) files)) ≡ found name (named (drop i files))
found-other name files i file r a b within is first second tested is_no =
    let e : bytes_eq name file.0 ≡ false = ap (λ n. bytes_eq n file.0) (sym first) ∙ ap (bytes_eq a) (sym second) ∙ sym tested ∙ is_no in
    sym (found-step name files i file within is ∙ ap (λ t. cond t (Some file.1.items) (found name (named (drop (i + 1) files)))) e)

pub found-here : (name : List ℕ) (files : List (List ℕ × Vec ℕ Global)) (i : ℕ) (file : List ℕ × Vec ℕ Global) (r : Bool) (a b : List ℕ) → i < length files → file ≡ get_or files i file →
    a ≡ name → b ≡ file.0 → r ≡ bytes_eq a b → r ≡ true → found name (named (drop i files)) ≡ Some file.1.items
found-here name files i file r a b within is first second tested is_yes =
    let e : bytes_eq name file.0 ≡ true = ap (λ n. bytes_eq n file.0) (sym first) ∙ ap (bytes_eq a) (sym second) ∙ sym tested ∙ is_yes in
    found-step name files i file within is ∙ ap (λ t. cond t (Some file.1.items) (found name (named (drop (i + 1) files)))) e
