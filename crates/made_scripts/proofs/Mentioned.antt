-- The sample files of a generated script are those that the language takes from its lines.
use Rattle.std.proofs.Common.{◌≡◌, ℕ, Bool, true, false, cond, eqb, ◌||◌, List, [], ◌∷◌, ◌++◌, drop, map, sym, refl, ap, ◌∙◌, arith, Some}
use Rattle.std.specs.Str.{bytes_eq}
use Rattle.std.specs.List.{list_any}
use Rattle.std.proofs.lemmas.Bool.Decides.{Decides-eqb}
use Rattle.std.proofs.lemmas.Fmt.{decimal_injective}
use Rattle.std.proofs.lemmas.List.{map-append}
use Rattle.std.proofs.lemmas.Slice.Eq.{bytes_eq-Decides}
use Rattle.script_gen.specs.Lines.{file_name}
use Rattle.script_gen.specs.Scripts as made
use Rattle.script_lang.specs.Grammar.{Every}
use Rattle.script_lang.specs.Parts.{mention}
use Rattle.script_lang.proofs.Names.{mention_is}
use Rattle.made_scripts.proofs.Named.{Few}

-- two tests that pass together are equal
alike : (p q : Bool) → (p ≡ true → q ≡ true) → (q ≡ true → p ≡ true) → p ≡ q
alike true q f g = sym (f refl)
alike false true f g = g refl
alike false false f g = refl

one_file : (f m : ℕ) → Few f → Few m → file_name f ≡ file_name m → m ≡ f
one_file f m few small e = sym (decimal_injective f m (omega arith) (omega arith) (ap (drop 1) e))

same_name : (f m : ℕ) → Few f → Few m → bytes_eq (file_name f) (file_name m) ≡ eqb m f
same_name f m few small =
    alike (bytes_eq (file_name f) (file_name m)) (eqb m f) (λ t. (Decides-eqb m f).1 (one_file f m few small ((bytes_eq-Decides (file_name f) (file_name m)).0 t)))
    (λ t. (bytes_eq-Decides (file_name f) (file_name m)).1 (ap file_name (sym ((Decides-eqb m f).0 t))))

any_same : (files : List ℕ) (f : ℕ) → Every Few files → Few f → list_any (bytes_eq (file_name f)) (map file_name files) ≡ list_any (λ m. eqb m f) files
any_same [] f h few = refl
any_same (m ∷ files) f h few =
    ap (λ t. t || list_any (bytes_eq (file_name f)) (map file_name files)) (same_name f m few h.0) ∙ ap (λ t. eqb m f || t) (any_same files f h.1 few)

pulled : (t : Bool) (files : List ℕ) (f : ℕ) → cond t (map file_name files) (map file_name files ++ file_name f ∷ []) ≡ map file_name (cond t files (files ++ f ∷ []))
pulled true files f = refl
pulled false files f = sym (map-append file_name files (f ∷ []))

-- a file that is mentioned next
pub mention_same : (files : List ℕ) (f : ℕ) → Every Few files → Few f → mention (map file_name files) (Some (file_name f)) ≡ map file_name (made.mention files (Some f))
mention_same files f h few =
    sym (mention_is (map file_name files) (file_name f))
    ∙ ap (λ t. cond t (map file_name files) (map file_name files ++ file_name f ∷ [])) (any_same files f h few)
    ∙ pulled (list_any (λ m. eqb m f) files) files f

every_push : {X : Type 0} (P : X → Type 0) (xs : List X) (y : X) → Every P xs → P y → Every P (xs ++ y ∷ [])
every_push P [] y h p = (p, tt)
every_push P (x ∷ xs) y h p = (h.0, every_push P xs y h.1 p)

either : (t : Bool) (files : List ℕ) (f : ℕ) → Every Few files → Few f → Every Few (cond t files (files ++ f ∷ []))
either true files f h few = h
either false files f h few = every_push Few files f h few

pub mention_few : (files : List ℕ) (f : ℕ) → Every Few files → Few f → Every Few (made.mention files (Some f))
mention_few files f h few = either (list_any (λ m. eqb m f) files) files f h few
