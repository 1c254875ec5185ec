-- The words of a conversion, and a word with the name of a file.
use Rattle.std.proofs.Common.{◌≡◌, ℕ, true, false, List, [], ◌∷◌, length, map, refl, sym, ap, ◌∙◌}
use Rattle.std.proofs.lemmas.Bool.{false≢true}
use Rattle.script_lang.specs.Forms.{is_file}
use Rattle.voice_main.specs.declared.convert.Way.{Way}
use Rattle.voice_main.specs.Conversions.{way_word}
use Rattle.voice_main.specs.Words.{IsConversion, IsNoConversion, IsNamed, IsNotNamed}

-- what three words ask for
parts : (way : Way) (verb source target s t : List ℕ) → IsConversion way (verb ∷ source ∷ target ∷ []) s t → (verb ≡ way_word way) × (source ≡ s) × (target ≡ t)
parts way verb source target s t is =
    let h : verb ∷ source ∷ target ∷ [] ≡ way_word way ∷ s ∷ t ∷ [] = is.form in
    let a : verb ≡ way_word way = cc in let b : source ≡ s = cc in let c : target ≡ t = cc in (a, b, c)

pub no_way : (verb source target : List ℕ) → ((way : Way) → verb ≡ way_word way → ⊥) → IsNoConversion (verb ∷ source ∷ target ∷ [])
no_way verb source target none way s t is = none way (parts way verb source target s t is).0

pub no_source : (verb source target : List ℕ) → is_file source ≡ false → IsNoConversion (verb ∷ source ∷ target ∷ [])
no_source verb source target none way s t is = false≢true (sym none ∙ ap is_file (parts way verb source target s t is).1 ∙ is.source_file)

pub no_target : (verb source target : List ℕ) → is_file target ≡ false → IsNoConversion (verb ∷ source ∷ target ∷ [])
no_target verb source target none way s t is = false≢true (sym none ∙ ap is_file (parts way verb source target s t is).2 ∙ is.target_file)

pub conversion_of : (way : Way) (verb source target s t : List ℕ) → verb ≡ way_word way → is_file source ≡ true → s ≡ source → is_file target ≡ true → t ≡ target → IsConversion way (verb ∷ source ∷ target ∷ []) s t
conversion_of way verb source target s t e f same g alike = record {
  form = ap (λ v. v ∷ source ∷ target ∷ []) e ∙ ap (λ n. way_word way ∷ n ∷ target ∷ []) (sym same) ∙ ap (λ n. way_word way ∷ s ∷ n ∷ []) (sym alike);
  source_file = ap is_file same ∙ f;
  target_file = ap is_file alike ∙ g;
}

-- fewer or more words than three
pub not_three : {X : Type 0} (f : X → List ℕ) (xs : List X) → ¬ (length xs ≡ 3) → IsNoConversion (map f xs)
not_three f [] other way s t is = let h : [] ≡ way_word way ∷ s ∷ t ∷ [] = is.form in cc
not_three f (a ∷ []) other way s t is = let h : f a ∷ [] ≡ way_word way ∷ s ∷ t ∷ [] = is.form in cc
not_three f (a ∷ b ∷ []) other way s t is = let h : f a ∷ f b ∷ [] ≡ way_word way ∷ s ∷ t ∷ [] = is.form in cc
not_three f (a ∷ b ∷ c ∷ []) other way s t is = other refl
not_three f (a ∷ b ∷ c ∷ d ∷ xs) other way s t is = let h : f a ∷ f b ∷ f c ∷ f d ∷ map f xs ≡ way_word way ∷ s ∷ t ∷ [] = is.form in cc

-- ---- a word with the name of a file

name_parts : (word verb file name : List ℕ) → IsNamed word (verb ∷ file ∷ []) name → (verb ≡ word) × (file ≡ name)
name_parts word verb file name is = let h : verb ∷ file ∷ [] ≡ word ∷ name ∷ [] = is.form in let a : verb ≡ word = cc in let b : file ≡ name = cc in (a, b)

pub other_word : (word verb file : List ℕ) → ¬ (verb ≡ word) → IsNotNamed word (verb ∷ file ∷ [])
other_word word verb file other name is = other (name_parts word verb file name is).0

pub no_file : (word verb file : List ℕ) → is_file file ≡ false → IsNotNamed word (verb ∷ file ∷ [])
no_file word verb file none name is = false≢true (sym none ∙ ap is_file (name_parts word verb file name is).1 ∙ is.file)

pub named_by : (word verb file name : List ℕ) → verb ≡ word → is_file file ≡ true → name ≡ file → IsNamed word (verb ∷ file ∷ []) name
named_by word verb file name e has same = record { form = ap (λ v. v ∷ file ∷ []) e ∙ ap (λ n. word ∷ n ∷ []) (sym same); file = ap is_file same ∙ has }

-- fewer or more words than two
pub not_two : {X : Type 0} (word : List ℕ) (f : X → List ℕ) (xs : List X) → ¬ (length xs ≡ 2) → IsNotNamed word (map f xs)
not_two word f [] other name is = let h : [] ≡ word ∷ name ∷ [] = is.form in cc
not_two word f (a ∷ []) other name is = let h : f a ∷ [] ≡ word ∷ name ∷ [] = is.form in cc
not_two word f (a ∷ b ∷ []) other name is = other refl
not_two word f (a ∷ b ∷ c ∷ xs) other name is = let h : f a ∷ f b ∷ f c ∷ map f xs ≡ word ∷ name ∷ [] = is.form in cc
