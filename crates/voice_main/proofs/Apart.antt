-- An option that is given: what it leaves of the others.
--     name_of option      its word without the dashes
--     place option      its place among all
use Rattle.std.proofs.Common.{◌≡◌, ◌∙◌, ℕ, List, [], ◌∷◌, ◌++◌, get_or, set, Option, Some, None, sym, refl, ap}
use Rattle.std.specs.Prelude.{codes}
use Rattle.std.proofs.lemmas.List.{get_or-set_other}
use Rattle.voice_main.specs.declared.options.FormatOption.{FormatOption}
use Rattle.voice_main.specs.declared.options.FormatOption.TheVariants as options
use Rattle.voice_main.specs.declared.options.Given.{Given}
use Rattle.voice_main.specs.Options.{all_options, option_named, value_given, with_value}
use Rattle.voice_main.proofs.Pairing.{some_is}

abbrev pub name_of : FormatOption → List ℕ
name_of options.Block = codes "block"
name_of options.Blocks = codes "blocks"
name_of options.Area = codes "area"
name_of options.Grace = codes "grace"
name_of options.Held = codes "held"
name_of options.Until = codes "until"
name_of options.Listed = codes "listed"
name_of options.Lanes = codes "lanes"

named_by : (option : FormatOption) → option_named (codes "--" ++ name_of option) ≡ Some option
named_by options.Block = refl
named_by options.Blocks = refl
named_by options.Area = refl
named_by options.Grace = refl
named_by options.Held = refl
named_by options.Until = refl
named_by options.Listed = refl
named_by options.Lanes = refl

-- the names differ
pub one_name : (o p : FormatOption) → name_of o ≡ name_of p → o ≡ p
one_name o p e = some_is o p (sym (named_by o) ∙ ap (λ name. option_named (codes "--" ++ name)) e ∙ named_by p)

place : FormatOption → ℕ
place options.Block = 0
place options.Blocks = 1
place options.Area = 2
place options.Grace = 3
place options.Held = 4
place options.Until = 5
place options.Listed = 6
place options.Lanes = 7

abbrev values : Given → List (Option ℕ)
values given = given.block ∷ given.blocks ∷ given.area ∷ given.grace ∷ given.held ∷ given.until ∷ given.listed ∷ given.lanes ∷ []

placed : (option : FormatOption) → get_or all_options (place option) options.Block ≡ option
unfolding place
placed options.Block = refl
placed options.Blocks = refl
placed options.Area = refl
placed options.Grace = refl
placed options.Held = refl
placed options.Until = refl
placed options.Listed = refl
placed options.Lanes = refl

value_placed : (option : FormatOption) (given : Given) → value_given option given ≡ get_or (values given) (place option) None
unfolding place
value_placed options.Block given = refl
value_placed options.Blocks given = refl
value_placed options.Area given = refl
value_placed options.Grace given = refl
value_placed options.Held given = refl
value_placed options.Until given = refl
value_placed options.Listed given = refl
value_placed options.Lanes given = refl

with_placed : (option : FormatOption) (n : ℕ) (given : Given) → values (with_value option n given) ≡ set (values given) (place option) (Some n)
unfolding place
with_placed options.Block n given = refl
with_placed options.Blocks n given = refl
with_placed options.Area n given = refl
with_placed options.Grace n given = refl
with_placed options.Held n given = refl
with_placed options.Until n given = refl
with_placed options.Listed n given = refl
with_placed options.Lanes n given = refl

pub value_own : (option : FormatOption) (n : ℕ) (given : Given) → value_given option (with_value option n given) ≡ Some n
value_own options.Block n given = refl
value_own options.Blocks n given = refl
value_own options.Area n given = refl
value_own options.Grace n given = refl
value_own options.Held n given = refl
value_own options.Until n given = refl
value_own options.Listed n given = refl
value_own options.Lanes n given = refl

-- the other options keep their values
pub value_other : (o p : FormatOption) (n : ℕ) (given : Given) → (p ≡ o → ⊥) → value_given p (with_value o n given) ≡ value_given p given
value_other o p n given differ =
    value_placed p (with_value o n given) ∙ ap (λ all. get_or all (place p) None) (with_placed o n given)
    ∙ get_or-set_other (values given) (place o) (place p) (Some n) None (λ same. differ (sym (placed p) ∙ ap (λ at. get_or all_options at options.Block) same ∙ placed o))
    ∙ sym (value_placed p given)
