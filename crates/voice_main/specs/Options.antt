-- The options of a `format`.
--     option_text option      its word
--     with_value option n given, value_given option given      an option is given;  what was given for it
--     Gives given words end      the words are pairs of an option that wasn't given before and its value
--     numbers_of given      the numbers of a shape, each a default where it wasn't given; that of a class is the common grace
use Rattle.std.specs.Prelude.{ℕ, List, [], ◌∷◌, ◌≡◌, ◌≤◌, Option, Some, None, codes, unwrap_or}
use Rattle.std.specs.List.{find}
use Rattle.std.specs.Str.{bytes_eq}
use Rattle.std.specs.Fmt.{decimal}
use Rattle.voice_main.specs.declared.options.FormatOption.{FormatOption}
use Rattle.voice_main.specs.declared.options.FormatOption.TheVariants as options
use Rattle.voice_main.specs.declared.options.Given.{Given}
use Rattle.voice_main.specs.declared.options.FormatNumbers.{FormatNumbers}

abbrev pub option_text : FormatOption → List ℕ
option_text options.Block = codes "--block"
option_text options.Blocks = codes "--blocks"
option_text options.Area = codes "--area"
option_text options.Grace = codes "--grace"
option_text options.Held = codes "--held"
option_text options.Until = codes "--until"
option_text options.Listed = codes "--listed"
option_text options.Lanes = codes "--lanes"

abbrev pub all_options : List FormatOption
all_options = options.Block ∷ options.Blocks ∷ options.Area ∷ options.Grace ∷ options.Held ∷ options.Until ∷ options.Listed ∷ options.Lanes ∷ []

abbrev pub option_named : List ℕ → Option FormatOption
option_named word = find (λ option. bytes_eq (option_text option) word) all_options

abbrev pub none_given : Given
none_given = record { block = None; blocks = None; area = None; grace = None; held = None; until = None; listed = None; lanes = None }

-- what was given for an option
abbrev pub value_given : FormatOption → Given → Option ℕ
value_given options.Block given = given.block
value_given options.Blocks given = given.blocks
value_given options.Area given = given.area
value_given options.Grace given = given.grace
value_given options.Held given = given.held
value_given options.Until given = given.until
value_given options.Listed given = given.listed
value_given options.Lanes given = given.lanes

-- an option is given
abbrev pub with_value : FormatOption → ℕ → Given → Given
with_value options.Block n given = record given { block = Some n }
with_value options.Blocks n given = record given { blocks = Some n }
with_value options.Area n given = record given { area = Some n }
with_value options.Grace n given = record given { grace = Some n }
with_value options.Held n given = record given { held = Some n }
with_value options.Until n given = record given { until = Some n }
with_value options.Listed n given = record given { listed = Some n }
with_value options.Lanes n given = record given { lanes = Some n }

-- two words give an option that wasn't given before
pub record IsPair (given : Given) (word value : List ℕ) (option : FormatOption) (n : ℕ) : Type 0 where
  pub named : word ≡ option_text option
  pub number : value ≡ decimal n
  pub few : n ≤ 4294967295
  pub first : value_given option given ≡ None

-- the words are such pairs, in any order
abbrev pub Gives : Given → List (List ℕ) → Given → Type 0
Gives given [] end = given ≡ end
Gives given (word ∷ []) end = ⊥
Gives given (word ∷ (value ∷ words)) end = (option : FormatOption) × (n : ℕ) × IsPair given word value option n × Gives (with_value option n given) words end

-- the common grace
abbrev pub grace_of : Given → ℕ
grace_of given = unwrap_or given.grace 86400

-- the numbers of a shape, each a default where it wasn't given; a class has the common grace then
abbrev pub numbers_of : Given → FormatNumbers
numbers_of given = record {
  block = unwrap_or given.block 4096;
  blocks = unwrap_or given.blocks 15000;
  area = unwrap_or given.area 1048576;
  grace = grace_of given;
  held = unwrap_or given.held (grace_of given);
  until = unwrap_or given.until (grace_of given);
  listed = unwrap_or given.listed (grace_of given);
  lanes = unwrap_or given.lanes 8;
}
