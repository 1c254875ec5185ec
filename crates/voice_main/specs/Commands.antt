-- The command by which clap assigns the options of a `format`.
--     number_rule name defaults      an option with one number, and its default if it has one
--     format_app      the command: eight such options, without subcommands, help or version
--     HasNumber found name n      the option has the text of that number
--     HasGrace found name common n      it has the text of that number, or none, and the number is the common grace
--     Assigns found numbers      the eight options have these numbers so
use Rattle.std.specs.Prelude.{ℕ, List, [], ◌∷◌, ◌≡◌, ◌≤◌, ◌⊎◌, Some, None, pos, true, codes}
use Rattle.std.specs.List.{fold}
use Rattle.std.specs.Fmt.{decimal}
use Rattle.clap.specs.Words.{App, Rule, Text, new_app, new_rule, with_rule, one_text}
use Rattle.clap.specs.declared.builder.value_parser.ValueParser.{ValueParser}
use Rattle.clap.specs.declared.builder.value_parser.ValueParser.TheVariants as vp
use Rattle.clap.specs.declared.parser.matches.Found.{Found}
use Rattle.voice_main.specs.declared.options.FormatNumbers.{FormatNumbers}

abbrev pub number_parser : ValueParser
number_parser = vp.Signed (pos 0) (pos 4294967295)

-- an option with one number, and its default if it has one
abbrev pub number_rule : Text → List Text → Rule
number_rule name defaults = record (new_rule name) { long = Some name; defaults = defaults; parser = Some number_parser }

abbrev pub bare_app : App
bare_app = record (new_app (codes "format")) { top = record (new_app (codes "format")).top { disable_help_flag = true; disable_version_flag = true } }

-- the options in their order; the grace of a class has no default of its own
abbrev pub number_rules : List Rule
number_rules = number_rule (codes "block") (codes "4096" ∷ []) ∷ number_rule (codes "blocks") (codes "15000" ∷ []) ∷ number_rule (codes "area") (codes "1048576" ∷ []) ∷ number_rule (codes "grace") (codes "86400" ∷ [])
    ∷ number_rule (codes "held") [] ∷ number_rule (codes "until") [] ∷ number_rule (codes "listed") [] ∷ number_rule (codes "lanes") (codes "8" ∷ []) ∷ []

abbrev pub format_app : App
format_app = fold with_rule bare_app number_rules

-- the option has the text of that number
pub record HasNumber (found : Found) (name : Text) (n : ℕ) : Type 0 where
  pub text : one_text found name ≡ Some (decimal n)
  pub few : n ≤ 4294967295

-- the option has the text of that number; or it has none, and the number is the common grace
abbrev pub HasGrace : Found → Text → ℕ → ℕ → Type 0
HasGrace found name common n = HasNumber found name n ⊎ ((one_text found name ≡ None) × (n ≡ common))

-- the eight options have the texts of these numbers, or a class has none and the common grace
pub record Assigns (found : Found) (numbers : FormatNumbers) : Type 0 where
  pub block : HasNumber found (codes "block") numbers.block
  pub blocks : HasNumber found (codes "blocks") numbers.blocks
  pub area : HasNumber found (codes "area") numbers.area
  pub grace : HasNumber found (codes "grace") numbers.grace
  pub held : HasGrace found (codes "held") numbers.grace numbers.held
  pub until : HasGrace found (codes "until") numbers.grace numbers.until
  pub listed : HasGrace found (codes "listed") numbers.grace numbers.listed
  pub lanes : HasNumber found (codes "lanes") numbers.lanes
