-- Accepted words of a `format` have the numbers that clap assigns.
use Rattle.std.proofs.Common.{◌≡◌, ◌∙◌, ℕ, ◌≤◌, inl, inr, true, List, Option, Some, None, sym, refl, ap, subst, arith}
use Rattle.std.specs.Prelude.{Result, Ok, Err, IfSome, unwrap_or, option_map, codes}
use Rattle.std.specs.Option.{option_or}
use Rattle.std.specs.Fmt.{decimal}
use Rattle.std.specs.Str.Parse.{ParsesUnsigned}
use Rattle.std.proofs.lemmas.Fmt.{parse-decimal}
use Rattle.clap.specs.Words.{App, HasMatchesOf, ReadsOne, Text, app_of, found_of, matches_of, new_app, one_of, one_text, rows_of, takes}
use Rattle.clap.specs.Simple.{app_of_fields}
use Rattle.clap.specs.declared.builder.command.Command.{Command}
use Rattle.clap.specs.declared.builder.command.Command.TheViews.{out-Command}
use Rattle.clap.proofs.WalkLemmas.{one_text-rows}
use Rattle.clap.specs.declared.parser.matches.ArgMatches.{ArgMatches}
use Rattle.clap.specs.declared.parser.matches.Found.{Found}
use Rattle.voice_main.specs.declared.options.FormatOption.{FormatOption}
use Rattle.voice_main.specs.declared.options.FormatOption.TheVariants as options
use Rattle.voice_main.specs.declared.options.FormatNumbers.{FormatNumbers}
use Rattle.voice_main.specs.Options.{grace_of, value_given}
use Rattle.voice_main.specs.Words.{IsFormat}
use Rattle.voice_main.specs.Commands.{Assigns, HasGrace, HasNumber, bare_app, format_app}
use Rattle.voice_main.proofs.Apart.{name_of}
use Rattle.voice_main.proofs.Walked.{format_simple, format_taken, number_at, option_read}

number_has : (found : Found) (name : Text) (value : Option ℕ) (default : ℕ) → one_text found name ≡ option_map decimal (option_or value (Some default)) → IfSome (option_or value (Some default)) (λ n. n ≤ 4294967295) → HasNumber found name (unwrap_or value default)
number_has found name None default text few = record { text = text; few = few }
number_has found name (Some n) default text few = record { text = text; few = few }

grace_has : (found : Found) (name : Text) (value : Option ℕ) (common : ℕ) → one_text found name ≡ option_map decimal (option_or value None) → IfSome (option_or value None) (λ n. n ≤ 4294967295) → HasGrace found name common (unwrap_or value common)
grace_has found name None common text few = inr (text, refl)
grace_has found name (Some n) common text few = inl (record { text = text; few = few })

pub assigns : (words : List Text) (numbers : FormatNumbers) (m : ArgMatches) → IsFormat words numbers → HasMatchesOf format_app words m → Assigns (found_of m) numbers
assigns words numbers m asked has =
    let found = found_of m in
    let given = asked.given in
    let rows : rows_of found ≡ matches_of format_app words = (has format_simple).0 in
    let text : (o : FormatOption) → one_text found (name_of o) ≡ option_map decimal (number_at o (value_given o given)) = λ o.
    one_text-rows found (name_of o) ∙ ap (one_of (name_of o)) (rows ∙ ap (matches_of format_app) asked.form) ∙ (option_read asked.options given asked.gives o).text in
    let few : (o : FormatOption) → IfSome (number_at o (value_given o given)) (λ n. n ≤ 4294967295) = λ o. (option_read asked.options given asked.gives o).few in
    subst (Assigns found) (sym asked.numbers_are)
    (record {
      block = number_has found (codes "block") given.block 4096 (text options.Block) (few options.Block);
      blocks = number_has found (codes "blocks") given.blocks 15000 (text options.Blocks) (few options.Blocks);
      area = number_has found (codes "area") given.area 1048576 (text options.Area) (few options.Area);
      grace = number_has found (codes "grace") given.grace 86400 (text options.Grace) (few options.Grace);
      held = grace_has found (codes "held") given.held (grace_of given) (text options.Held) (few options.Held);
      until = grace_has found (codes "until") given.until (grace_of given) (text options.Until) (few options.Until);
      listed = grace_has found (codes "listed") given.listed (grace_of given) (text options.Listed) (few options.Listed);
      lanes = number_has found (codes "lanes") given.lanes 8 (text options.Lanes) (few options.Lanes);
    })

pub taken : (words : List Text) (numbers : FormatNumbers) → IsFormat words numbers → takes format_app words ≡ true
taken words numbers asked = ap (takes format_app) asked.form ∙ format_taken asked.options asked.given asked.gives

same_ok : (E : Type 0) (r : Result ℕ E) (v n : ℕ) → r ≡ Ok v → r ≡ Ok n → v ≡ n
same_ok E r v n p q = cc

no_err : (E : Type 0) (r : Result ℕ E) (e : E) (n : ℕ) → r ≡ Err e → r ≡ Ok n → ⊥
no_err E r e n p q = cc

-- a number's text is read as the number
pub number_read : (E : Type 0) (G : List ℕ → Result ℕ E → Type 0) (n : ℕ) (r : Option ℕ) → ReadsOne G (decimal n) r → ((u : List ℕ) (x : Result ℕ E) → G u x → ParsesUnsigned 32 10 u x) → n ≤ 4294967295 → r ≡ Some n
number_read E G n (Some v) read only few = ap Some (same_ok E (Ok v) v n refl (parse-decimal 32 n (decimal n) (Ok v) (omega arith) (omega arith) refl (only (decimal n) (Ok v) read)))
number_read E G n None read only few = absurd (no_err E (Err read.0) read.0 n refl (parse-decimal 32 n (decimal n) (Err read.0) (omega arith) (omega arith) refl (only (decimal n) (Err read.0) read.1)))

-- a class has the common grace where it has no text
pub grace_read : (found : Found) (name : Text) (common n : ℕ) (r : Option ℕ) → ((m : ℕ) → HasNumber found name m → r ≡ Some m) → (one_text found name ≡ None → r ≡ None) → HasGrace found name common n → unwrap_or r common ≡ n
grace_read found name common n r some none (inl has) = ap (λ o. unwrap_or o common) (some n has)
grace_read found name common n r some none (inr h) = ap (λ o. unwrap_or o common) (none h.0) ∙ sym h.1

-- the command without help and version
pub bare_is : (new one two : Command) → app_of new ≡ new_app (codes "format") → out-Command one ≡ record (out-Command new) { disable_help_flag = true } → out-Command two ≡ record (out-Command one) { disable_version_flag = true }
    → app_of two ≡ bare_app
bare_is new one two p q r =
    ap app_of_fields r ∙ ap (λ f. app_of_fields (record f { disable_version_flag = true })) q
    ∙ ap (λ (a : App). record a { top = record a.top { disable_help_flag = true; disable_version_flag = true } }) p
