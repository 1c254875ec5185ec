-- What clap makes of the options of a `format`: its walk over the words, pair by pair.
use Rattle.std.proofs.Common.{◌≡◌, ◌∙◌, ℕ, ◌<◌, ◌≤◌, ◌==◌, Bool, true, false, cond, not, ◌&&◌, ◌||◌, List, [], ◌∷◌, ◌++◌, drop, map, Option, Some, None, sym, refl, ap, subst, arith, append-nil, ne_eqb, true≢false}
use Rattle.std.specs.Prelude.{IfSome, codes, pos, FitsSigned, ◌≤ℤ◌, neg_ℤ, is_some, unwrap_or, option_map, option_and_then, option_to_list}
use Rattle.std.specs.List.{find, fold, list_all}
use Rattle.std.specs.Option.{option_or, option_map_or}
use Rattle.std.specs.Int.{w64}
use Rattle.std.specs.Str.{bytes_eq}
use Rattle.std.specs.Str.Parse.{IsNumeral, digits_value, without_leading_sign, signed_digits_value}
use Rattle.std.specs.Char.{digit_value}
use Rattle.std.specs.Fmt.{decimal, digits}
use Rattle.std.proofs.lemmas.Fmt.{decimal_is_IsNumeral}
use Rattle.std.proofs.lemmas.Int.{ints}
use Rattle.std.proofs.lemmas.List.Folds.{find-append}
use Rattle.std.proofs.lemmas.Str.Parse.{digit_from_value}
use Rattle.std.proofs.lemmas.Slice.Eq.{bytes_eq-Decides}
use Rattle.clap.specs.Lexer.{without_minus}
use Rattle.clap.specs.ValueTests.{accepts}
use Rattle.clap.proofs.ValueTestLemmas.{Accepts-accepts}
use Rattle.clap.specs.Walk.{Held, Row, Rule, Text, Walk, idle, option, arg_by_id, at_row, default_rows, finished, has_row, one_of, row_text, settled_rows, used, used_by_id, walked, with_default, with_values, more_values}
use Rattle.clap.specs.Simple.{Shape, built, is_simple, matches_of, new_rule}
use Rattle.clap.specs.Takes.{default_passes, entered_passes, is_valid, settle_passes, takes, turn_passes, use_passes, walk_passes}
use Rattle.clap.specs.Simple.{entered}
use Rattle.clap.specs.declared.builder.action.ArgAction.TheVariants.{Set}
use Rattle.clap.specs.declared.builder.value_parser.Reading.TheVariants.{WithoutMinus}
use Rattle.clap.specs.declared.parser.matches.ValueSource.{ValueSource}
use Rattle.clap.specs.declared.parser.matches.ValueSource.TheVariants.{DefaultValue, CommandLine}
use Rattle.voice_main.specs.declared.options.FormatOption.{FormatOption}
use Rattle.voice_main.specs.declared.options.FormatOption.TheVariants as options
use Rattle.voice_main.specs.declared.options.Given.{Given}
use Rattle.voice_main.specs.Options.{all_options, option_text, none_given, value_given, with_value, Gives}
use Rattle.voice_main.specs.Commands.{format_app, number_parser}
use Rattle.voice_main.proofs.Apart.{name_of, one_name, value_own, value_other}

-- the number that an option has where it isn't given, and its text; the grace of a class has none of its own
abbrev pub default_of : FormatOption → Option ℕ
default_of options.Block = Some 4096
default_of options.Blocks = Some 15000
default_of options.Area = Some 1048576
default_of options.Grace = Some 86400
default_of options.Held = None
default_of options.Until = None
default_of options.Listed = None
default_of options.Lanes = Some 8

abbrev default_text : FormatOption → Option Text
default_text options.Block = Some (codes "4096")
default_text options.Blocks = Some (codes "15000")
default_text options.Area = Some (codes "1048576")
default_text options.Grace = Some (codes "86400")
default_text options.Held = None
default_text options.Until = None
default_text options.Listed = None
default_text options.Lanes = Some (codes "8")

-- an option as clap builds it
abbrev rule_with : FormatOption → Option Text → Rule
rule_with o text = record (new_rule (name_of o)) {
  long = Some (name_of o);
  action = Some Set;
  range = Some (record { start_inclusive = 1; end_inclusive = 1 });
  defaults = option_to_list text;
  parser = Some number_parser;
}

abbrev rule_at : FormatOption → Rule
rule_at o = rule_with o (default_text o)

abbrev rules : List Rule
rules = map rule_at all_options

abbrev top : Shape
top = (built format_app).top

rule_is : (o : FormatOption) → arg_by_id rules (name_of o) ≡ Some (rule_at o)
rule_is options.Block = refl
rule_is options.Blocks = refl
rule_is options.Area = refl
rule_is options.Grace = refl
rule_is options.Held = refl
rule_is options.Until = refl
rule_is options.Listed = refl
rule_is options.Lanes = refl

-- ---- numerals

not_minus : (x : ℕ) → digit_value x < 10 → (x == 45) ≡ false
not_minus x h = ne_eqb x 45 (λ e. omega (arith, digit_from_value x h))

not_plus : (x : ℕ) → digit_value x < 10 → (x == 43) ≡ false
not_plus x h = ne_eqb x 43 (λ e. omega (arith, digit_from_value x h))

unsigned : (text : Text) → IsNumeral 10 text → (without_leading_sign text ≡ text) × (signed_digits_value 10 text ≡ pos (digits_value 10 text)) × (without_minus text ≡ text)
unsigned [] h = absurd (omega (arith, h.0))
unsigned (x ∷ xs) h = by (x == 45) (x == 43) (not_minus x h.1.0) (not_plus x h.1.0)
  where
    by : (a b : Bool) → a ≡ false → b ≡ false → (cond a xs (drop (cond b 1 0) (x ∷ xs)) ≡ x ∷ xs)
        × (cond a (neg_ℤ (pos (digits_value 10 (cond a xs (drop (cond b 1 0) (x ∷ xs)))))) (pos (digits_value 10 (cond a xs (drop (cond b 1 0) (x ∷ xs))))) ≡ pos (digits_value 10 (x ∷ xs)))
        × (unwrap_or (cond a (Some xs) None) (x ∷ xs) ≡ x ∷ xs)
    by true b p q = absurd (true≢false p)
    by false true p q = absurd (true≢false q)
    by false false p q = (refl, refl, refl)

accepted : (n : ℕ) → n ≤ 4294967295 → accepts false number_parser (decimal n) ≡ true
accepted n few =
    let numeral = decimal_is_IsNumeral n (omega arith) in
    let plain = unsigned (decimal n) numeral.0 in
    let z : signed_digits_value 10 (decimal n) ≡ pos n = plain.1 ∙ ap pos numeral.1 in
    Accepts-accepts false number_parser (decimal n) (
      subst (IsNumeral 10) (sym plain.0) numeral.0,
      subst (FitsSigned w64) (sym z) (record { sfits = omega arith }),
      subst (λ y. pos 0 ≤ℤ y) (sym z) (omega (arith, ints)),
      subst (λ y. y ≤ℤ pos 4294967295) (sym z) (omega (arith, ints)),
    )

-- ---- rows

abbrev is : FormatOption → Row → Bool
is o r = bytes_eq r.id (name_of o)

abbrev row : ValueSource → FormatOption → Text → Row
row s o text = record { id = name_of o; values = text ∷ []; count = None; source = Some s; reading = WithoutMinus }

is_own : (o : FormatOption) (s : ValueSource) (text : Text) → is o (row s o text) ≡ true
is_own options.Block s text = refl
is_own options.Blocks s text = refl
is_own options.Area s text = refl
is_own options.Grace s text = refl
is_own options.Held s text = refl
is_own options.Until s text = refl
is_own options.Listed s text = refl
is_own options.Lanes s text = refl

or_none : (r : Option Row) → option_or r None ≡ r
or_none None = refl
or_none (Some x) = refl

added : (o : FormatOption) (x : Row) (rows : List Row) → find (is o) rows ≡ None → is o x ≡ true → find (is o) (rows ++ x ∷ []) ≡ Some x
added o x rows none hit = find-append (is o) rows (x ∷ []) ∙ ap (λ r. option_or r (cond (is o x) (Some x) None)) none ∙ ap (λ b. cond b (Some x) None) hit

kept : (o : FormatOption) (x : Row) (rows : List Row) (r : Option Row) → find (is o) rows ≡ r → is o x ≡ false → find (is o) (rows ++ x ∷ []) ≡ r
kept o x rows r e miss = find-append (is o) rows (x ∷ []) ∙ ap (λ f. option_or f (cond (is o x) (Some x) None)) e ∙ ap (λ b. option_or r (cond b (Some x) None)) miss ∙ or_none r

at_end : (o : FormatOption) (change : Row → List Row) (missing rows : List Row) → find (is o) rows ≡ None → at_row (name_of o) change missing rows ≡ rows ++ missing
at_end o change missing [] none = refl
at_end o change missing (r ∷ rs) none = by (is o r) none (at_end o change missing rs)
  where
    by : (b : Bool) → cond b (Some r) (find (is o) rs) ≡ None → (find (is o) rs ≡ None → at_row (name_of o) change missing rs ≡ rs ++ missing) → cond b (change r ++ rs) (r ∷ at_row (name_of o) change missing rs) ≡ r ∷ (rs ++ missing)
    by true e rest = cc
    by false e rest = ap (λ l. r ∷ l) (rest e)

has_none : (o : FormatOption) (rows : List Row) → find (is o) rows ≡ None → has_row (name_of o) rows ≡ false
has_none o [] none = refl
has_none o (r ∷ rs) none = by (is o r) none (has_none o rs)
  where
    by : (b : Bool) → cond b (Some r) (find (is o) rs) ≡ None → (find (is o) rs ≡ None → has_row (name_of o) rs ≡ false) → (b || has_row (name_of o) rs) ≡ false
    by true e rest = cc
    by false e rest = rest e

has_some : (o : FormatOption) (x : Row) (rows : List Row) → find (is o) rows ≡ Some x → has_row (name_of o) rows ≡ true
has_some o x [] some = cc
has_some o x (r ∷ rs) some = by (is o r) some (has_some o x rs)
  where
    by : (b : Bool) → cond b (Some r) (find (is o) rs) ≡ Some x → (find (is o) rs ≡ Some x → has_row (name_of o) rs ≡ true) → (b || has_row (name_of o) rs) ≡ true
    by true e rest = refl
    by false e rest = rest e

use_row : (o : FormatOption) (text : Text) (rows : List Row) → find (is o) rows ≡ None → used (rule_at o) (text ∷ []) rows ≡ rows ++ row CommandLine o text ∷ []
use_row o text rows none =
    ap (λ rs. with_values (name_of o) WithoutMinus CommandLine (text ∷ []) rs) (at_end o (λ _. []) [] rows none ∙ append-nil rows)
    ∙ at_end o (more_values CommandLine (text ∷ [])) (row CommandLine o text ∷ []) rows none

-- ---- the rows of what was given

abbrev given_row : FormatOption → Option ℕ → Option Row
given_row o = option_map (λ n. row CommandLine o (decimal n))

record Stored (rows : List Row) (o : FormatOption) (value : Option ℕ) : Type 0 where
  found : find (is o) rows ≡ given_row o value
  few : IfSome value (λ n. n ≤ 4294967295)

abbrev StoredAll : Given → List Row → Type 0
StoredAll given rows = (o : FormatOption) → Stored rows o (value_given o given)

stored_own : (o : FormatOption) (n : ℕ) (rows : List Row) → find (is o) rows ≡ None → n ≤ 4294967295 → Stored (rows ++ row CommandLine o (decimal n) ∷ []) o (Some n)
stored_own o n rows none few = record { found = added o (row CommandLine o (decimal n)) rows none (is_own o CommandLine (decimal n)); few = few }

stored_other : (o : FormatOption) (x : Row) (rows : List Row) (value : Option ℕ) → Stored rows o value → is o x ≡ false → Stored (rows ++ x ∷ []) o value
stored_other o x rows value h miss = record { found = kept o x rows (given_row o value) h.found miss; few = h.few }

stored_more : (given : Given) (o : FormatOption) (n : ℕ) (rows : List Row) → StoredAll given rows → find (is o) rows ≡ None → n ≤ 4294967295 → StoredAll (with_value o n given) (rows ++ row CommandLine o (decimal n) ∷ [])
stored_more given o n rows h none few p = by (is p (row CommandLine o (decimal n))) refl
  where
    next : List Row
    next = rows ++ row CommandLine o (decimal n) ∷ []

    by : (b : Bool) → is p (row CommandLine o (decimal n)) ≡ b → Stored next p (value_given p (with_value o n given))
    by true same =
        let one : o ≡ p = one_name o p ((bytes_eq-Decides (name_of o) (name_of p)).0 same) in
        subst (λ q. Stored next q (value_given q (with_value o n given))) one (subst (Stored next o) (sym (value_own o n given)) (stored_own o n rows none few))
    by false miss =
        let apart : p ≡ o → ⊥ = λ e. true≢false (sym (ap (λ q. is q (row CommandLine o (decimal n))) e ∙ is_own o CommandLine (decimal n)) ∙ miss) in
        subst (Stored next p) (sym (value_other o p n given apart)) (stored_other p (row CommandLine o (decimal n)) rows (value_given p given) (h p) miss)

-- ---- the walk

abbrev pending : Option (FormatOption × ℕ) → Option (Text × List Text)
pending = option_map (λ p. (name_of p.0, decimal p.1 ∷ []))

abbrev held : List Row → Option (FormatOption × ℕ) → Held
held rows last = record { rows = rows; pending = pending last; skip = 0 }

-- between two pairs
abbrev standing : List Row → Option (FormatOption × ℕ) → Walk
standing rows last = record { held = held rows last; waiting = idle; position = 1; is_trailing = false; stopped = None }

-- after an option's name
abbrev after_name : List Row → FormatOption → Walk
after_name rows o = record { held = record { rows = rows; pending = Some (name_of o, []); skip = 0 }; waiting = option (name_of o); position = 1; is_trailing = false; stopped = None }

abbrev after_value : List Row → FormatOption → Text → Walk
after_value rows o text = record { held = record { rows = rows; pending = Some (name_of o, text ∷ []); skip = 0 }; waiting = idle; position = 1; is_trailing = false; stopped = None }

-- the rows with the last pair's
abbrev seen : List Row → Option (FormatOption × ℕ) → List Row
seen rows last = settled_rows rules (pending last) rows

name_read : (rows : List Row) (last : Option (FormatOption × ℕ)) (o : FormatOption) → walked rules [] (standing rows last) (option_text o) ≡ after_name (seen rows last) o
unfolding walked
name_read rows last options.Block = refl
name_read rows last options.Blocks = refl
name_read rows last options.Area = refl
name_read rows last options.Grace = refl
name_read rows last options.Held = refl
name_read rows last options.Until = refl
name_read rows last options.Listed = refl
name_read rows last options.Lanes = refl

name_passes : (rows : List Row) (last : Option (FormatOption × ℕ)) (o : FormatOption) → turn_passes top [] (standing rows last) (option_text o) ≡ (settle_passes rules false (held rows last) && true)
name_passes rows last options.Block = refl
name_passes rows last options.Blocks = refl
name_passes rows last options.Area = refl
name_passes rows last options.Grace = refl
name_passes rows last options.Held = refl
name_passes rows last options.Until = refl
name_passes rows last options.Listed = refl
name_passes rows last options.Lanes = refl

plain_read : (rows : List Row) (o : FormatOption) (x : ℕ) (xs : Text) → (x == 45) ≡ false → walked rules [] (after_name rows o) (x ∷ xs) ≡ after_value rows o (x ∷ xs)
unfolding walked
plain_read rows options.Block x xs e = rw e (rw e refl)
plain_read rows options.Blocks x xs e = rw e (rw e refl)
plain_read rows options.Area x xs e = rw e (rw e refl)
plain_read rows options.Grace x xs e = rw e (rw e refl)
plain_read rows options.Held x xs e = rw e (rw e refl)
plain_read rows options.Until x xs e = rw e (rw e refl)
plain_read rows options.Listed x xs e = rw e (rw e refl)
plain_read rows options.Lanes x xs e = rw e (rw e refl)

plain_passes : (rows : List Row) (o : FormatOption) (x : ℕ) (xs : Text) → (x == 45) ≡ false → turn_passes top [] (after_name rows o) (x ∷ xs) ≡ true
plain_passes rows options.Block x xs e = rw e (rw e refl)
plain_passes rows options.Blocks x xs e = rw e (rw e refl)
plain_passes rows options.Area x xs e = rw e (rw e refl)
plain_passes rows options.Grace x xs e = rw e (rw e refl)
plain_passes rows options.Held x xs e = rw e (rw e refl)
plain_passes rows options.Until x xs e = rw e (rw e refl)
plain_passes rows options.Listed x xs e = rw e (rw e refl)
plain_passes rows options.Lanes x xs e = rw e (rw e refl)

value_read : (rows : List Row) (o : FormatOption) (text : Text) → IsNumeral 10 text → walked rules [] (after_name rows o) text ≡ after_value rows o text
value_read rows o [] h = absurd (omega (arith, h.0))
value_read rows o (x ∷ xs) h = plain_read rows o x xs (not_minus x h.1.0)

value_passes : (rows : List Row) (o : FormatOption) (text : Text) → IsNumeral 10 text → turn_passes top [] (after_name rows o) text ≡ true
value_passes rows o [] h = absurd (omega (arith, h.0))
value_passes rows o (x ∷ xs) h = plain_passes rows o x xs (not_minus x h.1.0)

fresh_accepted : (a b : Bool) → a ≡ false → b ≡ true → ((not a || false) && (b && true)) ≡ true
fresh_accepted false true p q = refl
fresh_accepted true b p q = cc
fresh_accepted false false p q = cc

-- a pair passes
settles : (rows : List Row) (o : FormatOption) (n : ℕ) → find (is o) rows ≡ None → n ≤ 4294967295 → settle_passes rules false (held rows (Some (o, n))) ≡ true
settles rows o n none few =
    ap (λ r. option_map_or (λ a. use_passes false a (decimal n ∷ []) rows) r true) (rule_is o)
    ∙ fresh_accepted (has_row (name_of o) rows) (accepts false number_parser (decimal n)) (has_none o rows none) (accepted n few)

all_three : (a b c : Bool) → a ≡ true → b ≡ true → c ≡ true → (a && (b && c)) ≡ true
all_three true true true p q r = refl
all_three false b c p q r = cc
all_three true false c p q r = cc
all_three true true false p q r = cc

-- where the walk over words ends, and that they pass
record Walks (start : Walk) (words : List Text) (end : Given) : Type 0 where
  rows : List Row
  last : Option (FormatOption × ℕ)
  there : fold (walked rules []) start words ≡ standing rows last
  stored : StoredAll end (seen rows last)
  settled : settle_passes rules false (held rows last) ≡ true
  passes : walk_passes top [] start words ≡ true

walks_none : (start : Walk) → walk_passes top [] start [] ≡ true
unfolding walk_passes
walks_none start = refl

walks_two : (start : Walk) (word value : Text) (words : List Text) → turn_passes top [] start word ≡ true → turn_passes top [] (walked rules [] start word) value ≡ true
    → walk_passes top [] (walked rules [] (walked rules [] start word) value) words ≡ true → walk_passes top [] start (word ∷ value ∷ words) ≡ true
unfolding walk_passes
walks_two start word value words p q r = all_three _ _ _ p q r

walk_on : (given : Given) (words : List Text) (end : Given) (rows : List Row) (last : Option (FormatOption × ℕ)) → Gives given words end → StoredAll given (seen rows last) → settle_passes rules false (held rows last) ≡ true
    → Walks (standing rows last) words end
walk_on given [] end rows last gives stored settled =
    record { rows = rows; last = last; there = refl; stored = subst (λ g. StoredAll g (seen rows last)) gives stored; settled = settled; passes = walks_none (standing rows last) }
walk_on given (word ∷ []) end rows last gives stored settled = absurd gives
walk_on given (word ∷ (value ∷ words)) end rows last gives stored settled =
    let o = gives.0 in
    let n = gives.1 in
    let pair = gives.2 in
    let numeral : IsNumeral 10 value = subst (IsNumeral 10) (sym pair.number) (decimal_is_IsNumeral n (omega (arith, pair.few))).0 in
    let none : find (is o) (seen rows last) ≡ None = (stored o).found ∙ ap (given_row o) pair.first in
    let next_seen : seen (seen rows last) (Some (o, n)) ≡ seen rows last ++ row CommandLine o (decimal n) ∷ [] = ap (λ r. used_by_id r (decimal n ∷ []) (seen rows last)) (rule_is o) ∙ use_row o (decimal n) (seen rows last) none in
    let stored_next = subst (StoredAll (with_value o n given)) (sym next_seen) (stored_more given o n (seen rows last) stored none pair.few) in
    let rest = walk_on (with_value o n given) words end (seen rows last) (Some (o, n)) gives.3 stored_next (settles (seen rows last) o n none pair.few) in
    let first : walked rules [] (standing rows last) word ≡ after_name (seen rows last) o = ap (walked rules [] (standing rows last)) pair.named ∙ name_read rows last o in
    let second : walked rules [] (walked rules [] (standing rows last) word) value ≡ standing (seen rows last) (Some (o, n)) =
    ap (λ w. walked rules [] w value) first ∙ value_read (seen rows last) o value numeral ∙ ap (after_value (seen rows last) o) pair.number in
    record {
      rows = rest.rows;
      last = rest.last;
      there = ap (λ w. fold (walked rules []) w words) second ∙ rest.there;
      stored = rest.stored;
      settled = rest.settled;
      passes = walks_two (standing rows last) word value words
          (ap (turn_passes top [] (standing rows last)) pair.named ∙ name_passes rows last o ∙ ap (λ b. b && true) settled)
          (ap (λ w. turn_passes top [] w value) first ∙ value_passes (seen rows last) o value numeral)
          (ap (λ w. walk_passes top [] w words) second ∙ rest.passes);
    }

stored_none : StoredAll none_given []
stored_none options.Block = record { found = refl; few = tt }
stored_none options.Blocks = record { found = refl; few = tt }
stored_none options.Area = record { found = refl; few = tt }
stored_none options.Grace = record { found = refl; few = tt }
stored_none options.Held = record { found = refl; few = tt }
stored_none options.Until = record { found = refl; few = tt }
stored_none options.Listed = record { found = refl; few = tt }
stored_none options.Lanes = record { found = refl; few = tt }

walks : (words : List Text) (end : Given) → Gives none_given words end → Walks (standing [] None) words end
walks words end gives = walk_on none_given words end [] None gives stored_none refl

-- ---- defaults

abbrev alike : FormatOption → FormatOption → Bool
alike o p = bytes_eq (name_of p) (name_of o)

abbrev default_row : FormatOption → Option Text → Option Row
default_row o = option_map (row DefaultValue o)

same_both : {X : Type 0} (b : Bool) (x : X) → cond b x x ≡ x
same_both true x = refl
same_both false x = refl

or_cond : (b : Bool) (r : Option Row) (x : Row) → option_or r (cond b (Some x) None) ≡ cond b (option_or r (Some x)) r
or_cond true r x = refl
or_cond false r x = or_none r

kept_found : (b : Bool) (r : Option Row) (x y : Row) → (b ≡ true → r ≡ Some x) → r ≡ cond b (option_or r (Some y)) r
kept_found true r x y h = h refl ∙ sym (ap (λ f. option_or f (Some y)) (h refl))
kept_found false r x y h = refl

found_alike : (o p : FormatOption) (rows : List Row) → alike o p ≡ true → find (is o) rows ≡ find (is p) rows
found_alike o p rows same = ap (λ name. find (λ r. bytes_eq r.id name) rows) (sym ((bytes_eq-Decides (name_of p) (name_of o)).0 same))

-- what is found for o once p has got its default
one_default : (o p : FormatOption) (text : Option Text) (rows : List Row) (r : Option Row) → find (is o) rows ≡ r → find (is o) (with_default rows (rule_with p text)) ≡ cond (alike o p) (option_or r (default_row p text)) r
one_default o p None rows r e = ap (find (is o)) (same_both (has_row (name_of p) rows) rows) ∙ e ∙ sym (ap (λ f. cond (alike o p) f r) (or_none r) ∙ same_both (alike o p) r)
one_default o p (Some text) rows r e = by (find (is p) rows) refl
  where
    by : (f : Option Row) → find (is p) rows ≡ f → find (is o) (with_default rows (rule_with p (Some text))) ≡ cond (alike o p) (option_or r (Some (row DefaultValue p text))) r
    by None none =
        ap (λ b. find (is o) (cond b rows (default_rows (name_of p) WithoutMinus (text ∷ []) rows))) (has_none p rows none)
        ∙ ap (find (is o)) (at_end p (more_values DefaultValue (text ∷ [])) (row DefaultValue p text ∷ []) rows none)
        ∙ find-append (is o) rows (row DefaultValue p text ∷ []) ∙ ap (λ f. option_or f (cond (alike o p) (Some (row DefaultValue p text)) None)) e ∙ or_cond (alike o p) r (row DefaultValue p text)
    by (Some x) some =
        ap (λ b. find (is o) (cond b rows (default_rows (name_of p) WithoutMinus (text ∷ []) rows))) (has_some p x rows some) ∙ e
        ∙ kept_found (alike o p) r x (row DefaultValue p text) (λ same. sym e ∙ found_alike o p rows same ∙ some)

abbrev after : FormatOption → Option Row → FormatOption → Option Row
after o r p = cond (alike o p) (option_or r (default_row p (default_text p))) r

all_defaults : (o : FormatOption) (given : List FormatOption) (rows : List Row) (r : Option Row) → find (is o) rows ≡ r → find (is o) (fold with_default rows (map rule_at given)) ≡ fold (after o) r given
all_defaults o [] rows r e = e
all_defaults o (p ∷ given) rows r e = all_defaults o given (with_default rows (rule_at p)) (after o r p) (one_default o p (default_text p) rows r e)

own_default : (o : FormatOption) (r : Option Row) → fold (after o) r all_options ≡ option_or r (default_row o (default_text o))
own_default options.Block r = refl
own_default options.Blocks r = refl
own_default options.Area r = refl
own_default options.Grace r = refl
own_default options.Held r = refl
own_default options.Until r = refl
own_default options.Listed r = refl
own_default options.Lanes r = refl

-- the text of a row, and its number
default_reads : (o : FormatOption) → option_and_then row_text (default_row o (default_text o)) ≡ option_map decimal (default_of o)
unfolding digits
default_reads options.Block = refl
default_reads options.Blocks = refl
default_reads options.Area = refl
default_reads options.Grace = refl
default_reads options.Held = refl
default_reads options.Until = refl
default_reads options.Listed = refl
default_reads options.Lanes = refl

default_few : (o : FormatOption) → IfSome (default_of o) (λ n. n ≤ 4294967295)
default_few options.Block = omega arith
default_few options.Blocks = omega arith
default_few options.Area = omega arith
default_few options.Grace = omega arith
default_few options.Held = tt
default_few options.Until = tt
default_few options.Listed = tt
default_few options.Lanes = omega arith

-- the number of an option, if it has one
abbrev pub number_at : FormatOption → Option ℕ → Option ℕ
number_at o value = option_or value (default_of o)

row_reads : (o : FormatOption) (value : Option ℕ) → IfSome value (λ n. n ≤ 4294967295) → option_and_then row_text (option_or (given_row o value) (default_row o (default_text o))) ≡ option_map decimal (number_at o value)
row_reads o None few = default_reads o
row_reads o (Some n) few = ap Some (unsigned (decimal n) (decimal_is_IsNumeral n (omega arith)).0).2

number_few : (o : FormatOption) (value : Option ℕ) → IfSome value (λ n. n ≤ 4294967295) → IfSome (number_at o value) (λ n. n ≤ 4294967295)
number_few o None few = default_few o
number_few o (Some n) few = few

-- ---- the whole

-- the text that clap has for an option is its number's
pub record Read (words : List Text) (o : FormatOption) (value : Option ℕ) : Type 0 where
  pub text : one_of (name_of o) (matches_of format_app (codes "format" ∷ words)) ≡ option_map decimal value
  pub few : IfSome value (λ n. n ≤ 4294967295)

pub option_read : (words : List Text) (end : Given) → Gives none_given words end → (o : FormatOption) → Read words o (number_at o (value_given o end))
option_read words end gives o =
    let w = walks words end gives in
    let value = value_given o end in
    let ended : matches_of format_app (codes "format" ∷ words) ≡ fold with_default (seen w.rows w.last) rules = ap (λ (s : Walk). finished rules s.held) w.there in
    let found = all_defaults o all_options (seen w.rows w.last) (given_row o value) (w.stored o).found ∙ own_default o (given_row o value) in
    record {
      text = ap (one_of (name_of o)) ended ∙ ap (option_and_then row_text) found ∙ row_reads o value (w.stored o).few;
      few = number_few o value (w.stored o).few;
    }

two_and_true : (a b : Bool) → a ≡ true → b ≡ true → (a && (b && true)) ≡ true
two_and_true true true p q = refl
two_and_true false b p q = cc
two_and_true true false p q = cc

pub format_taken : (words : List Text) (end : Given) → Gives none_given words end → takes format_app (codes "format" ∷ words) ≡ true
format_taken words end gives =
    let w = walks words end gives in
    let P : Walk → Type 0 = λ s. (entered_passes (built format_app) s.stopped && (walk_passes top [] (standing [] None) words && (settle_passes rules false s.held && (list_all default_passes rules && is_valid top (finished rules s.held) (is_some (entered (built format_app) s.stopped)))))) ≡ true in
    subst P (sym w.there) (two_and_true _ _ w.passes w.settled)

pub format_simple : is_simple format_app ≡ true
format_simple = refl
