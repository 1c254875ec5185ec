-- A generated script is read.
use Rattle.std.proofs.Common.{◌≡◌, ℕ, ◌+◌, ◌≤◌, inr, List, [], ◌∷◌, ◌++◌, length, map, subst, sym, refl, ap, ◌∙◌, arith, append-nil, length-append, lit≤, Err}
use Rattle.std.proofs.Math.Nat.{max-le}
use Rattle.std.proofs.lemmas.List.{append_assoc, length-map}
use Rattle.std.proofs.lemmas.List.FromFn.{length-map-range_with_len}
use Rattle.script_gen.specs.declared.lines.Line.{Line}
use Rattle.script_gen.specs.Lines.{line_text, file_name}
use Rattle.script_gen.specs.Samples.{file_bytes}
use Rattle.script_gen.specs.Scripts as scripts
use Rattle.script_gen.specs.Scripts.{line, file_of, files_of, script_of, tapes_of}
use Rattle.script_gen.proofs.Mentions.{files_of-push}
use Rattle.script_lang.specs.declared.scripts.Cause.{Cause}
use Rattle.script_lang.specs.declared.scripts.ScriptError.{ScriptError}
use Rattle.script_lang.specs.declared.scripts.ScriptError.TheVariants as errors
use Rattle.script_lang.specs.Causes.{IsRead}
use Rattle.script_lang.specs.Shown.{Reading}
use Rattle.script_lang.specs.Parts.{empty_script, mention, with_line, line_of}
use Rattle.script_lang.specs.Verbs.{is_built_verb}
use Rattle.script_lang.specs.Words.{lines_of}
use Rattle.script_lang.specs.Grammar.{Every, Spells, IsScript}
use Rattle.made_scripts.specs.Laws.{IsMade}
use Rattle.made_scripts.proofs.Texts.{line_first}
use Rattle.made_scripts.proofs.Named.{Few}
use Rattle.made_scripts.proofs.Drawn.{IsDrawn, lines_drawn}
use Rattle.made_scripts.proofs.Said.{spoken_by, OwnLanes, own_more, line_said, mentions, files_few}

-- the lines of the bytes are the texts of the lines
texts_are : (n : ℕ) (r : Reading) → OwnLanes r.lines → (ls : List Line) → Every IsDrawn ls → lines_of (script_of ls) ≡ map line_text ls
texts_are n r own [] h = refl
texts_are n r own (l ∷ ls) h =
    line_first (line_text l) (script_of ls) (line_said n r l own h.0).plain ∙ ap (λ ts. line_text l ∷ ts) (texts_are n r own ls h.1)

-- a script as far as it was read, and the lines that were read
pub record IsReadSoFar (front : List Line) (r : Reading) : Type 0 where
  pub samples : r.samples ≡ map file_name (files_of front)
  pub few : Every Few (files_of front)
  pub callers : r.callers ≤ 4
  pub own : OwnLanes r.lines

one_more : (front : List Line) (r : Reading) (n : ℕ) (l : Line) → IsReadSoFar front r → IsDrawn l → IsReadSoFar (front ++ l ∷ []) (with_line n r (spoken_by r.samples l))
one_more front r n l h d =
    let files = files_of-push front l in
    record {
      samples =
          ap (λ names. mention names (spoken_by r.samples l).said.sample) h.samples
          ∙ mentions (files_of front) r.samples l.caller l.order h.few d.within
          ∙ ap (map file_name) (sym files);
      few = subst (Every Few) (sym files) (files_few (files_of front) l.caller l.order h.few d.within);
      callers = max-le h.callers d.most;
      own = own_more r.lines r.samples n l h.own d;
    }

-- what the rest of the lines says
pub record SaysOn (front rest : List Line) (n : ℕ) (r m : Reading) : Type 0 where
  pub spelled : Spells is_built_verb n r (map line_text rest) m
  pub samples : m.samples ≡ map file_name (files_of (front ++ rest))
  pub callers : m.callers ≤ 4
  pub lines : length m.lines ≡ length r.lines + length rest

says_on : (rest front : List Line) (n : ℕ) (r : Reading) → IsReadSoFar front r → Every IsDrawn rest → n + length rest ≤ 65536 → (m : Reading) × SaysOn front rest n r m
says_on [] front n r h d few = (r, record { spelled = refl; samples = h.samples ∙ ap (λ ls. map file_name (files_of ls)) (sym (append-nil front)); callers = h.callers; lines = omega arith })
says_on (l ∷ rest) front n r h d few =
    let q : Reading = with_line n r (spoken_by r.samples l) in
    let on = says_on rest (front ++ l ∷ []) (n + 1) q (one_more front r n l h d.0) d.1 (omega arith) in
    let longer : length q.lines ≡ length r.lines + 1 = length-append r.lines (line_of n (spoken_by r.samples l) ∷ []) in
    let all : length on.0.lines ≡ length q.lines + length rest = on.1.lines in (
      on.0,
      record {
        spelled = (q, (omega arith, inr (line_said n r l h.own d.0)), on.1.spelled);
        samples = on.1.samples ∙ ap (λ ls. map file_name (files_of ls)) (append_assoc front (l ∷ []) rest);
        callers = on.1.callers;
        lines = omega (arith, longer, all);
      },
    )

none_read : IsReadSoFar [] empty_script
none_read = record { samples = refl; few = tt; callers = lit≤ tt; own = λ lane. refl }

pub made_is_read : (seed count : ℕ) → 1 ≤ count → count ≤ 65535 → (m : Reading) × IsMade seed count m
made_is_read seed count some few =
    let ls = scripts.lines_of seed count in
    let d = lines_drawn seed count few in
    let many : length ls ≡ count = length-map-range_with_len (line seed) 0 count in
    let says = says_on ls [] 1 empty_script none_read d (omega (arith, many)) in
    let texts = texts_are 1 empty_script none_read.own ls d in (
      says.0,
      record {
        spelled = subst (λ ts. Spells is_built_verb 1 empty_script ts says.0) (sym texts) says.1.spelled;
        samples = says.1.samples;
        callers = says.1.callers;
        lines = omega (arith, many, says.1.lines);
      },
    )

-- what is read of its bytes is that script
pub read_is : (seed count : ℕ) → 1 ≤ count → count ≤ 65535 → (bytes : List ℕ) → bytes ≡ script_of (scripts.lines_of seed count) → (r : Reading) → ((m : Reading) → IsScript is_built_verb bytes m → r ≡ m) → IsMade seed count r
read_is seed count some few bytes e r only =
    let made = made_is_read seed count some few in
    let same : r ≡ made.0 = only made.0 (subst (λ b. IsScript is_built_verb b made.0) (sym e) made.1.spelled) in
    subst (IsMade seed count) (sym same) made.1

-- no line of them is refused
pub never_refused : (seed count : ℕ) → 1 ≤ count → count ≤ 65535 → (bytes : List ℕ) → bytes ≡ script_of (scripts.lines_of seed count) → (e : ScriptError) (k : ℕ) (cause : Cause) → e ≡ errors.BadLine k cause
    → ((m : Reading) → IsScript is_built_verb bytes m → IsRead (Err e) m) → ⊥
never_refused seed count some few bytes same e k cause is only =
    let made = made_is_read seed count some few in
    subst (λ x. IsRead (Err x) made.0) is (only made.0 (subst (λ b. IsScript is_built_verb b made.0) (sym same) made.1.spelled))

-- there are as many tapes as sample files
pub as_many : (seed count : ℕ) (m : Reading) → IsMade seed count m → (tapes : List (List ℕ)) → tapes ≡ tapes_of (files_of (scripts.lines_of seed count)) → length tapes ≡ length m.samples
as_many seed count m h tapes e =
    let files = files_of (scripts.lines_of seed count) in
    ap length e ∙ length-map files file_bytes ∙ sym (ap length h.samples ∙ length-map files file_name)
