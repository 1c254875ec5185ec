-- The calls of a script's history lie in their ranges, and their takes in its tapes.
use Rattle.std.proofs.Common.{◌≡◌, ℕ, suc, List, [], ◌∷◌, ◌++◌, length, take, Option, Some, None, true, false, refl, sym, subst, arith}
use Rattle.std.specs.Prelude.{All}
use Rattle.std.proofs.lemmas.List.{take_all}
use Rattle.voice_model.specs.Valid.{Every, InRange}
use Rattle.voice_model.specs.declared.calls.Call.{Call}
use Rattle.voice_model.specs.declared.calls.Call.TheVariants as calls
use Rattle.voice_model.specs.declared.calls.Reply.{Reply}
use Rattle.voice_model.specs.declared.calls.Reply.TheVariants as replies
use Rattle.voice_model.specs.declared.calls.Entry.{Entry}
use Rattle.voice_model.specs.Follows.{Awaited, IsAwaited, Goes_on, then_awaited, Serving, AfterPlay, Does, variables_after}
use Rattle.voice_store.specs.Facts.{TakesAreIn, HasRopes}
use Rattle.voice_outside.specs.Disk.{Told}
use Rattle.mirror_sender.specs.Abreast.{IsWithin, AreWithin}
use Rattle.script_lang.specs.declared.scripts.Line.{Line}
use Rattle.script_lang.specs.Shown.{Reading}
use Rattle.script_lang.specs.Errands.{asked, HasTape}
use Rattle.script_lang.specs.Verbs.{is_built_verb}
use Rattle.script_lang.specs.Whole.{IsLineOf, IsWhole}
use Rattle.callers.proofs.Built.{asked_well}
use Rattle.servings.specs.Asked.{asked_entries, is_landing}
use Rattle.served_files.specs.Files.{Queues}
use Rattle.voice_main.specs.Ordered.{Variables, unset, with_those_of, InOrder}
use Rattle.voice_main.specs.Ran.{Performed, MadeGiving}
use Rattle.voice_main.proofs.LineGiven.{all_asked}

-- one call
abbrev IsIn : List (List ℕ) → Call → Type 0
IsIn tapes call = InRange call × IsWithin tapes call

abbrev IsOneIn : List (List ℕ) → Entry → Type 0
IsOneIn tapes e = IsIn tapes e.call

is_in : (tapes : List (List ℕ)) (call made : Call) → call ≡ made → IsIn tapes made → IsIn tapes call
is_in tapes call made e h = subst (IsIn tapes) (sym e) h

within_by : (tapes : List (List ℕ)) (call : Call) → TakesAreIn tapes call → HasRopes call → IsWithin tapes call
within_by tapes (calls.Record take) takes ropes = takes
within_by tapes (calls.Add lane take) takes ropes = takes
within_by tapes (calls.Concat ids) takes ropes = ropes.1
within_by tapes _ takes ropes = tt

-- ---- a serving

awaited_in : (tapes : List (List ℕ)) (lane : ℕ) (awaited : Awaited) (call : Call) (reply : Reply) → IsAwaited lane awaited call reply → IsIn tapes call
awaited_in tapes lane Awaited.First call reply h = is_in tapes call (calls.Feed lane None) h (tt, tt)
awaited_in tapes lane (Awaited.Back n) call reply h = is_in tapes call (calls.Feed lane (Some h.0)) h.1 (tt, tt)
awaited_in tapes lane Awaited.Halt call reply h = is_in tapes call (calls.Stop lane) h (tt, tt)

none_in : (tapes : List (List ℕ)) (es : List Entry) → es ≡ [] → Every (IsOneIn tapes) es
none_in tapes es e = subst (Every (IsOneIn tapes)) (sym e) tt

serving_in : (tapes : List (List ℕ)) (lane : ℕ) (awaited : Awaited) (es : List Entry) → Serving lane awaited es → Every (IsOneIn tapes) es
serving_in tapes lane awaited [] h = absurd h
serving_in tapes lane awaited (e ∷ es) h = (awaited_in tapes lane awaited e.call e.reply h.0, on (then_awaited awaited e.reply) (λ next. serving_in tapes lane next es) h.1)
  where
    on : (o : Option Awaited) → ((next : Awaited) → Serving lane next es → Every (IsOneIn tapes) es) → Goes_on o (λ next. Serving lane next es) (es ≡ []) → Every (IsOneIn tapes) es
    on None later g = none_in tapes es g
    on (Some next) later g = later next g

played_in : (tapes : List (List ℕ)) (lane : ℕ) (reply : Reply) (es : List Entry) → AfterPlay lane reply es → Every (IsOneIn tapes) es
played_in tapes lane (replies.Job job) es h = serving_in tapes lane Awaited.First es h
played_in tapes lane _ es h = none_in tapes es h

-- ---- a line

does_in : (tapes : List (List ℕ)) (asks : Option Call) (serves : Option ℕ) (own : List Entry) → ((call : Call) → Some call ≡ asks → IsIn tapes call) → Does asks serves own → Every (IsOneIn tapes) own
does_in tapes None None own asked_in h = absurd h
does_in tapes None (Some lane) own asked_in h = serving_in tapes lane Awaited.First own h
does_in tapes (Some call) None [] asked_in h = absurd h
does_in tapes (Some call) (Some lane) [] asked_in h = absurd h
does_in tapes (Some call) None (e ∷ es) asked_in h = (is_in tapes e.call call h.0 (asked_in call refl), none_in tapes es h.1)
does_in tapes (Some call) (Some lane) (e ∷ es) asked_in h = (is_in tapes e.call call h.0 (asked_in call refl), played_in tapes lane e.reply es h.1)

every_append : (P : Entry → Type 0) (xs ys : List Entry) → Every P xs → Every P ys → Every P (xs ++ ys)
every_append P [] ys h k = k
every_append P (x ∷ xs) ys h k = (h.0, every_append P xs ys h.1 k)

ordered_in : (tapes : List (List ℕ)) (samples callers : ℕ) (variables : Variables) (lines : List Line) (entries : List Entry) → length tapes ≡ samples → All (IsLineOf is_built_verb samples callers) lines → InOrder tapes variables lines entries → Every (IsOneIn tapes) entries
ordered_in tapes samples callers variables [] entries there all h = none_in tapes entries h
ordered_in tapes samples callers variables (line ∷ lines) entries there all h =
    let here : IsLineOf is_built_verb samples callers line = all 0 line (omega arith) in
    let tape = here.tape in
    let own : Every (IsOneIn tapes) h.0 =
    does_in tapes (asked tapes line.verb (variables line.caller)) _ h.0
    (λ call is.
    let well = asked_well tapes line.verb (variables line.caller) call here.verb is in
    (well.range here.range, within_by tapes call (well.takes (subst (λ n. HasTape n line.verb) (sym there) tape)) (well.ropes here.ropes)))
    h.4 in
    subst (Every (IsOneIn tapes)) (sym h.2)
    (every_append (IsOneIn tapes) h.0 h.1 own
    (ordered_in tapes samples callers (with_those_of line.caller (variables_after line.bind h.0 (variables line.caller)) variables) lines h.1 there (λ k d within. all (suc k) d (omega (arith, within))) h.5))

-- a landing has nothing to lie in
landing_in : (tapes : List (List ℕ)) (call : Call) → is_landing call ≡ true → IsIn tapes call
landing_in tapes calls.Landed is = (tt, tt)
landing_in tapes _ is = cc

pub within_made :
    (tapes : List (List ℕ)) (script : Reading) (old new : Told) (history : List Entry) (queues : Queues) → IsWhole is_built_verb script → length tapes ≡ length script.samples
    → Performed tapes (MadeGiving false tapes script old new history queues) old new history → AreWithin tapes history
within_made tapes script old new history queues whole there made =
    let serial = made.made_so.0 in
    let order : InOrder tapes unset script.lines (asked_entries history) = subst (λ l. InOrder tapes unset l (asked_entries history)) (take_all (length script.lines) script.lines (omega arith)) serial.order in
    all_asked (IsOneIn tapes) (λ e is. landing_in tapes e.call is) history (ordered_in tapes (length script.samples) script.callers unset script.lines (asked_entries history) there whole.lines order)
