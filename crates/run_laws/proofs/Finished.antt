-- Two finished runs of one script print the same.
--     Settled files name bytes history      what a finished run tells
use Rattle.std.proofs.Common.{◌≡◌, ℕ, ◌+◌, ◌-◌, List, [], ◌∷◌, ◌++◌, map, length, take, Bool, true, false, Option, Some, None, refl, sym, ◌∙◌, ap, subst}
use Rattle.voice_model.specs.State.{State}
use Rattle.voice_model.specs.Text.{text_from, text_of, entry_text}
use Rattle.voice_model.specs.declared.calls.Entry.{Entry}
use Rattle.script_lang.specs.declared.scripts.Line.{Line}
use Rattle.voice_main.specs.Ordered.{InOrder, unset}
use Rattle.voice_main.specs.Ran.{Serial}
use Rattle.voice_main.specs.RunPromise.{NoFaults}
use Rattle.std.specs.Prelude.{IfSome}
use Rattle.std.specs.FinMap.{get}
use Rattle.voice_outside.specs.Disk.{Told}
use Rattle.voice_outside.specs.Files.{Files}
use Rattle.voice_model.specs.State.{opened}
use Rattle.voice_model.specs.Replay.{recovered}
use Rattle.voice_model.specs.Image as image
use Rattle.script_lang.specs.Shown.{Reading}
use Rattle.script_lang.specs.Verbs.{is_built_verb}
use Rattle.script_lang.specs.Grammar.{IsScript}
use Rattle.script_lang.proofs.Once.{one_script}
use Rattle.voice_main.specs.declared.status.Status.TheVariants.{Done}
use Rattle.voice_main.specs.Load.{AreFiles}
use Rattle.voice_main.specs.Ran.{IsReady, RanWhole}
use Rattle.voice_main.specs.RunPromise.{IsRead, IsComplete}
use Rattle.run_laws.specs.Laws.{Seen, seen, IsCalm, IsDone, CalmRunsTellOfNoFault, RunsPrintAlike}
use Rattle.run_laws.specs.Alike.{without_acks, SameButAcks}
use Rattle.run_laws.specs.Laws.{HistoriesAreDetermined}
use Rattle.run_laws.proofs.Quiet.{are_answered, all_asked}
use Rattle.run_laws.proofs.Ordering.{lines_alike}

text_without : (n : ℕ) (es : List Entry) → text_from n (without_acks es) ≡ text_from n es
text_without n [] = refl
text_without n (e ∷ es) = ap (λ (t : List ℕ). entry_text n e ++ t) (text_without (n + 1) es)

pub one_text : (history other : List Entry) → SameButAcks history other → text_of history ≡ text_of other
one_text history other p = sym (text_without 1 history) ∙ ap text_of p ∙ text_without 1 other

asked_order : (first : State) (tapes : List (List ℕ)) (lines : List Line) (k : ℕ) (history : List Entry) → first.doubt ≡ None → Serial true first tapes lines k history → NoFaults history
    → InOrder tapes unset (take k lines) history
asked_order first tapes lines k history none s calm =
    subst (λ (es : List Entry). InOrder tapes unset (take k lines) es) (all_asked first tapes history none s.legal (are_answered history calm)) s.order

pub one_history : (first : State) (tapes : List (List ℕ)) (lines : List Line) (k : ℕ) (history other : List Entry) → first.doubt ≡ None
    → Serial true first tapes lines k history → Serial true first tapes lines k other → NoFaults history → NoFaults other → SameButAcks history other
one_history first tapes lines k history other none s t calm still =
    lines_alike first tapes unset (take k lines) history other (asked_order first tapes lines k history none s calm) (asked_order first tapes lines k other none t still)
    s.legal t.legal (are_answered history calm) (are_answered other still)

pub histories_are_determined : HistoriesAreDetermined
histories_are_determined = record { histories = one_history; texts = one_text }

-- ---- what a finished run tells

pub record Settled (files : Files) (name bytes : List ℕ) (history : List Entry) : Type 0 where
  pub script : Reading
  pub tapes : List (List ℕ)
  pub ready : IsReady files name script tapes
  pub first : State
  pub opens : image.opened_from bytes ≡ Some first
  pub serial : Serial true first tapes script.lines (length script.lines) history

opened_sure : (bytes : List ℕ) (first : State) (x : image.Reading) → image.opened_by bytes x ≡ Some first → first.doubt ≡ None
opened_sure bytes first (image.Reading.Reads journal r) p =
    let e : opened (recovered bytes r) (journal.shape.area - 1 - journal.gate) journal.epoch r.form ≡ first = cc in ap (λ (s : State). s.doubt) (sym e)
opened_sure bytes first (image.Reading.Bad place) p = cc

is_read : (disk : Told) (first : State) (x : image.Reading) → image.reading disk.bytes ≡ x → image.opened_by disk.bytes x ≡ Some first → IsRead disk
is_read disk first (image.Reading.Reads journal r) is p = record { journal = journal; rebuilt = r; reads = is }
is_read disk first (image.Reading.Bad place) is p = cc

settled : (name : List ℕ) (files : Files) (bytes : List ℕ) (a b : Seen) (old new : Told) (history : List Entry) → IsDone name files bytes a old (seen b new) history → Settled files name bytes history
settled name files bytes a b old new history d =
    let ran : RanWhole false files name (seen a old) (seen b new) history = subst (λ (o : Option Files). IfSome o (λ files. RanWhole false files name (seen a old) (seen b new) history)) d.shelf d.promise.comes in
    let opens : image.opened_from old.bytes ≡ Some ran.performed.first = ran.performed.disk.opened d.honest in
    record {
      script = ran.script;
      tapes = ran.tapes;
      ready = ran.ready;
      first = ran.performed.first;
      opens = ap image.opened_from (sym d.image) ∙ opens;
      serial = subst (λ (honest : Bool). Serial honest ran.performed.first ran.tapes ran.script.lines (length ran.script.lines) history) d.honest ran.performed.made_so.1.0;
    }

calm_run : (old new : Told) (name : List ℕ) (files : Files) (bytes : List ℕ) (a b : Seen) (history : List Entry) → IsDone name files bytes a old (seen b new) history → IsCalm (seen a old) (seen b new) → NoFaults history
calm_run old new name files bytes a b history d calm =
    let ran : RanWhole false files name (seen a old) (seen b new) history = subst (λ (o : Option Files). IfSome o (λ files. RanWhole false files name (seen a old) (seen b new) history)) d.shelf d.promise.comes in
    let complete : IsComplete files name (seen a old) (seen b new) history Done =
    subst (λ (o : Option Files). IfSome o (λ files. IsComplete files name (seen a old) (seen b new) history Done)) d.shelf d.promise.complete in
    let opens : image.opened_from old.bytes ≡ Some ran.performed.first = ran.performed.disk.opened d.honest in
    let read : IsRead old = is_read old ran.performed.first (image.reading old.bytes) refl opens in
    (complete (record { script = ran.script; tapes = ran.tapes; ready = ran.ready }) d.honest read calm.shelf calm.sink calm.disk).1

pub calm_runs_tell_of_no_fault : (old new : Told) → CalmRunsTellOfNoFault old new
calm_runs_tell_of_no_fault old new = record { calm = calm_run old new }

-- ---- two of them

one_some : {A : Type 0} (x y : A) (o : Option A) → o ≡ Some x → o ≡ Some y → x ≡ y
one_some x y o p q = let e : Some x ≡ Some y = sym p ∙ q in cc

one_tapes : (tapes other : List (List ℕ)) → map Some tapes ≡ map Some other → tapes ≡ other
one_tapes [] [] p = refl
one_tapes [] (o ∷ other) p = cc
one_tapes (t ∷ tapes) [] p = cc
one_tapes (t ∷ tapes) (o ∷ other) p =
    let first : t ≡ o = cc in
    let later : map Some tapes ≡ map Some other = cc in
    λ i. first i ∷ one_tapes tapes other later i

module _ (files : Files) (name bytes : List ℕ) (history other : List Entry) (s : Settled files name bytes history) (t : Settled files name bytes other) (calm : NoFaults history) (still : NoFaults other) where
  same_script : s.script ≡ t.script
  same_script =
      one_script is_built_verb t.ready.bytes s.script t.script
      (subst (λ (b : List ℕ). IsScript is_built_verb b s.script) (one_some s.ready.bytes t.ready.bytes (get files name) s.ready.found t.ready.found) s.ready.spelled) t.ready.spelled

  same_tapes : s.tapes ≡ t.tapes
  same_tapes = one_tapes s.tapes t.tapes (sym (subst (λ (r : Reading). AreFiles files r.samples s.tapes) same_script s.ready.samples) ∙ t.ready.samples)

  same_first : s.first ≡ t.first
  same_first = one_some s.first t.first (image.opened_from bytes) s.opens t.opens

  moved : Serial true t.first t.tapes t.script.lines (length t.script.lines) history
  moved =
      subst (λ (x : State). Serial true x t.tapes t.script.lines (length t.script.lines) history) same_first
      (subst (λ (x : List (List ℕ)). Serial true s.first x t.script.lines (length t.script.lines) history) same_tapes
      (subst (λ (x : Reading). Serial true s.first s.tapes x.lines (length x.lines) history) same_script s.serial))

  settled_alike : SameButAcks history other
  settled_alike =
      one_history t.first t.tapes t.script.lines (length t.script.lines) history other (opened_sure bytes t.first (image.reading bytes) t.opens) moved t.serial calm still

module _ (old new other_old other_new : Told) (name : List ℕ) (files : Files) (bytes : List ℕ) (a b x y : Seen) (history other : List Entry)
    (d : IsDone name files bytes a old (seen b new) history) (e : IsDone name files bytes x other_old (seen y other_new) other) (calm : NoFaults history) (still : NoFaults other) where
  done_alike : SameButAcks history other
  done_alike = settled_alike files name bytes history other (settled name files bytes a b old new history d) (settled name files bytes x y other_old other_new other e) calm still

  done_text : text_of history ≡ text_of other
  done_text = one_text history other done_alike

gained_by : (name : List ℕ) (files : Files) (bytes had : List ℕ) (a b : Seen) (old new : Told) (history : List Entry) → IsDone name files bytes a old (seen b new) history → a.contents ≡ Some had
    → b.contents ≡ Some (had ++ text_of history)
gained_by name files bytes had a b old new history d lent = subst (λ (o : Option (List ℕ)). IfSome o (λ had. b.contents ≡ Some (had ++ text_of history))) lent (d.promise.done refl)

pub runs_print_alike : (old new other_old other_new : Told) → RunsPrintAlike old new other_old other_new
runs_print_alike old new other_old other_new = record {
  histories = done_alike old new other_old other_new;
  texts = done_text old new other_old other_new;
  sinks = λ name files bytes had other_had a b x y history other d e calm still lent other_lent. record {
    gained = text_of history;
    one = gained_by name files bytes had a b old new history d lent;
    other = gained_by name files bytes other_had x y other_old other_new other e other_lent ∙ ap (λ (t : List ℕ). Some (other_had ++ t)) (sym (done_text old new other_old other_new name files bytes a b x y history other d e calm still));
  };
}
