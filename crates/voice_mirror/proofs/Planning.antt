-- How a change that is legal goes into the journal.
use Rattle.std.proofs.Common.{◌≡◌, ℕ, ◌+◌, ◌≤◌, Bool, true, false, List, length, Result, Ok, Err, IfOk, refl, sym, ◌∙◌, ap, subst, arith, length-append}
use Rattle.std.specs.Prelude.{Vec}
use Rattle.std.specs.declared.alloc.Global.{Global}
use Rattle.disk_areas.specs.Numbers.{number_bytes}
use Rattle.voice_units.specs.declared.shapes.Shape.{Shape}
use Rattle.voice_units.specs.declared.errors.NoMemory.{NoMemory}
use Rattle.voice_model.specs.Spelling.{spelling}
use Rattle.voice_model.specs.Replay.{Rebuilt, is_legal, acted, durable_by}
use Rattle.voice_model.specs.declared.changes.Change.{Change}
use Rattle.voice_journal.specs.Places.{JournalValue}
use Rattle.voice_journal.specs.Readings.{framed_size}
use Rattle.recovery.specs.declared.parts.Parts.{Parts}
use Rattle.recovery.specs.Shown.{Rebuilds, IsParts, IsApplied, plain_sample}
use Rattle.checkpoint.specs.Size.{numbers_in}
use Rattle.mirror_packets.specs.Packets.{Body}
use Rattle.mirror_readings.specs.Laws.{numbered_payload}
use Rattle.mirror_tables.specs.Beside.{IsSame}
use Rattle.mirror_tables.specs.Numbered.{numbered_base_of, numbered_by_numbers}
use Rattle.mirror_tables.proofs.Alike.{shown_alike}
use Rattle.mirror_tables.proofs.Sized.{numbered_is, numbered_kept}
use Rattle.voice_mirror.specs.declared.ready.Way.TheVariants as ways
use Rattle.voice_mirror.specs.declared.ready.How.{How}
use Rattle.voice_mirror.specs.declared.ready.How.TheVariants as hows
use Rattle.voice_mirror.specs.declared.ready.Planned.TheVariants as plans
use Rattle.voice_mirror.specs.declared.ready.Readied.{Readied}
use Rattle.voice_mirror.specs.declared.ready.Readied.TheVariants as readied
use Rattle.voice_mirror.specs.Shown.{MirrorState}
use Rattle.voice_mirror.specs.Taking.{need_of, left_of, kept_then, size_then}
use Rattle.voice_mirror.specs.Ready.{IsWay, IsPlanned, IsReadied, EachReadied, size_of, frame_size}

-- the bytes that the base needs then are those of the numbered base of what is there then
pub size_then_is : (b x : Rebuilt) (parts : Parts) (n : ℕ) (body : Body) → Rebuilds parts x → x.kept ≡ kept_then b body → framed_size (numbered_base_of n x) ≡ size_then b body
size_then_is b x parts n body shows same =
    sym (numbered_is parts x n shows) ∙ numbered_kept parts x shows ∙ ap (λ kept. numbered_by_numbers (numbers_in (durable_by plain_sample kept))) same

module _ (journal : JournalValue) (number : ℕ) (x : Rebuilt) (change : Change) (size frame : ℕ) (size_is : size ≡ size_of x) (frame_is : frame ≡ frame_size change) where
  needs : need_of journal size frame ≡ need_of journal (size_of x) (frame_size change)
  needs = ap (λ (n : ℕ). need_of journal n frame) size_is ∙ ap (λ (n : ℕ). need_of journal (size_of x) n) frame_is

  pub planned_append : (payload : Vec ℕ Global) → IsWay journal size frame ways.Append → payload.items ≡ numbered_payload number (spelling change) → IsPlanned journal number x change (plans.Goes (hows.Append payload))
  planned_append payload way items =
      let room = way.1 in
      let long : length payload.items ≡ length (number_bytes 8 number) + length (spelling change) = ap length items ∙ length-append (number_bytes 8 number) (spelling change) in
      ((items, omega (arith, room, frame_is, long)), subst (λ (n : ℕ). n ≤ left_of journal) needs way.0)

  pub planned_switch : (base : List (List ℕ)) → IsWay journal size frame ways.Switch → base ≡ numbered_base_of number x → framed_size base ≡ size → IsPlanned journal number x change (plans.Goes (hows.Switch base))
  planned_switch base way is framed =
      let fits = way.2 in
      ((is, omega (arith, fits, framed), way.1), subst (λ (n : ℕ). n ≤ left_of journal) needs way.0)

  pub planned_full : (need left : ℕ) → IsWay journal size frame (ways.Full need left) → IsPlanned journal number x change (plans.Full need left)
  planned_full need left over = record { need_is = over.need_is ∙ needs; left_is = over.left_is; more = over.more }

-- a change that was planned for tables that have it
pub readied_goes : (journal : JournalValue) (number : ℕ) (change : Change) (b : Rebuilt) (tables : Parts) (how : How) → is_legal b change ≡ true → Rebuilds tables (acted b change) → IsPlanned journal number (acted b change) change (plans.Goes how)
    → IsReadied journal number change b (readied.Goes (record { tables = tables; change = change; how = how }))
readied_goes journal number change b tables how legal shows planned = record { same = refl; legal = legal; tables = shows; how = planned.0; room = planned.1 }

-- ---- a change that was tried

pub if_ok : {T E : Type 0} {P Q : T → Type 0} (r : Result T E) → ((x : T) → P x → Q x) → IfOk r P → IfOk r Q
if_ok (Ok x) f p = f x p
if_ok (Err e) f p = tt

pub not_false : ◌≡◌ {A = Result Bool NoMemory} (Ok false) (Ok true) → ⊥
not_false e = cc

pub not_err : (n : NoMemory) → ◌≡◌ {A = Result Bool NoMemory} (Err n) (Ok true) → ⊥
not_err n e = cc

pub in_shape_of : (shape other : Shape) (parts : Parts) → shape ≡ other → IsParts other parts → IsParts shape parts
in_shape_of shape other parts same h = subst (λ (x : Shape). IsParts x parts) (sym same) h

module _ (shape : Shape) (parts tables after : Parts) (change : Change) (same : IsSame parts tables) where
  legal_as : (result : Result Bool NoMemory) → IsApplied shape tables after change result → (found : Bool) → result ≡ Ok found → (b : Rebuilt) → Rebuilds parts b → b.shape ≡ shape → is_legal b change ≡ found
  legal_as result applied found is b shows here = sym (subst (λ (r : Result Bool NoMemory). IfOk r (λ done. done ≡ is_legal b change)) is (applied.legal b (same b shows) here))

  pub tried_goes : (result : Result Bool NoMemory) → IsApplied shape tables after change result → result ≡ Ok true → (s : MirrorState) → s.parts ≡ parts → s.journal.shape ≡ shape → (number : ℕ) (r : Readied)
      → ((b : Rebuilt) → is_legal b change ≡ true → Rebuilds after (acted b change) → IsReadied s.journal number change b r) → EachReadied s number change r
  tried_goes result applied is s parts_are shape_is number r readied b shows here =
      let shown = subst (λ (p : Parts). Rebuilds p b) parts_are shows in
      let in_shape = here ∙ shape_is in
      readied b (legal_as result applied true is b shown in_shape) (applied.done b (same b shown) in_shape is)

  pub tried_strange : (result : Result Bool NoMemory) → IsApplied shape tables after change result → result ≡ Ok false → (s : MirrorState) → s.parts ≡ parts → s.journal.shape ≡ shape → (number : ℕ) → EachReadied s number change readied.Strange
  tried_strange result applied is s parts_are shape_is number b shows here = legal_as result applied false is b (subst (λ (p : Parts). Rebuilds p b) parts_are shows) (here ∙ shape_is)

  -- after a change that is not done the tables show what the parts do
  pub tried_same : IsParts shape parts → (result : Result Bool NoMemory) → IsApplied shape tables after change result → ¬ (result ≡ Ok true) → IsSame parts after
  tried_same of_parts result applied not b shows =
      shown_alike parts after of_parts.what b of_parts.shows (applied.same of_parts.what (same of_parts.what of_parts.shows) of_parts.in_shape not) shows
