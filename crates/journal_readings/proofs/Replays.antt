-- What a journal's records rebuild.
use Rattle.std.proofs.Common.{◌≡◌, ℕ, ◌+◌, ◌-◌, ◌≤◌, Bool, true, false, List, [], ◌∷◌, ◌++◌, map, length, Option, Some, None, refl, sym, ◌∙◌, ap, subst}
use Rattle.std.specs.Prelude.{is_some}
use Rattle.voice_units.specs.declared.shapes.Shape.{Shape}
use Rattle.voice_units.specs.Spots.{Spot}
use Rattle.voice_units.specs.Blocks.{has_pair}
use Rattle.voice_model.specs.Samples.{Tagged, spot_of}
use Rattle.voice_model.specs.State.{Durable, Effect, opened}
use Rattle.voice_model.specs.Spelling.{keeps_grammar, change_in, spelling}
use Rattle.voice_model.specs.Replay.{Placed, Rebuilt, nothing_rebuilt, rebuilt, is_legal, acted, finished, brings, after_effect, used_pairs, still_used, filled, recovered}
use Rattle.voice_model.specs.Image.{Replayed, replayed, by_change, if_allowed}
use Rattle.voice_model.specs.Valid.{Every, IsState, IsRebuilt}
use Rattle.voice_model.specs.Places.{IsPlaced, AllUsed, CanBeSpelled, ReadsBack}
use Rattle.voice_model.specs.Base.{base_of, in_order}
use Rattle.voice_model.specs.declared.changes.Change.{Change}
use Rattle.voice_model.specs.declared.changes.Change.TheVariants as changes
use Rattle.voice_model.proofs.FitsOfCalls.{every_passed}
use Rattle.voice_model.proofs.ReadAgain.{read_is_spelled, spelled_is_read}
use Rattle.voice_model.proofs.ReplayOfRecords.{Spell, replayed_as}
use Rattle.voice_model.proofs.StatesOfReplay.{rebuilt_next, nothing_kept, opened_kept}
use Rattle.voice_model.proofs.StatesOfImages.{shape_acted}
use Rattle.voice_model.proofs.PlacesKept.{placed_next, placed_end, placed_first, used_end}
use Rattle.voice_model.proofs.BaseSpelled.{reads_back}
use Rattle.disk_areas.specs.Areas.{Record, Journal}
use Rattle.voice_journal.specs.Readings.{record_at, records_of, with_payload, switched}
use Rattle.recovery.specs.Shown.{plain_sample}
use Rattle.recovery.proofs.Rebuilding.{filter_all}
use Rattle.recovery.proofs.Finished.{legal_finished, acted_finished}
use Rattle.journal_readings.specs.Readings.{Rebuild}

-- ---- a record that is replayed

pub all_same : (a b : Rebuilt) → Replayed.All a ≡ Replayed.All b → a ≡ b
all_same a b e = cc

-- the bytes spelled a legal change, and the rest went on from there
pub record Accepted (r : Rebuilt) (o : Option Change) (later : Rebuilt → Replayed) (end : Rebuilt) : Type 0 where
  pub change : Change
  pub spelled : o ≡ Some change
  pub legal : is_legal r change ≡ true
  pub rest : later (acted r change) ≡ Replayed.All end

allowed : (b : Bool) (at : ℕ) (later : Replayed) (end : Rebuilt) → if_allowed b at later ≡ Replayed.All end → (b ≡ true) × (later ≡ Replayed.All end)
allowed true at later end h = (refl, h)
allowed false at later end h = cc

pub accepted : (r : Rebuilt) (at : ℕ) (o : Option Change) (later : Rebuilt → Replayed) (end : Rebuilt) → by_change r at o later ≡ Replayed.All end → Accepted r o later end
accepted r at None later end h = cc
accepted r at (Some c) later end h =
    let tests = allowed (is_legal r c) at (later (acted r c)) end h in
    record { change = c; spelled = refl; legal = tests.0; rest = tests.1 }

pub accepted_at : (r : Rebuilt) (at : ℕ) (o : Option Change) (c : Change) (later : Rebuilt → Replayed) → o ≡ Some c → is_legal r c ≡ true → by_change r at o later ≡ later (acted r c)
accepted_at r at o c later spelled legal = ap (λ p. by_change r at p later) spelled ∙ ap (λ b. if_allowed b at (later (acted r c))) legal

-- ---- what is kept

-- what is rebuilt at the end of records
record Ends (f : Spot → Tagged) (shape : Shape) (end : Rebuilt) : Type 0 where
  pub kept : IsRebuilt f end
  pub placed : IsPlaced end
  pub used : AllUsed end
  pub shaped : end.shape ≡ shape

ended : (f : Spot → Tagged) (shape : Shape) (r : Rebuilt) → IsRebuilt f r → IsPlaced r → r.shape ≡ shape → Ends f shape (finished r)
ended f shape r kept placed shaped = record {
  kept = record { kept = kept.kept; forms = kept.forms; newest = kept.newest; fresh = kept.fresh };
  placed = placed_end r placed;
  used = used_end r;
  shaped = shaped;
}

module _ (f : Spot → Tagged) (same : (s : Spot) → spot_of (f s) ≡ s) where
  ends_after : (r : Rebuilt) (records : List Record) (end : Rebuilt) (shape : Shape) → IsRebuilt f r → IsPlaced r → r.shape ≡ shape → replayed r records ≡ Replayed.All end → Ends f shape end
  ends_after r [] end shape kept placed shaped e = subst (Ends f shape) (all_same (finished r) end e) (ended f shape r kept placed shaped)
  ends_after r (one ∷ records) end shape kept placed shaped e =
      let next = accepted r one.at (change_in one.payload) (λ next. replayed next records) end e in
      let grammar = (read_is_spelled one.payload next.change next.spelled).grammar in
      ends_after (acted r next.change) records end shape (rebuilt_next f same r next.change kept next.legal grammar) (placed_next r next.change placed next.legal grammar)
      (shape_acted r next.change ∙ shaped) next.rest

  ends_of : (r : Journal) (b : Rebuilt) → Rebuild r b → Ends f r.shape b
  ends_of r b e = ends_after (nothing_rebuilt r.shape) r.records b r.shape (nothing_kept f same r.shape) (placed_first r.shape) refl e

plain_spot : (s : Spot) → spot_of (plain_sample s) ≡ s
plain_spot s = refl

pub valid : (r : Journal) (b : Rebuilt) → Rebuild r b → IsRebuilt plain_sample b × IsPlaced b × AllUsed b × (b.shape ≡ r.shape)
valid r b e = let ends = ends_of plain_sample plain_spot r b e in (ends.kept, ends.placed, ends.used, ends.shaped)

finished_used : (b : Rebuilt) → AllUsed b → finished b ≡ b
finished_used b used = ap (λ (l : List Placed). record b { places = l }) (filter_all (λ (place : Placed). has_pair (used_pairs b.kept) place.pair) b.places used)

pub finished_again : (r : Journal) (b : Rebuilt) → Rebuild r b → finished b ≡ b
finished_again r b e = finished_used b (valid r b e).2

pub state : (r : Journal) (b : Rebuilt) (image : List ℕ) (left epoch : ℕ) → Rebuild r b → left ≤ r.shape.area - 17 → IsState (opened (recovered image b) left epoch b.form)
state r b image left epoch e h =
    let same : (s : Spot) → spot_of (filled image b s) ≡ s = λ s. refl in
    let ends = ends_of (filled image b) same r b e in
    opened_kept (filled image b) same b left epoch ends.kept (subst (λ (shape : Shape). left ≤ shape.area - 17) (sym ends.shaped) h)

pub once : (r : Journal) (b c : Rebuilt) → Rebuild r b → Rebuild r c → b ≡ c
once r b c h k = all_same b c (sym h ∙ k)

-- ---- one record more

still_twice : (d : Durable Spot) (places : List Placed) → still_used d (still_used d places) ≡ still_used d places
still_twice d places = filter_all (λ (place : Placed). has_pair (used_pairs d) place.pair) (still_used d places) (every_passed (λ (place : Placed). has_pair (used_pairs d) place.pair) places)

finished_after : (r : Rebuilt) (places : List Placed) (o : Option (Effect Spot)) → is_some o ≡ true → finished (after_effect r places o) ≡ after_effect r places o
finished_after r places None h = cc
finished_after r places (Some effect) h =
    let next = after_effect r places (Some effect) in ap (λ (l : List Placed). record next { places = l }) (still_twice next.kept (r.places ++ places))

finished_acted : (r : Rebuilt) (c : Change) → is_some (brings c) ≡ true → finished (acted r c) ≡ acted r c
finished_acted r (changes.Recorded id len addresses) h = finished_after r _ (brings (changes.Recorded id len addresses)) h
finished_acted r (changes.Wide id len addresses) h = finished_after r _ (brings (changes.Wide id len addresses)) h
finished_acted r (changes.Edited id pieces) h = finished_after r _ (brings (changes.Edited id pieces)) h
finished_acted r (changes.Retained class key id note) h = finished_after r _ (brings (changes.Retained class key id note)) h
finished_acted r (changes.Forgotten class key) h = finished_after r _ (brings (changes.Forgotten class key)) h
finished_acted r (changes.Census keys) h = finished_after r _ (brings (changes.Census keys)) h
finished_acted r (changes.Swept ids) h = finished_after r _ (brings (changes.Swept ids)) h
finished_acted r (changes.Advanced moment) h = finished_after r _ (brings (changes.Advanced moment)) h
finished_acted r (changes.Base now next) h = cc
finished_acted r (changes.Base2 now next) h = cc
finished_acted r (changes.File file pairs) h = cc
finished_acted r (changes.File2 file pairs) h = cc
finished_acted r (changes.Rope id idle pieces) h = cc
finished_acted r (changes.Rope2 id idle last pieces) h = cc

module _ (one : Record) (c : Change) (spelled : change_in one.payload ≡ Some c) (brought : is_some (brings c) ≡ true) where
  last_one : (r : Rebuilt) → IsPlaced r → is_legal (finished r) c ≡ true → replayed r (one ∷ []) ≡ Replayed.All (acted (finished r) c)
  last_one r placed legal =
      let before = sym (legal_finished r c brought) ∙ legal in
      accepted_at r one.at (change_in one.payload) c (λ next. replayed next []) spelled before
      ∙ ap Replayed.All (finished_acted r c brought ∙ sym (acted_finished r c brought placed before))

  one_more : (r : Rebuilt) (records : List Record) (b : Rebuilt) → IsPlaced r → is_legal b c ≡ true → replayed r records ≡ Replayed.All b → replayed r (records ++ one ∷ []) ≡ Replayed.All (acted b c)
  one_more r [] b placed legal e =
      let same = all_same (finished r) b e in
      last_one r placed (ap (λ x. is_legal x c) same ∙ legal) ∙ ap (λ x. Replayed.All (acted x c)) same
  one_more r (first ∷ records) b placed legal e =
      let next = accepted r first.at (change_in first.payload) (λ next. replayed next records) b e in
      accepted_at r first.at (change_in first.payload) next.change (λ next. replayed next (records ++ one ∷ [])) next.spelled next.legal
      ∙ one_more (acted r next.change) records b (placed_next r next.change placed next.legal (read_is_spelled first.payload next.change next.spelled).grammar) legal next.rest

pub append : (r : Journal) (b : Rebuilt) (payload : List ℕ) (c : Change) → Rebuild r b → change_in payload ≡ Some c → is_some (brings c) ≡ true → is_legal b c ≡ true → Rebuild (with_payload r payload) (acted b c)
append r b payload c e spelled brought legal =
    one_more (record_at r.gate payload) c spelled brought (nothing_rebuilt r.shape) r.records b (placed_first r.shape) legal e

-- ---- a base

spell_all : (at : ℕ) (cs : List Change) → Every (λ c. keeps_grammar c ≡ true) cs → Spell (records_of at (map spelling cs)) cs
spell_all at [] grammar = tt
spell_all at (c ∷ cs) grammar = (spelled_is_read c grammar.0, spell_all (at + 5 + length (spelling c)) cs grammar.1)

switch_all : (r : Journal) (cs : List Change) (end : Rebuilt) → Every (λ c. keeps_grammar c ≡ true) cs → rebuilt (nothing_rebuilt r.shape) cs ≡ Some end → Rebuild (switched r (map spelling cs)) end
switch_all r cs end grammar e = replayed_as (nothing_rebuilt r.shape) (records_of 16 (map spelling cs)) cs end (spell_all 16 cs grammar) e

switch_base :
    (r : Journal) (form : ℕ) (b : Rebuilt) → ReadsBack form b → b.shape ≡ r.shape
    → (end : Rebuilt) × Rebuild (switched r (map spelling (base_of form b))) end × (end.kept ≡ b.kept) × (end.form ≡ form) × (end.places ≡ in_order b.places) × ((image : List ℕ) → recovered image end ≡ recovered image b)
switch_base r form b back shaped = (
  back.end,
  switch_all r (base_of form b) back.end back.grammar (ap (λ (shape : Shape). rebuilt (nothing_rebuilt shape) (base_of form b)) (sym shaped) ∙ back.reads),
  back.same,
  back.in_form,
  back.places,
  back.recovers,
)

pub switch :
    (r : Journal) (form : ℕ) (b : Rebuilt) → IsRebuilt plain_sample b → IsPlaced b → AllUsed b → CanBeSpelled form b → b.shape ≡ r.shape
    → (end : Rebuilt) × Rebuild (switched r (map spelling (base_of form b))) end × (end.kept ≡ b.kept) × (end.form ≡ form) × (end.places ≡ in_order b.places) × ((image : List ℕ) → recovered image end ≡ recovered image b)
switch r form b kept placed used can shaped = switch_base r form b (reads_back plain_sample plain_spot form b kept placed used can) shaped
