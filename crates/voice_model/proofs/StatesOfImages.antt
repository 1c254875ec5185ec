-- An image that opens gives a valid state.
use Rattle.std.proofs.Common.{◌≡◌, ℕ, zero, suc, ◌+◌, ◌-◌, ◌≤◌, ◌==◌, nat_lt, Bool, true, false, List, [], ◌∷◌, ◌&&◌, ◌||◌, map, length, take, drop, Option, Some, None, refl, sym, ◌∙◌, subst, arith}
use Rattle.std.specs.Prelude.{nat_le, bytes_eq}
use Rattle.voice_units.specs.declared.shapes.Shape.{Shape}
use Rattle.voice_units.specs.Spots.{Spot}
use Rattle.voice_model.specs.Samples.{Tagged, spot_of}
use Rattle.disk_areas.specs.Numbers.{spelled_number, number_at}
use Rattle.disk_areas.specs.Areas.{Record, Records, Journal, JournalReading, Head, journal_in, by_records, by_head, by_shape, shape_in, magic, unless_damaged, records_from, if_open, if_sound, with_record}
use Rattle.voice_model.specs.State.{State, opened}
use Rattle.voice_model.specs.Spelling.{keeps_grammar, change_in}
use Rattle.voice_model.specs.Replay.{Rebuilt, nothing_rebuilt, rebuilt, is_legal, acted, finished, filled, recovered}
use Rattle.voice_model.specs.Image.{Replayed, Reading, replayed, by_change, if_allowed, reading, by_journal, by_replay, opened_by, opened_from}
use Rattle.voice_model.specs.Valid.{IsState, IsRebuilt}
use Rattle.voice_model.specs.declared.changes.Change.{Change}
use Rattle.voice_model.specs.declared.changes.Change.TheVariants as changes
use Rattle.voice_model.proofs.ReadAgain.{read_is_spelled}
use Rattle.voice_model.proofs.ReplayOfRecords.{Spell, replayed_as}
use Rattle.voice_model.proofs.StatesOfReplay.{rebuilt_next, nothing_kept, opened_kept}

-- ---- records that spell changes

spell_each : (records : List Record) (cs : List Change) → map (λ one. change_in one.payload) records ≡ map Some cs → Spell records cs
spell_each [] [] e = tt
spell_each (one ∷ records) (c ∷ cs) e = (first _ _ _ _ e, spell_each records cs (rest _ _ _ _ e))
  where
    first : (a b : Option Change) (xs ys : List (Option Change)) → a ∷ xs ≡ b ∷ ys → a ≡ b
    first a b xs ys h = cc

    rest : (a b : Option Change) (xs ys : List (Option Change)) → a ∷ xs ≡ b ∷ ys → xs ≡ ys
    rest a b xs ys h = cc
spell_each [] (c ∷ cs) e = cc
spell_each (one ∷ records) [] e = cc

pub replayed_each : (r : Rebuilt) (records : List Record) (cs : List Change) (end : Rebuilt) → map (λ one. change_in one.payload) records ≡ map Some cs → rebuilt r cs ≡ Some end → replayed r records ≡ Replayed.All end
replayed_each r records cs end e h = replayed_as r records cs end (spell_each records cs e) h

-- ---- the shape stays

pub shape_acted : (r : Rebuilt) (c : Change) → (acted r c).shape ≡ r.shape
shape_acted r (changes.Recorded id len addresses) = refl
shape_acted r (changes.Wide id len addresses) = refl
shape_acted r (changes.Edited id pieces) = refl
shape_acted r (changes.Retained class key id note) = refl
shape_acted r (changes.Forgotten class key) = refl
shape_acted r (changes.Census keys) = refl
shape_acted r (changes.Swept ids) = refl
shape_acted r (changes.Advanced moment) = refl
shape_acted r (changes.Base now next) = refl
shape_acted r (changes.Base2 now next) = refl
shape_acted r (changes.File file pairs) = refl
shape_acted r (changes.File2 file pairs) = refl
shape_acted r (changes.Rope id idle pieces) = refl
shape_acted r (changes.Rope2 id idle last pieces) = refl

-- ---- what records rebuild

allowed : (b : Bool) (at : ℕ) (later : Replayed) (end : Rebuilt) → if_allowed b at later ≡ Replayed.All end → (b ≡ true) × (later ≡ Replayed.All end)
allowed true at later end h = (refl, h)
allowed false at later end h = cc

one_record : (r : Rebuilt) (at : ℕ) (bytes : List ℕ) (o : Option Change) (later : Rebuilt → Replayed) (end : Rebuilt) {P : Type 0} → change_in bytes ≡ o → ((c : Change) → keeps_grammar c ≡ true → is_legal r c ≡ true → later (acted r c) ≡ Replayed.All end → P) → by_change r at o later ≡ Replayed.All end → P
one_record r at bytes None later end e step h = cc
one_record r at bytes (Some c) later end e step h =
    let tests = allowed (is_legal r c) at (later (acted r c)) end h in
    step c (read_is_spelled bytes c e).grammar tests.0 tests.1

all_same : (a b : Rebuilt) → Replayed.All a ≡ Replayed.All b → a ≡ b
all_same a b e = cc

-- what is rebuilt, and its shape
pub record Ends (f : Spot → Tagged) (shape : Shape) (end : Rebuilt) : Type 0 where
  pub kept : IsRebuilt f end
  pub shaped : end.shape ≡ shape

module _ (f : Spot → Tagged) (same : (s : Spot) → spot_of (f s) ≡ s) where
  replayed_kept : (r : Rebuilt) (records : List Record) (end : Rebuilt) (shape : Shape) → Ends f shape r → replayed r records ≡ Replayed.All end → Ends f shape end
  replayed_kept r [] end shape h e =
      subst (Ends f shape) (all_same (finished r) end e)
      (record { kept = record { kept = h.kept.kept; forms = h.kept.forms; newest = h.kept.newest; fresh = h.kept.fresh }; shaped = h.shaped })
  replayed_kept r (one ∷ records) end shape h e =
      one_record r one.at one.payload (change_in one.payload) (λ next. replayed next records) end refl
      (λ c grammar legal later. replayed_kept (acted r c) records end shape (record { kept = rebuilt_next f same r c h.kept legal grammar; shaped = shape_acted r c ∙ h.shaped }) later) e

  from_nothing : (shape : Shape) (records : List Record) (end : Rebuilt) → replayed (nothing_rebuilt shape) records ≡ Replayed.All end → Ends f shape end
  from_nothing shape records end e = replayed_kept (nothing_rebuilt shape) records end shape (record { kept = nothing_kept f same shape; shaped = refl }) e

-- ---- the gate behind the records

sound_same : (rs qs : List Record) (g h : ℕ) → Records.Sound rs g ≡ Records.Sound qs h → g ≡ h
sound_same rs qs g h e = cc

with_gate : (at : ℕ) (one : Record) (later : Records) (rs : List Record) (gate : ℕ) → ((qs : List Record) (g : ℕ) → later ≡ Records.Sound qs g → at ≤ g) → with_record one later ≡ Records.Sound rs gate → at ≤ gate
with_gate at one (Records.Sound qs g) rs gate step e = subst (λ n. at ≤ n) (sound_same (one ∷ qs) rs g gate e) (step qs g refl)
with_gate at one (Records.Broken place) rs gate step e = cc

sound_gate : (b : Bool) (at place : ℕ) (later : Records) (rs : List Record) (gate : ℕ) → (later ≡ Records.Sound rs gate → at ≤ gate) → if_sound b place later ≡ Records.Sound rs gate → at ≤ gate
sound_gate true at place later rs gate step e = step e
sound_gate false at place later rs gate step e = cc

open_gate : (b : Bool) (at : ℕ) (later : Records) (rs : List Record) (gate : ℕ) → (later ≡ Records.Sound rs gate → at ≤ gate) → if_open b at later ≡ Records.Sound rs gate → at ≤ gate
open_gate true at later rs gate step e = step e
open_gate false at later rs gate step e = let g = sound_same [] rs at gate e in omega (arith, g)

gate_behind : (most area at : ℕ) (bytes : List ℕ) (rs : List Record) (gate : ℕ) → records_from most area at bytes ≡ Records.Sound rs gate → at ≤ gate
unfolding records_from
gate_behind zero area at bytes rs gate e = let g = sound_same [] rs at gate e in omega (arith, g)
gate_behind (suc most) area at [] rs gate e = let g = sound_same [] rs at gate e in omega (arith, g)
gate_behind (suc most) area at (b ∷ rest) rs gate e =
    let len = spelled_number (take 4 rest) in
    let one : Record = record { at = at; payload = take len (drop 4 rest) } in
    let more = records_from most area (at + 5 + len) (drop (4 + len) rest) in
    let last : (qs : List Record) (g : ℕ) → more ≡ Records.Sound qs g → at ≤ g = λ qs g later. let further = gate_behind most area (at + 5 + len) (drop (4 + len) rest) qs g later in omega (arith, further) in
    open_gate (b == 1) at (if_sound (nat_lt (at + 5 + len) area) at (with_record one more)) rs gate
    (λ k. sound_gate (nat_lt (at + 5 + len) area) at at (with_record one more) rs gate (λ h. with_gate at one more rs gate last h) k) e

-- ---- the journal of an image

stands_same : (a b : Journal) → JournalReading.Stands a ≡ JournalReading.Stands b → a ≡ b
stands_same a b e = cc

undamaged : (b : Bool) (place : ℕ) (later : JournalReading) (journal : Journal) {P : Type 0} → (later ≡ JournalReading.Stands journal → P) → unless_damaged b place later ≡ JournalReading.Stands journal → P
undamaged true place later journal step e = step e
undamaged false place later journal step e = cc

gate_of_records : (shape : Shape) (head : Head) (records : Records) (journal : Journal) → ((rs : List Record) (gate : ℕ) → records ≡ Records.Sound rs gate → 16 ≤ gate) → by_records shape head records ≡ JournalReading.Stands journal → 16 ≤ journal.gate
gate_of_records shape head (Records.Sound rs gate) journal step e =
    let whole : Journal = record { shape = shape; start = head.start; epoch = head.epoch; records = rs; gate = gate } in
    subst (λ (j : Journal). 16 ≤ j.gate) (stands_same whole journal e) (step rs gate refl)
gate_of_records shape head (Records.Broken at) journal step e = cc

gate_of_head : (shape : Shape) (image : List ℕ) (o : Option Head) (journal : Journal) → by_head shape image o ≡ JournalReading.Stands journal → 16 ≤ journal.gate
gate_of_head shape image None journal e = cc
gate_of_head shape image (Some head) journal e = gate_of_records shape head _ journal (λ rs gate. gate_behind shape.area shape.area 16 _ rs gate) e

gate_of_shape : (version : ℕ) (image : List ℕ) (o : Option Shape) (journal : Journal) → by_shape version image o ≡ JournalReading.Stands journal → 16 ≤ journal.gate
gate_of_shape version image None journal e = cc
gate_of_shape version image (Some shape) journal e = undamaged _ _ _ journal (gate_of_head shape image _ journal) e

gate_of_image : (image : List ℕ) (journal : Journal) → journal_in image ≡ JournalReading.Stands journal → 16 ≤ journal.gate
unfolding journal_in
gate_of_image image journal e =
    let version = number_at 4 8 image in
    let later = by_shape version image (shape_in version image) in
    undamaged (nat_le 64 (length image) && bytes_eq (take 8 image) magic) 0 (unless_damaged ((version == 1) || (version == 2)) 8 later) journal
    (undamaged ((version == 1) || (version == 2)) 8 later journal (gate_of_shape version image (shape_in version image) journal)) e

-- ---- the state

reads_same : (j k : Journal) (r q : Rebuilt) → Reading.Reads j r ≡ Reading.Reads k q → (j ≡ k) × (r ≡ q)
reads_same j k r q e = (cc, cc)

abbrev Valid : List ℕ → Reading → Type 0
Valid image (Reading.Reads journal r) = IsState (opened (recovered image r) (journal.shape.area - 1 - journal.gate) journal.epoch r.form)
Valid image (Reading.Bad place) = Unit {0}

left_small : (area gate : ℕ) → 16 ≤ gate → area - 1 - gate ≤ area - 17
left_small area gate h = omega arith

state_of_replay : (image : List ℕ) (journal : Journal) → 16 ≤ journal.gate → (o : Replayed) → replayed (nothing_rebuilt journal.shape) journal.records ≡ o → Valid image (by_replay journal o)
state_of_replay image journal h (Replayed.All r) e =
    let same : (s : Spot) → spot_of (filled image r s) ≡ s = λ s. refl in
    let ends = from_nothing (filled image r) same journal.shape journal.records r e in
    opened_kept (filled image r) same r (journal.shape.area - 1 - journal.gate) journal.epoch ends.kept
    (subst (λ (shape : Shape). journal.shape.area - 1 - journal.gate ≤ shape.area - 17) (sym ends.shaped) (left_small journal.shape.area journal.gate h))
state_of_replay image journal h (Replayed.Refused at) e = tt

state_of_journal : (image : List ℕ) (o : JournalReading) → journal_in image ≡ o → Valid image (by_journal o)
state_of_journal image (JournalReading.Stands journal) e = state_of_replay image journal (gate_of_image image journal e) (replayed (nothing_rebuilt journal.shape) journal.records) refl
state_of_journal image (JournalReading.Damaged place) e = tt

state_same : (s t : State) → Some s ≡ Some t → s ≡ t
state_same s t e = cc

by_reading : (image : List ℕ) (o : Reading) (s : State) → Valid image o → opened_by image o ≡ Some s → IsState s
by_reading image (Reading.Reads journal r) s h e = subst IsState (state_same _ s e) h
by_reading image (Reading.Bad place) s h e = cc

pub opened_valid : (image : List ℕ) (s : State) → opened_from image ≡ Some s → IsState s
opened_valid image s e = by_reading image (reading image) s (state_of_journal image (journal_in image) refl) e
