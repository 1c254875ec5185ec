-- The samples of an opened disk lie in files.
use Rattle.std.proofs.Common.{◌≡◌, ℕ, Bool, true, false, List, [], ◌∷◌, map, Option, Some, None, refl, sym, subst}
use Rattle.voice_units.specs.Spots.{Spot}
use Rattle.disk_areas.specs.Areas.{Record, Journal, JournalReading, journal_in}
use Rattle.voice_model.specs.Samples.{Tagged, spot_of}
use Rattle.voice_model.specs.State.{State, Live}
use Rattle.voice_model.specs.Replay.{Placed, Rebuilt, nothing_rebuilt, is_legal, acted, finished, filled, live_by}
use Rattle.voice_model.specs.Spelling.{change_in, keeps_grammar}
use Rattle.voice_model.specs.Image.{Replayed, Reading, replayed, if_allowed, by_change, by_replay, by_journal, reading, opened_by, opened_from}
use Rattle.voice_model.specs.Valid.{Every}
use Rattle.voice_model.specs.Places.{IsPlace, IsPlaced, EachPlaced}
use Rattle.voice_model.specs.declared.changes.Change.{Change}
use Rattle.voice_model.proofs.KeptByChanges.{every-map}
use Rattle.voice_model.proofs.PlacesKept.{placed_first, placed_next, placed_end}
use Rattle.voice_model.proofs.ReadAgain.{read_is_spelled}
use Rattle.mirror_sender.specs.Laws.{IsInFile, AreInFiles, HaveFiles, HasFiles}

-- ---- what records rebuild

allowed : (b : Bool) (at : ℕ) (later : Replayed) (end : Rebuilt) → if_allowed b at later ≡ Replayed.All end → (b ≡ true) × (later ≡ Replayed.All end)
allowed true at later end h = (refl, h)
allowed false at later end h = cc

one_record : (r : Rebuilt) (at : ℕ) (bytes : List ℕ) (o : Option Change) (later : Rebuilt → Replayed) (end : Rebuilt) {P : Type 0} → change_in bytes ≡ o → ((c : Change) → keeps_grammar c ≡ true → is_legal r c ≡ true → later (acted r c) ≡ Replayed.All end → P) → by_change r at o later ≡ Replayed.All end → P
one_record r at bytes None later end e step h = cc
one_record r at bytes (Some c) later end e step h =
    let tests = allowed (is_legal r c) at (later (acted r c)) end h in
    step c (read_is_spelled bytes c e).grammar tests.0 tests.1

all_same : (a b : Rebuilt) → Replayed.All a ≡ Replayed.All b → a ≡ b
all_same a b e = cc

replayed_placed : (r : Rebuilt) (records : List Record) (end : Rebuilt) → IsPlaced r → replayed r records ≡ Replayed.All end → IsPlaced end
replayed_placed r [] end h e = subst IsPlaced (all_same (finished r) end e) (placed_end r h)
replayed_placed r (one ∷ records) end h e =
    one_record r one.at one.payload (change_in one.payload) (λ next. replayed next records) end refl (λ c grammar legal later. replayed_placed (acted r c) records end (placed_next r c h legal grammar) later) e

-- ---- the samples that are filled in

rope_placed : (f : Spot → Tagged) → ((p : Spot) → spot_of (f p) ≡ p) → (block : ℕ) (places : List Placed) (samples : List Spot) → Every (IsPlace block places) samples → AreInFiles (map f samples)
rope_placed f same block places samples h =
    every-map (IsPlace block places) (λ (t : Tagged). IsInFile (spot_of t)) f (λ p k. subst IsInFile (sym (same p)) (record { some_file = k.some_file; file_limit = k.file_limit; place_limit = k.place_limit })) samples h

ropes_placed : (f : Spot → Tagged) → ((p : Spot) → spot_of (f p) ≡ p) → (block : ℕ) (places : List Placed) (ropes : List (Live Spot)) → EachPlaced block places ropes → HaveFiles (map (live_by f) ropes)
ropes_placed f same block places ropes h =
    every-map (λ (rope : Live Spot). Every (IsPlace block places) rope.samples) (λ (rope : Live Tagged). AreInFiles rope.samples) (live_by f) (λ rope k. rope_placed f same block places rope.samples k) ropes h

-- ---- images

abbrev ArePlaced : Reading → Type 0
ArePlaced (Reading.Reads journal r) = IsPlaced r
ArePlaced (Reading.Bad place) = Unit {0}

placed_replay : (journal : Journal) (o : Replayed) → replayed (nothing_rebuilt journal.shape) journal.records ≡ o → ArePlaced (by_replay journal o)
placed_replay journal (Replayed.All r) e = replayed_placed (nothing_rebuilt journal.shape) journal.records r (placed_first journal.shape) e
placed_replay journal (Replayed.Refused at) e = tt

placed_journal : (o : JournalReading) → ArePlaced (by_journal o)
placed_journal (JournalReading.Stands journal) = placed_replay journal (replayed (nothing_rebuilt journal.shape) journal.records) refl
placed_journal (JournalReading.Damaged place) = tt

state_same : (s t : State) → Some s ≡ Some t → s ≡ t
state_same s t e = cc

by_reading : (image : List ℕ) (o : Reading) (s : State) → ArePlaced o → opened_by image o ≡ Some s → HasFiles s
by_reading image (Reading.Reads journal r) s h e = subst HasFiles (state_same _ s e) (record { ropes = ropes_placed (filled image r) (λ p. refl) r.shape.block r.places r.ropes h.placed; doubt = tt })
by_reading image (Reading.Bad place) s h e = cc

pub opened_files : (image : List ℕ) (s : State) → opened_from image ≡ Some s → HasFiles s
opened_files image s e = by_reading image (reading image) s (placed_journal (journal_in image)) e
