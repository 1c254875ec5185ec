-- The state as which a disk opens.
use Rattle.recording_calls.specs.Shown.{ShowsRecordings}
use Rattle.voice_store.proofs.Filled.{opened_filled, nothing_whole, quiet_taking}
use Rattle.std.proofs.Common.{◌≡◌, inl, ℕ, zero, suc, ◌+◌, ◌-◌, ◌≤◌, ◌<◌, List, [], ◌∷◌, replicate, Some, None, IsTrue, false, refl, sym, ◌∙◌, ap, subst, arith}
use Rattle.std.proofs.lemmas.List.{length-replicate}
use Rattle.std.specs.Prelude.{slice_get}
use Rattle.voice_units.specs.declared.shapes.Shape.{Shape}
use Rattle.voice_outside.specs.Disk.{Told}
use Rattle.disk_areas.specs.Areas as journal
use Rattle.voice_journal.specs.Places.{JournalValue}
use Rattle.voice_journal.specs.Parsed.{placed}
use Rattle.voice_journal.specs.Readings.{extent}
use Rattle.voice_journal.specs.Opens.{IsOpened}
use Rattle.voice_journal.specs.Looks.{Since}
use Rattle.voice_journal.specs.Stands.{IsAt}
use Rattle.voice_journal.specs.declared.opening.Opened.{Opened}
use Rattle.voice_model.specs.State.{State, opened, quiet_lane}
use Rattle.voice_model.specs.Changes.{taking_of}
use Rattle.voice_model.specs.Step.{after}
use Rattle.voice_model.specs.Heard.{LegalOn}
use Rattle.voice_model.specs.Replay.{Rebuilt, nothing_rebuilt, filled, recovered}
use Rattle.voice_model.specs.Image.{Replayed, Reading, replayed, reading, opened_from}
use Rattle.voice_model.specs.Valid.{IsState}
use Rattle.voice_model.specs.declared.calls.Entry.{Entry}
use Rattle.voice_model.proofs.Heard.{legal_on-none}
use Rattle.recovery.specs.Shown.{Rebuilds, numbered}
use Rattle.running_tables.specs.Running.{Runs, held_in, pledged_in, takings_in, takings_of}
use Rattle.running_tables.proofs.Dropped.{repledged}
use Rattle.running_tables.proofs.Quiet.{quiet}
use Rattle.journal_readings.specs.Readings.{payloads_of, Rebuild}
use Rattle.journal_readings.proofs.Openings.{numbered_all, numbered_bad}
use Rattle.journal_readings.proofs.Replays.{valid, state}
use Rattle.crash_laws.specs.Standing.{IsHeld, IsHonest, first_state}
use Rattle.crash_laws.specs.Laws.{OpeningHolds}
use Rattle.voice_store.specs.declared.inside.Inside.{Inside}
use Rattle.recovery.specs.Replayed.{bytes_of, records_of}
use Rattle.voice_store.specs.Stood.{tapes_of, last_of, Fills, IsSeated, AcksRise, IsHolding, Plays, Stood, IsSure}
use Rattle.voice_store.specs.Playing.{IsPlaying}
use Rattle.voice_store.proofs.Played.{IsEmptyOf, playing_first}
use Rattle.std.specs.Prelude.{count_by}
use Rattle.voice_store.specs.Shown.{Stands}
use Rattle.voice_store.specs.Turns.{ShortTurns}
use Rattle.voice_store.specs.Stood.{is_fault}
use Rattle.voice_store.specs.Facts.{Goes}
use Rattle.voice_store.proofs.Refusals.{refused_there}

-- ---- payloads that were read

placed_payloads : (start : ℕ) (rs : List journal.Record) → payloads_of (placed start rs) ≡ payloads_of rs
placed_payloads start [] = refl
placed_payloads start (r ∷ rs) = ap (λ (l : List (List ℕ)). r.payload ∷ l) (placed_payloads start rs)

-- the payloads of the records are those that were read
payloads_read : (start : ℕ) (ps rs : List journal.Record) → ps ≡ placed start rs → payloads_of rs ≡ bytes_of ps
payloads_read start ps rs e = sym (placed_payloads start rs) ∙ sym (ap (λ (l : List journal.Record). payloads_of l) e)

-- what they rebuild is what the records rebuild
read_rebuilds : (bytes : List ℕ) (disk : Told) (opening : Opened) (r : journal.Journal) → IsOpened bytes disk opening r → opening.journal.shape ≡ opening.shape
    → (x : Replayed) → replayed (nothing_rebuilt opening.shape) (records_of opening.payloads) ≡ x → replayed (nothing_rebuilt r.shape) (numbered 0 (payloads_of r.records)) ≡ x
read_rebuilds bytes disk opening r is same x e =
    ap (λ (l : List (List ℕ)). replayed (nothing_rebuilt r.shape) (numbered 0 l)) (payloads_read r.start opening.payloads r.records is.payloads)
    ∙ ap (λ (shape : Shape). replayed (nothing_rebuilt shape) (records_of opening.payloads)) (sym is.stands.at.shape_is ∙ same) ∙ e

-- one that is refused is damage at its gate's place
pub refused_place : (bytes : List ℕ) (disk : Told) (opening : Opened) (r : journal.Journal) → IsOpened bytes disk opening r → opening.journal.shape ≡ opening.shape
    → (k place : ℕ) → replayed (nothing_rebuilt opening.shape) (records_of opening.payloads) ≡ Replayed.Refused k
    → ((one : journal.Record) → slice_get opening.payloads k ≡ Some one → place ≡ one.at) → reading bytes ≡ Reading.Bad place
refused_place bytes disk opening r is same k place refused at =
    let there = refused_there (nothing_rebuilt opening.shape) opening.payloads k refused in
    let found : slice_get (placed r.start r.records) k ≡ Some there.one =
    ap (λ (l : List journal.Record). slice_get l k) (sym is.payloads) ∙ there.at in
    numbered_bad bytes r k there.one is.reads (read_rebuilds bytes disk opening r is same (Replayed.Refused k) refused) found
    ∙ ap (λ (n : ℕ). Reading.Bad n) (sym (at there.one there.at))

-- ---- the first state

-- what is rebuilt, filled from these bytes, at the journal's place
abbrev pub first_of : List ℕ → JournalValue → Rebuilt → State
first_of bytes j b = opened (recovered bytes b) (j.shape.area - 1 - j.seat.gate) j.seat.epoch b.form

-- payloads as a journal's records
abbrev as_journal : Shape → List journal.Record → journal.Journal
as_journal shape ps = record { shape = shape; start = 0; epoch = 0; records = ps; gate = 0 }

as_rebuild : (shape : Shape) (ps : List journal.Record) (b : Rebuilt) → replayed (nothing_rebuilt shape) (records_of ps) ≡ Replayed.All b → Rebuild (as_journal shape ps) b
as_rebuild shape ps b e = numbered_all (as_journal shape ps) b e

-- its shape is the journal's, and it is a state, whatever the bytes are
pub shape_rebuilt : (shape : Shape) (ps : List journal.Record) (b : Rebuilt) → replayed (nothing_rebuilt shape) (records_of ps) ≡ Replayed.All b → b.shape ≡ shape
shape_rebuilt shape ps b e = let v = valid (as_journal shape ps) b (as_rebuild shape ps b e) in v.3

first_valid : (bytes : List ℕ) (shape : Shape) (ps : List journal.Record) (b : Rebuilt) (left epoch : ℕ) → replayed (nothing_rebuilt shape) (records_of ps) ≡ Replayed.All b
    → left ≤ shape.area - 17 → IsState (opened (recovered bytes b) left epoch b.form)
first_valid bytes shape ps b left epoch e le = state (as_journal shape ps) b bytes left epoch (as_rebuild shape ps b e) le

-- on an honest disk it is the one that the disk's bytes open as
same_first : (bytes : List ℕ) (j : JournalValue) (r : journal.Journal) (b : Rebuilt) → IsAt j.shape j.seat r → first_of bytes j b ≡ first_state bytes r b
same_first bytes j r b at =
    ap (λ (shape : Shape). opened (recovered bytes b) (shape.area - 1 - j.seat.gate) j.seat.epoch b.form) at.shape_is
    ∙ ap (λ (gate : ℕ). opened (recovered bytes b) (r.shape.area - 1 - gate) j.seat.epoch b.form) at.gate
    ∙ ap (λ (epoch : ℕ). opened (recovered bytes b) (r.shape.area - 1 - r.gate) epoch b.form) at.epoch

module _ (tapes : List (List ℕ)) (t0 : ℕ) (bytes : List ℕ) (disk : Told) (opening : Opened) (b : Rebuilt) (same : opening.journal.shape ≡ opening.shape)
    (rebuilds : replayed (nothing_rebuilt opening.shape) (records_of opening.payloads) ≡ Replayed.All b)
    (honest : IsHonest disk) (past : t0 ≤ disk.calls) (since : Since t0 disk (λ image. image ≡ bytes)) (r : journal.Journal) (is : IsOpened bytes disk opening r) (law : OpeningHolds disk) where
  abbrev first : State
  first = first_of bytes opening.journal b

  rebuild_read : Rebuild r b
  rebuild_read = numbered_all r b (read_rebuilds bytes disk opening r is same (Replayed.All b) rebuilds)

  pub opens_as_first : opened_from bytes ≡ Some first
  opens_as_first = (law.opened tapes t0 bytes opening r b honest past since is rebuild_read).0 ∙ ap (λ (s : State). Some s) (sym (same_first bytes opening.journal r b is.stands.at))

  pub first_held : IsHeld first tapes t0 opening.journal disk b b []
  first_held =
      subst (λ (s : State). IsHeld s tapes t0 opening.journal disk b b []) (sym (same_first bytes opening.journal r b is.stands.at))
      (law.opened tapes t0 bytes opening r b honest past since is rebuild_read).1

-- ---- the store

-- a store that was just opened stands for the first state
module _ (t0 : ℕ) (bytes : List ℕ) (disk : Told) (s : Inside) (b : Rebuilt) (ps : List journal.Record) (items : s.history.items ≡ []) where
  abbrev begin : State
  begin = first_of bytes s.journal b

  still_first : last_of begin s ≡ begin
  still_first = ap (λ (l : List Entry). after begin (tapes_of s) l) items

  of_last : (P : State → Type 0) → P begin → P (last_of begin s)
  of_last P p = subst P (sym still_first) p

  -- the lanes of the first state hold nothing
  begin_runs : Rebuilds s.parts b → Runs (held_in begin) [] (takings_in begin) s.parts b
  begin_runs tables =
      repledged (held_in begin) (pledged_in begin) [] (takings_in begin) s.parts b (λ pair. refl)
      (quiet s.parts b begin tables (ap (λ (n : ℕ). replicate n quiet_lane) (sym (length-replicate begin.kept.shape.lanes quiet_lane))) refl)

  pub stood_first : replayed (nothing_rebuilt s.journal.shape) (records_of ps) ≡ Replayed.All b → Rebuilds s.parts b → s.doubt ≡ None → s.journal.doubt ≡ None
      → 16 ≤ s.journal.seat.gate → s.journal.seat.gate < s.journal.shape.area
      → t0 ≤ disk.calls → extent s.journal.shape ≤ disk.size → (IsTrue disk.honest → IsHeld begin (tapes_of s) t0 s.journal disk b b [])
      → (IsTrue disk.honest → disk.bytes ≡ bytes) → IsEmptyOf s.journal.shape s.lanes → s.made ≡ 0 → ((t : State) → t.lanes ≡ replicate s.journal.shape.lanes quiet_lane → ShowsRecordings s.recordings t) → Stood begin t0 disk s
  stood_first rebuilds tables none sure from within past size held same empty unmade unrecorded = record {
    fill = filled bytes b;
    b = b;
    after = b;
    held = held_in begin;
    takings = takings_in begin;
    holding = of_last (λ t. IsHolding (held_in begin) (takings_in begin) s.journal.shape.block t.lanes) (record { passages = refl; recordings = ap (λ (x : Shape). takings_of x.block begin.lanes) (shape_rebuilt s.journal.shape ps b rebuilds) });
    upright = record {
      legal = subst (λ (l : List Entry). LegalOn disk.honest begin (tapes_of s) l) (sym items) (legal_on-none disk.honest begin (tapes_of s));
      valid = of_last (λ t. IsState t) (first_valid bytes s.journal.shape ps b (s.journal.shape.area - 1 - s.journal.seat.gate) s.journal.seat.epoch rebuilds (omega (arith, from, within)));
      fills = of_last (λ t. Fills (filled bytes b) b t) (record { spots = λ x. refl; kept = refl; form = refl });
      seated = of_last (λ t. IsSeated s.journal t) (record {
        shape = shape_rebuilt s.journal.shape ps b rebuilds;
        left = omega (arith, from, within);
        epoch = refl;
      });
      acks = subst (λ (l : List Entry). AcksRise t0 l disk.calls) (sym items) past;
      held = λ honest. subst (λ (l : List Entry). IsHeld begin (tapes_of s) t0 s.journal disk b b l) (sym items) (held honest);
      bytes = λ honest. record {
        filled = opened_filled bytes disk.bytes s.journal.shape b s.parts.blocks.holders (shape_rebuilt s.journal.shape ps b rebuilds) (same honest) tables.places tables.placed.once;
        whole = λ lane. nothing_whole s.journal.shape disk.bytes s.parts.blocks.holders lane (taking_of (last_of begin s) lane) (of_last (λ t. taking_of t lane ≡ []) (quiet_taking begin.kept.shape.lanes lane));
      };
    };
    tables = inl (of_last (λ t. IsSure (held_in begin) (takings_in begin) s b b t) (record { sure = none; in_journal = sure; in_state = refl; tables = begin_runs tables; same = refl }));
    playing = of_last (λ t. Plays (filled bytes b) disk.honest s t) (subst (λ n. IsPlaying (filled bytes b) disk.honest s.journal.shape.block s.parts.ropes s.lanes n s.recordings begin) (sym unmade)
        (let in_shape = shape_rebuilt s.journal.shape ps b rebuilds in
        playing_first (filled bytes b) (λ x. refl) disk.honest s.journal.shape.block s.journal.shape.lanes s.parts.ropes s.lanes s.recordings begin
        (ap (λ (x : Shape). replicate x.lanes quiet_lane) in_shape) (ap (λ (x : Shape). x.lanes) in_shape) refl
        empty.queues (empty.block ∙ ap (λ (x : Shape). x.block) (sym in_shape)) empty.resident (unrecorded begin (ap (λ (x : Shape). replicate x.lanes quiet_lane) in_shape))));
    size = size;
  }

-- with an empty history it stands, seen from the disk as it was before
stands_first : (first : State) (origin disk : Told) (s : Inside) → s.history.items ≡ [] → Goes 5 origin disk → Stood first (origin.calls + 1) disk s → Stands first origin disk s false
stands_first first origin disk s items goes stood =
    let faults = goes.faults in
    let calls = goes.calls in
    let none_yet : ShortTurns first (tapes_of s) (origin.calls + 5) [] disk.calls = (let few : disk.calls ≤ origin.calls + 5 = omega (arith, calls) in few) in
    record {
      stood = stood;
      faults = λ _. (subst (λ (l : List Entry). origin.faults + count_by is_fault l ≤ disk.faults) (sym items) (omega (arith, faults)));
      size = goes.size;
      honest = goes.honest;
      turns = λ _. subst (λ (l : List Entry). ShortTurns first (tapes_of s) (origin.calls + 5) l disk.calls) (sym items) none_yet;
    }

-- the same, seen from a copy of it
pub stands_by_copy : {D : Type 0} (told : D → Told) (copy old : D) → copy ≡ old → (first : State) (disk : Told) (s : Inside) → s.history.items ≡ [] → Goes 5 (told old) disk → Stood first ((told old).calls + 1) disk s → Stands first (told copy) disk s false
stands_by_copy {D} told copy old same first disk s items goes stood = subst (λ (d : D). Stands first (told d) disk s false) (sym same) (stands_first first (told old) disk s items goes stood)
