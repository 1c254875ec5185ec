-- What a disk opens as.
use Rattle.std.proofs.Common.{◌≡◌, ℕ, ◌+◌, ◌≤◌, Bool, false, List, [], ◌∷◌, Some, None, IsTrue, refl, sym, ◌∙◌, ap, subst, arith}
use Rattle.std.specs.Prelude.{slice_get}
use Rattle.voice_units.specs.declared.shapes.Shape.{Shape}
use Rattle.voice_outside.specs.Disk.{Told}
use Rattle.disk_areas.specs.Areas.{Record, Journal}
use Rattle.voice_journal.specs.Looks.{Looks, Since}
use Rattle.voice_journal.specs.Opens as journals
use Rattle.voice_journal.specs.Parsed.{placed}
use Rattle.voice_journal.specs.declared.opening.Opened.{Opened}
use Rattle.voice_model.specs.Replay.{Rebuilt, nothing_rebuilt, recovered}
use Rattle.recovery.specs.declared.parts.Parts.{Parts}
use Rattle.recovery.specs.Replayed.{bytes_of, records_of}
use Rattle.recovery.specs.Shown.{Rebuilds, IsParts, numbered}
use Rattle.mirror_replay.specs.Numbered.{Numbered, numbered_replayed}
use Rattle.mirror_readings.specs.Readings.{NumberedRebuild, MirrorReading, is_first_version, mirror_reading}
use Rattle.mirror_readings.proofs.Openings as readings
use Rattle.mirror_readings.proofs.Replays.{valid}
use Rattle.crash_laws.specs.Standing.{IsHonest}
use Rattle.mirror_laws.specs.Foundations.{MirrorFoundations}
use Rattle.mirror_laws.proofs.Opened.{opening_holds}
use Rattle.voice_mirror.specs.declared.inside.Inside.{Inside}
use Rattle.voice_mirror.specs.Shown.{MirrorState, IsOpened, IsRead, IsStanding, IsWhole, KeepsSome, state_of}
use Rattle.voice_mirror.proofs.Refusals.{refused_there}

-- ---- payloads that were read

placed_bytes : (start : ℕ) (rs : List Record) → bytes_of (placed start rs) ≡ bytes_of rs
placed_bytes start [] = refl
placed_bytes start (r ∷ rs) = ap (λ (l : List (List ℕ)). r.payload ∷ l) (placed_bytes start rs)

-- what they rebuild is what the records rebuild
read_rebuilds : (bytes : List ℕ) (disk : Told) (opening : Opened) (r : Journal) → journals.IsOpened bytes disk opening r → opening.journal.shape ≡ opening.shape
    → (x : Numbered) → numbered_replayed (nothing_rebuilt opening.shape) (records_of opening.payloads) ≡ x → numbered_replayed (nothing_rebuilt r.shape) (records_of r.records) ≡ x
read_rebuilds bytes disk opening r is same x e =
    ap (λ (l : List (List ℕ)). numbered_replayed (nothing_rebuilt r.shape) (numbered 0 l)) (sym (ap bytes_of is.payloads ∙ placed_bytes r.start r.records))
    ∙ ap (λ (shape : Shape). numbered_replayed (nothing_rebuilt shape) (records_of opening.payloads)) (sym is.stands.at.shape_is ∙ same) ∙ e

-- one that is refused is damage at its gate's place
pub refused_place : (bytes : List ℕ) (disk : Told) (opening : Opened) (r : Journal) → journals.IsOpened bytes disk opening r → opening.journal.shape ≡ opening.shape → is_first_version bytes ≡ false
    → (k place : ℕ) → numbered_replayed (nothing_rebuilt opening.shape) (records_of opening.payloads) ≡ Numbered.Refused k
    → ((one : Record) → slice_get opening.payloads k ≡ Some one → place ≡ one.at) → mirror_reading bytes ≡ MirrorReading.Bad place
refused_place bytes disk opening r is same not_first k place refused at =
    let there = refused_there (nothing_rebuilt opening.shape) opening.payloads k refused in
    let found : slice_get (placed r.start r.records) k ≡ Some there.one =
    ap (λ (l : List Record). slice_get l k) (sym is.payloads) ∙ there.at in
    readings.numbered_bad bytes r k there.one not_first is.reads (read_rebuilds bytes disk opening r is same (Numbered.Refused k) refused) found
    ∙ ap (λ (n : ℕ). MirrorReading.Bad n) (sym (at there.one there.at))

-- ---- a mirror that opens

pub opens_as : MirrorFoundations → (bytes : List ℕ) (calls t0 : ℕ) (disk : Told) → IsHonest disk → (opening : Opened) (r : Journal) → journals.IsOpened bytes disk opening r → opening.journal.shape ≡ opening.shape → is_first_version bytes ≡ false
    → (parts : Parts) (position : ℕ) (b : Rebuilt) → numbered_replayed (nothing_rebuilt opening.shape) (records_of opening.payloads) ≡ Numbered.All b position → Rebuilds parts b
    → t0 ≤ calls + 2 → t0 ≤ disk.calls → Since t0 disk (λ image. image ≡ bytes) → IsOpened bytes calls disk (record { journal = opening.journal; parts = parts; position = position; pending = None })
opens_as laws bytes calls t0 disk honest opening r is same not_first parts position b rebuilds shows soon past since =
    let two = readings.newest bytes r is.reads not_first in
    let rebuild : NumberedRebuild r b position = readings.numbered_all r b position (read_rebuilds bytes disk opening r is same (Numbered.All b position) rebuilds) in
    let got = (opening_holds laws disk).opened t0 bytes opening r b position honest past since is two rebuild in
    record {
      had = record { kept = recovered bytes b; position = position };
      mirrored = got.0;
      t0 = t0;
      soon = soon;
      keeps = record { now = b; next = b; held = got.1; shows = shows; shows_next = tt; position = omega arith };
    }

pub reads_as : (bytes : List ℕ) (disk : Told) (opening : Opened) (r : Journal) → journals.IsOpened bytes disk opening r → opening.journal.shape ≡ opening.shape → is_first_version bytes ≡ false
    → (parts : Parts) (position : ℕ) (b : Rebuilt) → numbered_replayed (nothing_rebuilt opening.shape) (records_of opening.payloads) ≡ Numbered.All b position → Rebuilds parts b
    → IsRead bytes (record { journal = opening.journal; parts = parts; position = position; pending = None })
reads_as bytes disk opening r is same not_first parts position b rebuilds shows =
    let two = readings.newest bytes r is.reads not_first in
    let rebuild : NumberedRebuild r b position = readings.numbered_all r b position (read_rebuilds bytes disk opening r is same (Numbered.All b position) rebuilds) in
    record {
      had = record { kept = recovered bytes b; position = position };
      rebuilt = b;
      journal = r;
      mirrored = readings.opened bytes r b position is.reads two rebuild;
      reads = readings.opens bytes r b position is.reads two rebuild;
      shape = is.stands.at.shape_is;
      epoch = is.stands.at.epoch;
      shows = shows;
      fills = refl;
      position = refl;
      quiet = refl;
    }

-- the version of a disk that is none of version 1
pub version_is : (bytes : List ℕ) (disk : Told) (opening : Opened) (r : Journal) → journals.IsOpened bytes disk opening r → opening.journal.shape ≡ opening.shape → is_first_version bytes ≡ false → opening.shape.version ≡ 2
version_is bytes disk opening r is same not_first = ap (λ (shape : Shape). shape.version) (sym same ∙ is.stands.at.shape_is) ∙ readings.newest bytes r is.reads not_first

-- payloads as a journal's records
abbrev as_journal : Shape → List Record → Journal
as_journal shape ps = record { shape = shape; start = 0; epoch = 0; records = ps; gate = 0 }

-- the tables are of the journal's shape, whatever the disk is
pub tables_of : (shape other : Shape) (ps : List Record) (parts : Parts) (b : Rebuilt) (n : ℕ) → other ≡ shape → numbered_replayed (nothing_rebuilt shape) (records_of ps) ≡ Numbered.All b n → Rebuilds parts b → IsParts other parts
tables_of shape other ps parts b n same e shows =
    let v = valid (as_journal shape ps) b n (readings.numbered_all (as_journal shape ps) b n e) in
    record { what = b; shows = shows; in_shape = v.3 ∙ sym same }

-- ---- the whole of it

pub some_opened : (bytes : List ℕ) (calls : ℕ) (disk : Told) (s : MirrorState) → IsOpened bytes calls disk s → KeepsSome disk s
some_opened bytes calls disk s is = record { first = is.had.kept; from = is.had.position; t0 = is.t0; taken = []; doubt = None; keeps = is.keeps }

pub whole : (old new : Told) (inside : Inside) → Looks 6 old new → IsStanding new.size inside → (IsTrue old.honest → IsOpened old.bytes old.calls new (state_of inside)) → IsWhole old new inside
whole old new inside looks standing reads = record {
  size = looks.size;
  honest = looks.honest;
  later = looks.later;
  faults = looks.faults;
  standing = standing;
  keeps = λ honest. some_opened old.bytes old.calls new (state_of inside) (reads (subst (λ (x : Bool). IsTrue x) looks.honest honest));
}

-- the same of a copy of the disk
pub whole_by_copy : {D : Type 0} (told : D → Told) (copy disk : D) (new : Told) (inside : Inside) → copy ≡ disk → IsWhole (told disk) new inside → IsWhole (told copy) new inside
whole_by_copy told copy disk new inside same is = subst (λ d. IsWhole (told d) new inside) (sym same) is

-- after calls
pub whole_then : (origin old new : Told) (s t : Inside) → IsWhole origin old s → new.size ≡ old.size → new.honest ≡ old.honest → old.calls ≤ new.calls → old.faults ≤ new.faults → IsStanding new.size t
    → (IsTrue old.honest → KeepsSome old (state_of s) → KeepsSome new (state_of t)) → IsWhole origin new t
whole_then origin old new s t whole size honest later faults standing keeps =
    let began = whole.later in
    let had = whole.faults in
    record {
      size = size ∙ whole.size;
      honest = honest ∙ whole.honest;
      later = omega (arith, began, later);
      faults = omega (arith, had, faults);
      standing = standing;
      keeps = λ is. let was = subst (λ (x : Bool). IsTrue x) honest is in keeps was (whole.keeps was);
    }
