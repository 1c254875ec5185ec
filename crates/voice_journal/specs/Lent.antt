-- Payloads that are lent out of bytes.
--     record_in bytes span, lent bytes spans      a record whose payload is a part of these bytes;  such records
--     AreWithin size spans      all parts end within so many bytes
use Rattle.std.specs.Prelude.{ℕ, ◌+◌, ◌≤◌, List, [], ◌∷◌, map, take, drop, ⊤}
use Rattle.disk_areas.specs.Areas.{Record}
use Rattle.voice_journal.specs.Readings.{record_at}
use Rattle.voice_journal.specs.declared.lists.Span.{Span}

-- a record whose payload is a part of these bytes
abbrev pub record_in : List ℕ → Span → Record
record_in bytes span = record_at span.place (take span.len (drop span.from bytes))

-- such records
abbrev pub lent : List ℕ → List Span → List Record
lent bytes spans = map (record_in bytes) spans

-- all parts end within so many bytes
abbrev pub AreWithin : ℕ → List Span → Type 0
AreWithin size [] = ⊤
AreWithin size (span ∷ spans) = (span.from + span.len ≤ size) × AreWithin size spans
