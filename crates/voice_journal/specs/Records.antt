-- What is read of an area's records.
use Rattle.std.specs.Prelude.{◌≡◌, ◌<◌, ℕ, List, length, drop}
use Rattle.disk_areas.specs.Areas.{Record, Records, records_from}
use Rattle.voice_journal.specs.Parsed.{AreRead}
use Rattle.voice_journal.specs.declared.parsing.Parsed.{Parsed}
use Rattle.voice_journal.specs.declared.parsing.Parsed.TheVariants as parsed

-- the records, or the gate of the first whose length breaks the condition
abbrev pub IsParsed : ℕ → List ℕ → Parsed → Type 0
IsParsed start area (parsed.Sound spans gate) = (rs : List Record) × AreRead start area spans.items gate rs
IsParsed start area (parsed.Broken gate) = (records_from (length area) (length area) 16 (drop 16 area) ≡ Records.Broken gate) × (gate < length area)
