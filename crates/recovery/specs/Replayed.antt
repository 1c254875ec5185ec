-- What replay reads.
--     bytes_of records      the bytes of their payloads
--     records_of records      their payloads as records that stand at their own numbers
use Rattle.std.specs.Prelude.{ℕ, List, map}
use Rattle.disk_areas.specs.Areas.{Record}
use Rattle.recovery.specs.Shown.{numbered}

-- the bytes of their payloads
abbrev pub bytes_of : List Record → List (List ℕ)
bytes_of records = map (λ (one : Record). one.payload) records

-- their payloads as records that stand at their own numbers
abbrev pub records_of : List Record → List Record
records_of records = numbered 0 (bytes_of records)
