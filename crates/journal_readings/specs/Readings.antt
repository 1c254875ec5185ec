-- What the records of a journal rebuild.
--     payloads_of rs      the payloads of records
--     Rebuild r b      the changes of a journal's records rebuild b
use Rattle.std.specs.Prelude.{◌≡◌, ℕ, List, map}
use Rattle.disk_areas.specs.Areas.{Record, Journal}
use Rattle.voice_model.specs.Image.{Replayed, replayed}
use Rattle.voice_model.specs.Replay.{Rebuilt, nothing_rebuilt}

-- the payloads of records
abbrev pub payloads_of : List Record → List (List ℕ)
payloads_of rs = map (λ (one : Record). one.payload) rs

-- the changes of a journal's records rebuild b
abbrev pub Rebuild : Journal → Rebuilt → Type 0
Rebuild r b = replayed (nothing_rebuilt r.shape) r.records ≡ Replayed.All b
