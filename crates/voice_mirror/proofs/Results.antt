-- What holds of answers, by what they are.
use Rattle.std.proofs.Common.{Result, Ok, Err, OnOk}
use Rattle.voice_outside.specs.Disk.{Told, Now}
use Rattle.disk_areas.specs.Areas.{Journal}
use Rattle.voice_journal.specs.Places.{JournalValue}
use Rattle.voice_journal.specs.Stands.{Stands}
use Rattle.voice_journal.specs.Readings.{SameElsewhere}
use Rattle.crash_laws.specs.Calls.{Does}

-- a change of the journal is done for each reading where it is done
pub does_all : {T E : Type 0} (change : Journal → Journal) (journal journal' : JournalValue) (old new : Told) (r : Result T E) → ((x : Journal) → Stands journal old x → OnOk r (Stands journal' new (change x) × Now new (SameElsewhere x.shape old.bytes))) → OnOk r (Does change journal journal' old new)
does_all change journal journal' old new (Ok y) h = h
does_all change journal journal' old new (Err e) h = tt
