use Rattle.std.proofs.Common.{refl}
use Rattle.silence_scan.proofs.Scanned.{nothing_scanned}
use Rattle.silence_scan.proofs.scan.Scanner.new.Goals as goal

pub returns-clause-scanned : goal.returns-clause-scanned
returns-clause-scanned c = nothing_scanned _ c.new.ensures refl refl
