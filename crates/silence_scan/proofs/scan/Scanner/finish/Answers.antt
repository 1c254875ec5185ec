use Rattle.std.proofs.Common.{◌≡◌, ◌∙◌, ◌*◌, ap, sym, arith, subst}
use Rattle.std.specs.Prelude.{nat_le}
use Rattle.silence_scan.specs.Scan.{Scan, HasScanned, scan_of}
use Rattle.silence_scan.proofs.Scanned.{Turns, finished_even, finished_part}
use Rattle.silence_scan.proofs.scan.Scanner.finish.Goals as goal

pub returns-then-count-eq0-clause-answer : goal.returns-then-count-eq0-clause-answer
returns-then-count-eq0-clause-answer c = λ all h.
    let was : Scan = scan_of c.self.inside.runs c.self.inside.count c.self.inside.loudness c.self.inside.spent in
    let now : HasScanned all was = subst (HasScanned all) (sym c.self.view_is) h in
    c.of.ensures ∙ (c.in_ok-finish.ensures ∙ finished_even all was c.if-count-eq0.true now)

pub returns-clause-answer : goal.returns-clause-answer
returns-clause-answer c = λ all h.
    let was : Scan = scan_of c.self.inside.runs c.self.inside.count c.self.inside.loudness c.self.inside.spent in
    let now : HasScanned all was = subst (HasScanned all) (sym c.self.view_is) h in
    let quiet : nat_le c.self.inside.loudness c.from.result ≡ nat_le c.self.inside.loudness (6 * c.self.inside.count) = ap (nat_le c.self.inside.loudness) c.from.ensures in
    let turns : Turns c.self.inside.runs c.add_window.new.self (nat_le c.self.inside.loudness (6 * c.self.inside.count)) c.self.inside.count = subst (λ k. Turns c.self.inside.runs c.add_window.new.self k c.self.inside.count) quiet c.in_ok-add_window.ensures.told in
    c.of-2.ensures ∙ (c.in_ok-finish-2.ensures ∙ finished_part all was c.add_window.new.self (omega (arith, c.if-count-eq0.false)) turns now)
