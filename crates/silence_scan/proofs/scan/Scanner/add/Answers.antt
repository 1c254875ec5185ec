use Rattle.std.proofs.Common.{◌≡◌, ◌∙◌, ◌+◌, ap, sym, refl, arith, subst, length, sum_by}
use Rattle.std.specs.Prelude.{nat_le}
use Rattle.voice_model.specs.Talk.{loud}
use Rattle.silence_scan.specs.Scan.{Scan, HasScanned, scan_of}
use Rattle.silence_scan.proofs.Lanes.{loud_bound}
use Rattle.silence_scan.proofs.Scanned.{Turns, scanned_more, scanned_whole}
use Rattle.silence_scan.proofs.scan.Scanner.add.Goals as goal

pub overflow_add-loudness : goal.overflow_add-loudness
overflow_add-loudness c =
    record { fits = omega (arith, c.self.invariant.0, c.self.invariant.1, c.loud_sum.ensures, loud_bound c.args.part.now, c.requires.one_window, ap (λ (s : Scan). s.count) c.self.view_is) }

pub invariant_of-self : goal.invariant_of-self
invariant_of-self c =
    let room = rw (← c.self.view_is) at c.requires.room in (
      omega (arith, c.if-count-lt-WINDOW.true),
      omega (arith, c.self.invariant.1, c.loud_sum.ensures, loud_bound c.args.part.now),
      omega (arith, room),
    )

pub returns-then-count-lt-WINDOW-clause-scanned : goal.returns-then-count-lt-WINDOW-clause-scanned
returns-then-count-lt-WINDOW-clause-scanned c = λ before h.
    let was : Scan = scan_of c.self.inside.runs c.self.inside.count c.self.inside.loudness c.self.inside.spent in
    let sum : c.self.inside.loudness + c.loud_sum.result ≡ c.self.inside.loudness + sum_by loud c.args.part.now = ap (λ k. c.self.inside.loudness + k) c.loud_sum.ensures in
    scanned_more before c.args.part.now was _ c.if-count-lt-WINDOW.true refl refl sum (subst (HasScanned before) (sym c.self.view_is) h)

pub returns-clause-scanned : goal.returns-clause-scanned
returns-clause-scanned c = λ before h.
    let was : Scan = scan_of c.self.inside.runs c.self.inside.count c.self.inside.loudness c.self.inside.spent in
    let now : HasScanned before was = subst (HasScanned before) (sym c.self.view_is) h in
    let full : c.self.inside.count + length c.args.part.now ≡ 160 = omega (arith, c.if-count-lt-WINDOW.false, c.requires.one_window, ap (λ (s : Scan). s.count) c.self.view_is) in
    let quiet : nat_le (c.self.inside.loudness + c.loud_sum.result) c.from.result ≡ nat_le (c.self.inside.loudness + sum_by loud c.args.part.now) 960 = ap (λ k. nat_le (c.self.inside.loudness + k) c.from.result) c.loud_sum.ensures ∙ ap (nat_le (c.self.inside.loudness + sum_by loud c.args.part.now)) c.from.ensures in
    let turns : Turns c.self.inside.runs c.add_window.new.self (nat_le (c.self.inside.loudness + sum_by loud c.args.part.now) 960) 160 = subst (λ k. Turns c.self.inside.runs c.add_window.new.self k 160) quiet c.in-Ok.ensures.told in
    scanned_whole before c.args.part.now was _ full turns refl refl now
