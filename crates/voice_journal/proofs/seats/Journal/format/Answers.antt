use Rattle.std.proofs.Common.{rules, ◌≡◌, ◌≤◌, ℕ, List, length, Bool, sym, subst, arith, refl}
use Rattle.std.specs.Prelude.{IsTrue}
use Rattle.voice_journal.specs.Readings.{extent}
use Rattle.voice_journal.specs.Formatted.{IsFormatted}
use Rattle.voice_journal.proofs.Formats.{front_written, on_ok}
use Rattle.voice_journal.proofs.seats.Journal.format.Goals as goal

pub returns-clause-ok : goal.returns-clause-ok
returns-clause-ok g c =
    λ honest.
    let s = c.args.shape.now in
    let old = g.D.Disk.told c.args.disk.now in
    let mid = g.D.Disk.told c.write.new.self in
    let new = g.D.Disk.told c.write_synced.new.disk in
    let counts = c.write.ensures.counts in
    let laws = g.met.D.Disk g.world.𝓛 g.world.𝓜 g.world.𝓡 ((λ s x. x), (λ x. x), (λ x. x), λ x. x) in
    let honest_mid : IsTrue mid.honest = subst (λ (b : Bool). IsTrue b) (sym counts.honest) honest in
    let honest_new : IsTrue new.honest = subst (λ (b : Bool). IsTrue b) (sym c.write_synced.ensures.made.honest) honest_mid in
    let closing = c.in_ok-write.ensures.content honest in
    let wrote = c.write_synced.ensures.wrote honest_mid in
    on_ok c.write_synced.result (c.write_synced.ensures.done honest_mid)
    (λ done image left.
    let size : length new.bytes ≡ new.size = laws.sized c.write_synced.new.disk _ new.bytes honest_new (laws.present c.write_synced.new.disk honest_new) in
    let fits : extent s ≤ length new.bytes = omega (arith, size, counts.size, c.write_synced.ensures.made.size, c.requires) in
    subst (λ (l : List ℕ). IsFormatted s old.bytes l) (sym (done.settled image left))
    (front_written s old.bytes mid.bytes new.bytes _ _ _ c.first_bytes.ensures.spellable fits refl c.first_bytes.ensures.value (search rules) c.start_of.ensures.value closing.outside closing.written wrote.outside done.written))
