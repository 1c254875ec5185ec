use Rattle.std.proofs.Common.{rules, ◌≡◌, ◌<◌, ℕ, length, ap, ◌∙◌, arith}
use Rattle.disk_areas.specs.Areas.{JournalReading}
use Rattle.voice_journal.proofs.ShapesRead.{short_image}
use Rattle.voice_journal.proofs.opening.read_shape.Goals as goal

pub returns-then-size-lt64-clause-bad : goal.returns-then-size-lt64-clause-bad
returns-then-size-lt64-clause-bad g c =
    λ honest place e.
    let disk = c.args.disk.now in
    let bytes = (g.D.Disk.told disk).bytes in
    let laws = g.met.D.Disk g.world.𝓛 g.world.𝓜 g.world.𝓡 ((λ s x. x), (λ x. x), (λ x. x), λ x. x) in
    let whole : length bytes ≡ (g.D.Disk.told disk).size = laws.sized disk _ bytes honest (laws.present disk honest) in
    let short : length bytes < 64 = omega (arith, whole, c.settle.ensures.looks.size, c.size-size.ensures, c.if-size-lt64.true) in
    let there : 0 ≡ place = search rules in
    short_image bytes short ∙ ap (λ (n : ℕ). JournalReading.Damaged n) there
