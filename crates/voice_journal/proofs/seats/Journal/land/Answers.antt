use Rattle.std.proofs.Common.{◌≡◌, ◌∙◌, sym, ap, subst, Some}
use Rattle.disk_areas.specs.Areas.{Journal as Reading}
use Rattle.voice_journal.specs.Places.{JournalValue}
use Rattle.voice_journal.specs.Stands.{IsReady, StandsInDoubt}
use Rattle.voice_journal.specs.declared.seats.Doubt.{Doubt}
use Rattle.voice_journal.proofs.seats.Journal.land.Given as given
use Rattle.voice_journal.proofs.seats.Journal.land.Goals.{In-Some}
use Rattle.voice_journal.proofs.seats.Journal.land.Goals as goal

same_doubt : (a b : Doubt) → Some a ≡ Some b → a ≡ b
same_doubt a b e = cc

-- what is in doubt is ready
is_ready : (g : given.Over) (c : In-Some g) (r s : Reading) → StandsInDoubt c.args.self.now (g.D.Disk.told c.args.disk.now) r s → IsReady c.args.self.now c.in-Some.doubt (g.D.Disk.told c.args.disk.now) r s
is_ready g c r s stands =
    let same = same_doubt stands.doubt c.in-Some.doubt (sym stands.unsure ∙ sym (ap (λ (j : JournalValue). j.doubt) c.self.view_is) ∙ c.in-Some.is) in
    subst (λ (d : Doubt). IsReady c.args.self.now d (g.D.Disk.told c.args.disk.now) r s) same stands.ready

pub returns-in-Some-clause-ok : goal.returns-in-Some-clause-ok
returns-in-Some-clause-ok g c = λ honest r s stands. c.commit.ensures.ok honest r s (is_ready g (goal.at.returns-in-Some-clause-ok g c).In-Some r s stands)

pub returns-in-Some-clause-crash : goal.returns-in-Some-clause-crash
returns-in-Some-clause-crash g c = λ honest r s stands. c.commit.ensures.crash honest r s (is_ready g (goal.at.returns-in-Some-clause-crash g c).In-Some r s stands)
