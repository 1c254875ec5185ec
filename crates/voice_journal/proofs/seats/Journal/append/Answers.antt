use Rattle.std.proofs.Common.{◌∙◌, length, Bool, sym, subst}
use Rattle.std.specs.Prelude.{IsTrue}
use Rattle.disk_areas.specs.Areas.{Journal as Reading}
use Rattle.voice_journal.specs.Readings.{with_payload}
use Rattle.voice_journal.specs.Places.{JournalValue}
use Rattle.voice_journal.specs.Stands.{Stands}
use Rattle.voice_journal.specs.declared.seats.Doubt.TheVariants.{Record}
use Rattle.voice_journal.proofs.Steps.{on_ok, of_err}
use Rattle.voice_journal.proofs.Whole.{IsWritten, is_ready, whole_crash, whole_elsewhere, kept_within}
use Rattle.voice_journal.proofs.seats.Journal.append.Given as given
use Rattle.voice_journal.proofs.seats.Journal.append.Goals as goal
use Rattle.voice_journal.proofs.seats.Journal.append.Goals.{After-commit}

pub returns-then-is_err-clause-before : goal.returns-then-is_err-clause-before
returns-then-is_err-clause-before g c =
    λ honest r stands is.
    let kept = c.write_frame.ensures.kept honest r stands in
    (subst (λ (j : JournalValue). Stands j (g.D.Disk.told c.write_frame.new.disk) r) (sym c.write_frame.ensures.same) kept.stands, kept.crash)

pub returns-then-is_err-clause-crash : goal.returns-then-is_err-clause-crash
returns-then-is_err-clause-crash g c = λ honest r stands. kept_within (g.D.Disk.told c.args.disk.now) (g.D.Disk.told c.write_frame.new.disk) r (with_payload r c.args.payload.now) (c.write_frame.ensures.kept honest r stands).crash

-- the record is written when the commit begins
written : (g : given.Over) (c : After-commit g) → IsTrue (g.D.Disk.told c.args.disk.now).honest → (r : Reading) → Stands c.args.self.now (g.D.Disk.told c.args.disk.now) r
    → IsWritten c.args.self.now c.write_frame.new.self (Record (length c.args.payload.now)) (g.D.Disk.told c.args.disk.now) (g.D.Disk.told c.write_frame.new.disk) r (with_payload r c.args.payload.now)
written g c honest r stands =
    let laws = g.met.D.Disk g.world.𝓛 g.world.𝓜 g.world.𝓡 ((λ s x. x), (λ x. x), (λ x. x), λ x. x) in
    let told = c.write_frame.ensures in
    record {
      same = told.same;
      present = laws.present c.args.disk.now honest;
      later = told.made.later;
      honest = subst (λ (b : Bool). IsTrue b) (sym told.made.honest) honest;
      kept = told.kept honest r stands;
      whole = on_ok c.write_frame.result _ (sym c.is_err.ensures.value ∙ c.if-is_err.false) (told.whole honest r stands);
      bytes = told.bytes honest;
    }

pub returns-then-is_err-2-clause-doubt : goal.returns-then-is_err-2-clause-doubt
returns-then-is_err-2-clause-doubt g c =
    λ honest r stands is.
    let w = written g (goal.at.returns-then-is_err-2-clause-doubt g c).After-commit honest r stands in (
      of_err c.commit.result _ (sym c.is_err-2.ensures.value ∙ c.if-is_err-2.true) (c.commit.ensures.failed w.honest r _ (is_ready w)),
      whole_elsewhere w (g.D.Disk.told c.commit.new.disk) c.commit.ensures.near,
    )

pub returns-then-is_err-2-clause-crash : goal.returns-then-is_err-2-clause-crash
returns-then-is_err-2-clause-crash g c = λ honest r stands. whole_crash (written g (goal.at.returns-then-is_err-2-clause-crash g c).After-commit honest r stands) (g.D.Disk.told c.commit.new.disk) c.commit.ensures.crash

pub returns-clause-ok : goal.returns-clause-ok
returns-clause-ok g c =
    λ honest r stands.
    let w = written g (goal.at.returns-clause-ok g c).After-commit honest r stands in (
      on_ok c.commit.result _ (sym c.is_err-2.ensures.value ∙ c.if-is_err-2.false) (c.commit.ensures.ok w.honest r _ (is_ready w)),
      whole_elsewhere w (g.D.Disk.told c.commit.new.disk) c.commit.ensures.near,
    )

pub returns-clause-crash : goal.returns-clause-crash
returns-clause-crash g c = λ honest r stands. whole_crash (written g (goal.at.returns-clause-crash g c).After-commit honest r stands) (g.D.Disk.told c.commit.new.disk) c.commit.ensures.crash
