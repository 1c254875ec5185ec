use Rattle.std.proofs.Common.{◌∙◌, ◌+◌, ℕ, Bool, sym, ap, subst, arith}
use Rattle.std.specs.Prelude.{IsTrue}
use Rattle.disk_areas.specs.Areas.{Journal as Reading}
use Rattle.voice_journal.specs.Readings.{switched}
use Rattle.voice_journal.specs.Places.{JournalValue}
use Rattle.voice_journal.specs.Stands.{Stands, IsKept, IsWhole}
use Rattle.voice_journal.specs.declared.seats.Doubt.TheVariants.{Area}
use Rattle.voice_journal.proofs.Steps.{on_ok, of_err}
use Rattle.voice_journal.proofs.Whole.{IsWritten, is_ready, whole_crash, whole_elsewhere, kept_within, both_kept, elsewhere_both}
use Rattle.voice_journal.proofs.seats.Journal.switch.Given as given
use Rattle.voice_journal.proofs.seats.Journal.switch.Goals as goal
use Rattle.voice_journal.proofs.seats.Journal.switch.Goals.{After-write_other, After-commit}

pub returns-then-is_err-clause-before : goal.returns-then-is_err-clause-before
returns-then-is_err-clause-before g c =
    λ honest r stands is.
    let kept = c.close_other.ensures.kept honest r stands in
    (kept.stands, kept.crash)

pub returns-then-is_err-clause-crash : goal.returns-then-is_err-clause-crash
returns-then-is_err-clause-crash g c =
    λ honest r stands. kept_within (g.D.Disk.told c.args.disk.now) (g.D.Disk.told c.close_other.new.disk) r (switched r c.args.payloads.now) (c.close_other.ensures.kept honest r stands).crash

-- to close the other head and write the other area commits nothing
kept : (g : given.Over) (c : After-write_other g) → IsTrue (g.D.Disk.told c.args.disk.now).honest → (r : Reading) → Stands c.args.self.now (g.D.Disk.told c.args.disk.now) r
    → IsKept c.close_other.new.self (g.D.Disk.told c.args.disk.now) (g.D.Disk.told c.write_other.new.disk) r
kept g c honest r stands =
    let laws = g.met.D.Disk g.world.𝓛 g.world.𝓜 g.world.𝓡 ((λ s x. x), (λ x. x), (λ x. x), λ x. x) in
    let j = c.close_other.new.self in
    let closed = c.close_other.ensures.kept honest r stands in
    let honest_closed = subst (λ (b : Bool). IsTrue b) (sym c.close_other.ensures.made.honest) honest in
    both_kept j j _ _ _ r (laws.since c.close_other.new.disk) c.close_other.ensures.made.later closed (c.write_other.ensures.kept honest_closed r closed.stands)

-- the other area is written when the commit begins
written : (g : given.Over) (c : After-commit g) → IsTrue (g.D.Disk.told c.args.disk.now).honest → (r : Reading) → Stands c.args.self.now (g.D.Disk.told c.args.disk.now) r
    → IsWritten c.close_other.new.self c.write_other.new.self (Area (16 + c.size-gate.result)) (g.D.Disk.told c.args.disk.now) (g.D.Disk.told c.write_other.new.disk) r (switched r c.args.payloads.now)
written g c honest r stands =
    let old = g.D.Disk.told c.args.disk.now in
    let closed = g.D.Disk.told c.close_other.new.disk in
    let mid = g.D.Disk.told c.write_other.new.disk in
    let j = c.close_other.new.self in
    let laws = g.met.D.Disk g.world.𝓛 g.world.𝓜 g.world.𝓡 ((λ s x. x), (λ x. x), (λ x. x), λ x. x) in
    let kept_closed = c.close_other.ensures.kept honest r stands in
    let honest_closed : IsTrue closed.honest = subst (λ (b : Bool). IsTrue b) (sym c.close_other.ensures.made.honest) honest in
    let whole = on_ok c.write_other.result _ (sym c.is_err-2.ensures.value ∙ c.if-is_err-2.false) (c.write_other.ensures.whole honest_closed r kept_closed.stands) in
    let closed_is = on_ok c.close_other.result _ (sym c.is_err.ensures.value ∙ c.if-is_err.false) c.close_other.ensures.ok_state in
    record {
      same = c.write_other.ensures.same;
      present = laws.present c.args.disk.now honest;
      later = omega (arith, c.close_other.ensures.made.later, c.write_other.ensures.made.later);
      honest = subst (λ (b : Bool). IsTrue b) (sym c.write_other.ensures.made.honest) honest_closed;
      kept = both_kept j j old closed mid r (laws.since c.close_other.new.disk) c.close_other.ensures.made.later kept_closed (c.write_other.ensures.kept honest_closed r kept_closed.stands);
      whole = subst (λ (n : ℕ). IsWhole j (Area (16 + n)) mid r (switched r c.args.payloads.now)) (sym c.size-gate.ensures) whole;
      bytes = elsewhere_both c.args.self.now.shape j.shape old.bytes closed.bytes mid.bytes (ap (λ (i : JournalValue). i.shape) closed_is) (c.close_other.ensures.bytes honest) (c.write_other.ensures.bytes honest_closed);
    }

pub returns-then-is_err-2-clause-before : goal.returns-then-is_err-2-clause-before
returns-then-is_err-2-clause-before g c =
    λ honest r stands is.
    let k = kept g (goal.at.returns-then-is_err-2-clause-before g c).After-write_other honest r stands in
    (subst (λ (i : JournalValue). Stands i (g.D.Disk.told c.write_other.new.disk) r) (sym c.write_other.ensures.same) k.stands, k.crash)

pub returns-then-is_err-2-clause-crash : goal.returns-then-is_err-2-clause-crash
returns-then-is_err-2-clause-crash g c =
    λ honest r stands.
    kept_within (g.D.Disk.told c.args.disk.now) (g.D.Disk.told c.write_other.new.disk) r (switched r c.args.payloads.now) (kept g (goal.at.returns-then-is_err-2-clause-crash g c).After-write_other honest r stands).crash

pub returns-then-is_err-3-clause-doubt : goal.returns-then-is_err-3-clause-doubt
returns-then-is_err-3-clause-doubt g c =
    λ honest r stands is.
    let w = written g (goal.at.returns-then-is_err-3-clause-doubt g c).After-commit honest r stands in (
      of_err c.commit.result _ (sym c.is_err-3.ensures.value ∙ c.if-is_err-3.true) (c.commit.ensures.failed w.honest r _ (is_ready w)),
      whole_elsewhere w (g.D.Disk.told c.commit.new.disk) c.commit.ensures.near,
    )

pub returns-then-is_err-3-clause-crash : goal.returns-then-is_err-3-clause-crash
returns-then-is_err-3-clause-crash g c = λ honest r stands. whole_crash (written g (goal.at.returns-then-is_err-3-clause-crash g c).After-commit honest r stands) (g.D.Disk.told c.commit.new.disk) c.commit.ensures.crash

pub returns-clause-ok : goal.returns-clause-ok
returns-clause-ok g c =
    λ honest r stands.
    let w = written g (goal.at.returns-clause-ok g c).After-commit honest r stands in (
      on_ok c.commit.result _ (sym c.is_err-3.ensures.value ∙ c.if-is_err-3.false) (c.commit.ensures.ok w.honest r _ (is_ready w)),
      whole_elsewhere w (g.D.Disk.told c.commit.new.disk) c.commit.ensures.near,
    )

pub returns-clause-crash : goal.returns-clause-crash
returns-clause-crash g c = λ honest r stands. whole_crash (written g (goal.at.returns-clause-crash g c).After-commit honest r stands) (g.D.Disk.told c.commit.new.disk) c.commit.ensures.crash
