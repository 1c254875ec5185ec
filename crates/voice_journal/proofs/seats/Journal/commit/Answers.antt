use Rattle.std.proofs.Common.{◌≡◌, ◌∙◌, ◌∷◌, [], Bool, false, sym, subst}
use Rattle.std.specs.Prelude.{IsTrue}
use Rattle.std.specs.Result.{is_err}
use Rattle.voice_outside.specs.Disk.{Leaves, IsSettled}
use Rattle.disk_areas.specs.Areas.{Journal as Reading}
use Rattle.voice_journal.specs.Readings.{WithinLand}
use Rattle.voice_journal.specs.Stands.{IsReady}
use Rattle.voice_journal.proofs.Steps.{on_ok}
use Rattle.voice_journal.proofs.Commits.{commit_fails, commit_crashes, commit_lands}
use Rattle.voice_journal.proofs.seats.Journal.commit.Given as given
use Rattle.voice_journal.proofs.seats.Journal.commit.Goals as goal
use Rattle.voice_journal.proofs.seats.Journal.commit.Goals.{After-write_synced}

-- a crash in the write of the gate leaves what a crash of the commit may leave
crashes : (g : given.Over) (c : After-write_synced g) → IsTrue (g.D.Disk.told c.args.disk.now).honest → (r s : Reading) → IsReady c.args.self.now c.args.doubt (g.D.Disk.told c.args.disk.now) r s
    → Leaves (g.D.Disk.told c.args.disk.now) (g.D.Disk.told c.write_synced.new.disk) (WithinLand r s (g.D.Disk.told c.args.disk.now))
crashes g c honest r s ready =
    let at = c.place_of-place.ensures in
    commit_crashes _ _ c.self.view_is c.args.doubt _ _ r s _ at.value at.from at.within ready (c.write_synced.ensures.wrote honest)

-- a gate that was written stands on the disk, and is settled
settled : (g : given.Over) (c : After-write_synced g) → is_err c.write_synced.result ≡ false → IsTrue (g.D.Disk.told c.args.disk.now).honest
    → (g.D.Disk.told c.write_synced.new.disk).may_leave (g.D.Disk.told c.write_synced.new.disk).calls (g.D.Disk.told c.write_synced.new.disk).bytes × IsSettled c.place_of-place.result (1 ∷ []) (g.D.Disk.told c.write_synced.new.disk)
settled g c ok honest =
    let laws = g.met.D.Disk g.world.𝓛 g.world.𝓜 g.world.𝓡 ((λ s x. x), (λ x. x), (λ x. x), λ x. x) in
    (laws.present c.write_synced.new.disk (subst (λ (b : Bool). IsTrue b) (sym c.write_synced.ensures.made.honest) honest), on_ok c.write_synced.result _ ok (c.write_synced.ensures.done honest))

pub returns-then-is_err-clause-failed : goal.returns-then-is_err-clause-failed
returns-then-is_err-clause-failed g c =
    λ honest r s ready.
    let at = c.place_of-place.ensures in
    commit_fails _ _ c.self.view_is c.args.doubt _ _ r s _ at.value at.from at.within ready (c.write_synced.ensures.wrote honest)

pub returns-then-is_err-clause-crash : goal.returns-then-is_err-clause-crash
returns-then-is_err-clause-crash g c = crashes g (goal.at.returns-then-is_err-clause-crash g c).After-write_synced

pub returns-in-Record-clause-ok : goal.returns-in-Record-clause-ok
returns-in-Record-clause-ok g c =
    λ honest r s ready.
    let at = c.place_of-place.ensures in
    let done = settled g (goal.at.returns-in-Record-clause-ok g c).After-write_synced (sym c.is_err.ensures.value ∙ c.if-is_err.false) honest in
    commit_lands _ _ c.self.view_is c.args.doubt _ _ r s _ at.value at.from at.within ready (c.write_synced.ensures.wrote honest) _ c.in-Record.is done.0 done.1

pub returns-in-Record-clause-crash : goal.returns-in-Record-clause-crash
returns-in-Record-clause-crash g c = crashes g (goal.at.returns-in-Record-clause-crash g c).After-write_synced

pub returns-in-Area-clause-ok : goal.returns-in-Area-clause-ok
returns-in-Area-clause-ok g c =
    λ honest r s ready.
    let at = c.place_of-place.ensures in
    let done = settled g (goal.at.returns-in-Area-clause-ok g c).After-write_synced (sym c.is_err.ensures.value ∙ c.if-is_err.false) honest in
    commit_lands _ _ c.self.view_is c.args.doubt _ _ r s _ at.value at.from at.within ready (c.write_synced.ensures.wrote honest) _ c.in-Area.is done.0 done.1

pub returns-in-Area-clause-crash : goal.returns-in-Area-clause-crash
returns-in-Area-clause-crash g c = crashes g (goal.at.returns-in-Area-clause-crash g c).After-write_synced
