use Rattle.std.proofs.Common.{Bool, sym, subst}
use Rattle.std.specs.Prelude.{IsTrue}
use Rattle.voice_journal.proofs.Commits.{close_fails, close_done}
use Rattle.voice_journal.proofs.seats.Journal.close_other.Goals as goal

pub returns-in_err-write_synced-clause-kept : goal.returns-in_err-write_synced-clause-kept
returns-in_err-write_synced-clause-kept g c =
    λ honest r stands.
    close_fails _ _ c.self.view_is c.if-self.false _ _ r _ c.start_of.ensures.value stands (c.write_synced.ensures.wrote honest)

pub returns-clause-kept : goal.returns-clause-kept
returns-clause-kept g c =
    λ honest r stands.
    let new = g.D.Disk.told c.write_synced.new.disk in
    let laws = g.met.D.Disk g.world.𝓛 g.world.𝓜 g.world.𝓡 ((λ s x. x), (λ x. x), (λ x. x), λ x. x) in
    let honest_new : IsTrue new.honest = subst (λ (b : Bool). IsTrue b) (sym c.write_synced.ensures.made.honest) honest in
    close_done _ _ c.self.view_is c.if-self.false _ _ r _ c.start_of.ensures.value stands (c.write_synced.ensures.wrote honest) (laws.present c.write_synced.new.disk honest_new) (c.in_ok-write_synced.ensures.done honest)
