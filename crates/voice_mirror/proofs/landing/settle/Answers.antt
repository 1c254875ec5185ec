use Rattle.std.proofs.Common.{ℕ, Bool, None, IsTrue, sym, ap, subst, ◌∙◌}
use Rattle.std.specs.Prelude.{not}
use Rattle.voice_journal.specs.Places.{JournalValue}
use Rattle.voice_journal.specs.Stands.{StandsInDoubt}
use Rattle.crash_laws.specs.Standing.{IsLater}
use Rattle.voice_mirror.specs.declared.inside.Inside.{Inside}
use Rattle.voice_mirror.specs.Shown.{MirrorState, IsStanding, Keeps, state_of}
use Rattle.voice_mirror.specs.Taking.{with_landed}
use Rattle.voice_mirror.proofs.Landed.{quiet_keeps, none_there, some_there, stuck_keeps, landed_keeps, standing_landed, by_landing, shape_by, sure_then, unsure}
use Rattle.voice_mirror.proofs.Put.{on_err}
use Rattle.voice_mirror.proofs.landing.settle.Goals as goal

pub returns-then-is_none-clause-kept : goal.returns-then-is_none-clause-kept
returns-then-is_none-clause-kept g c =
    λ honest first from t0 taken doubt keeps.
    quiet_keeps first from t0 taken doubt (g.D.Disk.told c.args.disk.now) (state_of c.args.inside.now) _ (none_there c.args.inside.now.pending (c.is_none.ensures ∙ ap not c.if-is_none.true)) keeps

pub returns-in_err-land-clause-stuck : goal.returns-in_err-land-clause-stuck
returns-in_err-land-clause-stuck g c =
    λ honest first from t0 taken doubt keeps.
    let s = state_of c.args.inside.now in
    let old = g.D.Disk.told c.args.disk.now in
    let new = g.D.Disk.told c.land.new.disk in
    let laws = g.met.D.Disk g.world.𝓛 g.world.𝓜 g.world.𝓡 ((λ s x. x), (λ x. x), (λ x. x), λ x. x) in
    let is : IsLater old new = record {
      later = c.land.ensures.made.later;
      was = record { since = laws.since c.args.disk.now; present = laws.present c.args.disk.now honest };
      is = record { since = laws.since c.land.new.disk; present = laws.present c.land.new.disk (subst (λ (x : Bool). IsTrue x) (sym c.land.ensures.made.honest) honest) };
    } in
    let p = some_there c.args.inside.now.pending (c.is_none.ensures ∙ ap not c.if-is_none.false) in
    let same = c.in_err-land.ensures.failed_state in
    on_err c.from_residual.result
    (subst (λ (j : JournalValue). Keeps first from t0 taken doubt new (record { journal = j; parts = s.parts; position = s.position; pending = s.pending })) (sym same)
    (stuck_keeps c.foundations.ensures old new is first from t0 taken s p.0 p.1
    (λ r s at. subst (λ (j : JournalValue). StandsInDoubt j new r s) same (c.in_err-land.ensures.failed honest r s at)) (c.land.ensures.crash honest) doubt keeps))

pub returns-clause-standing : goal.returns-clause-standing
returns-clause-standing g c =
    let s = c.args.inside.now in
    let size = (g.D.Disk.told c.args.disk.now).size in
    let standing = c.requires in
    let p = some_there s.pending (c.is_none.ensures ∙ ap not c.if-is_none.false) in
    let same = by_landing s.journal.doubt s.journal c.land.new.self (unsure size (state_of s) p.0 standing.upright p.1) c.in_ok-land.ensures.ok_state in
    subst (λ (n : ℕ). IsStanding n c.take_pending.new.inside) (sym c.land.ensures.made.size)
    (subst (λ (i : Inside). IsStanding size i) (sym (c.take_pending.ensures.some p.0 p.1)) (standing_landed size s p.0 c.land.new.self standing p.1 same))

pub returns-clause-sure : goal.returns-clause-sure
returns-clause-sure g c =
    let s = c.args.inside.now in
    let size = (g.D.Disk.told c.args.disk.now).size in
    let standing = c.requires in
    let p = some_there s.pending (c.is_none.ensures ∙ ap not c.if-is_none.false) in
    let same = by_landing s.journal.doubt s.journal c.land.new.self (unsure size (state_of s) p.0 standing.upright p.1) c.in_ok-land.ensures.ok_state in
    ap (λ (i : Inside). i.journal.doubt) (c.take_pending.ensures.some p.0 p.1) ∙ ap (λ (j : JournalValue). j.doubt) same ∙ sure_then size (state_of s) p.0 standing.upright p.1

pub returns-clause-shape : goal.returns-clause-shape
returns-clause-shape g c =
    let s = c.args.inside.now in
    let size = (g.D.Disk.told c.args.disk.now).size in
    let standing = c.requires in
    let p = some_there s.pending (c.is_none.ensures ∙ ap not c.if-is_none.false) in
    let same = by_landing s.journal.doubt s.journal c.land.new.self (unsure size (state_of s) p.0 standing.upright p.1) c.in_ok-land.ensures.ok_state in
    ap (λ (i : Inside). i.journal.shape) (c.take_pending.ensures.some p.0 p.1) ∙ ap (λ (j : JournalValue). j.shape) same ∙ shape_by s.journal.doubt s.journal

pub returns-clause-kept : goal.returns-clause-kept
returns-clause-kept g c =
    λ honest first from t0 taken doubt keeps.
    let s = state_of c.args.inside.now in
    let old = g.D.Disk.told c.args.disk.now in
    let new = g.D.Disk.told c.land.new.disk in
    let laws = g.met.D.Disk g.world.𝓛 g.world.𝓜 g.world.𝓡 ((λ s x. x), (λ x. x), (λ x. x), λ x. x) in
    let is : IsLater old new = record {
      later = c.land.ensures.made.later;
      was = record { since = laws.since c.args.disk.now; present = laws.present c.args.disk.now honest };
      is = record { since = laws.since c.land.new.disk; present = laws.present c.land.new.disk (subst (λ (x : Bool). IsTrue x) (sym c.land.ensures.made.honest) honest) };
    } in
    let p = some_there c.args.inside.now.pending (c.is_none.ensures ∙ ap not c.if-is_none.false) in
    subst (λ (m : MirrorState). Keeps first from t0 (with_landed doubt new.calls taken) None new m) (sym (ap state_of (c.take_pending.ensures.some p.0 p.1)))
    (landed_keeps c.foundations.ensures old new is first from t0 taken s p.0 p.1 c.land.new.self (λ r s at. c.in_ok-land.ensures.ok honest r s at) (c.land.ensures.crash honest) doubt keeps)
