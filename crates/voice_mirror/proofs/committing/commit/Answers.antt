use Rattle.std.proofs.Common.{◌≡◌, ℕ, Bool, inl, inr, refl, sym, ap, subst}
use Rattle.std.specs.Prelude.{IsTrue}
use Rattle.voice_outside.specs.Counters.{HasRisen}
use Rattle.voice_model.specs.Replay.{acted}
use Rattle.crash_laws.specs.Standing.{IsLater}
use Rattle.voice_mirror.specs.declared.answers.Taken.{Taken}
use Rattle.voice_mirror.specs.declared.inside.Inside.{Inside}
use Rattle.voice_mirror.specs.Shown.{IsStanding, state_of}
use Rattle.voice_mirror.specs.Taking.{Becomes}
use Rattle.voice_mirror.specs.Ready.{IsPut, IsOfDevice}
use Rattle.voice_mirror.proofs.Committed.{commits, shape_of}
use Rattle.voice_mirror.proofs.Put.{is_ready, done_standing, undone_standing, doubt_standing, by_put, on_ok, on_ok_then, failed_by, not_done}
use Rattle.voice_mirror.proofs.committing.commit.Goals as goal

pub put-put-requires-clause-fits : goal.put-put-requires-clause-fits
put-put-requires-clause-fits g c =
    let s = c.args.inside.now in
    let standing = c.requires.standing in
    λ κs lives. (c.args.number, acted standing.upright.tables.what c.args.ready.change, c.args.ready.change, (is_ready (g.D.Disk.told c.args.disk.now).size s standing c.args.number c.args.ready c.requires.may s.journal refl).how)

pub returns-clause-standing : goal.returns-clause-standing
returns-clause-standing g c =
    let s = c.args.inside.now in
    let size = (g.D.Disk.told c.args.disk.now).size in
    let journal = c.put-put.new.journal in
    let kept = c.put-put.ensures.shape in
    let ready = c.args.ready in
    subst (λ (n : ℕ). IsStanding n c.taken_by.new.inside) (sym c.put-put.ensures.made.size)
    (by_put s c.taken_by.new.inside _ _ _ c.taken_by.result c.put-put.result c.taken_by.ensures.ok c.taken_by.ensures.before c.taken_by.ensures.doubt (λ (a : Taken) (i : Inside). IsStanding size i)
    (on_ok_then c.put-put.result (done_standing size s c.requires.standing c.args.number ready c.requires.may journal kept) c.put-put.ensures.ok_state)
    (λ e. undone_standing size s c.requires.standing c.args.number ready c.requires.may journal kept (c.put-put.ensures.before_state e))
    (λ e. doubt_standing size s c.requires.standing c.args.number ready c.requires.may journal kept (c.put-put.ensures.doubt_state e)))

pub returns-clause-put : goal.returns-clause-put
returns-clause-put g c =
    by_put c.args.inside.now c.taken_by.new.inside _ _ _ c.taken_by.result c.put-put.result c.taken_by.ensures.ok c.taken_by.ensures.before c.taken_by.ensures.doubt (λ (a : Taken) (i : Inside). IsPut a)
    (on_ok c.put-put.result (inl refl)) (λ e. inr (inl refl)) (λ e. inr (inr refl))

pub returns-clause-becomes : goal.returns-clause-becomes
returns-clause-becomes g c =
    by_put c.args.inside.now c.taken_by.new.inside _ _ _ c.taken_by.result c.put-put.result c.taken_by.ensures.ok c.taken_by.ensures.before c.taken_by.ensures.doubt (λ (a : Taken) (i : Inside). Becomes (state_of c.args.inside.now) a (state_of i))
    (on_ok c.put-put.result (refl, c.requires.may.sure)) (λ e. (refl, refl, c.requires.may.sure)) (λ e. (refl, refl, refl))

pub returns-clause-shape : goal.returns-clause-shape
returns-clause-shape g c =
    let kept = c.put-put.ensures.shape in
    by_put c.args.inside.now c.taken_by.new.inside _ _ _ c.taken_by.result c.put-put.result c.taken_by.ensures.ok c.taken_by.ensures.before c.taken_by.ensures.doubt (λ (a : Taken) (i : Inside). i.journal.shape ≡ c.args.inside.now.journal.shape)
    (on_ok c.put-put.result kept) (λ e. kept) (λ e. kept)

pub returns-clause-fault : goal.returns-clause-fault
returns-clause-fault g c =
    let P = HasRisen (g.D.Disk.told c.args.disk.now).faults (g.D.Disk.told c.put-put.new.disk).faults in
    by_put c.args.inside.now c.taken_by.new.inside _ _ _ c.taken_by.result c.put-put.result c.taken_by.ensures.ok c.taken_by.ensures.before c.taken_by.ensures.doubt (λ (a : Taken) (i : Inside). IsOfDevice a → P)
    (on_ok c.put-put.result (λ dev. not_done dev)) (λ e dev. failed_by c.put-put.result _ c.put-put.ensures.made.cause e) (λ e dev. failed_by c.put-put.result _ c.put-put.ensures.made.cause e)

pub returns-clause-commits : goal.returns-clause-commits
returns-clause-commits g c =
    λ honest first from t0 taken effect k does.
    let s = c.args.inside.now in
    let old = g.D.Disk.told c.args.disk.now in
    let new = g.D.Disk.told c.put-put.new.disk in
    let laws = g.met.D.Disk g.world.𝓛 g.world.𝓜 g.world.𝓡 ((λ s x. x), (λ x. x), (λ x. x), λ x. x) in
    let is : IsLater old new = record {
      later = c.put-put.ensures.made.later;
      was = record { since = laws.since c.args.disk.now; present = laws.present c.args.disk.now honest };
      is = record { since = laws.since c.put-put.new.disk; present = laws.present c.put-put.new.disk (subst (λ (x : Bool). IsTrue x) (sym c.put-put.ensures.made.honest) honest) };
    } in
    let may = c.requires.may in
    let ready = c.args.ready in
    let in_shape = shape_of c.foundations.ensures old is.was first from t0 taken (state_of s) k in
    let got = may.each k.now k.shows in_shape in
    commits c.foundations.ensures old new is first from t0 taken (state_of s) k effect ready.tables ready.change c.args.number may.low may.next may.kind may.grammar does c.put-put.new.journal
    may.sure got.legal got.tables ready.how got.how (c.put-put.ensures.crash honest) c.put-put.result (c.put-put.ensures.ok honest) (c.put-put.ensures.before honest) (c.put-put.ensures.doubt honest) c.taken_by.result (state_of c.taken_by.new.inside)
    (on_ok_then c.put-put.result (λ p. (p.0, ap state_of p.1)) c.taken_by.ensures.ok)
    (λ e. let p = c.taken_by.ensures.before e in (p.0, ap state_of p.1))
    (λ e. let p = c.taken_by.ensures.doubt e in (p.0, ap state_of p.1))
