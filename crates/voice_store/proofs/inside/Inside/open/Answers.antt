use Rattle.std.proofs.Common.{rules, ◌≡◌, ◌+◌, [], Bool, List, IsTrue, refl, sym, ◌∙◌, ap, subst}
use Rattle.std.specs.Prelude.{slice_get}
use Rattle.disk_areas.specs.Areas.{Record}
use Rattle.voice_journal.specs.declared.opening.Opened.{Opened}
use Rattle.voice_model.specs.Replay.{nothing_rebuilt}
use Rattle.voice_model.specs.Image.{Replayed, replayed}
use Rattle.recovery.specs.Replayed.{records_of}
use Rattle.journal_readings.proofs.Openings.{journal_place}
use Rattle.crash_laws.specs.Standing.{IsHonest}
use Rattle.crash_laws.proofs.Opened.{opening_holds}
use Rattle.voice_store.specs.declared.inside.Inside.{Inside}
use Rattle.voice_store.specs.Stood.{tapes_of}
use Rattle.voice_store.proofs.FirstStates.{first_of, stood_first, opens_as_first, first_held, refused_place, shape_rebuilt}
use Rattle.std.proofs.lemmas.Result.{err_from_is_err_and}
use Rattle.std.specs.Prelude.{None, replicate}
use Rattle.voice_model.specs.State.{quiet_lane}
use Rattle.std.proofs.Common.{◌≤◌, ◌<◌}
use Rattle.voice_units.specs.declared.shapes.Shape.{Shape}
use Rattle.voice_journal.specs.Readings.{extent}
use Rattle.voice_store.proofs.Played.{empty_at}
use Rattle.voice_store.proofs.inside.Inside.open.Goals as goal

-- src/opening.rt:78:13
pub returns-in_err-shape-clause-bad : goal.returns-in_err-shape-clause-bad
returns-in_err-shape-clause-bad g c =
    let old = g.D.Disk.told c.args.disk.now in
    let p = err_from_is_err_and c.from_residual.result c.from_residual.ensures.1 in
    rw (p.1, p.2) (λ place is honest. journal_place old.bytes place (c.in_err-shape.ensures.bad honest place is))

-- src/opening.rt:80:21
pub returns-in_err-parts-clause-bad : goal.returns-in_err-parts-clause-bad
returns-in_err-parts-clause-bad g c =
    let old = g.D.Disk.told c.args.disk.now in
    let new = g.D.Disk.told c.open.new.disk in
    let opening : Opened = c.in_ok-shape.field-0 in
    let p = err_from_is_err_and c.from_residual-in_err-parts.result c.from_residual-in_err-parts.ensures.1 in
    rw (p.1, p.2)
    (λ place is honest.
    let refused = c.in_err-parts.ensures.bad place is in
    let reads = c.in_ok-shape.ensures.reads honest in
    refused_place old.bytes new opening reads.0 reads.1 c.in_ok-shape.ensures.same refused.0 place
    refused.1 refused.2)

pub returns-clause-parts : goal.returns-clause-parts
returns-clause-parts g c =
    let opening : Opened = c.in_ok-shape.field-0 in
    let same = c.in_ok-shape.ensures.same in
    let b = c.in_ok-parts.ensures.ok.0 in
    let rebuilds : replayed (nothing_rebuilt opening.shape) (records_of opening.payloads) ≡ Replayed.All b = c.in_ok-parts.ensures.ok.1 in
    record { what = b; shows = c.in_ok-parts.ensures.ok.2; in_shape = shape_rebuilt opening.shape opening.payloads b rebuilds ∙ sym same }

-- src/opening.rt:63:5
pub returns-clause-state : goal.returns-clause-state
returns-clause-state g c =
    let old = g.D.Disk.told c.args.disk.now in
    let new = g.D.Disk.told c.open.new.disk in
    let laws = g.met.D.Disk g.world.𝓛 g.world.𝓜 g.world.𝓡 ((λ s x. x), (λ x. x), (λ x. x), λ x. x) in
    let looks = c.open.ensures.looks in
    let to_old : IsTrue new.honest → IsTrue old.honest = λ h. subst (λ (x : Bool). IsTrue x) looks.honest h in
    let to_new : IsTrue old.honest → IsTrue new.honest = λ h. subst (λ (x : Bool). IsTrue x) (sym looks.honest) h in
    let opening : Opened = c.in_ok-shape.field-0 in
    let facts = c.in_ok-shape.ensures in
    let b = c.in_ok-parts.ensures.ok.0 in
    let tables = c.in_ok-parts.ensures.ok.2 in
    let same = facts.same in
    let rebuilds : replayed (nothing_rebuilt opening.shape) (records_of opening.payloads) ≡ Replayed.All b = c.in_ok-parts.ensures.ok.1 in
    let here : replayed (nothing_rebuilt opening.journal.shape) (records_of opening.payloads) ≡ Replayed.All b =
    ap (λ (x : Shape). replayed (nothing_rebuilt x) (records_of opening.payloads)) same ∙ rebuilds in
    let items : c.new-3.result.items ≡ [] = search rules in
    let from : 16 ≤ opening.journal.seat.gate = search rules in
    let within : opening.journal.seat.gate < opening.journal.shape.area = search rules in
    let size : extent opening.journal.shape ≤ new.size = subst (λ (x : Shape). extent x ≤ new.size) (sym same) facts.fits in
    let honest_now : IsTrue old.honest → IsHonest new = λ h. record { since = laws.since c.open.new.disk; present = laws.present c.open.new.disk (to_new h) } in
    let law = opening_holds c.foundations.ensures new in
    let s : Inside = record { alloc = c.args.alloc; tapes = c.args.tapes; journal = opening.journal; parts = c.in_ok-parts.parts; lanes = c.in-Ok.lanes; made = 0; recordings = c.in-Ok-new.recordings; doubt = None; history = c.new-3.result } in
    let t0 = old.calls + 1 in (
      first_of old.bytes opening.journal b,
      stood_first t0 old.bytes new s b opening.payloads items here tables refl facts.sure from within facts.moment size
          (λ h. let honest = to_old h in let reads = facts.reads honest in
          first_held (tapes_of s) t0 old.bytes new opening b same rebuilds (honest_now honest) facts.moment (facts.since honest) reads.0 reads.1 law)
          (λ h. (looks.still (to_old h)).bytes)
          (empty_at opening.shape opening.journal.shape c.in-Ok.lanes same c.in-Ok.ensures.queues c.in-Ok.ensures.sizes.1 c.in-Ok.ensures.empty) refl
          (λ t quiet. c.in-Ok-new.ensures.shows t (quiet ∙ ap (λ (x : Shape). replicate x.lanes quiet_lane) same)),
      λ honest.
          let reads = facts.reads honest in
          opens_as_first (tapes_of s) t0 old.bytes new opening b same rebuilds (honest_now honest) facts.moment (facts.since honest) reads.0 reads.1 law,
    )
