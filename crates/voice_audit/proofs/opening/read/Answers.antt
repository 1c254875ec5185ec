use Rattle.std.proofs.Common.{rules, ◌≡◌, List, sym, ◌∙◌, ap}
use Rattle.std.proofs.lemmas.Result.{err_from_is_err_and}
use Rattle.std.specs.Prelude.{slice_get}
use Rattle.disk_areas.specs.Areas.{Record}
use Rattle.voice_journal.specs.declared.opening.Opened.{Opened}
use Rattle.voice_model.specs.Replay.{nothing_rebuilt}
use Rattle.voice_model.specs.Image.{Replayed, replayed}
use Rattle.recovery.specs.Replayed.{records_of}
use Rattle.voice_audit.proofs.Opened.{refused_place, shape_rebuilt, opens_so}
use Rattle.voice_audit.proofs.opening.read.Goals as goal

-- src/opening.rt:65:17
pub returns-in_err-parts-clause-bad : goal.returns-in_err-parts-clause-bad
returns-in_err-parts-clause-bad g c =
    let old = g.D.Disk.told c.args.disk.now in
    let new = g.D.Disk.told c.open.new.disk in
    let opening : Opened = c.in_ok-shape.field-0 in
    let p = err_from_is_err_and c.from_residual-in_err-parts.result c.from_residual-in_err-parts.ensures.1 in
    rw (p.1, p.2)
    (λ place is honest.
    let refused = c.in_err-parts.ensures.bad place is in
    let reads = c.in_ok-shape.ensures.reads honest in
    refused_place old.bytes new opening reads.0 reads.1 c.in_ok-shape.ensures.same refused.0 place
    refused.1 refused.2)

-- src/opening.rt:52:1
pub returns-clause-parts : goal.returns-clause-parts
returns-clause-parts g c =
    let opening : Opened = c.in_ok-shape.field-0 in
    let parts = c.in_ok-parts.ensures.ok in
    let rebuilds : replayed (nothing_rebuilt opening.shape) (records_of opening.payloads) ≡ Replayed.All parts.0 = parts.1 in
    record { what = parts.0; shows = parts.2; in_shape = shape_rebuilt opening.shape opening.payloads parts.0 rebuilds }

-- src/opening.rt:52:1
pub returns-clause-opens : goal.returns-clause-opens
returns-clause-opens g c =
    let old = g.D.Disk.told c.args.disk.now in
    let new = g.D.Disk.told c.open.new.disk in
    let opening : Opened = c.in_ok-shape.field-0 in
    let parts = c.in_ok-parts.ensures.ok in
    let rebuilds : replayed (nothing_rebuilt opening.shape) (records_of opening.payloads) ≡ Replayed.All parts.0 = parts.1 in
    λ honest.
    let reads = c.in_ok-shape.ensures.reads honest in (
      parts.0,
      record {
        rebuilds = parts.2;
        in_shape = shape_rebuilt opening.shape opening.payloads parts.0 rebuilds;
        opens = opens_so old.bytes new opening reads.0 parts.0 reads.1 c.in_ok-shape.ensures.same rebuilds c.left.result c.epoch.result c.left.ensures.value c.epoch.ensures.value;
      },
    )
