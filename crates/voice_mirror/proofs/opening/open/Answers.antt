use Rattle.std.proofs.Common.{◌≡◌, ◌+◌, ◌≤◌, ℕ, Bool, List, IsTrue, sym, ◌∙◌, ap, subst, arith}
use Rattle.std.proofs.lemmas.Result.{err_from_is_err_and}
use Rattle.voice_units.specs.declared.shapes.Shape.{Shape}
use Rattle.voice_journal.specs.Readings.{extent}
use Rattle.voice_journal.specs.Opens as journals
use Rattle.voice_journal.specs.declared.opening.Opened.{Opened}
use Rattle.voice_mirror.proofs.Looking.{looks_then}
use Rattle.voice_mirror.proofs.Opened.{refused_place, opens_as, reads_as, tables_of}
use Rattle.voice_mirror.proofs.opening.open.Goals as goal

pub returns-in_err-parts-clause-bad : goal.returns-in_err-parts-clause-bad
returns-in_err-parts-clause-bad g c =
    let old = g.D.Disk.told c.args.disk.now in
    let middle = g.D.Disk.told c.refuse_first.new.disk in
    let new = g.D.Disk.told c.open.new.disk in
    let looks = c.refuse_first.ensures.looks in
    let opening : Opened = c.in_ok-shape.field-0 in
    let p = err_from_is_err_and c.from_residual-in_err-parts.result c.from_residual-in_err-parts.ensures.1 in
    rw (p.1, p.2)
    (λ honest place is.
    let refused = c.in_err-parts.ensures.bad place is in
    let same = (looks.still honest).bytes in
    let reads = c.in_ok-shape.ensures.reads (subst (λ (x : Bool). IsTrue x) (sym looks.honest) honest) in
    refused_place old.bytes new opening reads.0 (subst (λ (bytes : List ℕ). journals.IsOpened bytes new opening reads.0) same reads.1) c.in_ok-shape.ensures.same (c.in_ok-refuse_first.ensures.ok honest) refused.0 place refused.1 refused.2)

pub returns-clause-looks : goal.returns-clause-looks
returns-clause-looks g c = looks_then 1 5 (g.D.Disk.told c.args.disk.now) (g.D.Disk.told c.refuse_first.new.disk) (g.D.Disk.told c.open.new.disk) c.refuse_first.ensures.looks c.open.ensures.looks

pub returns-clause-since : goal.returns-clause-since
returns-clause-since g c =
    λ honest image left.
    let old = g.D.Disk.told c.args.disk.now in
    let middle = g.D.Disk.told c.refuse_first.new.disk in
    let laws = g.met.D.Disk g.world.𝓛 g.world.𝓜 g.world.𝓡 ((λ s x. x), (λ x. x), (λ x. x), λ x. x) in
    let looks = c.refuse_first.ensures.looks in
    let calls = looks.calls in
    let since = c.in_ok-shape.ensures.since (subst (λ (x : Bool). IsTrue x) (sym looks.honest) honest) in
    since image (laws.since c.open.new.disk (middle.calls + 1) (old.calls + 2) image (omega (arith, calls)) left) ∙ (looks.still honest).bytes

pub returns-clause-standing : goal.returns-clause-standing
returns-clause-standing g c =
    let opening : Opened = c.in_ok-shape.field-0 in
    let found = c.in_ok-parts.ensures.ok in
    let same : opening.journal.shape ≡ opening.shape = c.in_ok-shape.ensures.same in
    record {
      upright = record {
        fits = subst (λ (shape : Shape). extent shape ≤ (g.D.Disk.told c.open.new.disk).size) (sym same) c.in_ok-shape.ensures.fits;
        newest = ap (λ (shape : Shape). shape.version) same ∙ c.in_ok-refuse_version.ensures.ok;
        tables = tables_of opening.shape opening.journal.shape opening.payloads _ found.0 _ same found.1 found.2;
        waits = c.in_ok-shape.ensures.sure;
      };
      beside = tt;
    }

pub returns-clause-reads : goal.returns-clause-reads
returns-clause-reads g c =
    λ honest.
    let old = g.D.Disk.told c.args.disk.now in
    let middle = g.D.Disk.told c.refuse_first.new.disk in
    let new = g.D.Disk.told c.open.new.disk in
    let laws = g.met.D.Disk g.world.𝓛 g.world.𝓜 g.world.𝓡 ((λ s x. x), (λ x. x), (λ x. x), λ x. x) in
    let looks = c.refuse_first.ensures.looks in
    let opens = c.open.ensures.looks in
    let calls = looks.calls in
    let opening : Opened = c.in_ok-shape.field-0 in
    let found = c.in_ok-parts.ensures.ok in
    let same = (looks.still honest).bytes in
    let still_honest = subst (λ (x : Bool). IsTrue x) (sym looks.honest) honest in
    let last_honest = subst (λ (x : Bool). IsTrue x) (sym opens.honest) still_honest in
    let reads = c.in_ok-shape.ensures.reads still_honest in
    let since = c.in_ok-shape.ensures.since still_honest in
    opens_as c.foundations.ensures old.bytes old.calls (middle.calls + 1) new (record { since = laws.since c.open.new.disk; present = laws.present c.open.new.disk last_honest }) opening reads.0
    (subst (λ (bytes : List ℕ). journals.IsOpened bytes new opening reads.0) same reads.1) c.in_ok-shape.ensures.same (c.in_ok-refuse_first.ensures.ok honest) _ _ found.0 found.1 found.2
    (omega (arith, calls)) c.in_ok-shape.ensures.moment (λ image left. since image left ∙ same)

pub returns-clause-read : goal.returns-clause-read
returns-clause-read g c =
    λ honest.
    let old = g.D.Disk.told c.args.disk.now in
    let new = g.D.Disk.told c.open.new.disk in
    let looks = c.refuse_first.ensures.looks in
    let opening : Opened = c.in_ok-shape.field-0 in
    let found = c.in_ok-parts.ensures.ok in
    let same = (looks.still honest).bytes in
    let reads = c.in_ok-shape.ensures.reads (subst (λ (x : Bool). IsTrue x) (sym looks.honest) honest) in
    reads_as old.bytes new opening reads.0 (subst (λ (bytes : List ℕ). journals.IsOpened bytes new opening reads.0) same reads.1) c.in_ok-shape.ensures.same (c.in_ok-refuse_first.ensures.ok honest) _ _ found.0 found.1 found.2
