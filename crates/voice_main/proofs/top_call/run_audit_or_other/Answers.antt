use Rattle.std.proofs.Common.{refl, map}
use Rattle.std.specs.Prelude.{string_bytes}
use Rattle.voice_main.specs.Words.{Command}
use Rattle.voice_main.specs.Outside.{Outside, outside}
use Rattle.voice_main.proofs.Said.{audit_comes, audit_only, audit_no_shelf, refused_of}
use Rattle.voice_main.proofs.top_call.run_audit_or_other.Goals as goal

pub returns-then-is_audit : goal.returns-then-is_audit
returns-then-is_audit g c =
    let words = map string_bytes c.args.words.now in
    let said = c.is_audit.ensures.yes c.if-is_audit.true in
    let status = c.audited.result.status in
    let history = c.audited.result.history.items in
    let old : Outside = outside (g.K.Shelf.files c.args.shelf.now) (g.K.Shelf.faults c.args.shelf.now) (g.O.Sink.contents c.args.out.now) (g.O.Sink.faults c.args.out.now) (g.O.Sink.empty_takes c.args.out.now) (g.D.Disk.told c.args.disk) in
    let new : Outside = outside (g.K.Shelf.files c.args.shelf.now) (g.K.Shelf.faults c.args.shelf.now) (g.O.Sink.contents c.audited.new.out) (g.O.Sink.faults c.audited.new.out) (g.O.Sink.empty_takes c.audited.new.out) (g.D.Disk.told c.audited.result.disk) in
    let promise = c.audited.ensures.promise (g.K.Shelf.files c.args.shelf.now) (g.K.Shelf.faults c.args.shelf.now) in
    let comes = audit_comes words old new status history said promise in
    record {
      comes = comes;
      promise = audit_only words old new status history said promise;
      usage = λ refused. absurd (refused Command.Audit said);
      refused = refused_of words old new status history comes;
      prefix = λ _ none _ _. absurd (none said);
      files = λ _ _ _. refl;
      silent = c.audited.ensures.silent;
      early = λ early. absurd (c.audited.ensures.late early);
      unprinted = λ is. absurd (audit_no_shelf old new status history promise is);
      shelf = λ _ _ is. absurd (audit_no_shelf old new status history promise is);
      apart = λ way source target is. absurd (c.requires.conversion way source target is);
      disk = c.audited.ensures.disk;
    }
