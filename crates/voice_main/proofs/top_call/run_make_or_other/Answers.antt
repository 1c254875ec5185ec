use Rattle.std.proofs.Common.{refl, map}
use Rattle.std.specs.Prelude.{string_bytes}
use Rattle.voice_main.specs.Words.{Command}
use Rattle.voice_main.specs.Outside.{Outside, outside}
use Rattle.voice_main.proofs.Said.{make_comes, make_only, make_no_shelf, refused_of}
use Rattle.voice_main.proofs.top_call.run_make_or_other.Goals as goal

pub returns : goal.returns
returns g c =
    let words = map string_bytes c.args.words.now in
    let seed = c.in-Some.asked.seed in
    let lines = c.in-Some.asked.lines in
    let said = c.in-Some.ensures in
    let status = c.make.result.status in
    let history = c.make.result.history.items in
    let old : Outside = outside (g.K.Shelf.files c.args.shelf.now) (g.K.Shelf.faults c.args.shelf.now) (g.O.Sink.contents c.args.out.now) (g.O.Sink.faults c.args.out.now) (g.O.Sink.empty_takes c.args.out.now) (g.D.Disk.told c.args.disk) in
    let new : Outside = outside (g.K.Shelf.files c.args.shelf.now) (g.K.Shelf.faults c.args.shelf.now) (g.O.Sink.contents c.make.new.out) (g.O.Sink.faults c.make.new.out) (g.O.Sink.empty_takes c.make.new.out) (g.D.Disk.told c.make.result.disk) in
    let promise = c.make.ensures.promise (g.K.Shelf.files c.args.shelf.now) (g.K.Shelf.faults c.args.shelf.now) in
    let comes = make_comes words seed lines old new status history said promise in
    record {
      comes = comes;
      promise = make_only words seed lines old new status history said promise;
      usage = λ refused. absurd (refused (Command.Make seed lines) said);
      refused = refused_of words old new status history comes;
      prefix = λ _ _ none _. absurd (none seed lines said);
      files = λ _ _ _. refl;
      silent = c.make.ensures.silent;
      early = λ early. absurd (c.make.ensures.late early);
      unprinted = λ is. absurd (make_no_shelf seed lines old new status history promise is);
      shelf = λ _ _ is. absurd (make_no_shelf seed lines old new status history promise is);
      apart = λ way source target is. absurd (c.requires.conversion way source target is);
      disk = c.make.ensures.disk;
    }
