use Rattle.std.proofs.Common.{map}
use Rattle.std.specs.Prelude.{string_bytes}
use Rattle.voice_main.specs.Words.{Command}
use Rattle.voice_main.specs.Outside.{Outside, outside}
use Rattle.voice_main.proofs.Said.{notes_comes, notes_only, refused_of}
use Rattle.voice_main.proofs.top_call.run_notes_or_other.Goals as goal

pub returns : goal.returns
returns g c =
    let words = map string_bytes c.args.words.now in
    let index = c.in-Some.index in
    let said = c.in-Some.ensures in
    let status = c.census.result.status in
    let history = c.census.result.history.items in
    let old : Outside = outside (g.K.Shelf.files c.args.shelf.now) (g.K.Shelf.faults c.args.shelf.now) (g.O.Sink.contents c.args.out.now) (g.O.Sink.faults c.args.out.now) (g.O.Sink.empty_takes c.args.out.now) (g.D.Disk.told c.args.disk) in
    let new : Outside = outside (g.K.Shelf.files c.census.new.shelf) (g.K.Shelf.faults c.census.new.shelf) (g.O.Sink.contents c.census.new.out) (g.O.Sink.faults c.census.new.out) (g.O.Sink.empty_takes c.census.new.out) (g.D.Disk.told c.census.result.disk) in
    let comes = notes_comes words index old new status history said c.census.ensures.promise in
    record {
      comes = comes;
      promise = notes_only words index old new status history said c.census.ensures.promise;
      usage = λ refused. absurd (refused (Command.Notes index) said);
      refused = refused_of words old new status history comes;
      prefix = λ _ _ _ _. c.census.ensures.prefix;
      files = λ _ _ _. c.census.ensures.files;
      silent = c.census.ensures.silent;
      early = c.census.ensures.early;
      unprinted = λ is. (c.census.ensures.shelf is).2;
      shelf = λ _ _ is. c.census.ensures.shelf is;
      apart = λ way source target is. absurd (c.requires.conversion way source target is);
      disk = c.census.ensures.disk;
    }
