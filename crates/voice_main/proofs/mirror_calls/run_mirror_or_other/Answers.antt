use Rattle.std.proofs.Common.{refl, map}
use Rattle.std.specs.Prelude.{string_bytes}
use Rattle.voice_main.specs.Words.{Command}
use Rattle.voice_main.specs.Outside.{Outside, outside}
use Rattle.voice_main.proofs.Said.{promotion_comes, promotion_only, mirror_comes, mirror_only, refused_of}
use Rattle.voice_main.proofs.Written.{nothing_more}
use Rattle.voice_main.proofs.mirror_calls.run_mirror_or_other.Goals as goal

pub returns-then-is_promotion : goal.returns-then-is_promotion
returns-then-is_promotion g c =
    let words = map string_bytes c.args.words.now in
    let said = c.is_promotion.ensures.yes c.if-is_promotion.true in
    let status = c.promoted.result.status in
    let history = c.promoted.result.history.items in
    let old : Outside = outside (g.K.Shelf.files c.args.shelf.now) (g.K.Shelf.faults c.args.shelf.now) (g.O.Sink.contents c.args.out.now) (g.O.Sink.faults c.args.out.now) (g.O.Sink.empty_takes c.args.out.now) (g.D.Disk.told c.args.disk) in
    let new : Outside = outside (g.K.Shelf.files c.args.shelf.now) (g.K.Shelf.faults c.args.shelf.now) (g.O.Sink.contents c.args.out.now) (g.O.Sink.faults c.args.out.now) (g.O.Sink.empty_takes c.args.out.now) (g.D.Disk.told c.promoted.result.disk) in
    let promise = c.promoted.ensures.promise old.files old.shelf_faults old.contents old.sink_faults old.empty_takes in
    let comes = promotion_comes words old new status history said promise in
    record {
      comes = comes;
      promise = promotion_only words old new status history said promise;
      usage = λ refused. absurd (refused Command.Promote said);
      refused = refused_of words old new status history comes;
      prefix = λ _ _ _ _. nothing_more old.contents _;
      files = λ _ _ _. refl;
      silent = λ _. (c.promoted.ensures.silent, refl);
      early = λ early. absurd (c.promoted.ensures.late early);
      unprinted = λ _. refl;
      shelf = λ _ _ is. absurd (c.promoted.ensures.shelf is);
      apart = λ way source target is. absurd (c.requires.conversion way source target is);
      disk = c.promoted.ensures.disk;
    }

pub returns : goal.returns
returns g c =
    let words = map string_bytes c.args.words.now in
    let name = c.in-Some.name in
    let said = c.in-Some.ensures in
    let status = c.mirror.result.status in
    let history = c.mirror.result.history.items in
    let old : Outside = outside (g.K.Shelf.files c.args.shelf.now) (g.K.Shelf.faults c.args.shelf.now) (g.O.Sink.contents c.args.out.now) (g.O.Sink.faults c.args.out.now) (g.O.Sink.empty_takes c.args.out.now) (g.D.Disk.told c.args.disk) in
    let new : Outside = outside (g.K.Shelf.files c.mirror.new.shelf) (g.K.Shelf.faults c.mirror.new.shelf) (g.O.Sink.contents c.mirror.new.out) (g.O.Sink.faults c.mirror.new.out) (g.O.Sink.empty_takes c.mirror.new.out) (g.D.Disk.told c.mirror.result.disk) in
    let comes = mirror_comes words name old new status history said c.mirror.ensures.promise in
    record {
      comes = comes;
      promise = mirror_only words name old new status history said c.mirror.ensures.promise;
      usage = λ refused. absurd (refused (Command.Mirror name) said);
      refused = refused_of words old new status history comes;
      prefix = λ _ _ _ none. absurd (none name said);
      files = λ _ _ _. c.mirror.ensures.promise.files;
      silent = c.mirror.ensures.silent;
      early = c.mirror.ensures.early;
      unprinted = λ is. (c.mirror.ensures.shelf is).2;
      shelf = λ _ _ is. c.mirror.ensures.shelf is;
      apart = λ way source target is. absurd (c.requires.conversion way source target is);
      disk = c.mirror.ensures.disk;
    }
