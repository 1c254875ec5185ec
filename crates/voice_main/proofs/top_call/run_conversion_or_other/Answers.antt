use Rattle.std.proofs.Common.{refl, map}
use Rattle.std.specs.Prelude.{string_bytes}
use Rattle.voice_main.specs.Words.{Command}
use Rattle.voice_main.specs.Outside.{Outside, outside}
use Rattle.voice_main.proofs.Said.{conversion_comes, conversion_only, refused_of}
use Rattle.voice_main.proofs.ConversionExact.{promised_conversion}
use Rattle.voice_main.proofs.Going.{rests}
use Rattle.voice_main.proofs.Written.{nothing_more}
use Rattle.voice_main.proofs.top_call.run_conversion_or_other.Goals as goal

pub returns : goal.returns
returns g c =
    let words = map string_bytes c.args.words.now in
    let asked = c.in-Some.asked in
    let status = c.convert-status.result in
    let history = c.new.result.items in
    let told = g.D.Disk.told c.args.disk in
    let old : Outside = outside (g.K.Shelf.files c.args.shelf.now) (g.K.Shelf.faults c.args.shelf.now) (g.O.Sink.contents c.args.out.now) (g.O.Sink.faults c.args.out.now) (g.O.Sink.empty_takes c.args.out.now) (g.D.Disk.told c.args.disk) in
    let new : Outside = outside (g.K.Shelf.files c.convert-status.new.shelf) (g.K.Shelf.faults c.convert-status.new.shelf) (g.O.Sink.contents c.args.out.now) (g.O.Sink.faults c.args.out.now) (g.O.Sink.empty_takes c.args.out.now) (g.D.Disk.told c.args.disk) in
    let promise = promised_conversion asked.way asked.source asked.target old new status history c.convert-status.ensures.comes c.convert-status.ensures.elsewhere c.convert-status.ensures.unset c.new.ensures.items refl (record { bytes = refl; calls = refl; faults = refl }) in
    let comes = conversion_comes asked.way words asked.source asked.target old new status history c.in-Some.ensures promise in
    record {
      comes = comes;
      promise = conversion_only asked.way words asked.source asked.target old new status history c.in-Some.ensures promise;
      usage = λ refused. absurd (refused (Command.Convert asked.way asked.source asked.target) c.in-Some.ensures);
      refused = refused_of words old new status history comes;
      prefix = λ _ _ _ _. nothing_more old.contents _;
      files = λ _ none _. absurd (none asked.way asked.source asked.target c.in-Some.ensures);
      silent = λ _. (c.new.ensures.items, refl);
      early = λ _. refl;
      unprinted = λ _. refl;
      shelf = λ _ _ _. (refl, c.new.ensures.items, refl);
      apart = λ _ _ _ _. refl;
      disk = rests told;
    }
