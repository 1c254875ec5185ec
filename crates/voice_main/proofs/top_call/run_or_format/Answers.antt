use Rattle.std.proofs.Common.{inl, refl, subst, map, arith}
use Rattle.std.specs.Prelude.{string_bytes}
use Rattle.voice_main.specs.declared.options.FormatNumbers.{FormatNumbers}
use Rattle.voice_main.specs.declared.status.Status.TheVariants.{NoMemory}
use Rattle.voice_main.specs.Words.{Command, run_command, IsFormat}
use Rattle.voice_main.specs.Outside.{Outside, outside}
use Rattle.voice_main.specs.FormatPromise.{Formats, FormatStatus, FormatPromise}
use Rattle.voice_main.proofs.Said.{refused_by, run_only, run_comes, format_only, format_comes, format_no_shelf, format_early, refused_of, no_memory_done}
use Rattle.voice_main.proofs.Going.{rests}
use Rattle.voice_main.proofs.Written.{nothing_more}
use Rattle.voice_main.proofs.top_call.run_or_format.Goals as goal

pub returns-in_default-format_numbers : goal.returns-in_default-format_numbers
returns-in_default-format_numbers g c =
    let words = map string_bytes c.args.words.now in
    let refused = refused_by words c.in_default.ensures c.in_default-format_numbers.ensures c.requires.packets c.requires.conversion c.requires.audit c.requires.notes c.requires.make c.requires.mirror c.requires.promotion in
    let empty = c.new.ensures.items in
    record {
      comes = inl (refused, refl);
      promise = λ command said. absurd (refused command said);
      usage = λ _. refl;
      refused = λ _. refused;
      prefix = λ _ _ _ _. nothing_more (g.O.Sink.contents c.args.out.now) _;
      files = λ _ _ _. refl;
      silent = λ _. (empty, refl);
      early = λ _. refl;
      unprinted = λ _. refl;
      shelf = λ _ _ _. (refl, empty, refl);
      apart = λ _ _ _ _. refl;
      disk = rests (g.D.Disk.told c.args.disk);
    }

pub returns-in_default-assigned : goal.returns-in_default-assigned
returns-in_default-assigned g c =
    let words = map string_bytes c.args.words.now in
    let numbers = c.in-Some-format_numbers._accepted in
    let asked = c.in-Some-format_numbers.ensures in
    let history = c.new-in_default-assigned.result.items in
    let empty = c.new-in_default-assigned.ensures.items in
    let old : Outside = outside (g.K.Shelf.files c.args.shelf.now) (g.K.Shelf.faults c.args.shelf.now) (g.O.Sink.contents c.args.out.now) (g.O.Sink.faults c.args.out.now) (g.O.Sink.empty_takes c.args.out.now) (g.D.Disk.told c.args.disk) in
    let promise : (numbers : FormatNumbers) → FormatPromise numbers old old NoMemory history = λ numbers. record { comes = record { bytes = refl; calls = refl; faults = refl }; formatted = λ is. absurd (no_memory_done is); calls = omega arith; silent = empty; quiet = refl } in
    let comes = format_comes words numbers old old NoMemory history asked (promise numbers) in
    record {
      comes = comes;
      promise = format_only words old old NoMemory history c.in_default.ensures c.requires.packets c.requires.conversion c.requires.audit c.requires.notes c.requires.make c.requires.mirror c.requires.promotion (λ numbers asked. promise numbers);
      usage = λ refused. absurd (refused (Command.Format numbers) asked);
      refused = refused_of words old old NoMemory history comes;
      prefix = λ _ _ _ _. nothing_more old.contents _;
      files = λ _ _ _. refl;
      silent = λ _. (empty, refl);
      early = λ _. refl;
      unprinted = λ _. refl;
      shelf = λ _ _ _. (refl, empty, refl);
      apart = λ _ _ _ _. refl;
      disk = rests old.disk;
    }

pub returns-in_default : goal.returns-in_default
returns-in_default g c =
    let words = map string_bytes c.args.words.now in
    let numbers = c.in-Some-format_numbers._accepted in
    let asked = c.in-Some-format_numbers.ensures in
    let status = c.format-status.result.0 in
    let history = c.new-in_default.result.items in
    let empty = c.new-in_default.ensures.items in
    let old : Outside = outside (g.K.Shelf.files c.args.shelf.now) (g.K.Shelf.faults c.args.shelf.now) (g.O.Sink.contents c.args.out.now) (g.O.Sink.faults c.args.out.now) (g.O.Sink.empty_takes c.args.out.now) (g.D.Disk.told c.args.disk) in
    let new : Outside = outside (g.K.Shelf.files c.args.shelf.now) (g.K.Shelf.faults c.args.shelf.now) (g.O.Sink.contents c.args.out.now) (g.O.Sink.faults c.args.out.now) (g.O.Sink.empty_takes c.args.out.now) (g.D.Disk.told c.format-status.result.1) in
    let promise : (numbers : FormatNumbers) → IsFormat words numbers → FormatPromise numbers old new status history = λ numbers asked. record {
      comes = (let P : FormatNumbers → Type 0 = λ n. FormatStatus n old.disk new.disk status in subst P (c.in-Some-assigned.ensures numbers asked) c.format-status.ensures.status);
      formatted = λ done honest image left. (let P : FormatNumbers → Type 0 = λ n. Formats n old.disk.bytes image in subst P (c.in-Some-assigned.ensures numbers asked) (c.format-status.ensures.images done honest image left));
      calls = c.format-status.ensures.calls;
      silent = empty;
      quiet = refl;
    } in
    let comes = format_comes words numbers old new status history asked (promise numbers asked) in
    record {
      comes = comes;
      promise = format_only words old new status history c.in_default.ensures c.requires.packets c.requires.conversion c.requires.audit c.requires.notes c.requires.make c.requires.mirror c.requires.promotion promise;
      usage = λ refused. absurd (refused (Command.Format numbers) asked);
      refused = refused_of words old new status history comes;
      prefix = λ _ _ _ _. nothing_more old.contents _;
      files = λ _ _ _. refl;
      silent = λ _. (empty, refl);
      early = format_early numbers old.disk new.disk status (promise numbers asked).comes c.format-status.ensures.early;
      unprinted = λ _. refl;
      shelf = λ _ _ is. absurd (format_no_shelf c.in-Some-assigned.numbers old.disk new.disk status c.format-status.ensures.status is);
      apart = λ way source target is. absurd (c.requires.conversion way source target is);
      disk = c.format-status.ensures.goes;
    }

pub returns : goal.returns
returns g c =
    let words = map string_bytes c.args.words.now in
    let threads = c.in-Some.asked.threads in
    let name = c.in-Some.asked.name in
    let said = c.in-Some.ensures in
    let status = c.run_script.result.status in
    let history = c.run_script.result.history.items in
    let old : Outside = outside (g.K.Shelf.files c.args.shelf.now) (g.K.Shelf.faults c.args.shelf.now) (g.O.Sink.contents c.args.out.now) (g.O.Sink.faults c.args.out.now) (g.O.Sink.empty_takes c.args.out.now) (g.D.Disk.told c.args.disk) in
    let new : Outside = outside (g.K.Shelf.files c.run_script.new.shelf) (g.K.Shelf.faults c.run_script.new.shelf) (g.O.Sink.contents c.run_script.new.out) (g.O.Sink.faults c.run_script.new.out) (g.O.Sink.empty_takes c.run_script.new.out) (g.D.Disk.told c.run_script.result.disk) in
    let comes = run_comes threads words name old new status history said c.run_script.ensures.promise in
    record {
      comes = comes;
      promise = run_only threads words name old new status history said c.run_script.ensures.promise;
      usage = λ refused. absurd (refused (run_command threads name) said);
      refused = refused_of words old new status history comes;
      prefix = λ _ _ _ _. c.run_script.ensures.prefix;
      files = λ _ _ none. absurd (none threads name said);
      silent = c.run_script.ensures.silent;
      early = c.run_script.ensures.early;
      unprinted = c.run_script.ensures.unprinted;
      shelf = λ _ none _. absurd (none threads name said);
      apart = λ way source target is. absurd (c.requires.conversion way source target is);
      disk = c.run_script.ensures.disk;
    }
