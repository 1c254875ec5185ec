use Rattle.std.proofs.Common.{map}
use Rattle.std.specs.Prelude.{string_bytes}
use Rattle.voice_main.specs.Words.{Command}
use Rattle.voice_main.specs.Outside.{Outside, outside}
use Rattle.voice_main.proofs.Said.{packets_comes, packets_only, conversion_not_packets, refused_of}
use Rattle.voice_main.proofs.top_call.run.Goals as goal

pub returns-clause-comes : goal.returns-clause-comes
returns-clause-comes g c =
    let asked = c.in-Some.asked in
    let old : Outside = outside (g.K.Shelf.files c.args.shelf.now) (g.K.Shelf.faults c.args.shelf.now) (g.O.Sink.contents c.args.out.now) (g.O.Sink.faults c.args.out.now) (g.O.Sink.empty_takes c.args.out.now) (g.D.Disk.told c.args.disk) in
    let new : Outside = outside (g.K.Shelf.files c.packets.new.shelf) (g.K.Shelf.faults c.packets.new.shelf) (g.O.Sink.contents c.packets.new.out) (g.O.Sink.faults c.packets.new.out) (g.O.Sink.empty_takes c.packets.new.out) (g.D.Disk.told c.packets.result.disk) in
    packets_comes (map string_bytes c.args.words.now) asked.script asked.file asked.first old new c.packets.result.status c.packets.result.history.items c.in-Some.ensures c.packets.ensures.promise

pub returns-clause-promise : goal.returns-clause-promise
returns-clause-promise g c =
    let asked = c.in-Some.asked in
    let old : Outside = outside (g.K.Shelf.files c.args.shelf.now) (g.K.Shelf.faults c.args.shelf.now) (g.O.Sink.contents c.args.out.now) (g.O.Sink.faults c.args.out.now) (g.O.Sink.empty_takes c.args.out.now) (g.D.Disk.told c.args.disk) in
    let new : Outside = outside (g.K.Shelf.files c.packets.new.shelf) (g.K.Shelf.faults c.packets.new.shelf) (g.O.Sink.contents c.packets.new.out) (g.O.Sink.faults c.packets.new.out) (g.O.Sink.empty_takes c.packets.new.out) (g.D.Disk.told c.packets.result.disk) in
    packets_only (map string_bytes c.args.words.now) asked.script asked.file asked.first old new c.packets.result.status c.packets.result.history.items c.in-Some.ensures c.packets.ensures.promise

pub returns-clause-usage : goal.returns-clause-usage
returns-clause-usage g c = λ refused. absurd (refused (Command.Packets c.in-Some.asked.script c.in-Some.asked.file c.in-Some.asked.first) c.in-Some.ensures)

pub returns-clause-refused : goal.returns-clause-refused
returns-clause-refused g c =
    let words = map string_bytes c.args.words.now in
    let asked = c.in-Some.asked in
    let old : Outside = outside (g.K.Shelf.files c.args.shelf.now) (g.K.Shelf.faults c.args.shelf.now) (g.O.Sink.contents c.args.out.now) (g.O.Sink.faults c.args.out.now) (g.O.Sink.empty_takes c.args.out.now) (g.D.Disk.told c.args.disk) in
    let new : Outside = outside (g.K.Shelf.files c.packets.new.shelf) (g.K.Shelf.faults c.packets.new.shelf) (g.O.Sink.contents c.packets.new.out) (g.O.Sink.faults c.packets.new.out) (g.O.Sink.empty_takes c.packets.new.out) (g.D.Disk.told c.packets.result.disk) in
    refused_of words old new c.packets.result.status c.packets.result.history.items (packets_comes words asked.script asked.file asked.first old new c.packets.result.status c.packets.result.history.items c.in-Some.ensures c.packets.ensures.promise)

pub returns-clause-prefix : goal.returns-clause-prefix
returns-clause-prefix g c = λ none _ _ _. absurd (none c.in-Some.asked.script c.in-Some.asked.file c.in-Some.asked.first c.in-Some.ensures)

pub returns-clause-files : goal.returns-clause-files
returns-clause-files g c = λ none _ _. absurd (none c.in-Some.asked.script c.in-Some.asked.file c.in-Some.asked.first c.in-Some.ensures)

pub returns-clause-shelf : goal.returns-clause-shelf
returns-clause-shelf g c = λ none _ _. absurd (none c.in-Some.asked.script c.in-Some.asked.file c.in-Some.asked.first c.in-Some.ensures)

pub returns-clause-apart : goal.returns-clause-apart
returns-clause-apart g c = λ way source target is. absurd (conversion_not_packets (map string_bytes c.args.words.now) way source target c.in-Some.asked.script c.in-Some.asked.file c.in-Some.asked.first is c.in-Some.ensures)
