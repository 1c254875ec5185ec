use Rattle.std.proofs.Common.{◌≡◌, ◌∙◌, ℕ, List, Option, sym, subst, ap}
use Rattle.voice_outside.specs.Files.{Files}
use Rattle.voice_model.specs.declared.calls.Entry.{Entry}
use Rattle.mirror_packets.specs.Packets as packing
use Rattle.mirror_packets.specs.Packets.{AreSpelled, reading_of}
use Rattle.mirror_packets.specs.Shown.{packets_of}
use Rattle.mirror_packets.specs.declared.packets.Packet.{Packet}
use Rattle.mirror_commands.specs.Feeding.{IsBounded}
use Rattle.voice_main.specs.Outside.{Outside, outside}
use Rattle.voice_main.specs.MirrorPromise.{Fed, MirrorPromise}
use Rattle.voice_main.proofs.Mirrored.{fed_promise, fed_silent, fed_late, fed_no_shelf}
use Rattle.voice_main.proofs.mirror_calls.mirror.Goals as goal

pub returns-clause-promise : goal.returns-clause-promise
returns-clause-promise g c =
    let files = g.K.Shelf.files c.args.shelf.now in
    let old : Outside = outside files (g.K.Shelf.faults c.args.shelf.now) (g.O.Sink.contents c.args.out.now) (g.O.Sink.faults c.args.out.now) (g.O.Sink.empty_takes c.args.out.now) (g.D.Disk.told c.args.disk) in
    let after : Option Files → Outside = λ f. outside f (g.K.Shelf.faults c.file.new.shelf) (g.O.Sink.contents c.fed-status.new.out) (g.O.Sink.faults c.fed-status.new.out) (g.O.Sink.empty_takes c.fed-status.new.out) (g.D.Disk.told c.fed-status.result.1) in
    let kept = c.file.ensures.kept in
    let packets = packets_of c.in-Ok-parse.packets.items in
    let status = c.fed-status.result.0 in
    let fed : Fed packets old (after files) status =
    subst (λ (ps : List Packet). Fed (packets_of ps) old (after files) status) c.deref-2.ensures.value (c.fed-status.ensures.fed files (g.K.Shelf.faults c.args.shelf.now) (g.K.Shelf.faults c.file.new.shelf)) in
    let fed_then = subst (λ (f : Option Files). Fed packets old (after f) status) (sym kept) fed in
    let spelled = subst (λ (bytes : List ℕ). AreSpelled bytes packets) c.deref.ensures.value c.in-Ok-parse.ensures.spelled in
    let read : reading_of c.in-Ok.bytes.items ≡ packing.Reading.Packets packets = ap reading_of (sym c.deref.ensures.value) ∙ c.in-Ok-parse.ensures.ok in
    let disk = g.D.Disk.told c.args.disk in
    let bounded = subst (λ (ps : List Packet). IsBounded (packets_of ps) disk (g.D.Disk.told c.fed-status.result.1)) c.deref-2.ensures.value c.fed-status.ensures.calls in
    subst (λ (history : List Entry). MirrorPromise c.args.name.now old (after (g.K.Shelf.files c.file.new.shelf)) status history) (sym c.new-2.ensures.items)
    (fed_promise c.args.name.now old (after (g.K.Shelf.files c.file.new.shelf)) kept c.in-Ok.bytes.items packets c.in-Ok.ensures.ok spelled read bounded status fed_then)

pub returns-clause-silent : goal.returns-clause-silent
returns-clause-silent g c = λ silent.
    let files = g.K.Shelf.files c.args.shelf.now in
    let faults = g.K.Shelf.faults c.args.shelf.now in
    let old : Outside = outside files faults (g.O.Sink.contents c.args.out.now) (g.O.Sink.faults c.args.out.now) (g.O.Sink.empty_takes c.args.out.now) (g.D.Disk.told c.args.disk) in
    let new : Outside = outside files faults (g.O.Sink.contents c.fed-status.new.out) (g.O.Sink.faults c.fed-status.new.out) (g.O.Sink.empty_takes c.fed-status.new.out) (g.D.Disk.told c.fed-status.result.1) in
    (c.new-2.ensures.items, fed_silent (packets_of c.deref-2.result.now) old new c.fed-status.result.0 (c.fed-status.ensures.fed files faults faults) silent)

pub returns-clause-early : goal.returns-clause-early
returns-clause-early g c = λ early.
    let files = g.K.Shelf.files c.args.shelf.now in
    let faults = g.K.Shelf.faults c.args.shelf.now in
    let old : Outside = outside files faults (g.O.Sink.contents c.args.out.now) (g.O.Sink.faults c.args.out.now) (g.O.Sink.empty_takes c.args.out.now) (g.D.Disk.told c.args.disk) in
    let new : Outside = outside files faults (g.O.Sink.contents c.fed-status.new.out) (g.O.Sink.faults c.fed-status.new.out) (g.O.Sink.empty_takes c.fed-status.new.out) (g.D.Disk.told c.fed-status.result.1) in
    absurd (fed_late (packets_of c.deref-2.result.now) old new c.fed-status.result.0 (c.fed-status.ensures.fed files faults faults) early)

pub returns-clause-shelf : goal.returns-clause-shelf
returns-clause-shelf g c = λ is.
    let files = g.K.Shelf.files c.args.shelf.now in
    let faults = g.K.Shelf.faults c.args.shelf.now in
    let old : Outside = outside files faults (g.O.Sink.contents c.args.out.now) (g.O.Sink.faults c.args.out.now) (g.O.Sink.empty_takes c.args.out.now) (g.D.Disk.told c.args.disk) in
    let new : Outside = outside files faults (g.O.Sink.contents c.fed-status.new.out) (g.O.Sink.faults c.fed-status.new.out) (g.O.Sink.empty_takes c.fed-status.new.out) (g.D.Disk.told c.fed-status.result.1) in
    absurd (fed_no_shelf (packets_of c.deref-2.result.now) old new c.fed-status.result.0 (c.fed-status.ensures.fed files faults faults) is)
