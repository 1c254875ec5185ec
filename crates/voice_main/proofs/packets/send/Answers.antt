use Rattle.std.proofs.Common.{◌≡◌, ◌⊎◌, ◌++◌, ℕ, List, Option, Some, subst}
use Rattle.std.specs.Prelude.{IfSome, take}
use Rattle.std.specs.Arc.{arc_value}
use Rattle.voice_model.specs.Text.{text_of}
use Rattle.voice_model.specs.declared.calls.Entry.{Entry}
use Rattle.voice_outside.specs.Counters.{HasRisen}
use Rattle.served_files.specs.Files.{queues_of}
use Rattle.voice_main.specs.declared.packets.Written.{Written}
use Rattle.voice_main.specs.declared.status.Status.TheVariants.{NoMemory}
use Rattle.voice_main.specs.Ran.{Performed}
use Rattle.voice_main.specs.Sent.{IsNext, MadeSpelled}
use Rattle.voice_main.proofs.SentOut.{left_unsent, left_lent, gains_nothing, gains_printed, gains_written, gains_all, next_told}
use Rattle.voice_main.proofs.packets.send.Goals as goal

pub returns-in-Err-clause-left : goal.returns-in-Err-clause-left
returns-in-Err-clause-left g c =
    left_unsent c.args.asked.now.file c.args.asked.now.first (arc_value c.args.scripted.now.tapes) c.args.scripted.now.script (g.K.Shelf.files c.args.shelf.now) (g.D.Disk.told c.args.disk) (g.D.Disk.told c.in-Err.disk) c.new.result.items c.in-Err.status c.in-Err.ensures.opens

pub returns-in-Err-clause-prefix : goal.returns-in-Err-clause-prefix
returns-in-Err-clause-prefix g c = gains_nothing (g.O.Sink.contents c.args.out.now) c.new.result.items

pub returns-in_default-clause-left : goal.returns-in_default-clause-left
returns-in_default-clause-left g c =
    let called = c.in-Ok.followed.called in
    left_unsent c.args.asked.now.file c.args.asked.now.first (arc_value c.args.scripted.now.tapes) c.args.scripted.now.script (g.K.Shelf.files c.args.shelf.now) (g.D.Disk.told c.args.disk) (g.D.Disk.told called.disk) called.history.items NoMemory tt

pub returns-in_default-clause-prefix : goal.returns-in_default-clause-prefix
returns-in_default-clause-prefix g c =
    let had = g.O.Sink.contents c.args.out.now in
    let now = g.O.Sink.contents c.print-printed.new.out in
    gains_printed had now c.in-Ok.followed.called.history.items
    (subst (λ (h : List Entry). IfSome had (λ before. (n : ℕ) × (now ≡ Some (before ++ take n (text_of h))))) c.deref.ensures.value c.print-printed.ensures.prefix)

pub returns-clause-left : goal.returns-clause-left
returns-clause-left g c =
    let asked = c.args.asked.now in
    let tapes = arc_value c.args.scripted.now.tapes in
    let script = c.args.scripted.now.script in
    let called = c.in-Ok.followed.called in
    let written = c.in-Some.written in
    let old = g.D.Disk.told c.args.disk in
    let new = g.D.Disk.told called.disk in
    let made : Performed tapes (MadeSpelled asked.first tapes script old new called.history.items (queues_of called.heard.items) written.packets.items written.text.items) old new called.history.items =
    subst (λ (o : Option Written). IfSome o (λ (w : Written). Performed tapes (MadeSpelled asked.first tapes script old new called.history.items (queues_of called.heard.items) w.packets.items w.text.items) old new called.history.items)) c.in-Some.is c.in-Ok.ensures.spelled in
    let shelf : Type 0 = HasRisen (g.K.Shelf.faults c.args.shelf.now) (g.K.Shelf.faults c.write_out-status.new.shelf) in
    let sink : Type 0 = HasRisen (g.O.Sink.faults c.args.out.now) (g.O.Sink.faults c.write_out-status.new.out) ⊎ HasRisen (g.O.Sink.empty_takes c.args.out.now) (g.O.Sink.empty_takes c.write_out-status.new.out) in
    left_lent tapes script old new called.history.items c.deref-2.result.now called.heard.items c.deref-3.result.now asked.first written.packets.items written.text.items asked.file (g.K.Shelf.files c.args.shelf.now) (g.K.Shelf.files c.write_out-status.new.shelf) shelf sink c.write_out-status.result
    c.deref-2.ensures.value c.deref-3.ensures.value made c.write_out-status.ensures.which c.write_out-status.ensures.files

pub returns-clause-done : goal.returns-clause-done
returns-clause-done g c = λ is.
    let asked = c.args.asked.now in
    let tapes = arc_value c.args.scripted.now.tapes in
    let script = c.args.scripted.now.script in
    let called = c.in-Ok.followed.called in
    let written = c.in-Some.written in
    let old = g.D.Disk.told c.args.disk in
    let new = g.D.Disk.told called.disk in
    let made : Performed tapes (MadeSpelled asked.first tapes script old new called.history.items (queues_of called.heard.items) written.packets.items written.text.items) old new called.history.items =
    subst (λ (o : Option Written). IfSome o (λ (w : Written). Performed tapes (MadeSpelled asked.first tapes script old new called.history.items (queues_of called.heard.items) w.packets.items w.text.items) old new called.history.items)) c.in-Some.is c.in-Ok.ensures.spelled in
    gains_all (g.O.Sink.contents c.args.out.now) (g.O.Sink.contents c.write_out-status.new.out) called.history.items written.text.items made.made_so.line (λ line. Performed tapes (IsNext asked.first tapes called.history.items line) old new called.history.items) made.made_so.text_is
    (next_told tapes script old new called.history.items (queues_of called.heard.items) asked.first written.packets.items written.text.items made) (c.write_out-status.ensures.done is)

pub returns-clause-prefix : goal.returns-clause-prefix
returns-clause-prefix g c =
    let asked = c.args.asked.now in
    let tapes = arc_value c.args.scripted.now.tapes in
    let script = c.args.scripted.now.script in
    let called = c.in-Ok.followed.called in
    let written = c.in-Some.written in
    let old = g.D.Disk.told c.args.disk in
    let new = g.D.Disk.told called.disk in
    let made : Performed tapes (MadeSpelled asked.first tapes script old new called.history.items (queues_of called.heard.items) written.packets.items written.text.items) old new called.history.items =
    subst (λ (o : Option Written). IfSome o (λ (w : Written). Performed tapes (MadeSpelled asked.first tapes script old new called.history.items (queues_of called.heard.items) w.packets.items w.text.items) old new called.history.items)) c.in-Some.is c.in-Ok.ensures.spelled in
    gains_written (g.O.Sink.contents c.args.out.now) (g.O.Sink.contents c.write_out-status.new.out) asked.first tapes called.history.items written.text.items made.made_so.line old.honest made.first made.made_so.text_is made.made_so.next c.write_out-status.ensures.prefix
