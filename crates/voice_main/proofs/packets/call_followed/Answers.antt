use Rattle.std.proofs.Common.{◌≡◌, ◌≤◌, List, Some, false, length, refl, sym, subst}
use Rattle.std.specs.Prelude.{IsTrue}
use Rattle.std.specs.Arc.{arc_value}
use Rattle.voice_model.specs.Image.{opened_from}
use Rattle.voice_model.specs.declared.calls.Entry.{Entry}
use Rattle.mirror_sender.specs.Abreast.{AreWithin}
use Rattle.served_files.specs.Files.{AreEnough, queues_of}
use Rattle.voice_main.proofs.Shares.{made_from}
use Rattle.voice_main.proofs.Within.{within_made}
use Rattle.voice_main.proofs.SentOut.{Followed, if_finished, spelled_if}
use Rattle.voice_main.proofs.packets.call_followed.Goals as goal

pub follow_all-written-requires-clause-sound : goal.follow_all-written-requires-clause-sound
follow_all-written-requires-clause-sound g c = c.in-Ok.ensures.sound c.deref-2.result.now

pub follow_all-written-requires-clause-within : goal.follow_all-written-requires-clause-within
follow_all-written-requires-clause-within g c = λ done.
    let called = c.call_in_order-called.result in
    let tapes = arc_value c.args.scripted.now.tapes in
    let script = c.args.scripted.now.script in
    let made =
    made_from g.D.Disk.told false false c.in_ok-store.store.origin c.args.disk called.disk c.deref.result.now tapes script called.heard.items called.history.items refl c.in_ok-store.ensures.fresh.0 c.deref.ensures (c.call_in_order-called.ensures.finished done) in
    subst (λ t. AreWithin t c.deref-3.result.now) (sym c.deref-2.ensures)
    (subst (λ (h : List Entry). AreWithin tapes h) (sym c.deref-3.ensures.value)
    (within_made tapes script (g.D.Disk.told c.args.disk) (g.D.Disk.told called.disk) called.history.items (queues_of called.heard.items) c.requires.whole c.requires.there made))

pub returns-clause-spelled : goal.returns-clause-spelled
returns-clause-spelled g c =
    let called = c.call_in_order-called.result in
    let tapes = arc_value c.args.scripted.now.tapes in
    let script = c.args.scripted.now.script in
    let old = g.D.Disk.told c.args.disk in
    let same = sym c.in_ok-store.ensures.fresh.0 in
    let follows : Followed tapes c.in-Ok.sender old = λ honest start opened. c.in-Ok.ensures.abreast (subst (λ (d : g.row.D.Denot). IsTrue (g.D.Disk.told d).honest) same honest) start (subst (λ (d : g.row.D.Denot). opened_from (g.D.Disk.told d).bytes ≡ Some start) same opened) tapes in
    spelled_if c.follow_all-written.result called.is_finished c.deref-2.result.now tapes script old (g.D.Disk.told called.disk) c.deref-3.result.now called.history.items (queues_of called.heard.items) c.in-Ok.sender c.args.first
    c.deref-2.ensures c.deref-3.ensures.value c.follow_all-written.ensures.finished c.follow_all-written.ensures.packets c.follow_all-written.ensures.text
    (λ done. made_from g.D.Disk.told false false c.in_ok-store.store.origin c.args.disk called.disk c.deref.result.now tapes script called.heard.items called.history.items refl c.in_ok-store.ensures.fresh.0 c.deref.ensures (c.call_in_order-called.ensures.finished done))
    follows c.in-Ok.ensures.next

pub returns-clause-enough : goal.returns-clause-enough
returns-clause-enough g c =
    let called = c.call_in_order-called.result in
    if_finished c.follow_all-written.result called.is_finished (AreEnough called.history.items called.heard.items × (length called.heard.items ≤ 16)) c.follow_all-written.ensures.finished c.call_in_order-called.ensures.enough
