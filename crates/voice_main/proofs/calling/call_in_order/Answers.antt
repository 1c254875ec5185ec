use Rattle.std.proofs.Common.{◌≤◌, ◌∙◌, List, true, false, length, sym, subst, refl}
use Rattle.std.specs.Prelude.{Vec}
use Rattle.std.specs.declared.alloc.Global.{Global}
use Rattle.voice_model.specs.Heard.{LegalOn}
use Rattle.voice_store.specs.Shown.{history_of}
use Rattle.voice_store.proofs.Histories.{keeps_legal}
use Rattle.served_files.specs.declared.heard.Heard.{Heard}
use Rattle.served_files.specs.Files.{AreEnough, queues_of}
use Rattle.voice_main.specs.Ran.{MadeGiving, Performed}
use Rattle.voice_main.proofs.Finished.{serial_begun, serial_finished, serial_enough}
use Rattle.voice_main.proofs.Shares.{both_fine}
use Rattle.voice_main.proofs.calling.call_in_order.Goals as goal

pub returns-in-Ok-clause-so_far : goal.returns-in-Ok-clause-so_far
returns-in-Ok-clause-so_far g c =
    let store = c.run_lines.new.store in
    let kept = c.requires.kept in
    serial_begun g.D.Disk.told kept.first c.args.store.origin store.origin store.disk c.closed.result.disk store.inside c.args.tapes.now c.args.tapes.now c.args.script.now (history_of store) c.closed.result.history.items
    c.run_lines.ensures.origin c.closed.ensures.disk (c.run_lines.ensures.stands kept.first kept.keeps) kept.opened refl c.closed.ensures.history (c.run_lines.ensures.tapes_stay ∙ c.requires.tapes) refl
    c.run_lines.ensures.so_far

pub returns-in-Err-clause-so_far : goal.returns-in-Err-clause-so_far
returns-in-Err-clause-so_far g c =
    let store = c.run_lines.new.store in
    let kept = c.requires.kept in
    serial_begun g.D.Disk.told kept.first c.args.store.origin store.origin store.disk c.closed-in-Err.result.disk store.inside c.args.tapes.now c.args.tapes.now c.args.script.now (history_of store) c.closed-in-Err.result.history.items
    c.run_lines.ensures.origin c.closed-in-Err.ensures.disk (c.run_lines.ensures.stands kept.first kept.keeps) kept.opened refl c.closed-in-Err.ensures.history (c.run_lines.ensures.tapes_stay ∙ c.requires.tapes) refl
    c.run_lines.ensures.so_far

pub returns-in-Ok-clause-finished : goal.returns-in-Ok-clause-finished
returns-in-Ok-clause-finished g c = λ fine.
    let store = c.run_lines.new.store in
    let kept = c.requires.kept in
    let both = both_fine true store.wanted (sym c.closed.ensures.finished ∙ fine) in
    subst (λ (l : List (Vec Heard Global)). Performed c.args.tapes.now (MadeGiving false c.args.tapes.now c.args.script.now (g.D.Disk.told c.args.store.origin) (g.D.Disk.told c.closed.result.disk) c.closed.result.history.items (queues_of l)) (g.D.Disk.told c.args.store.origin) (g.D.Disk.told c.closed.result.disk) c.closed.result.history.items) (sym c.closed.ensures.heard)
    (serial_finished g.D.Disk.told kept.first c.args.store.origin c.args.store.origin store.origin store.disk c.closed.result.disk store.inside c.args.tapes.now c.args.tapes.now c.args.script.now (history_of store) c.closed.result.history.items c.in-Ok.heard.items store.wanted
    c.requires.whole refl c.run_lines.ensures.origin c.closed.ensures.disk (c.run_lines.ensures.stands kept.first kept.keeps) both.1 kept.opened refl c.closed.ensures.history (c.run_lines.ensures.tapes_stay ∙ c.requires.tapes) refl
    c.in-Ok.ensures.whole c.in-Ok.ensures.names (λ honest is. c.in-Ok.ensures.bytes honest kept.first is kept.keeps))

pub returns-in-Ok-clause-enough : goal.returns-in-Ok-clause-enough
returns-in-Ok-clause-enough g c = λ fine.
    let store = c.run_lines.new.store in
    let kept = c.requires.kept in
    subst (λ (l : List (Vec Heard Global)). AreEnough c.closed.result.history.items l × (length l ≤ 16)) (sym c.closed.ensures.heard)
    (serial_enough (g.D.Disk.told store.origin).honest kept.first c.args.tapes.now c.args.script.now (history_of store) c.closed.result.history.items c.in-Ok.heard.items c.requires.whole
    (subst (λ t. LegalOn (g.D.Disk.told store.origin).honest kept.first t (history_of store)) (c.run_lines.ensures.tapes_stay ∙ c.requires.tapes) (keeps_legal g.D.Disk.told kept.first store (c.run_lines.ensures.stands kept.first kept.keeps)))
    c.closed.ensures.history c.in-Ok.ensures.lists c.in-Ok.ensures.whole c.in-Ok.ensures.names)
