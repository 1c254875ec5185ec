use Rattle.std.proofs.Common.{◌≡◌, ◌∙◌, List, ℕ, length, sym, subst, refl, rules}
use Rattle.std.specs.Arc.{arc_value}
use Rattle.voice_model.specs.Step.{after}
use Rattle.voice_model.specs.Room.{used}
use Rattle.tallies.specs.Tallies.{samples_of}
use Rattle.voice_store.specs.Shown.{history_of, tapes_in}
use Rattle.voice_main.proofs.Finished.{serial_begun, serial_counted, never}
use Rattle.voice_main.proofs.make.count_lines.Goals as goal

pub returns-in_default-ran-clause-so_far : goal.returns-in_default-ran-clause-so_far
returns-in_default-ran-clause-so_far g c =
    let store = c.run_lines-ran.new.store in
    let opened = c.in-Ok-open.ensures.state in
    let tapes : tapes_in c.in-Ok-open.store ≡ arc_value c.args.scripted.now.tapes = search rules in
    serial_begun g.D.Disk.told opened.0 c.args.disk store.origin store.disk c.close-disk.result.0 store.inside c.deref.result.now (arc_value c.args.scripted.now.tapes) c.args.scripted.now.script (history_of store) c.close-disk.result.1.items
    (c.run_lines-ran.ensures.origin ∙ c.in-Ok-open.ensures.ok.0) c.close-disk.ensures.disk (c.run_lines-ran.ensures.stands opened.0 opened.1) opened.2 refl c.close-disk.ensures.history (c.run_lines-ran.ensures.tapes_stay ∙ tapes) c.deref.ensures
    c.run_lines-ran.ensures.so_far

pub returns-clause-so_far : goal.returns-clause-so_far
returns-clause-so_far g c =
    let store = c.run_lines-ran.new.store in
    let opened = c.in-Ok-open.ensures.state in
    let tapes : tapes_in c.in-Ok-open.store ≡ arc_value c.args.scripted.now.tapes = search rules in
    serial_begun g.D.Disk.told opened.0 c.args.disk store.origin store.disk c.close-disk.result.0 store.inside c.deref.result.now (arc_value c.args.scripted.now.tapes) c.args.scripted.now.script (history_of store) c.close-disk.result.1.items
    (c.run_lines-ran.ensures.origin ∙ c.in-Ok-open.ensures.ok.0) c.close-disk.ensures.disk (c.run_lines-ran.ensures.stands opened.0 opened.1) opened.2 refl c.close-disk.ensures.history (c.run_lines-ran.ensures.tapes_stay ∙ tapes) c.deref.ensures
    c.run_lines-ran.ensures.so_far

pub returns-clause-finished : goal.returns-clause-finished
returns-clause-finished g c = λ fine.
    let store = c.run_lines-ran.new.store in
    let opened = c.in-Ok-open.ensures.state in
    let keeps = c.run_lines-ran.ensures.stands opened.0 opened.1 in
    let tapes : tapes_in c.in-Ok-open.store ≡ arc_value c.args.scripted.now.tapes = search rules in
    let same = c.run_lines-ran.ensures.tapes_stay ∙ tapes in
    let tally = c.tally-tally.result in
    serial_counted g.D.Disk.told opened.0 c.args.disk c.in-Ok-open.store.origin store.origin store.disk c.close-disk.result.0 store.inside c.deref.result.now (arc_value c.args.scripted.now.tapes) c.args.scripted.now.script (history_of store) c.close-disk.result.1.items c.in-Ok-ran._heard.items
    store.wanted tally.ropes tally.samples tally.blocks
    c.requires.whole c.in-Ok-open.ensures.ok.0 (c.run_lines-ran.ensures.origin ∙ c.in-Ok-open.ensures.ok.0) c.close-disk.ensures.disk keeps (sym c.wanted-wanted.ensures ∙ never c.wanted-wanted.result fine) opened.2 refl c.close-disk.ensures.history same c.deref.ensures
    c.in-Ok-ran.ensures.whole c.in-Ok-ran.ensures.names (λ honest is. c.in-Ok-ran.ensures.bytes honest opened.0 is opened.1)
    (subst (λ (t : List (List ℕ)). (tally.ropes ≡ length (after opened.0 t (history_of store)).kept.ropes) × (tally.samples ≡ samples_of (after opened.0 t (history_of store)).kept.ropes) × (tally.blocks ≡ used (after opened.0 t (history_of store)))) same
    (c.tally-tally.ensures.ropes opened.0 keeps, c.tally-tally.ensures.samples opened.0 keeps, c.tally-tally.ensures.blocks opened.0 keeps))
