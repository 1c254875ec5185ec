use Rattle.std.proofs.Common.{List, ℕ, ◌∙◌, ap, subst, sym}
use Rattle.std.specs.Arc.{arc_value}
use Rattle.script_lang.specs.Shown.{Reading}
use Rattle.voice_main.specs.Load.{bytes_of}
use Rattle.script_lang.specs.Verbs.{is_built_verb}
use Rattle.script_lang.specs.Causes.{ErrsAt}
use Rattle.voice_outside.specs.Counters.{HasRisen}
use Rattle.voice_main.specs.declared.status.Status.{Status}
use Rattle.voice_main.specs.Statuses.{Stops}
use Rattle.voice_main.proofs.Stopped.{stops_bad, ready}
use Rattle.voice_main.proofs.top_call.prepared.Goals as goal

pub returns-in-Err-parse-clause-stops : goal.returns-in-Err-parse-clause-stops
returns-in-Err-parse-clause-stops g c =
    let shelf : Type 0 = HasRisen (g.K.Shelf.faults c.args.shelf.now) (g.K.Shelf.faults c.file.new.shelf) in
    let P : Status → Type 0 = λ status. Stops c.args.name.now (g.K.Shelf.files c.args.shelf.now) shelf status in
    let Q : List ℕ → Type 0 = λ bytes. ErrsAt is_built_verb bytes c.in-Err-parse.e in
    let bad : ErrsAt is_built_verb c.in-Ok.bytes.items c.in-Err-parse.e = subst Q c.deref.ensures.value c.in-Err-parse.ensures.bad in
    subst P (sym c.script_status.ensures) (stops_bad (g.K.Shelf.files c.args.shelf.now) shelf c.args.name.now c.in-Ok.bytes.items c.in-Err-parse.e c.in-Ok.ensures.ok bad)

pub returns-clause-ready : goal.returns-clause-ready
returns-clause-ready g c =
    ready (g.K.Shelf.files c.args.shelf.now) (g.K.Shelf.files c.file.new.shelf) c.in-Ok-parse.script c.deref-2.result.now (arc_value c.in-Ok-new.tapes) (bytes_of c.in-Ok-files.tapes.items)
    c.args.name.now c.in-Ok.bytes.items c.deref.result.now c.in-Ok.ensures.kept c.in-Ok.ensures.ok c.deref.ensures.value c.in-Ok-parse.ensures.ok
    (c.deref-2.ensures.value ∙ ap (λ (s : Reading). s.samples) c.script.view_is) (c.in-Ok-new.ensures.ok ∙ c.new.ensures) c.in-Ok-files.ensures.ok
