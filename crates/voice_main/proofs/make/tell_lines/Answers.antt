use Rattle.std.proofs.Common.{◌⊎◌, ◌∙◌, inl, refl, ap, sym, subst}
use Rattle.std.specs.Arc.{arc_value}
use Rattle.voice_outside.specs.Counters.{HasRisen}
use Rattle.voice_main.specs.declared.status.Status.{Status}
use Rattle.voice_main.specs.declared.status.Status.TheVariants.{NoMemory}
use Rattle.voice_main.specs.MadeRuns.{counted_line, IsTold}
use Rattle.voice_main.proofs.Making.{told_printed}
use Rattle.voice_main.proofs.make.tell_lines.Goals.{in-Ok-line_of, in-Err-line_of}
use Rattle.voice_main.proofs.make.tell_lines.Goals as goal

pub returns-clause-told : goal.returns-clause-told
returns-clause-told g c =
    let tapes = arc_value c.args.scripted.now.tapes in
    let script = c.args.scripted.now.script in
    let counted = c.in-Ok.counted in
    let had = g.O.Sink.contents c.args.out.now in
    let old = g.D.Disk.told c.args.disk in
    let new = g.D.Disk.told counted.disk in
    elim c.match-line_of.branch [
      | in-Ok-line_of w ↦
          let sink : Type 0 = HasRisen (g.O.Sink.faults c.args.out.now) (g.O.Sink.faults w.print_text-status.new.out) ⊎ HasRisen (g.O.Sink.empty_takes c.args.out.now) (g.O.Sink.empty_takes w.print_text-status.new.out) in
          let line = w.deref-in-Ok-line_of.ensures.value ∙ w.in-Ok-line_of.ensures ∙ ap (λ h. counted_line h counted.tally.ropes counted.tally.samples counted.tally.blocks) c.deref.ensures.value in
          let told = told_printed tapes script had (g.O.Sink.contents w.print_text-status.new.out) old new counted.history.items counted.tally.ropes counted.tally.samples counted.tally.blocks w.deref-in-Ok-line_of.result.now sink w.print_text-status.result
          (c.in-Ok.ensures.finished c.if-not-counted.false) line w.print_text-status.ensures.which w.print_text-status.ensures.done w.print_text-status.ensures.prefix in
          subst (λ (s : Status). IsTold tapes script had (g.O.Sink.contents c.match-line_of.out) old new counted.history.items s) (sym w.status-is)
          (subst (λ (o : g.row.O.Denot). IsTold tapes script had (g.O.Sink.contents o) old new counted.history.items w.print_text-status.result) (sym w.out-is) told)
      | in-Err-line_of w ↦
          let told : IsTold tapes script had had old new counted.history.items NoMemory = inl refl in
          subst (λ (s : Status). IsTold tapes script had (g.O.Sink.contents c.match-line_of.out) old new counted.history.items s) (sym w.status-is)
          (subst (λ (o : g.row.O.Denot). IsTold tapes script had (g.O.Sink.contents o) old new counted.history.items NoMemory) (sym w.out-is) told)
    ]
