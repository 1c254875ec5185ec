use Rattle.std.proofs.Common.{◌∙◌, ◌<◌, ◌≤◌, length, sym, subst}
use Rattle.voice_main.specs.declared.status.Status.{Status}
use Rattle.voice_main.specs.Load.{bytes_of}
use Rattle.voice_main.specs.Notes.{NoteIs}
use Rattle.voice_main.proofs.Noted.{gathered_none, gathered_more_in, gathered_all_in, refused_note_in}
use Rattle.voice_main.proofs.notes.keys_in.Goals as goal

pub loop-i-init : goal.loop-i-init
loop-i-init c = gathered_none (bytes_of c.args.notes.now) c.of-keys.result (c.of-keys.ensures ∙ c.new.ensures.items)

pub loop-i-preserved : goal.loop-i-preserved
loop-i-preserved c =
    let within : c.loop-i.i < length c.args.notes.now = subst (λ n. c.loop-i.i < n) (sym c.requires) c.loop-i-test.true in
    gathered_more_in c.args.notes.now c.loop-i.i c.loop-i.keys c.anchors.new.keys c.index-notes-i.result c.deref.result.now within c.index-notes-i.is c.deref.ensures.value c.loop-i.invariant c.in-Ok.ensures.ok

pub returns-clause-ok : goal.returns-clause-ok
returns-clause-ok c = gathered_all_in c.args.notes.now c.loop-i.i c.loop-i.keys (subst (λ n. n ≤ c.loop-i.i) (sym c.requires) c.loop-i-test.false) c.loop-i.invariant

pub returns-in-Err-clause-err : goal.returns-in-Err-clause-err
returns-in-Err-clause-err c =
    let P : Status → Type 0 = λ status. NoteIs c.args.names.now (bytes_of c.args.notes.now) status in
    subst P (sym c.note_status.ensures)
    (refused_note_in c.args.names.now c.args.notes.now c.loop-i.i c.index-names-i.result c.index-notes-i.result c.deref.result.now c.loop-i.keys c.in-Err.e c.loop-i-test.true c.requires c.index-names-i.is c.index-notes-i.is c.deref.ensures.value c.loop-i.invariant c.in-Err.ensures.err)
