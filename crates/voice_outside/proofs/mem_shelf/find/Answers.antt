use Rattle.std.proofs.Common.{ap, sym, ◌∙◌, Some}
use Rattle.voice_outside.proofs.Found.{found-other, found-here}
use Rattle.voice_outside.proofs.mem_shelf.find.Goals as goal

pub loop-file-preserved : goal.loop-file-preserved
loop-file-preserved c =
    found-other c.args.name.now c.args.files.now c.loop-file.file-index c.file-item.result c.eq.result c.bytes.result.now c.bytes-in-loop-file.result.now
    c.loop-file-test.true c.file-item.is c.bytes.ensures.value c.bytes-in-loop-file.ensures.value c.eq.ensures c.if-eq.false
    ∙ c.loop-file.invariant

pub returns-then-eq : goal.returns-then-eq
returns-then-eq c =
    sym c.loop-file.invariant
    ∙ found-here c.args.name.now c.args.files.now c.loop-file.file-index c.file-item.result c.eq.result c.bytes.result.now c.bytes-in-loop-file.result.now
    c.loop-file-test.true c.file-item.is c.bytes.ensures.value c.bytes-in-loop-file.ensures.value c.eq.ensures c.if-eq.true
    ∙ ap Some (sym c.deref.ensures.value)
