use Rattle.std.proofs.Common.{Some, sym, ◌∙◌, ap}
use Rattle.std.specs.Prelude.{option_map}
use Rattle.voice_audit.specs.Audit as audit
use Rattle.voice_audit.proofs.Told.{told_is}
use Rattle.voice_audit.proofs.auditing.text_of.Goals as goal

-- src/auditing.rt:16:1
pub returns-clause-ok : goal.returns-clause-ok
returns-clause-ok g c = λ honest.
    let old = g.D.Disk.told c.args.disk.now in
    let s = c.in_ok-standing.standing in
    let found = c.in_ok-standing.ensures.opens honest in
    ap (option_map audit.text_of) found.1.opens
    ∙ sym (ap (λ l. Some l) (c.in-Ok.ensures ∙ told_is old.bytes found.0 s.shape s.parts s.left s.epoch found.1.rebuilds found.1.in_shape))
