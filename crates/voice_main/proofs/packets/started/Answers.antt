use Rattle.std.proofs.Common.{sym, subst}
use Rattle.recovery.specs.Shown.{IsParts}
use Rattle.voice_main.proofs.Starting.{copy_tells, copy_starts}
use Rattle.voice_main.proofs.packets.started.Goals as goal

pub new-requires-clause-parts : goal.new-requires-clause-parts
new-requires-clause-parts g c =
    let inside = c.args.store.now.inside in
    copy_tells c.shape.result c.parts.result.now c.in_ok-parts.parts (subst (λ p. IsParts c.shape.result p) (sym c.parts.ensures.same) (subst (λ x. IsParts x inside.parts) (sym c.shape.ensures.value) c.requires.parts)) c.in_ok-parts.ensures.alike

pub returns-clause-abreast : goal.returns-clause-abreast
returns-clause-abreast g c = λ honest start opened tapes.
    c.new.ensures.abreast tapes start
    (copy_starts g.D.Disk.told c.args.store.now start c.shape.result c.parts.result.now c.in_ok-parts.parts c.requires.kept c.requires.fresh honest opened c.parts.ensures.shows c.shape.ensures.state c.in_ok-parts.ensures.alike)
