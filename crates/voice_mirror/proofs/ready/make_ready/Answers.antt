use Rattle.std.proofs.Common.{sym, subst, ap, ◌∙◌}
use Rattle.mirror_tables.specs.Beside.{IsSame, IsBeside}
use Rattle.voice_mirror.specs.declared.inside.Inside.{Inside}
use Rattle.voice_mirror.specs.Shown.{IsStanding}
use Rattle.voice_mirror.proofs.Answering.{standing_beside, with_beside}
use Rattle.voice_mirror.proofs.ready.make_ready.Goals as goal

pub tried-requires-clause-same : goal.tried-requires-clause-same
tried-requires-clause-same c = subst (λ (i : Inside). IsSame i.parts c.in_ok-tables.tables) (sym c.next_tables.ensures.rest) c.in_ok-tables.ensures.tables

pub returns-clause-standing : goal.returns-clause-standing
returns-clause-standing c =
    λ size standing.
    let s = c.args.inside.now in
    let beside = c.tried.new.inside.beside in
    let is = subst (λ (i : Inside). IsBeside i.journal.shape i.parts beside) c.next_tables.ensures.rest c.tried.ensures.beside in
    subst (λ (i : Inside). IsStanding size i) (sym (c.tried.ensures.rest ∙ ap (with_beside beside) c.next_tables.ensures.rest)) (standing_beside size s beside standing is)
