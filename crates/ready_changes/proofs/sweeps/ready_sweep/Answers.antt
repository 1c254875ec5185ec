use Rattle.std.proofs.Common.{◌≡◌, true, sym, subst}
use Rattle.voice_model.specs.Changes.{expired_rows}
use Rattle.voice_model.specs.Spelling.{keeps_grammar}
use Rattle.voice_model.specs.declared.changes.Change.TheVariants as changes
use Rattle.ready_changes.specs.Ready.{MayBeReady, sweep_of}
use Rattle.ready_changes.proofs.Dues.{sweep_grammar}
use Rattle.ready_changes.proofs.Made.{if_ok}
use Rattle.ready_changes.proofs.sweeps.ready_sweep.Goals as goal

pub ready_with-requires : goal.ready_with-requires
ready_with-requires g c =
    let d = c.requires.1 in
    record { grammar = subst (λ ids. keeps_grammar (changes.Swept ids) ≡ true) (sym (c.in_ok-ropes.ensures.ropes c.requires.0 d c.requires.2 c.requires.5 c.requires.6)) (sweep_grammar c.args.parts.now.form d c.args.limit c.requires.3.rising c.requires.4 c.ranges.limit.fits) }

pub returns-clause-ready : goal.returns-clause-ready
returns-clause-ready g c held d h ordered plain graces =
    if_ok _ _ c.ready_with.result
    (λ ready k spare. subst (λ ids. MayBeReady spare d ready (sweep_of (expired_rows d) ids)) (c.in_ok-ropes.ensures.ropes held d h plain graces) (k spare d (sym h.rows) (sym h.moment) ordered.once)) c.ready_with.ensures
