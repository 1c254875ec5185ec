use Rattle.std.proofs.Common.{ℕ, subst}
use Rattle.std.specs.Prelude.{IfOk}
use Rattle.ready_changes.specs.Ready.{MayBeReady, sweep_change}
use Rattle.row_calls.proofs.Given.{orderly_told, parts_graces}
use Rattle.row_calls.proofs.sweeping.ready_by.Goals as goal

pub ready_sweep-requires : goal.ready_sweep-requires
ready_sweep-requires g c =
    let parts = c.args.parts.now in
    let held = c.requires.shown.0 in
    let b = c.requires.shown.1 in
    let h = c.requires.shown.2 in
    (held, b.kept, h.kept, orderly_told held parts b h, h.valid.kept.next_limit, parts_graces held parts b h, c.requires.shown.3)

pub returns : goal.returns
returns g c = λ held b h graces.
    let parts = c.args.parts.now in
    subst (λ (form : ℕ). IfOk c.ready_sweep.result (λ ready. (spare : ℕ) → MayBeReady spare b.kept ready (sweep_change form b.kept c.args.limit))) h.in_form
    (c.ready_sweep.ensures.ready held b.kept h.kept (orderly_told held parts b h) (parts_graces held parts b h) graces)
