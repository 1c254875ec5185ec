use Rattle.std.proofs.Common.{sym, subst}
use Rattle.std.specs.Prelude.{IfOk}
use Rattle.voice_model.specs.declared.calls.Call.{Call}
use Rattle.row_calls.specs.Asked.{IsAsked}
use Rattle.row_calls.proofs.asking.ask.Goals as goal

pub returns-in-Retain-clause-asked : goal.returns-in-Retain-clause-asked
returns-in-Retain-clause-asked c = λ held fill b s tapes spots shows kept form valid graces.
    subst (λ (call : Call). IfOk c.ask_retain.result (IsAsked c.ask_retain.new.parts b s tapes call)) (sym c.in-Retain.is)
    (c.ask_retain.ensures.asked held fill b s tapes (record { spots = spots; shows = shows; kept = kept; form = form; valid = valid }))

pub returns-in-Forget-clause-asked : goal.returns-in-Forget-clause-asked
returns-in-Forget-clause-asked c = λ held fill b s tapes spots shows kept form valid graces.
    subst (λ (call : Call). IsAsked c.args.parts.now b s tapes call c.ask_forget.result) (sym c.in-Forget.is)
    (c.ask_forget.ensures.asked held fill b s tapes (record { spots = spots; shows = shows; kept = kept; form = form; valid = valid }))

pub returns-in-Census-clause-asked : goal.returns-in-Census-clause-asked
returns-in-Census-clause-asked c = λ held fill b s tapes spots shows kept form valid graces.
    subst (λ (call : Call). IfOk c.ask_census.result (IsAsked c.args.parts.now b s tapes call)) (sym c.in-Census.is)
    (c.ask_census.ensures held fill b s tapes (record { spots = spots; shows = shows; kept = kept; form = form; valid = valid }))

pub returns-in-Advance-clause-asked : goal.returns-in-Advance-clause-asked
returns-in-Advance-clause-asked c = λ held fill b s tapes spots shows kept form valid graces.
    subst (λ (call : Call). IsAsked c.args.parts.now b s tapes call c.ask_advance.result) (sym c.in-Advance.is)
    (c.ask_advance.ensures.asked held fill b s tapes (record { spots = spots; shows = shows; kept = kept; form = form; valid = valid }))

pub returns-in-Sweep-clause-asked : goal.returns-in-Sweep-clause-asked
returns-in-Sweep-clause-asked c = λ held fill b s tapes spots shows kept form valid graces.
    subst (λ (call : Call). IfOk c.ask_sweep.result (IsAsked c.args.parts.now b s tapes call)) (sym c.in-Sweep.is)
    (c.ask_sweep.ensures held fill b s tapes (record { spots = spots; shows = shows; kept = kept; form = form; valid = valid }) graces)
