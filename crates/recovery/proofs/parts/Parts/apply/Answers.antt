use Rattle.std.proofs.Common.{◌≡◌, sym, subst}
use Rattle.std.specs.Prelude.{IfOk}
use Rattle.voice_model.specs.Replay.{is_legal, acted}
use Rattle.voice_model.specs.declared.changes.Change.{Change}
use Rattle.recovery.specs.Shown.{Rebuilds}
use Rattle.recovery.proofs.parts.Parts.apply.Goals as goal

pub returns-in-Retained-clause-legal : goal.returns-in-Retained-clause-legal
returns-in-Retained-clause-legal c = λ r h s.
    let tried = c.try_retained.ensures c.args.shape.now in
    subst (λ (x : Change). IfOk c.try_retained.result (λ done. done ≡ is_legal r x)) (sym c.in-Retained.is) (tried.legal r h s)

pub returns-in-Retained-clause-done : goal.returns-in-Retained-clause-done
returns-in-Retained-clause-done c = λ r h s e.
    let tried = c.try_retained.ensures c.args.shape.now in
    subst (λ (x : Change). Rebuilds c.try_retained.new.self (acted r x)) (sym c.in-Retained.is) (tried.done r h s e)

pub returns-in-Retained-clause-same : goal.returns-in-Retained-clause-same
returns-in-Retained-clause-same c = λ r h s e. let tried = c.try_retained.ensures c.args.shape.now in tried.same r h s e

pub returns-in-Forgotten-clause-done : goal.returns-in-Forgotten-clause-done
returns-in-Forgotten-clause-done c = λ r h s e. subst (λ (x : Change). Rebuilds c.try_forgotten.new.self (acted r x)) (sym c.in-Forgotten.is) (c.try_forgotten.ensures.done r h s e)

pub returns-in-Advanced-clause-legal : goal.returns-in-Advanced-clause-legal
returns-in-Advanced-clause-legal c = λ r h s.
    let tried = c.try_advanced.ensures c.args.shape.now in
    subst (λ (x : Change). c.try_advanced.result ≡ is_legal r x) (sym c.in-Advanced.is) (tried.legal r h s)

pub returns-in-Advanced-clause-done : goal.returns-in-Advanced-clause-done
returns-in-Advanced-clause-done c = λ r h s e.
    let tried = c.try_advanced.ensures c.args.shape.now in
    subst (λ (x : Change). Rebuilds c.try_advanced.new.self (acted r x)) (sym c.in-Advanced.is) (tried.done r h s e)

pub returns-in-Advanced-clause-same : goal.returns-in-Advanced-clause-same
returns-in-Advanced-clause-same c = λ r h s e. let tried = c.try_advanced.ensures c.args.shape.now in tried.same r h s e
