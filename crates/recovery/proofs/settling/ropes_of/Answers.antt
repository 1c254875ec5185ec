use Rattle.std.proofs.Common.{◌≡◌, ◌+◌, ◌≤◌, [], ◌∷◌, length, drop, sym, ◌∙◌, ap, subst, arith}
use Rattle.std.proofs.Math.ListN.{drop_of_length-le}
use Rattle.recovery.proofs.RowsGone.{drop_next}
use Rattle.recovery.proofs.RopesLeft.{AreGathered, gathered_one, gathered_no_row, gathered_all}
use Rattle.recovery.proofs.settling.ropes_of.Goals as goal
use Rattle.recovery.proofs.settling.ropes_of.Goals.{in-Some+in_ok-push, in_default}

pub loop-key-preserved : goal.loop-key-preserved
loop-key-preserved c = λ once.
    let rows = c.args.interests.now.rows in
    let class = c.args.class in
    let keys = c.args.keys.now in
    let k = c.loop-key.key-index in
    let key = c.key-item.result in
    let test = c.loop-key-test.true in
    let ropes = c.loop-key.ropes.items in
    let step : AreGathered class keys (key ∷ drop (k + 1) keys) rows ropes = subst (λ l. AreGathered class keys l rows ropes) (drop_next keys k key (omega arith) c.key-item.is) (c.loop-key.invariant once) in
    elim c.match-find.branch [
      | in-Some+in_ok-push w ↦
          subst (AreGathered class keys (drop (k + 1) keys) rows) (sym (ap (λ v. v.items) w.ropes-is ∙ w.in_ok-push.ensures.items))
          (gathered_one class keys key (drop (k + 1) keys) rows ropes w.in-Some.row.now (sym w.in-Some.ensures) once step)
      | in_default w ↦
          subst (AreGathered class keys (drop (k + 1) keys) rows) (sym (ap (λ v. v.items) w.ropes-is))
          (gathered_no_row class keys key (drop (k + 1) keys) rows ropes (sym w.in_default.ensures) step)
    ]

pub returns : goal.returns
returns c = λ once.
    let keys = c.args.keys.now in
    let test = c.loop-key-test.false in
    let none : drop c.loop-key.key-index keys ≡ [] = drop_of_length-le keys (let over : length keys ≤ c.loop-key.key-index = omega arith in over) in
    gathered_all c.args.class keys c.args.interests.now.rows c.loop-key.ropes.items (subst (λ l. AreGathered c.args.class keys l c.args.interests.now.rows c.loop-key.ropes.items) none (c.loop-key.invariant once))
