use Rattle.std.proofs.Common.{arith, rules, ◌≡◌, Some, [], sym, ap, subst, ◌∙◌, ◌+◌, ◌-◌, ◌<◌, ◌≤◌, length, get_or, slice_get}
use Rattle.std.proofs.lemmas.Option.{IfSome_then}
use Rattle.std.specs.Fn.{ComputesKey}
use Rattle.counted_row.specs.Row.{flat}
use Rattle.counted_row.proofs.Flat.{at-index}
use Rattle.counted_row.proofs.Points.{start, start-within, passing-point, none_then, last-passes, answers_next}
use Rattle.counted_row.proofs.search.first_failing.Goals as goal
use Rattle.counted_row.proofs.search.first_failing.Goals.{in-Some+else-pred, in_default}

pub returns-clause-stands : goal.returns-clause-stands
returns-clause-stands g c = IfSome_then c.settled.result c.settled.ensures.some (λ spot stands. (stands.0, stands.1, omega arith))

pub returns-then-pred-clause-none : goal.returns-then-pred-clause-none
returns-then-pred-clause-none g c p computes parts =
    let cs = c.args.chunks.now.items in
    let some : 0 < length cs = omega (arith, c.if-len-eq0.false) in
    let count : c.len-2.result ≡ length cs = omega (arith, c.len-2.ensures) in
    let here : c.index.result.now ≡ get_or cs (length cs - 1) [] = at-index cs (c.len-2.result - 1) c.index.result.now (omega (arith, some, count)) c.index.ensures ∙ ap (λ n. get_or cs (n - 1) []) count in
    let last : slice_get c.index.result.now (length c.index.result.now - 1) ≡ Some c.in-Some.last.now = search rules in
    last-passes p cs c.in-Some.last.now some (ap (λ l. slice_get l (length l - 1)) (sym here) ∙ last) (sym (answers_next g.P.FnMut _ _ _ _ _ c.if-pred.ensures computes).0) parts

pub returns-clause-some : goal.returns-clause-some
returns-clause-some g c =
    let cs = c.args.chunks.now.items in let end = c.end_of.result in
    let within : start cs end.chunk + end.place ≤ length (flat cs) = omega (arith, c.end_of.ensures.place, start-within cs end.chunk c.end_of.ensures.chunk) in
    IfSome_then c.settled.result c.settled.ensures.some (λ spot stands p computes parts. sym stands.2 ∙ passing-point p (flat cs) (start cs end.chunk + end.place) within (c.end_of.ensures.partitioned p (
    elim c.match-last.branch [
      | in-Some+else-pred w ↦ subst (λ f. ComputesKey g.P.FnMut p f) (sym w.pred-is) (answers_next g.P.FnMut _ _ _ _ _ w.if-pred.ensures computes).1
      | in_default w ↦ subst (λ f. ComputesKey g.P.FnMut p f) (sym w.pred-is) computes
    ]) parts))

pub returns-clause-none : goal.returns-clause-none
returns-clause-none g c =
    let cs = c.args.chunks.now.items in let end = c.end_of.result in
    let within : start cs end.chunk + end.place ≤ length (flat cs) = omega (arith, c.end_of.ensures.place, start-within cs end.chunk c.end_of.ensures.chunk) in
    none_then c.settled.result c.settled.ensures.none (λ all p computes parts. sym (passing-point p (flat cs) (start cs end.chunk + end.place) within (c.end_of.ensures.partitioned p (
    elim c.match-last.branch [
      | in-Some+else-pred w ↦ subst (λ f. ComputesKey g.P.FnMut p f) (sym w.pred-is) (answers_next g.P.FnMut _ _ _ _ _ w.if-pred.ensures computes).1
      | in_default w ↦ subst (λ f. ComputesKey g.P.FnMut p f) (sym w.pred-is) computes
    ]) parts)) ∙ all)
