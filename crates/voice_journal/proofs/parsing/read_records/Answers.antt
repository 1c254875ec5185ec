use Rattle.std.proofs.Common.{rules, ◌≡◌, ◌+◌, ◌<◌, ◌≤◌, ℕ, List, [], length, refl, sym, subst, arith}
use Rattle.voice_journal.specs.declared.lists.Span.{Span}
use Rattle.voice_journal.proofs.Stepping.{IsReading, begin, ended, refused, gone}
use Rattle.voice_journal.proofs.parsing.read_records.Goals as goal

pub loop-gate-init : goal.loop-gate-init
loop-gate-init c =
    let e : c.new-spans.result.items ≡ [] = search rules in
    subst (λ (l : List Span). IsReading c.args.start c.args.area.now l 16) (sym e) (begin c.args.start c.args.area.now c.requires.size)

pub returns-then-rest-le5 : goal.returns-then-rest-le5
returns-then-rest-le5 c =
    let w = c.loop-gate.invariant.within in
    (refused _ _ _ _ c.loop-gate.invariant c.loop-gate-test.true (omega arith), w)

pub returns-then-len-rest : goal.returns-then-len-rest
returns-then-len-rest c =
    let len = c.read_4-len.ensures in
    (refused _ _ _ _ c.loop-gate.invariant c.loop-gate-test.true (subst (λ (n : ℕ). length c.args.area.now ≤ c.loop-gate.gate + 5 + n) len (omega arith)), c.loop-gate.invariant.within)

pub loop-gate-preserved : goal.loop-gate-preserved
loop-gate-preserved c =
    let gate = c.loop-gate.gate in
    let n = c.read_4-len.result in
    let room : gate + 5 + n < length c.args.area.now = omega arith in
    gone _ _ _ _ n _ _ _ c.loop-gate.invariant c.loop-gate-test.true c.read_4-len.ensures room refl (omega arith) c.in_ok-push.ensures.items

pub returns : goal.returns
returns c = ended _ _ _ _ c.loop-gate.invariant c.loop-gate-test.false
