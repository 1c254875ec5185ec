use Rattle.std.proofs.Common.{not, true, false, ap, sym, ◌∙◌, ◌≡◌, subst, arith}
use Rattle.rope_table.specs.Table.{Table, Counts}
use Rattle.rope_table.proofs.Wholes.{same_bool, other_bool}
use Rattle.rope_table.proofs.Standings.{keeps, counts_now, none_changed, unchanged, kept_out, left_out, room_for_due, apart_yet, still_out, entered}
use Rattle.rope_table.proofs.table.RopeTable.keep.Goals as goal

pub invariant_of-self : goal.invariant_of-self
invariant_of-self c = none_changed (keeps c.self.inside.ropes c.keep.new.self c.self.inside.dues c.self.inside.counts c.args.id c.args.kept c.self.invariant c.in_default.ensures.ropes) c.in_default.ensures.was

pub returns-in_default-clause-counts : goal.returns-in_default-clause-counts
returns-in_default-clause-counts c = λ held counted.
    counts_now (keeps c.self.inside.ropes c.keep.new.self c.self.inside.dues c.self.inside.counts c.args.id c.args.kept c.self.invariant c.in_default.ensures.ropes) c.self.inside.dues held (subst (λ (t : Table). Counts t held) (sym c.self.view_is) counted)

pub invariant_of-self-then-was-kept : goal.invariant_of-self-then-was-kept
invariant_of-self-then-was-kept c =
    unchanged (keeps c.self.inside.ropes c.keep.new.self c.self.inside.dues c.self.inside.counts c.args.id c.args.kept c.self.invariant c.in-Some.ensures.ropes) c.in-Some.ensures.was
    (ap (λ k. record c.in-Some.was { kept = k }) (sym (same_bool c.in-Some.was.kept c.args.kept c.if-was-kept.true)))

pub returns-then-was-kept-clause-counts : goal.returns-then-was-kept-clause-counts
returns-then-was-kept-clause-counts c = λ held counted.
    counts_now (keeps c.self.inside.ropes c.keep.new.self c.self.inside.dues c.self.inside.counts c.args.id c.args.kept c.self.invariant c.in-Some.ensures.ropes) c.self.inside.dues held (subst (λ (t : Table). Counts t held) (sym c.self.view_is) counted)

pub invariant_of-self-then-kept : goal.invariant_of-self-then-kept
invariant_of-self-then-kept c =
    let change = keeps c.self.inside.ropes c.keep.new.self c.self.inside.dues c.self.inside.counts c.args.id c.args.kept c.self.invariant c.in-Some.ensures.ropes in
    let free : c.in-Some.was.kept ≡ false = other_bool c.in-Some.was.kept c.args.kept c.if-was-kept.false ∙ ap not c.if-kept.true in
    still_out change c.in-Some.ensures.was c.leave.new.self (left_out change c.in-Some.ensures.was c.leave.new.self c.due_of-due.result c.due_of-due.ensures free c.leave.ensures.dues) c.leave.ensures.room c.if-kept.true

pub returns-then-kept-clause-counts : goal.returns-then-kept-clause-counts
returns-then-kept-clause-counts c = λ held counted.
    counts_now (keeps c.self.inside.ropes c.keep.new.self c.self.inside.dues c.self.inside.counts c.args.id c.args.kept c.self.invariant c.in-Some.ensures.ropes) c.leave.new.self held (subst (λ (t : Table). Counts t held) (sym c.self.view_is) counted)

pub enter-requires-clause-room : goal.enter-requires-clause-room
enter-requires-clause-room c =
    let change = keeps c.self.inside.ropes c.keep.new.self c.self.inside.dues c.self.inside.counts c.args.id c.args.kept c.self.invariant c.in-Some.ensures.ropes in
    let kept : c.in-Some.was.kept ≡ true = other_bool c.in-Some.was.kept c.args.kept c.if-was-kept.false ∙ ap not c.if-kept.false in
    room_for_due change c.in-Some.ensures.was c.self.inside.dues (kept_out change c.in-Some.ensures.was kept) (omega arith)

pub enter-requires-clause-apart : goal.enter-requires-clause-apart
enter-requires-clause-apart c =
    let change = keeps c.self.inside.ropes c.keep.new.self c.self.inside.dues c.self.inside.counts c.args.id c.args.kept c.self.invariant c.in-Some.ensures.ropes in
    let kept : c.in-Some.was.kept ≡ true = other_bool c.in-Some.was.kept c.args.kept c.if-was-kept.false ∙ ap not c.if-kept.false in
    apart_yet change c.in-Some.ensures.was c.self.inside.dues c.due_of-due.result c.in-Some.was.idle c.in-Some.was.wait (kept_out change c.in-Some.ensures.was kept) c.due_of-due.ensures

pub invariant_of-self-2 : goal.invariant_of-self-2
invariant_of-self-2 c =
    let change = keeps c.self.inside.ropes c.keep.new.self c.self.inside.dues c.self.inside.counts c.args.id c.args.kept c.self.invariant c.in-Some.ensures.ropes in
    let kept : c.in-Some.was.kept ≡ true = other_bool c.in-Some.was.kept c.args.kept c.if-was-kept.false ∙ ap not c.if-kept.false in
    entered change c.in-Some.ensures.was c.self.inside.dues c.enter.new.self c.due_of-due.result (kept_out change c.in-Some.ensures.was kept) (omega arith) c.if-kept.false c.due_of-due.ensures c.enter.ensures.dues c.enter.ensures.room

pub returns-clause-counts : goal.returns-clause-counts
returns-clause-counts c = λ held counted.
    counts_now (keeps c.self.inside.ropes c.keep.new.self c.self.inside.dues c.self.inside.counts c.args.id c.args.kept c.self.invariant c.in-Some.ensures.ropes) c.enter.new.self held (subst (λ (t : Table). Counts t held) (sym c.self.view_is) counted)
