use Rattle.std.proofs.Common.{◌≡◌, ◌≤◌, ◌-◌, length, Some, ap, sym, ◌∙◌, subst, arith}
use Rattle.std.specs.Prelude.{min}
use Rattle.rope_table.specs.Table.{Table, Counts, rope_of}
use Rattle.rope_table.proofs.ById.{without_none}
use Rattle.rope_table.proofs.Wholes.{left_due, used_by_live, live_least, whole_without, counts_without, whole_same, counts_same, index_of_kept, one_more}
use Rattle.rope_table.proofs.table.RopeTable.remove.Goals as goal

pub invariant_of-self : goal.invariant_of-self
invariant_of-self c =
    whole_same c.self.inside.ropes c.leave.new.self c.self.inside.dues c.self.inside.counts c.self.invariant
    (c.in_default.ensures.ropes ∙ without_none c.args.id c.self.inside.ropes.ropes (sym c.in_default.ensures.value))

pub returns-in_default-clause-counts : goal.returns-in_default-clause-counts
returns-in_default-clause-counts c = λ held counted.
    counts_same c.self.inside.ropes c.leave.new.self c.self.inside.dues c.self.inside.counts held
    (c.in_default.ensures.ropes ∙ without_none c.args.id c.self.inside.ropes.ropes (sym c.in_default.ensures.value)) (subst (λ (t : Table). Counts t held) (sym c.self.view_is) counted)

pub returns-in_default-clause-spare_ropes : goal.returns-in_default-clause-spare_ropes
returns-in_default-clause-spare_ropes c =
    let same = ap length (c.in_default.ensures.ropes ∙ without_none c.args.id c.self.inside.ropes.ropes (sym c.in_default.ensures.value)) in
    subst (λ (t : Table). t.spare_ropes ≤ min (c.leave.new.self.room - length c.leave.new.self.ropes) (c.self.inside.dues.room - length c.leave.new.self.ropes)) c.self.view_is
    (omega (arith, same, c.in_default.ensures.room))

pub lower-requires-clause-there : goal.lower-requires-clause-there
lower-requires-clause-there c = λ q has.
    let rope = c.in-Some.rope in
    let ropes = c.self.inside.ropes.ropes in
    let found : rope_of ropes c.args.id ≡ Some rope = sym c.in-Some.ensures.value in
    used_by_live c.self.inside.ropes c.self.inside.dues c.self.inside.counts c.args.id rope q c.self.invariant found has

pub lower-requires-clause-live : goal.lower-requires-clause-live
lower-requires-clause-live c = λ live q has.
    let rope = c.in-Some.rope in
    let found : rope_of c.self.inside.ropes.ropes c.args.id ≡ Some rope = sym c.in-Some.ensures.value in
    live_least c.self.inside.ropes c.self.inside.dues c.self.inside.counts c.args.id rope q c.self.invariant found has

pub invariant_of-self-then-kept : goal.invariant_of-self-then-kept
invariant_of-self-then-kept c =
    let rope = c.in-Some.rope in
    let ropes = c.self.inside.ropes.ropes in
    let found : rope_of ropes c.args.id ≡ Some rope = sym c.in-Some.ensures.value in
    whole_without c.self.inside.ropes c.leave.new.self c.self.inside.dues c.self.inside.dues c.self.inside.counts c.lower.new.self c.args.id rope c.self.invariant found c.in-Some.ensures.ropes
    (c.self.invariant.ordered ∙ index_of_kept c.args.id ropes rope c.self.invariant.table.rising found c.if-kept.true) (omega arith) c.lower.ensures.block c.lower.ensures.uses c.lower.ensures.live

pub returns-then-kept-clause-counts : goal.returns-then-kept-clause-counts
returns-then-kept-clause-counts c = λ held counted.
    let rope = c.in-Some.rope in
    let ropes = c.self.inside.ropes.ropes in
    let found : rope_of ropes c.args.id ≡ Some rope = sym c.in-Some.ensures.value in
    counts_without c.self.inside.ropes c.leave.new.self c.self.inside.dues c.self.inside.dues c.self.inside.counts c.lower.new.self c.args.id rope held c.self.invariant.table.rising found c.in-Some.ensures.ropes c.lower.ensures.block c.lower.ensures.uses
    (subst (λ (t : Table). Counts t held) (sym c.self.view_is) counted)

pub returns-then-kept-clause-spare_ropes : goal.returns-then-kept-clause-spare_ropes
returns-then-kept-clause-spare_ropes c =
    let rope = c.in-Some.rope in
    let ropes = c.self.inside.ropes.ropes in
    let found : rope_of ropes c.args.id ≡ Some rope = sym c.in-Some.ensures.value in
    let more = one_more c.args.id ropes rope c.self.invariant.table.rising found in
    let now = ap length c.in-Some.ensures.ropes in
    subst (λ (t : Table). t.spare_ropes ≤ min (c.leave.new.self.room - length c.leave.new.self.ropes) (c.self.inside.dues.room - length c.leave.new.self.ropes)) c.self.view_is
    (omega (arith, more, now, c.in-Some.ensures.room))

pub invariant_of-self-2 : goal.invariant_of-self-2
invariant_of-self-2 c =
    let rope = c.in-Some.rope in
    let ropes = c.self.inside.ropes.ropes in
    let found : rope_of ropes c.args.id ≡ Some rope = sym c.in-Some.ensures.value in
    whole_without c.self.inside.ropes c.leave.new.self c.self.inside.dues c.leave-2.new.self c.self.inside.counts c.lower.new.self c.args.id rope c.self.invariant found c.in-Some.ensures.ropes
    (left_due c.args.id ropes rope c.self.inside.dues.dues c.leave-2.new.self.dues c.due_of.result c.self.invariant.table.rising found c.self.invariant.ordered c.due_of.ensures c.if-kept.false c.leave-2.ensures.dues)
    c.leave-2.ensures.room c.lower.ensures.block c.lower.ensures.uses c.lower.ensures.live

pub returns-clause-counts : goal.returns-clause-counts
returns-clause-counts c = λ held counted.
    let rope = c.in-Some.rope in
    let ropes = c.self.inside.ropes.ropes in
    let found : rope_of ropes c.args.id ≡ Some rope = sym c.in-Some.ensures.value in
    counts_without c.self.inside.ropes c.leave.new.self c.self.inside.dues c.leave-2.new.self c.self.inside.counts c.lower.new.self c.args.id rope held c.self.invariant.table.rising found c.in-Some.ensures.ropes c.lower.ensures.block c.lower.ensures.uses
    (subst (λ (t : Table). Counts t held) (sym c.self.view_is) counted)

pub returns-clause-spare_ropes : goal.returns-clause-spare_ropes
returns-clause-spare_ropes c =
    let rope = c.in-Some.rope in
    let ropes = c.self.inside.ropes.ropes in
    let found : rope_of ropes c.args.id ≡ Some rope = sym c.in-Some.ensures.value in
    let more = one_more c.args.id ropes rope c.self.invariant.table.rising found in
    let now = ap length c.in-Some.ensures.ropes in
    subst (λ (t : Table). t.spare_ropes ≤ min (c.leave.new.self.room - length c.leave.new.self.ropes) (c.leave-2.new.self.room - length c.leave.new.self.ropes)) c.self.view_is
    (omega (arith, more, now, c.in-Some.ensures.room, c.leave-2.ensures.room))
