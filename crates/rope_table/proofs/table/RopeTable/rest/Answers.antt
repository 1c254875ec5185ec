use Rattle.std.proofs.Common.{◌&&◌, ap, sym, ◌∙◌, subst, arith}
use Rattle.rope_table.specs.Table.{Table, Counts}
use Rattle.rope_table.proofs.Standings.{rests, counts_now, none_changed, kept_out, left_out, room_for_due, apart_yet, none_still, still_out, entered}
use Rattle.rope_table.proofs.table.RopeTable.rest.Goals as goal

pub invariant_of-self : goal.invariant_of-self
invariant_of-self c = none_changed (rests c.self.inside.ropes c.rest.new.self c.self.inside.dues c.self.inside.counts c.args.id c.args.idle c.args.last c.args.wait c.args.still c.self.invariant c.in_default.ensures.ropes c.requires) c.in_default.ensures.was

pub returns-in_default-clause-counts : goal.returns-in_default-clause-counts
returns-in_default-clause-counts c = λ held counted.
    counts_now (rests c.self.inside.ropes c.rest.new.self c.self.inside.dues c.self.inside.counts c.args.id c.args.idle c.args.last c.args.wait c.args.still c.self.invariant c.in_default.ensures.ropes c.requires) c.self.inside.dues held (subst (λ (t : Table). Counts t held) (sym c.self.view_is) counted)

pub invariant_of-self-then-still : goal.invariant_of-self-then-still
invariant_of-self-then-still c =
    let change = rests c.self.inside.ropes c.rest.new.self c.self.inside.dues c.self.inside.counts c.args.id c.args.idle c.args.last c.args.wait c.args.still c.self.invariant c.in-Some.ensures.ropes c.requires in
    still_out change c.in-Some.ensures.was c.self.inside.dues (kept_out change c.in-Some.ensures.was c.if-was.true) (omega arith) (ap (λ b. b && c.in-Some.was.kept) c.if-still.true ∙ c.if-was.true)

pub returns-then-still-clause-counts : goal.returns-then-still-clause-counts
returns-then-still-clause-counts c = λ held counted.
    counts_now (rests c.self.inside.ropes c.rest.new.self c.self.inside.dues c.self.inside.counts c.args.id c.args.idle c.args.last c.args.wait c.args.still c.self.invariant c.in-Some.ensures.ropes c.requires) c.self.inside.dues held (subst (λ (t : Table). Counts t held) (sym c.self.view_is) counted)

pub enter-requires-clause-room : goal.enter-requires-clause-room
enter-requires-clause-room c =
    let change = rests c.self.inside.ropes c.rest.new.self c.self.inside.dues c.self.inside.counts c.args.id c.args.idle c.args.last c.args.wait c.args.still c.self.invariant c.in-Some.ensures.ropes c.requires in
    room_for_due change c.in-Some.ensures.was c.self.inside.dues (kept_out change c.in-Some.ensures.was c.if-was.true) (omega arith)

pub enter-requires-clause-apart : goal.enter-requires-clause-apart
enter-requires-clause-apart c =
    let change = rests c.self.inside.ropes c.rest.new.self c.self.inside.dues c.self.inside.counts c.args.id c.args.idle c.args.last c.args.wait c.args.still c.self.invariant c.in-Some.ensures.ropes c.requires in
    apart_yet change c.in-Some.ensures.was c.self.inside.dues c.due_of-due.result c.args.idle c.args.wait (kept_out change c.in-Some.ensures.was c.if-was.true) c.due_of-due.ensures

pub invariant_of-self-then-was : goal.invariant_of-self-then-was
invariant_of-self-then-was c =
    let change = rests c.self.inside.ropes c.rest.new.self c.self.inside.dues c.self.inside.counts c.args.id c.args.idle c.args.last c.args.wait c.args.still c.self.invariant c.in-Some.ensures.ropes c.requires in
    entered change c.in-Some.ensures.was c.self.inside.dues c.enter.new.self c.due_of-due.result (kept_out change c.in-Some.ensures.was c.if-was.true) (omega arith) (ap (λ b. b && c.in-Some.was.kept) c.if-still.false) c.due_of-due.ensures c.enter.ensures.dues c.enter.ensures.room

pub returns-then-was-clause-counts : goal.returns-then-was-clause-counts
returns-then-was-clause-counts c = λ held counted.
    counts_now (rests c.self.inside.ropes c.rest.new.self c.self.inside.dues c.self.inside.counts c.args.id c.args.idle c.args.last c.args.wait c.args.still c.self.invariant c.in-Some.ensures.ropes c.requires) c.enter.new.self held (subst (λ (t : Table). Counts t held) (sym c.self.view_is) counted)

pub enter-requires-2-clause-room : goal.enter-requires-2-clause-room
enter-requires-2-clause-room c =
    let change = rests c.self.inside.ropes c.rest.new.self c.self.inside.dues c.self.inside.counts c.args.id c.args.idle c.args.last c.args.wait c.args.still c.self.invariant c.in-Some.ensures.ropes c.requires in
    room_for_due change c.in-Some.ensures.was c.leave.new.self (left_out change c.in-Some.ensures.was c.leave.new.self c.due_of.result c.due_of.ensures c.if-was.false c.leave.ensures.dues) c.leave.ensures.room

pub enter-requires-2-clause-apart : goal.enter-requires-2-clause-apart
enter-requires-2-clause-apart c =
    let change = rests c.self.inside.ropes c.rest.new.self c.self.inside.dues c.self.inside.counts c.args.id c.args.idle c.args.last c.args.wait c.args.still c.self.invariant c.in-Some.ensures.ropes c.requires in
    apart_yet change c.in-Some.ensures.was c.leave.new.self c.due_of-due.result c.args.idle c.args.wait (left_out change c.in-Some.ensures.was c.leave.new.self c.due_of.result c.due_of.ensures c.if-was.false c.leave.ensures.dues) c.due_of-due.ensures

pub invariant_of-self-2 : goal.invariant_of-self-2
invariant_of-self-2 c =
    let change = rests c.self.inside.ropes c.rest.new.self c.self.inside.dues c.self.inside.counts c.args.id c.args.idle c.args.last c.args.wait c.args.still c.self.invariant c.in-Some.ensures.ropes c.requires in
    entered change c.in-Some.ensures.was c.leave.new.self c.enter-2.new.self c.due_of-due.result (left_out change c.in-Some.ensures.was c.leave.new.self c.due_of.result c.due_of.ensures c.if-was.false c.leave.ensures.dues) c.leave.ensures.room (none_still c.args.still c.in-Some.was.kept c.if-was.false) c.due_of-due.ensures c.enter-2.ensures.dues c.enter-2.ensures.room

pub returns-clause-counts : goal.returns-clause-counts
returns-clause-counts c = λ held counted.
    counts_now (rests c.self.inside.ropes c.rest.new.self c.self.inside.dues c.self.inside.counts c.args.id c.args.idle c.args.last c.args.wait c.args.still c.self.invariant c.in-Some.ensures.ropes c.requires) c.enter-2.new.self held (subst (λ (t : Table). Counts t held) (sym c.self.view_is) counted)
