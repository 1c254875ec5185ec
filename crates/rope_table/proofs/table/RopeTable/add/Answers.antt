use Rattle.std.proofs.Common.{◌≡◌, ◌≤◌, ◌+◌, ◌-◌, length, None, refl, ap, sym, ◌∙◌, subst, arith}
use Rattle.std.specs.Prelude.{min}
use Rattle.rope_table.specs.Table.{Table, Counts, rope_of, made_rope}
use Rattle.rope_table.proofs.Edited.{length-with}
use Rattle.rope_table.proofs.Wholes.{live_within, whole_added, counts_added}
use Rattle.rope_table.proofs.table.RopeTable.add.Goals as goal

pub raise-requires-clause-live_fits : goal.raise-requires-clause-live_fits
raise-requires-clause-live_fits c = λ q. live_within c.self.inside.ropes c.self.inside.dues c.self.inside.counts q c.self.invariant

pub enter-requires-clause-unknown : goal.enter-requires-clause-unknown
enter-requires-clause-unknown c = ap (λ (t : Table). rope_of t.ropes c.args.id) c.self.view_is ∙ c.requires.unknown

pub enter-requires-clause-room : goal.enter-requires-clause-room
enter-requires-clause-room c =
    let some = subst (λ (t : Table). 1 ≤ t.spare_ropes) (sym c.self.view_is) c.requires.room in
    omega (arith, some)

pub enter-requires-clause-due_room : goal.enter-requires-clause-due_room
enter-requires-clause-due_room c =
    let some = subst (λ (t : Table). 1 ≤ t.spare_ropes) (sym c.self.view_is) c.requires.room in
    omega (arith, some)

pub invariant_of-self : goal.invariant_of-self
invariant_of-self c =
    let none : rope_of c.self.inside.ropes.ropes c.args.id ≡ None = ap (λ (t : Table). rope_of t.ropes c.args.id) c.self.view_is ∙ c.requires.unknown in
    let some = subst (λ (t : Table). 1 ≤ t.spare_ropes) (sym c.self.view_is) c.requires.room in
    whole_added c.self.inside.ropes c.enter.new.ropes c.self.inside.dues c.enter.new.dues c.self.inside.counts c.raise.new.self (made_rope c.args.id c.args.pieces c.args.idle c.args.last c.args.wait)
    c.self.invariant none c.requires.class refl c.enter.ensures.ropes c.enter.ensures.dues
    (omega (arith, some, c.enter.ensures.due_room)) c.raise.ensures.block c.raise.ensures.uses c.raise.ensures.live

pub returns-clause-counts : goal.returns-clause-counts
returns-clause-counts c = λ held counted.
    counts_added c.self.inside.ropes c.enter.new.ropes c.self.inside.dues c.enter.new.dues c.self.inside.counts c.raise.new.self (made_rope c.args.id c.args.pieces c.args.idle c.args.last c.args.wait) held
    c.enter.ensures.ropes c.raise.ensures.block c.raise.ensures.uses (subst (λ (t : Table). Counts t held) (sym c.self.view_is) counted)

pub returns-clause-spare_ropes : goal.returns-clause-spare_ropes
returns-clause-spare_ropes c =
    let more = ap length c.enter.ensures.ropes ∙ length-with (made_rope c.args.id c.args.pieces c.args.idle c.args.last c.args.wait) c.self.inside.ropes.ropes in
    subst (λ (t : Table). t.spare_ropes ≤ min (c.enter.new.ropes.room - length c.enter.new.ropes.ropes) (c.enter.new.dues.room - length c.enter.new.ropes.ropes) + 1) c.self.view_is
    (omega (arith, more, c.enter.ensures.due_room, c.enter.ensures.room))
