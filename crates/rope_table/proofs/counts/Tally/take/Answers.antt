use Rattle.std.proofs.Common.{◌∙◌, sym, ap}
use Rattle.rope_table.specs.Inside.{once}
use Rattle.rope_table.proofs.Lives.{last_live}
use Rattle.rope_table.proofs.counts.Tally.take.Goals as goal

pub leave-requires-clause-last : goal.leave-requires-clause-last
leave-requires-clause-last c = λ single.
    c.self.invariant.lives c.args.name.now.file
    ∙ last_live c.self.inside.counts.entries c.take-old.new.counts.entries c.args.name.now c.take-old.result (c.if-is_none.ensures) c.take-old.ensures.sums (sym (c.self.invariant.counted c.args.name.now.file) ∙ single)
    ∙ ap once (sym c.has_live-was.ensures)
