use Rattle.std.proofs.Common.{◌≡◌, ◌≤◌, ◌∙◌, ap, arith}
use Rattle.voice_units.specs.declared.shapes.Shape.{Shape}
use Rattle.running_tables.proofs.Begins.{divided}
use Rattle.tallies.proofs.Held.{numbers_some, samples_shown, ropes_shown, free_within}
use Rattle.tallies.proofs.tallying.tallied.Goals as goal

pub samples-requires : goal.samples-requires
samples-requires c = let runs = c.requires in numbers_some runs.0 runs.1 runs.2 c.args.parts.now runs.3 runs.4

pub returns-clause-ropes : goal.returns-clause-ropes
returns-clause-ropes c = λ held pledged takings b runs. c.count.ensures ∙ ropes_shown held pledged takings c.args.parts.now b runs

pub returns-clause-samples : goal.returns-clause-samples
returns-clause-samples c = λ held pledged takings b runs. c.samples.ensures ∙ samples_shown held pledged takings c.args.parts.now b runs

pub overflow_sub-result : goal.overflow_sub-result
overflow_sub-result c =
    let runs = c.requires in
    let within = free_within runs.0 runs.1 runs.2 c.args.parts.now runs.3 c.args.shape.now runs.4 runs.5 in
    omega (arith, within, c.free-free.ensures)

pub returns-clause-blocks : goal.returns-clause-blocks
returns-clause-blocks c =
    let runs = c.requires in
    let within = free_within runs.0 runs.1 runs.2 c.args.parts.now runs.3 c.args.shape.now runs.4 runs.5 in
    omega (arith, within, c.free-free.ensures)
