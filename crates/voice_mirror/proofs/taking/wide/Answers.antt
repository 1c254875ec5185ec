use Rattle.std.proofs.Common.{◌≡◌, ℕ, List, length, sym, subst, ◌∙◌}
use Rattle.std.specs.Prelude.{true}
use Rattle.voice_model.specs.Spelling.{is_recording}
use Rattle.voice_mirror.proofs.Bodies.{wide_grammar}
use Rattle.voice_mirror.proofs.taking.wide.Goals as goal

pub returns-clause-grammar : goal.returns-clause-grammar
returns-clause-grammar c =
    subst (λ (l : List ℕ). is_recording 4 c.args.id (length c.args.samples.now) l ≡ true) (sym (c.of-list.ensures ∙ c.in_ok-from_slice.ensures.items))
    (wide_grammar c.args.id (length c.args.samples.now) c.args.n c.args.blocks c.args.addresses.now c.requires.id c.requires.long c.requires.count c.ranges.n.fits c.ranges.blocks.fits c.requires.below)
