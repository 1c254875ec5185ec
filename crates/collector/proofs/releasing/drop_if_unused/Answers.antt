use Rattle.std.proofs.Common.{◌≡◌, refl, false, arith}
use Rattle.voice_units.specs.Blocks.{same_pair}
use Rattle.rope_table.specs.Table.{uses_at, pair_of}
use Rattle.collector.proofs.Released.{dropped, still_used, none_freed}
use Rattle.collector.proofs.releasing.drop_if_unused.Goals as goal

pub returns-then-uses-gt0-clause-holders : goal.returns-then-uses-gt0-clause-holders
returns-then-uses-gt0-clause-holders c =
    let p = pair_of c.args.file c.args.index in
    still_used (λ q. false) (same_pair p) (uses_at c.args.table.now) p c.args.blocks.now.holders c.args.blocks.now.holders (λ z. omega (arith, z, c.uses.ensures, c.if-uses-gt0.true)) (λ q. refl) (none_freed (λ q. false) (uses_at c.args.table.now) c.args.blocks.now.holders (λ q. refl))

pub returns-clause-holders : goal.returns-clause-holders
returns-clause-holders c =
    let p = pair_of c.args.file c.args.index in
    let none : uses_at c.args.table.now p ≡ 0 = omega (arith, c.uses.ensures, c.if-uses-gt0.false) in
    dropped (λ q. false) (same_pair p) (uses_at c.args.table.now) p c.args.blocks.now.holders c.args.blocks.now.holders _ none (λ q. refl) (none_freed (λ q. false) (uses_at c.args.table.now) c.args.blocks.now.holders (λ q. refl)) c.drop_block.ensures.holders
