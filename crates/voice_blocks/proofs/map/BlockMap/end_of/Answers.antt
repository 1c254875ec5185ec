use Rattle.std.proofs.Common.{◌≡◌, ◌<◌, arith, ap, rules, ◌∙◌, sym, subst}
use Rattle.voice_blocks.specs.Holders.{holder_at, block_of}
use Rattle.voice_blocks.specs.Sound.{end_in}
use Rattle.voice_blocks.proofs.map.BlockMap.end_of.Goals as goal

pub returns-clause-bound : goal.returns-clause-bound
returns-clause-bound c = λ a index held.
    let below = c.self.invariant.ended a (block_of c.args.owner.now index) (ap (λ v. holder_at v.holders a) c.self.view_is ∙ held) in
    let is : c.unwrap_or.result ≡ end_in c.self.inside.ends c.args.owner.now = search rules in
    subst (λ n. index < n) (sym is) below

pub returns-clause-fits : goal.returns-clause-fits
returns-clause-fits c =
    let is : c.unwrap_or.result ≡ end_in c.self.inside.ends c.args.owner.now = search rules in
    let fits = c.self.invariant.ends_fit c.args.owner.now in
    omega (arith, is, fits)
