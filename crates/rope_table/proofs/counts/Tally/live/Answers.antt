use Rattle.std.proofs.Common.{◌≡◌, ◌∙◌, sym, subst}
use Rattle.voice_units.specs.Blocks.{BlockPair, has_pair}
use Rattle.rope_table.specs.Inside.{Tallied, is_live, count_in}
use Rattle.rope_table.proofs.Lives.{live_exact}
use Rattle.rope_table.proofs.counts.Tally.live.Goals as goal

pub returns : goal.returns
returns c = λ pairs same.
    c.self.invariant.total
    ∙ live_exact c.self.inside.counts.entries c.len-unique.ensures.unique pairs (subst (λ (t : Tallied). (q : BlockPair) → has_pair pairs q ≡ is_live (count_in t q)) (sym c.self.view_is) same)
