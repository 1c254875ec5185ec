use Rattle.std.proofs.Common.{◌≡◌, ◌∙◌, nat_lt, sym, ap, subst}
use Rattle.voice_units.specs.Blocks.{BlockPair, has_pair}
use Rattle.rope_table.specs.Inside.{Tallied, is_live, count_in}
use Rattle.rope_table.proofs.Lives.{files_live_in}
use Rattle.rope_table.proofs.counts.Tally.live_files.Goals as goal

pub returns : goal.returns
returns c = λ pairs same.
    c.live.ensures pairs (λ f. files_live_in c.self.inside.counts.entries c.len-unique.ensures.unique pairs (subst (λ (t : Tallied). (q : BlockPair) → has_pair pairs q ≡ is_live (count_in t q)) (sym c.self.view_is) same) f ∙ ap (nat_lt 0) (sym (c.self.invariant.lives f)))
