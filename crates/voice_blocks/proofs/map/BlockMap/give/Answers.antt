use Rattle.std.proofs.Common.{◌≡◌, ◌+◌, ◌-◌, suc, ℕ, Some, ap, sym, ◌∙◌, arith}
use Rattle.std.proofs.Math.ListN.{set}
use Rattle.voice_blocks.specs.Holders.{Holders, holder_at, block_of, open_in, with_taken}
use Rattle.voice_blocks.proofs.SoundLemmas.{open_in-set_some}
use Rattle.voice_blocks.proofs.TakeLemmas.{with_taken-step, behind_more}
use Rattle.voice_blocks.proofs.map.BlockMap.give.Goals as goal

pub loop-k-preserved : goal.loop-k-preserved
loop-k-preserved c =
    let owner = c.args.owner.now in
    let hs = c.loop-k.self.holders in
    let at : ℕ = c.args.from + c.loop-k.k in
    let left : ℕ = c.args.n - (c.loop-k.k + 1) in
    let a = c.in-Some.address in
    let low = c.in-Some.ensures.lowest in
    let had = c.loop-k.invariant in
    let new_is : c.enter.new.self.holders ≡ set hs a (Some (block_of owner at)) = c.enter.ensures.holders ∙ ap (λ (l : Holders). set l a (Some (block_of owner at))) c.in-Some.ensures.holders in
    let one_up : c.args.from + (c.loop-k.k + 1) ≡ suc at = omega arith in
    let one_less : c.args.n - c.loop-k.k ≡ suc left = omega (arith, c.loop-k-test.true) in
    let fewer = open_in-set_some hs a (block_of owner at) low.within low.free in
    let count = ap open_in new_is in
    record {
      rest = ap (λ f. with_taken owner f left c.enter.new.self.holders) one_up ∙ ap (λ (l : Holders). with_taken owner (suc at) left l) new_is
          ∙ sym (with_taken-step owner at left hs a low) ∙ ap (λ m. with_taken owner at m hs) (sym one_less) ∙ had.rest;
      spare_left = omega (arith, c.enter.ensures.spare, c.in-Some.ensures.spare, had.spare_left);
      open_left = omega (arith, fewer, count, had.open_left);
      behind = λ b index held. let more = behind_more owner hs a at low.within had.behind b index (ap (λ (l : Holders). holder_at l b) (sym new_is) ∙ held) in omega (arith, more);
    }
