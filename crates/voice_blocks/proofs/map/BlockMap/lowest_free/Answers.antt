use Rattle.std.proofs.Common.{◌≡◌, ◌*◌, length, arith, subst}
use Rattle.voice_blocks.specs.Holders.{open_in, IsLowestFree}
use Rattle.voice_blocks.proofs.TakeLemmas.{all_in, lowest_is}
use Rattle.voice_blocks.proofs.map.BlockMap.lowest_free.Goals as goal

pub returns-in_default-clause-lowest : goal.returns-in_default-clause-lowest
returns-in_default-clause-lowest c =
    let hs = c.self.inside.holders.items in
    let words = c.self.inside.taken.words in
    subst (λ v. open_in v.holders ≡ 0) c.self.view_is (all_in hs words.items c.self.invariant.bits (64 * length words.items) c.self.invariant.words_reach (λ k below. c.in_default.ensures.lowest k (omega (arith, below, words.ok))))

pub returns-then-lowest-len-clause-lowest : goal.returns-then-lowest-len-clause-lowest
returns-then-lowest-len-clause-lowest c =
    let hs = c.self.inside.holders.items in
    let words = c.self.inside.taken.words in
    subst (λ v. open_in v.holders ≡ 0) c.self.view_is (all_in hs words.items c.self.invariant.bits c.in-Some.lowest (omega (arith, c.if-lowest-len.true, c.len.ensures, c.self.inside.holders.ok)) c.in-Some.ensures.lowest.2)

pub returns-clause-lowest : goal.returns-clause-lowest
returns-clause-lowest c =
    let hs = c.self.inside.holders.items in
    let words = c.self.inside.taken.words in
    subst (λ v. IsLowestFree v.holders c.in-Some.lowest) c.self.view_is (lowest_is hs words.items c.self.invariant.bits c.in-Some.lowest (omega (arith, c.if-lowest-len.false, c.len.ensures, c.self.inside.holders.ok)) c.in-Some.ensures.lowest.1 c.in-Some.ensures.lowest.2)
