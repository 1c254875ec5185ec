use Rattle.std.proofs.Common.{◌≡◌, ◌*◌, ◌+◌, ◌<◌, ℕ, length, arith, vec_len, subst, Vec, Global}
use Rattle.voice_blocks.specs.Bits.{bit_of}
use Rattle.voice_blocks.proofs.BitLemmas.{full_bits, lowest_at}
use Rattle.voice_blocks.proofs.bitmap.Bitmap.lowest_out.Goals as goal

pub returns-then-word-clause-lowest : goal.returns-then-word-clause-lowest
returns-then-word-clause-lowest c =
    let v = c.loop-self.self.words in
    let a : ℕ = 64 * c.loop-self.self.hint + c.trailing_ones.result in
    let within : c.loop-self.self.hint < length v.items = omega (arith, v.ok, c.loop-self-test.true) in
    let low = lowest_at v.items c.loop-self.self.hint c.index-word.result.now a c.loop-self.self.full within c.index-word.ensures (omega arith) c.if-word.true (omega (arith, c.trailing_ones.ensures)) in
    subst (λ (w : Vec ℕ Global). (a < 64 * vec_len w) × (bit_of w.items a ≡ 0) × ((k : ℕ) → k < a → bit_of w.items k ≡ 1)) c.loop-self.invariant (omega (arith, low.0, v.ok), low.1, low.2)

pub returns-clause-lowest : goal.returns-clause-lowest
returns-clause-lowest c =
    let v = c.loop-self.self.words in
    subst (λ (w : Vec ℕ Global). (k : ℕ) → k < 64 * vec_len w → bit_of w.items k ≡ 1) c.loop-self.invariant (λ k below. full_bits v.items c.loop-self.self.hint c.loop-self.self.full k (omega arith))
