use Rattle.std.proofs.Common.{ap, ◌∙◌, ◌+◌, ◌-◌, ◌%◌, ◌≡◌, bit_and, arith}
use Rattle.std.proofs.lemmas.Nat.{and_mask}
use Rattle.silence_scan.proofs.Lanes.{lanes_loud}
use Rattle.silence_scan.proofs.loudness.loud_lanes.Goals as goal

pub returns : goal.returns
returns c =
    lanes_loud (λ a b. (a + (256 - b)) % 256) bit_and
    (λ x. let e : (127 + (256 - x % 128)) % 256 ≡ 127 - x % 128 = omega arith in ap (λ y. (127 + (256 - y)) % 256) (and_mask x 7) ∙ e)
    c.args.v c.fits-v.0
