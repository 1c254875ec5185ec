use Rattle.std.proofs.Common.{ap, ◌∙◌}
use Rattle.std.proofs.lemmas.Simd.{tops_compared}
use Rattle.std.specs.Prelude.{nat_lt}
use Rattle.std.specs.Simd.Lanes.{sel_l}
use mir.Syntax.{w8}
use Rattle.silence_scan.proofs.Lanes.{sel_max}
use Rattle.silence_scan.proofs.loudness.max_lanes.Goals as goal

pub returns : goal.returns
returns c = ap (λ ms. sel_l ms c.args.b c.args.a) (tops_compared w8 nat_lt c.args.a c.args.b) ∙ sel_max c.args.a c.args.b
