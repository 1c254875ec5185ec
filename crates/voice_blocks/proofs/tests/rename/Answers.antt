use Rattle.std.proofs.Common.{◌≡◌, arith}
use Rattle.voice_blocks.specs.declared.owner.Owner.TheVariants.{File}
use Rattle.voice_blocks.specs.Holders.{next_index}
use Rattle.voice_blocks.proofs.TakeLemmas.{next_index-above}
use Rattle.voice_blocks.proofs.tests.rename.Goals as goal

pub rename-requires : goal.rename-requires
rename-requires c = λ a index held.
    let under = next_index-above (File c.args.file) c.args.map.now.holders a index held in
    let none : next_index (File c.args.file) c.args.map.now.holders ≡ 0 = omega (arith, c.next_index-next.ensures, c.if-next-gt0.false) in
    absurd (omega (arith, under, none))
