use Rattle.std.proofs.Common.{◌≡◌, ◌*◌, ◌≤◌, length, arith, ap, rules, unwrap_or}
use Rattle.std.specs.Map.{lookup}
use Rattle.voice_blocks.specs.Sound.{holder_eq, owner_eq, end_in}
use Rattle.voice_blocks.specs.declared.owner.Owner.{Owner}
use Rattle.voice_blocks.proofs.SoundLemmas.{all_free}
use Rattle.voice_blocks.proofs.map.BlockMap.new.Goals as goal

pub invariant_of-result : goal.invariant_of-result
invariant_of-result c =
    let reach : c.args.blocks ≤ 64 * length c.in_ok-taken.taken.words.items = omega (arith, c.in_ok-taken.ensures.room, c.in_ok-taken.taken.words.ok) in
    let no_end : (o : Owner) → end_in c.new-3.result o ≡ 0 = λ o. ap (λ es. unwrap_or (lookup (owner_eq o) es) 0) c.new-3.ensures.empty in
    all_free c.args.blocks c.in_ok-holders.holders.items c.in_ok-taken.taken.words.items _ (end_in c.new-3.result) _ _ (λ o. rw (no_end o) (omega arith)) (search rules) c.ranges.blocks.fits reach c.in_ok-taken.ensures.empty (λ h. ap (lookup (holder_eq h)) c.new-2.ensures.empty)
