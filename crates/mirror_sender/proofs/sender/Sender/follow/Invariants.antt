use Rattle.std.proofs.Common.{take}
use Rattle.voice_model.specs.State.{State}
use Rattle.voice_model.specs.Step.{after, Legal}
use Rattle.mirror_sender.specs.Sent.{changes_of}
use Rattle.mirror_sender.specs.Abreast.{IsSound, IsAbreast, FollowsAll}
use Rattle.mirror_sender.proofs.sender.Sender.follow.Given as goal

abbrev pub invariant-loop-entry : goal.invariant-loop-entry
invariant-loop-entry l =
    IsSound l.tapes l.self
    × ((s : State) → IsAbreast l.tapes l.fn.self s → Legal s l.tapes l.history → FollowsAll l.tapes l.fn.self l.self (after s l.tapes (take l.entry-index l.history)) l.fn.out.items l.out.items (changes_of s l.tapes (take l.entry-index l.history)))
