use Rattle.voice_mirror.specs.declared.promoting.PromoteError.TheVariants.{JournalFull}
use Rattle.voice_mirror.proofs.Promoted.{full_in, refused, not_spent, not_full, by_device, risen_then}
use Rattle.voice_mirror.proofs.promoting.turn.Goals as goal

pub returns-in-Ok-clause-spent : goal.returns-in-Ok-clause-spent
returns-in-Ok-clause-spent g c = not_spent c.switch_over.result c.args.journal.now.seat.epoch c.switch_over.ensures.device c.in-Ok.ensures.fits.0

pub returns-in-Ok-clause-full : goal.returns-in-Ok-clause-full
returns-in-Ok-clause-full g c = not_full c.switch_over.result c.args.journal.now c.args.parts.now c.switch_over.ensures.device c.in-Ok.ensures.fits.2

pub returns-in-Ok-clause-unchanged : goal.returns-in-Ok-clause-unchanged
returns-in-Ok-clause-unchanged g c = by_device c.switch_over.result _ c.switch_over.ensures.device

pub returns-in-Ok-clause-fault : goal.returns-in-Ok-clause-fault
returns-in-Ok-clause-fault g c = risen_then c.switch_over.result _ c.switch_over.ensures.made.cause

pub returns-in-Ok-clause-turns : goal.returns-in-Ok-clause-turns
returns-in-Ok-clause-turns g c = λ honest b had stands shows. c.switch_over.ensures.turns honest b had stands (c.in-Ok.ensures.base b shows)

pub returns-in-Err-clause-fault : goal.returns-in-Err-clause-fault
returns-in-Err-clause-fault g c = λ dev. absurd (c.in-Err.ensures.early dev)

pub returns-in-Err-clause-turns : goal.returns-in-Err-clause-turns
returns-in-Err-clause-turns g c = λ honest b had stands shows. refused _ had (g.D.Disk.told c.args.disk.now) c.in-Err.e c.in-Err.ensures.early

pub returns-in-Err-clause-full : goal.returns-in-Err-clause-full
returns-in-Err-clause-full g c = λ need left. full_in _ _ c.in-Err.e (JournalFull need left) _ (c.in-Err.ensures.full need left)
