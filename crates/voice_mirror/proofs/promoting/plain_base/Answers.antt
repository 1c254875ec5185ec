use Rattle.std.proofs.Common.{inl, refl}
use Rattle.checkpoint.proofs.Held.{used_alone}
use Rattle.voice_mirror.specs.declared.promoting.PromoteError.TheVariants.{JournalFull}
use Rattle.voice_mirror.proofs.Promoted.{full_in}
use Rattle.voice_mirror.proofs.promoting.plain_base.Goals as goal

pub compact_parts-requires-clause-shown : goal.compact_parts-requires-clause-shown
compact_parts-requires-clause-shown c = (c.requires.shown.0, used_alone c.args.parts.now c.requires.shown.0 c.requires.shown.1)

pub compact_parts-requires-clause-form : goal.compact_parts-requires-clause-form
compact_parts-requires-clause-form c = inl refl

pub returns-in-Ok-clause-base : goal.returns-in-Ok-clause-base
returns-in-Ok-clause-base c = λ b shows. c.in-Ok.ensures.base b (used_alone c.args.parts.now b shows)

pub returns-in-Err-clause-full : goal.returns-in-Err-clause-full
returns-in-Err-clause-full c = λ need left. full_in _ _ c.in-Err.e (JournalFull need left) _ (c.in-Err.ensures.full need left)
