use Rattle.voice_model.proofs.Determined.{one_reply, one_state, after-append, legal-append}
use Rattle.voice_model.proofs.Answers.{answered_outcome}
use Rattle.voice_model.proofs.laws.steps_are_determined.Goals as goal

pub returns : goal.returns
returns c = record { reply = one_reply; state = one_state; answered = answered_outcome; later = after-append; legal = legal-append }
