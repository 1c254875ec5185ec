use Rattle.voice_model.proofs.FitsOfCalls.{fit_call}
use Rattle.voice_model.proofs.LegalInReplay.{timely_call, legal_again, acted_again}
use Rattle.voice_model.proofs.LegalOfCalls.{made_of_call, legal_of_call}
use Rattle.voice_model.proofs.ChangesOfEffects.{brings_again, size_again}
use Rattle.voice_model.proofs.laws.changes_are_legal_again.Goals as goal

pub returns : goal.returns
returns c = record { fit = fit_call; timely = timely_call; made = made_of_call; legal = legal_again; of_call = legal_of_call; done = acted_again; brings_it = brings_again; size = size_again }
