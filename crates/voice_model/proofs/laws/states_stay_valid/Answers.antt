use Rattle.voice_model.proofs.StatesKept.{state_kept, states_kept, formatted_kept}
use Rattle.voice_model.proofs.laws.states_stay_valid.Goals as goal

pub returns : goal.returns
returns c = record { entry = state_kept; history = states_kept; first = formatted_kept }
