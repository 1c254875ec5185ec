use Rattle.voice_model.proofs.StatesOfReplay.{image_kept}
use Rattle.voice_model.proofs.StatesOfImages.{replayed_each, opened_valid}
use Rattle.voice_model.proofs.laws.replay_gives_valid_states.Goals as goal

pub returns : goal.returns
returns c = record { rebuilt_state = image_kept; records = replayed_each; opened_state = opened_valid }
