use Rattle.voice_model.proofs.UsedByEdits.{used-concat, used-sub, used-replace}
use Rattle.voice_model.proofs.laws.edits_take_no_block.Goals as goal

pub returns : goal.returns
returns c = record { concat = used-concat; sub = used-sub; replace = used-replace }
