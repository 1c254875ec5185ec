use Rattle.serving_laws.proofs.Others.{rests_after_entry, rests_after}
use Rattle.serving_laws.proofs.laws.others_leave_a_lane_at_rest.Goals as goal

pub returns : goal.returns
returns c = record { entry = rests_after_entry; history = rests_after }
