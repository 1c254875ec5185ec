use Rattle.serving_laws.proofs.Served.{rests_when_over}
use Rattle.serving_laws.proofs.laws.a_job_that_is_over_leaves_a_lane_at_rest.Goals as goal

pub returns : goal.returns
returns c = record { at_rest = rests_when_over }
