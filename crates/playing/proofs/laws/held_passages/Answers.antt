use Rattle.playing.proofs.Holding.{split_lane, put_lane, stopped_none, pushed_last, sent_same, home_same, stopped_left, first_left, still_used}
use Rattle.playing.proofs.laws.held_passages.Goals as goal

pub returns : goal.returns
returns c = record { split = split_lane; put = put_lane; stopped = stopped_none; pushed = pushed_last; sent = sent_same; home = home_same; left_stopped = stopped_left; left = first_left; used = still_used }
