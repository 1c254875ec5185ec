use Rattle.running_tables.proofs.Counts.{each_once}
use Rattle.running_tables.proofs.Begins.{begins, divided}
use Rattle.running_tables.proofs.Free.{rope_blocks, counts_used, counts_free}
use Rattle.running_tables.proofs.Quiet.{quiet, spelled}
use Rattle.running_tables.proofs.Doubted.{doubted}
use Rattle.running_tables.proofs.Recounted.{recounted}
use Rattle.running_tables.proofs.Taken.{reshown, none_yet, taken, used_pledged, used_unpledged}
use Rattle.running_tables.proofs.Steps.{played, released}
use Rattle.running_tables.proofs.Grown.{grown}
use Rattle.running_tables.proofs.Ended.{ended}
use Rattle.running_tables.proofs.Dropped.{repledged, given_up, given_back}
use Rattle.running_tables.proofs.Landed.{landed, altered}
use Rattle.running_tables.proofs.Swept.{all_in_use, swept}
use Rattle.running_tables.proofs.laws.runs_laws.Goals as goal

pub returns : goal.returns
returns c = record {
  begins = begins;
  quiet = quiet;
  doubted = doubted;
  placed = rope_blocks;
  spelled = spelled;
  recounted = recounted;
  reshown = reshown;
  none_yet = none_yet;
  taken = taken;
  used_pledged = used_pledged;
  used_unpledged = used_unpledged;
  played = played;
  released = released;
  grown = grown;
  ended = ended;
  repledged = repledged;
  given_up = given_up;
  given_back = given_back;
  landed = landed;
  altered = altered;
  all_in_use = all_in_use;
  swept = swept;
  divided = divided;
  counted = each_once;
  used_blocks = counts_used;
  free_blocks = counts_free;
}
