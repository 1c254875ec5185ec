use Rattle.mirror_packets.proofs.Files.{file_is_spelled, bad_is_none, bytes_of}
use Rattle.mirror_packets.proofs.laws.reading_is_spelled.Goals as goal

pub returns : goal.returns
returns c = record { spelled = λ bytes ps all h. file_is_spelled bytes ps (bytes_of bytes all) h; none = bad_is_none }
