use Rattle.mirror_packets.proofs.Files.{file_is_read, one_list}
use Rattle.mirror_packets.proofs.laws.packets_read_back.Goals as goal

pub returns : goal.returns
returns c = record { read = file_is_read; same = one_list }
