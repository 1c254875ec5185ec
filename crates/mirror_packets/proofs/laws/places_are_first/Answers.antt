use Rattle.mirror_packets.proofs.Files.{bytes_of}
use Rattle.mirror_packets.proofs.Places.{first_bad}
use Rattle.mirror_packets.proofs.laws.places_are_first.Goals as goal

pub returns : goal.returns
returns c bytes place all h = first_bad bytes place (bytes_of bytes all) h
