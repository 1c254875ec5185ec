-- What the values of the program show, and what its answers say of the bytes.
--     body_of, packet_of, packets_of      a body, a packet and packets, with the samples as a list
--     IsHead, IsFound, IsNoPacket      what is said of the packet with which bytes begin
--     IsBad bytes e      an error names the place of the first packet that is not good, except for want of memory
use Rattle.std.specs.Prelude.{◌≡◌, ℕ, ◌≤◌, true, false, List, map, length, Option, Some, None}
use Rattle.mirror_packets.specs.Packets as spec
use Rattle.mirror_packets.specs.declared.packets.Body.{Body}
use Rattle.mirror_packets.specs.declared.packets.Body.TheVariants.{Voice, Other}
use Rattle.mirror_packets.specs.declared.packets.Packet.{Packet}
use Rattle.mirror_packets.specs.declared.reading.Found.{Found}
use Rattle.mirror_packets.specs.declared.errors.PacketError.{PacketError}
use Rattle.mirror_packets.specs.declared.errors.PacketError.TheVariants.{BadPackets, NoMemory}

-- a body, with the samples as a list
abbrev pub body_of : Body → spec.Body
body_of (Voice id samples) = spec.Body.Voice id samples.now
body_of (Other change) = spec.Body.Other change

-- a packet
abbrev pub packet_of : Packet → spec.Packet
packet_of p = record { number = p.number; body = body_of p.body }

-- packets, one after another
abbrev pub packets_of : List Packet → List spec.Packet
packets_of ps = map packet_of ps

-- where the packet ends with which bytes begin, within them
pub record IsEnd (bytes : List ℕ) (end : ℕ) : Type 0 where
  pub head : spec.is_head bytes ≡ true
  pub value : end ≡ spec.end_of bytes
  pub least : 12 ≤ end
  pub most : end ≤ length bytes

-- it ends there, or the bytes begin with none
abbrev pub IsHead : List ℕ → Option ℕ → Type 0
IsHead bytes None = spec.is_head bytes ≡ false
IsHead bytes (Some end) = IsEnd bytes end

-- bytes begin with this packet, which ends there
pub record IsFound (bytes : List ℕ) (found : Found) : Type 0 where
  pub packet : spec.packet_in bytes ≡ Some (packet_of found.packet)
  pub end : IsEnd bytes found.end

-- bytes that stand from a place on begin with no packet
abbrev pub IsNoPacket : ℕ → List ℕ → PacketError → Type 0
IsNoPacket at bytes (BadPackets place) = (spec.packet_in bytes ≡ None) × (place ≡ at)
IsNoPacket at bytes NoMemory = Unit {0}

-- the place of the first packet that is not good, except for want of memory
abbrev pub IsBad : List ℕ → PacketError → Type 0
IsBad bytes (BadPackets place) = spec.reading_of bytes ≡ spec.Reading.Bad place
IsBad bytes NoMemory = Unit {0}
