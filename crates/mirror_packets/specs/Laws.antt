-- The laws of packets, as statements.
--     PacketsReadBack      the spelling of good packets is read back as them
--     ReadingIsSpelled      bytes that are read are the spelling of what was read
--     PlacesAreFirst      a bad place is where the first packet begins that is not good
use Rattle.std.specs.Prelude.{◌≡◌, ℕ, ◌<◌, true, List, ◌++◌, length, take, drop}
use Rattle.std.specs.List.{list_all}
use Rattle.voice_model.specs.Spelling.{fits}
use Rattle.mirror_packets.specs.Packets.{Packet, Reading, reading_of, packet_spelling, packets_spelling, IsGoodPacket, AreGood, AreSpelled}

-- the spelling of good packets is read back as them, so that it determines them
pub record PacketsReadBack : Type 0 where
  pub read : (ps : List Packet) → AreGood ps → reading_of (packets_spelling ps) ≡ Reading.Packets ps
  pub same : (ps qs : List Packet) → AreGood ps → AreGood qs → packets_spelling ps ≡ packets_spelling qs → ps ≡ qs

-- bytes that are read are the spelling of what was read, which is good
pub record ReadingIsSpelled : Type 0 where
  pub spelled : (bytes : List ℕ) (ps : List Packet) → list_all (fits 1) bytes ≡ true → reading_of bytes ≡ Reading.Packets ps → AreSpelled bytes ps
  -- so bytes with a bad place spell no good packets
  pub none : (bytes : List ℕ) (place : ℕ) (ps : List Packet) → reading_of bytes ≡ Reading.Bad place → AreSpelled bytes ps → ⊥

-- good packets end at a place within the bytes, and no good packet begins there
pub record IsFirstBad (bytes : List ℕ) (place : ℕ) : Type 0 where
  pub within : place < length bytes
  pub before : (ps : List Packet) × AreSpelled (take place bytes) ps
  pub none : (p : Packet) (rest : List ℕ) → IsGoodPacket p → drop place bytes ≡ packet_spelling p ++ rest → ⊥

-- a bad place is where the first packet begins that is not good
abbrev pub PlacesAreFirst : Type 0
PlacesAreFirst = (bytes : List ℕ) (place : ℕ) → list_all (fits 1) bytes ≡ true → reading_of bytes ≡ Reading.Bad place → IsFirstBad bytes place
