-- Packets as bytes: a number, a length, and a body of so many bytes.
--     body_spelling b, packet_spelling p, packets_spelling ps      the bytes of a body, of a packet, and of packets one after another
--     IsGoodBody b, IsGoodPacket p, AreGood ps      their fields lie in their ranges
--     body_in bytes, packet_in bytes      the body that bytes spell; the packet with which they begin; none where there is none
--     reading_of bytes      the packets that bytes spell, or the place at which the first one begins that is not good
--     AreSpelled bytes ps      the bytes spell these packets, which are good
use Rattle.std.specs.Prelude.{◌≡◌, ℕ, zero, suc, ◌+◌, ◌≤◌, ◌^◌, Bool, true, false, ◌&&◌, cond, ◌==◌, nat_le, List, [], ◌∷◌, ◌++◌, length, drop, flat_map, Option, Some, None}
use Rattle.voice_units.specs.Spots.{slice}
use Rattle.disk_areas.specs.Numbers.{number_at, number_bytes}
use Rattle.voice_model.specs.Valid.{Every}
use Rattle.voice_model.specs.Spelling.{spelling, keeps_grammar, is_id, change_in}
use Rattle.voice_model.specs.declared.changes.Change.{Change}
use Rattle.voice_model.specs.declared.changes.Change.TheVariants as changes

-- what a packet brings: a voice file and its samples, or a change
pub data Body : Type 0 where
  Voice : ℕ → List ℕ → Body
  Other : Change → Body

-- a body with its number
pub record Packet : Type 0 where
  pub number : ℕ
  pub body : Body

-- ---- the bytes of packets

-- the byte 32, the number of the file and its samples; or the journal's spelling
abbrev pub body_spelling : Body → List ℕ
body_spelling (Body.Voice id samples) = number_bytes 1 32 ++ number_bytes 8 id ++ samples
body_spelling (Body.Other change) = spelling change

-- the number, the length of the body, and the body
abbrev pub packet_spelling : Packet → List ℕ
packet_spelling p = number_bytes 8 p.number ++ number_bytes 4 (length (body_spelling p.body)) ++ body_spelling p.body

-- packets one after another, and nothing behind them
abbrev pub packets_spelling : List Packet → List ℕ
packets_spelling ps = flat_map packet_spelling ps

-- ---- the ranges of their fields

-- whether packets bring changes of this kind: 2 to 7
abbrev pub is_followed : Change → Bool
is_followed (changes.Recorded id len addresses) = false
is_followed (changes.Edited id pieces) = true
is_followed (changes.Retained class key id note) = true
is_followed (changes.Forgotten class key) = true
is_followed (changes.Census keys) = true
is_followed (changes.Swept ids) = true
is_followed (changes.Advanced moment) = true
is_followed (changes.Base now next) = false
is_followed (changes.File file pairs) = false
is_followed (changes.Rope id idle pieces) = false
is_followed (changes.Wide id len addresses) = false
is_followed (changes.Base2 now next) = false
is_followed (changes.File2 file pairs) = false
is_followed (changes.Rope2 id idle last pieces) = false

-- a file's number from 1 to 2^48 and at most 2^30 samples; or a change of a kind 2 to 7 that keeps the grammar
abbrev pub IsGoodBody : Body → Type 0
IsGoodBody (Body.Voice id samples) = (is_id id ≡ true) × (length samples ≤ 2 ^ 30)
IsGoodBody (Body.Other change) = (is_followed change ≡ true) × (keeps_grammar change ≡ true)

-- a number from 1 to 2^48, and a good body
pub record IsGoodPacket (p : Packet) : Type 0 where
  pub number : is_id p.number ≡ true
  pub body : IsGoodBody p.body

-- each is good
abbrev pub AreGood : List Packet → Type 0
AreGood ps = Every IsGoodPacket ps

-- the bytes spell these packets, which are good
pub record AreSpelled (bytes : List ℕ) (ps : List Packet) : Type 0 where
  pub bytes_of : bytes ≡ packets_spelling ps
  pub good : AreGood ps

-- ---- the packets that bytes spell

-- the voice file that a body brings
unfoldable pub voice_in : List ℕ → Option Body
voice_in bytes = cond (nat_le 9 (length bytes) && is_id (number_at 8 1 bytes) && nat_le (length bytes) (9 + 2 ^ 30)) (Some (Body.Voice (number_at 8 1 bytes) (drop 9 bytes))) None

-- a change of a kind that packets bring
abbrev pub brought : Option Change → Option Body
brought None = None
brought (Some change) = cond (is_followed change) (Some (Body.Other change)) None

-- the body that bytes spell
unfoldable pub body_in : List ℕ → Option Body
body_in bytes = cond (number_at 1 0 bytes == 32) (voice_in bytes) (brought (change_in bytes))

-- where the packet ends with which bytes begin
abbrev pub end_of : List ℕ → ℕ
end_of bytes = 12 + number_at 4 8 bytes

-- whether bytes begin with a number in its range and a length that they hold
unfoldable pub is_head : List ℕ → Bool
is_head bytes = nat_le 12 (length bytes) && is_id (number_at 8 0 bytes) && nat_le (end_of bytes) (length bytes)

-- a body with its number
abbrev pub numbered : ℕ → Option Body → Option Packet
numbered number None = None
numbered number (Some body) = Some (record { number = number; body = body })

-- the packet with which bytes begin
unfoldable pub packet_in : List ℕ → Option Packet
packet_in bytes = cond (is_head bytes) (numbered (number_at 8 0 bytes) (body_in (slice bytes 12 (number_at 4 8 bytes)))) None

-- packets, or the place at which the first one begins that is not good
pub data Reading : Type 0 where
  Packets : List Packet → Reading
  Bad : ℕ → Reading

-- one packet more in front
abbrev pub with_packet : Packet → Reading → Reading
with_packet p (Reading.Packets ps) = Reading.Packets (p ∷ ps)
with_packet p (Reading.Bad place) = Reading.Bad place

-- the packet at a place, and what is read behind it
abbrev pub from_packet : ℕ → Option Packet → Reading → Reading
from_packet at None later = Reading.Bad at
from_packet at (Some p) later = with_packet p later

-- the packets of bytes that stand from a place on; there are at most `most`
unfoldable pub reading_from : ℕ → ℕ → List ℕ → Reading
reading_from most at [] = Reading.Packets []
reading_from zero at (b ∷ bytes) = Reading.Bad at
reading_from (suc most) at (b ∷ bytes) = from_packet at (packet_in (b ∷ bytes)) (reading_from most (at + end_of (b ∷ bytes)) (drop (end_of (b ∷ bytes)) (b ∷ bytes)))

-- the packets of a file, none of which is empty
abbrev pub reading_of : List ℕ → Reading
reading_of bytes = reading_from (length bytes) 0 bytes
