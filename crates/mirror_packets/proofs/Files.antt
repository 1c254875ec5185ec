-- Whole files: the spelling of good packets is read as them, and what is read was spelled so.
use Rattle.std.proofs.Common.{◌≡◌, ℕ, zero, suc, ◌+◌, ◌≤◌, true, List, [], ◌∷◌, ◌++◌, length, drop, Option, Some, None, refl, ap, sym, subst, ◌∙◌, arith}
use Rattle.std.specs.List.{list_all}
use Rattle.std.proofs.lemmas.Bool.{ltb-true}
use Rattle.voice_units.proofs.PiecesOfRopes.{both}
use Rattle.voice_model.specs.Spelling.{fits}
use Rattle.change_codec.proofs.Numbers.{AreBytes, bytes_drop}
use Rattle.mirror_packets.specs.Packets.{Packet, Reading, packet_spelling, packets_spelling, AreGood, AreSpelled, with_packet, from_packet, packet_in, end_of, reading_from, reading_of}
use Rattle.mirror_packets.proofs.Heads.{in_front, begins, packet_spelled}
use Rattle.mirror_packets.proofs.Lists.{read_none, read_one, read_short}

-- a packet's spelling in front of other bytes
pub front_spelling : (p : Packet) (rest : List ℕ) → packet_spelling p ++ rest ≡ in_front p rest
front_spelling p rest = refl

-- ---- what is spelled is read

pub spelled_is_read : (ps : List Packet) (most at : ℕ) → length (packets_spelling ps) ≤ most → AreGood ps → reading_from most at (packets_spelling ps) ≡ Reading.Packets ps
spelled_is_read [] most at h good = read_none most at
spelled_is_read (p ∷ ps) zero at h good = absurd (omega (arith, h))
spelled_is_read (p ∷ ps) (suc most) at h good =
    let rest = packets_spelling ps in
    let b = begins p rest good.0 in
    let end = end_of (in_front p rest) in
    let least = b.least in
    ap (λ (l : List ℕ). reading_from (suc most) at l) (front_spelling p rest)
    ∙ read_one most at _ _
    ∙ ap (λ o. from_packet at o (reading_from most (at + end) (drop end (in_front p rest)))) b.packet
    ∙ ap (λ (l : List ℕ). with_packet p (reading_from most (at + end) l)) b.behind
    ∙ ap (λ r. with_packet p r) (spelled_is_read ps most (at + end) (omega (arith, h, least)) good.1)

pub file_is_read : (ps : List Packet) → AreGood ps → reading_of (packets_spelling ps) ≡ Reading.Packets ps
file_is_read ps good = spelled_is_read ps (length (packets_spelling ps)) 0 (omega arith) good

packets_same : (ps qs : List Packet) → Reading.Packets ps ≡ Reading.Packets qs → ps ≡ qs
packets_same ps qs e = cc

pub one_list : (ps qs : List Packet) → AreGood ps → AreGood qs → packets_spelling ps ≡ packets_spelling qs → ps ≡ qs
one_list ps qs g h e = packets_same ps qs (sym (file_is_read ps g) ∙ ap reading_of e ∙ file_is_read qs h)

-- ---- what is read was spelled

none_bad : (at : ℕ) (ps : List Packet) (bytes : List ℕ) → Reading.Bad at ≡ Reading.Packets ps → AreSpelled bytes ps
none_bad at ps bytes e = cc

none_spelled : (ps : List Packet) → Reading.Packets [] ≡ Reading.Packets ps → AreSpelled [] ps
none_spelled [] e = record { bytes_of = refl; good = tt }
none_spelled (p ∷ ps) e = cc

-- a packet, and what is spelled behind it
spelled_more : (bytes : List ℕ) (at : ℕ) (o : Option Packet) (r : Reading) (ps : List Packet) → AreBytes bytes → packet_in bytes ≡ o → ((qs : List Packet) → r ≡ Reading.Packets qs → AreSpelled (drop (end_of bytes) bytes) qs) → from_packet at o r ≡ Reading.Packets ps → AreSpelled bytes ps
spelled_more bytes at None r ps bs e later h = none_bad at ps bytes h
spelled_more bytes at (Some p) (Reading.Bad place) ps bs e later h = none_bad place ps bytes h
spelled_more bytes at (Some p) (Reading.Packets qs) ps bs e later h =
    let front = packet_spelled bytes p bs e in
    let rest = later qs refl in
    subst (AreSpelled bytes) (packets_same (p ∷ qs) ps h)
    (record {
      bytes_of = front.bytes_of ∙ ap (λ (l : List ℕ). in_front p l) rest.bytes_of;
      good = (front.good, rest.good);
    })

read_is_spelled : (most at : ℕ) (bytes : List ℕ) (ps : List Packet) → AreBytes bytes → reading_from most at bytes ≡ Reading.Packets ps → AreSpelled bytes ps
read_is_spelled most at [] ps bs h = none_spelled ps (sym (read_none most at) ∙ h)
read_is_spelled zero at (b ∷ bytes) ps bs h = none_bad at ps (b ∷ bytes) (sym (read_short at b bytes) ∙ h)
read_is_spelled (suc most) at (b ∷ bytes) ps bs h =
    let end = end_of (b ∷ bytes) in
    let behind = drop end (b ∷ bytes) in
    spelled_more (b ∷ bytes) at (packet_in (b ∷ bytes)) (reading_from most (at + end) behind) ps bs refl
    (λ qs e. read_is_spelled most (at + end) behind qs (bytes_drop end (b ∷ bytes) bs) e)
    (sym (read_one most at b bytes) ∙ h)

pub file_is_spelled : (bytes : List ℕ) (ps : List Packet) → AreBytes bytes → reading_of bytes ≡ Reading.Packets ps → AreSpelled bytes ps
file_is_spelled bytes ps bs h = read_is_spelled (length bytes) 0 bytes ps bs h

-- bytes with a bad place spell no good packets
pub bad_is_none : (bytes : List ℕ) (place : ℕ) (ps : List Packet) → reading_of bytes ≡ Reading.Bad place → AreSpelled bytes ps → ⊥
bad_is_none bytes place ps h s = apart (sym h ∙ ap reading_of s.bytes_of ∙ file_is_read ps s.good)
  where
    apart : Reading.Bad place ≡ Reading.Packets ps → ⊥
    apart e = cc

-- each is a byte
pub bytes_of : (bytes : List ℕ) → list_all (fits 1) bytes ≡ true → AreBytes bytes
bytes_of [] h = tt
bytes_of (b ∷ bytes) h = let p = both (fits 1 b) (list_all (fits 1) bytes) h in (ltb-true b 256 p.0, bytes_of bytes p.1)
