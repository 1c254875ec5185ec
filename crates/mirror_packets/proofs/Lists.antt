-- Packets that are read one after another.
use Rattle.std.proofs.Common.{◌≡◌, ℕ, zero, suc, ◌+◌, ◌-◌, ◌≤◌, List, [], ◌∷◌, ◌++◌, length, drop, Some, None, refl, ap, sym, ◌∙◌, arith, length-drop}
use Rattle.mirror_packets.specs.Packets.{Packet, Reading, with_packet, from_packet, packet_in, end_of, reading_from, reading_of}

-- packets in front of what is read behind them
abbrev pub with_packets : List Packet → Reading → Reading
with_packets [] later = later
with_packets (p ∷ ps) later = with_packet p (with_packets ps later)

pub with_all : (ps : List Packet) → with_packets ps (Reading.Packets []) ≡ Reading.Packets ps
with_all [] = refl
with_all (p ∷ ps) = ap (λ r. with_packet p r) (with_all ps)

pub with_bad : (ps : List Packet) (place : ℕ) → with_packets ps (Reading.Bad place) ≡ Reading.Bad place
with_bad [] place = refl
with_bad (p ∷ ps) place = ap (λ r. with_packet p r) (with_bad ps place)

pub with_more : (ps : List Packet) (p : Packet) (later : Reading) → with_packets (ps ++ p ∷ []) later ≡ with_packets ps (with_packet p later)
with_more [] p later = refl
with_more (q ∷ ps) p later = ap (λ r. with_packet q r) (with_more ps p later)

-- ---- one step

pub read_none : (most at : ℕ) → reading_from most at [] ≡ Reading.Packets []
unfolding reading_from
read_none zero at = refl
read_none (suc most) at = refl

pub read_one : (most at : ℕ) (b : ℕ) (bytes : List ℕ) → reading_from (suc most) at (b ∷ bytes) ≡ from_packet at (packet_in (b ∷ bytes)) (reading_from most (at + end_of (b ∷ bytes)) (drop (end_of (b ∷ bytes)) (b ∷ bytes)))
unfolding reading_from
read_one most at b bytes = refl

pub read_short : (at b : ℕ) (bytes : List ℕ) → reading_from 0 at (b ∷ bytes) ≡ Reading.Bad at
unfolding reading_from
read_short at b bytes = refl

-- what is left behind a packet is shorter
shorter : (b : ℕ) (bytes : List ℕ) (most : ℕ) → length (b ∷ bytes) ≤ suc most → length (drop (end_of (b ∷ bytes)) (b ∷ bytes)) ≤ most
shorter b bytes most h = let size = length-drop (end_of (b ∷ bytes)) (b ∷ bytes) in omega (arith, size, h)

-- it does not matter how many packets there may be, once there may be enough
pub enough : (m n at : ℕ) (bytes : List ℕ) → length bytes ≤ m → length bytes ≤ n → reading_from m at bytes ≡ reading_from n at bytes
enough m n at [] hm hn = read_none m at ∙ sym (read_none n at)
enough zero n at (b ∷ bytes) hm hn = absurd (omega (arith, hm))
enough (suc m) zero at (b ∷ bytes) hm hn = absurd (omega (arith, hn))
enough (suc m) (suc n) at (b ∷ bytes) hm hn =
    let end = end_of (b ∷ bytes) in
    read_one m at b bytes
    ∙ ap (λ r. from_packet at (packet_in (b ∷ bytes)) r) (enough m n (at + end) (drop end (b ∷ bytes)) (shorter b bytes m hm) (shorter b bytes n hn))
    ∙ sym (read_one n at b bytes)

-- ---- the walk over a file

-- some packets were read, and these bytes are left
pub record IsRead (file : List ℕ) (ps : List Packet) (rest : List ℕ) : Type 0 where
  pub within : length rest ≤ length file
  pub reading : reading_of file ≡ with_packets ps (reading_from (length rest) (length file - length rest) rest)

pub read_nothing : (file : List ℕ) → IsRead file [] file
read_nothing file = let none : 0 ≡ length file - length file = omega arith in record { within = omega arith; reading = ap (λ n. reading_from (length file) n file) none }

-- one packet more
pub read_more : (file : List ℕ) (ps : List Packet) (rest : List ℕ) (p : Packet) → IsRead file ps rest → 1 ≤ length rest → packet_in rest ≡ Some p → end_of rest ≤ length rest → IsRead file (ps ++ p ∷ []) (drop (end_of rest) rest)
read_more file ps [] p is some packet most = absurd (omega (arith, some))
read_more file ps (b ∷ rest) p is some packet most =
    let end = end_of (b ∷ rest) in
    let at = length file - length (b ∷ rest) in
    let behind = drop end (b ∷ rest) in
    let size = length-drop end (b ∷ rest) in
    let within = is.within in
    let place : at + end ≡ length file - length behind = omega (arith, size, within, most) in
    let later =
    enough (length rest) (length behind) (at + end) behind (shorter b rest (length rest) (omega arith)) (omega arith)
    ∙ ap (λ n. reading_from (length behind) n behind) place in
    record {
      within = omega (arith, size, within);
      reading =
          is.reading
          ∙ ap (λ r. with_packets ps r)
          (read_one (length rest) at b rest ∙ ap (λ o. from_packet at o (reading_from (length rest) (at + end) behind)) packet ∙ ap (λ r. with_packet p r) later)
          ∙ sym (with_more ps p (reading_from (length behind) (length file - length behind) behind));
    }

-- no packet more
pub read_bad : (file : List ℕ) (ps : List Packet) (rest : List ℕ) → IsRead file ps rest → 1 ≤ length rest → packet_in rest ≡ None → reading_of file ≡ Reading.Bad (length file - length rest)
read_bad file ps [] is some none = absurd (omega (arith, some))
read_bad file ps (b ∷ rest) is some none =
    let at = length file - length (b ∷ rest) in
    is.reading
    ∙ ap (λ r. with_packets ps r)
    (read_one (length rest) at b rest ∙ ap (λ o. from_packet at o (reading_from (length rest) (at + end_of (b ∷ rest)) (drop (end_of (b ∷ rest)) (b ∷ rest)))) none)
    ∙ with_bad ps at

-- nothing is left
pub read_all : (file : List ℕ) (ps : List Packet) (rest : List ℕ) → IsRead file ps rest → length rest ≡ 0 → reading_of file ≡ Reading.Packets ps
read_all file ps [] is e = is.reading ∙ ap (λ r. with_packets ps r) (read_none 0 (length file - 0)) ∙ with_all ps
read_all file ps (b ∷ rest) is e = absurd (omega (arith, e))
