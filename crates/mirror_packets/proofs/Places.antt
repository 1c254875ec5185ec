-- A bad place is where the first packet begins that is not good.
use Rattle.std.proofs.Common.{◌≡◌, ℕ, zero, suc, ◌+◌, ◌≤◌, List, [], ◌∷◌, ◌++◌, length, take, drop, Option, Some, None, refl, ap, sym, subst, ◌∙◌, arith, length-append, length-drop}
use Rattle.std.proofs.Math.Seq.{take-append-add, drop-append-add}
use Rattle.change_codec.proofs.Numbers.{AreBytes, bytes_drop}
use Rattle.mirror_packets.specs.Packets.{Packet, Reading, packet_spelling, IsGoodPacket, from_packet, packet_in, end_of, reading_from, reading_of}
use Rattle.mirror_packets.specs.Laws.{IsFirstBad}
use Rattle.mirror_packets.proofs.Heads.{begins, packet_spelled}
use Rattle.mirror_packets.proofs.Lists.{read_none, read_one}

-- a bad place of bytes that stand from a place on
record IsBadFrom (at : ℕ) (bytes : List ℕ) (place : ℕ) : Type 0 where
  behind : ℕ
  place_is : place ≡ at + behind
  first : IsFirstBad bytes behind

bad_same : (p q : ℕ) → Reading.Bad p ≡ Reading.Bad q → p ≡ q
bad_same p q e = cc

-- bytes that begin with no packet begin with no good one
none_good : (bytes : List ℕ) → packet_in bytes ≡ None → (p : Packet) (rest : List ℕ) → IsGoodPacket p → bytes ≡ packet_spelling p ++ rest → ⊥
none_good bytes none p rest good e = apart (packet_in bytes) p none (ap packet_in e ∙ (begins p rest good).packet)
  where
    apart : (o : Option Packet) (q : Packet) → o ≡ None → o ≡ Some q → ⊥
    apart o q h k = cc

bad_here : (at place : ℕ) (b : ℕ) (bytes : List ℕ) → packet_in (b ∷ bytes) ≡ None → place ≡ at → IsBadFrom at (b ∷ bytes) place
bad_here at place b bytes none e = record {
  behind = 0;
  place_is = omega (arith, e);
  first = record {
    within = omega arith;
    before = ([], record { bytes_of = refl; good = tt });
    none = none_good (b ∷ bytes) none;
  };
}

-- a good packet in front
bad_behind : (at place : ℕ) (bytes : List ℕ) (p : Packet) → AreBytes bytes → packet_in bytes ≡ Some p → IsBadFrom (at + end_of bytes) (drop (end_of bytes) bytes) place → IsBadFrom at bytes place
bad_behind at place bytes p bs e is =
    let front = packet_spelled bytes p bs e in
    let end = end_of bytes in
    let behind = drop end bytes in
    let k = is.behind in
    let spelled = packet_spelling p in
    let whole : bytes ≡ spelled ++ behind = front.bytes_of in
    let most = front.most in
    let left = length-drop end bytes in
    let size : end ≡ length spelled = let long = ap length whole ∙ length-append spelled behind in omega (arith, long, left, most) in
    let taken : take (end + k) bytes ≡ spelled ++ take k behind = ap (λ n. take (n + k) bytes) size ∙ ap (λ (l : List ℕ). take (length spelled + k) l) whole ∙ take-append-add spelled behind k in
    let dropped : drop (end + k) bytes ≡ drop k behind = ap (λ n. drop (n + k) bytes) size ∙ ap (λ (l : List ℕ). drop (length spelled + k) l) whole ∙ drop-append-add spelled behind k in
    let within = is.first.within in
    let before = is.first.before in
    record {
      behind = end + k;
      place_is = let same = is.place_is in omega (arith, same);
      first = record {
        within = omega (arith, within, left, most);
        before = (p ∷ before.0, record { bytes_of = taken ∙ ap (λ (l : List ℕ). spelled ++ l) before.1.bytes_of; good = (front.good, before.1.good) });
        none = λ q rest good same. is.first.none q rest good (sym dropped ∙ same);
      };
    }

bad_more : (at place : ℕ) (b : ℕ) (bytes : List ℕ) (o : Option Packet) (r : Reading) → AreBytes (b ∷ bytes) → packet_in (b ∷ bytes) ≡ o → (r ≡ Reading.Bad place → IsBadFrom (at + end_of (b ∷ bytes)) (drop (end_of (b ∷ bytes)) (b ∷ bytes)) place) → from_packet at o r ≡ Reading.Bad place → IsBadFrom at (b ∷ bytes) place
bad_more at place b bytes None r bs e later h = bad_here at place b bytes e (sym (bad_same at place h))
bad_more at place b bytes (Some p) (Reading.Packets ps) bs e later h = absurd (apart (p ∷ ps) h)
  where
    apart : (qs : List Packet) → Reading.Packets qs ≡ Reading.Bad place → ⊥
    apart qs k = cc
bad_more at place b bytes (Some p) (Reading.Bad other) bs e later h = bad_behind at place (b ∷ bytes) p bs e (later h)

bad_from : (most at place : ℕ) (bytes : List ℕ) → length bytes ≤ most → AreBytes bytes → reading_from most at bytes ≡ Reading.Bad place → IsBadFrom at bytes place
bad_from most at place [] few bs h = absurd (apart (sym (read_none most at) ∙ h))
  where
    apart : Reading.Packets [] ≡ Reading.Bad place → ⊥
    apart k = cc
bad_from zero at place (b ∷ bytes) few bs h = absurd (omega (arith, few))
bad_from (suc most) at place (b ∷ bytes) few bs h =
    let end = end_of (b ∷ bytes) in
    let behind = drop end (b ∷ bytes) in
    let left = length-drop end (b ∷ bytes) in
    bad_more at place b bytes (packet_in (b ∷ bytes)) (reading_from most (at + end) behind) bs refl
    (λ later. bad_from most (at + end) place behind (omega (arith, left, few)) (bytes_drop end (b ∷ bytes) bs) later)
    (sym (read_one most at b bytes) ∙ h)

pub first_bad : (bytes : List ℕ) (place : ℕ) → AreBytes bytes → reading_of bytes ≡ Reading.Bad place → IsFirstBad bytes place
first_bad bytes place bs h =
    let is = bad_from (length bytes) 0 place bytes (omega arith) bs h in
    let same : is.behind ≡ place = let e = is.place_is in omega (arith, e) in
    subst (IsFirstBad bytes) same is.first
