-- A good packet's spelling is read as it where bytes begin with it, and what is read was spelled so.
use Rattle.std.proofs.Common.{◌≡◌, ℕ, suc, ◌+◌, ◌≤◌, Bool, true, false, ◌&&◌, cond, List, ◌++◌, length, take, drop, Option, Some, None, refl, ap, sym, subst, ◌∙◌, arith, length-append}
use Rattle.std.specs.Prelude.{nat_le}
use Rattle.std.proofs.Math.Seq.{take-append_seam, drop-append_seam}
use Rattle.std.proofs.lemmas.Bool.{leb-true}
use Rattle.std.proofs.lemmas.Bool.Decides.{nat_tests}
use Rattle.voice_units.specs.Spots.{slice}
use Rattle.voice_units.proofs.PiecesOfRopes.{both}
use Rattle.disk_areas.specs.Numbers.{number_at, number_bytes}
use Rattle.voice_model.specs.Spelling.{is_id}
use Rattle.voice_model.proofs.ReadAgain.{read_number}
use Rattle.change_codec.proofs.Numbers.{AreBytes, bytes_take, bytes_drop, number_front, text_front, length_part}
use Rattle.mirror_packets.specs.Packets.{Body, Packet, body_spelling, IsGoodPacket, body_in, end_of, is_head, numbered, packet_in}
use Rattle.mirror_packets.proofs.Lengths.{body_length}
use Rattle.mirror_packets.proofs.Bodies.{id_number, body_again, body_spelled}

leb : (m n : ℕ) → m ≤ n → nat_le m n ≡ true
leb m n h = grind (arith, nat_tests)

three : (a b c : Bool) → a ≡ true → b ≡ true → c ≡ true → (a && b && c) ≡ true
three a b c ha hb hc = ap (λ x. x && b && c) ha ∙ ap (λ x. x && c) hb ∙ hc

-- ---- the head

-- what the head of bytes says, where it is one
pub record IsHeaded (bytes : List ℕ) : Type 0 where
  pub number : is_id (number_at 8 0 bytes) ≡ true
  pub least : 12 ≤ length bytes
  pub most : end_of bytes ≤ length bytes

pub headed : (bytes : List ℕ) → is_head bytes ≡ true → IsHeaded bytes
unfolding is_head
headed bytes h =
    let g = both (nat_le 12 (length bytes) && is_id (number_at 8 0 bytes)) (nat_le (end_of bytes) (length bytes)) h in
    let f = both (nat_le 12 (length bytes)) (is_id (number_at 8 0 bytes)) g.0 in
    record { number = f.1; least = leb-true 12 (length bytes) f.0; most = leb-true (end_of bytes) (length bytes) g.1 }

pub is_headed : (bytes : List ℕ) → IsHeaded bytes → is_head bytes ≡ true
unfolding is_head
is_headed bytes h =
    three (nat_le 12 (length bytes)) (is_id (number_at 8 0 bytes)) (nat_le (end_of bytes) (length bytes)) (leb 12 (length bytes) h.least) h.number (leb (end_of bytes) (length bytes) h.most)

-- ---- a packet in front of other bytes

abbrev pub in_front : Packet → List ℕ → List ℕ
in_front p rest = number_bytes 8 p.number ++ (number_bytes 4 (length (body_spelling p.body)) ++ (body_spelling p.body ++ rest))

-- what bytes say that begin with a good packet
pub record Begins (p : Packet) (rest : List ℕ) : Type 0 where
  pub packet : packet_in (in_front p rest) ≡ Some p
  pub behind : drop (end_of (in_front p rest)) (in_front p rest) ≡ rest
  pub least : 12 + length rest ≤ length (in_front p rest)

head_in_front : (p : Packet) (rest : List ℕ) → IsGoodPacket p → number_at 4 8 (in_front p rest) ≡ length (body_spelling p.body)
head_in_front p rest good = let most = body_length p.body good.body in read_number 4 (length (body_spelling p.body)) (omega (arith, most))

pub begins : (p : Packet) (rest : List ℕ) → IsGoodPacket p → Begins p rest
unfolding packet_in
begins p rest good =
    let bytes = in_front p rest in
    let body = body_spelling p.body in
    let size = head_in_front p rest good in
    let number : number_at 8 0 bytes ≡ p.number = id_number p.number good.number in
    let long = length-append body rest in
    let head = is_headed bytes (record { number = ap is_id number ∙ good.number; least = omega arith; most = omega (arith, size, long) }) in
    let part : slice bytes 12 (number_at 4 8 bytes) ≡ body = ap (λ n. take n (body ++ rest)) size ∙ take-append_seam body rest in
    record {
      packet =
          ap (λ t. cond t (numbered (number_at 8 0 bytes) (body_in (slice bytes 12 (number_at 4 8 bytes)))) None) head
          ∙ ap (λ l. numbered (number_at 8 0 bytes) (body_in l)) part
          ∙ ap (λ o. numbered (number_at 8 0 bytes) o) (body_again p.body good.body)
          ∙ ap (λ n. Some (record { number = n; body = p.body })) number;
      behind = ap (λ n. drop (12 + n) bytes) size ∙ behind_it;
      least = omega (arith, long);
    }
  where
    behind_it : drop (12 + length (body_spelling p.body)) (in_front p rest) ≡ rest
    behind_it =
        let n = length (body_spelling p.body) in
        let twelve : 12 + n ≡ suc (suc (suc (suc (suc (suc (suc (suc (suc (suc (suc (suc n))))))))))) = omega arith in
        ap (λ k. drop k (in_front p rest)) twelve ∙ drop-append_seam (body_spelling p.body) rest

-- ---- what is read

-- what bytes are that begin with a packet
pub record IsSpelledFront (bytes : List ℕ) (p : Packet) : Type 0 where
  pub bytes_of : bytes ≡ in_front p (drop (end_of bytes) bytes)
  pub good : IsGoodPacket p
  pub most : end_of bytes ≤ length bytes

front_is : (bytes : List ℕ) → AreBytes bytes → IsHeaded bytes → (b : Body) → slice bytes 12 (number_at 4 8 bytes) ≡ body_spelling b → bytes ≡ in_front (record { number = number_at 8 0 bytes; body = b }) (drop (end_of bytes) bytes)
front_is bytes bs h b e =
    let size : length (body_spelling b) ≡ number_at 4 8 bytes = ap length (sym e) ∙ length_part 12 (number_at 4 8 bytes) bytes h.most in
    let number = number_front 0 8 bytes bs (omega (arith, h.least)) in
    let count = number_front 8 4 bytes bs h.least in
    let rest = text_front 12 (number_at 4 8 bytes) bytes in
    number
    ∙ ap (λ (l : List ℕ). number_bytes 8 (number_at 8 0 bytes) ++ l)
    (count ∙ ap (λ n. number_bytes 4 n ++ drop 12 bytes) (sym size)
    ∙ ap (λ (l : List ℕ). number_bytes 4 (length (body_spelling b)) ++ l) (rest ∙ ap (λ (l : List ℕ). l ++ drop (end_of bytes) bytes) e))

pub packet_spelled : (bytes : List ℕ) (p : Packet) → AreBytes bytes → packet_in bytes ≡ Some p → IsSpelledFront bytes p
unfolding packet_in
packet_spelled bytes p bs h = by_head (is_head bytes) refl h
  where
    some_same : (x y : Packet) → Some x ≡ Some y → x ≡ y
    some_same x y k = cc

    by_body : IsHeaded bytes → (o : Option Body) → body_in (slice bytes 12 (number_at 4 8 bytes)) ≡ o → numbered (number_at 8 0 bytes) o ≡ Some p → IsSpelledFront bytes p
    by_body head None e k = cc
    by_body head (Some b) e k =
        let s = body_spelled (slice bytes 12 (number_at 4 8 bytes)) b (bytes_take (number_at 4 8 bytes) (drop 12 bytes) (bytes_drop 12 bytes bs)) e in
        subst (IsSpelledFront bytes) (some_same (record { number = number_at 8 0 bytes; body = b }) p k)
        (record {
          bytes_of = front_is bytes bs head b s.bytes_of;
          good = record { number = head.number; body = s.good };
          most = head.most;
        })

    by_head : (t : Bool) → is_head bytes ≡ t → cond t (numbered (number_at 8 0 bytes) (body_in (slice bytes 12 (number_at 4 8 bytes)))) None ≡ Some p → IsSpelledFront bytes p
    by_head false e k = cc
    by_head true e k = by_body (headed bytes e) (body_in (slice bytes 12 (number_at 4 8 bytes))) refl k

-- ---- what the program found

pub no_head : (bytes : List ℕ) → is_head bytes ≡ false → packet_in bytes ≡ None
unfolding packet_in
no_head bytes e = ap (λ t. cond t (numbered (number_at 8 0 bytes) (body_in (slice bytes 12 (number_at 4 8 bytes)))) None) e

pub packet_is : (bytes : List ℕ) (o : Option Body) → is_head bytes ≡ true → body_in (slice bytes 12 (number_at 4 8 bytes)) ≡ o → packet_in bytes ≡ numbered (number_at 8 0 bytes) o
unfolding packet_in
packet_is bytes o e b =
    ap (λ t. cond t (numbered (number_at 8 0 bytes) (body_in (slice bytes 12 (number_at 4 8 bytes)))) None) e
    ∙ ap (λ x. numbered (number_at 8 0 bytes) x) b
