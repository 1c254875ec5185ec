-- What the program found of the packet with which bytes begin.
use Rattle.std.proofs.Common.{◌≡◌, ℕ, ◌+◌, ◌-◌, ◌≤◌, Bool, true, false, cond, List, [], ◌∷◌, ◌++◌, length, take, drop, Option, Some, None, refl, ap, sym, subst, ◌∙◌, arith}
use Rattle.disk_areas.specs.Numbers.{number_at}
use Rattle.voice_model.specs.Spelling.{change_in, Spells}
use Rattle.voice_model.specs.declared.changes.Change.{Change}
use Rattle.voice_model.proofs.ReadAgain.{spelled_is_read}
use Rattle.disk_areas.proofs.Digits.{rest_is}
use Rattle.mirror_packets.specs.Packets.{Body, Reading, is_followed, brought, numbered, body_in, packet_in, end_of, reading_of}
use Rattle.std.specs.Prelude.{option_map, ◌==◌}
use Rattle.std.proofs.lemmas.Bool.Decides.{nat_tests}
use Rattle.mirror_packets.specs.declared.errors.PacketError.{PacketError}
use Rattle.mirror_packets.specs.declared.errors.PacketError.TheVariants.{BadPackets, NoMemory}
use Rattle.mirror_packets.specs.declared.packets.Packet.{Packet}
use Rattle.mirror_packets.specs.declared.packets.Body as declared
use Rattle.mirror_packets.specs.Shown.{body_of, packet_of, packets_of, IsEnd, IsHead, IsNoPacket, IsBad}
use Rattle.mirror_packets.proofs.Heads.{packet_is, no_head}
use Rattle.mirror_packets.proofs.Lists.{IsRead, read_more, read_bad, read_all}

-- ---- a change

pub no_change : (bytes : List ℕ) → change_in bytes ≡ None → None ≡ brought (change_in bytes)
no_change bytes none = sym (ap brought none)

in_bytes : (bytes : List ℕ) (c : Change) → Spells bytes c → change_in bytes ≡ Some c
in_bytes bytes c s = ap change_in s.bytes_of ∙ spelled_is_read c s.grammar

brought_by : (bytes : List ℕ) (c : Change) (t : Bool) → Spells bytes c → is_followed c ≡ t → cond t (Some (Body.Other c)) None ≡ brought (change_in bytes)
brought_by bytes c t s f = sym (ap brought (in_bytes bytes c s) ∙ ap (λ b. cond b (Some (Body.Other c)) None) f)

pub other_change : (bytes : List ℕ) (c : Change) → Spells bytes c → is_followed c ≡ false → None ≡ brought (change_in bytes)
other_change bytes c s f = brought_by bytes c false s f

pub this_change : (bytes : List ℕ) (c : Change) → Spells bytes c → is_followed c ≡ true → Some (Body.Other c) ≡ brought (change_in bytes)
this_change bytes c s f = brought_by bytes c true s f

-- ---- a packet

-- the body stands between the head and the end
body_part : (bytes : List ℕ) (end : ℕ) → IsEnd bytes end → take (end - 12) (drop 12 bytes) ≡ take (number_at 4 8 bytes) (drop 12 bytes)
body_part bytes end is =
    let size : end - 12 ≡ number_at 4 8 bytes = ap (λ n. n - 12) is.value ∙ behind (number_at 4 8 bytes) in
    ap (λ n. take n (drop 12 bytes)) size
  where
    behind : (n : ℕ) → (12 + n) - 12 ≡ n
    behind n = omega arith

pub packet_by : (bytes : List ℕ) (end number : ℕ) (o : Option Body) → IsEnd bytes end → number ≡ number_at 8 0 bytes → o ≡ body_in (take (end - 12) (drop 12 bytes)) → packet_in bytes ≡ numbered number o
packet_by bytes end number o is same body =
    packet_is bytes o is.head (ap body_in (sym (body_part bytes end is)) ∙ sym body) ∙ ap (λ n. numbered n o) (sym same)

-- there is no head, no body, or both
pub no_end : (bytes : List ℕ) (found : Option ℕ) → IsHead bytes found → ((end : ℕ) → found ≡ Some end → ⊥) → packet_in bytes ≡ None
no_end bytes None head none = no_head bytes head
no_end bytes (Some end) head none = absurd (none end refl)

pub no_body : (bytes : List ℕ) (end : ℕ) (found : Option declared.Body) → IsEnd bytes end → option_map body_of found ≡ body_in (take (end - 12) (drop 12 bytes)) → ((b : declared.Body) → found ≡ Some b → ⊥) → packet_in bytes ≡ None
no_body bytes end None is body none = packet_by bytes end (number_at 8 0 bytes) None is refl body
no_body bytes end (Some b) is body none = absurd (none b refl)

pub packet_found : (bytes : List ℕ) (end number : ℕ) (found : Option declared.Body) (b : declared.Body) → IsEnd bytes end → number ≡ number_at 8 0 bytes → option_map body_of found ≡ body_in (take (end - 12) (drop 12 bytes)) → found ≡ Some b → packet_in bytes ≡ Some (record { number = number; body = body_of b })
packet_found bytes end number found b is same body e =
    packet_by bytes end number (option_map body_of found) is same body ∙ ap (λ o. numbered number (option_map body_of o)) e

map_more : (ps : List Packet) (p : Packet) → packets_of (ps ++ p ∷ []) ≡ packets_of ps ++ packet_of p ∷ []
map_more [] p = refl
map_more (q ∷ ps) p = ap (λ l. packet_of q ∷ l) (map_more ps p)

-- one packet more was read
pub pushed : (file rest behind : List ℕ) (ps qs : List Packet) (p : Packet) (end : ℕ) → IsRead file (packets_of ps) rest → packet_in rest ≡ Some (packet_of p) → IsEnd rest end → behind ≡ take (length rest - end) (drop end rest) → qs ≡ ps ++ p ∷ [] → IsRead file (packets_of qs) behind
pushed file rest behind ps qs p end is packet at left more =
    let least = at.least in
    let most = at.most in
    let some : 1 ≤ length rest = omega (arith, least, most) in
    let within : end_of rest ≤ length rest = subst (λ n. n ≤ length rest) at.value at.most in
    let next = read_more file (packets_of ps) rest (packet_of p) is some packet within in
    let same : behind ≡ drop (end_of rest) rest = left ∙ rest_is end rest ∙ ap (λ (n : ℕ). drop n rest) at.value in
    let all : packets_of qs ≡ packets_of ps ++ packet_of p ∷ [] = ap (λ l. packets_of l) more ∙ map_more ps p in
    subst (λ b. IsRead file (packets_of qs) b) (sym same) (subst (λ l. IsRead file l (drop (end_of rest) rest)) (sym all) next)

-- no packet stands where one has to
pub bad_at : (file rest : List ℕ) (ps : List Packet) (e : PacketError) → IsRead file (packets_of ps) rest → (length rest == 0) ≡ false → IsNoPacket (length file - length rest) rest e → IsBad file e
bad_at file rest ps (BadPackets place) is some h = read_bad file (packets_of ps) rest is (more rest some) h.0 ∙ ap (λ n. Reading.Bad n) (sym h.1)
  where
    more : (bytes : List ℕ) → (length bytes == 0) ≡ false → 1 ≤ length bytes
    more [] e = cc
    more (b ∷ bytes) e = omega arith
bad_at file rest ps NoMemory is some h = tt

-- nothing is left
pub all_read : (file rest : List ℕ) (ps : List Packet) → IsRead file (packets_of ps) rest → (length rest == 0) ≡ true → reading_of file ≡ Reading.Packets (packets_of ps)
all_read file rest ps is none = read_all file (packets_of ps) rest is (empty (length rest) none)
  where
    empty : (n : ℕ) → (n == 0) ≡ true → n ≡ 0
    empty n e = grind (arith, nat_tests)
