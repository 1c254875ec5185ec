-- A good body's spelling is read as it, and what is read was spelled so.
use Rattle.std.proofs.Common.{◌≡◌, ℕ, ◌+◌, ◌≤◌, ◌^◌, Bool, true, false, ◌&&◌, cond, List, ◌++◌, length, drop, Option, Some, None, refl, ap, subst, ◌∙◌, arith, length-drop}
use Rattle.std.specs.Prelude.{nat_le, ◌==◌}
use Rattle.std.proofs.lemmas.Bool.{leb-true}
use Rattle.std.proofs.lemmas.Bool.Decides.{nat_tests}
use Rattle.voice_units.proofs.PiecesOfRopes.{both}
use Rattle.disk_areas.specs.Numbers.{spelled_number, number_at, number_bytes}
use Rattle.voice_model.specs.Spelling.{spelling, is_id, change_in}
use Rattle.voice_model.specs.declared.changes.Change.{Change}
use Rattle.voice_model.specs.declared.changes.Change.TheVariants as changes
use Rattle.voice_model.proofs.ReadAgain.{read_number, spelled_is_read, read_is_spelled}
use Rattle.change_codec.proofs.Numbers.{AreBytes, number_front}
use Rattle.mirror_packets.specs.Packets.{Body, body_spelling, IsGoodBody, is_followed, voice_in, brought, body_in}

-- a number in its range is read from its bytes
pub id_number : (n : ℕ) → is_id n ≡ true → spelled_number (number_bytes 8 n) ≡ n
id_number n h = let most = leb-true n (2 ^ 48) (both (nat_le 1 n) (nat_le n (2 ^ 48)) h).1 in read_number 8 n (omega (arith, most))

three : (a b c d : Bool) → a ≡ true → b ≡ true → c ≡ true → (a && b && c) ≡ true
three a b c d ha hb hc = ap (λ x. x && b && c) ha ∙ ap (λ x. x && c) hb ∙ hc

leb : (m n : ℕ) → m ≤ n → nat_le m n ≡ true
leb m n h = grind (arith, nat_tests)

-- ---- a voice file

voice_again : (id : ℕ) (samples : List ℕ) → is_id id ≡ true → length samples ≤ 2 ^ 30 → voice_in (body_spelling (Body.Voice id samples)) ≡ Some (Body.Voice id samples)
unfolding voice_in
voice_again id samples h few =
    let bytes = body_spelling (Body.Voice id samples) in
    let same : number_at 8 1 bytes ≡ id = id_number id h in
    let tests = three (nat_le 9 (length bytes)) (is_id (number_at 8 1 bytes)) (nat_le (length bytes) (9 + 2 ^ 30)) true (leb 9 (length bytes) (omega arith)) (ap is_id same ∙ h) (leb (length bytes) (9 + 2 ^ 30) (omega (arith, few))) in
    ap (λ b. cond b (Some (Body.Voice (number_at 8 1 bytes) samples)) None) tests ∙ ap (λ n. Some (Body.Voice n samples)) same

-- what a body's bytes are
pub record IsSpelledBody (bytes : List ℕ) (b : Body) : Type 0 where
  pub bytes_of : bytes ≡ body_spelling b
  pub good : IsGoodBody b

voice_spelled : (bytes : List ℕ) (b : Body) → AreBytes bytes → number_at 1 0 bytes ≡ 32 → voice_in bytes ≡ Some b → IsSpelledBody bytes b
unfolding voice_in
voice_spelled bytes b bs first h = by (nat_le 9 (length bytes) && is_id (number_at 8 1 bytes) && nat_le (length bytes) (9 + 2 ^ 30)) refl h
  where
    some_same : (x y : Body) → Some x ≡ Some y → x ≡ y
    some_same x y e = cc

    by : (t : Bool) → (nat_le 9 (length bytes) && is_id (number_at 8 1 bytes) && nat_le (length bytes) (9 + 2 ^ 30)) ≡ t → cond t (Some (Body.Voice (number_at 8 1 bytes) (drop 9 bytes))) None ≡ Some b → IsSpelledBody bytes b
    by false e k = cc
    by true e k =
        let g = both (nat_le 9 (length bytes) && is_id (number_at 8 1 bytes)) (nat_le (length bytes) (9 + 2 ^ 30)) e in
        let f = both (nat_le 9 (length bytes)) (is_id (number_at 8 1 bytes)) g.0 in
        let least = leb-true 9 (length bytes) f.0 in
        let most = leb-true (length bytes) (9 + 2 ^ 30) g.1 in
        let kind : bytes ≡ number_bytes 1 32 ++ drop 1 bytes = number_front 0 1 bytes bs (omega (arith, least)) ∙ ap (λ n. number_bytes 1 n ++ drop 1 bytes) first in
        let id = number_front 1 8 bytes bs (omega (arith, least)) in
        let size = length-drop 9 bytes in
        subst (IsSpelledBody bytes) (some_same (Body.Voice (number_at 8 1 bytes) (drop 9 bytes)) b k)
        (record {
          bytes_of = kind ∙ ap (λ (l : List ℕ). number_bytes 1 32 ++ l) id;
          good = (f.1, omega (arith, size, most));
        })

-- ---- a change

followed_again : (o : Option Change) (c : Change) → o ≡ Some c → is_followed c ≡ true → brought o ≡ Some (Body.Other c)
followed_again o c e f = ap brought e ∙ ap (λ t. cond t (Some (Body.Other c)) None) f

-- the first byte of a change is its kind
change_kind : (c : Change) → is_followed c ≡ true → (number_at 1 0 (spelling c) == 32) ≡ false
change_kind (changes.Recorded id len addresses) f = cc
change_kind (changes.Edited id pieces) f = refl
change_kind (changes.Retained class key id note) f = refl
change_kind (changes.Forgotten class key) f = refl
change_kind (changes.Census keys) f = refl
change_kind (changes.Swept ids) f = refl
change_kind (changes.Advanced moment) f = refl
change_kind (changes.Base now next) f = cc
change_kind (changes.File file pairs) f = cc
change_kind (changes.Rope id idle pieces) f = cc
change_kind (changes.Wide id len addresses) f = cc
change_kind (changes.Base2 now next) f = cc
change_kind (changes.File2 file pairs) f = cc
change_kind (changes.Rope2 id idle last pieces) f = cc

brought_spelled : (bytes : List ℕ) (o : Option Change) (b : Body) → change_in bytes ≡ o → brought o ≡ Some b → IsSpelledBody bytes b
brought_spelled bytes None b e h = cc
brought_spelled bytes (Some c) b e h = by (is_followed c) refl h
  where
    some_same : (x y : Body) → Some x ≡ Some y → x ≡ y
    some_same x y k = cc

    by : (t : Bool) → is_followed c ≡ t → cond t (Some (Body.Other c)) None ≡ Some b → IsSpelledBody bytes b
    by false f k = cc
    by true f k =
        let s = read_is_spelled bytes c e in
        subst (IsSpelledBody bytes) (some_same (Body.Other c) b k) (record { bytes_of = s.bytes_of; good = (f, s.grammar) })

-- ---- any body

pub body_again : (b : Body) → IsGoodBody b → body_in (body_spelling b) ≡ Some b
unfolding body_in
body_again (Body.Voice id samples) h = voice_again id samples h.0 h.1
body_again (Body.Other c) h =
    ap (λ t. cond t (voice_in (spelling c)) (brought (change_in (spelling c)))) (change_kind c h.0)
    ∙ followed_again (change_in (spelling c)) c (spelled_is_read c h.1) h.0

pub body_spelled : (bytes : List ℕ) (b : Body) → AreBytes bytes → body_in bytes ≡ Some b → IsSpelledBody bytes b
unfolding body_in
body_spelled bytes b bs h = by (number_at 1 0 bytes == 32) refl h
  where
    is_32 : (n : ℕ) → (n == 32) ≡ true → n ≡ 32
    is_32 n e = grind (arith, nat_tests)

    by : (t : Bool) → (number_at 1 0 bytes == 32) ≡ t → cond t (voice_in bytes) (brought (change_in bytes)) ≡ Some b → IsSpelledBody bytes b
    by true e k = voice_spelled bytes b bs (is_32 (number_at 1 0 bytes) e) k
    by false e k = brought_spelled bytes (change_in bytes) b refl k
