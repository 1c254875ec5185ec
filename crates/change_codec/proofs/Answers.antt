-- What an answer says of the bytes.
use Rattle.std.proofs.Common.{◌≡◌, ℕ, zero, suc, ◌<◌, ◌≤◌, true, List, [], ◌∷◌, get_or, Option, Some, None, Result, Ok, Err, refl, ap, ◌∙◌, arith, rules, Fits, w8}
use Rattle.std.specs.Prelude.{MatchResult, IfOk, IfErr, IsErr}
use Rattle.std.specs.List.{list_all}
use Rattle.std.proofs.lemmas.Bool.{ltb-true}
use Rattle.voice_units.proofs.PiecesOfRopes.{both}
use Rattle.disk_areas.specs.Numbers.{number_at}
use Rattle.voice_model.specs.Spelling.{at_kind, change_in, fits, Spells}
use Rattle.voice_model.specs.declared.changes.Change.{Change}
use Rattle.voice_model.proofs.ReadAgain.{spelled_is_read, read_is_spelled}
use Rattle.change_codec.specs.declared.errors.GetError.{GetError}
use Rattle.change_codec.specs.declared.errors.GetError.TheVariants.{NotAChange, NoMemory}
use Rattle.change_codec.specs.Refused.{number, place_at, places_by_kind, refused, IsPlace, IsRefusal}
use Rattle.change_codec.specs.Said.{said_by_kind}
use Rattle.change_codec.proofs.Numbers.{AreBytes}
use Rattle.change_codec.proofs.Places.{number_holds}
use Rattle.change_codec.proofs.Sound.{first_split}
use Rattle.change_codec.proofs.SoundKinds.{said_is_spelled}
use Rattle.change_codec.proofs.CompleteKinds.{spelled_is_taken, refused_is_none}

small : (b : ℕ) → Fits w8 b → b < 256
small b h = search rules

-- the items of a slice of bytes are bytes
pub bytes_from : (bytes : List ℕ) → ((i : ℕ) → Fits w8 (get_or bytes i 0)) → AreBytes bytes
bytes_from [] h = tt
bytes_from (b ∷ bytes) h = (small b (h 0), bytes_from bytes (λ i. h (suc i)))

bytes_of : (bytes : List ℕ) → list_all (fits 1) bytes ≡ true → AreBytes bytes
bytes_of [] h = tt
bytes_of (b ∷ bytes) h = let p = both (fits 1 b) (list_all (fits 1) bytes) h in (ltb-true b 256 p.0, bytes_of bytes p.1)

-- what is spelled is in the bytes
in_bytes : (bytes : List ℕ) (c : Change) → Spells bytes c → change_in bytes ≡ Some c
in_bytes bytes c s = ap change_in s.bytes_of ∙ spelled_is_read c s.grammar

none_and_some : (o : Option Change) (c : Change) → o ≡ Some c → o ≡ None → ⊥
none_and_some o c h k = cc

-- what the answer of a reading says
pub record IsAnswer (bytes : List ℕ) (r : Result Change GetError) : Type 0 where
  pub ok : IfOk r (λ c. Spells bytes c)
  pub refusal : IfErr r (λ e. IsRefusal bytes e)
  pub exact : change_in bytes ≡ None → IsErr r

pub answer : (bytes : List ℕ) (r : Result Change GetError) → AreBytes bytes → MatchResult r (λ _. refused bytes ≡ None) (λ e. IsPlace (refused bytes) e) → IfOk r (λ c. at_kind (said_by_kind bytes) (number_at 1 0 bytes) ≡ Some c) → IsAnswer bytes r
answer bytes (Ok c) h place value =
    let s = said_is_spelled bytes c h place value in
    record { ok = s; refusal = tt; exact = λ none. absurd (none_and_some (change_in bytes) c (in_bytes bytes c s) none) }
answer bytes (Err (NotAChange place)) h is value = record { ok = tt; refusal = (refused_is_none bytes place is, is); exact = λ none. refl }
answer bytes (Err NoMemory) h is value = record { ok = tt; refusal = tt; exact = λ none. refl }

-- each kind says something
says : (bytes : List ℕ) (kind : ℕ) → 1 ≤ kind → kind ≤ 14 → (c : Change) × (at_kind (said_by_kind bytes) kind ≡ Some c)
says bytes zero lo hi = absurd (omega arith)
says bytes (suc zero) lo hi = (_, refl)
says bytes (suc (suc zero)) lo hi = (_, refl)
says bytes (suc (suc (suc zero))) lo hi = (_, refl)
says bytes (suc (suc (suc (suc zero)))) lo hi = (_, refl)
says bytes (suc (suc (suc (suc (suc zero))))) lo hi = (_, refl)
says bytes (suc (suc (suc (suc (suc (suc zero)))))) lo hi = (_, refl)
says bytes (suc (suc (suc (suc (suc (suc (suc zero))))))) lo hi = (_, refl)
says bytes (suc (suc (suc (suc (suc (suc (suc (suc zero)))))))) lo hi = (_, refl)
says bytes (suc (suc (suc (suc (suc (suc (suc (suc (suc zero))))))))) lo hi = (_, refl)
says bytes (suc (suc (suc (suc (suc (suc (suc (suc (suc (suc zero)))))))))) lo hi = (_, refl)
says bytes (suc (suc (suc (suc (suc (suc (suc (suc (suc (suc (suc zero))))))))))) lo hi = (_, refl)
says bytes (suc (suc (suc (suc (suc (suc (suc (suc (suc (suc (suc (suc zero)))))))))))) lo hi = (_, refl)
says bytes (suc (suc (suc (suc (suc (suc (suc (suc (suc (suc (suc (suc (suc zero))))))))))))) lo hi = (_, refl)
says bytes (suc (suc (suc (suc (suc (suc (suc (suc (suc (suc (suc (suc (suc (suc zero)))))))))))))) lo hi = (_, refl)
says bytes (suc (suc (suc (suc (suc (suc (suc (suc (suc (suc (suc (suc (suc (suc (suc kind))))))))))))))) lo hi = absurd (omega arith)

pub is_taken : (bytes : List ℕ) (c : Change) → change_in bytes ≡ Some c → refused bytes ≡ None
is_taken bytes c e = spelled_is_taken bytes c (read_is_spelled bytes c e)

-- the kind of bytes in which nothing is refused
kind_says : (bytes : List ℕ) → refused bytes ≡ None → (c : Change) × (at_kind (said_by_kind bytes) (number_at 1 0 bytes) ≡ Some c)
unfolding refused
kind_says bytes none =
    let p = first_split (number 0 1 1 14 bytes) (place_at (places_by_kind bytes) (number_at 1 0 bytes) ∷ []) none in
    let r = number_holds 0 1 1 14 bytes p.0 in
    says bytes (number_at 1 0 bytes) r.least_is r.most_is

pub is_found : (bytes : List ℕ) → list_all (fits 1) bytes ≡ true → change_in bytes ≡ None → (place : ℕ) × (refused bytes ≡ Some place)
is_found bytes h none = by (refused bytes) refl
  where
    by : (o : Option ℕ) → refused bytes ≡ o → (place : ℕ) × (refused bytes ≡ Some place)
    by (Some place) e = (place, e)
    by None e =
        let s = kind_says bytes e in
        absurd (none_and_some (change_in bytes) s.0 (in_bytes bytes s.0 (said_is_spelled bytes s.0 (bytes_of bytes h) e s.1)) none)
