-- A front of a legal list of changes: what a mirror has that took it, and the packet that makes it longer.
use Rattle.std.proofs.Common.{◌≡◌, ℕ, zero, suc, ◌+◌, ◌≤◌, List, [], ◌∷◌, ◌++◌, length, take, drop, Some, refl, sym, ◌∙◌, ap, subst, arith, append_assoc}
use Rattle.std.proofs.lemmas.List.{take-append-le, take_all}
use Rattle.voice_model.specs.Samples.{Tagged}
use Rattle.voice_model.specs.State.{Durable, Effect}
use Rattle.voice_model.specs.Changes.{changed}
use Rattle.mirror_readings.specs.Readings.{Mirrored}
use Rattle.mirror_packets.specs.Packets.{Packet}
use Rattle.mirror_packets.specs.Effects.{body_of_effect}
use Rattle.mirror_laws.specs.Standing.{kept_after, mirrored_after}
use Rattle.mirror_effects.specs.Effects.{MayFollow}
use Rattle.mirror_effects.specs.Fronts.{effect_at, AreLegal, IsPacketOf, IsFront}

-- ---- lists

take_none : {A : Type 0} (n : ℕ) → take {A = A} n [] ≡ []
take_none zero = refl
take_none (suc n) = refl

take_beyond : {A : Type 0} (m n : ℕ) (xs : List A) → take (m + n) xs ≡ take m xs ++ take n (drop m xs)
take_beyond zero n xs = ap (λ (k : ℕ). take k xs) (omega arith)
take_beyond (suc m) n [] = take_none (suc m + n) ∙ sym (take_none n)
take_beyond {A} (suc m) n (x ∷ xs) =
    let next : suc m + n ≡ suc (m + n) = omega arith in
    ap (λ (k : ℕ). take k (x ∷ xs)) next ∙ ap (λ (l : List A). x ∷ l) (take_beyond m n xs)

at_drop : (n k : ℕ) (es : List (Effect Tagged)) → effect_at (drop n es) k ≡ effect_at es (n + k)
at_drop zero k es = ap (effect_at es) (omega arith)
at_drop (suc n) k [] = refl
at_drop (suc n) k (e ∷ es) = let next : suc (n + k) ≡ suc n + k = omega arith in at_drop n k es ∙ ap (effect_at (e ∷ es)) next

at_behind : (xs rest : List (Effect Tagged)) → effect_at (xs ++ rest) (length xs) ≡ effect_at rest 0
at_behind [] rest = refl
at_behind (x ∷ xs) rest = at_behind xs rest

at_first : (rest : List (Effect Tagged)) (e : Effect Tagged) → effect_at rest 0 ≡ Some e → (more : List (Effect Tagged)) × (rest ≡ e ∷ more)
at_first [] e h = cc
at_first (x ∷ rest) e h = let same : x ≡ e = cc in (rest, ap (λ y. y ∷ rest) same)

-- ---- what is kept

kept_append : (d : Durable Tagged) (es fs : List (Effect Tagged)) → kept_after d (es ++ fs) ≡ kept_after (kept_after d es) fs
kept_append d [] fs = refl
kept_append d (e ∷ es) fs = kept_append (changed 2 d e) es fs

legal_at : (d : Durable Tagged) (es : List (Effect Tagged)) (n : ℕ) (e : Effect Tagged) → AreLegal d es → effect_at es n ≡ Some e → MayFollow (kept_after d (take n es)) e
legal_at d [] n e legal h = cc
legal_at d (x ∷ es) zero e legal h = let same : x ≡ e = cc in subst (MayFollow d) same legal.0
legal_at d (x ∷ es) (suc n) e legal h = legal_at (changed 2 d x) es n e legal.1 h

abbrev mirrored : Durable Tagged → ℕ → Mirrored
mirrored d n = record { kept = d; position = n }

module _ (start : Durable Tagged) (effects : List (Effect Tagged)) (first : Durable Tagged) (from : ℕ) (xs : List (Effect Tagged)) where
  kept_front : (j : ℕ) → IsFront start effects first from xs → j ≤ length xs → kept_after first (take j xs) ≡ kept_after start (take (from + j) effects)
  kept_front j front le =
      let more : take (from + j) effects ≡ take from effects ++ take j xs =
      take_beyond from j effects ∙ ap (λ l. take from effects ++ take j l) front.is ∙ ap (λ l. take from effects ++ l) (take-append-le j xs front.rest le) in
      ap (λ d. kept_after d (take j xs)) front.had ∙ sym (kept_append start (take from effects) (take j xs)) ∙ ap (kept_after start) (sym more)

  pub same_after : (j : ℕ) → IsFront start effects first from xs → j ≤ length xs → mirrored_after first from xs j ≡ mirrored_after start 0 effects (from + j)
  same_after j front le = ap (λ d. mirrored d (from + j)) (kept_front j front le) ∙ ap (mirrored (kept_after start (take (from + j) effects))) (omega arith)

  pub same_kept : IsFront start effects first from xs → kept_after first xs ≡ kept_after start (take (from + length xs) effects)
  same_kept front = ap (kept_after first) (sym (take_all (length xs) xs (omega arith))) ∙ kept_front (length xs) front (omega arith)

  -- ---- fronts

  pub front_of : (ys : List (Effect Tagged)) → IsFront start effects first from (xs ++ ys) → IsFront start effects first from xs
  front_of ys front = record { within = front.within; had = front.had; rest = ys ++ front.rest; is = front.is ∙ append_assoc xs ys front.rest }

  longer : (e : Effect Tagged) (front : IsFront start effects first from xs) → effect_at front.rest 0 ≡ Some e → IsFront start effects first from (xs ++ e ∷ [])
  longer e front h =
      let more = at_first front.rest e h in
      record { within = front.within; had = front.had; rest = more.0; is = front.is ∙ ap (λ l. xs ++ l) more.1 ∙ sym (append_assoc xs (e ∷ []) more.0) }

  pub front_next : (p : Packet) → AreLegal start effects → IsFront start effects first from xs → IsPacketOf effects p → p.number ≡ from + length xs + 1
      → (e : Effect Tagged) × MayFollow (kept_after first xs) e × (p.body ≡ body_of_effect e) × IsFront start effects first from (xs ++ e ∷ [])
  front_next p legal front out number =
      let e = out.effect in
      let named : p.number ≡ out.index + 1 = ap (λ (q : Packet). q.number) out.is in
      let at : out.index ≡ from + length xs = omega (arith, number, named) in
      let there : effect_at effects (from + length xs) ≡ Some e = ap (effect_at effects) (sym at) ∙ out.at in
      let behind : effect_at front.rest 0 ≡ Some e = sym (at_behind xs front.rest) ∙ ap (λ l. effect_at l (length xs)) (sym front.is) ∙ at_drop from (length xs) effects ∙ there in
      (e, subst (λ d. MayFollow d e) (sym (same_kept front)) (legal_at start effects (from + length xs) e legal there), ap (λ (q : Packet). q.body) out.is, longer e front behind)

pub front_begin : (start : Durable Tagged) (effects : List (Effect Tagged)) → IsFront start effects start 0 []
front_begin start effects = record { within = omega arith; had = refl; rest = effects; is = refl }
