-- The first four stretches of a passage's rest, one after another.
use Rattle.std.proofs.Common.{◌≡◌, ℕ, suc, ◌+◌, ◌-◌, ◌<◌, ◌≤◌, min, List, [], ◌∷◌, ◌++◌, drop, take, sym, ◌∙◌, ap, arith, append_assoc}
use Rattle.std.proofs.lemmas.List.{drop_min, append-nil}
use Rattle.voice_units.specs.declared.pieces.Piece.{Piece}
use Rattle.voice_units.specs.Spots.{spots_of, samples_in, stretches}
use Rattle.rope_algebra.specs.Kept.{IsFirstStretch}
use Rattle.rope_algebra.proofs.Parts.{length-spots_of, take-nil}
use Rattle.rope_algebra.proofs.Firsts.{no_first}

-- so far k stretches came, which reach to the sample `at`
pub record IsWindowing (block : ℕ) (ps : List Piece) (heard k at : ℕ) (now : List Piece) : Type 0 where
  pub within : at ≤ samples_in ps
  pub same : now ++ take (4 - k) (stretches block (drop at (spots_of ps))) ≡ take 4 (stretches block (drop heard (spots_of ps)))

pub windowing_none : (block : ℕ) (ps : List Piece) (heard at : ℕ) → at ≡ min heard (samples_in ps) → IsWindowing block ps heard 0 at []
windowing_none block ps heard at is = record {
  within = omega (arith, is);
  same = ap (λ l. take 4 (stretches block l)) (ap (λ n. drop n (spots_of ps)) (is ∙ ap (min heard) (sym (length-spots_of ps))) ∙ drop_min heard (spots_of ps));
}

pub windowing_more : (block : ℕ) (ps : List Piece) (heard k at : ℕ) (now now' : List Piece) (s : Piece) → k < 4 → IsFirstStretch block at ps s → now' ≡ now ++ s ∷ [] → IsWindowing block ps heard k at now → IsWindowing block ps heard (k + 1) (at + s.len) now'
windowing_more block ps heard k at now now' s more first next h =
    let rest = stretches block (drop (at + s.len) (spots_of ps)) in
    let split : take (4 - k) (stretches block (drop at (spots_of ps))) ≡ s ∷ take (4 - (k + 1)) rest =
    ap (take (4 - k)) first.rest ∙ ap (λ n. take n (s ∷ rest)) (let e : 4 - k ≡ suc (4 - (k + 1)) = omega arith in e) in
    record {
      within = first.within;
      same = ap (λ l. l ++ take (4 - (k + 1)) rest) next ∙ append_assoc now (s ∷ []) (take (4 - (k + 1)) rest) ∙ ap (λ l. now ++ l) (sym split) ∙ h.same;
    }

-- there are no more where all was heard
pub windowing_ends : (block : ℕ) (ps : List Piece) (heard k at : ℕ) (now : List Piece) → at ≡ samples_in ps → IsWindowing block ps heard k at now → now ≡ take 4 (stretches block (drop heard (spots_of ps)))
windowing_ends block ps heard k at now end h =
    sym (append-nil now) ∙ ap (λ l. now ++ l) (sym (ap (take (4 - k)) (no_first block at ps end) ∙ take-nil {A = Piece} (4 - k))) ∙ h.same
