-- The first stretch behind a place.
use Rattle.std.proofs.Common.{◌≡◌, ℕ, suc, ◌+◌, ◌-◌, ◌%◌, ◌<◌, ◌≤◌, ◌^◌, min, List, [], ◌∷◌, ◌++◌, length, drop, take, refl, sym, ◌∙◌, ap, ap₂, arith}
use Rattle.std.proofs.lemmas.List.{take-append-le, drop-append-le, drop-drop, length-drop, drop_all}
use Rattle.std.proofs.Math.Nat.{mod-lt}
use Rattle.voice_units.specs.declared.pieces.Piece.{Piece}
use Rattle.voice_units.specs.Spots.{spots_from, spots_in, spots_of, samples_in, slice, IsNormal, stretches}
use Rattle.voice_units.proofs.PiecesOfRopes.{length-spots_from}
use Rattle.rope_algebra.specs.Kept.{IsFirstStretch}
use Rattle.rope_algebra.proofs.Parts.{length-spots_of, same_run, slice-run}
use Rattle.rope_algebra.proofs.Blocks.{first_stretch}
use Rattle.rope_algebra.proofs.Stretched.{stretches_of_rest}

-- a piece without its first samples
abbrev shorter : Piece → ℕ → Piece
shorter p skip = record { file = p.file; from = p.from + min skip p.len; len = min (p.len - skip) p.len }

shorter_spots : (p : Piece) (skip : ℕ) → spots_in (shorter p skip) ≡ slice (spots_in p) skip p.len
shorter_spots p skip = sym (slice-run p.file p.from p.len skip p.len ∙ same_run p.file _ _ _ _ refl (let e : min (p.len - min skip p.len) p.len ≡ min (p.len - skip) p.len = omega arith in e))

-- the stretches behind a place in the first piece
in_two : (block : ℕ) (p : Piece) (rest : List Piece) (skip : ℕ) → IsNormal (p ∷ rest) → skip ≤ p.len → stretches block (drop skip (spots_in p ++ spots_of rest)) ≡ stretches block (spots_from p.file (p.from + skip) (p.len - skip)) ++ stretches block (spots_of rest)
in_two block p rest skip normal within =
    stretches_of_rest block p (shorter p skip) rest skip normal refl refl refl (shorter_spots p skip)
    ∙ ap₂ (λ run n. stretches block run ++ stretches block (drop n (spots_of rest)))
    (same_run p.file _ _ _ _ (let e : p.from + min skip p.len ≡ p.from + skip = omega arith in e) (let e : min (p.len - skip) p.len ≡ p.len - skip = omega arith in e))
    (let e : skip - p.len ≡ 0 = omega arith in e)

-- the first of them
first_of_piece : (block : ℕ) (p : Piece) (rest : List Piece) (skip len : ℕ) → IsNormal (p ∷ rest) → 0 < block → skip < p.len → len ≡ min (block - (p.from + skip) % block) (p.len - skip) → stretches block (drop skip (spots_in p ++ spots_of rest)) ≡ record { file = p.file; from = p.from + skip; len = len } ∷ stretches block (drop (skip + len) (spots_in p ++ spots_of rest))
first_of_piece block p rest skip len normal some more is =
    let n = p.len - skip - 1 in
    let all : p.len - skip ≡ suc n = omega arith in
    let first : Piece = record { file = p.file; from = p.from + skip; len = len } in
    in_two block p rest skip normal (omega arith)
    ∙ ap (λ k. stretches block (spots_from p.file (p.from + skip) k) ++ stretches block (spots_of rest)) all
    ∙ ap (λ l. l ++ stretches block (spots_of rest)) (first_stretch block p.file (p.from + skip) n len some (is ∙ ap (min (block - (p.from + skip) % block)) all))
    ∙ ap (λ run. first ∷ (stretches block run ++ stretches block (spots_of rest)))
    (same_run p.file _ _ _ _ (let e : p.from + skip + len ≡ p.from + (skip + len) = omega arith in e) (let e : suc n - len ≡ p.len - (skip + len) = omega arith in e))
    ∙ ap (λ l. first ∷ l) (sym (in_two block p rest (skip + len) normal (omega (arith, is))))

spots_of_first : (p : Piece) (rest : List Piece) (skip len : ℕ) → skip + len ≤ p.len → take len (drop skip (spots_in p ++ spots_of rest)) ≡ spots_from p.file (p.from + skip) len
spots_of_first p rest skip len within =
    let own = length-spots_from p.file p.from p.len in
    let left = length-drop skip (spots_in p) in
    ap (take len) (drop-append-le skip (spots_in p) (spots_of rest) (omega (arith, own)))
    ∙ take-append-le len (drop skip (spots_in p)) (spots_of rest) (omega (arith, own, left))
    ∙ slice-run p.file p.from p.len skip len
    ∙ same_run p.file _ _ _ _ (let e : p.from + min skip p.len ≡ p.from + skip = omega arith in e) (let e : min (p.len - min skip p.len) len ≡ len = omega arith in e)

-- the first stretch behind a place, told from the piece there
pub is_first : (block at : ℕ) (ps : List Piece) (p : Piece) (rest : List Piece) (skip : ℕ) (s : Piece) → IsNormal (p ∷ rest) → p.from + p.len ≤ 2 ^ 30 → 0 < block → at ≤ samples_in ps → skip < p.len → drop skip (spots_of (p ∷ rest)) ≡ drop at (spots_of ps) → s.file ≡ p.file → s.from ≡ p.from + skip → s.len ≡ min (block - (p.from + skip) % block) (p.len - skip) → IsFirstStretch block at ps s
is_first block at ps p rest skip s normal ends block_some low more same file from len =
    let here = spots_in p ++ spots_of rest in
    let r = mod-lt (p.from + skip) block_some in
    let s_is : record { file = p.file; from = p.from + skip; len = s.len } ≡ s = ap₂ (λ f g. record { file = f; from = g; len = s.len }) (sym file) (sym from) in
    let all = length-spots_of (p ∷ rest) in
    let left = length-drop skip here in
    let whole = length-spots_of ps in
    let behind = length-drop at (spots_of ps) in
    let equal = ap (λ l. length l) same in
    let further : drop (skip + s.len) here ≡ drop (at + s.len) (spots_of ps) = sym (drop-drop s.len skip here) ∙ ap (drop s.len) same ∙ drop-drop s.len at (spots_of ps) in
    record {
      some = omega (arith, r, len);
      within = omega (arith, all, left, whole, behind, equal, len);
      inside = let e = ap (λ f. f % block) from in omega (arith, r, len, e);
      ends = omega (arith, ends, from, len);
      spots = ap (take s.len) (sym same) ∙ spots_of_first p rest skip s.len (omega (arith, len)) ∙ ap₂ (λ f g. spots_from f g s.len) (sym file) (sym from);
      rest = ap (stretches block) (sym same) ∙ first_of_piece block p rest skip s.len normal block_some more len ∙ ap₂ (λ q l. q ∷ stretches block l) s_is further;
    }

-- where no sample is behind a place there is no stretch
pub no_first : (block at : ℕ) (ps : List Piece) → at ≡ samples_in ps → stretches block (drop at (spots_of ps)) ≡ []
no_first block at ps end = let all = length-spots_of ps in ap (stretches block) (drop_all at (spots_of ps) (omega (arith, all, end)))
