-- The blocks of a file in front of the others.
use Rattle.std.proofs.Common.{◌≡◌, ℕ, zero, suc, ◌≤◌, ◌==◌, Bool, true, false, cond, List, [], ◌∷◌, map, length, take, drop, Some, refl, sym, ◌∙◌, ap, arith}
use Rattle.std.proofs.lemmas.Bool.{eqb-true, eq-eqb}
use Rattle.std.specs.Prelude.{slice_get}
use Rattle.voice_model.specs.Base.{FileBlocks, block_in_front, by_file}
use Rattle.checkpoint.specs.declared.files.PlacedBlock.{PlacedBlock}
use Rattle.checkpoint.specs.Blocks.{place_of_block, pair_of_block, file_of, run_in}

-- a file's blocks behind one, and the files of the rest
abbrev cut_at : PlacedBlock → List PlacedBlock → ℕ → List FileBlocks
cut_at p ps n = file_of p.file (p ∷ take n ps) ∷ by_file (map place_of_block (drop n ps))

run_by : (p q : PlacedBlock) (qs : List PlacedBlock) (b : Bool) → (p.file == q.file) ≡ b → by_file (map place_of_block (q ∷ qs)) ≡ cut_at q qs (run_in q.file qs) → by_file (map place_of_block (p ∷ q ∷ qs)) ≡ cut_at p (q ∷ qs) (cond b (suc (run_in p.file qs)) zero)
run_by p q qs true e step =
    ap (block_in_front (place_of_block p)) step
    ∙ ap (λ b. cond b
    (record { file = q.file; pairs = pair_of_block p ∷ map pair_of_block (q ∷ take (run_in q.file qs) qs) } ∷ by_file (map place_of_block (drop (run_in q.file qs) qs)))
    (file_of p.file (p ∷ []) ∷ cut_at q qs (run_in q.file qs))) e
    ∙ ap (λ n. file_of n (p ∷ q ∷ take (run_in n qs) qs) ∷ by_file (map place_of_block (drop (run_in n qs) qs))) (sym (eqb-true p.file q.file e))
run_by p q qs false e step =
    ap (block_in_front (place_of_block p)) step
    ∙ ap (λ b. cond b
    (record { file = q.file; pairs = pair_of_block p ∷ map pair_of_block (q ∷ take (run_in q.file qs) qs) } ∷ by_file (map place_of_block (drop (run_in q.file qs) qs)))
    (file_of p.file (p ∷ []) ∷ cut_at q qs (run_in q.file qs))) e
    ∙ ap (λ l. file_of p.file (p ∷ []) ∷ l) (sym step)

run_behind : (p : PlacedBlock) (ps : List PlacedBlock) → by_file (map place_of_block (p ∷ ps)) ≡ cut_at p ps (run_in p.file ps)
run_behind p [] = refl
run_behind p (q ∷ qs) = run_by p q qs (p.file == q.file) refl (run_behind q qs)

-- the first block is one of its file
pub run_some : (p : PlacedBlock) (ps : List PlacedBlock) → run_in p.file (p ∷ ps) ≡ suc (run_in p.file ps)
run_some p ps = ap (λ b. cond b (suc (run_in p.file ps)) zero) (eq-eqb p.file p.file refl)

pub run_first : (p : PlacedBlock) (ps : List PlacedBlock) → by_file (map place_of_block (p ∷ ps)) ≡ file_of p.file (take (run_in p.file (p ∷ ps)) (p ∷ ps)) ∷ by_file (map place_of_block (drop (run_in p.file (p ∷ ps)) (p ∷ ps)))
run_first p ps = run_behind p ps ∙ sym (ap (λ n. file_of p.file (take n (p ∷ ps)) ∷ by_file (map place_of_block (drop n (p ∷ ps)))) (run_some p ps))

-- ---- counting them

pub run_within : (file : ℕ) (ps : List PlacedBlock) → run_in file ps ≤ length ps
run_within file [] = omega arith
run_within file (p ∷ ps) = by (file == p.file) (run_within file ps)
  where
    by : (b : Bool) → run_in file ps ≤ length ps → cond b (suc (run_in file ps)) zero ≤ suc (length ps)
    by true h = omega (arith, h)
    by false h = omega arith

-- the first file of some blocks, and the files of the rest
pub first_file : (rest : List PlacedBlock) (first : PlacedBlock) (n : ℕ) (run later : List PlacedBlock) → slice_get rest 0 ≡ Some first → n ≡ run_in first.file rest → run ≡ take n rest → later ≡ drop n rest → by_file (map place_of_block rest) ≡ file_of first.file run ∷ by_file (map place_of_block later)
first_file [] first n run later at count front back = cc
first_file (p ∷ ps) first n run later at count front back =
    let same : p ≡ first = cc in
    run_first p ps
    ∙ ap (λ (q : PlacedBlock). file_of q.file (take (run_in q.file (p ∷ ps)) (p ∷ ps)) ∷ by_file (map place_of_block (drop (run_in q.file (p ∷ ps)) (p ∷ ps)))) same
    ∙ sym (ap (λ m. file_of first.file (take m (p ∷ ps)) ∷ by_file (map place_of_block (drop m (p ∷ ps)))) count)
    ∙ sym (ap (λ l. file_of first.file l ∷ by_file (map place_of_block (drop n (p ∷ ps)))) front)
    ∙ sym (ap (λ l. file_of first.file run ∷ by_file (map place_of_block l)) back)
