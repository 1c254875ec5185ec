-- What the tests' own calls need.
use Rattle.std.proofs.Common.{◌≡◌, ℕ, ◌+◌, ◌≤◌, List, [], ◌∷◌, length, filter, Bool, true, ◌==◌, cond, Option, Some, None, refl, sym, ◌∙◌, ap, arith}
use Rattle.std.proofs.lemmas.Bool.{cond_both}
use Rattle.std.proofs.lemmas.List.{length-map}
use Rattle.std.specs.Prelude.{option_map}
use Rattle.voice_units.specs.declared.Piece.{Piece}
use Rattle.voice_units.specs.Spots.{spots_of, samples_in}
use Rattle.voice_units.specs.Blocks.{BlockPair, pair_at, pairs_at, has_pair, distinct}
use Rattle.rope_algebra.proofs.Parts.{length-spots_of}
use Rattle.rope_table.specs.declared.ropes.Rope.{Rope}
use Rattle.rope_table.specs.Table.{Table, IsTable, Counts, rope_of, pieces_at, pieces_in, uses_at, uses_in, uses_by, new_pairs}
use Rattle.rope_table.proofs.Wholes.{uses_split}

fewer_distinct : (ps : List BlockPair) → length (distinct ps) ≤ length ps
fewer_distinct [] = omega arith
fewer_distinct (p ∷ ps) = let i = fewer_distinct ps in cond_both (has_pair (distinct ps) p) (distinct ps) (p ∷ distinct ps) (λ l. length l ≤ length (p ∷ ps)) (λ e. omega (arith, i)) (λ e. omega (arith, i))

fewer_filtered : (f : BlockPair → Bool) (ps : List BlockPair) → length (filter f ps) ≤ length ps
fewer_filtered f [] = omega arith
fewer_filtered f (p ∷ ps) = let i = fewer_filtered f ps in cond_both (f p) (p ∷ filter f ps) (filter f ps) (λ l. length l ≤ length (p ∷ ps)) (λ e. omega (arith, i)) (λ e. omega (arith, i))

-- no more blocks than samples
pub few_new : (t : Table) (ps : List Piece) → new_pairs t ps ≤ samples_in ps
few_new t ps =
    let a = fewer_distinct (filter (λ q. uses_at t q == 0) (pairs_at t.block (spots_of ps))) in
    let b = fewer_filtered (λ q. uses_at t q == 0) (pairs_at t.block (spots_of ps)) in
    let c = length-map (spots_of ps) (pair_at t.block) in
    let d = length-spots_of ps in
    omega (arith, a, b, c, d)

pub same_counts : (old new : Table) (held : List (List Piece)) → new.ropes ≡ old.ropes → new.block ≡ old.block → ((q : BlockPair) → uses_at new q ≡ uses_at old q) → Counts old held → Counts new held
same_counts old new held ropes block uses h = λ q.
    uses q ∙ h q ∙ sym (ap (λ n. uses_in n (pieces_in new.ropes) q + uses_in n held q) block ∙ ap (λ l. uses_in old.block (pieces_in l) q + uses_in old.block held q) ropes)

used_by : (t : Table) (id : ℕ) (ps : List Piece) (o : Option Rope) (q : BlockPair) → IsTable t → rope_of t.ropes id ≡ o → Some ps ≡ option_map (λ (rope : Rope). rope.pieces) o → has_pair (pairs_at t.block (spots_of ps)) q ≡ true → 1 ≤ uses_at t q
used_by t id ps None q h found is has = cc
used_by t id ps (Some rope) q h found is has =
    let same : ps ≡ rope.pieces = cc in
    let parts = uses_split id t.ropes rope h.rising found t.block q in
    let one : uses_by t.block rope.pieces q ≡ 1 = ap (λ l. uses_by t.block l q) (sym same) ∙ ap (λ b. cond b 1 0) has in
    let all = h.covers q in
    omega (arith, parts, one, all)

pub used_by_rope : (t : Table) (id : ℕ) (ps : List Piece) (q : BlockPair) → IsTable t → Some ps ≡ pieces_at t.ropes id → has_pair (pairs_at t.block (spots_of ps)) q ≡ true → 1 ≤ uses_at t q
used_by_rope t id ps q h is has = used_by t id ps (rope_of t.ropes id) q h refl is has
