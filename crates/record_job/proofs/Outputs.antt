-- What a recording gives out as it gets one input after another.
use Rattle.std.proofs.Common.{◌≡◌, ℕ, ◌+◌, ◌-◌, ◌%◌, ◌<◌, List, [], ◌∷◌, ◌++◌, length, take, drop, replicate, refl, sym, ◌∙◌, ap, arith, append_assoc, append-nil, mod-lt, mod-eq_of_lt}
use Rattle.std.specs.List.{concat}
use Rattle.std.proofs.lemmas.List.{length-append, length-replicate}
use Rattle.std.proofs.Math.Nat.{mod-add-mod}
use Rattle.record_job.specs.Recording.{Recording, added, whole_length, whole_blocks, rest_of, filled_up}
use Rattle.record_job.specs.Laws as laws
use Rattle.record_job.specs.Laws.{given_out, after_all, IsFilled}
use Rattle.record_job.proofs.Inputs.{given_and_kept, length-rest_of, rest_of-append, whole_blocks-append}

-- fewer bytes than a block have no whole block
none_whole : (block : ℕ) (bytes : List ℕ) → length bytes < block → whole_length block (length bytes) ≡ 0
none_whole block bytes few = let all = mod-eq_of_lt few in omega (arith, all)

few_left : (block : ℕ) (bytes : List ℕ) → 0 < block → length (rest_of block bytes) < block
few_left block bytes some = let own = length-rest_of block bytes some in let less = mod-lt (length bytes) some in omega (arith, own, less)

pub gives_whole : laws.GivesWhole
gives_whole r [] few =
    let none = none_whole r.block (r.rest ++ []) (let same = ap length (append-nil r.rest) in omega (arith, same, few)) in
    (ap (λ n. take n (r.rest ++ [])) (sym none), sym (append-nil r.rest) ∙ ap (λ n. drop n (r.rest ++ [])) (sym none))
gives_whole r (bytes ∷ inputs) few =
    let some : 0 < r.block = omega (arith, few) in
    let later = gives_whole (added r bytes) inputs (few_left r.block (r.rest ++ bytes) some) in
    let joined = append_assoc r.rest bytes (concat inputs) in (
      ap (λ l. whole_blocks r.block (r.rest ++ bytes) ++ l) later.0 ∙ whole_blocks-append r.block (r.rest ++ bytes) (concat inputs) ∙ ap (whole_blocks r.block) joined,
      later.1 ∙ rest_of-append r.block (r.rest ++ bytes) (concat inputs) ∙ ap (rest_of r.block) joined,
    )

pub gives_all : laws.GivesAll
gives_all r [] = sym (append-nil r.rest)
gives_all r (bytes ∷ inputs) =
    append_assoc (whole_blocks r.block (r.rest ++ bytes)) (given_out (added r bytes) inputs) (after_all (added r bytes) inputs).rest
    ∙ ap (λ l. whole_blocks r.block (r.rest ++ bytes) ++ l) (gives_all (added r bytes) inputs)
    ∙ sym (append_assoc (whole_blocks r.block (r.rest ++ bytes)) (rest_of r.block (r.rest ++ bytes)) (concat inputs))
    ∙ ap (λ l. l ++ concat inputs) (given_and_kept r.block (r.rest ++ bytes))
    ∙ append_assoc r.rest bytes (concat inputs)

-- ---- the last block

-- a rest, filled up, is the rest and zero bytes up to a whole block
pub record IsEnded (block : ℕ) (rest : List ℕ) : Type 0 where
  pub zeros : ℕ
  pub few : zeros < block
  pub are : filled_up block rest ≡ rest ++ replicate zeros 0
  pub whole : (length rest + zeros) % block ≡ 0

ended : (block : ℕ) (rest : List ℕ) → length rest < block → IsEnded block rest
ended block [] few = record { zeros = 0; few = omega (arith, few); are = refl; whole = mod-eq_of_lt (let some : 0 < block = omega (arith, few) in some) }
ended block (b ∷ rest) few = record {
  zeros = block - length (b ∷ rest);
  few = omega (arith, few);
  are = refl;
  whole = ap (λ n. n % block) (let full : length (b ∷ rest) + (block - length (b ∷ rest)) ≡ block = omega (arith, few) in full) ∙ mod-self block;
}
  where
    mod-self : (n : ℕ) → n % n ≡ 0
    mod-self n = grind arith

module _ (r : Recording) (inputs : List (List ℕ)) (few : length r.rest < r.block) where
  abbrev all_bytes : List ℕ
  all_bytes = r.rest ++ concat inputs

  abbrev rest : List ℕ
  rest = (after_all r inputs).rest

  some : 0 < r.block
  some = omega (arith, few)

  is_rest : rest ≡ rest_of r.block all_bytes
  is_rest = (gives_whole r inputs few).1

  behind : length all_bytes % r.block ≡ length rest
  behind = sym (ap length is_rest ∙ length-rest_of r.block all_bytes some)

  last : IsEnded r.block rest
  last = ended r.block rest (let less = few_left r.block all_bytes some in let same = ap length is_rest in omega (arith, less, same))

  are : given_out r inputs ++ filled_up r.block rest ≡ all_bytes ++ replicate last.zeros 0
  are = ap (λ l. given_out r inputs ++ l) last.are ∙ sym (append_assoc (given_out r inputs) rest (replicate last.zeros 0)) ∙ ap (λ l. l ++ replicate last.zeros 0) (gives_all r inputs)

  filled : IsFilled r.block all_bytes (given_out r inputs ++ filled_up r.block rest)
  filled = record {
    zeros = last.zeros;
    few = last.few;
    are = are;
    whole = ap (λ l. length l % r.block) are ∙ ap (λ n. n % r.block) (length-append all_bytes (replicate last.zeros 0) ∙ ap (λ n. length all_bytes + n) (length-replicate last.zeros 0)) ∙ sym (mod-add-mod (length all_bytes) r.block last.zeros)
        ∙ ap (λ n. (n + last.zeros) % r.block) behind ∙ last.whole;
  }

pub fills_up : laws.FillsUp
fills_up r inputs few = filled r inputs few
