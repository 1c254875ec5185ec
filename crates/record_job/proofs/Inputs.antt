-- What is given out and the rest, one behind the other, are the bytes that were added.
use Rattle.std.proofs.Common.{◌≡◌, ℕ, zero, suc, ◌+◌, ◌-◌, ◌*◌, ◌/◌, ◌%◌, ◌^◌, ◌<◌, ◌≤◌, List, [], ◌++◌, length, take, drop, sym, ◌∙◌, ap, ap₂, arith, append_assoc, mul-suc, zero-add}
use Rattle.std.proofs.lemmas.List.{take-append-drop, length-append, length-drop, length-take-le}
use Rattle.std.proofs.Math.Seq.{take-append-add, drop-append-add}
use Rattle.std.proofs.Math.Nat.{mod-lt, mod-add-mod, mod-le, div-add-mod, mul-mod_right}
use Rattle.record_job.specs.Recording.{IsRecording, whole_length, whole_blocks, rest_of}

-- a front that is not shorter than the first list
pub take_both : (xs ys : List ℕ) (n : ℕ) → length xs ≤ n → xs ++ take (n - length xs) ys ≡ take n (xs ++ ys)
take_both xs ys n h = sym (take-append-add xs ys (n - length xs)) ∙ ap (λ k. take k (xs ++ ys)) (let e : length xs + (n - length xs) ≡ n = omega arith in e)

pub drop_both : (xs ys : List ℕ) (n : ℕ) → length xs ≤ n → drop (n - length xs) ys ≡ drop n (xs ++ ys)
drop_both xs ys n h = sym (drop-append-add xs ys (n - length xs)) ∙ ap (λ k. drop k (xs ++ ys)) (let e : length xs + (n - length xs) ≡ n = omega arith in e)

-- the length of what is behind the whole blocks
pub length-rest_of : (block : ℕ) (bytes : List ℕ) → 0 < block → length (rest_of block bytes) ≡ length bytes % block
length-rest_of block bytes some =
    let part = length-drop (whole_length block (length bytes)) bytes in
    let less = mod-le (length bytes) block in
    omega (arith, part, less)

pub still_recording : (block total : ℕ) (rest bytes new : List ℕ) (room room' : ℕ) → IsRecording block total rest room → total + length bytes ≤ 2 ^ 30 → new ≡ rest_of block (rest ++ bytes) → block ≤ room' → IsRecording block (total + length bytes) new room'
still_recording block total rest bytes new room room' h long is enough =
    let some : 0 < block = omega (arith, h.least) in
    let own = length-rest_of block (rest ++ bytes) some in
    let all : length new ≡ (total + length bytes) % block =
    ap length is ∙ own ∙ ap (λ n. n % block) (length-append rest bytes ∙ ap (λ n. n + length bytes) h.behind) ∙ mod-add-mod total block (length bytes) in
    let less = mod-lt (total + length bytes) some in
    record { least = h.least; most = h.most; words = h.words; few = omega (arith, all, less); behind = all; long = long; enough = enough }

-- where no block is complete, all bytes are kept
pub none_complete : (block : ℕ) (rest bytes : List ℕ) (n : ℕ) → n ≡ length rest + length bytes → n - n % block ≡ 0 → (rest ++ bytes ≡ rest_of block (rest ++ bytes)) × ([] ≡ whole_blocks block (rest ++ bytes))
none_complete block rest bytes n is none =
    let e : whole_length block (length (rest ++ bytes)) ≡ 0 = ap (whole_length block) (length-append rest bytes ∙ sym is) ∙ none in
    (ap (λ k. drop k (rest ++ bytes)) (sym e), ap (λ k. take k (rest ++ bytes)) (sym e))

-- where blocks are complete, they are the rest so far and a front of the bytes
pub some_complete : (block : ℕ) (rest bytes : List ℕ) (n whole : ℕ) → n ≡ length rest + length bytes → whole ≡ n - n % block → length rest ≤ whole → (rest ++ take (whole - length rest) bytes ≡ whole_blocks block (rest ++ bytes)) × (drop (whole - length rest) bytes ≡ rest_of block (rest ++ bytes))
some_complete block rest bytes n whole is at within =
    let e : whole ≡ whole_length block (length (rest ++ bytes)) = at ∙ ap (whole_length block) (is ∙ sym (length-append rest bytes)) in
    (take_both rest bytes whole within ∙ ap (λ k. take k (rest ++ bytes)) e, drop_both rest bytes whole within ∙ ap (λ k. drop k (rest ++ bytes)) e)

times : (b q m : ℕ) → b * q ≡ m → (m ≡ 0 → ⊥) → b ≤ m
times b zero m e some = absurd (some (let none : m ≡ 0 = omega (arith, e) in none))
times b (suc q) m e some = let one_more : b * suc q ≡ b * q + b = mul-suc b q in omega (arith, e, one_more)

-- where some block is complete, there is at least one
pub at_least_one : (block n : ℕ) → (n - n % block ≡ 0 → ⊥) → block ≤ n - n % block
at_least_one block n some = times block (n / block) (n - n % block) (let parts = div-add-mod n block in let less = mod-le n block in omega (arith, parts, less)) some

-- ---- for callers

-- what one call gives and keeps is what it had and got
pub given_and_kept : (block : ℕ) (bytes : List ℕ) → whole_blocks block bytes ++ rest_of block bytes ≡ bytes
given_and_kept block bytes = take-append-drop (whole_length block (length bytes)) bytes

block_more : (block w m : ℕ) → w % block ≡ 0 → w + m - (w + m) % block ≡ w + (m - m % block)
block_more block w m whole =
    let same : (w + m) % block ≡ m % block = sym (mod-add-mod w block m) ∙ ap (λ k. (k + m) % block) whole ∙ ap (λ k. k % block) (zero-add m) in
    let less = mod-le m block in
    omega (arith, same, less)

whole_is_whole : (block n : ℕ) → (n - n % block) % block ≡ 0
whole_is_whole block n =
    ap (λ k. k % block) (let parts = div-add-mod n block in let less = mod-le n block in let e : n - n % block ≡ block * (n / block) = omega (arith, parts, less) in e) ∙ mul-mod_right block (n / block)

-- the whole length of all bytes, where some of them were given out
both_lengths : (block : ℕ) (all bytes : List ℕ) → whole_length block (length (all ++ bytes)) ≡ whole_length block (length all) + whole_length block (length (rest_of block all ++ bytes))
both_lengths block all bytes =
    let w = whole_length block (length all) in
    let n = length all - w + length bytes in
    let less = mod-le (length all) block in
    ap (whole_length block) (length-append all bytes ∙ (let e : length all + length bytes ≡ w + n = omega (arith, less) in e))
    ∙ block_more block w n (whole_is_whole block (length all))
    ∙ ap (λ k. w + whole_length block k) (ap (λ k. k + length bytes) (sym (length-drop w all)) ∙ sym (length-append (rest_of block all) bytes))

parts_of_all : (block : ℕ) (all bytes : List ℕ) → whole_blocks block all ++ (rest_of block all ++ bytes) ≡ all ++ bytes
parts_of_all block all bytes = sym (append_assoc (whole_blocks block all) (rest_of block all) bytes) ∙ ap (λ l. l ++ bytes) (given_and_kept block all)

given_length : (block : ℕ) (all : List ℕ) → length (whole_blocks block all) ≡ whole_length block (length all)
given_length block all = length-take-le (whole_length block (length all)) all (let less = mod-le (length all) block in omega (arith, less))

-- bytes that are added to the rest of an input give the rest of the whole input
pub rest_of-append : (block : ℕ) (all bytes : List ℕ) → rest_of block (rest_of block all ++ bytes) ≡ rest_of block (all ++ bytes)
rest_of-append block all bytes =
    let k = whole_length block (length (rest_of block all ++ bytes)) in
    sym (drop-append-add (whole_blocks block all) (rest_of block all ++ bytes) k)
    ∙ ap₂ (λ n l. drop n l) (ap (λ n. n + k) (given_length block all) ∙ sym (both_lengths block all bytes)) (parts_of_all block all bytes)

-- what was given out and what is given now are the whole blocks of the whole input
pub whole_blocks-append : (block : ℕ) (all bytes : List ℕ) → whole_blocks block all ++ whole_blocks block (rest_of block all ++ bytes) ≡ whole_blocks block (all ++ bytes)
whole_blocks-append block all bytes =
    let k = whole_length block (length (rest_of block all ++ bytes)) in
    sym (take-append-add (whole_blocks block all) (rest_of block all ++ bytes) k)
    ∙ ap₂ (λ n l. take n l) (ap (λ n. n + k) (given_length block all) ∙ sym (both_lengths block all bytes)) (parts_of_all block all bytes)
