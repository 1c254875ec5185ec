-- The last block of an open recording, filled up, on the disk behind its whole ones.
use Rattle.std.proofs.Common.{◌≡◌, ⊎_elim, ℕ, zero, suc, ◌+◌, ◌-◌, ◌*◌, ◌/◌, ◌%◌, ◌<◌, ◌≤◌, List, [], ◌∷◌, ◌++◌, length, drop, replicate, Some, refl, sym, ◌∙◌, ap, ap₂, arith, mod-lt}
use Rattle.std.specs.Prelude.{slice_index}
use Rattle.std.proofs.lemmas.Bool.{cases_lt}
use Rattle.std.proofs.lemmas.List.{get_or-drop, length-drop, length-append, length-replicate}
use Rattle.std.proofs.lemmas.Nat.{le-div, div-mul-add, mod-mul-add, div-add-mod'}
use Rattle.std.proofs.Math.Nat.{add-mul}
use Rattle.voice_units.specs.Blocks.{blocks_for}
use Rattle.voice_units.specs.declared.shapes.Shape.{Shape}
use Rattle.voice_blocks.specs.Holders.{Holders, holder_at, block_of}
use Rattle.voice_blocks.specs.Place.{block_place}
use Rattle.voice_blocks.specs.declared.owner.Owner.TheVariants.{Taking}
use Rattle.voice_blocks.specs.declared.owner.Holder.{Holder}
use Rattle.fillings.specs.Laws.{HasBytes}
use Rattle.record_job.specs.Recording.{filled_up, rest_of, whole_length}
use Rattle.open_recordings.specs.Blocks.{AreAddresses}
use Rattle.recording_adds.specs.Adds.{HasWhole}
use Rattle.recording_adds.proofs.Numbers.{some_block, whole_below, whole_length_is, whole_exact}
use Rattle.recording_adds.proofs.Listed.{held_at}

-- ---- how long it is

zeros_at : (z k : ℕ) → slice_index (replicate z 0) k ≡ 0
zeros_at zero k = refl
zeros_at (suc z) zero = refl
zeros_at (suc z) (suc k) = zeros_at z k

-- zeros behind the bytes read as what is not there
padded_at : (xs : List ℕ) (z k : ℕ) → slice_index (xs ++ replicate z 0) k ≡ slice_index xs k
padded_at [] z k = zeros_at z k
padded_at (x ∷ xs) z zero = refl
padded_at (x ∷ xs) z (suc k) = padded_at xs z k

filled_at : (block : ℕ) (rest : List ℕ) (k : ℕ) → slice_index (filled_up block rest) k ≡ slice_index rest k
filled_at block [] k = refl
filled_at block (b ∷ rest) k = padded_at (b ∷ rest) (block - length (b ∷ rest)) k

-- a rest that is filled up is a block, and there is none where the bytes end with a block
pub record IsLast (block total : ℕ) (last : List ℕ) : Type 0 where
  pub blocks : blocks_for block (length last) ≡ blocks_for block total - total / block
  pub many : total / block < blocks_for block total → length last ≡ block
  pub few : blocks_for block total ≤ total / block + 1

module _ (block : ℕ) (some : 0 < block) where
  -- as many blocks as whole ones, where nothing is behind them
  none_behind : (total : ℕ) → total % block ≡ 0 → blocks_for block total ≡ total / block
  none_behind total none =
      let parts = div-add-mod' total block in
      let exact : total ≡ total / block * block = omega (arith, parts, none) in
      ap (blocks_for block) exact ∙ whole_exact block (total / block) some

  -- and else one more
  one_behind : (total rest : ℕ) → total % block ≡ suc rest → blocks_for block total ≡ total / block + 1
  one_behind total rest more =
      let parts = div-add-mod' total block in
      let less = mod-lt total some in
      let next : (total / block + 1) * block ≡ total / block * block + 1 * block = add-mul (total / block) 1 block in
      let is : total + (block - 1) ≡ (total / block + 1) * block + rest = omega (arith, parts, more, next, some) in
      ap (λ n. n / block) is ∙ div-mul-add (total / block + 1) block rest (omega (arith, less, more))

  rest_length : (rest : List ℕ) (total : ℕ) → length rest ≡ total % block → IsLast block total (filled_up block rest)
  rest_length [] total is =
      let all = none_behind total (sym is) in
      let nothing : blocks_for block 0 ≡ 0 = ap (blocks_for block) (let e : 0 ≡ 0 * block = omega arith in e) ∙ whole_exact block 0 some in
      record { blocks = nothing ∙ (let e : 0 ≡ blocks_for block total - total / block = omega (arith, all) in e); many = λ more. absurd (omega (arith, all, more)); few = omega (arith, all) }
  rest_length (b ∷ rest) total is =
      let all = one_behind total (length rest) (sym is) in
      let less = mod-lt total some in
      let zeros = length-replicate {A = ℕ} (block - length (b ∷ rest)) 0 in
      let both = length-append (b ∷ rest) (replicate (block - length (b ∷ rest)) 0) in
      let full : length (b ∷ rest ++ replicate (block - length (b ∷ rest)) 0) ≡ block = omega (arith, zeros, both, less, is) in
      let one : blocks_for block block ≡ 1 = ap (blocks_for block) (let e : block ≡ 1 * block = omega arith in e) ∙ whole_exact block 1 some in
      record { blocks = ap (blocks_for block) full ∙ one ∙ (let e : 1 ≡ blocks_for block total - total / block = omega (arith, all) in e); many = λ more. full; few = omega (arith, all) }

  -- the last block of a recording of these bytes
  pub last_is : (bytes : List ℕ) → IsLast block (length bytes) (filled_up block (rest_of block bytes))
  last_is bytes =
      let parts = div-add-mod' (length bytes) block in
      let whole = whole_length_is (length bytes) block in
      let cut = length-drop (whole_length block (length bytes)) bytes in
      rest_length (rest_of block bytes) (length bytes) (omega (arith, parts, whole, cut))

  -- it has the bytes behind the whole blocks
  pub last_at : (bytes : List ℕ) (k : ℕ) → slice_index (filled_up block (rest_of block bytes)) k ≡ slice_index bytes (length bytes / block * block + k)
  last_at bytes k =
      filled_at block (rest_of block bytes) k ∙ get_or-drop (whole_length block (length bytes)) bytes k 0 ∙ ap (λ n. slice_index bytes (n + k)) (whole_length_is (length bytes) block)

  -- a byte lies in one of the blocks
  pub within_blocks : (total k : ℕ) → k < total → k / block < blocks_for block total
  within_blocks total k less =
      let low = whole_below k block in
      let next : (k / block + 1) * block ≡ k / block * block + 1 * block = add-mul (k / block) 1 block in
      let above : k / block + 1 ≤ blocks_for block total = le-div (k / block + 1) (total + (block - 1)) block some (omega (arith, low, next, less, some)) in
      omega (arith, above)

-- ---- all blocks of the recording

module _ (shape : Shape) (lane : ℕ) (holders : Holders) (bytes addresses image : List ℕ) (listed : AreAddresses holders (Taking lane) 0 (blocks_for shape.block (length bytes)) addresses)
    (only : (a index : ℕ) → holder_at holders a ≡ Some (block_of (Taking lane) index) → index < blocks_for shape.block (length bytes))
    (single : (a c : ℕ) (h : Holder) → holder_at holders a ≡ Some h → holder_at holders c ≡ Some h → a ≡ c)
    (whole : HasWhole shape image holders lane bytes)
    (written : HasBytes image shape (drop (length bytes / shape.block) addresses) (filled_up shape.block (rest_of shape.block bytes))) where
  abbrev first : ℕ
  first = length bytes / shape.block

  own : (k : ℕ) → k < blocks_for shape.block (length bytes) → holder_at holders (slice_index addresses k) ≡ Some (block_of (Taking lane) k)
  own k less = held_at holders (Taking lane) 0 (blocks_for shape.block (length bytes)) addresses listed k (let many = listed.many in omega (arith, many, less))
      ∙ ap (λ n. Some (block_of (Taking lane) n)) (let e : 0 + k ≡ k = omega arith in e)

  -- the last one, where it is not whole
  last_there : (a k : ℕ) → holder_at holders a ≡ Some (block_of (Taking lane) first) → k < shape.block → slice_index image (block_place shape a + k) ≡ slice_index bytes (first * shape.block + k)
  last_there a k held less =
      let there = only a first held in
      let long = (last_is shape.block (some_block shape) bytes).many there in
      let at : slice_index (drop first addresses) 0 ≡ a = get_or-drop first addresses 0 0 ∙ ap (slice_index addresses) (let e : first + 0 ≡ first = omega arith in e)
      ∙ single (slice_index addresses first) a (block_of (Taking lane) first) (own first there) held in
      let k_is : 0 * shape.block + k ≡ k = omega arith in
      let place : block_place shape (slice_index (drop first addresses) (k / shape.block)) + k % shape.block ≡ block_place shape a + k =
      ap₂ (λ q r. block_place shape (slice_index (drop first addresses) q) + r) (ap (λ n. n / shape.block) (sym k_is) ∙ div-mul-add 0 shape.block k less) (ap (λ n. n % shape.block) (sym k_is) ∙ mod-mul-add 0 shape.block k less)
      ∙ ap (λ c. block_place shape c + k) at in
      ap (slice_index image) (sym place) ∙ written.each k (omega (arith, long, less)) ∙ last_at shape.block (some_block shape) bytes k

  -- each has its bytes, with zeros behind the last one
  pub all_there : (a index k : ℕ) → holder_at holders a ≡ Some (block_of (Taking lane) index) → k < shape.block → slice_index image (block_place shape a + k) ≡ slice_index bytes (index * shape.block + k)
  all_there a index k held less =
      ⊎_elim
      (λ under. whole a index k held under less)
      (λ over.
      let there = only a index held in
      let few = (last_is shape.block (some_block shape) bytes).few in
      let is : index ≡ first = omega (arith, over, there, few) in
      last_there a k (held ∙ ap (λ n. Some (block_of (Taking lane) n)) is) less ∙ ap (λ n. slice_index bytes (n * shape.block + k)) (sym is))
      (cases_lt index first)

  pub has_all : HasBytes image shape addresses bytes
  has_all = record {
    each = λ k less.
        all_there (slice_index addresses (k / shape.block)) (k / shape.block) (k % shape.block) (own (k / shape.block) (within_blocks shape.block (some_block shape) (length bytes) k less)) (mod-lt k (some_block shape))
        ∙ ap (slice_index bytes) (div-add-mod' k shape.block);
  }
