-- The bytes of the blocks that become whole.
use Rattle.std.proofs.Common.{◌≡◌, ℕ, ◌+◌, ◌-◌, ◌*◌, ◌/◌, ◌<◌, Bool, true, false, List, ◌++◌, length, drop, Ok, sym, ◌∙◌, ap, arith}
use Rattle.std.specs.Prelude.{slice_index}
use Rattle.std.proofs.lemmas.List.{get_or-take, get_or-drop, get_or_append_left, length-append, length-drop, length-take-le}
use Rattle.std.proofs.Math.Nat.{add-mul}
use Rattle.voice_units.specs.declared.errors.NoMemory.{NoMemory}
use Rattle.voice_model.specs.State.{State}
use Rattle.voice_model.specs.Changes.{taking_of}
use Rattle.record_job.specs.Recording.{whole_length}
use Rattle.recording_calls.specs.Shown.{between}
use Rattle.recording_adds.specs.Adds.{whole_more, OnAdded, OnNone}
use Rattle.recording_adds.proofs.Numbers.{whole_length_is, whole_below, whole_rises}

module _ (block : ℕ) (some : 0 < block) (before bytes : List ℕ) where
  abbrev all : List ℕ
  all = before ++ bytes

  abbrev from : ℕ
  from = whole_length block (length before)

  abbrev many : ℕ
  many = whole_length block (length all) - from

  many_is : many ≡ whole_more block (length before) (length bytes) * block
  many_is =
      let ends : whole_length block (length all) ≡ (length before + length bytes) / block * block = whole_length_is (length all) block ∙ ap (λ k. k / block * block) (length-append before bytes) in
      let begins = whole_length_is (length before) block in
      let rise = whole_rises block (length before) (length bytes) some in
      let more = whole_more block (length before) (length bytes) in
      let sum : more + length before / block ≡ (length before + length bytes) / block = omega (arith, rise) in
      let product : (length before + length bytes) / block * block ≡ more * block + length before / block * block = ap (λ k. k * block) (sym sum) ∙ add-mul more (length before / block) block in
      omega (arith, ends, begins, product)

  pub between_many : length (between block (length before) all) ≡ whole_more block (length before) (length bytes) * block
  between_many =
      let rest = length-drop from all in
      let ends = whole_length_is (length all) block in
      let low = whole_below (length all) block in
      length-take-le many (drop from all) (omega (arith, rest, ends, low)) ∙ many_is

  pub between_at : (k : ℕ) → k < length (between block (length before) all) → slice_index (between block (length before) all) k ≡ slice_index all (length before / block * block + k)
  between_at k less =
      let size = between_many in
      let is = many_is in
      get_or-take many (drop from all) k 0 (omega (arith, less, size, is)) ∙ get_or-drop from all k 0 ∙ ap (λ i. slice_index all (i + k)) (whole_length_is (length before) block)

-- the blocks that a recording gives out, by a state that the recordings show
module _ (block total lane : ℕ) (s : State) (bytes blocks : List ℕ) (some : 0 < block) (same : s.shape.block ≡ block) (all_is : total ≡ length (taking_of s lane))
    (given : blocks ≡ between s.shape.block (length (taking_of s lane)) (taking_of s lane ++ bytes)) where
  blocks_are : blocks ≡ between block (length (taking_of s lane)) (taking_of s lane ++ bytes)
  blocks_are = given ∙ ap (λ n. between n (length (taking_of s lane)) (taking_of s lane ++ bytes)) same

  pub shown_many : length blocks ≡ whole_more block total (length bytes) * block
  shown_many = ap length blocks_are ∙ between_many block some (taking_of s lane) bytes ∙ ap (λ k. whole_more block k (length bytes) * block) (sym all_is)

  pub shown_at : (k : ℕ) → k < length blocks → slice_index blocks k ≡ slice_index (taking_of s lane ++ bytes) (total / block * block + k)
  shown_at k less =
      let size = ap length blocks_are in
      ap (λ l. slice_index l k) blocks_are
      ∙ between_at block some (taking_of s lane) bytes k (omega (arith, less, size))
      ∙ ap (λ n. slice_index (taking_of s lane ++ bytes) (n / block * block + k)) (sym all_is)

  pub shown_front : (k : ℕ) → k < total → slice_index (taking_of s lane ++ bytes) k ≡ slice_index (taking_of s lane) k
  shown_front k less = get_or_append_left (taking_of s lane) bytes 0 k (omega (arith, less, all_is))

-- ---- what is known of an answer

pub when_added : (done : Bool) (P : Type 0) → done ≡ true → OnAdded {E = NoMemory} (Ok done) P → P
when_added true P e h = h
when_added false P e h = cc

pub when_none : (done : Bool) (P : Type 0) → done ≡ false → OnNone {E = NoMemory} (Ok done) P → P
when_none true P e h = cc
when_none false P e h = h
