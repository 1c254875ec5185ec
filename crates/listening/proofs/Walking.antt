-- Stretches that are heard one after another.
use Rattle.std.proofs.Common.{◌≡◌, ℕ, ◌+◌, ◌<◌, ◌≤◌, List, ◌++◌, length, take, drop, sym, ◌∙◌, ap, subst, arith, append_assoc}
use Rattle.std.specs.Prelude.{Result, IsTrue}
use Rattle.std.proofs.lemmas.List.{map-append, take_all, append-nil}
use Rattle.std.proofs.Math.Seq.{take-add}
use Rattle.voice_units.specs.declared.pieces.Piece.{Piece}
use Rattle.voice_units.specs.declared.shapes.Shape.{Shape}
use Rattle.voice_units.specs.Spots.{spots_in, spots_of, samples_in, stretches}
use Rattle.voice_units.specs.Blocks.{BlockPair}
use Rattle.rope_algebra.proofs.Parts.{length-spots_of}
use Rattle.voice_outside.specs.Disk.{Told, MakesAtMost}
use Rattle.voice_blocks.specs.Holders.{Holders}
use Rattle.rope_algebra.specs.Kept.{IsFirstStretch}
use Rattle.listening.specs.Looks.{Looked, OnlyLooked}
use Rattle.listening.specs.Heard.{IsPlace, ArePlaces, pair_of, byte_on, bytes_on}
use Rattle.listening.proofs.Looking.{none_looked, one_looked, at_most}
use Rattle.listening.proofs.Standing.{stretch_pair}

-- the first `at` samples were heard, in `reads` reads
pub record IsUnderway {S : Type 0} (knows : List ℕ → S → Type 0) (limit : S → ℕ) (shape : Shape) (holders : Holders) (ps : List Piece) (at : ℕ) (first ear : S) (old now : Told) : Type 0 where
  pub within : at ≤ samples_in ps
  pub reads : ℕ
  pub looked : Looked reads old now
  pub left : reads + length (stretches shape.block (drop at (spots_of ps))) ≤ length (stretches shape.block (spots_of ps))
  pub limited : samples_in ps < limit ear + at
  pub known : IsTrue old.honest → (before : List ℕ) (address : BlockPair → ℕ) → knows before first → ArePlaces shape.block holders (spots_of ps) address → knows (before ++ bytes_on old.bytes shape address (take at (spots_of ps))) ear

module _ {S : Type 0} (knows : List ℕ → S → Type 0) (limit : S → ℕ) (shape : Shape) (holders : Holders) (ps : List Piece) where
  pub begins : (first : S) (old : Told) → samples_in ps < limit first → IsUnderway knows limit shape holders ps 0 first first old old
  begins first old some = record {
    within = omega arith;
    reads = 0;
    looked = none_looked old;
    left = omega arith;
    limited = omega (arith, some);
    known = λ honest before address was places. subst (λ all. knows all first) (sym (append-nil before)) was;
  }

  -- what was counted as one more stretch is read
  pub read_one : {T E : Type 0} (at : ℕ) (first ear : S) (old now new : Told) (s : Piece) (r : Result T E) → IsUnderway knows limit shape holders ps at first ear old now → IsFirstStretch shape.block at ps s → MakesAtMost 1 now new r → (IsTrue now.honest → OnlyLooked now new) → Looked (length (stretches shape.block (spots_of ps))) old new
  read_one at first ear old now new s r h stretch made looks =
      let one = ap (λ l. length l) stretch.rest in
      at_most (h.reads + 1) (length (stretches shape.block (spots_of ps))) old new (omega (arith, one, h.left)) (one_looked h.reads old now new r h.looked made looks)

  pub goes_on : {T E : Type 0} (at : ℕ) (first ear later : S) (old now new : Told) (s : Piece) (r : Result T E) (part : List ℕ)
      → IsUnderway knows limit shape holders ps at first ear old now → IsFirstStretch shape.block at ps s
      → MakesAtMost 1 now new r → (IsTrue now.honest → OnlyLooked now new)
      → (IsTrue now.honest → (address : BlockPair → ℕ) → IsPlace holders (pair_of shape.block s) (address (pair_of shape.block s)) → part ≡ bytes_on now.bytes shape address (spots_in s))
      → length part ≡ s.len → limit ear ≤ limit later + length part
      → ((before : List ℕ) → knows before ear → knows (before ++ part) later)
      → IsUnderway knows limit shape holders ps (at + s.len) first later old new
  goes_on at first ear later old now new s r part h stretch made looks bytes long limited heard = record {
    within = stretch.within;
    reads = h.reads + 1;
    looked = one_looked h.reads old now new r h.looked made looks;
    left = let one = ap (λ l. length l) stretch.rest in omega (arith, one, h.left);
    limited = omega (arith, h.limited, limited, long);
    known = λ honest before address was places.
        let here : IsTrue now.honest = subst IsTrue (sym h.looked.honest) honest in
        let same = (h.looked.looks honest).bytes in
        let front = bytes_on old.bytes shape address (take at (spots_of ps)) in
        let next : part ≡ bytes_on old.bytes shape address (spots_in s) = bytes here address (places (pair_of shape.block s) (stretch_pair shape.block at ps s stretch)) ∙ ap (λ image. bytes_on image shape address (spots_in s)) same in
        let all : (before ++ front) ++ part ≡ before ++ bytes_on old.bytes shape address (take (at + s.len) (spots_of ps)) =
        append_assoc before front part
        ∙ ap (λ l. before ++ l)
        (ap (λ l. front ++ l) (next ∙ ap (bytes_on old.bytes shape address) (sym stretch.spots))
        ∙ sym (map-append (byte_on old.bytes shape address) (take at (spots_of ps)) (take s.len (drop at (spots_of ps))))
        ∙ ap (bytes_on old.bytes shape address) (sym (take-add at s.len (spots_of ps)))) in
        subst (λ l. knows l later) all (heard (before ++ front) (h.known honest before address was places));
  }

  -- at the end all was heard
  pub all_heard : (at : ℕ) (first ear : S) (old now : Told) → at ≡ samples_in ps → IsUnderway knows limit shape holders ps at first ear old now → IsTrue old.honest → (before : List ℕ) (address : BlockPair → ℕ) → knows before first → ArePlaces shape.block holders (spots_of ps) address → knows (before ++ bytes_on old.bytes shape address (spots_of ps)) ear
  all_heard at first ear old now end h honest before address was places =
      let whole : take at (spots_of ps) ≡ spots_of ps = take_all at (spots_of ps) (let all = length-spots_of ps in omega (arith, all, end)) in
      subst (λ ss. knows (before ++ bytes_on old.bytes shape address ss) ear) whole (h.known honest before address was places)

  pub all_looked : (at : ℕ) (first ear : S) (old now : Told) → IsUnderway knows limit shape holders ps at first ear old now → Looked (length (stretches shape.block (spots_of ps))) old now
  all_looked at first ear old now h = at_most h.reads (length (stretches shape.block (spots_of ps))) old now (omega (arith, h.left)) h.looked
