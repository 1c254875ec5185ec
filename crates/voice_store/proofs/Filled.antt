-- The bytes of the blocks that have an address, as the disk and the tables change.
use Rattle.std.proofs.Common.{◌≡◌, ◌⊎◌, inl, ⊎_elim, ℕ, zero, suc, ◌+◌, ◌*◌, ◌/◌, ◌%◌, ◌<◌, ◌≤◌, ◌==◌, Bool, true, false, cond, List, [], ◌∷◌, ◌++◌, append-nil, append_assoc, length, replicate, Some, None, refl, sym, ◌∙◌, ap, subst, arith}
use Rattle.std.specs.Prelude.{slice_index, slice_index_or, unwrap_or}
use Rattle.std.proofs.lemmas.Bool.{ltb-true, eqb-true}
use Rattle.std.proofs.lemmas.List.Folds.{list_any-append}
use Rattle.std.proofs.lemmas.Nat.{div-mul-add, mod-mul-add}
use Rattle.std.proofs.Math.Nat.{mul-le-mul_right, add-mul, one-mul, zero-div}
use Rattle.voice_units.specs.declared.shapes.Shape.{Shape}
use Rattle.voice_units.specs.declared.pieces.Piece.{Piece}
use Rattle.voice_units.specs.Spots.{Spot, spots_of, spots_from, pieces_of}
use Rattle.voice_units.proofs.Distinct.{same_pair-true}
use Rattle.voice_units.specs.Blocks.{BlockPair, same_pair, has_pair, pairs_at, pair_at, blocks_for}
use Rattle.voice_blocks.specs.Holders.{Holders, holder_at, block_of}
use Rattle.voice_blocks.specs.Place.{block_place}
use Rattle.voice_blocks.specs.declared.owner.Owner.{Owner}
use Rattle.voice_blocks.specs.declared.owner.Owner.TheVariants.{File, Taking}
use Rattle.voice_blocks.specs.declared.owner.Holder.{Holder}
use Rattle.voice_journal.specs.Readings.{data_start, SameElsewhere}
use Rattle.voice_model.specs.Samples.{Tagged, spot_of}
use Rattle.voice_model.specs.State.{State, LaneState, quiet_lane}
use Rattle.voice_model.specs.Changes.{taking_of}
use Rattle.voice_model.specs.Replay.{Placed, Rebuilt, address_of, filled, placed_from, used_pairs}
use Rattle.voice_model.proofs.PlacesKept.{used_placed, same_itself}
use Rattle.voice_model.specs.Places.{Pairwise, OfOtherBlock}
use Rattle.voice_model.specs.Valid.{Every}
use Rattle.recovery.specs.Shown.{placed_at, ShowsPlaces}
use Rattle.checkpoint.specs.Blocks.{IsHeld}
use Rattle.rope_table.specs.Table.{pair_of, pairs_in}
use Rattle.recovery.specs.declared.parts.Parts.{Parts}
use Rattle.running_tables.specs.Running.{Runs}
use Rattle.voice_blocks.proofs.Apart.{either_way}
use Rattle.running_tables.proofs.Recounted.{one_has}
use Rattle.running_tables.proofs.Steps.{file_below}
use Rattle.running_tables.proofs.Taken.{first_blocks, none_yet}
use Rattle.fillings.specs.Laws.{HasBytes}
use Rattle.recording_writer.specs.Wrote.{SameOutside, byte_place}
use Rattle.next_ropes.specs.Addresses.{KeepsAddresses, HandsOut}
use Rattle.recording_adds.specs.Adds.{HasWhole}
use Rattle.voice_store.specs.Filled.{IsFilled, HaveBytes, IsPadded}
use Rattle.voice_store.specs.Playing.{KeepsTakings}
use Rattle.crash_laws.proofs.Spared.{outside_of}
use Rattle.voice_store.proofs.Taking.{later_fill, later_other, later_here}

-- ---- bytes behind the areas

-- the disk's bytes behind the journal's areas stay
abbrev pub StaysBehind : Shape → List ℕ → List ℕ → Type 0
StaysBehind shape old new = (i : ℕ) → data_start shape ≤ i → slice_index new i ≡ slice_index old i

pub stays_elsewhere : (shape : Shape) (old new : List ℕ) → SameElsewhere shape old new → StaysBehind shape old new
stays_elsewhere shape old new same i le = same.after i le

pub stays_same : (shape : Shape) (old new : List ℕ) → new ≡ old → StaysBehind shape old new
stays_same shape old new same i le = ap (λ (l : List ℕ). slice_index l i) same

pub still_filled : (fill : Spot → Tagged) (shape : Shape) (old new : List ℕ) (had has : Holders) → KeepsAddresses had has → StaysBehind shape old new → IsFilled fill shape old had → IsFilled fill shape new has
still_filled fill shape old new had has keeps stays was = record {
  each = λ a file index k held less. stays (block_place shape a + k) (omega arith) ∙ was.each a file index k (keeps a (block_of (File file) index) held) less;
}

-- ---- whole blocks of open recordings

-- a recording without bytes has no whole block
no_whole : (block index : ℕ) (bytes : List ℕ) → bytes ≡ [] → ¬ (index < length bytes / block)
no_whole block index bytes none less = let nothing = ap (λ (l : List ℕ). length l / block) none ∙ zero-div block in absurd (omega (arith, less, nothing))

pub nothing_whole : (shape : Shape) (image : List ℕ) (holders : Holders) (lane : ℕ) (bytes : List ℕ) → bytes ≡ [] → HasWhole shape image holders lane bytes
nothing_whole shape image holders lane bytes none a index k held less within = absurd (no_whole shape.block index bytes none less)

-- no lane of a disk that was just opened records
pub quiet_taking : (n lane : ℕ) → unwrap_or (slice_index_or (replicate n quiet_lane) lane quiet_lane).taking [] ≡ []
quiet_taking zero lane = refl
quiet_taking (suc n) zero = refl
quiet_taking (suc n) (suc lane) = quiet_taking n lane

-- they keep their bytes where the bytes behind the areas stay, as far as recordings keep theirs
pub still_whole : (shape : Shape) (old new : List ℕ) (had has : Holders) (last now : State) → KeepsTakings last now → KeepsAddresses had has → StaysBehind shape old new
    → ((lane : ℕ) → HasWhole shape old had lane (taking_of last lane)) → (lane : ℕ) → HasWhole shape new has lane (taking_of now lane)
still_whole shape old new had has last now takes keeps stays was lane a index k held less within =
    ⊎_elim
    (λ same. stays (block_place shape a + k) (omega arith) ∙ was lane a index k (keeps a (block_of (Taking lane) index) held) (subst (λ (bytes : List ℕ). index < length bytes / shape.block) same less) within
    ∙ ap (λ (bytes : List ℕ). slice_index bytes (index * shape.block + k)) (sym same))
    (λ none. absurd (no_whole shape.block index (taking_of now lane) none less))
    (takes lane)

-- all blocks keep their bytes
pub still_has : (fill : Spot → Tagged) (shape : Shape) (old new : List ℕ) (had has : Holders) (last now : State) → KeepsTakings last now → KeepsAddresses had has → StaysBehind shape old new → HaveBytes fill shape old had last → HaveBytes fill shape new has now
still_has fill shape old new had has last now takes keeps stays was =
    record { filled = still_filled fill shape old new had has keeps stays was.filled; whole = still_whole shape old new had has last now takes keeps stays was.whole }

-- lanes that are the same keep their recordings
pub takes_same : (old new : State) → new.lanes ≡ old.lanes → KeepsTakings old new
takes_same old new lanes = λ lane. inl (ap (λ (ls : List LaneState). unwrap_or (slice_index_or ls lane quiet_lane).taking []) lanes)

-- ---- a disk that was opened

same_block : (p q : BlockPair) → Some (block_of (File p.file) p.index) ≡ Some (block_of (File q.file) q.index) → p ≡ q
same_block p q e =
    let one : block_of (File p.file) p.index ≡ block_of (File q.file) q.index = cc in
    let owner : File p.file ≡ File q.file = ap (λ (h : Holder). h.owner) one in
    let file : p.file ≡ q.file = cc in
    let index : p.index ≡ q.index = ap (λ (h : Holder). h.index) one in
    ap (λ n. let r : BlockPair = record { file = n; index = p.index } in r) file ∙ ap (λ n. let r : BlockPair = record { file = q.file; index = n } in r) index

none_some : {A : Type 0} (x : A) → None ≡ Some x → ⊥
none_some x e = cc

-- the block of a place and no other
other_block : (one : Placed) (places : List Placed) (a : ℕ) (q : BlockPair) → Every (OfOtherBlock one) places → placed_at places a ≡ Some (block_of (File q.file) q.index) → ¬ (one.pair ≡ q)
other_block one [] a q others e = λ _. none_some (block_of (File q.file) q.index) e
other_block one (place ∷ places) a q others e = by (place.address == a) refl (other_block one places a q others.1)
  where
    at : (t : Bool) → (place.address == a) ≡ t → cond t (Some (block_of (File place.pair.file) place.pair.index)) (placed_at places a) ≡ Some (block_of (File q.file) q.index)
    at t k = sym (ap (λ t. cond t (Some (block_of (File place.pair.file) place.pair.index)) (placed_at places a)) k) ∙ e

    by : (t : Bool) → (place.address == a) ≡ t → (placed_at places a ≡ Some (block_of (File q.file) q.index) → ¬ (one.pair ≡ q)) → ¬ (one.pair ≡ q)
    by true k later = λ same. others.0 (same ∙ sym (same_block place.pair q (at true k)))
    by false k later = later (at false k)

differ : (p q : BlockPair) → ¬ (p ≡ q) → same_pair p q ≡ false
differ p q apart = by (same_pair p q) refl
  where
    by : (t : Bool) → same_pair p q ≡ t → same_pair p q ≡ false
    by true k = absurd (apart (same_pair-true p q k))
    by false k = k

-- where no block has two places, the address that is given to a block is the one that is looked up
address_found : (places : List Placed) (a : ℕ) (q : BlockPair) → Pairwise OfOtherBlock places → placed_at places a ≡ Some (block_of (File q.file) q.index) → address_of places q ≡ a
address_found [] a q once e = absurd (none_some (block_of (File q.file) q.index) e)
address_found (place ∷ places) a q once e = by (place.address == a) refl (address_found places a q once.1)
  where
    at : (t : Bool) → (place.address == a) ≡ t → cond t (Some (block_of (File place.pair.file) place.pair.index)) (placed_at places a) ≡ Some (block_of (File q.file) q.index)
    at t k = sym (ap (λ t. cond t (Some (block_of (File place.pair.file) place.pair.index)) (placed_at places a)) k) ∙ e

    by : (t : Bool) → (place.address == a) ≡ t → (placed_at places a ≡ Some (block_of (File q.file) q.index) → address_of places q ≡ a) → address_of (place ∷ places) q ≡ a
    by true k later = ap (λ t. cond t place.address (address_of places q)) (ap (λ p. same_pair p q) (same_block place.pair q (at true k)) ∙ same_itself q) ∙ eqb-true place.address a k
    by false k later = ap (λ t. cond t place.address (address_of places q)) (differ place.pair q (other_block place places a q once.0 (at false k))) ∙ later (at false k)

-- just after opening, what is filled in is what the disk has
pub opened_filled : (bytes image : List ℕ) (shape : Shape) (b : Rebuilt) (holders : Holders) → b.shape ≡ shape → image ≡ bytes → ShowsPlaces holders b.shape.blocks b.places → Pairwise OfOtherBlock b.places → IsFilled (filled bytes b) shape image holders
opened_filled bytes image shape b holders same is shows once =
    subst (λ (x : Shape). IsFilled (filled bytes b) x image holders) same (subst (λ (l : List ℕ). IsFilled (filled bytes b) b.shape l holders) (sym is) (record { each = at }))
  where
    at : (a file index k : ℕ) → holder_at holders a ≡ Some (block_of (File file) index) → k < b.shape.block → slice_index bytes (block_place b.shape a + k) ≡ (filled bytes b (record { file = file; place = index * b.shape.block + k })).byte
    at a file index k held less =
        let block = b.shape.block in
        let q : BlockPair = record { file = file; index = index } in
        let place = index * block + k in
        let pair : pair_at block (record { file = file; place = place }) ≡ q = ap (λ n. let p : BlockPair = record { file = file; index = n } in p) (div-mul-add index block k less) in
        sym
        (ap (λ (p : BlockPair). slice_index bytes (64 + 2 * b.shape.area + address_of b.places p * block + place % block)) pair
        ∙ ap (λ n. slice_index bytes (64 + 2 * b.shape.area + n * block + place % block)) (address_found b.places a q once (sym (shows.each a) ∙ held))
        ∙ ap (λ n. slice_index bytes (64 + 2 * b.shape.area + a * block + n)) (mod-mul-add index block k less))

-- ---- a recording

behind : (xs : List ℕ) (k : ℕ) → length xs ≤ k → slice_index xs k ≡ 0
behind [] k le = refl
behind (x ∷ xs) zero le = absurd (omega (arith, le))
behind (x ∷ xs) (suc k) le = behind xs k (omega (arith, le))

split : (p n : ℕ) → (p < n) ⊎ (n ≤ p)
split p n = grind arith

-- the blocks of a recording have its addresses, in rising index
pub placed_each : (holders : Holders) (file from : ℕ) (addresses : List ℕ) → Every (IsHeld holders) (placed_from file from addresses) → (k : ℕ) → k < length addresses → holder_at holders (slice_index addresses k) ≡ Some (block_of (File file) (from + k))
placed_each holders file from [] h k less = absurd (omega (arith, less))
placed_each holders file from (a ∷ rest) h zero less = h.0 ∙ ap (λ n. Some (block_of (File file) n)) (let same : from ≡ from + 0 = omega arith in same)
placed_each holders file from (a ∷ rest) h (suc k) less =
    placed_each holders file (from + 1) rest h.1 k (omega (arith, less)) ∙ ap (λ n. Some (block_of (File file) n)) (let same : from + 1 + k ≡ from + suc k = omega arith in same)

module _ (fill : Spot → Tagged) (spots : (x : Spot) → spot_of (fill x) ≡ x) (shape : Shape) (file : ℕ) (addresses old new : List ℕ) (had has : Holders) (hands : HandsOut file had has)
    (none : (a index : ℕ) → ¬ (holder_at had a ≡ Some (block_of (File file) index)))
    (each : (k : ℕ) → k < length addresses → holder_at has (slice_index addresses k) ≡ Some (block_of (File file) k)) (outside : SameOutside shape addresses old new)
    (was : IsFilled fill shape old had) where
  -- a block that had its address before has none of these
  not_ours : (a f index : ℕ) → holder_at had a ≡ Some (block_of (File f) index) → holder_at has a ≡ Some (block_of (File f) index) → (k : ℕ) → k < length addresses → ¬ (slice_index addresses k ≡ a)
  not_ours a f index before now k within same =
      let ours : BlockPair = record { file = file; index = k } in
      let theirs : BlockPair = record { file = f; index = index } in
      let pair : ours ≡ theirs = same_block ours theirs (sym (each k within) ∙ ap (holder_at has) same ∙ now) in
      none a index (before ∙ ap (λ n. Some (block_of (File n) index)) (sym (ap (λ (p : BlockPair). p.file) pair)))

  -- its bytes stay
  stays : (a f index k : ℕ) → holder_at had a ≡ Some (block_of (File f) index) → holder_at has a ≡ Some (block_of (File f) index) → k < shape.block → slice_index new (block_place shape a + k) ≡ (fill (record { file = f; place = index * shape.block + k })).byte
  stays a f index k before now less =
      outside.outside (block_place shape a + k) (outside_of shape addresses a (block_place shape a + k) (not_ours a f index before now) (omega arith) (omega (arith, less)))
      ∙ was.each a f index k before less

  -- once the file's blocks are free again all others have what they had
  pub unwritten_filled : (back : Holders) → KeepsAddresses has back → ((a index : ℕ) → ¬ (holder_at back a ≡ Some (block_of (File file) index))) → IsFilled fill shape new back
  unwritten_filled back keeps gone = record {
    each = λ a f index k held less.
        let now = keeps a (block_of (File f) index) held in
        ⊎_elim (λ before. stays a f index k before now less) (λ own. absurd (gone a index (held ∙ ap (λ (o : Owner). Some (block_of o index)) own))) (hands a (block_of (File f) index) now);
  }

  -- whole blocks of open recordings have none of these addresses, and keep their bytes
  pub elsewhere_whole : (last : State) → ((lane : ℕ) → HasWhole shape old had lane (taking_of last lane)) → (to : Holders) → KeepsAddresses has to → (lane : ℕ) → HasWhole shape new to lane (taking_of last lane)
  elsewhere_whole last before to keeps lane a index k held less within =
      let now = keeps a (block_of (Taking lane) index) held in
      let had_it : holder_at had a ≡ Some (block_of (Taking lane) index) = ⊎_elim (λ same. same) (λ own. absurd (no_file own)) (hands a (block_of (Taking lane) index) now) in
      outside.outside (block_place shape a + k) (outside_of shape addresses a (block_place shape a + k) (λ n low same. other n low same now) (omega arith) (omega (arith, within)))
      ∙ before lane a index k had_it less within
    where
      no_file : Taking lane ≡ File file → ⊥
      no_file e = cc

      other : (n : ℕ) → n < length addresses → slice_index addresses n ≡ a → holder_at has a ≡ Some (block_of (Taking lane) index) → ⊥
      other n low same now =
          let file_there : Some (block_of (File file) n) ≡ Some (block_of (Taking lane) index) = sym (each n low) ∙ ap (holder_at has) same ∙ now in
          let one : block_of (File file) n ≡ block_of (Taking lane) index = cc in
          no_file (sym (ap (λ (h : Holder). h.owner) one))

  module _ (bytes : List ℕ) (only : (a index : ℕ) → holder_at has a ≡ Some (block_of (File file) index) → index < length addresses)
      (single : (a c : ℕ) (h : Holder) → holder_at has a ≡ Some h → holder_at has c ≡ Some h → a ≡ c) (wrote : HasBytes new shape addresses bytes) (padded : IsPadded new shape addresses (length bytes)) where
    ours : (index k : ℕ) → index < length addresses → k < shape.block → slice_index new (block_place shape (slice_index addresses index) + k) ≡ slice_index bytes (index * shape.block + k)
    ours index k within less =
        let at : byte_place shape addresses (index * shape.block + k) ≡ block_place shape (slice_index addresses index) + k =
        ap (λ n. block_place shape (slice_index addresses n) + (index * shape.block + k) % shape.block) (div-mul-add index shape.block k less)
        ∙ ap (λ n. block_place shape (slice_index addresses index) + n) (mod-mul-add index shape.block k less) in
        let whole : (index + 1) * shape.block ≤ length addresses * shape.block = mul-le-mul_right shape.block (omega (arith, within)) in
        let parts : (index + 1) * shape.block ≡ index * shape.block + shape.block = add-mul index 1 shape.block ∙ ap (λ n. index * shape.block + n) (one-mul shape.block) in
        let low : index * shape.block + k < length addresses * shape.block = omega (arith, whole, parts, less) in
        sym (ap (slice_index new) at)
        ∙ ⊎_elim (λ in_bytes. wrote.each (index * shape.block + k) in_bytes) (λ past. padded.each (index * shape.block + k) past low ∙ sym (behind bytes (index * shape.block + k) past))
        (split (index * shape.block + k) (length bytes))

    pub written_filled : IsFilled (later_fill fill file bytes) shape new has
    written_filled = record { each = λ a f index k held less. ⊎_elim (λ before. kept a f index k before held less) (λ own. mine a f index k own held less) (hands a (block_of (File f) index) held) }
      where
        kept : (a f index k : ℕ) → holder_at had a ≡ Some (block_of (File f) index) → holder_at has a ≡ Some (block_of (File f) index) → k < shape.block
            → slice_index new (block_place shape a + k) ≡ (later_fill fill file bytes (record { file = f; place = index * shape.block + k })).byte
        kept a f index k before now less =
            stays a f index k before now less
            ∙ sym (later_other fill spots file bytes (record { file = f; place = index * shape.block + k }) (λ same. none a index (before ∙ ap (λ n. Some (block_of (File n) index)) same)))

        mine : (a f index k : ℕ) → File f ≡ File file → holder_at has a ≡ Some (block_of (File f) index) → k < shape.block
            → slice_index new (block_place shape a + k) ≡ (later_fill fill file bytes (record { file = f; place = index * shape.block + k })).byte
        mine a f index k own held less =
            let same : f ≡ file = cc in
            let now = held ∙ ap (λ n. Some (block_of (File n) index)) same in
            let within = only a index now in
            ap (λ x. slice_index new (block_place shape x + k)) (single a (slice_index addresses index) (block_of (File file) index) now (each index within)) ∙ ours index k within less
            ∙ sym (ap (λ n. (later_fill fill file bytes (record { file = n; place = index * shape.block + k })).byte) same ∙ later_here fill spots file bytes (index * shape.block + k))

-- ---- which blocks the next file has

pairs_joined : (block : ℕ) (xs ys : List (List Piece)) → pairs_in block (xs ++ ys) ≡ pairs_in block xs ++ pairs_in block ys
pairs_joined block [] ys = refl
pairs_joined block (ps ∷ xs) ys = ap (λ l. pairs_at block (spots_of ps) ++ l) (pairs_joined block xs ys) ∙ sym (append_assoc (pairs_at block (spots_of ps)) (pairs_in block xs) (pairs_in block ys))

-- while a recording is ready, the blocks of the next file are those of its samples
pub next_only : (held : List (List Piece)) (takings : List ℕ) (parts : Parts) (b : Rebuilt) (pieces : List Piece) (len : ℕ) → Runs held (pieces ∷ []) takings parts b → pieces ≡ pieces_of (spots_from b.next 0 len)
    → (a index : ℕ) → holder_at parts.blocks.holders a ≡ Some (block_of (File b.next) index) → index < blocks_for b.shape.block len
next_only held takings parts b pieces len runs is a index e =
    let block = b.shape.block in
    let least = b.shape.conditions.some_block in
    let some : 1 ≤ b.shape.block = omega (arith, least) in
    let q : BlockPair = pair_of b.next index in
    either_way (has_pair (used_pairs b.kept) q) (has_pair (pairs_in block (held ++ pieces ∷ [])) q)
    (λ k. let less : b.next < b.next = file_below b.next b.shape.blocks b.places q runs.placed.ranges (used_placed block b.places b.ropes q runs.placed.placed k) in absurd (omega (arith, less)))
    (λ k.
    either_way (has_pair (pairs_in block held) q) (has_pair (pairs_in block (pieces ∷ [])) q)
    (λ j. let less : b.next < b.next = one_has (λ pair. pair.file < b.next) (pairs_in block held) q runs.below j in absurd (omega (arith, less)))
    (λ j.
    ltb-true index (blocks_for block len)
    (sym ((first_blocks block b.next len some).each index) ∙ ap (λ ps. has_pair (pairs_at block (spots_of ps)) q) (sym is) ∙ ap (λ l. has_pair l q) (sym (append-nil (pairs_at block (spots_of pieces)))) ∙ j))
    (sym (list_any-append (same_pair q) (pairs_in block held) (pairs_in block (pieces ∷ []))) ∙ ap (λ l. has_pair l q) (sym (pairs_joined block held (pieces ∷ []))) ∙ k))
    (runs.given.only a (block_of (File b.next) index) e)

-- the same addresses are given out
pub same_addresses : (old new : Holders) → new ≡ old → KeepsAddresses old new
same_addresses old new same a holder had = ap (λ (hs : Holders). holder_at hs a) (sym same) ∙ had

-- what a recording took is free again, and all others have what they had
pub never_handed : (held : List (List Piece)) (takings : List ℕ) (b : Rebuilt) (had has : Holders) (parts : Parts) → HandsOut b.next had has → KeepsAddresses has parts.blocks.holders → Runs held [] takings parts b → KeepsAddresses had parts.blocks.holders
never_handed held takings b had has parts hands keeps runs a holder now =
    ⊎_elim (λ before. before) (λ own. absurd (none_yet held takings parts b runs a holder.index (now ∙ ap (λ (o : Owner). Some (block_of o holder.index)) own))) (hands a holder (keeps a holder now))
