-- A rope is made ready: its blocks take addresses, or are in use already.
use Rattle.std.proofs.Common.{◌≡◌, ℕ, ◌+◌, ◌*◌, ◌/◌, ◌-◌, ◌≤◌, ◌<◌, ◌==◌, ◌⊎◌, inl, inr, Bool, true, false, ◌||◌, List, [], ◌∷◌, ◌++◌, length, Some, None, refl, sym, ◌∙◌, ap, subst, arith}
use Rattle.std.specs.Prelude.{nat_lt}
use Rattle.std.proofs.lemmas.Bool.{lt-ltb, ltb-true}
use Rattle.std.proofs.lemmas.Nat.{le-div}
use Rattle.std.proofs.lemmas.List.{append-nil}
use Rattle.std.proofs.Math.Nat.{div-mul-le_self, mul-le-mul_right}
use Rattle.voice_units.specs.Spots.{spots_of, spots_from, pieces_of, nowhere}
use Rattle.voice_units.specs.Blocks.{BlockPair, pairs_at, has_pair, blocks_for}
use Rattle.voice_units.specs.declared.pieces.Piece.{Piece}
use Rattle.voice_units.proofs.PiecesOfRopes.{spots_of-runs}
use Rattle.voice_model.specs.Replay.{Rebuilt, used_pairs}
use Rattle.voice_model.specs.Valid.{Every}
use Rattle.voice_model.proofs.KeptByChanges.{every-imply, same_bool}
use Rattle.voice_model.proofs.PlacesKept.{used_placed}
use Rattle.voice_blocks.specs.Holders.{Holders, holder_at, open_in, block_of, with_taken}
use Rattle.voice_blocks.specs.declared.owner.Owner.{Owner}
use Rattle.voice_blocks.specs.declared.owner.Owner.TheVariants.{File, Taking}
use Rattle.voice_blocks.specs.declared.owner.Holder.{Holder}
use Rattle.rope_table.specs.Table.{pairs_in, pair_of}
use Rattle.recovery.specs.declared.parts.Parts.{Parts}
use Rattle.recovery.specs.Shown.{Shows}
use Rattle.recovery.proofs.Freed.{place_in}
use Rattle.recovery.proofs.Recordings.{block_used}
use Rattle.checkpoint.specs.Blocks.{IsHeld}
use Rattle.running_tables.specs.Running.{taken as taken_in, is_wanted, GivesJust, IsGiven, Runs}
use Rattle.running_tables.specs.Laws as laws
use Rattle.voice_blocks.proofs.Apart.{either_way, or_left, or_right}
use Rattle.running_tables.proofs.Ended.{with_pledge}
use Rattle.running_tables.proofs.Free.{rope_blocks}
use Rattle.running_tables.proofs.Grown.{grown_size, old_stays, old_or_new, new_has, still_single}
use Rattle.running_tables.proofs.Recounted.{one_has}
use Rattle.running_tables.proofs.Steps.{file_below}

-- tables that show the same, with the same map
pub reshown : laws.Reshown
reshown held pledged takings old new b runs shows form same = record {
  kept = shows;
  size = ap length same ∙ runs.size;
  addresses = subst (λ hs. Every (IsHeld hs) b.places) (sym same) runs.addresses;
  given = subst (λ hs. GivesJust hs (used_pairs b.kept) (pairs_in b.shape.block (held ++ pledged)) takings) (sym same) runs.given;
  below = runs.below;
  in_form = form ∙ runs.in_form;
  valid = runs.valid;
  placed = runs.placed;
  used = runs.used;
}

-- a block that is wanted while nothing is pledged is of a known file
known_file : (held : List (List Piece)) (takings : List ℕ) (parts : Parts) (b : Rebuilt) → Runs held [] takings parts b → (file index : ℕ) → is_wanted (used_pairs b.kept) (pairs_in b.shape.block (held ++ [])) takings (File file) index ≡ true → file < b.next
known_file held takings parts b runs file index e =
    either_way (has_pair (used_pairs b.kept) (pair_of file index)) (has_pair (pairs_in b.shape.block (held ++ [])) (pair_of file index))
    (λ k. file_below b.next b.shape.blocks b.places (pair_of file index) runs.placed.ranges (used_placed b.shape.block b.places b.ropes (pair_of file index) runs.placed.placed k))
    (λ k. one_has (λ pair. pair.file < b.next) (pairs_in b.shape.block held) (pair_of file index) runs.below (ap (λ l. has_pair (pairs_in b.shape.block l) (pair_of file index)) (sym (append-nil held)) ∙ k)) e

pub none_yet : laws.NoneYet
none_yet held takings parts b runs a index e = let less = known_file held takings parts b runs b.next index (runs.given.only a (block_of (File b.next) index) e) in omega (arith, less)

-- ---- the blocks of a new file take addresses

module _ (hs : Holders) (pairs others all : List BlockPair) (takings : List ℕ) (file n : ℕ) (mine : List BlockPair)
    (room : n ≤ open_in hs) (fresh : (a index : ℕ) → ¬ (holder_at hs a ≡ Some (block_of (File file) index)))
    (alike : (q : BlockPair) → has_pair all q ≡ (has_pair mine q || has_pair others q))
    (each : (index : ℕ) → has_pair mine (pair_of file index) ≡ nat_lt index n) (of_file : (q : BlockPair) → has_pair mine q ≡ true → q.file ≡ file)
    (gives : GivesJust hs pairs others takings) where
  wanted_still : (owner : Owner) (index : ℕ) → is_wanted pairs others takings owner index ≡ true → is_wanted pairs all takings owner index ≡ true
  wanted_still (File f) index e =
      either_way (has_pair pairs (pair_of f index)) (has_pair others (pair_of f index))
      (λ k. or_left (has_pair pairs (pair_of f index)) (has_pair all (pair_of f index)) k)
      (λ k. or_right (has_pair pairs (pair_of f index)) (has_pair all (pair_of f index)) (alike (pair_of f index) ∙ or_right (has_pair mine (pair_of f index)) (has_pair others (pair_of f index)) k)) e
  wanted_still (Taking lane) index e = e

  wanted_new : (index : ℕ) → index < n → is_wanted pairs all takings (File file) index ≡ true
  wanted_new index less =
      or_right (has_pair pairs (pair_of file index)) (has_pair all (pair_of file index))
      (alike (pair_of file index) ∙ or_left (has_pair mine (pair_of file index)) (has_pair others (pair_of file index)) (each index ∙ lt-ltb index n less))

  only_wanted : (a : ℕ) (h : Holder) → holder_at (with_taken (File file) 0 n hs) a ≡ Some h → is_wanted pairs all takings h.owner h.index ≡ true
  only_wanted a h e = elim (old_or_new (File file) 0 n hs a h e) [
    | inl k ↦ wanted_still h.owner h.index (gives.only a h k)
    | inr r ↦ (let high = r.high in subst (λ (x : Holder). is_wanted pairs all takings x.owner x.index ≡ true) (sym r.is) (wanted_new r.index (omega (arith, high))))
  ]

  was_given : (h : Holder) → IsGiven hs h → IsGiven (with_taken (File file) 0 n hs) h
  was_given h at = (at.0, old_stays (File file) 0 n hs at.0 h at.1)

  new_given : (q : BlockPair) → has_pair mine q ≡ true → IsGiven (with_taken (File file) 0 n hs) (block_of (File q.file) q.index)
  new_given q e =
      let same = of_file q e in
      let here : has_pair mine (pair_of file q.index) ≡ true = subst (λ f. has_pair mine (pair_of f q.index) ≡ true) same e in
      let less = ltb-true q.index n (sym (each q.index) ∙ here) in
      subst (λ f. IsGiven (with_taken (File file) 0 n hs) (block_of (File f) q.index)) (sym same) (new_has (File file) 0 n hs q.index room (omega arith) (omega (arith, less)))

  gives_taken : GivesJust (with_taken (File file) 0 n hs) pairs all takings
  gives_taken = record {
    only = only_wanted;
    single = still_single (File file) 0 n hs (λ a k e. absurd (fresh a k e)) gives.single;
    passages = λ q e. either_way (has_pair mine q) (has_pair others q) (new_given q) (λ k. was_given (block_of (File q.file) q.index) (gives.passages q k)) (sym (alike q) ∙ e);
    recordings = λ lane index e. was_given (block_of (Taking lane) index) (gives.recordings lane index e);
  }

pub taken : laws.Taken
taken held takings old new b n pieces runs shows form room is first = record {
  kept = shows;
  size = ap length is ∙ grown_size (File b.next) 0 n old.blocks.holders ∙ runs.size;
  addresses = subst (λ hs. Every (IsHeld hs) b.places) (sym is)
      (every-imply (IsHeld old.blocks.holders) (IsHeld (with_taken (File b.next) 0 n old.blocks.holders))
      (λ p e. old_stays (File b.next) 0 n old.blocks.holders p.address (block_of (File p.pair.file) p.pair.index) e) b.places runs.addresses);
  given = subst (λ hs. GivesJust hs (used_pairs b.kept) (pairs_in b.shape.block (held ++ pieces ∷ [])) takings) (sym is)
      (gives_taken old.blocks.holders (used_pairs b.kept) (pairs_in b.shape.block (held ++ [])) (pairs_in b.shape.block (held ++ pieces ∷ [])) takings b.next n (pairs_at b.shape.block (spots_of pieces))
      room (none_yet held takings old b runs) (with_pledge b.shape.block held [] pieces) first.each first.of_file runs.given);
  below = runs.below;
  in_form = form ∙ runs.in_form;
  valid = runs.valid;
  placed = runs.placed;
  used = runs.used;
}

-- ---- pieces of used blocks

module _ (hs : Holders) (pairs others all mine : List BlockPair) (takings : List ℕ) (alike : (q : BlockPair) → has_pair all q ≡ (has_pair mine q || has_pair others q))
    (mine_used : (q : BlockPair) → has_pair mine q ≡ true → has_pair pairs q ≡ true) (known : (q : BlockPair) → has_pair pairs q ≡ true → IsGiven hs (block_of (File q.file) q.index)) where
  gives_with : GivesJust hs pairs others takings → GivesJust hs pairs all takings
  gives_with gives = record {
    only = λ a h e. wanted h.owner h.index (gives.only a h e);
    single = gives.single;
    passages = λ q e. either_way (has_pair mine q) (has_pair others q) (λ k. known q (mine_used q k)) (gives.passages q) (sym (alike q) ∙ e);
    recordings = gives.recordings;
  }
    where
      wanted : (owner : Owner) (index : ℕ) → is_wanted pairs others takings owner index ≡ true → is_wanted pairs all takings owner index ≡ true
      wanted (File f) index e =
          either_way (has_pair pairs (pair_of f index)) (has_pair others (pair_of f index))
          (λ k. or_left (has_pair pairs (pair_of f index)) (has_pair all (pair_of f index)) k)
          (λ k. or_right (has_pair pairs (pair_of f index)) (has_pair all (pair_of f index)) (alike (pair_of f index) ∙ or_right (has_pair mine (pair_of f index)) (has_pair others (pair_of f index)) k)) e
      wanted (Taking lane) index e = e

  gives_without : GivesJust hs pairs all takings → GivesJust hs pairs others takings
  gives_without gives = record {
    only = λ a h e. wanted h.owner h.index (gives.only a h e);
    single = gives.single;
    passages = λ q e. gives.passages q (alike q ∙ or_right (has_pair mine q) (has_pair others q) e);
    recordings = gives.recordings;
  }
    where
      wanted : (owner : Owner) (index : ℕ) → is_wanted pairs all takings owner index ≡ true → is_wanted pairs others takings owner index ≡ true
      wanted (File f) index e =
          either_way (has_pair pairs (pair_of f index)) (has_pair all (pair_of f index))
          (λ k. or_left (has_pair pairs (pair_of f index)) (has_pair others (pair_of f index)) k)
          (λ k. either_way (has_pair mine (pair_of f index)) (has_pair others (pair_of f index))
          (λ i. or_left (has_pair pairs (pair_of f index)) (has_pair others (pair_of f index)) (mine_used (pair_of f index) i))
          (λ i. or_right (has_pair pairs (pair_of f index)) (has_pair others (pair_of f index)) i)
          (sym (alike (pair_of f index)) ∙ k)) e
      wanted (Taking lane) index e = e

pub used_pledged : laws.UsedPledged
used_pledged held pledged takings parts b pieces mine runs = record {
  kept = runs.kept;
  size = runs.size;
  addresses = runs.addresses;
  given = gives_with parts.blocks.holders (used_pairs b.kept) (pairs_in b.shape.block (held ++ pledged)) (pairs_in b.shape.block (held ++ pieces ∷ pledged)) (pairs_at b.shape.block (spots_of pieces)) takings
      (with_pledge b.shape.block held pledged pieces) mine (rope_blocks held pledged takings parts b runs) runs.given;
  below = runs.below;
  in_form = runs.in_form;
  valid = runs.valid;
  placed = runs.placed;
  used = runs.used;
}

pub used_unpledged : laws.UsedUnpledged
used_unpledged held pledged takings parts b pieces mine runs = record {
  kept = runs.kept;
  size = runs.size;
  addresses = runs.addresses;
  given = gives_without parts.blocks.holders (used_pairs b.kept) (pairs_in b.shape.block (held ++ pledged)) (pairs_in b.shape.block (held ++ pieces ∷ pledged)) (pairs_at b.shape.block (spots_of pieces)) takings
      (with_pledge b.shape.block held pledged pieces) mine (rope_blocks held (pieces ∷ pledged) takings parts b runs) runs.given;
  below = runs.below;
  in_form = runs.in_form;
  valid = runs.valid;
  placed = runs.placed;
  used = runs.used;
}

-- ---- the blocks of a recording are the first ones of its file

one_more : (m b : ℕ) → (m + 1) * b ≡ m * b + b
one_more m b = grind arith

-- a block has a sample of the recording just if it is one of so many
pub first_blocks : (block file len : ℕ) → 1 ≤ block → laws.HasFirst block file (blocks_for block len) (pieces_of (spots_from file 0 len))
first_blocks block file len some = record {
  each = λ index. ap (λ l. has_pair (pairs_at block l) (pair_of file index)) spots ∙ same_bool (has_pair (pairs_at block (spots_from file 0 len)) (pair_of file index)) (nat_lt index (blocks_for block len)) (below index) (has index);
  of_file = λ q e. place_in block file 0 len q (λ x low high is. ap (λ (p : BlockPair). p.file) is) (ap (λ l. has_pair (pairs_at block l) q) (sym spots) ∙ e);
}
  where
    spots : spots_of (pieces_of (spots_from file 0 len)) ≡ spots_from file 0 len
    spots = spots_of-runs nowhere (spots_from file 0 len)

    enough : (x : ℕ) → x < len → x / block < blocks_for block len
    enough x less =
        let down = div-mul-le_self x block in
        let whole = one_more (x / block) block in
        let up : x / block + 1 ≤ blocks_for block len = le-div (x / block + 1) (len + (block - 1)) block (omega (arith, some)) (omega (arith, down, whole, less, some)) in
        omega (arith, up)

    below : (index : ℕ) → has_pair (pairs_at block (spots_from file 0 len)) (pair_of file index) ≡ true → nat_lt index (blocks_for block len) ≡ true
    below index e = place_in block file 0 len (pair_of file index)
        (λ x low high is. let same : index ≡ x / block = ap (λ (p : BlockPair). p.index) is in let less = enough x (omega (arith, high)) in lt-ltb index (blocks_for block len) (omega (arith, same, less))) e

    has : (index : ℕ) → nat_lt index (blocks_for block len) ≡ true → has_pair (pairs_at block (spots_from file 0 len)) (pair_of file index) ≡ true
    has index e =
        let less = ltb-true index (blocks_for block len) e in
        let down = div-mul-le_self (len + (block - 1)) block in
        let next : index + 1 ≤ blocks_for block len = omega (arith, less) in
        let up = mul-le-mul_right block next in
        let whole = one_more index block in
        block_used block file 0 len index some (omega arith) (omega (arith, down, up, whole, some))
