-- The free addresses of tables that show a state.
use Rattle.std.proofs.Common.{◌≡◌, ℕ, zero, suc, ◌+◌, ◌-◌, ◌*◌, true, ◌||◌, List, [], ◌∷◌, ◌++◌, map, length, Some, None, sym, ◌∙◌, ap, subst, arith}
use Rattle.std.proofs.lemmas.Bool.{ltb-true}
use Rattle.voice_units.specs.Blocks.{BlockPair, same_pair, has_pair, distinct}
use Rattle.voice_units.proofs.Distinct.{same_pair-true, same_count}
use Rattle.voice_model.specs.Samples.{Tagged}
use Rattle.voice_model.specs.State.{Durable}
use Rattle.voice_model.specs.Room.{pairs_of, samples_in_use, used}
use Rattle.voice_model.specs.Replay as replay
use Rattle.voice_model.specs.Replay.{Rebuilt, used_pairs, has_place, durable_by}
use Rattle.voice_model.specs.Valid.{Every}
use Rattle.voice_model.proofs.KeptByChanges.{same_bool}
use Rattle.voice_model.proofs.PlacesKept.{same_itself, used_placed}
use Rattle.voice_blocks.specs.Holders.{Holders, holder_at, open_in, block_of}
use Rattle.voice_blocks.specs.declared.owner.Owner.{Owner}
use Rattle.voice_blocks.specs.declared.owner.Owner.TheVariants.{File, Taking}
use Rattle.voice_blocks.specs.declared.owner.Holder.{Holder}
use Rattle.rope_table.specs.Table.{pair_of, pairs_in}
use Rattle.checkpoint.specs.Blocks.{IsHeld}
use Rattle.running_tables.specs.Running.{taken, is_wanted, code_of, given, GivesJust, IsGiven, held_in, pledged_in, takings_in}
use Rattle.running_tables.specs.Laws.{Placed, CountsUsed, CountsFree}
use Rattle.running_tables.proofs.Counts.{given_at, each_once}
use Rattle.running_tables.proofs.Begins.{some_is, divided}
use Rattle.running_tables.proofs.Codes.{even, has_even, some_even, odds, in_odds, odds_have, all_count, total}
use Rattle.voice_blocks.proofs.Apart.{either_way, or_left, or_right, has_append}
use Rattle.running_tables.proofs.Passages.{used_by_state, total_taken}

-- a block that has an address was given out
at_given : (hs : Holders) (a : ℕ) (h : Holder) → holder_at hs a ≡ Some h → has_pair (given hs) (code_of h.owner h.index) ≡ true
at_given [] a h e = cc
at_given (None ∷ hs) zero h e = cc
at_given (None ∷ hs) (suc a) h e = at_given hs a h e
at_given (Some g ∷ hs) zero h e =
    let same : g ≡ h = some_is e in
    or_left (same_pair (code_of h.owner h.index) (code_of g.owner g.index)) (has_pair (given hs) (code_of h.owner h.index))
    (ap (λ (x : Holder). same_pair (code_of h.owner h.index) (code_of x.owner x.index)) same ∙ same_itself (code_of h.owner h.index))
at_given (Some g ∷ hs) (suc a) h e = or_right (same_pair (code_of h.owner h.index) (code_of g.owner g.index)) (has_pair (given hs) (code_of h.owner h.index)) (at_given hs a h e)

-- a block with a place has an address
pub place_given : (hs : Holders) (places : List replay.Placed) (q : BlockPair) → Every (IsHeld hs) places → has_place places q ≡ true → IsGiven hs (block_of (File q.file) q.index)
place_given hs [] q held e = cc
place_given hs (place ∷ places) q held e =
    either_way (same_pair place.pair q) (has_place places q)
    (λ k. (place.address, subst (λ (p : BlockPair). holder_at hs place.address ≡ Some (block_of (File p.file) p.index)) (same_pair-true place.pair q k) held.0))
    (λ k. place_given hs places q held.1 k) e

pub rope_blocks : Placed
rope_blocks held pledged takings parts b runs q e = place_given parts.blocks.holders b.places q runs.addresses (used_placed b.shape.block b.places b.ropes q runs.placed.placed e)

-- the numbers of all blocks in use
abbrev all_wanted : List BlockPair → List ℕ → List BlockPair
all_wanted ps takings = map even ps ++ odds 0 takings

-- what is given out is in use
wanted_there : (pairs others ps : List BlockPair) (takings : List ℕ) → ((q : BlockPair) → has_pair ps q ≡ (has_pair pairs q || has_pair others q)) → (owner : Owner) (index : ℕ) → is_wanted pairs others takings owner index ≡ true → has_pair (all_wanted ps takings) (code_of owner index) ≡ true
wanted_there pairs others ps takings alike (File file) index e =
    has_append (map even ps) (odds 0 takings) (code_of (File file) index)
    ∙ or_left (has_pair (map even ps) (code_of (File file) index)) (has_pair (odds 0 takings) (code_of (File file) index)) (has_even ps (pair_of file index) ∙ alike (pair_of file index) ∙ e)
wanted_there pairs others ps takings alike (Taking lane) index e =
    has_append (map even ps) (odds 0 takings) (code_of (Taking lane) index)
    ∙ or_right (has_pair (map even ps) (code_of (Taking lane) index)) (has_pair (odds 0 takings) (code_of (Taking lane) index)) (odds_have 0 takings lane lane index (omega arith) (ltb-true index (taken takings lane) e))

given_there : (hs : Holders) (pairs others ps : List BlockPair) (takings : List ℕ) → ((q : BlockPair) → has_pair ps q ≡ (has_pair pairs q || has_pair others q)) → GivesJust hs pairs others takings → (q : BlockPair) → has_pair (given hs) q ≡ true → has_pair (all_wanted ps takings) q ≡ true
given_there hs pairs others ps takings alike gives q e =
    let r = given_at hs q e in
    subst (λ x. has_pair (all_wanted ps takings) x ≡ true) r.3 (wanted_there pairs others ps takings alike r.1.owner r.1.index (gives.only r.0 r.1 r.2))

-- what is in use is given out
there_given : (hs : Holders) (pairs others ps : List BlockPair) (takings : List ℕ) → ((q : BlockPair) → has_pair ps q ≡ (has_pair pairs q || has_pair others q)) → ((q : BlockPair) → has_pair pairs q ≡ true → IsGiven hs (block_of (File q.file) q.index)) → GivesJust hs pairs others takings → (q : BlockPair) → has_pair (all_wanted ps takings) q ≡ true → has_pair (given hs) q ≡ true
there_given hs pairs others ps takings alike placed gives q e =
    either_way (has_pair (map even ps) q) (has_pair (odds 0 takings) q)
    (λ k. let r = some_even ps q k in
    subst (λ x. has_pair (given hs) x ≡ true) r.2 (of_file r.0 (sym (alike r.0) ∙ r.1)))
    (λ k. let r = in_odds 0 takings q k in
    let at = gives.recordings r.at q.index r.within in
    let number = r.of_lane in
    subst (λ f. has_pair (given hs) (record { file = f; index = q.index }) ≡ true) (lane_number r.at q.file number) (at_given hs at.0 (block_of (Taking r.at) q.index) at.1))
    (sym (has_append (map even ps) (odds 0 takings) q) ∙ e)
  where
    of_file : (p : BlockPair) → (has_pair pairs p || has_pair others p) ≡ true → has_pair (given hs) (even p) ≡ true
    of_file p k =
        let at : IsGiven hs (block_of (File p.file) p.index) = either_way (has_pair pairs p) (has_pair others p) (placed p) (gives.passages p) k in
        at_given hs at.0 (block_of (File p.file) p.index) at.1

    lane_number : (lane file : ℕ) → file ≡ 2 * (0 + lane) + 1 → 2 * lane + 1 ≡ file
    lane_number lane file k = omega (arith, k)

-- as many addresses are given out as blocks are in use
given_count : (hs : Holders) (pairs others ps : List BlockPair) (takings : List ℕ) → ((q : BlockPair) → has_pair ps q ≡ (has_pair pairs q || has_pair others q)) → ((q : BlockPair) → has_pair pairs q ≡ true → IsGiven hs (block_of (File q.file) q.index)) → GivesJust hs pairs others takings → length (given hs) ≡ length (distinct ps) + total takings
given_count hs pairs others ps takings alike placed gives =
    ap length (sym (each_once hs gives.single))
    ∙ same_count (given hs) (all_wanted ps takings)
    (λ q. same_bool (has_pair (given hs) q) (has_pair (all_wanted ps takings) q) (given_there hs pairs others ps takings alike gives q) (there_given hs pairs others ps takings alike placed gives q))
    ∙ all_count ps takings

-- what is free and what is in use are all blocks
pub counts_used : CountsUsed
counts_used parts b s fill same kept runs =
    let count = given_count parts.blocks.holders (used_pairs b.kept) (pairs_in b.shape.block (held_in s ++ pledged_in s)) (pairs_of s.shape.block (samples_in_use s)) (takings_in s) (used_by_state b s fill same kept)
    (rope_blocks (held_in s) (pledged_in s) (takings_in s) parts b runs) runs.given in
    let in_all : length (given parts.blocks.holders) ≡ used s = count ∙ ap (λ n. length (distinct (pairs_of s.shape.block (samples_in_use s))) + n) (total_taken s.shape.block s.lanes) in
    let blocks : length parts.blocks.holders ≡ s.shape.blocks = runs.size ∙ ap (λ (d : Durable Tagged). d.shape.blocks) kept in
    ap (λ n. open_in parts.blocks.holders + n) (sym in_all) ∙ divided parts.blocks.holders ∙ blocks

pub counts_free : CountsFree
counts_free parts b s fill same kept runs = left_over (open_in parts.blocks.holders) (used s) s.shape.blocks (counts_used parts b s fill same kept runs)
  where
    left_over : (o u blocks : ℕ) → o + u ≡ blocks → o ≡ blocks - u
    left_over o u blocks e = omega (arith, e)
