-- What makes a rope ready.
use Rattle.std.proofs.Common.{◌≡◌, ◌⊎◌, inl, inr, ℕ, ◌+◌, ◌≤◌, ◌<◌, ◌==◌, ◌^◌, Bool, true, false, not, cond, ◌&&◌, ◌||◌, nat_lt, List, [], ◌∷◌, length, Option, Some, None, refl, sym, ◌∙◌, ap, subst, arith, eq-eqb}
use Rattle.std.specs.Prelude.{is_some, nat_le, IsTrue, ◌↔◌, if◌then◌else◌}
use Rattle.std.specs.List.{list_all}
use Rattle.std.proofs.lemmas.Bool.{le-leb, eqb-true}
use Rattle.voice_units.specs.declared.pieces.Piece.{Piece}
use Rattle.voice_units.specs.declared.shapes.Shape.{Shape}
use Rattle.voice_units.specs.Spots.{Spot, spots_of, spots_from, samples_in, pieces_of, nowhere, IsNormal}
use Rattle.voice_units.specs.Blocks.{BlockPair, has_pair, pairs_at, same_pair, blocks_for}
use Rattle.voice_units.proofs.PiecesOfRopes.{both, pieces_of-spots_of, length-spots_from}
use Rattle.voice_units.proofs.Counts.{samples_in_runs}
use Rattle.voice_model.specs.State.{Durable}
use Rattle.voice_model.specs.Replay.{Placed, Rebuilt, is_legal, brings, new_places, used_pairs, may_be_recorded, placed_from, all_differ, is_free_address, has_address}
use Rattle.voice_model.specs.Valid.{Every}
use Rattle.voice_model.specs.Spelling.{keeps_grammar, spelling}
use Rattle.voice_model.specs.declared.changes.Change.{Change}
use Rattle.voice_model.specs.declared.changes.Change.TheVariants as changes
use Rattle.voice_model.proofs.PlacesKept.{same_itself, all_samples}
use Rattle.voice_blocks.specs.Holders.{Holders, holder_at, open_in, with_taken, next_index, without_owner, same_owner, block_of}
use Rattle.voice_blocks.specs.declared.owner.Owner.{Owner}
use Rattle.voice_blocks.specs.declared.owner.Owner.TheVariants.{File, Taking}
use Rattle.voice_blocks.specs.declared.owner.Holder.{Holder}
use Rattle.checkpoint.specs.Blocks.{IsHeld}
use Rattle.rope_algebra.specs.Kept.{IsRope}
use Rattle.rope_table.specs.Table.{uses_at, uses_in, pieces_in, new_pairs}
use Rattle.recovery.specs.declared.parts.Parts.{Parts}
use Rattle.recovery.specs.Shown.{Shows}
use Rattle.recovery.specs.Placing.{is_open}
use Rattle.recovery.proofs.BlocksUsed.{uses_few}
use Rattle.recovery.proofs.Ropes.{uses_shown}
use Rattle.recovery.proofs.Showing.{pieces_few}
use Rattle.recovery.proofs.Rebuilding.{is_below, filter_all}
use Rattle.running_tables.specs.Running.{Runs}
use Rattle.running_tables.specs.Laws.{HaveBlocks, HasFirst}
use Rattle.running_tables.proofs.Taken.{none_yet, taken as tables_taken, used_pledged, first_blocks}
use Rattle.next_ropes.specs.declared.NextRope.{NextRope}
use Rattle.next_ropes.specs.Ready.{IsReady, AreLive, most_held, recorded_change, next_change, new_samples}
use Rattle.next_ropes.specs.Lowest.{lowest_open, AreAt, AreAddresses}
use Rattle.next_ropes.proofs.Performed.{none_new, few_new}
use Rattle.next_ropes.proofs.Spelled.{edit_spelled, recording_spelled}
use Rattle.next_ropes.proofs.TakenLowest.{first_index, lowest_many, lowest_held, lowest_differ, lowest_free}

join : (a b : Bool) → a ≡ true → b ≡ true → (a && b) ≡ true
join a b e f = ap (λ x. x && b) e ∙ f

-- ---- both kinds

-- one more use of a block still fits
pub uses_fit : (held : List (List Piece)) (parts : Parts) (d : Durable Spot) → Shows held parts d → length held ≤ most_held → length parts.ropes.ropes + most_held + 1 < 2 ^ 32 → (pair : BlockPair) → uses_at parts.ropes pair + 1 < 2 ^ 32
uses_fit held parts d h limit few pair =
    let uses = h.uses pair in
    let most = uses_few parts.ropes.block (pieces_in parts.ropes.ropes) pair in
    let passages = uses_few parts.ropes.block held pair in
    let count = pieces_few parts.ropes.ropes in
    omega (arith, uses, most, passages, count, limit, few)

-- ---- edits

each_of : (p : BlockPair → Bool) (xs : List BlockPair) → ((q : BlockPair) → has_pair xs q ≡ true → p q ≡ true) → list_all p xs ≡ true
each_of p [] h = refl
each_of p (x ∷ xs) h = join (p x) (list_all p xs) (h x (ap (λ b. b || has_pair xs x) (same_itself x))) (each_of p xs (λ q e. h q (or_right (same_pair q x) (has_pair xs q) e)))
  where
    or_right : (a b : Bool) → b ≡ true → (a || b) ≡ true
    or_right true b e = refl
    or_right false b e = e

-- the blocks of live ropes are used by what was rebuilt
pub used_blocks : (held : List (List Piece)) (parts : Parts) (b : Rebuilt) (ps : List Piece) → Shows held parts b.kept → AreLive parts ps → HaveBlocks (used_pairs b.kept) b.shape.block ps
used_blocks held parts b ps h live q e =
    let some = live q (ap (λ n. has_pair (pairs_at n (spots_of ps)) q) h.block ∙ e) in
    sym (ap (λ l. nat_lt 0 (uses_in parts.ropes.block (pieces_in l) q)) h.ropes ∙ uses_shown b.shape.graces b.kept.rows parts.ropes.block b.ropes q ∙ ap (λ n. has_pair (pairs_at n (all_samples b.ropes)) q) h.block)
    ∙ is_below 0 (uses_in parts.ropes.block (pieces_in parts.ropes.ropes) q) (omega (arith, some))

pub edit_grammar : (held : List (List Piece)) (takings : List ℕ) (parts : Parts) (b : Rebuilt) (ps : List Piece) → Runs held [] takings parts b → parts.next ≤ 2 ^ 48 → IsRope ps → length ps ≤ 4096 → samples_in ps ≤ 2 ^ 30 → AreLive parts ps → keeps_grammar (changes.Edited b.next ps) ≡ true
edit_grammar held takings parts b ps h high rope many long live =
    let next = h.kept.next in
    edit_spelled b ps h.valid h.placed (omega (arith, high, next)) rope many long (used_blocks held parts b ps h.kept live)

pub edit_ready : (held : List (List Piece)) (takings : List ℕ) (old parts : Parts) (b : Rebuilt) (next : NextRope) (ps : List Piece) → Runs held [] takings old b → Runs held [] takings parts b → length held ≤ most_held → next.id ≡ b.next → next.pieces ≡ ps → next.recorded ≡ false
    → next.payload.items ≡ spelling (changes.Edited b.next ps) → keeps_grammar (changes.Edited b.next ps) ≡ true → IsNormal ps → AreLive old ps
    → 1 ≤ parts.ropes.spare_ropes → length parts.ropes.ropes + most_held + 1 < 2 ^ 32 → IsReady held takings parts b next (changes.Edited b.next ps)
edit_ready held takings old parts b next ps before h limit number same recorded payload grammar normal live room few =
    let used = used_blocks held old b ps before.kept live in
    let all = each_of (has_pair (used_pairs b.kept)) (pairs_at b.shape.block (spots_of ps)) used in
    let none = none_new held b.kept parts parts.ropes ps h.kept refl (λ pair. refl) all in
    record {
      runs = used_pledged held [] takings parts b next.pieces (subst (HaveBlocks (used_pairs b.kept) b.shape.block) (sym same) used) h;
      places = tt;
      legal = join (nat_le b.next b.next) _ (le-leb b.next b.next (omega arith)) all;
      kind = refl;
      grammar = grammar;
      change = sym (ap (λ r. cond r (recorded_change b.form next.id (samples_in next.pieces) next.addresses.items) (changes.Edited next.id next.pieces)) recorded ∙ ap (λ n. changes.Edited n next.pieces) number ∙ ap (changes.Edited b.next) same);
      number = number;
      pieces = same ∙ sym (pieces_of-spots_of ps normal);
      payload = payload;
      room = room;
      pairs = subst (λ (l : List Piece). new_pairs parts.ropes l ≤ parts.ropes.spare_pairs) (sym same) (omega (arith, none));
      fits = λ pair e. uses_fit held parts b.kept h.kept limit few pair;
    }

-- ---- recordings

abbrev either : Bool → ℕ → ℕ → List ℕ → Change
either w id len addresses = cond w (changes.Wide id len addresses) (changes.Recorded id len addresses)

places_of : (w : Bool) (id len : ℕ) (addresses : List ℕ) → new_places (either w id len addresses) ≡ placed_from id 0 addresses
places_of true id len addresses = refl
places_of false id len addresses = refl

samples_of : (w : Bool) (id len : ℕ) (addresses : List ℕ) → new_samples (either w id len addresses) ≡ spots_from id 0 len
samples_of true id len addresses = refl
samples_of false id len addresses = refl

kind_of : (w : Bool) (id len : ℕ) (addresses : List ℕ) → is_some (brings (either w id len addresses)) ≡ true
kind_of true id len addresses = refl
kind_of false id len addresses = refl

legal_of : (b : Rebuilt) (w : Bool) (id len : ℕ) (addresses : List ℕ) → (b.form == 2) ≡ w → (b.form ≡ 1) ⊎ (b.form ≡ 2) → may_be_recorded b id len addresses ≡ true → is_legal b (either w id len addresses) ≡ true
legal_of b true id len addresses e forms may = join (b.form == 2) _ e may
legal_of b false id len addresses e (inl one) may = join (b.form == 1) _ (eq-eqb b.form 1 one) may
legal_of b false id len addresses e (inr two) may = let bad : true ≡ false = sym (eq-eqb b.form 2 two) ∙ e in cc

-- the blocks of a recording have taken the lowest free addresses
pub record IsTaken (held : List (List Piece)) (takings : List ℕ) (old new : Parts) (b : Rebuilt) (count len : ℕ) : Type 0 where
  pub before : Runs held [] takings old b
  pub shows : Shows held new b.kept
  pub form : new.form ≡ old.form
  pub holders : new.blocks.holders ≡ with_taken (File b.next) 0 count old.blocks.holders
  pub needed : count ≡ blocks_for b.shape.block len
  pub enough : count ≤ open_in old.blocks.holders
  pub number : b.next ≤ 2 ^ 48
  pub long : len ≤ 2 ^ 30

take_is : (hs new : Holders) (file n : ℕ) (done : Bool) → n ≤ open_in hs → (IsTrue done ↔ (n ≤ open_in hs)) → new ≡ (if done then with_taken (File file) (next_index (File file) hs) n hs else hs) → next_index (File file) hs ≡ 0 → new ≡ with_taken (File file) 0 n hs
take_is hs new file n true enough exact is first = is ∙ ap (λ i. with_taken (File file) i n hs) first
take_is hs new file n false enough exact is first = let bad : false ≡ true = exact.1 enough in cc

-- what another file holds stays as the blocks of a file that has none are dropped
without_none : (file : ℕ) (o : Option Holder) → ((index : ℕ) → ¬ (o ≡ Some (block_of (File file) index))) → without_owner (File file) o ≡ o
without_none file None fresh = refl
without_none file (Some h) fresh = by (same_owner (File file) h.owner) refl
  where
    of_file : (owner : Owner) (index : ℕ) → same_owner (File file) owner ≡ true → Some (block_of owner index) ≡ Some (block_of (File file) index)
    of_file (File f) index e = ap (λ n. Some (block_of (File n) index)) (sym (eqb-true file f e))
    of_file (Taking lane) index e = cc

    by : (t : Bool) → same_owner (File file) h.owner ≡ t → without_owner (File file) (Some h) ≡ Some h
    by true e = absurd (fresh h.index (of_file h.owner h.index e))
    by false e = ap (λ t. cond t None (Some h)) e

-- the number of the next rope has no block yet
pub no_block_yet : (held : List (List Piece)) (takings : List ℕ) (parts : Parts) (b : Rebuilt) → Runs held [] takings parts b → next_index (File b.next) parts.blocks.holders ≡ 0
no_block_yet held takings parts b h =
    first_index parts.blocks.holders b.next (λ a. without_none b.next (holder_at parts.blocks.holders a) (none_yet held takings parts b h a))

-- the tables as so many addresses are taken of those with room
pub taken : (held other : List (List Piece)) (takings ours : List ℕ) (old room new : Parts) (b w : Rebuilt) (shape : Shape) (count len : ℕ) (done : Bool) → Runs held [] takings old b → Runs other [] ours old w → w.shape ≡ shape → Runs held [] takings room b → room.form ≡ old.form → room.blocks.holders ≡ old.blocks.holders
    → Shows held new b.kept → new.form ≡ room.form → count ≡ blocks_for shape.block len → blocks_for shape.block len ≤ open_in old.blocks.holders → old.next ≤ 2 ^ 48 → len ≤ 2 ^ 30
    → (IsTrue done ↔ (count ≤ open_in room.blocks.holders)) → new.blocks.holders ≡ (if done then with_taken (File old.next) (next_index (File old.next) room.blocks.holders) count room.blocks.holders else room.blocks.holders)
    → IsTaken held takings old new b count len
taken held other takings ours old room new b w shape count len done h k s rooms form holders shows same needed enough number long exact is =
    let next = h.kept.next in
    let block : shape.block ≡ b.shape.block = sym (ap (λ (s : Shape). s.block) s) ∙ sym k.kept.block ∙ h.kept.block in
    let open_room : count ≤ open_in room.blocks.holders = let hs = ap open_in holders in omega (arith, needed, enough, hs) in
    let first : next_index (File old.next) room.blocks.holders ≡ 0 = ap (λ i. next_index (File i) room.blocks.holders) next ∙ no_block_yet held takings room b rooms in
    record {
      before = h;
      shows = shows;
      form = same ∙ form;
      holders = take_is room.blocks.holders new.blocks.holders old.next count done open_room exact is first ∙ ap (λ (l : Holders). with_taken (File old.next) 0 count l) holders ∙ ap (λ i. with_taken (File i) 0 count old.blocks.holders) next;
      needed = needed ∙ ap (λ n. blocks_for n len) block;
      enough = omega (arith, needed, enough);
      number = omega (arith, next, number);
      long = long;
    }

-- the samples of a recording
pub recorded_samples : (id len : ℕ) (pieces : List Piece) → pieces ≡ pieces_of (spots_from id 0 len) → samples_in pieces ≡ len
recorded_samples id len pieces is = ap samples_in is ∙ samples_in_runs nowhere (spots_from id 0 len) ∙ length-spots_from id 0 len

-- an open address is free
not_placed : (hs : Holders) (places : List Placed) (a : ℕ) → Every (IsHeld hs) places → is_some (holder_at hs a) ≡ false → has_address places a ≡ false
not_placed hs [] a held none = refl
not_placed hs (p ∷ places) a held none = by (p.address == a) refl (not_placed hs places a held.1 none)
  where
    by : (t : Bool) → (p.address == a) ≡ t → has_address places a ≡ false → (t || has_address places a) ≡ false
    by true e rest = let some : true ≡ false = sym (ap is_some (ap (holder_at hs) (sym (eqb-true p.address a e)) ∙ held.0)) ∙ none in cc
    by false e rest = rest

open_is_free : (held : List (List Piece)) (takings : List ℕ) (parts : Parts) (b : Rebuilt) → Runs held [] takings parts b → (a : ℕ) → is_open parts.blocks.holders a ≡ true → is_free_address b a ≡ true
open_is_free held takings parts b h a e =
    let tests = both (nat_lt a (length parts.blocks.holders)) (not (is_some (holder_at parts.blocks.holders a))) e in
    join (nat_lt a b.shape.blocks) _ (ap (nat_lt a) (sym h.size) ∙ tests.0)
    (ap (λ l. not (has_address l a)) (filter_all (λ (place : Placed). has_pair (used_pairs b.kept) place.pair) b.places h.used)
    ∙ ap not (not_placed parts.blocks.holders b.places a h.addresses (is_false (is_some (holder_at parts.blocks.holders a)) tests.1)))
  where
    is_false : (t : Bool) → not t ≡ true → t ≡ false
    is_false true e = cc
    is_false false e = refl

all_imply : (p q : ℕ → Bool) → ((a : ℕ) → p a ≡ true → q a ≡ true) → (list : List ℕ) → list_all p list ≡ true → list_all q list ≡ true
all_imply p q f [] h = refl
all_imply p q f (a ∷ list) h = let tests = both (p a) (list_all p list) h in join (q a) (list_all q list) (f a tests.0) (all_imply p q f list tests.1)

-- addresses that have the blocks of a file are held by them
are_held : (hs : Holders) (file index : ℕ) (addresses : List ℕ) → AreAt hs file index addresses → Every (IsHeld hs) (placed_from file index addresses)
are_held hs file index [] h = tt
are_held hs file index (a ∷ rest) h = (h.0, are_held hs file (index + 1) rest h.1)

module _ (held : List (List Piece)) (takings : List ℕ) (old new : Parts) (b : Rebuilt) (count len : ℕ) (h : IsTaken held takings old new b count len) where
  many : length (lowest_open count old.blocks.holders) ≡ count
  many = lowest_many 0 count old.blocks.holders h.enough

  free : list_all (is_open old.blocks.holders) (lowest_open count old.blocks.holders) ≡ true
  free = lowest_free old.blocks.holders 0 count old.blocks.holders (omega arith) (λ a x e. ap (holder_at old.blocks.holders) (let same : x ≡ a = omega (arith, e) in same))

  pub taken_may : may_be_recorded b b.next len (lowest_open count old.blocks.holders) ≡ true
  taken_may =
      join _ (list_all (is_free_address b) (lowest_open count old.blocks.holders))
      (join _ (all_differ (lowest_open count old.blocks.holders))
      (join (nat_le b.next b.next) _ (le-leb b.next b.next (omega arith)) (eq-eqb (length (lowest_open count old.blocks.holders)) (blocks_for b.shape.block len) (many ∙ h.needed)))
      (lowest_differ 0 count old.blocks.holders))
      (all_imply (is_open old.blocks.holders) (is_free_address b) (open_is_free held takings old b h.before) (lowest_open count old.blocks.holders) free)

  pub taken_addresses : AreAddresses new.blocks.holders b.next count (lowest_open count old.blocks.holders)
  taken_addresses = record {
    many = many;
    each = lowest_held new.blocks.holders b.next 0 0 0 count old.blocks.holders refl (λ a x e. ap (λ (l : Holders). holder_at l x) h.holders ∙ ap (holder_at (with_taken (File b.next) 0 count old.blocks.holders)) (let same : x ≡ a = omega (arith, e) in same));
  }

  pub taken_runs : Runs held (pieces_of (spots_from b.next 0 len) ∷ []) takings new b
  taken_runs =
      let some = b.shape.conditions.some_block in
      tables_taken held takings old new b count (pieces_of (spots_from b.next 0 len)) h.before h.shows h.form h.enough h.holders
      (subst (λ n. HasFirst b.shape.block b.next n (pieces_of (spots_from b.next 0 len))) (sym h.needed) (first_blocks b.shape.block b.next len (omega (arith, some))))

  pub taken_grammar : keeps_grammar (recorded_change b.form b.next len (lowest_open count old.blocks.holders)) ≡ true
  taken_grammar = recording_spelled b old.blocks.holders len (lowest_open count old.blocks.holders) h.before.valid h.number h.long h.before.size (many ∙ h.needed) free

  pub recording_ready : (next : NextRope) → length held ≤ most_held → next.id ≡ b.next → next.recorded ≡ true → next.pieces ≡ pieces_of (spots_from b.next 0 len) → samples_in next.pieces ≡ len → next.addresses.items ≡ (lowest_open count old.blocks.holders)
      → next.payload.items ≡ spelling (recorded_change b.form b.next len (lowest_open count old.blocks.holders)) → 1 ≤ new.ropes.spare_ropes → count ≤ new.ropes.spare_pairs → length new.ropes.ropes + most_held + 1 < 2 ^ 32 → IsReady held takings new b next (next_change b.form next)
  recording_ready next limit number recorded pieces samples listed payload room pairs few =
      subst (IsReady held takings new b next) (sym is)
      (record {
        runs = subst (λ l. Runs held (l ∷ []) takings new b) (sym pieces) taken_runs;
        places = subst (Every (IsHeld new.blocks.holders)) (sym (places_of (b.form == 2) b.next len (lowest_open count old.blocks.holders))) (are_held new.blocks.holders b.next 0 (lowest_open count old.blocks.holders) taken_addresses.each);
        legal = legal_of b (b.form == 2) b.next len (lowest_open count old.blocks.holders) refl h.before.valid.forms taken_may;
        kind = kind_of (b.form == 2) b.next len (lowest_open count old.blocks.holders);
        grammar = taken_grammar;
        change = sym is;
        number = number;
        pieces = pieces ∙ sym (ap pieces_of (samples_of (b.form == 2) b.next len (lowest_open count old.blocks.holders)));
        payload = payload;
        room = room;
        pairs =
            let block = h.shows.block in
            let some = b.shape.conditions.some_block in
            let most = few_new new.ropes next.pieces b.next len (omega (arith, block, some)) pieces in
            let same : blocks_for new.ropes.block len ≡ blocks_for b.shape.block len = ap (λ n. blocks_for n len) block in
            let needed = h.needed in
            omega (arith, most, same, needed, pairs);
        fits = λ pair e. uses_fit held new b.kept h.shows limit few pair;
      })
    where
      is : next_change b.form next ≡ recorded_change b.form b.next len (lowest_open count old.blocks.holders)
      is =
          ap (λ r. cond r (recorded_change b.form next.id (samples_in next.pieces) next.addresses.items) (changes.Edited next.id next.pieces)) recorded
          ∙ ap (λ n. recorded_change b.form n (samples_in next.pieces) next.addresses.items) number
          ∙ ap (λ n. recorded_change b.form b.next n next.addresses.items) samples
          ∙ ap (recorded_change b.form b.next len) listed
