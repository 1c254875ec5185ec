-- What the tables show after a file or a rope of a base.
use Rattle.std.proofs.Common.{◌≡◌, ℕ, ◌+◌, ◌-◌, ◌≤◌, ◌<◌, ◌==◌, Bool, true, false, cond, not, ◌&&◌, ◌||◌, nat_lt, nat_le, List, [], ◌∷◌, ◌++◌, map, length, Option, Some, None, refl, sym, ◌∙◌, ap, subst, arith}
use Rattle.std.specs.Prelude.{is_some, option_map}
use Rattle.std.specs.List.{list_all}
use Rattle.std.proofs.lemmas.Bool.{ltb-true, leb-true}
use Rattle.std.proofs.lemmas.List.Folds.{list_all-append, list_any-append}
use Rattle.voice_units.specs.declared.shapes.Graces.{Graces}
use Rattle.voice_units.specs.declared.pieces.Piece.{Piece}
use Rattle.voice_units.specs.Spots.{Spot, spots_of, pieces_of}
use Rattle.voice_units.specs.Blocks.{BlockPair, has_pair, same_pair}
use Rattle.voice_units.proofs.PiecesOfRopes.{both}
use Rattle.voice_model.specs.State.{Durable, Live, has_row}
use Rattle.voice_model.specs.Changes.{wait_of}
use Rattle.voice_model.specs.Spelling.{keeps_grammar, is_file, is_id}
use Rattle.voice_model.specs.Replay.{Placed, Rebuilt, is_legal, acted, used_pairs, takes_files, has_address, all_differ, place_of, may_be_file, may_be_rope, with_file, with_base_rope}
use Rattle.voice_model.specs.Valid.{Every, Rising, IsRebuilt}
use Rattle.voice_model.specs.Places.{IsPlaced}
use Rattle.voice_model.specs.declared.calls.Row.{Row}
use Rattle.voice_model.specs.declared.changes.Change.{Change}
use Rattle.voice_model.specs.declared.lists.Pair.{Pair}
use Rattle.voice_model.proofs.KeptByChanges.{every-append, every-imply}
use Rattle.voice_model.proofs.PlacesKept.{placed_next, same_itself}
use Rattle.voice_model.proofs.StatesOfReplay.{rebuilt_next}
use Rattle.voice_blocks.specs.Holders.{Holders, holder_at, block_of}
use Rattle.voice_blocks.specs.declared.owner.Owner.TheVariants.{File}
use Rattle.rope_table.specs.Table as table
use Rattle.rope_table.specs.Table.{Table, Counts, made_rope, number_above, pair_of, rope_of}
use Rattle.recovery.specs.declared.building.Stage.TheVariants as stages
use Rattle.recovery.specs.declared.building.Block.{Block}
use Rattle.recovery.specs.declared.building.Building.{Building}
use Rattle.recovery.specs.Shown.{ShowsKept, ShowsPlaces, IsOrderly, shown_rope, placed_at, plain_sample}
use Rattle.recovery.specs.Placing.{or_else, is_open}
use Rattle.recovery.specs.Building.{Builds, phase_of, block_in, is_noted, is_known}
use Rattle.recovery.proofs.BlocksUsed.{same_all}
use Rattle.recovery.proofs.Ropes.{shown_as, put_last, not_live, no_row_of, rope_of-shown}
use Rattle.recovery.proofs.Rebuilding.{more_used, orderly_rebuilt}
use Rattle.recovery.proofs.Recordings.{some_address, placed_append}

-- ---- whether a file may come

open_here : (holders : Holders) (blocks : ℕ) (places : List Placed) → ShowsPlaces holders blocks places → (a : ℕ) → is_open holders a ≡ (nat_lt a blocks && not (has_address places a))
open_here holders blocks places h a = ap (λ n. nat_lt a n && not (is_some (holder_at holders a))) h.size ∙ ap (λ b. nat_lt a blocks && not b) (ap is_some (h.each a) ∙ some_address places a)

first_three : (a b c d e : Bool) → a ≡ true → b ≡ true → c ≡ true → (d && e) ≡ ((((a && b) && c) && d) && e)
first_three true true true d e f g h = refl
first_three true true false d e f g h = cc
first_three true false c d e f g h = cc
first_three false b c d e f g h = cc

pub first_fails : (a b c d e : Bool) → a ≡ false → false ≡ ((((a && b) && c) && d) && e)
first_fails false b c d e h = refl
first_fails true b c d e h = cc

pub second_fails : (a b c d e : Bool) → b ≡ false → false ≡ ((((a && b) && c) && d) && e)
second_fails true false c d e h = refl
second_fails false false c d e h = refl
second_fails a true c d e h = cc

pub third_fails : (a b c d e : Bool) → c ≡ false → false ≡ ((((a && b) && c) && d) && e)
third_fails true true false d e h = refl
third_fails true false false d e h = refl
third_fails false b false d e h = refl
third_fails a b true d e h = cc

pub fourth_fails : (a b c d e : Bool) → d ≡ false → false ≡ ((((a && b) && c) && d) && e)
fourth_fails true true true false e h = refl
fourth_fails true true false false e h = refl
fourth_fails true false c false e h = refl
fourth_fails false b c false e h = refl
fourth_fails a b c true e h = cc

pub legal_file : (holders : Holders) (r : Rebuilt) (file : ℕ) (pairs : List Pair) (b : Bool) → ShowsPlaces holders r.shape.blocks r.places → takes_files r.phase ≡ true → list_all (λ place. nat_lt place.pair.file file) r.places ≡ true → nat_lt file r.next ≡ true
    → b ≡ (all_differ (map (λ (pair : Pair). pair.address) pairs) && list_all (λ (pair : Pair). is_open holders pair.address) pairs) → b ≡ may_be_file r file pairs
legal_file holders r file pairs b shows phase later known e =
    e ∙ ap (λ x. all_differ (map (λ (pair : Pair). pair.address) pairs) && x)
    (same_all (λ (pair : Pair). is_open holders pair.address) (λ (pair : Pair). nat_lt pair.address r.shape.blocks && not (has_address r.places pair.address)) (λ pair. open_here holders r.shape.blocks r.places shows pair.address) pairs)
    ∙ first_three (takes_files r.phase) (list_all (λ place. nat_lt place.pair.file file) r.places) (nat_lt file r.next) (all_differ (map (λ (pair : Pair). pair.address) pairs))
    (list_all (λ (pair : Pair). nat_lt pair.address r.shape.blocks && not (has_address r.places pair.address)) pairs) phase later known

-- a file above all that came has no block
pub none_of_later : (holders : Holders) (places : List Placed) (file : ℕ) → ((a : ℕ) → holder_at holders a ≡ placed_at places a) → list_all (λ place. nat_lt place.pair.file file) places ≡ true → (a index : ℕ) → ¬ (holder_at holders a ≡ Some (block_of (File file) index))
none_of_later holders places file shows later a index e = not_there places later (sym (shows a) ∙ e)
  where
    file_held : (f i : ℕ) → Some (block_of (File f) i) ≡ Some (block_of (File file) index) → f ≡ file
    file_held f i e = let same : block_of (File f) i ≡ block_of (File file) index = cc in let owners = ap (λ h. h.owner) same in cc

    not_there : (places : List Placed) → list_all (λ place. nat_lt place.pair.file file) places ≡ true → ¬ (placed_at places a ≡ Some (block_of (File file) index))
    not_there [] h e = cc
    not_there (place ∷ places) h e =
        let tests = both (nat_lt place.pair.file file) (list_all (λ place. nat_lt place.pair.file file) places) h in
        let less = ltb-true place.pair.file file tests.0 in by_test (place.address == a) refl less (not_there places tests.1)
      where
        by_test : (b : Bool) → (place.address == a) ≡ b → place.pair.file < file → ¬ (placed_at places a ≡ Some (block_of (File file) index)) → ⊥
        by_test true k less rest =
            let same = file_held place.pair.file place.pair.index (sym (ap (λ b. cond b (Some (block_of (File place.pair.file) place.pair.index)) (placed_at places a)) k) ∙ e) in omega (arith, less, same)
        by_test false k less rest = rest (sym (ap (λ b. cond b (Some (block_of (File place.pair.file) place.pair.index)) (placed_at places a)) k) ∙ e)

-- ---- the tables after a file

or_right : (a b : Bool) → b ≡ true → (a || b) ≡ true
or_right true b e = refl
or_right false b e = e

or_left : (a b : Bool) → a ≡ true → (a || b) ≡ true
or_left a b e = ap (λ x. x || b) e

-- all blocks of a file are below a number where the file is
below_all : (file x : ℕ) (pairs : List Pair) → 1 ≤ length pairs → list_all (λ place. nat_lt place.pair.file x) (map (place_of file) pairs) ≡ nat_lt file x
below_all file x [] some = absurd (omega (arith, some))
below_all file x (pair ∷ pairs) some = more (nat_lt file x) refl pairs
  where
    more : (b : Bool) → nat_lt file x ≡ b → (pairs : List Pair) → list_all (λ place. nat_lt place.pair.file x) (map (place_of file) (pair ∷ pairs)) ≡ nat_lt file x
    more b e [] = last (nat_lt file x)
      where
        last : (b : Bool) → (b && true) ≡ b
        last true = refl
        last false = refl
    more b e (other ∷ pairs) = again (nat_lt file x) (list_all (λ place. nat_lt place.pair.file x) (map (place_of file) pairs)) (more b e pairs)
      where
        again : (b c : Bool) → (b && c) ≡ b → (b && (b && c)) ≡ b
        again true c e = e
        again false c e = refl

lower_and : (low high x : ℕ) → low < high → (nat_lt low x && nat_lt high x) ≡ nat_lt high x
lower_and low high x less = by_test (nat_lt high x) refl
  where
    above : high < x → nat_lt low x ≡ true
    above h = grind (arith, h, less)

    none : (b : Bool) → (b && false) ≡ false
    none true = refl
    none false = refl

    by_test : (b : Bool) → nat_lt high x ≡ b → (nat_lt low x && b) ≡ b
    by_test true e = ap (λ b. b && true) (above (ltb-true high x e))
    by_test false e = none (nat_lt low x)

all_noted_here : (file : ℕ) (pairs : List Pair) → Every (λ place. is_noted (map (block_in file) pairs) place.pair ≡ true) (map (place_of file) pairs)
all_noted_here file [] = tt
all_noted_here file (pair ∷ pairs) = (
  or_left (same_pair (pair_of file pair.index) (place_of file pair).pair) (is_noted (map (block_in file) pairs) (place_of file pair).pair) (same_itself (pair_of file pair.index)),
  every-imply (λ (place : Placed). is_noted (map (block_in file) pairs) place.pair ≡ true) (λ (place : Placed). is_noted (map (block_in file) (pair ∷ pairs)) place.pair ≡ true)
      (λ place e. or_right (same_pair (pair_of file pair.index) place.pair) (is_noted (map (block_in file) pairs) place.pair) e) (map (place_of file) pairs) (all_noted_here file pairs),
)

noted_append : (noted more : List Block) (pair : BlockPair) → is_noted (noted ++ more) pair ≡ (is_noted noted pair || is_noted more pair)
noted_append noted more pair = list_any-append (λ (block : Block). same_pair (pair_of block.file block.index) pair) noted more

pub built_file : (old new : Building) (r : Rebuilt) (c : Change) (file : ℕ) (pairs : List Pair) → Builds old r → is_legal r c ≡ true → keeps_grammar c ≡ true → acted r c ≡ with_file r file pairs
    → takes_files r.phase ≡ true → old.last_file < file → 1 ≤ length pairs
    → new.parts.ropes ≡ old.parts.ropes → new.parts.interests ≡ old.parts.interests → new.parts.moment ≡ old.parts.moment → new.parts.next ≡ old.parts.next → new.parts.form ≡ old.parts.form
    → length new.parts.blocks.holders ≡ length old.parts.blocks.holders
    → ((a : ℕ) → holder_at new.parts.blocks.holders a ≡ or_else (holder_at old.parts.blocks.holders a) (placed_at (map (place_of file) pairs) a))
    → new.stage ≡ old.stage → new.last_file ≡ file → new.noted.items ≡ old.noted.items ++ map (block_in file) pairs → Builds new (acted r c)
built_file old new r c file pairs h legal grammar acts phase later some ropes interests moment next form size each stage last noted =
    let fresh = map (place_of file) pairs in
    subst (Builds new) (sym acts)
    (record {
      kept = record {
        block = ap (λ (t : Table). t.block) ropes ∙ h.kept.block;
        ropes = ap (λ (t : Table). t.ropes) ropes ∙ h.kept.ropes;
        uses = subst (λ (t : Table). Counts t []) (sym ropes) h.kept.uses;
        rows = ap (λ t. t.rows) interests ∙ h.kept.rows;
        moment = moment ∙ h.kept.moment;
        next = next ∙ h.kept.next;
      };
      places = record { size = size ∙ h.places.size; each = λ a. each a ∙ ap (λ o. or_else o (placed_at fresh a)) (h.places.each a) ∙ sym (placed_append r.places fresh a) };
      in_form = form ∙ h.in_form;
      valid = subst (IsRebuilt plain_sample) acts (rebuilt_next plain_sample (λ s. refl) r c h.valid legal grammar);
      placed = subst IsPlaced acts (placed_next r c h.placed legal grammar);
      stage = ap phase_of stage ∙ h.stage;
      files = λ e x least.
          list_all-append (λ (place : Placed). nat_lt place.pair.file x) r.places fresh ∙ ap (λ b. b && list_all (λ place. nat_lt place.pair.file x) fresh) (h.files phase x least)
          ∙ ap (λ b. nat_lt old.last_file x && b) (below_all file x pairs some) ∙ lower_and old.last_file file x later ∙ ap (λ n. nat_lt n x) (sym last);
      known =
          subst (λ l. Every (λ place. is_known l r.kept place.pair ≡ true) (r.places ++ fresh)) (sym noted)
          (every-append (λ (place : Placed). is_known (old.noted.items ++ map (block_in file) pairs) r.kept place.pair ≡ true) r.places fresh
          (every-imply (λ (place : Placed). is_known old.noted.items r.kept place.pair ≡ true) (λ (place : Placed). is_known (old.noted.items ++ map (block_in file) pairs) r.kept place.pair ≡ true)
          (λ place e.
          ap (λ b. has_pair (used_pairs r.kept) place.pair || b) (noted_append old.noted.items (map (block_in file) pairs) place.pair)
          ∙ more (has_pair (used_pairs r.kept) place.pair) (is_noted old.noted.items place.pair) (is_noted (map (block_in file) pairs) place.pair) e) r.places h.known)
          (every-imply (λ (place : Placed). is_noted (map (block_in file) pairs) place.pair ≡ true) (λ (place : Placed). is_known (old.noted.items ++ map (block_in file) pairs) r.kept place.pair ≡ true)
          (λ place e.
          ap (λ b. has_pair (used_pairs r.kept) place.pair || b) (noted_append old.noted.items (map (block_in file) pairs) place.pair)
          ∙ or_right (has_pair (used_pairs r.kept) place.pair) (is_noted old.noted.items place.pair || is_noted (map (block_in file) pairs) place.pair) (or_right (is_noted old.noted.items place.pair) (is_noted (map (block_in file) pairs) place.pair) e)) fresh
          (all_noted_here file pairs)));
    })
  where
    more : (a b c : Bool) → (a || b) ≡ true → (a || (b || c)) ≡ true
    more true b c e = refl
    more false true c e = refl
    more false false c e = cc

-- ---- whether a rope may come

not_below : (id n : ℕ) → 1 ≤ id → nat_lt (id - 1) n ≡ not (nat_lt n id)
not_below id n some = grind (arith, some)

-- no rope has this number or a greater one
pub above_shown : (g : Graces) (rows : List Row) (ropes : List (Live Spot)) (id : ℕ) → 1 ≤ id → is_some (number_above (map (shown_rope g rows) ropes) (id - 1)) ≡ not (list_all (λ rope. nat_lt rope.id id) ropes)
above_shown g rows [] id some = refl
above_shown g rows (rope ∷ ropes) id some = by_test (nat_lt rope.id id) refl (above_shown g rows ropes id some)
  where
    rest : Option ℕ
    rest = number_above (map (shown_rope g rows) ropes) (id - 1)

    by_test : (b : Bool) → nat_lt rope.id id ≡ b → is_some rest ≡ not (list_all (λ rope. nat_lt rope.id id) ropes)
        → is_some (cond (nat_lt (id - 1) rope.id) (Some rope.id) rest) ≡ not (nat_lt rope.id id && list_all (λ rope. nat_lt rope.id id) ropes)
    by_test true e later =
        ap (λ b. is_some (cond b (Some rope.id) rest)) (not_below id rope.id some ∙ ap not e) ∙ later ∙ sym (ap (λ b. not (b && list_all (λ rope. nat_lt rope.id id) ropes)) e)
    by_test false e later = ap (λ b. is_some (cond b (Some rope.id) rest)) (not_below id rope.id some ∙ ap not e) ∙ sym (ap (λ b. not (b && list_all (λ rope. nat_lt rope.id id) ropes)) e)

pub all_true : (a b c d e : Bool) → a ≡ true → b ≡ true → c ≡ true → d ≡ true → e ≡ ((((a && b) && c) && d) && e)
all_true true true true true e f g h k = refl
all_true true true true false e f g h k = cc
all_true true true false d e f g h k = cc
all_true true false c d e f g h k = cc
all_true false b c d e f g h k = cc

-- ---- the tables after a rope

rising_below : (low id : ℕ) (ropes : List (Live Spot)) (next : ℕ) → low ≤ id → list_all (λ rope. nat_lt rope.id id) ropes ≡ true → Rising low ropes next → Rising low ropes id
rising_below low id [] next e h k = e
rising_below low id (rope ∷ ropes) next e h k =
    let tests = both (nat_lt rope.id id) (list_all (λ rope. nat_lt rope.id id) ropes) h in
    let less = ltb-true rope.id id tests.0 in
    (k.0, rising_below (rope.id + 1) id ropes next (omega (arith, less)) tests.1 k.1)

-- a number above all live ones is not live
pub new_number : (form id : ℕ) (d : Durable Spot) → IsOrderly form d → 1 ≤ id → list_all (λ rope. nat_lt rope.id id) d.ropes ≡ true → Rising 1 d.ropes id
new_number form id d orderly some above = rising_below 1 id d.ropes d.next some above orderly.rising

base_rope_shown : (form : ℕ) (d : Durable Spot) (old new : Table) (rows : List Row) (moment next wait : ℕ) (rope : Live Spot)
    → ShowsKept [] old rows moment next d → IsOrderly form d → 1 ≤ rope.id → list_all (λ x. nat_lt x.id rope.id) d.ropes ≡ true → wait ≡ wait_of d.shape.graces rope.last
    → new.ropes ≡ table.with_rope (made_rope rope.id (pieces_of rope.samples) rope.idle rope.last wait) old.ropes → new.block ≡ old.block → Counts new []
    → ShowsKept [] new rows moment next (record d { ropes = d.ropes ++ rope ∷ [] })
base_rope_shown form d old new rows moment next wait rope h orderly some above waits ropes block uses =
    let g = d.shape.graces in
    let rising = new_number form rope.id d orderly some above in
    let fresh : has_row d.rows rope.id ≡ false = no_row_of d.ropes d.rows rope.id orderly.rows_live (not_live 1 d.ropes rope.id rope.id rising (omega arith)) in
    record {
      block = block ∙ h.block;
      ropes =
          ropes ∙ ap (λ w. table.with_rope (made_rope rope.id (pieces_of rope.samples) rope.idle rope.last w) old.ropes) waits
          ∙ ap (λ k. table.with_rope (shown_as g k rope) old.ropes) (sym fresh)
          ∙ ap (table.with_rope (shown_rope g d.rows rope)) h.ropes
          ∙ put_last g d.rows 1 d.ropes rope.id rope rising (omega arith);
      uses = uses;
      rows = h.rows;
      moment = h.moment;
      next = h.next;
    }

pub built_rope : (old new : Building) (r : Rebuilt) (c : Change) (id idle last wait : ℕ) (pieces : List Piece) (between : Table) → Builds old r → is_legal r c ≡ true → keeps_grammar c ≡ true → acted r c ≡ with_base_rope r id idle last pieces
    → IsOrderly r.form r.kept → 1 ≤ id → list_all (λ rope. nat_lt rope.id id) r.ropes ≡ true → wait ≡ wait_of r.shape.graces last
    → ShowsKept [] between old.parts.interests.rows old.parts.moment old.parts.next r.kept
    → new.parts.ropes.ropes ≡ table.with_rope (made_rope id (pieces_of (spots_of pieces)) idle last wait) between.ropes → new.parts.ropes.block ≡ between.block → Counts new.parts.ropes []
    → new.parts.interests ≡ old.parts.interests → new.parts.blocks ≡ old.parts.blocks → new.parts.moment ≡ old.parts.moment → new.parts.next ≡ old.parts.next → new.parts.form ≡ old.parts.form
    → new.stage ≡ stages.Ropes → new.noted ≡ old.noted → Builds new (acted r c)
built_rope old new r c id idle last wait pieces between h legal grammar acts orderly some above waits kept ropes block uses interests blocks moment next form stage noted =
    let rope : Live Spot = record { id = id; samples = spots_of pieces; idle = idle; last = last } in
    let end = with_base_rope r id idle last pieces in
    let shown = base_rope_shown r.form r.kept between new.parts.ropes old.parts.interests.rows old.parts.moment old.parts.next wait rope kept orderly some above waits ropes block uses in
    subst (Builds new) (sym acts)
    (record {
      kept = record { block = shown.block; ropes = shown.ropes; uses = shown.uses; rows = ap (λ t. t.rows) interests ∙ shown.rows; moment = moment ∙ shown.moment; next = next ∙ shown.next };
      places = subst (λ (b : Holders). ShowsPlaces b r.shape.blocks r.places) (ap (λ b. b.holders) (sym blocks)) h.places;
      in_form = form ∙ h.in_form;
      valid = subst (IsRebuilt plain_sample) acts (rebuilt_next plain_sample (λ s. refl) r c h.valid legal grammar);
      placed = subst IsPlaced acts (placed_next r c h.placed legal grammar);
      stage = ap phase_of stage;
      files = λ e. cc;
      known =
          subst (λ (l : List Block). Every (λ (place : Placed). is_known l end.kept place.pair ≡ true) r.places) (ap (λ v. v.items) (sym noted))
          (every-imply (λ (place : Placed). is_known old.noted.items r.kept place.pair ≡ true) (λ (place : Placed). is_known old.noted.items end.kept place.pair ≡ true)
          (λ place e. still (has_pair (used_pairs r.kept) place.pair) (has_pair (used_pairs end.kept) place.pair) (is_noted old.noted.items place.pair) (more_used r.shape.block r.ropes rope place.pair) e) r.places h.known);
    })
  where
    still : (a b c : Bool) → (a ≡ true → b ≡ true) → (a || c) ≡ true → (b || c) ≡ true
    still true b c h e = ap (λ x. x || c) (h refl)
    still false b true h e = or_right b true refl
    still false b false h e = cc

-- ---- what the program has tested

pub in_files : (old : Building) (r : Rebuilt) → Builds old r → old.stage ≡ stages.Files → takes_files r.phase ≡ true
in_files old r h stage = ap takes_files (sym h.stage) ∙ ap (λ s. takes_files (phase_of s)) stage

pub above_files : (old : Building) (r : Rebuilt) (file : ℕ) → Builds old r → old.stage ≡ stages.Files → old.last_file < file → list_all (λ place. nat_lt place.pair.file file) r.places ≡ true
above_files old r file h stage later = h.files (in_files old r h stage) file (omega (arith, later)) ∙ less later
  where
    less : old.last_file < file → nat_lt old.last_file file ≡ true
    less h = grind (arith, h)

pub some_pairs : (width file : ℕ) (pairs : List Pair) → is_file width file pairs ≡ true → 1 ≤ length pairs
some_pairs width file pairs h = leb-true 1 (length pairs) (both (is_id file) (nat_le 1 (length pairs)) (both _ _ (both _ _ (both _ _ h).0).0).0).1

pub is_less : (a b : ℕ) → a < b → nat_lt a b ≡ true
is_less a b h = grind (arith, h)

-- all ropes so far have lower numbers
pub above_tested : (r : Rebuilt) (id idle : ℕ) (pieces : List Piece) → may_be_rope r id idle pieces ≡ true → list_all (λ rope. nat_lt rope.id id) r.ropes ≡ true
above_tested r id idle pieces h = (both _ _ (both _ _ (both _ _ (both _ _ h).0).0).0).1

-- a number above all live ones is not in the table
pub unknown_rope : (old : Building) (r : Rebuilt) (id : ℕ) → Builds old r → 1 ≤ id → list_all (λ rope. nat_lt rope.id id) r.ropes ≡ true → rope_of old.parts.ropes.ropes id ≡ None
unknown_rope old r id h some above =
    let rising = new_number r.form id r.kept (orderly_rebuilt r h.valid) some above in
    ap (λ l. rope_of l id) h.kept.ropes ∙ rope_of-shown r.shape.graces r.rows r.ropes id ∙ ap (option_map (shown_rope r.shape.graces r.rows)) (not_live 1 r.ropes id id rising (omega arith))
