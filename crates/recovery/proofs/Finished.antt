-- Replay goes on from what it has finished as from what it was.
use Rattle.std.proofs.Common.{◌≡◌, ℕ, ◌≤◌, ◌==◌, Bool, true, false, cond, not, ◌&&◌, ◌||◌, nat_lt, nat_le, List, [], ◌∷◌, ◌++◌, length, refl, sym, ◌∙◌, ap, arith}
use Rattle.std.specs.Prelude.{is_some, filter}
use Rattle.std.specs.List.{list_all}
use Rattle.std.proofs.lemmas.Bool.{leb-true}
use Rattle.voice_units.specs.Spots.{Spot, spots_from, spots_of}
use Rattle.voice_units.specs.Blocks.{BlockPair, has_pair, pairs_at, same_pair, blocks_for}
use Rattle.voice_units.proofs.Distinct.{same_pair-true}
use Rattle.voice_units.proofs.PiecesOfRopes.{both}
use Rattle.voice_model.specs.State.{Durable, Live, among, class_number, is_row, with_rows}
use Rattle.voice_model.specs.Changes.{with_rope, without_expired, rows_left}
use Rattle.voice_model.specs.Replay.{Placed, Rebuilt, Phase, is_legal, acted, finished, brings, used_pairs, still_used, has_address, is_free_address, all_differ, may_be_recorded, new_places}
use Rattle.voice_model.specs.Valid.{Every}
use Rattle.voice_model.specs.Places.{IsPlaced, IsInRange}
use Rattle.voice_model.specs.declared.calls.Row.{Row}
use Rattle.voice_model.specs.declared.changes.Change.{Change}
use Rattle.voice_model.specs.declared.changes.Change.TheVariants as changes
use Rattle.voice_model.proofs.KeptByChanges.{every-imply}
use Rattle.voice_model.proofs.FitsOfCalls.{every_passed}
use Rattle.voice_model.proofs.PlacesKept.{all_samples, has_pair-append}
use Rattle.recovery.proofs.BlocksUsed.{same_all}
use Rattle.recovery.proofs.Freed.{place_in}
use Rattle.recovery.proofs.Rebuilding.{filter_all, last_samples, same_samples}

-- ---- whether a change is legal

still_twice : (d : Durable Spot) (places : List Placed) → still_used d (still_used d places) ≡ still_used d places
still_twice d places = filter_all (λ (place : Placed). has_pair (used_pairs d) place.pair) (still_used d places) (every_passed (λ (place : Placed). has_pair (used_pairs d) place.pair) places)

same_free : (r : Rebuilt) (addresses : List ℕ) → list_all (is_free_address (finished r)) addresses ≡ list_all (is_free_address r) addresses
same_free r addresses = same_all (is_free_address (finished r)) (is_free_address r) (λ a. ap (λ l. nat_lt a r.shape.blocks && not (has_address l a)) (still_twice r.kept r.places)) addresses

recorded_alike : (r : Rebuilt) (id len : ℕ) (addresses : List ℕ) → may_be_recorded (finished r) id len addresses ≡ may_be_recorded r id len addresses
recorded_alike r id len addresses = ap (λ b. nat_le r.next id && (length addresses == blocks_for r.shape.block len) && all_differ addresses && b) (same_free r addresses)

pub legal_finished : (r : Rebuilt) (c : Change) → is_some (brings c) ≡ true → is_legal (finished r) c ≡ is_legal r c
legal_finished r (changes.Recorded id len addresses) h = ap (λ b. (r.form == 1) && b) (recorded_alike r id len addresses)
legal_finished r (changes.Wide id len addresses) h = ap (λ b. (r.form == 2) && b) (recorded_alike r id len addresses)
legal_finished r (changes.Edited id pieces) h = refl
legal_finished r (changes.Retained class key id note) h = refl
legal_finished r (changes.Forgotten class key) h = refl
legal_finished r (changes.Census keys) h = refl
legal_finished r (changes.Swept ids) h = refl
legal_finished r (changes.Advanced moment) h = refl
legal_finished r (changes.Base now next) h = cc
legal_finished r (changes.Base2 now next) h = cc
legal_finished r (changes.File file pairs) h = cc
legal_finished r (changes.File2 file pairs) h = cc
legal_finished r (changes.Rope id idle pieces) h = cc
legal_finished r (changes.Rope2 id idle last pieces) h = cc

-- ---- what a change does

narrowed : {A : Type 0} (p q : A → Bool) (xs ys : List A) → Every (λ x. q x ≡ true → p x ≡ true) xs → filter q (filter p xs ++ ys) ≡ filter q (xs ++ ys)
narrowed p q [] ys h = refl
narrowed {A} p q (x ∷ xs) ys h = by_test (p x) refl (q x) refl (narrowed p q xs ys h.1)
  where
    by_test : (b : Bool) → p x ≡ b → (c : Bool) → q x ≡ c → filter q (filter p xs ++ ys) ≡ filter q (xs ++ ys) → filter q (filter p (x ∷ xs) ++ ys) ≡ filter q (x ∷ xs ++ ys)
    by_test true e c f rest = ap (λ b. filter q (cond b (x ∷ filter p xs) (filter p xs) ++ ys)) e ∙ ap (λ l. cond (q x) (x ∷ l) l) rest
    by_test false e true f rest = let bad : true ≡ false = sym (h.0 f) ∙ e in cc
    by_test false e false f rest =
        ap (λ b. filter q (cond b (x ∷ filter p xs) (filter p xs) ++ ys)) e ∙ rest ∙ sym (ap (λ b. cond b (x ∷ filter q (xs ++ ys)) (filter q (xs ++ ys))) f)

-- each block that has a place and is used after the change was used before it
abbrev UsedBefore : Rebuilt → Durable Spot → Placed → Type 0
UsedBefore r d place = has_pair (used_pairs d) place.pair ≡ true → has_pair (used_pairs r.kept) place.pair ≡ true

places_alike : (r : Rebuilt) (d : Durable Spot) (places : List Placed) → Every (UsedBefore r d) r.places → still_used d (still_used r.kept r.places ++ places) ≡ still_used d (r.places ++ places)
places_alike r d places h = narrowed (λ (place : Placed). has_pair (used_pairs r.kept) place.pair) (λ (place : Placed). has_pair (used_pairs d) place.pair) r.places places h

not_other : (a b : Bool) → (a || b) ≡ true → (b ≡ true → ⊥) → a ≡ true
not_other true b e h = refl
not_other false b e h = absurd (h e)

first_or : (a b : Bool) → (a ≡ true → b ≡ true) → (a || b) ≡ true → b ≡ true
first_or true b h e = h refl
first_or false b h e = e

pub each_of : (p : BlockPair → Bool) (pairs : List BlockPair) (pair : BlockPair) → list_all p pairs ≡ true → has_pair pairs pair ≡ true → p pair ≡ true
each_of p [] pair h e = cc
each_of p (q ∷ pairs) pair h e =
    let tests = both (p q) (list_all p pairs) h in by_test (same_pair pair q) refl (each_of p pairs pair tests.1) tests.0
  where
    by_test : (b : Bool) → same_pair pair q ≡ b → (has_pair pairs pair ≡ true → p pair ≡ true) → p q ≡ true → p pair ≡ true
    by_test true k later first = ap p (same_pair-true pair q k) ∙ first
    by_test false k later first = later (sym (ap (λ b. b || has_pair pairs pair) k) ∙ e)

recorded_before : (r : Rebuilt) (id len : ℕ) → IsPlaced r → r.next ≤ id → Every (UsedBefore r (with_rope r.kept id (spots_from id 0 len))) r.places
recorded_before r id len h later =
    every-imply (IsInRange r.next r.shape.blocks) (UsedBefore r (with_rope r.kept id (spots_from id 0 len)))
    (λ place k e.
    not_other (has_pair (used_pairs r.kept) place.pair) (has_pair (pairs_at r.shape.block (spots_from id 0 len)) place.pair)
    (sym (ap (λ l. has_pair (pairs_at r.shape.block l) place.pair) (last_samples r.ropes (record { id = id; samples = spots_from id 0 len; idle = r.moment; last = 0 }))
    ∙ has_pair-append r.shape.block (all_samples r.ropes) (spots_from id 0 len) place.pair) ∙ e)
    (place_in r.shape.block id 0 len place.pair (λ x low high is. let file : place.pair.file ≡ id = ap (λ (pair : BlockPair). pair.file) is in let known = k.known in omega (arith, file, known, later)))) r.places h.ranges

edited_before : (r : Rebuilt) (id : ℕ) (samples : List Spot) → IsPlaced r → list_all (has_pair (used_pairs r.kept)) (pairs_at r.shape.block samples) ≡ true → Every (UsedBefore r (with_rope r.kept id samples)) r.places
edited_before r id samples h used =
    every-imply (IsInRange r.next r.shape.blocks) (UsedBefore r (with_rope r.kept id samples))
    (λ place k e.
    or_both (has_pair (used_pairs r.kept) place.pair) (has_pair (pairs_at r.shape.block samples) place.pair)
    (sym (ap (λ l. has_pair (pairs_at r.shape.block l) place.pair) (last_samples r.ropes (record { id = id; samples = samples; idle = r.moment; last = 0 }))
    ∙ has_pair-append r.shape.block (all_samples r.ropes) samples place.pair) ∙ e)
    (each_of (has_pair (used_pairs r.kept)) (pairs_at r.shape.block samples) place.pair used)) r.places h.ranges
  where
    or_both : (a b : Bool) → (a || b) ≡ true → (b ≡ true → a ≡ true) → a ≡ true
    or_both true b e h = refl
    or_both false b e h = h e

rows_before : (r : Rebuilt) (class : ℕ) (rows : List Row) → IsPlaced r → Every (UsedBefore r (with_rows r.form class r.kept rows)) r.places
rows_before r class rows h =
    every-imply (IsInRange r.next r.shape.blocks) (UsedBefore r (with_rows r.form class r.kept rows))
    (λ place k e. ap (λ l. has_pair (pairs_at r.shape.block l) place.pair) (sym (same_samples r.form r.moment class r.rows rows r.ropes)) ∙ e) r.places h.ranges

fewer_used : (keep : Live Spot → Bool) (block : ℕ) (ropes : List (Live Spot)) (pair : BlockPair) → has_pair (pairs_at block (all_samples (filter keep ropes))) pair ≡ true → has_pair (pairs_at block (all_samples ropes)) pair ≡ true
fewer_used keep block [] pair e = e
fewer_used keep block (rope ∷ ropes) pair e = by_test (keep rope) refl (fewer_used keep block ropes pair)
  where
    here : List BlockPair
    here = pairs_at block rope.samples

    or_map : (a b c : Bool) → (b ≡ true → c ≡ true) → (a || b) ≡ true → (a || c) ≡ true
    or_map true b c h e = refl
    or_map false b c h e = h e

    or_right : (a b : Bool) → b ≡ true → (a || b) ≡ true
    or_right true b e = refl
    or_right false b e = e

    by_test : (b : Bool) → keep rope ≡ b → (has_pair (pairs_at block (all_samples (filter keep ropes))) pair ≡ true → has_pair (pairs_at block (all_samples ropes)) pair ≡ true) → has_pair (pairs_at block (all_samples (rope ∷ ropes))) pair ≡ true
    by_test true k rest =
        has_pair-append block rope.samples (all_samples ropes) pair
        ∙ or_map (has_pair here pair) (has_pair (pairs_at block (all_samples (filter keep ropes))) pair) (has_pair (pairs_at block (all_samples ropes)) pair) rest
        (sym (ap (λ b. has_pair (pairs_at block (all_samples (cond b (rope ∷ filter keep ropes) (filter keep ropes)))) pair) k ∙ has_pair-append block rope.samples (all_samples (filter keep ropes)) pair) ∙ e)
    by_test false k rest =
        has_pair-append block rope.samples (all_samples ropes) pair
        ∙ or_right (has_pair here pair) (has_pair (pairs_at block (all_samples ropes)) pair) (rest (sym (ap (λ b. has_pair (pairs_at block (all_samples (cond b (rope ∷ filter keep ropes) (filter keep ropes)))) pair) k) ∙ e))

swept_before : (r : Rebuilt) (ids : List ℕ) → IsPlaced r → Every (UsedBefore r (record (without_expired r.form r.kept) { ropes = filter (λ rope. not (among ids rope.id)) (without_expired r.form r.kept).ropes })) r.places
swept_before r ids h =
    let left = without_expired r.form r.kept in
    every-imply (IsInRange r.next r.shape.blocks) (UsedBefore r (record left { ropes = filter (λ rope. not (among ids rope.id)) left.ropes }))
    (λ place k e.
    ap (λ l. has_pair (pairs_at r.shape.block l) place.pair) (sym (same_samples r.form r.moment 2 r.rows left.rows r.ropes))
    ∙ fewer_used (λ (rope : Live Spot). not (among ids rope.id)) r.shape.block left.ropes place.pair e) r.places h.ranges

all_before : (r : Rebuilt) (d : Durable Spot) → IsPlaced r → ((place : Placed) → UsedBefore r d place) → Every (UsedBefore r d) r.places
all_before r d h same = every-imply (IsInRange r.next r.shape.blocks) (UsedBefore r d) (λ place k. same place) r.places h.ranges

is_later : (r : Rebuilt) (id len : ℕ) (addresses : List ℕ) → may_be_recorded r id len addresses ≡ true → r.next ≤ id
is_later r id len addresses h = leb-true r.next id (both _ _ (both _ _ (both _ _ h).0).0).0

abbrev after : Rebuilt → Durable Spot → List Placed → Rebuilt
after r d places = record r { kept = d; places = places; phase = Phase.Later }

pub acted_finished : (r : Rebuilt) (c : Change) → is_some (brings c) ≡ true → IsPlaced r → is_legal r c ≡ true → acted (finished r) c ≡ acted r c
acted_finished r (changes.Recorded id len addresses) s h k =
    let d = with_rope r.kept id (spots_from id 0 len) in
    ap (after r d) (places_alike r d (new_places (changes.Recorded id len addresses)) (recorded_before r id len h (is_later r id len addresses (both (r.form == 1) (may_be_recorded r id len addresses) k).1)))
acted_finished r (changes.Wide id len addresses) s h k =
    let d = with_rope r.kept id (spots_from id 0 len) in
    ap (after r d) (places_alike r d (new_places (changes.Wide id len addresses)) (recorded_before r id len h (is_later r id len addresses (both (r.form == 2) (may_be_recorded r id len addresses) k).1)))
acted_finished r (changes.Edited id pieces) s h k =
    let d = with_rope r.kept id (spots_of pieces) in
    ap (after r d) (places_alike r d [] (edited_before r id (spots_of pieces) h (both (nat_le r.next id) (list_all (has_pair (used_pairs r.kept)) (pairs_at r.shape.block (spots_of pieces))) k).1))
acted_finished r (changes.Retained class key id note) s h k =
    let d : Durable Spot = record r.kept { rows = r.rows ++ record { class = class; key = key; rope = id; note = note } ∷ [] } in ap (after r d) (places_alike r d [] (all_before r d h (λ place e. e)))
acted_finished r (changes.Forgotten class key) s h k =
    let rows = filter (λ row. not (is_row class key row)) r.rows in
    let d = with_rows r.form (class_number class) r.kept rows in ap (after r d) (places_alike r d [] (rows_before r (class_number class) rows h))
acted_finished r (changes.Census keys) s h k =
    let d = with_rows r.form 3 r.kept (rows_left r.rows keys) in ap (after r d) (places_alike r d [] (rows_before r 3 (rows_left r.rows keys) h))
acted_finished r (changes.Swept ids) s h k =
    let left = without_expired r.form r.kept in
    let d : Durable Spot = record left { ropes = filter (λ rope. not (among ids rope.id)) left.ropes } in ap (after r d) (places_alike r d [] (swept_before r ids h))
acted_finished r (changes.Advanced moment) s h k =
    let d : Durable Spot = record r.kept { moment = moment } in ap (after r d) (places_alike r d [] (all_before r d h (λ place e. e)))
acted_finished r (changes.Base now next) s h k = cc
acted_finished r (changes.Base2 now next) s h k = cc
acted_finished r (changes.File file pairs) s h k = cc
acted_finished r (changes.File2 file pairs) s h k = cc
acted_finished r (changes.Rope id idle pieces) s h k = cc
acted_finished r (changes.Rope2 id idle last pieces) s h k = cc
