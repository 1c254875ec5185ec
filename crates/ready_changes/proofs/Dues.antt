-- What a sweep looks at, and that its change keeps the grammar.
use Rattle.std.proofs.Common.{◌≡◌, ℕ, zero, suc, ◌+◌, ◌<◌, ◌≤◌, ◌^◌, ◌==◌, Bool, true, false, cond, not, ◌&&◌, nat_lt, nat_le, List, [], ◌∷◌, map, length, refl, sym, ◌∙◌, ap, arith, subst}
use Rattle.std.specs.Prelude.{filter, take}
use Rattle.std.specs.List.{list_all}
use Rattle.std.proofs.lemmas.Bool.{le-leb, lt-ltb}
use Rattle.voice_units.specs.declared.pieces.Piece.{Piece}
use Rattle.voice_units.specs.declared.shapes.Graces.{Graces}
use Rattle.voice_units.specs.Spots.{Spot}
use Rattle.voice_model.specs.State.{Durable, Live, has_row, settled}
use Rattle.voice_model.specs.Changes.{is_due, without_expired, swept_ropes, unlisted_keys, is_unlisted, is_expired}
use Rattle.voice_model.specs.Spelling.{keeps_grammar, is_id, is_key, fits, rise}
use Rattle.voice_model.specs.Valid.{Every, Rising}
use Rattle.voice_model.specs.declared.calls.Row.{Row}
use Rattle.voice_model.specs.declared.changes.Change.TheVariants as changes
use Rattle.voice_model.proofs.KeptByChanges.{every-filter}
use Rattle.voice_model.proofs.FitsOfCalls.{every_take}
use Rattle.rope_table.specs.Table.{Table}
use Rattle.recovery.specs.Shown.{ShowsKept, shown_rope}
use Rattle.collector.specs.Due.{AreKept, AreShown, ShowsDue}
use Rattle.ready_changes.specs.Ready.{HasGraces}

kept_as_shown : (g : Graces) (rows : List Row) (ropes : List (Live Spot)) → AreKept rows (map (shown_rope g rows) ropes)
kept_as_shown g rows [] = tt
kept_as_shown g rows (rope ∷ ropes) = (refl, kept_as_shown g rows ropes)

shown_as_kept : (g : Graces) (rows : List Row) (ropes : List (Live Spot)) → AreShown g (map (shown_rope g rows) ropes) ropes
shown_as_kept g rows [] = tt
shown_as_kept g rows (rope ∷ ropes) = (record { id = refl; idle = refl; last = refl; wait = refl }, shown_as_kept g rows ropes)

-- a live rope is kept where a row names it
pub are_kept : (held : List (List Piece)) (t : Table) (rows : List Row) (moment next : ℕ) (d : Durable Spot) → ShowsKept held t rows moment next d → AreKept rows t.ropes
are_kept held t rows moment next d h =
    subst (λ l. AreKept rows l) (sym h.ropes) (subst (λ r. AreKept r (map (shown_rope d.shape.graces d.rows) d.ropes)) (sym h.rows) (kept_as_shown d.shape.graces d.rows d.ropes))

-- the tables show what a sweep looks at
pub due_shown : (held : List (List Piece)) (t : Table) (rows : List Row) (moment next form : ℕ) (graces : Graces) (d : Durable Spot) → ShowsKept held t rows moment next d → HasGraces form d → d.shape.graces ≡ graces → ShowsDue t rows moment graces.until form d
due_shown held t rows moment next form graces d h plain same = record {
  ropes = subst (λ l. AreShown d.shape.graces l d.ropes) (sym h.ropes) (shown_as_kept d.shape.graces d.rows d.ropes);
  rows = sym h.rows;
  moment = sym h.moment;
  until = ap (λ (g : Graces). g.until) same;
  graces = plain;
}

-- ---- the grammar of a sweep

both_true : (a b : Bool) → a ≡ true → b ≡ true → (a && b) ≡ true
both_true a b e f = ap (λ x. x && b) e ∙ f

-- numbers from one on, rising
abbrev From : ℕ → List ℕ → ℕ → Type 0
From low [] next = low ≤ next
From low (id ∷ ids) next = (low ≤ id) × From (id + 1) ids next

reaches : (low : ℕ) (ids : List ℕ) (next : ℕ) → From low ids next → low ≤ next
reaches low [] next h = h
reaches low (id ∷ ids) next h = let rest = reaches (id + 1) ids next h.1 in omega (arith, rest, h.0)

numbers_from : (low : ℕ) (ropes : List (Live Spot)) (next : ℕ) → Rising low ropes next → From low (map (λ rope. rope.id) ropes) next
numbers_from low [] next h = h
numbers_from low (rope ∷ ropes) next h = (h.0, numbers_from (rope.id + 1) ropes next h.1)

from_take : (n low : ℕ) (ids : List ℕ) (next : ℕ) → From low ids next → From low (take n ids) next
from_take zero low ids next h = reaches low ids next h
from_take (suc n) low [] next h = h
from_take (suc n) low (id ∷ ids) next h = (h.0, from_take n (id + 1) ids next h.1)

rising_filter : (p : Live Spot → Bool) (least low : ℕ) (ropes : List (Live Spot)) (next : ℕ) → least ≤ low → Rising low ropes next → Rising least (filter p ropes) next
rising_filter p least low [] next le h = omega (arith, le, h)
rising_filter p least low (rope ∷ ropes) next le h = by_test (p rope) (rising_filter p (rope.id + 1) (rope.id + 1) ropes next (omega arith) h.1) (rising_filter p least (rope.id + 1) ropes next (let low_one = h.0 in omega (arith, le, low_one)) h.1)
  where
    by_test : (b : Bool) → Rising (rope.id + 1) (filter p ropes) next → Rising least (filter p ropes) next → Rising least (cond b (rope ∷ filter p ropes) (filter p ropes)) next
    by_test true here later = (let low_one = h.0 in omega (arith, le, low_one), here)
    by_test false here later = later

rising_settled : (form now class : ℕ) (before after : List Row) (low : ℕ) (ropes : List (Live Spot)) (next : ℕ) → Rising low ropes next → Rising low (map (settled form now class before after) ropes) next
rising_settled form now class before after low [] next h = h
rising_settled form now class before after low (rope ∷ ropes) next h = by_test (has_row before rope.id && not (has_row after rope.id)) (rising_settled form now class before after (rope.id + 1) ropes next h.1)
  where
    by_test : (b : Bool) → Rising (rope.id + 1) (map (settled form now class before after) ropes) next → let x = cond b (record rope { idle = now; last = cond (form == 2) class rope.last }) rope in (low ≤ x.id) × Rising (x.id + 1) (map (settled form now class before after) ropes) next
    by_test true rest = (h.0, rest)
    by_test false rest = (h.0, rest)

from_rises : (low : ℕ) (ids : List ℕ) (next : ℕ) → From low ids next → rise ids ≡ true
from_rises low [] next h = refl
from_rises low (a ∷ []) next h = refl
from_rises low (a ∷ b ∷ ids) next h = both_true (nat_lt a b) (rise (b ∷ ids)) (lt-ltb a b (omega (arith, h.1.0))) (from_rises (a + 1) (b ∷ ids) next h.1)

from_ids : (low : ℕ) (ids : List ℕ) (next : ℕ) → 1 ≤ low → next ≤ 2 ^ 48 + 1 → From low ids next → list_all is_id ids ≡ true
from_ids low [] next one most h = refl
from_ids low (id ∷ ids) next one most h =
    let above = reaches (id + 1) ids next h.1 in
    both_true (is_id id) (list_all is_id ids) (both_true (nat_le 1 id) (nat_le id (2 ^ 48)) (le-leb 1 id (omega (arith, one, h.0))) (le-leb id (2 ^ 48) (omega (arith, above, most)))) (from_ids (id + 1) ids next (omega arith) most h.1)

take_few : {A : Type 0} (n : ℕ) (xs : List A) → length (take n xs) ≤ n
take_few zero xs = omega arith
take_few (suc n) [] = omega arith
take_few (suc n) (x ∷ xs) = let rest = take_few n xs in omega (arith, rest)

-- the change of a sweep keeps the grammar
pub sweep_grammar : (form : ℕ) (d : Durable Spot) (limit : ℕ) → Rising 1 d.ropes d.next → d.next ≤ 2 ^ 48 + 1 → limit < 2 ^ 16 → keeps_grammar (changes.Swept (swept_ropes form d limit)) ≡ true
sweep_grammar form d limit rising most small =
    let left = without_expired form d in
    let from = from_take limit 1 (map (λ rope. rope.id) (filter (is_due left) left.ropes)) d.next
    (numbers_from 1 (filter (is_due left) left.ropes) d.next (rising_filter (is_due left) 1 1 left.ropes d.next (omega arith) (rising_settled form d.moment 2 d.rows (filter (λ row. not (is_expired d.moment row)) d.rows) 1 d.ropes d.next rising))) in
    let few = take_few limit (map (λ rope. rope.id) (filter (is_due left) left.ropes)) in
    both_true (fits 2 (length (swept_ropes form d limit)) && list_all is_id (swept_ropes form d limit)) (rise (swept_ropes form d limit))
    (both_true (fits 2 (length (swept_ropes form d limit))) (list_all is_id (swept_ropes form d limit)) (lt-ltb (length (swept_ropes form d limit)) (2 ^ 16) (omega (arith, few, small))) (from_ids 1 (swept_ropes form d limit) d.next (omega arith) most from))
    (from_rises 1 (swept_ropes form d limit) d.next from)

-- ---- the grammar of a census

all_keys : (rows : List Row) → Every (λ row. is_key row.key ≡ true) rows → list_all is_key (map (λ row. row.key) rows) ≡ true
all_keys [] h = refl
all_keys (row ∷ rows) h = both_true (is_key row.key) (list_all is_key (map (λ row. row.key) rows)) h.0 (all_keys rows h.1)

few_keys : (rows : List Row) → length (map (λ (row : Row). row.key) rows) ≡ length rows
few_keys [] = refl
few_keys (row ∷ rows) = ap suc (few_keys rows)

pub census_grammar : (rows : List Row) (census : List (List ℕ)) → Every (λ row. is_key row.key ≡ true) rows → 1 ≤ length (unlisted_keys rows census) → keeps_grammar (changes.Census (unlisted_keys rows census)) ≡ true
census_grammar rows census keys some =
    let gone = filter (is_unlisted census) rows in
    let few = take_few 65535 gone in
    let same = few_keys (take 65535 gone) in
    both_true (nat_le 1 (length (unlisted_keys rows census)) && fits 2 (length (unlisted_keys rows census))) (list_all is_key (unlisted_keys rows census))
    (both_true (nat_le 1 (length (unlisted_keys rows census))) (fits 2 (length (unlisted_keys rows census))) (le-leb 1 (length (unlisted_keys rows census)) some) (lt-ltb (length (unlisted_keys rows census)) (2 ^ 16) (omega (arith, few, same))))
    (all_keys (take 65535 gone) (every_take (λ row. is_key row.key ≡ true) 65535 gone (every-filter (λ row. is_key row.key ≡ true) (is_unlisted census) rows keys)))
