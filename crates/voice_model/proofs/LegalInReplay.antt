-- The change of a call that nothing refuses is legal where the journal is read again.
use Rattle.std.proofs.Common.{◌≡◌, ℕ, zero, suc, ◌≤◌, ◌<◌, ◌⊎◌, inl, inr, ◌==◌, Bool, true, false, cond, not, ◌&&◌, ◌||◌, List, [], ◌∷◌, ◌++◌, map, length, take, flat_map, Option, Some, None, refl, sym, ◌∙◌, ap, arith}
use Rattle.std.proofs.lemmas.Bool.{ltb-true, lt-ltb, le-leb, eqb-true, eq-eqb}
use Rattle.std.proofs.lemmas.Slice.Eq.{bytes_eq-Decides}
use Rattle.std.specs.Prelude.{filter, is_some, nat_lt, nat_le, bytes_eq}
use Rattle.std.specs.List.{list_all}
use Rattle.voice_units.specs.Spots.{Spot, slice, replaced, spots_of, nowhere}
use Rattle.voice_units.specs.Blocks.{BlockPair, has_pair, same_pair, pair_at, pairs_at}
use Rattle.voice_units.proofs.PiecesOfRopes.{both, spots_of-runs}
use Rattle.voice_model.specs.Samples.{Tagged, spot_of, pieces_in, spots_in_rope}
use Rattle.voice_model.specs.State.{State, Durable, Live, Effect, rope_at, is_live, samples_of, joined, row_at, is_row, has_row, settled, class_number}
use Rattle.voice_model.specs.State.Effect.{Recorded, Edited, Retained, Forgotten, Counted, Swept, Advanced}
use Rattle.voice_model.specs.Room.{pair_of, pairs_of}
use Rattle.voice_model.specs.Changes.{effect_of, changed, without_expired, is_expired, swept_ropes, expired_rows, is_due, if_any, rows_left, unlisted_keys, is_unlisted, unless_empty}
use Rattle.voice_model.specs.Replay.{Rebuilt, is_legal, may_be_recorded, may_go, used_pairs, each_listed, live_by, durable_by, effect_by, Placed, placed_from, acted, after_effect, brings}
use Rattle.voice_model.specs.Base.{change_of, IsMade}
use Rattle.voice_model.specs.Early.{all_but_last}
use Rattle.voice_model.specs.Step.{refusal, conditions, first_of, if_missing}
use Rattle.voice_model.specs.Valid.{Every, IsFit, IsState, Once, IsTimely, MayBeTimely, TakesFree, live_pairs_of}
use Rattle.voice_model.proofs.KeptByChanges.{every-imply, every-filter, once_filter}
use Rattle.voice_model.proofs.FitsOfCalls.{all_none, early_none, every_take, every_passed}
use Rattle.voice_model.proofs.ChangesOfEffects.{brings_again}
use Rattle.voice_model.proofs.Alike.{changed-by}
use Rattle.voice_model.proofs.UsedByEdits.{Within, within_joined, within_live, within_slice, within_trans, within_replaced}
use Rattle.voice_model.specs.declared.changes.Change.TheVariants as changes
use Rattle.voice_model.specs.declared.calls.Call.{Call}
use Rattle.voice_model.specs.declared.calls.Call.TheVariants as calls
use Rattle.voice_model.specs.declared.calls.Row.{Row}
use Rattle.voice_model.specs.declared.calls.Class.{Class}
use Rattle.voice_model.specs.declared.calls.Class.TheVariants.{Held, Until, Listed}

-- ---- tests

join : (a b : Bool) → a ≡ true → b ≡ true → (a && b) ≡ true
join a b h k = ap (λ x. x && b) h ∙ k

live_either : {A B : Type 0} (b : Bool) (x : Live A) (y : Live B) (o : Option (Live A)) (q : Option (Live B)) → is_some o ≡ is_some q → is_some (cond b (Some x) o) ≡ is_some (cond b (Some y) q)
live_either true x y o q e = refl
live_either false x y o q e = e

-- what keeps the numbers of ropes keeps which are live
live_keeps : {A B : Type 0} (g : Live A → Live B) → ((rope : Live A) → (g rope).id ≡ rope.id) → (ropes : List (Live A)) (id : ℕ) → is_live (map g ropes) id ≡ is_live ropes id
live_keeps g same [] id = refl
live_keeps g same (rope ∷ ropes) id =
    ap (λ n. is_some (cond (n == id) (Some (g rope)) (rope_at (map g ropes) id))) (same rope)
    ∙ live_either (rope.id == id) (g rope) rope (rope_at (map g ropes) id) (rope_at ropes id) (live_keeps g same ropes id)

settled_id : {A : Type 0} (form now class : ℕ) (b : Bool) (rope : Live A) → (cond b (record rope { idle = now; last = cond (form == 2) class rope.last }) rope).id ≡ rope.id
settled_id form now class true rope = refl
settled_id form now class false rope = refl

live_settled : {A : Type 0} (form now class : ℕ) (before after : List Row) (ropes : List (Live A)) (id : ℕ) → is_live (map (settled form now class before after) ropes) id ≡ is_live ropes id
live_settled form now class before after ropes id = live_keeps (settled form now class before after) (λ rope. settled_id form now class (has_row before rope.id && not (has_row after rope.id)) rope) ropes id

module _ (f : Spot → Tagged) (same : (s : Spot) → spot_of (f s) ≡ s) where
  pub live_filled : (ropes : List (Live Spot)) (id : ℕ) → is_live (map (live_by f) ropes) id ≡ is_live ropes id
  live_filled ropes id = live_keeps (live_by f) (λ rope. refl) ropes id

  pairs_filled : (block : ℕ) (ss : List Spot) → pairs_of block (map f ss) ≡ pairs_at block ss
  pairs_filled block [] = refl
  pairs_filled block (s ∷ ss) = ap (λ x. pair_at block x ∷ pairs_of block (map f ss)) (same s) ∙ ap (λ l. pair_at block s ∷ l) (pairs_filled block ss)

  map_append : (xs ys : List Spot) → map f (xs ++ ys) ≡ map f xs ++ map f ys
  map_append [] ys = refl
  map_append (x ∷ xs) ys = ap (λ l. f x ∷ l) (map_append xs ys)

  samples_filled : (ropes : List (Live Spot)) → flat_map (λ rope. rope.samples) (map (live_by f) ropes) ≡ map f (flat_map (λ rope. rope.samples) ropes)
  samples_filled [] = refl
  samples_filled (rope ∷ ropes) = ap (λ l. map f rope.samples ++ l) (samples_filled ropes) ∙ sym (map_append rope.samples (flat_map (λ rope. rope.samples) ropes))

  pub used_filled : (r : Rebuilt) → live_pairs_of (durable_by f r.kept) ≡ used_pairs r.kept
  used_filled r = ap (pairs_of r.shape.block) (samples_filled r.ropes) ∙ pairs_filled r.shape.block (flat_map (λ rope. rope.samples) r.ropes)

  spots_pairs : (block : ℕ) (samples : List Tagged) → pairs_at block (spots_in_rope samples) ≡ pairs_of block samples
  spots_pairs block [] = refl
  spots_pairs block (t ∷ samples) = ap (λ l. pair_of block t ∷ l) (spots_pairs block samples)

  edit_legal : (r : Rebuilt) (samples : List Tagged) → list_all (has_pair (live_pairs_of (durable_by f r.kept))) (pairs_of r.shape.block samples) ≡ true → list_all (has_pair (used_pairs r.kept)) (pairs_at r.shape.block (spots_of (pieces_in samples))) ≡ true
  edit_legal r samples h =
      ap (λ ss. list_all (has_pair (used_pairs r.kept)) (pairs_at r.shape.block ss)) (spots_of-runs nowhere (spots_in_rope samples))
      ∙ ap (λ ps. list_all (has_pair (used_pairs r.kept)) ps) (spots_pairs r.shape.block samples)
      ∙ ap (λ ps. list_all (has_pair ps) (pairs_of r.shape.block samples)) (sym (used_filled r))
      ∙ h

  next_legal : (r : Rebuilt) (id : ℕ) → r.next ≤ id → nat_le r.next id ≡ true
  next_legal r id e = le-leb r.next id e

  recording_legal : (r : Rebuilt) (id : ℕ) (samples : List Tagged) (addresses : List ℕ) → r.next ≤ id → TakesFree r addresses (Recorded id samples) → may_be_recorded r id (length samples) addresses ≡ true
  recording_legal r id samples addresses e k = join _ _ (join _ _ (join _ _ (next_legal r id e) (eq-eqb _ _ k.0)) k.1) k.2

  by_form : (r : Rebuilt) → (r.form ≡ 1) ⊎ (r.form ≡ 2) → (id len : ℕ) (addresses : List ℕ) → may_be_recorded r id len addresses ≡ true → (b : Bool) → (r.form == 2) ≡ b → is_legal r (cond b (changes.Wide id len addresses) (changes.Recorded id len addresses)) ≡ true
  by_form r forms id len addresses h true e = join (r.form == 2) (may_be_recorded r id len addresses) e h
  by_form r (inl one) id len addresses h false e = join (r.form == 1) (may_be_recorded r id len addresses) (eq-eqb r.form 1 one) h
  by_form r (inr two) id len addresses h false e = let yes = eq-eqb r.form 2 two in cc

  sweep_legal : (r : Rebuilt) (ids : List ℕ) → Every (λ id. has_row (without_expired r.form r.kept).rows id ≡ false) ids → Every (λ id. is_live (without_expired r.form (durable_by f r.kept)).ropes id ≡ true) ids → list_all (may_go (without_expired r.form r.kept)) ids ≡ true
  sweep_legal r [] h k = refl
  sweep_legal r (id ∷ ids) h k =
      let rows = filter (λ row. not (is_expired r.moment row)) r.rows in
      let live : is_live (without_expired r.form r.kept).ropes id ≡ true =
      live_settled r.form r.moment 2 r.rows rows r.ropes id ∙ sym (live_filled r.ropes id) ∙ sym (live_settled r.form r.moment 2 r.rows rows (map (live_by f) r.ropes) id) ∙ k.0 in
      join (may_go (without_expired r.form r.kept) id) (list_all (may_go (without_expired r.form r.kept)) ids)
      (join (is_live (without_expired r.form r.kept).ropes id) (not (has_row (without_expired r.form r.kept).rows id)) live (ap not h.0))
      (sweep_legal r ids h.1 k.1)

  -- a change that may be done, and that alters something, is legal in replay
  pub legal_again : (r : Rebuilt) (addresses : List ℕ) (e : Effect Tagged) → (r.form ≡ 1) ⊎ (r.form ≡ 2) → IsFit r.form (durable_by f r.kept) e → IsTimely r.form (durable_by f r.kept) e → TakesFree r addresses e → is_legal r (change_of r.form addresses e) ≡ true
  legal_again r addresses (Recorded id samples) forms fit timely free = by_form r forms id (length samples) addresses (recording_legal r id samples addresses fit.next free) (r.form == 2) refl
  legal_again r addresses (Edited id samples) forms fit timely free = join (nat_le r.next id) _ (next_legal r id fit.next) (edit_legal r samples timely)
  legal_again r addresses (Retained row) forms fit timely free =
      join (is_live r.ropes row.rope) _ (sym (live_filled r.ropes row.rope) ∙ fit.0.live) (ap (λ o. not (is_some o)) fit.1)
  legal_again r addresses (Forgotten class key) forms fit timely free = timely
  legal_again r addresses (Counted keys) forms fit timely free = timely
  legal_again r addresses (Swept ids) forms fit timely free = sweep_legal r ids fit timely
  legal_again r addresses (Advanced moment) forms fit timely free = lt-ltb r.moment moment timely

  -- ---- what it does there

  effect_kept : (r : Rebuilt) (places : List Placed) (o : Option (Effect Spot)) (e : Effect Spot) → o ≡ Some e → (after_effect r places o).kept ≡ changed r.form r.kept e
  effect_kept r places o e h = ap (λ o. (after_effect r places o).kept) h

  recorded_kept : (r : Rebuilt) (b : Bool) (id len : ℕ) (addresses : List ℕ) (e : Effect Spot) → brings (cond b (changes.Wide id len addresses) (changes.Recorded id len addresses)) ≡ Some e → (acted r (cond b (changes.Wide id len addresses) (changes.Recorded id len addresses))).kept ≡ changed r.form r.kept e
  recorded_kept r true id len addresses e h = effect_kept r (placed_from id 0 addresses) _ e h
  recorded_kept r false id len addresses e h = effect_kept r (placed_from id 0 addresses) _ e h

  acted_kept : (r : Rebuilt) (addresses : List ℕ) (e : Effect Tagged) → IsMade e → (acted r (change_of r.form addresses e)).kept ≡ changed r.form r.kept (effect_by spot_of e)
  acted_kept r addresses (Recorded id samples) h = recorded_kept r (r.form == 2) id (length samples) addresses (effect_by spot_of (Recorded id samples)) (brings_again r.form addresses (Recorded id samples) h)
  acted_kept r addresses (Edited id samples) h = effect_kept r [] _ (effect_by spot_of (Edited id samples)) (brings_again r.form addresses (Edited id samples) h)
  acted_kept r addresses (Retained row) h = refl
  acted_kept r addresses (Forgotten class key) h = refl
  acted_kept r addresses (Counted keys) h = refl
  acted_kept r addresses (Swept ids) h = refl
  acted_kept r addresses (Advanced moment) h = refl

  -- where the samples are filled in as they were, it does in replay what it did in the server
  pub acted_again : (r : Rebuilt) (addresses : List ℕ) (e : Effect Tagged) → IsMade e → effect_by f (effect_by spot_of e) ≡ e → durable_by f (acted r (change_of r.form addresses e)).kept ≡ changed r.form (durable_by f r.kept) e
  acted_again r addresses e h k =
      ap (durable_by f) (acted_kept r addresses e h)
      ∙ changed-by f r.form r.kept (effect_by spot_of e)
      ∙ ap (changed r.form (durable_by f r.kept)) k

-- ---- the changes of calls

all_within : (block : ℕ) (xs ys : List Tagged) → Within block xs ys → list_all (has_pair (pairs_of block ys)) (pairs_of block xs) ≡ true
all_within block [] ys h = refl
all_within block (x ∷ xs) ys h =
    join (has_pair (pairs_of block ys) (pair_of block x)) (list_all (has_pair (pairs_of block ys)) (pairs_of block xs))
    (h.each (pair_of block x) (same_itself (pair_of block x) (pairs_of block xs)))
    (all_within block xs ys (record { each = λ q e. h.each q (behind (same_pair q (pair_of block x)) (has_pair (pairs_of block xs) q) e) }))
  where
    behind : (a b : Bool) → b ≡ true → (a || b) ≡ true
    behind true b e = refl
    behind false b e = e

    here : (a b : Bool) → a ≡ true → (a || b) ≡ true
    here a b e = ap (λ x. x || b) e

    same_itself : (p : BlockPair) (ps : List BlockPair) → has_pair (p ∷ ps) p ≡ true
    same_itself p ps = here (same_pair p p) (has_pair ps p) (join (p.file == p.file) (p.index == p.index) (eq-eqb p.file p.file refl) (eq-eqb p.index p.index refl))

is_there : (o : Option Row) → if_missing o ≡ None → is_some o ≡ true
is_there None h = cc
is_there (Some row) h = refl

later_timely : (form : ℕ) (d : Durable Tagged) (moment : ℕ) (b : Bool) → (b ≡ true → d.moment < moment) → MayBeTimely form d (cond b (Some (Advanced moment)) None)
later_timely form d moment true h = h refl
later_timely form d moment false h = tt

any_timely : (form : ℕ) (d : Durable Tagged) (rows : List Row) (ids : List ℕ) → IsTimely form d (Swept ids) → MayBeTimely form d (if_any rows ids)
any_timely form d [] [] h = tt
any_timely form d [] (id ∷ ids) h = h
any_timely form d (row ∷ rows) ids h = h

-- a rope of a list is live
live_first : (b : Bool) (rope : Live Tagged) (o : Option (Live Tagged)) → is_some o ≡ true → is_some (cond b (Some rope) o) ≡ true
live_first true rope o h = refl
live_first false rope o h = h

each_live : (ropes : List (Live Tagged)) → Every (λ rope. is_live ropes rope.id ≡ true) ropes
each_live [] = tt
each_live (rope ∷ ropes) = (
  ap (λ b. is_some (cond b (Some rope) (rope_at ropes rope.id))) (eq-eqb rope.id rope.id refl),
  every-imply (λ other. is_live ropes other.id ≡ true) (λ other. is_live (rope ∷ ropes) other.id ≡ true) (λ other h. live_first (rope.id == other.id) rope (rope_at ropes other.id) h) ropes (each_live ropes),
)

numbers_live : (all ropes : List (Live Tagged)) → Every (λ rope. is_live all rope.id ≡ true) ropes → Every (λ id. is_live all id ≡ true) (map (λ rope. rope.id) ropes)
numbers_live all [] h = tt
numbers_live all (rope ∷ ropes) h = (h.0, numbers_live all ropes h.1)

swept_live : (form : ℕ) (d : Durable Tagged) (limit : ℕ) → Every (λ id. is_live (without_expired form d).ropes id ≡ true) (swept_ropes form d limit)
swept_live form d limit =
    let left = without_expired form d in
    every_take (λ id. is_live left.ropes id ≡ true) limit _ (numbers_live left.ropes (filter (is_due left) left.ropes) (every-filter (λ rope. is_live left.ropes rope.id ≡ true) (is_due left) left.ropes (each_live left.ropes)))

counted_timely : (form : ℕ) (d : Durable Tagged) (keys : List (List ℕ)) → each_listed d.rows keys ≡ true → MayBeTimely form d (unless_empty keys (Counted keys))
counted_timely form d [] h = tt
counted_timely form d (key ∷ keys) h = h

-- ---- the rows that a census drops

not_and_false : (c : Bool) → not (c && false) ≡ true
not_and_false true = refl
not_and_false false = refl

second_false : (a b : Bool) → (a && b) ≡ false → a ≡ true → b ≡ false
second_false true b h e = h
second_false false b h e = cc

same_key : (a b : List ℕ) → bytes_eq a b ≡ true → a ≡ b
same_key a b e = (bytes_eq-Decides a b).0 e

kept_row : (keep here : Bool) (row : Row) (kept : List Row) (o : Option Row) (class : Class) (key : List ℕ) → is_row class key row ≡ here → (here ≡ true → keep ≡ true) → (is_some o ≡ true → is_some (row_at kept class key) ≡ true) → is_some (cond here (Some row) o) ≡ true → is_some (row_at (cond keep (row ∷ kept) kept) class key) ≡ true
kept_row true true row kept o class key e stays step h = ap (λ b. is_some (cond b (Some row) (row_at kept class key))) e
kept_row true false row kept o class key e stays step h = ap (λ b. is_some (cond b (Some row) (row_at kept class key))) e ∙ step h
kept_row false true row kept o class key e stays step h = let no = stays refl in cc
kept_row false false row kept o class key e stays step h = step h

-- a row of another key stays
stays_listed : (rows : List Row) (gone key : List ℕ) → bytes_eq key gone ≡ false → is_some (row_at rows Listed key) ≡ true → is_some (row_at (rows_left rows (gone ∷ [])) Listed key) ≡ true
stays_listed [] gone key apart h = cc
stays_listed (row ∷ rows) gone key apart h =
    kept_row (not ((class_number row.class == 3) && (bytes_eq row.key gone || false))) (is_row Listed key row) row (rows_left rows (gone ∷ [])) (row_at rows Listed key) Listed key refl
    (λ e. ap (λ b. not ((class_number row.class == 3) && (b || false))) (ap (λ k. bytes_eq k gone) (same_key row.key key (both (class_number row.class == 3) (bytes_eq row.key key) e).1) ∙ apart) ∙ not_and_false (class_number row.class == 3))
    (stays_listed rows gone key apart) h

absent : (b : Bool) (row : Row) (o : Option Row) → cond b (Some row) o ≡ None → (b ≡ false) × (o ≡ None)
absent true row o h = cc
absent false row o h = (refl, h)

others_differ : (rows : List Row) (class : Class) (key : List ℕ) → row_at rows class key ≡ None → Every (λ row. is_row class key row ≡ false) rows
others_differ [] class key h = tt
others_differ (row ∷ rows) class key h = let both_ways = absent (is_row class key row) row (row_at rows class key) h in (both_ways.0, others_differ rows class key both_ways.1)

still_listed : (rows : List Row) (first : Row) (rest : List Row) → class_number first.class ≡ 3 → Every (λ row. is_row first.class first.key row ≡ false) rest → Every (λ row. class_number row.class ≡ 3) rest → Every (λ row. is_some (row_at rows Listed row.key) ≡ true) rest → Every (λ row. is_some (row_at (rows_left rows (first.key ∷ [])) Listed row.key) ≡ true) rest
still_listed rows first [] e apart class h = tt
still_listed rows first (row ∷ rest) e apart class h = (
  stays_listed rows first.key row.key (second_false (class_number row.class == class_number first.class) (bytes_eq row.key first.key) apart.0 (eq-eqb _ _ (class.0 ∙ sym e))) h.0,
  still_listed rows first rest e apart.1 class.1 h.1,
)

each_from : (rows gone : List Row) → Every (λ row. is_some (row_at rows Listed row.key) ≡ true) gone → Once gone → Every (λ row. class_number row.class ≡ 3) gone → each_listed rows (map (λ row. row.key) gone) ≡ true
each_from rows [] h once class = refl
each_from rows (row ∷ gone) h once class =
    join (is_some (row_at rows Listed row.key)) (each_listed (rows_left rows (row.key ∷ [])) (map (λ row. row.key) gone)) h.0
    (each_from (rows_left rows (row.key ∷ [])) gone (still_listed rows row gone class.0 (others_differ gone row.class row.key once.0) class.1 h.1) once.1 class.1)

no_row_take : (n : ℕ) (rows : List Row) (class : Class) (key : List ℕ) → row_at rows class key ≡ None → row_at (take n rows) class key ≡ None
no_row_take zero rows class key h = refl
no_row_take (suc n) [] class key h = refl
no_row_take (suc n) (row ∷ rows) class key h =
    let both_ways = absent (is_row class key row) row (row_at rows class key) h in
    ap (λ b. cond b (Some row) (row_at (take n rows) class key)) both_ways.0 ∙ no_row_take n rows class key both_ways.1

once_take : (n : ℕ) (rows : List Row) → Once rows → Once (take n rows)
once_take zero rows h = tt
once_take (suc n) [] h = tt
once_take (suc n) (row ∷ rows) h = (no_row_take n rows row.class row.key h.0, once_take n rows h.1)

found_first : (b : Bool) (row : Row) (o : Option Row) → is_some o ≡ true → is_some (cond b (Some row) o) ≡ true
found_first true row o h = refl
found_first false row o h = h

each_found : (rows : List Row) → Every (λ row. is_some (row_at rows row.class row.key) ≡ true) rows
each_found [] = tt
each_found (row ∷ rows) = (
  ap (λ b. is_some (cond b (Some row) (row_at rows row.class row.key))) (join (class_number row.class == class_number row.class) (bytes_eq row.key row.key) (eq-eqb _ _ refl) ((bytes_eq-Decides row.key row.key).1 refl)),
  every-imply (λ other. is_some (row_at rows other.class other.key) ≡ true) (λ other. is_some (row_at (row ∷ rows) other.class other.key) ≡ true) (λ other h. found_first (is_row other.class other.key row) row (row_at rows other.class other.key) h) rows (each_found rows),
)

listed_class : (rows : List Row) (class : Class) (key : List ℕ) → class_number class ≡ 3 → is_some (row_at rows class key) ≡ true → is_some (row_at rows Listed key) ≡ true
listed_class rows Held key e h = absurd (omega (arith, e))
listed_class rows Until key e h = absurd (omega (arith, e))
listed_class rows Listed key e h = h

unlisted_class : (census : List (List ℕ)) (rows : List Row) → Every (λ row. is_unlisted census row ≡ true) rows → Every (λ row. class_number row.class ≡ 3) rows
unlisted_class census rows h = every-imply (λ row. is_unlisted census row ≡ true) (λ row. class_number row.class ≡ 3) (λ row e. eqb-true (class_number row.class) 3 (both (class_number row.class == 3) _ e).0) rows h

found_listed : (rows some : List Row) → Every (λ row. class_number row.class ≡ 3) some → Every (λ row. is_some (row_at rows row.class row.key) ≡ true) some → Every (λ row. is_some (row_at rows Listed row.key) ≡ true) some
found_listed rows [] class h = tt
found_listed rows (row ∷ some) class h = (listed_class rows row.class row.key class.0 h.0, found_listed rows some class.1 h.1)

listed_some : (n : ℕ) (rows : List Row) (census : List (List ℕ)) → Once rows → each_listed rows (map (λ row. row.key) (take n (filter (is_unlisted census) rows))) ≡ true
listed_some n rows census once =
    let gone = filter (is_unlisted census) rows in
    let class = every_take (λ row. class_number row.class ≡ 3) n gone (unlisted_class census gone (every_passed (is_unlisted census) rows)) in
    each_from rows (take n gone)
    (found_listed rows (take n gone) class (every_take (λ row. is_some (row_at rows row.class row.key) ≡ true) n gone (every-filter (λ row. is_some (row_at rows row.class row.key) ≡ true) (is_unlisted census) rows (each_found rows))))
    (once_take n gone (once_filter (is_unlisted census) rows once))
    class

-- the rows that a census drops stand each for itself
listed_each : (rows : List Row) (census : List (List ℕ)) → Once rows → each_listed rows (unlisted_keys rows census) ≡ true
listed_each rows census once = listed_some 65535 rows census once

-- what is refused by the last condition alone is timely as well
pub timely_early : (s : State) (tapes : List (List ℕ)) (call : Call) → IsState s → first_of (all_but_last (conditions s tapes call)) ≡ None → MayBeTimely s.form s.kept (effect_of s tapes call)
timely_early s tapes (calls.Record take) h free = tt
timely_early s tapes (calls.Concat ids) h free = all_within s.shape.block (joined s.ropes ids) (flat_map (λ rope. rope.samples) s.ropes) (within_joined s.shape.block s.ropes ids)
timely_early s tapes (calls.Sub id start len) h free =
    all_within s.shape.block (slice (samples_of s.ropes id) start len) (flat_map (λ rope. rope.samples) s.ropes)
    (within_trans s.shape.block _ _ _ (within_slice s.shape.block (samples_of s.ropes id) start len) (within_live s.shape.block s.ropes id))
timely_early s tapes (calls.Replace id start len with) h free =
    all_within s.shape.block (replaced (samples_of s.ropes id) start len (samples_of s.ropes with)) (flat_map (λ rope. rope.samples) s.ropes) (within_replaced s.shape.block s.ropes id start len with)
timely_early s tapes (calls.End lane) h free = tt
timely_early s tapes (calls.Retain class key id note) h free = tt
timely_early s tapes (calls.Forget class key) h free = let c = all_none (all_but_last (conditions s tapes (calls.Forget class key))) free in is_there (row_at s.rows class key) c.0
timely_early s tapes (calls.Census keys) h free = counted_timely s.form s.kept (unlisted_keys s.rows keys) (listed_each s.rows keys h.kept.once)
timely_early s tapes (calls.Advance moment) h free = later_timely s.form s.kept moment (nat_lt s.moment moment) (λ e. ltb-true s.moment moment e)
timely_early s tapes (calls.Sweep limit) h free = any_timely s.form s.kept (expired_rows s.kept) (swept_ropes s.form s.kept limit) (swept_live s.form s.kept limit)
timely_early s tapes (calls.Length id) h free = tt
timely_early s tapes (calls.Describe id) h free = tt
timely_early s tapes (calls.Levels id) h free = tt
timely_early s tapes (calls.Play lane id start len) h free = tt
timely_early s tapes (calls.Feed lane back) h free = tt
timely_early s tapes (calls.Stop lane) h free = tt
timely_early s tapes (calls.Lookup class key) h free = tt
timely_early s tapes calls.Landed h free = tt
timely_early s tapes (calls.Begin lane) h free = tt
timely_early s tapes (calls.Add lane take) h free = tt

pub timely_call : (s : State) (tapes : List (List ℕ)) (call : Call) → IsState s → refusal s tapes call ≡ None → MayBeTimely s.form s.kept (effect_of s tapes call)
timely_call s tapes call h free = timely_early s tapes call h (early_none (conditions s tapes call) free)
