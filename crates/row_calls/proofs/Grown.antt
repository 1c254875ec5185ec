-- Changes by what was made ready: how the base grows, and what is replied.
use Rattle.std.proofs.Common.{◌≡◌, ℕ, ◌+◌, ◌*◌, ◌/◌, ◌%◌, ◌<◌, ◌^◌, ◌&&◌, nat_le, get_or, Bool, true, false, cond, List, [], ◌∷◌, length, Option, Some, None, refl, sym, ◌∙◌, ap, subst, arith}
use Rattle.std.specs.Prelude.{filter, take}
use Rattle.std.specs.List.{slice_get}
use Rattle.std.proofs.lemmas.Bool.{ltb-true}
use Rattle.std.proofs.lemmas.Option.{slice_get_within, get_or_from_slice_get}
use Rattle.std.proofs.lemmas.List.Filters.{length-filter_more}
use Rattle.voice_units.specs.Spots.{Spot}
use Rattle.voice_model.specs.Samples.{Tagged}
use Rattle.voice_model.specs.State.{State, Durable, Effect}
use Rattle.voice_model.specs.State.Effect.{Counted, Swept}
use Rattle.voice_model.specs.Changes.{unless_empty, if_any}
use Rattle.voice_model.specs.Spelling.{spelling, keeps_grammar, fits}
use Rattle.voice_model.proofs.ReadAgain.{read_number}
use Rattle.voice_model.specs.declared.calls.Row.{Row}
use Rattle.voice_model.specs.declared.changes.Change.TheVariants as changes
use Rattle.ready_changes.specs.Ready.{IsReady, MayBeReady, change_for, census_of, sweep_of}
use Rattle.ready_changes.specs.declared.ReadyChange.{ReadyChange}
use Rattle.row_calls.specs.Asked.{Grows}
use Rattle.row_calls.specs.declared.outcomes.Growth.{Growth}

some_same : {A : Type 0} (x y : A) → Some x ≡ Some y → x ≡ y
some_same x y e = cc

-- an effect that is known grows as it does
pub grows_as : (s : State) (made : Effect Tagged) (growth : Growth) → Grows s made growth → (effect : Effect Tagged) → Some made ≡ Some effect → Grows s effect growth
grows_as s made growth h effect e = subst (λ x. Grows s x growth) (some_same made effect e) h

pub grows_later : (s : State) (b : Bool) (made : Effect Tagged) (growth : Growth) → Grows s made growth → (effect : Effect Tagged) → cond b (Some made) None ≡ Some effect → Grows s effect growth
grows_later s true made growth h effect e = grows_as s made growth h effect e
grows_later s false made growth h effect e = cc

pub grows_counted : (s : State) (keys : List (List ℕ)) (growth : Growth) → Grows s (Counted keys) growth → (effect : Effect Tagged) → unless_empty keys (Counted keys) ≡ Some effect → Grows s effect growth
grows_counted s [] growth h effect e = cc
grows_counted s (key ∷ keys) growth h effect e = grows_as s (Counted (key ∷ keys)) growth h effect e

pub grows_swept : (s : State) (rows : List Row) (ids : List ℕ) (growth : Growth) → Grows s (Swept ids) growth → (effect : Effect Tagged) → if_any rows ids ≡ Some effect → Grows s effect growth
grows_swept s [] [] growth h effect e = cc
grows_swept s [] (id ∷ ids) growth h effect e = grows_as s (Swept (id ∷ ids)) growth h effect e
grows_swept s (row ∷ rows) ids growth h effect e = grows_as s (Swept ids) growth h effect e

-- ---- where nothing is ready

pub nothing_made : (spare : ℕ) (d : Durable Spot) (o : Option (Effect Tagged)) → MayBeReady spare d None (change_for o) → o ≡ None
nothing_made spare d None h = refl
nothing_made spare d (Some effect) h = absurd h

pub none_counted : (keys : List (List ℕ)) (effect : Effect Tagged) → unless_empty keys effect ≡ None → keys ≡ []
none_counted [] effect e = refl
none_counted (key ∷ keys) effect e = cc

pub no_rows : (rows : List Row) (ids : List ℕ) → if_any rows ids ≡ None → rows ≡ []
no_rows [] [] e = refl
no_rows [] (id ∷ ids) e = refl
no_rows (row ∷ rows) ids e = cc

pub no_ids : (rows : List Row) (ids : List ℕ) → if_any rows ids ≡ None → ids ≡ []
no_ids [] [] e = refl
no_ids [] (id ∷ ids) e = cc
no_ids (row ∷ rows) ids e = cc

-- ---- what is ready

pub census_ready : (spare : ℕ) (d : Durable Spot) (ready : ReadyChange) (keys : List (List ℕ)) → MayBeReady spare d (Some ready) (census_of keys) → IsReady spare d ready (changes.Census keys)
census_ready spare d ready [] h = absurd h
census_ready spare d ready (key ∷ keys) h = h

pub sweep_ready : (spare : ℕ) (d : Durable Spot) (ready : ReadyChange) (rows : List Row) (ids : List ℕ) → MayBeReady spare d (Some ready) (sweep_of rows ids) → IsReady spare d ready (changes.Swept ids)
sweep_ready spare d ready [] [] h = absurd h
sweep_ready spare d ready [] (id ∷ ids) h = h
sweep_ready spare d ready (row ∷ rows) ids h = h

-- ---- how many keys a census names, in the bytes that spell it

pub named_few : (bytes : List ℕ) (keys : List (List ℕ)) → bytes ≡ spelling (changes.Census keys) → length bytes < 3 → 0 ≡ length keys
named_few bytes keys is few = absurd (subst (λ (l : List ℕ). ¬ (length l < 3)) (sym is) (λ e. omega (arith, e)) few)

both : (a b : Bool) → (a && b) ≡ true → (a ≡ true) × (b ≡ true)
both true b e = (refl, e)
both false b e = cc

two_bytes : (a b n : ℕ) → (0 * 256 + a) * 256 + b ≡ n → a * 256 + b ≡ n
two_bytes a b n e = omega (arith, e)

pub named_keys : (bytes : List ℕ) (keys : List (List ℕ)) → bytes ≡ spelling (changes.Census keys) → keeps_grammar (changes.Census keys) ≡ true → get_or bytes 1 0 * 256 + get_or bytes 2 0 ≡ length keys
named_keys bytes keys is grammar =
    let n = length keys in
    ap (λ (l : List ℕ). get_or l 1 0 * 256 + get_or l 2 0) is
    ∙ two_bytes ((n / 256 ^ 1) % 256) ((n / 256 ^ 0) % 256) n (read_number 2 n (ltb-true n (256 ^ 2) (both (nat_le 1 n) (fits 2 n) (both (nat_le 1 n && fits 2 n) _ grammar).0).1))

-- ---- rows that are counted

pub counted_next : (p : Row → Bool) (rows : List Row) (k : ℕ) (row : Row) → slice_get rows k ≡ Some row → length (filter p (take (k + 1) rows)) ≡ length (filter p (take k rows)) + cond (p row) 1 0
counted_next p rows k row e = length-filter_more p rows k row (slice_get_within rows k row e) ∙ ap (λ r. length (filter p (take k rows)) + cond (p r) 1 0) (get_or_from_slice_get rows k row row e)
