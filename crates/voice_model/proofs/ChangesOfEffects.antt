-- The change that keeps an effect brings it again, and is as long as the effect's size says.
use Rattle.std.proofs.Common.{◌≡◌, ℕ, zero, suc, ◌+◌, ◌*◌, ◌==◌, Bool, true, false, cond, List, [], ◌∷◌, ◌++◌, length, Option, Some, None, refl, sym, ◌∙◌, ap, arith, length-append}
use Rattle.std.specs.Prelude.{flat_map, sum_by}
use Rattle.std.proofs.lemmas.List.Concat.{length-flat_map}
use Rattle.std.proofs.lemmas.List.Sums.{sum_by-cons}
use Rattle.voice_units.specs.declared.pieces.Piece.{Piece}
use Rattle.voice_units.specs.Spots.{spots_from, nowhere}
use Rattle.voice_units.specs.Blocks.{blocks_for}
use Rattle.voice_units.proofs.PiecesOfRopes.{spots_of-runs}
use Rattle.voice_model.specs.Samples.{Tagged, spot_of, recording, spots_in_rope, pieces_in}
use Rattle.voice_model.specs.State.{State, Effect}
use Rattle.voice_model.specs.State.Effect.{Recorded, Edited, Retained, Forgotten, Counted, Swept, Advanced}
use Rattle.voice_model.specs.Changes.{effect_of, payload_size, unless_empty, if_any, unlisted_keys, expired_rows, swept_ropes, taking_of}
use Rattle.voice_model.specs.Tapes.{taken}
use Rattle.disk_areas.specs.Numbers.{number_bytes}
use Rattle.voice_model.specs.Spelling.{spelling, piece_bytes, text_bytes}
use Rattle.voice_model.specs.Replay.{brings, effect_by}
use Rattle.voice_model.specs.Base.{change_of, IsMade, HasAddresses}
use Rattle.voice_model.proofs.FitsOfCalls.{recorded_length, recorded_spots}
use Rattle.voice_model.specs.declared.changes.Change.TheVariants as changes
use Rattle.voice_model.specs.declared.calls.Call.{Call}
use Rattle.voice_model.specs.declared.calls.Call.TheVariants as calls
use Rattle.voice_model.specs.declared.calls.Row.{Row}

-- ---- it brings the effect

recorded_either : (b : Bool) (id len : ℕ) (addresses : List ℕ) → brings (cond b (changes.Wide id len addresses) (changes.Recorded id len addresses)) ≡ Some (Recorded id (spots_from id 0 len))
recorded_either true id len addresses = refl
recorded_either false id len addresses = refl

recording_spots : (id : ℕ) (samples : List Tagged) (bytes : List ℕ) → samples ≡ recording id bytes → spots_from id 0 (length samples) ≡ spots_in_rope samples
recording_spots id samples bytes e =
    ap (spots_from id 0) (ap length e ∙ recorded_length id 0 bytes) ∙ sym (recorded_spots id 0 bytes) ∙ ap spots_in_rope (sym e)

pub brings_again : (form : ℕ) (addresses : List ℕ) (e : Effect Tagged) → IsMade e → brings (change_of form addresses e) ≡ Some (effect_by spot_of e)
brings_again form addresses (Recorded id samples) h = recorded_either (form == 2) id (length samples) addresses ∙ ap (λ ss. Some (Recorded id ss)) (recording_spots id samples h.0 h.1)
brings_again form addresses (Edited id samples) h = ap (λ ss. Some (Edited id ss)) (spots_of-runs nowhere (spots_in_rope samples))
brings_again form addresses (Retained row) h = refl
brings_again form addresses (Forgotten class key) h = refl
brings_again form addresses (Counted keys) h = refl
brings_again form addresses (Swept ids) h = refl
brings_again form addresses (Advanced moment) h = refl

-- the changes of calls are made so
abbrev pub MadeIf : Option (Effect Tagged) → Type 0
MadeIf None = Unit {0}
MadeIf (Some e) = IsMade e

counted_made : (keys all : List (List ℕ)) → MadeIf (unless_empty keys (Counted all))
counted_made [] all = tt
counted_made (key ∷ keys) all = tt

later_made : (b : Bool) (moment : ℕ) → MadeIf (cond b (Some (Advanced moment)) None)
later_made true moment = tt
later_made false moment = tt

any_made : (rows : List Row) (ids : List ℕ) → MadeIf (if_any rows ids)
any_made [] [] = tt
any_made [] (id ∷ ids) = tt
any_made (row ∷ rows) ids = tt

pub made_by_calls : (s : State) (tapes : List (List ℕ)) (call : Call) → MadeIf (effect_of s tapes call)
made_by_calls s tapes (calls.Record take) = (taken tapes take, refl)
made_by_calls s tapes (calls.End lane) = (taking_of s lane, refl)
made_by_calls s tapes (calls.Census keys) = counted_made (unlisted_keys s.rows keys) (unlisted_keys s.rows keys)
made_by_calls s tapes (calls.Advance moment) = later_made _ moment
made_by_calls s tapes (calls.Sweep limit) = any_made (expired_rows s.kept) (swept_ropes s.form s.kept limit)
made_by_calls s tapes _ = tt

-- ---- it has the effect's size

pub number_length : (width n : ℕ) → length (number_bytes width n) ≡ width
number_length zero n = refl
number_length (suc width) n = ap suc (number_length width n)

pub piece_length : (p : Piece) → length (piece_bytes p) ≡ 16
piece_length p = refl

pub same_length : {A : Type 0} (f : A → List ℕ) (width : ℕ) → ((x : A) → length (f x) ≡ width) → (xs : List A) → length (flat_map f xs) ≡ width * length xs
same_length f width each [] = omega arith
same_length f width each (x ∷ xs) =
    let first = each x in
    let rest = same_length f width each xs in
    let whole = length-append (f x) (flat_map f xs) in
    grind (arith, first, rest, whole)

same_sum : {A : Type 0} (f g : A → ℕ) → ((x : A) → f x ≡ g x) → (xs : List A) → sum_by f xs ≡ sum_by g xs
same_sum f g each [] = refl
same_sum f g each (x ∷ xs) =
    let first = each x in
    let rest = same_sum f g each xs in
    let before = sum_by-cons f x xs in
    let after = sum_by-cons g x xs in
    omega (arith, first, rest, before, after)

recorded_size : (b : Bool) (block id : ℕ) (addresses : List ℕ) (samples : List Tagged) → length addresses ≡ blocks_for block (length samples) → length (spelling (cond b (changes.Wide id (length samples) addresses) (changes.Recorded id (length samples) addresses))) ≡ 17 + cond b 4 2 * blocks_for block (length samples)
recorded_size true block id addresses samples e = let each = same_length (number_bytes 4) 4 (number_length 4) addresses in omega (arith, each, e)
recorded_size false block id addresses samples e = let each = same_length (number_bytes 2) 2 (number_length 2) addresses in omega (arith, each, e)

pub size_again : (form block : ℕ) (addresses : List ℕ) (e : Effect Tagged) → HasAddresses block addresses e → length (spelling (change_of form addresses e)) ≡ payload_size form block e
size_again form block addresses (Recorded id samples) h = recorded_size (form == 2) block id addresses samples h
size_again form block addresses (Edited id samples) h = let each = same_length piece_bytes 16 piece_length (pieces_in samples) in omega (arith, each)
size_again form block addresses (Retained row) h = let front = length-append row.key (number_bytes 8 row.rope) in let whole = length-append (row.key ++ number_bytes 8 row.rope) (text_bytes row.note) in omega (arith, front, whole)
size_again form block addresses (Forgotten class key) h = omega arith
size_again form block addresses (Counted keys) h = let each = length-flat_map text_bytes keys in let same = same_sum (λ key. length (text_bytes key)) (λ key. 1 + length key) (λ key. omega arith) keys in omega (arith, each, same)
size_again form block addresses (Swept ids) h = let each = same_length (number_bytes 8) 8 (number_length 8) ids in omega (arith, each)
size_again form block addresses (Advanced moment) h = refl
