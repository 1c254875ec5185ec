-- No edit takes a block: the samples of the rope that it makes are samples of live ropes.
use Rattle.std.proofs.Common.{◌≡◌, ℕ, ◌+◌, Bool, true, false, ◌||◌, cond, List, [], ◌∷◌, ◌++◌, take, drop, flat_map, Some, refl, sym, ◌∙◌, ap, ◌==◌}
use Rattle.std.specs.Prelude.{sum_by}
use Rattle.std.proofs.lemmas.List.Folds.{list_any-append}
use Rattle.std.proofs.lemmas.Grind.{flat_map-append}
use Rattle.std.proofs.lemmas.List.{take-append-drop}
use Rattle.voice_units.specs.Spots.{slice, replaced}
use Rattle.voice_model.specs.Samples.{Tagged}
use Rattle.voice_model.specs.State.{State, Live, LaneState, rope_at, samples_of, samples_or_none, joined}
use Rattle.voice_model.specs.State.Effect.{Edited}
use Rattle.voice_units.specs.Blocks.{BlockPair, same_pair, has_pair}
use Rattle.voice_model.specs.Room.{pair_of, pairs_of, used, held_by_lane, held_by_doubt, taking_blocks}
use Rattle.voice_model.specs.Changes.{committed}
use Rattle.voice_model.specs.Step.{after_answer}
use Rattle.voice_model.specs.declared.calls.Call.TheVariants as calls
use Rattle.voice_units.proofs.Distinct.{same_count}

-- each block of some samples is a block of others
pub record Within (block : ℕ) (xs ys : List Tagged) : Type 0 where
  pub each : (q : BlockPair) → has_pair (pairs_of block xs) q ≡ true → has_pair (pairs_of block ys) q ≡ true

or_cases : (a b : Bool) {P : Type 0} → (a ≡ true → P) → (b ≡ true → P) → (a || b) ≡ true → P
or_cases true b f g e = f refl
or_cases false b f g e = g e

or_left : (a b : Bool) → a ≡ true → (a || b) ≡ true
or_left a b e = ap (λ x. x || b) e

or_right : (a b : Bool) → b ≡ true → (a || b) ≡ true
or_right true b e = refl
or_right false b e = e

pairs_of-append : (block : ℕ) (xs ys : List Tagged) → pairs_of block (xs ++ ys) ≡ pairs_of block xs ++ pairs_of block ys
pairs_of-append block [] ys = refl
pairs_of-append block (x ∷ xs) ys = ap (λ l. pair_of block x ∷ l) (pairs_of-append block xs ys)

has_pair-append : (block : ℕ) (xs ys : List Tagged) (q : BlockPair) → has_pair (pairs_of block (xs ++ ys)) q ≡ (has_pair (pairs_of block xs) q || has_pair (pairs_of block ys) q)
has_pair-append block xs ys q = ap (λ ps. has_pair ps q) (pairs_of-append block xs ys) ∙ list_any-append (same_pair q) (pairs_of block xs) (pairs_of block ys)

pub within_empty : (block : ℕ) (ys : List Tagged) → Within block [] ys
within_empty block ys = record { each = λ q e. cc }

pub within_append : (block : ℕ) (xs ys zs : List Tagged) → Within block xs zs → Within block ys zs → Within block (xs ++ ys) zs
within_append block xs ys zs h k = record { each = λ q e. or_cases _ _ (h.each q) (k.each q) (sym (has_pair-append block xs ys q) ∙ e) }

pub within_left : (block : ℕ) (xs ys : List Tagged) → Within block xs (xs ++ ys)
within_left block xs ys = record { each = λ q e. has_pair-append block xs ys q ∙ or_left _ _ e }

pub within_right : (block : ℕ) (xs ys : List Tagged) → Within block ys (xs ++ ys)
within_right block xs ys = record { each = λ q e. has_pair-append block xs ys q ∙ or_right _ _ e }

pub within_same : (block : ℕ) (xs : List Tagged) → Within block xs xs
within_same block xs = record { each = λ q e. e }

pub within_trans : (block : ℕ) (xs ys zs : List Tagged) → Within block xs ys → Within block ys zs → Within block xs zs
within_trans block xs ys zs h k = record { each = λ q e. k.each q (h.each q e) }

-- a part of a list lies within it
pub within_take : (block n : ℕ) (xs : List Tagged) → Within block (take n xs) xs
within_take block n xs = record { each = λ q e. ap (λ l. has_pair (pairs_of block l) q) (sym (take-append-drop n xs)) ∙ (has_pair-append block (take n xs) (drop n xs) q ∙ or_left _ _ e) }

pub within_drop : (block n : ℕ) (xs : List Tagged) → Within block (drop n xs) xs
within_drop block n xs = record { each = λ q e. ap (λ l. has_pair (pairs_of block l) q) (sym (take-append-drop n xs)) ∙ (has_pair-append block (take n xs) (drop n xs) q ∙ or_right _ _ e) }

pub within_slice : (block : ℕ) (xs : List Tagged) (s n : ℕ) → Within block (slice xs s n) xs
within_slice block xs s n = within_trans block _ _ _ (within_take block n (drop s xs)) (within_drop block s xs)

-- the samples of all live ropes
abbrev pub live_samples : List (Live Tagged) → List Tagged
live_samples ropes = flat_map (λ rope. rope.samples) ropes

rope_here : (block : ℕ) (rope : Live Tagged) (ropes : List (Live Tagged)) (id : ℕ) (b : Bool) → Within block (samples_of ropes id) (live_samples ropes) → Within block (samples_or_none (cond b (Some rope) (rope_at ropes id))) (live_samples (rope ∷ ropes))
rope_here block rope ropes id true h = within_left block rope.samples (live_samples ropes)
rope_here block rope ropes id false h = within_trans block _ _ _ h (within_right block rope.samples (live_samples ropes))

pub within_live : (block : ℕ) (ropes : List (Live Tagged)) (id : ℕ) → Within block (samples_of ropes id) (live_samples ropes)
within_live block [] id = within_empty block []
within_live block (rope ∷ ropes) id = rope_here block rope ropes id (rope.id == id) (within_live block ropes id)

pub within_joined : (block : ℕ) (ropes : List (Live Tagged)) (ids : List ℕ) → Within block (joined ropes ids) (live_samples ropes)
within_joined block ropes [] = within_empty block (live_samples ropes)
within_joined block ropes (id ∷ ids) = within_append block _ _ _ (within_live block ropes id) (within_joined block ropes ids)

pub within_replaced : (block : ℕ) (ropes : List (Live Tagged)) (id start len other : ℕ) → Within block (replaced (samples_of ropes id) start len (samples_of ropes other)) (live_samples ropes)
within_replaced block ropes id start len other =
    let whole = within_live block ropes id in
    within_append block _ _ _
    (within_append block _ _ _ (within_trans block _ _ _ (within_slice block (samples_of ropes id) 0 start) whole) (within_live block ropes other))
    (within_trans block _ _ _ (within_drop block (start + len) (samples_of ropes id)) whole)

-- what lies within adds nothing
no_more : (a n : Bool) → (n ≡ true → a ≡ true) → (a || (n || false)) ≡ a
no_more true n h = refl
no_more false true h = sym (h refl)
no_more false false h = refl

live_as_before : (block : ℕ) (ropes : List (Live Tagged)) (rope : Live Tagged) (q : BlockPair) → Within block rope.samples (live_samples ropes) → has_pair (pairs_of block (live_samples (ropes ++ rope ∷ []))) q ≡ has_pair (pairs_of block (live_samples ropes)) q
live_as_before block ropes rope q h =
    ap (λ l. has_pair (pairs_of block l) q) (flat_map-append (λ (r : Live Tagged). r.samples) ropes (rope ∷ []))
    ∙ has_pair-append block (live_samples ropes) (rope.samples ++ []) q
    ∙ ap (λ b. has_pair (pairs_of block (live_samples ropes)) q || b) (has_pair-append block rope.samples [] q)
    ∙ no_more _ _ (h.each q)

in_use_alike : (block : ℕ) (a b l d : List Tagged) (q : BlockPair) → has_pair (pairs_of block a) q ≡ has_pair (pairs_of block b) q → has_pair (pairs_of block (a ++ l ++ d)) q ≡ has_pair (pairs_of block (b ++ l ++ d)) q
in_use_alike block a b l d q same =
    has_pair-append block (a ++ l) d q
    ∙ ap (λ x. x || has_pair (pairs_of block d) q) (has_pair-append block a l q ∙ ap (λ x. x || has_pair (pairs_of block l) q) same ∙ sym (has_pair-append block b l q))
    ∙ sym (has_pair-append block (b ++ l) d q)

-- a rope that lies within the live ones takes no block
pub used-edited : (s : State) (id : ℕ) (samples : List Tagged) → Within s.shape.block samples (live_samples s.ropes) → used (committed s s.form (Edited id samples)) ≡ used s
used-edited s id samples h =
    let rope : Live Tagged = record { id = id; samples = samples; idle = s.moment; last = 0 } in
    let lanes = flat_map held_by_lane s.lanes in
    let doubt = held_by_doubt s.doubt in
    ap (λ n. n + sum_by (λ (lane : LaneState). taking_blocks s.shape.block lane.taking) s.lanes)
    (same_count (pairs_of s.shape.block (live_samples (s.ropes ++ rope ∷ []) ++ lanes ++ doubt)) (pairs_of s.shape.block (live_samples s.ropes ++ lanes ++ doubt))
    (λ q. in_use_alike s.shape.block _ _ lanes doubt q (live_as_before s.shape.block s.ropes rope q h)))

-- Concatenate, Substring and Replace leave the number of used blocks
pub used-concat : (s : State) (tapes : List (List ℕ)) (ids : List ℕ) → used (after_answer s tapes (calls.Concat ids)) ≡ used s
used-concat s tapes ids = used-edited s s.next (joined s.ropes ids) (within_joined s.shape.block s.ropes ids)

pub used-sub : (s : State) (tapes : List (List ℕ)) (id start len : ℕ) → used (after_answer s tapes (calls.Sub id start len)) ≡ used s
used-sub s tapes id start len =
    used-edited s s.next (slice (samples_of s.ropes id) start len)
    (within_trans s.shape.block _ _ _ (within_slice s.shape.block (samples_of s.ropes id) start len) (within_live s.shape.block s.ropes id))

pub used-replace : (s : State) (tapes : List (List ℕ)) (id start len other : ℕ) → used (after_answer s tapes (calls.Replace id start len other)) ≡ used s
used-replace s tapes id start len other =
    used-edited s s.next (replaced (samples_of s.ropes id) start len (samples_of s.ropes other)) (within_replaced s.shape.block s.ropes id start len other)
