-- A rope that an edit makes uses only blocks that live ropes use.
use Rattle.std.proofs.Common.{◌≡◌, ℕ, ◌==◌, Bool, true, false, ◌||◌, ◌&&◌, cond, List, [], ◌∷◌, ◌++◌, map, flat_map, length, Option, Some, None, refl, sym, ◌∙◌, ap, subst, eq-eqb}
use Rattle.std.specs.List.{list_all}
use Rattle.std.proofs.lemmas.List.{map-append}
use Rattle.voice_units.specs.declared.pieces.Piece.{Piece}
use Rattle.voice_units.specs.Spots.{spots_of, samples_in, nowhere}
use Rattle.voice_units.specs.Blocks.{BlockPair, same_pair, has_pair, pair_at, pairs_at}
use Rattle.voice_units.proofs.PiecesOfRopes.{spots_of-runs}
use Rattle.voice_model.specs.Samples.{Tagged, spot_of, spots_in_rope, pieces_in}
use Rattle.voice_model.specs.State.{State, Live, Effect, samples_of}
use Rattle.voice_model.specs.State.Effect.{Edited, Counted, Advanced}
use Rattle.voice_model.specs.Room.{pairs_of, samples_brought}
use Rattle.voice_model.specs.Changes.{effect_of, unless_empty, unlisted_keys, if_any, expired_rows, swept_ropes}
use Rattle.voice_model.specs.Replay.{live_by, durable_by, used_pairs}
use Rattle.voice_model.specs.declared.calls.Call.{Call}
use Rattle.voice_model.specs.declared.calls.Call.TheVariants as calls
use Rattle.voice_model.specs.declared.calls.Row.{Row}
use Rattle.voice_model.proofs.UsedByEdits.{Within, live_samples, within_trans, within_slice, within_live, within_joined, within_replaced}
use Rattle.edits.specs.Shown.{EditsAreOfLiveRopes}
use Rattle.edits.proofs.Seen.{made_length}

-- ---- the samples of an edit lie in blocks of live ropes

-- the samples that a change of an edit brings lie in blocks of live ropes
abbrev EditedWithin : State → Option (Effect Tagged) → Type 0
EditedWithin s (Some (Edited id samples)) = Within s.shape.block samples (live_samples s.ropes)
EditedWithin s _ = Unit {0}

unless_empty_within : (s : State) (keys all : List (List ℕ)) → EditedWithin s (unless_empty keys (Counted all))
unless_empty_within s [] all = tt
unless_empty_within s (key ∷ keys) all = tt

if_later_within : (s : State) (b : Bool) (moment : ℕ) → EditedWithin s (cond b (Some (Advanced moment)) None)
if_later_within s true moment = tt
if_later_within s false moment = tt

if_any_within : (s : State) (rows : List Row) (ids : List ℕ) → EditedWithin s (if_any rows ids)
if_any_within s [] [] = tt
if_any_within s [] (id ∷ ids) = tt
if_any_within s (row ∷ rows) ids = tt

edited_within : (s : State) (tapes : List (List ℕ)) (call : Call) → EditedWithin s (effect_of s tapes call)
edited_within s tapes (calls.Concat ids) = within_joined s.shape.block s.ropes ids
edited_within s tapes (calls.Sub id start len) = within_trans s.shape.block _ _ _ (within_slice s.shape.block (samples_of s.ropes id) start len) (within_live s.shape.block s.ropes id)
edited_within s tapes (calls.Replace id start len with) = within_replaced s.shape.block s.ropes id start len with
edited_within s tapes (calls.Record take) = tt
edited_within s tapes (calls.End lane) = tt
edited_within s tapes (calls.Retain class key id note) = tt
edited_within s tapes (calls.Forget class key) = tt
edited_within s tapes (calls.Census keys) = unless_empty_within s (unlisted_keys s.rows keys) (unlisted_keys s.rows keys)
edited_within s tapes (calls.Advance moment) = if_later_within s _ moment
edited_within s tapes (calls.Sweep limit) = if_any_within s (expired_rows s.kept) (swept_ropes s.form s.kept limit)
edited_within s tapes (calls.Length id) = tt
edited_within s tapes (calls.Describe id) = tt
edited_within s tapes (calls.Levels id) = tt
edited_within s tapes (calls.Play lane id start len) = tt
edited_within s tapes (calls.Feed lane back) = tt
edited_within s tapes (calls.Stop lane) = tt
edited_within s tapes (calls.Lookup class key) = tt
edited_within s tapes calls.Landed = tt
edited_within s tapes (calls.Begin lane) = tt
edited_within s tapes (calls.Add lane take) = tt

-- ---- those blocks are the used ones

live_places : (ropes : List (Live Tagged)) → flat_map (λ rope. rope.samples) (map (live_by spot_of) ropes) ≡ spots_in_rope (live_samples ropes)
live_places [] = refl
live_places (rope ∷ ropes) = ap (λ l. spots_in_rope rope.samples ++ l) (live_places ropes) ∙ sym (map-append spot_of rope.samples (live_samples ropes))

pairs_of_places : (block : ℕ) (samples : List Tagged) → pairs_at block (spots_in_rope samples) ≡ pairs_of block samples
pairs_of_places block [] = refl
pairs_of_places block (t ∷ samples) = ap (λ l. pair_at block (spot_of t) ∷ l) (pairs_of_places block samples)

used_of_state : (s : State) → pairs_of s.shape.block (live_samples s.ropes) ≡ used_pairs (durable_by spot_of s.kept)
used_of_state s = sym (ap (pairs_at s.shape.block) (live_places s.ropes) ∙ pairs_of_places s.shape.block (live_samples s.ropes))

same_itself : (p : BlockPair) → same_pair p p ≡ true
same_itself p = ap (λ x. x && (p.index == p.index)) (eq-eqb p.file p.file refl) ∙ eq-eqb p.index p.index refl

or_left : (a b : Bool) → a ≡ true → (a || b) ≡ true
or_left a b e = ap (λ x. x || b) e

or_right : (a b : Bool) → b ≡ true → (a || b) ≡ true
or_right true b e = refl
or_right false b e = e

all_had : (pairs others : List BlockPair) → ((p : BlockPair) → has_pair pairs p ≡ true → has_pair others p ≡ true) → list_all (has_pair others) pairs ≡ true
all_had [] others within = refl
all_had (p ∷ pairs) others within =
    ap (λ b. b && list_all (has_pair others) pairs) (within p (or_left (same_pair p p) (has_pair pairs p) (same_itself p)))
    ∙ all_had pairs others (λ q e. within q (or_right (same_pair q p) (has_pair pairs q) e))

blocks_used : (s : State) (samples : List Tagged) (pieces : List Piece) → Within s.shape.block samples (live_samples s.ropes) → pieces ≡ pieces_in samples
    → list_all (has_pair (used_pairs (durable_by spot_of s.kept))) (pairs_at s.shape.block (spots_of pieces)) ≡ true
blocks_used s samples pieces within same =
    ap (λ ss. list_all (has_pair (used_pairs (durable_by spot_of s.kept))) (pairs_at s.shape.block ss)) (ap spots_of same ∙ spots_of-runs nowhere (spots_in_rope samples))
    ∙ ap (list_all (has_pair (used_pairs (durable_by spot_of s.kept)))) (pairs_of_places s.shape.block samples)
    ∙ ap (λ pairs. list_all (has_pair pairs) (pairs_of s.shape.block samples)) (sym (used_of_state s))
    ∙ all_had (pairs_of s.shape.block samples) (pairs_of s.shape.block (live_samples s.ropes)) within.each

same_samples : (o : Option (Effect Tagged)) (n : ℕ) (xs ys : List Tagged) → o ≡ Some (Edited n xs) → o ≡ Some (Edited n ys) → xs ≡ ys
same_samples o n xs ys e h = ap samples_of_effect (sym e ∙ h)
  where
    samples_of_effect : Option (Effect Tagged) → List Tagged
    samples_of_effect None = []
    samples_of_effect (Some effect) = samples_brought effect

pub of_live_ropes : EditsAreOfLiveRopes
of_live_ropes = record {
  blocks = λ s tapes call pieces made. blocks_used s made.samples pieces (subst (EditedWithin s) made.effect (edited_within s tapes call)) made.same;
  length = λ s tapes call samples pieces effect made. ap samples_in made.same ∙ made_length made.samples ∙ ap length (same_samples (effect_of s tapes call) s.next made.samples samples made.effect effect);
}
