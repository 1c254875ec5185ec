-- States in which nothing is held, and bases.
use Rattle.std.proofs.Common.{◌≡◌, ℕ, zero, suc, true, false, List, [], ◌∷◌, ◌++◌, map, flat_map, length, refl, sym, ◌∙◌, ap, subst, arith}
use Rattle.std.specs.Prelude.{replicate}
use Rattle.std.proofs.lemmas.Bool.{ltb-true}
use Rattle.voice_units.specs.Spots.{pieces_of}
use Rattle.voice_units.specs.Blocks.{BlockPair, has_pair}
use Rattle.voice_units.specs.declared.pieces.Piece.{Piece}
use Rattle.voice_model.specs.Samples.{spot_of}
use Rattle.voice_model.specs.Replay.{Rebuilt, used_pairs}
use Rattle.voice_model.specs.State.{State, LaneState, quiet_lane}
use Rattle.voice_model.specs.Room.{taking_blocks, held_by_doubt}
use Rattle.voice_blocks.specs.declared.owner.Owner.{Owner}
use Rattle.voice_blocks.specs.declared.owner.Owner.TheVariants.{File, Taking}
use Rattle.rope_table.specs.Table.{pairs_in}
use Rattle.recovery.specs.declared.parts.Parts.{Parts}
use Rattle.running_tables.specs.Running.{taken, is_wanted, Runs, RunsState, pledged_in, takings_in}
use Rattle.running_tables.specs.Laws as laws
use Rattle.running_tables.proofs.Begins.{begins}
use Rattle.running_tables.proofs.Passages.{job_passages}
use Rattle.voice_blocks.proofs.Apart.{or_left, either_way}

pub spelled : laws.Spelled
spelled held pledged takings parts b runs = record {
  held = held;
  kept = runs.kept;
  addresses = runs.addresses;
  in_form = runs.in_form;
  valid = runs.valid;
  placed = runs.placed;
  used = runs.used;
}

still_wanted : (pairs others : List BlockPair) (takings : List ℕ) (owner : Owner) (index : ℕ) → is_wanted pairs [] [] owner index ≡ true → is_wanted pairs others takings owner index ≡ true
still_wanted pairs others takings (File file) index e =
    either_way (has_pair pairs (record { file = file; index = index })) false
    (λ k. or_left (has_pair pairs (record { file = file; index = index })) (has_pair others (record { file = file; index = index })) k)
    (λ k. cc) e
still_wanted pairs others takings (Taking lane) index e = let low = ltb-true index 0 e in absurd (omega (arith, low))

-- a pledge of no block
no_pledge : (pledged : List (List Piece)) (parts : Parts) (b : Rebuilt) → pairs_in b.shape.block pledged ≡ [] → Runs [] [] [] parts b → Runs [] pledged [] parts b
no_pledge pledged parts b none runs = record {
  kept = runs.kept;
  size = runs.size;
  addresses = runs.addresses;
  given = record {
    only = λ a h e. still_wanted (used_pairs b.kept) (pairs_in b.shape.block pledged) [] h.owner h.index (runs.given.only a h e);
    single = runs.given.single;
    passages = λ pair e. absurd (no_pair pair (ap (λ l. has_pair l pair) (sym none) ∙ e));
    recordings = runs.given.recordings;
  };
  below = tt;
  in_form = runs.in_form;
  valid = runs.valid;
  placed = runs.placed;
  used = runs.used;
}
  where
    no_pair : (pair : BlockPair) → has_pair [] pair ≡ true → ⊥
    no_pair pair e = cc

taken_wanted : (pairs others : List BlockPair) (takings : List ℕ) (owner : Owner) (index : ℕ) → is_wanted pairs others [] owner index ≡ true → is_wanted pairs others takings owner index ≡ true
taken_wanted pairs others takings (File file) index e = e
taken_wanted pairs others takings (Taking lane) index e = let low = ltb-true index 0 e in absurd (omega (arith, low))

-- no recording has taken a block
no_taken : (held pledged : List (List Piece)) (takings : List ℕ) (parts : Parts) (b : Rebuilt) → ((lane : ℕ) → taken takings lane ≡ 0) → Runs held pledged [] parts b → Runs held pledged takings parts b
no_taken held pledged takings parts b free runs = record {
  kept = runs.kept;
  size = runs.size;
  addresses = runs.addresses;
  given = record {
    only = λ a h e. taken_wanted (used_pairs b.kept) (pairs_in b.shape.block (held ++ pledged)) takings h.owner h.index (runs.given.only a h e);
    single = runs.given.single;
    passages = runs.given.passages;
    recordings = λ lane index e. let zero_taken = free lane in absurd (omega (arith, e, zero_taken));
  };
  below = runs.below;
  in_form = runs.in_form;
  valid = runs.valid;
  placed = runs.placed;
  used = runs.used;
}

no_passage : (n : ℕ) → flat_map (λ (lane : LaneState). job_passages lane.jobs) (replicate n quiet_lane) ≡ []
no_passage zero = refl
no_passage (suc n) = no_passage n

no_taking : (block n lane : ℕ) → taken (map (λ (l : LaneState). taking_blocks block l.taking) (replicate n quiet_lane)) lane ≡ 0
no_taking block zero lane = refl
no_taking block (suc n) zero = refl
no_taking block (suc n) (suc lane) = no_taking block n lane

-- a state in which nothing but a change in doubt is held
pub alone : (parts : Parts) (b : Rebuilt) (s : State) → laws.AreQuiet s.lanes → Runs [] (pledged_in s) [] parts b → RunsState parts b s
alone parts b s still runs =
    subst (λ l. Runs l (pledged_in s) (takings_in s) parts b) (sym (ap (flat_map (λ (lane : LaneState). job_passages lane.jobs)) still ∙ no_passage (length s.lanes)))
    (no_taken [] (pledged_in s) (takings_in s) parts b
    (λ lane. ap (λ (l : List LaneState). taken (map (λ (m : LaneState). taking_blocks s.shape.block m.taking) l) lane) still ∙ no_taking s.shape.block (length s.lanes) lane) runs)

pub quiet : laws.Quiet
quiet parts b s shows still certain =
    alone parts b s still
    (no_pledge (pledged_in s) parts b (ap (λ o. pairs_in b.shape.block (pieces_of (map spot_of (held_by_doubt o)) ∷ [])) certain) (begins parts b shows))
