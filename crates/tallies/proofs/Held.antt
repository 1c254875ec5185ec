-- The tally of tables is that of what they show.
use Rattle.std.proofs.Common.{◌≡◌, ℕ, ◌+◌, ◌<◌, ◌≤◌, List, [], ◌∷◌, map, length, refl, sym, ◌∙◌, ap, subst, arith}
use Rattle.std.proofs.lemmas.List.{length-map}
use Rattle.voice_units.specs.Spots.{Spot, samples_in, pieces_of, nowhere}
use Rattle.voice_units.proofs.Counts.{samples_in_runs}
use Rattle.voice_units.specs.declared.shapes.Graces.{Graces}
use Rattle.voice_units.specs.declared.shapes.Shape.{Shape}
use Rattle.voice_units.specs.declared.pieces.Piece.{Piece}
use Rattle.voice_model.specs.State.{Live}
use Rattle.voice_model.specs.Replay.{Rebuilt, live_by}
use Rattle.voice_model.specs.Valid.{Every}
use Rattle.voice_model.specs.declared.calls.Row.{Row}
use Rattle.voice_model.proofs.KeptByChanges.{every-map}
use Rattle.voice_model.proofs.BaseReadAgain.{ids_below}
use Rattle.voice_blocks.specs.Holders.{open_in}
use Rattle.rope_table.specs.declared.ropes.Rope.{Rope}
use Rattle.recovery.specs.Shown.{shown_rope, plain_sample}
use Rattle.recovery.specs.declared.parts.Parts.{Parts}
use Rattle.running_tables.specs.Running.{Runs}
use Rattle.running_tables.proofs.Begins.{divided}
use Rattle.tallies.specs.Tallies.{samples_of, samples_held}

-- ropes as the table keeps them have the samples of the live ones
shown_samples : (graces : Graces) (rows : List Row) (ropes : List (Live Spot)) → samples_held (map (shown_rope graces rows) ropes) ≡ samples_of ropes
shown_samples graces rows [] = refl
shown_samples graces rows (rope ∷ ropes) =
    ap (λ n. n + samples_held (map (shown_rope graces rows) ropes)) (samples_in_runs nowhere rope.samples) ∙ ap (λ n. length rope.samples + n) (shown_samples graces rows ropes)

-- ropes whose samples are mapped have as many
pub mapped_samples : {A B : Type 0} (f : A → B) (ropes : List (Live A)) → samples_of (map (live_by f) ropes) ≡ samples_of ropes
mapped_samples f [] = refl
mapped_samples f (rope ∷ ropes) = ap (λ n. n + samples_of (map (live_by f) ropes)) (length-map rope.samples f) ∙ ap (λ n. length rope.samples + n) (mapped_samples f ropes)

pub samples_shown : (held pledged : List (List Piece)) (takings : List ℕ) (parts : Parts) (b : Rebuilt) → Runs held pledged takings parts b → samples_held parts.ropes.ropes ≡ samples_of b.kept.ropes
samples_shown held pledged takings parts b runs = ap samples_held runs.kept.ropes ∙ shown_samples b.kept.shape.graces b.kept.rows b.kept.ropes

pub ropes_shown : (held pledged : List (List Piece)) (takings : List ℕ) (parts : Parts) (b : Rebuilt) → Runs held pledged takings parts b → length parts.ropes.ropes ≡ length b.kept.ropes
ropes_shown held pledged takings parts b runs = ap length runs.kept.ropes ∙ length-map b.kept.ropes (shown_rope b.kept.shape.graces b.kept.rows)

-- live numbers are at least 1
pub numbers_some : (held pledged : List (List Piece)) (takings : List ℕ) (parts : Parts) (b : Rebuilt) → Runs held pledged takings parts b → Every (λ (rope : Rope). 1 ≤ rope.id) parts.ropes.ropes
numbers_some held pledged takings parts b runs =
    subst (Every (λ (rope : Rope). 1 ≤ rope.id)) (sym runs.kept.ropes)
    (every-map (λ (rope : Live Spot). (1 ≤ rope.id) × (rope.id < b.next)) (λ (rope : Rope). 1 ≤ rope.id) (shown_rope b.kept.shape.graces b.rows) (λ rope h. h.0) b.ropes (ids_below plain_sample b.ropes b.next runs.valid.kept.rising))

-- no more is free than there is
pub free_within : (held pledged : List (List Piece)) (takings : List ℕ) (parts : Parts) (b : Rebuilt) (shape : Shape) → Runs held pledged takings parts b → b.shape ≡ shape → open_in parts.blocks.holders ≤ shape.blocks
free_within held pledged takings parts b shape runs same =
    let all = divided parts.blocks.holders in
    let blocks = ap (λ (s : Shape). s.blocks) same in
    omega (arith, all, runs.size, blocks)
