-- The ropes and the lanes of a state, as the tables and the lanes of the program show them.
use Rattle.std.proofs.Common.{◌≡◌, ℕ, ◌<◌, ◌==◌, Bool, true, false, cond, List, [], ◌∷◌, map, length, take, drop, set, Option, Some, None, refl, sym, ◌∙◌, ap, subst}
use Rattle.std.specs.Prelude.{option_map, unwrap_or}
use Rattle.std.proofs.lemmas.Bool.{eqb-true, eq-eqb}
use Rattle.std.proofs.lemmas.List.{get_or-set_same, get_or-set_other, length-set, take-map, drop-map}
use Rattle.voice_units.specs.declared.pieces.Piece.{Piece}
use Rattle.voice_units.specs.Spots.{Spot, spots_of, pieces_of, slice, nowhere}
use Rattle.voice_units.proofs.PiecesOfRopes.{spots_of-runs}
use Rattle.voice_model.specs.Samples.{Tagged, spot_of}
use Rattle.voice_model.specs.State.{State, Durable, Live, LaneState, lane_at, quiet_lane, rope_at, samples_of, samples_or_none}
use Rattle.voice_model.specs.Replay.{Rebuilt, live_by, durable_by}
use Rattle.rope_table.specs.declared.ropes.Rope.{Rope}
use Rattle.recovery.specs.declared.parts.Parts.{Parts}
use Rattle.recovery.specs.Shown.{Shows, shown_rope}
use Rattle.recovery.proofs.Ropes.{rope_of-shown}
use Rattle.edits.specs.Tables.{pieces_here}
use Rattle.edits.specs.Shown.{ShowsState}
use Rattle.frame_pool.specs.Pool.{block_of}
use Rattle.play_queue.specs.declared.jobs.Job.{Job}
use Rattle.play_queue.specs.Queued.{lane_of}
use Rattle.playing.specs.Held.{held_by}
use Rattle.playing.specs.Lanes.{LanesState}
use Rattle.playing.specs.Shown.{shown_job, state_with}
use Rattle.lane_calls.specs.Lanes.{ShowsLanes, Stands}

-- ---- the samples of a rope

filled_here : (fill : Spot → Tagged) (t : Bool) (rope : Live Spot) (o : Option (Live Spot)) (q : Option (Live Tagged)) → samples_or_none q ≡ map fill (samples_or_none o) → samples_or_none (cond t (Some (live_by fill rope)) q) ≡ map fill (samples_or_none (cond t (Some rope) o))
filled_here fill true rope o q e = refl
filled_here fill false rope o q e = e

pub samples_filled : (fill : Spot → Tagged) (ropes : List (Live Spot)) (id : ℕ) → samples_of (map (live_by fill) ropes) id ≡ map fill (samples_of ropes id)
samples_filled fill [] id = refl
samples_filled fill (rope ∷ ropes) id = filled_here fill (rope.id == id) rope (rope_at ropes id) (rope_at (map (live_by fill) ropes) id) (samples_filled fill ropes id)

-- the places of a rope's samples are those of its pieces
pub spots_here : (held : List (List Piece)) (parts : Parts) (d : Durable Spot) → Shows held parts d → (id : ℕ) → spots_of (pieces_here parts.ropes.ropes id) ≡ samples_of d.ropes id
spots_here held parts d h id =
    ap (λ (l : List Rope). spots_of (pieces_here l id)) h.ropes
    ∙ ap (λ o. spots_of (unwrap_or (option_map (λ (rope : Rope). rope.pieces) o) [])) (rope_of-shown d.shape.graces d.rows d.ropes id)
    ∙ through (rope_at d.ropes id)
  where
    through : (o : Option (Live Spot)) → spots_of (unwrap_or (option_map (λ (rope : Rope). rope.pieces) (option_map (shown_rope d.shape.graces d.rows) o)) []) ≡ samples_or_none o
    through None = refl
    through (Some rope) = spots_of-runs nowhere rope.samples

pub spots_again : (fill : Spot → Tagged) → ((x : Spot) → spot_of (fill x) ≡ x) → (ss : List Spot) → map spot_of (map fill ss) ≡ ss
spots_again fill same [] = refl
spots_again fill same (s ∷ ss) = ap (λ x. x ∷ map spot_of (map fill ss)) (same s) ∙ ap (λ l. s ∷ l) (spots_again fill same ss)

ropes_again : (fill : Spot → Tagged) → ((x : Spot) → spot_of (fill x) ≡ x) → (ropes : List (Live Spot)) → map (live_by spot_of) (map (live_by fill) ropes) ≡ ropes
ropes_again fill same [] = refl
ropes_again fill same (r ∷ rs) =
    ap (λ (l : List Spot). record r { samples = l } ∷ map (live_by spot_of) (map (live_by fill) rs)) (spots_again fill same r.samples) ∙ ap (λ l. r ∷ l) (ropes_again fill same rs)

kept_again : (fill : Spot → Tagged) → ((x : Spot) → spot_of (fill x) ≡ x) → (d : Durable Spot) → durable_by spot_of (durable_by fill d) ≡ d
kept_again fill same d = ap (λ (l : List (Live Spot)). record d { ropes = l }) (ropes_again fill same d.ropes)

-- the tables show the durable part of the state
pub state_shown : (fill : Spot → Tagged) (pledged : List (List Piece)) (takings : List ℕ) (parts : Parts) (lanes : LanesState) (made : ℕ) (b : Rebuilt) (s : State) → Stands fill pledged takings parts lanes made b s → ShowsState (held_by lanes.queues) parts s
state_shown fill pledged takings parts lanes made b s st = subst (λ d. Shows (held_by lanes.queues) parts d) (sym (kept_again fill st.shows.spots b.kept) ∙ ap (durable_by spot_of) st.kept) st.runs.kept

map_slice : {A B : Type 0} (f : A → B) (xs : List A) (s n : ℕ) → map f (slice xs s n) ≡ slice (map f xs) s n
map_slice f xs s n = sym (take-map f n (drop s xs)) ∙ ap (take n) (sym (drop-map f s xs))

-- the samples of a passage
pub passage_filled : (fill : Spot → Tagged) (held : List (List Piece)) (parts : Parts) (b : Rebuilt) (s : State) (id start len : ℕ) (passage : List Piece) → Shows held parts b.kept → durable_by fill b.kept ≡ s.kept
    → passage ≡ pieces_of (slice (spots_of (pieces_here parts.ropes.ropes id)) start len) → map fill (spots_of passage) ≡ slice (samples_of s.ropes id) start len
passage_filled fill held parts b s id start len passage shows kept is =
    ap (λ ps. map fill (spots_of ps)) is
    ∙ ap (map fill) (spots_of-runs nowhere (slice (spots_of (pieces_here parts.ropes.ropes id)) start len))
    ∙ ap (λ ss. map fill (slice ss start len)) (spots_here held parts b.kept shows id)
    ∙ map_slice fill (samples_of b.kept.ropes id) start len
    ∙ ap (λ ss. slice ss start len) (sym (samples_filled fill b.kept.ropes id))
    ∙ ap (λ (d : Durable Tagged). slice (samples_of d.ropes id) start len) kept

-- ---- the jobs of a lane change

pub shows_set : (fill : Spot → Tagged) (lanes after : LanesState) (made : ℕ) (s : State) (lane : ℕ) (jobs : List Job) → ShowsLanes fill lanes made s → lane < length lanes.queues
    → after.queues ≡ set lanes.queues lane jobs → block_of after.frames.keeper ≡ block_of lanes.frames.keeper → ShowsLanes fill after made (state_with fill s lane jobs)
shows_set fill lanes after made s lane jobs h low is same = record {
  spots = h.spots;
  many = longer ∙ h.many ∙ many;
  shape = h.shape ∙ many;
  block = same ∙ h.block;
  jobs = λ l lt. each l (l == lane) refl (subst (λ n. l < n) longer lt);
  number = h.number;
}
  where
    there : LaneState
    there = record (lane_at s lane) { jobs = map (shown_job fill) jobs }

    longer : length (set s.lanes lane there) ≡ length s.lanes
    longer = length-set s.lanes lane there

    many : length lanes.queues ≡ length after.queues
    many = sym (length-set lanes.queues lane jobs) ∙ ap (λ l. length l) (sym is)

    at_lane : lane < length s.lanes
    at_lane = subst (λ n. lane < n) (sym h.many) low

    other : (l : ℕ) → (l == lane) ≡ false → l ≡ lane → ⊥
    other l e i = let t = eq-eqb l lane i in cc

    each : (l : ℕ) (t : Bool) → (l == lane) ≡ t → l < length s.lanes → (lane_at (state_with fill s lane jobs) l).jobs ≡ map (shown_job fill) (lane_of after.queues l)
    each l true e lt =
        let i : l ≡ lane = eqb-true l lane e in
        ap (λ k. (lane_at (state_with fill s lane jobs) k).jobs) i
        ∙ ap (λ (v : LaneState). v.jobs) (get_or-set_same s.lanes lane there quiet_lane at_lane)
        ∙ ap (map (shown_job fill)) (sym (get_or-set_same lanes.queues lane jobs [] low))
        ∙ ap (λ qs. map (shown_job fill) (lane_of qs lane)) (sym is)
        ∙ ap (λ k. map (shown_job fill) (lane_of after.queues k)) (sym i)
    each l false e lt =
        ap (λ (v : LaneState). v.jobs) (get_or-set_other s.lanes lane l there quiet_lane (other l e))
        ∙ h.jobs l lt
        ∙ ap (map (shown_job fill)) (sym (get_or-set_other lanes.queues lane l jobs [] (other l e)))
        ∙ ap (λ qs. map (shown_job fill) (lane_of qs l)) (sym is)

-- and one more job was made
pub shows_made : (fill : Spot → Tagged) (lanes : LanesState) (made n : ℕ) (s : State) → ShowsLanes fill lanes made s → ShowsLanes fill lanes n (record s { made = n })
shows_made fill lanes made n s h = record { spots = h.spots; many = h.many; shape = h.shape; block = h.block; jobs = h.jobs; number = refl }
