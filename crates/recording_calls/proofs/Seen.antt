-- What the recordings of lanes show of a state.
use Rattle.std.proofs.Common.{◌≡◌, ℕ, ◌+◌, ◌-◌, ◌<◌, ◌≤◌, ◌==◌, Bool, true, false, List, [], ◌++◌, length, take, drop, set, Option, Some, None, refl, sym, ◌∙◌, ap, ap₂, subst, arith}
use Rattle.std.specs.Prelude.{nat_lt, unwrap_or}
use Rattle.std.proofs.lemmas.Bool.{ltb-true, ltb-false, eqb-true, eq-eqb}
use Rattle.std.proofs.lemmas.List.{get_or_past, get_or-set_same, get_or-set_other, length-set, length-append, length-take-le, drop-take}
use Rattle.std.proofs.Math.Seq.{drop-append_seam}
use Rattle.std.proofs.Math.Nat.{mod-le}
use Rattle.voice_model.specs.State.{State, LaneState, lane_at, with_lane, quiet_lane}
use Rattle.voice_model.specs.Changes.{taking_of}
use Rattle.record_job.specs.Recording.{Recording, seen, whole_length, whole_blocks, rest_of}
use Rattle.record_job.proofs.Inputs.{rest_of-append, whole_blocks-append}
use Rattle.recording_calls.specs.Shown.{ShowsRecordings, kept_of, recording_at, more_of, between}

-- ---- one lane

-- the recording of a lane, also of one that is not there
pub at_lane : (recordings : List (Option Recording)) (s : State) (l : ℕ) → ShowsRecordings recordings s → recording_at recordings l ≡ kept_of s.shape.block l (lane_at s l).taking
at_lane recordings s l h = by (nat_lt l (length s.lanes)) refl
  where
    by : (t : Bool) → nat_lt l (length s.lanes) ≡ t → recording_at recordings l ≡ kept_of s.shape.block l (lane_at s l).taking
    by true e = h.each l (ltb-true l (length s.lanes) e)
    by false e =
        let past = ltb-false l (length s.lanes) e in
        let many = h.many in
        get_or_past recordings l None (omega (arith, past, many)) ∙ ap (λ (v : LaneState). kept_of s.shape.block l v.taking) (sym (get_or_past s.lanes l quiet_lane past))

-- ---- a lane changes

pub shows_set : (recordings : List (Option Recording)) (s : State) (lane : ℕ) (recording : Option Recording) (value : LaneState) → ShowsRecordings recordings s
    → recording ≡ kept_of s.shape.block lane value.taking → ShowsRecordings (set recordings lane recording) (with_lane s lane value)
shows_set recordings s lane recording value h is = record {
  many = length-set recordings lane recording ∙ h.many ∙ sym longer;
  each = λ l lt. each l (l == lane) refl (subst (λ n. l < n) longer lt);
}
  where
    longer : length (set s.lanes lane value) ≡ length s.lanes
    longer = length-set s.lanes lane value

    other : (l : ℕ) → (l == lane) ≡ false → l ≡ lane → ⊥
    other l e i = let t = eq-eqb l lane i in cc

    each : (l : ℕ) (t : Bool) → (l == lane) ≡ t → l < length s.lanes → recording_at (set recordings lane recording) l ≡ kept_of s.shape.block l (lane_at (with_lane s lane value) l).taking
    each l true e lt =
        let i : l ≡ lane = eqb-true l lane e in
        let many = h.many in
        let at : lane < length s.lanes = omega (arith, lt, i) in
        ap (λ k. recording_at (set recordings lane recording) k) i
        ∙ get_or-set_same recordings lane recording None (omega (arith, at, many))
        ∙ is
        ∙ ap (λ (v : LaneState). kept_of s.shape.block lane v.taking) (sym (get_or-set_same s.lanes lane value quiet_lane at))
        ∙ ap (λ k. kept_of s.shape.block k (lane_at (with_lane s lane value) k).taking) (sym i)
    each l false e lt =
        get_or-set_other recordings lane l recording None (other l e)
        ∙ h.each l lt
        ∙ ap (λ (v : LaneState). kept_of s.shape.block l v.taking) (sym (get_or-set_other s.lanes lane l value quiet_lane (other l e)))

-- a recording with more bytes is that of all the bytes
more_kept : (block lane : ℕ) (taking : Option (List ℕ)) (r : Recording) (bytes : List ℕ) → Some r ≡ more_of (kept_of block lane taking) bytes → Some r ≡ kept_of block lane (Some (unwrap_or taking [] ++ bytes))
more_kept block lane None r bytes e = cc
more_kept block lane (Some before) r bytes e = e ∙ ap₂ (λ n l. Some (seen lane block n l)) (sym (length-append before bytes)) (rest_of-append block before bytes)

pub added_shown : (recordings : List (Option Recording)) (s : State) (lane : ℕ) (r : Recording) (bytes : List ℕ) → ShowsRecordings recordings s → Some r ≡ more_of (recording_at recordings lane) bytes
    → ShowsRecordings (set recordings lane (Some r)) (with_lane s lane (record (lane_at s lane) { taking = Some (taking_of s lane ++ bytes) }))
added_shown recordings s lane r bytes h e =
    shows_set recordings s lane (Some r) (record (lane_at s lane) { taking = Some (taking_of s lane ++ bytes) }) h
    (more_kept s.shape.block lane (lane_at s lane).taking r bytes (e ∙ ap (λ o. more_of o bytes) (at_lane recordings s lane h)))

-- ---- the blocks of a recording

within : (block : ℕ) (bytes : List ℕ) → whole_length block (length bytes) ≤ length bytes
within block bytes = let less = mod-le (length bytes) block in omega (arith, less)

-- the whole blocks that are given out are those that were not complete before
given_between : (block : ℕ) (before bytes : List ℕ) → whole_blocks block (rest_of block before ++ bytes) ≡ between block (length before) (before ++ bytes)
given_between block before bytes =
    sym (drop-append_seam front given)
    ∙ ap₂ (λ n l. drop n l) front_length (whole_blocks-append block before bytes)
    ∙ ap (λ n. drop w (take n (before ++ bytes))) (let e : whole_length block (length (before ++ bytes)) ≡ w + (whole_length block (length (before ++ bytes)) - w) = omega (arith, more) in e)
    ∙ drop-take w (whole_length block (length (before ++ bytes)) - w) (before ++ bytes)
  where
    front : List ℕ
    front = whole_blocks block before

    given : List ℕ
    given = whole_blocks block (rest_of block before ++ bytes)

    w : ℕ
    w = whole_length block (length before)

    front_length : length front ≡ w
    front_length = length-take-le w before (within block before)

    more : w ≤ whole_length block (length (before ++ bytes))
    more =
        let all = ap length (whole_blocks-append block before bytes) in
        let parts = length-append front given in
        let whole = length-take-le (whole_length block (length (before ++ bytes))) (before ++ bytes) (within block (before ++ bytes)) in
        let own = front_length in
        omega (arith, all, parts, whole, own)

given_of : (block lane : ℕ) (taking : Option (List ℕ)) (r : Recording) (bytes blocks : List ℕ) → Some r ≡ kept_of block lane taking → blocks ≡ whole_blocks r.block (r.rest ++ bytes)
    → blocks ≡ between block (length (unwrap_or taking [])) (unwrap_or taking [] ++ bytes)
given_of block lane None r bytes blocks e is = cc
given_of block lane (Some before) r bytes blocks e is =
    let same : r ≡ seen lane block (length before) (rest_of block before) = cc in
    is ∙ ap (λ (q : Recording). whole_blocks q.block (q.rest ++ bytes)) same ∙ given_between block before bytes

pub given_shown : (recordings : List (Option Recording)) (s : State) (lane : ℕ) (r : Recording) (bytes blocks : List ℕ) → ShowsRecordings recordings s → Some r ≡ recording_at recordings lane
    → blocks ≡ whole_blocks r.block (r.rest ++ bytes) → blocks ≡ between s.shape.block (length (taking_of s lane)) (taking_of s lane ++ bytes)
given_shown recordings s lane r bytes blocks h e is = given_of s.shape.block lane (lane_at s lane).taking r bytes blocks (e ∙ at_lane recordings s lane h) is
