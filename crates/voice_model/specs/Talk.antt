-- Where there is talk in a recording, and where silence.
--     loud b      the loudness of a mu-law byte
--     windows bytes      the bytes in windows of 160, the last one perhaps shorter
--     is_quiet w      the loudness of a window is at most 6 for each sample on average
--     talk bytes      the maximal non-empty intervals outside silences, which are maximal runs of at least 25 quiet windows
--     peaks bytes      the greatest loudness in each window
use Rattle.std.specs.Prelude.{ℕ, zero, suc, ◌+◌, ◌-◌, ◌*◌, ◌%◌, max, Bool, true, false, ◌&&◌, not, cond, ◌==◌, nat_le, List, [], ◌∷◌, length, take, drop, map, sum_by, fold}
use Rattle.voice_model.specs.declared.lists.Span.{Span}

-- 0 for the two zeros, 127 for the greatest magnitudes
abbrev pub loud : ℕ → ℕ
loud b = 127 - b % 128

-- a list in parts of `width`, the last one perhaps shorter; there are at most `most` parts
abbrev pub parts : {A : Type 0} → ℕ → ℕ → List A → List (List A)
parts width zero xs = []
parts width (suc most) [] = []
parts width (suc most) (x ∷ xs) = take width (x ∷ xs) ∷ parts width most (drop width (x ∷ xs))

abbrev pub windows : List ℕ → List (List ℕ)
windows bytes = parts 160 (length bytes) bytes

abbrev pub is_quiet : List ℕ → Bool
is_quiet w = nat_le (sum_by loud w) (6 * length w)

-- neighbouring windows that are all quiet, or all not: how many windows, and how many samples
pub record Stretch : Type 0 where
  pub quiet : Bool
  pub windows : ℕ
  pub samples : ℕ

abbrev pub same_kind : Bool → Bool → Bool
same_kind true b = b
same_kind false b = not b

-- a window in front of runs of windows of one kind
abbrev pub window_in_front : Bool → ℕ → List Stretch → List Stretch
window_in_front quiet n [] = record { quiet = quiet; windows = 1; samples = n } ∷ []
window_in_front quiet n (r ∷ rs) =
    cond (same_kind quiet r.quiet)
    (record { quiet = quiet; windows = r.windows + 1; samples = r.samples + n } ∷ rs)
    (record { quiet = quiet; windows = 1; samples = n } ∷ r ∷ rs)

-- the maximal runs of windows that are all quiet, or all not
abbrev pub kinds : List (List ℕ) → List Stretch
kinds [] = []
kinds (w ∷ ws) = window_in_front (is_quiet w) (length w) (kinds ws)

-- a silence is a maximal run of at least so many quiet windows
abbrev pub is_silence : ℕ → Stretch → Bool
is_silence least r = r.quiet && nat_le least r.windows

-- an interval in front of others, joined with the first where that one follows at once
abbrev pub span_in_front : ℕ → ℕ → List Span → List Span
span_in_front at n [] = record { start = at; len = n } ∷ []
span_in_front at n (s ∷ ss) =
    cond (at + n == s.start)
    (record { start = at; len = n + s.len } ∷ ss)
    (record { start = at; len = n } ∷ s ∷ ss)

-- what lies outside silences, as maximal intervals
abbrev pub outside_silence : ℕ → ℕ → List Stretch → List Span
outside_silence least at [] = []
outside_silence least at (r ∷ rs) =
    let rest = outside_silence least (at + r.samples) rs in
    cond (is_silence least r) rest (span_in_front at r.samples rest)

abbrev pub talk : List ℕ → List Span
talk bytes = outside_silence 25 0 (kinds (windows bytes))

abbrev pub peak : List ℕ → ℕ
peak w = fold (λ most b. max most (loud b)) 0 w

abbrev pub peaks : List ℕ → List ℕ
peaks bytes = map peak (windows bytes)
