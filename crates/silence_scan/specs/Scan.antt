-- What a scanner keeps of the bytes fed so far.
--     talk_after ..      the spans that are still to come where these windows follow
--     HasScanned all s      `s` keeps what matters of the bytes `all`
use Rattle.std.specs.Prelude.{◌≡◌, ℕ, ◌+◌, ◌*◌, ◌<◌, ◌==◌, nat_le, Bool, cond, List, [], ◌∷◌, ◌++◌, length, sum_by}
use Rattle.voice_model.specs.declared.lists.Span.{Span}
use Rattle.voice_model.specs.Talk.{loud, is_quiet, windows}

abbrev pub span : ℕ → ℕ → Span
span at n = record { start = at; len = n }

-- an interval, where it is not empty
abbrev pub interval : ℕ → ℕ → List Span
interval at n = cond (n == 0) [] (span at n ∷ [])

-- Talk of `talk` samples from `start` on, and behind it `quiet` quiet windows of `calm` samples. The talk before 25 quiet windows has been told.
abbrev pub talk_after : ℕ → ℕ → ℕ → ℕ → List (List ℕ) → List Span
talk_after start talk quiet calm [] = cond (nat_le 25 quiet) [] (interval start (talk + calm))
talk_after start talk quiet calm (w ∷ ws) =
    cond (is_quiet w)
    (cond (quiet == 24)
    (interval start talk ++ talk_after start talk 25 (calm + length w) ws)
    (talk_after start talk (quiet + 1) (calm + length w) ws))
    (cond (nat_le 25 quiet)
    (talk_after (start + talk + calm) (length w) 0 0 ws)
    (talk_after start (talk + calm + length w) 0 0 ws))

-- the spans that are settled, and the talk and the quiet windows behind them
pub record TalkSoFar : Type 0 where
  pub spans : List Span
  pub start : ℕ
  pub talk : ℕ
  pub quiet : ℕ
  pub calm : ℕ

abbrev pub runs_of : List Span → ℕ → ℕ → ℕ → ℕ → TalkSoFar
runs_of spans start talk quiet calm = record { spans = spans; start = start; talk = talk; quiet = quiet; calm = calm }

-- all spans, where these windows follow
abbrev pub talk_of : TalkSoFar → List (List ℕ) → List Span
talk_of r ws = r.spans ++ talk_after r.start r.talk r.quiet r.calm ws

-- how many bytes there were in the windows so far
abbrev pub reach : TalkSoFar → ℕ
reach r = r.start + r.talk + r.calm

-- the whole windows; of the window that is not yet whole how many bytes and their loudness; whether memory was wanting
pub record Scan : Type 0 where
  pub runs : TalkSoFar
  pub count : ℕ
  pub loudness : ℕ
  pub spent : Bool

abbrev pub scan_of : TalkSoFar → ℕ → ℕ → Bool → Scan
scan_of runs count loudness spent = record { runs = runs; count = count; loudness = loudness; spent = spent }

-- how many bytes were fed
abbrev pub fed_to : Scan → ℕ
fed_to s = reach s.runs + s.count

-- `whole` are the bytes in whole windows, `part` those after them
pub record HasScanned (all : List ℕ) (s : Scan) : Type 0 where
  pub whole : List ℕ
  pub part : List ℕ
  pub windows_so_far : ℕ
  pub cut : all ≡ whole ++ part
  pub even : length whole ≡ 160 * windows_so_far
  pub by_window : (rest : List (List ℕ)) → talk_of s.runs rest ≡ talk_after 0 0 0 0 (windows whole ++ rest)
  pub counted : s.count ≡ length part
  pub short : length part < 160
  pub heard : s.loudness ≡ sum_by loud part
