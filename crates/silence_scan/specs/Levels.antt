-- What a leveller keeps of the bytes fed so far.
--     HasHeard all l      `l` keeps what matters of the bytes `all`
use Rattle.std.specs.Prelude.{◌≡◌, ℕ, ◌*◌, ◌<◌, Bool, List, ◌++◌, length}
use Rattle.voice_model.specs.Talk.{peak, peaks}

-- the peaks of the whole windows; of the window that is not yet whole how many bytes and their greatest loudness; whether memory was wanting
pub record Levels : Type 0 where
  pub peaks : List ℕ
  pub count : ℕ
  pub most : ℕ
  pub spent : Bool

abbrev pub levels_of : List ℕ → ℕ → ℕ → Bool → Levels
levels_of peaks count most spent = record { peaks = peaks; count = count; most = most; spent = spent }

-- `whole` are the bytes in whole windows, `part` those after them
pub record HasHeard (all : List ℕ) (l : Levels) : Type 0 where
  pub whole : List ℕ
  pub part : List ℕ
  pub cut : all ≡ whole ++ part
  pub even : length whole ≡ 160 * length l.peaks
  pub by_window : l.peaks ≡ peaks whole
  pub counted : l.count ≡ length part
  pub short : length part < 160
  pub greatest : l.most ≡ peak part
