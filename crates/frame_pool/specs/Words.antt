-- Where the words of a pool's table lie: word 0 is unused, then come a word for each lane and a hint word for each lane.
use Rattle.std.specs.Prelude.{ℕ, ◌+◌, List, sum_by}
use Rattle.frame_pool.specs.declared.views.Part.{Part}

-- the word of a lane
abbrev pub lane_word : ℕ → ℕ
lane_word l = l + 1

-- the hint word of a lane
abbrev pub hint_word : ℕ → ℕ → ℕ
hint_word lanes l = l + (lanes + 1)

-- how many words the table of so many lanes has
abbrev pub word_count : ℕ → ℕ
word_count lanes = lanes + (lanes + 1)

-- the sum of the parts' lengths
abbrev pub total : List Part → ℕ
total ps = sum_by (λ (p : Part). p.len) ps
