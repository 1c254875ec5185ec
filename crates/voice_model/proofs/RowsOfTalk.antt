-- Worked rows on talk.
use Rattle.std.proofs.Common.{◌≡◌, [], ◌∷◌, ◌++◌, refl, replicate}
use Rattle.voice_model.specs.Talk.{talk, peaks, outside_silence, kinds, parts}

pub no_bytes : talk [] ≡ []
no_bytes = refl

-- windows of 4 samples, silences of 3 windows: 10 loud, 12 silent and 10 loud samples
pub short_talk : outside_silence 3 0 (kinds (parts 4 40 (replicate 12 128 ++ replicate 12 255 ++ replicate 12 128))) ≡ record { start = 0; len = 12 } ∷ record { start = 24; len = 12 } ∷ []
short_talk = refl

pub too_short_a_silence : outside_silence 4 0 (kinds (parts 4 40 (replicate 12 128 ++ replicate 12 255 ++ replicate 12 128))) ≡ record { start = 0; len = 36 } ∷ []
too_short_a_silence = refl

pub silence : talk (replicate 4001 249) ≡ []
silence = refl

pub last_byte : talk (replicate 4000 255 ++ 248 ∷ []) ≡ record { start = 4000; len = 1 } ∷ []
last_byte = refl

pub two_peaks : peaks (replicate 160 255 ++ 128 ∷ []) ≡ 0 ∷ 127 ∷ []
two_peaks = refl

pub one_peak : peaks (65 ∷ 66 ∷ 84 ∷ []) ≡ 62 ∷ []
one_peak = refl
