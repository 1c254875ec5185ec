-- Worked rows on sweeps, a census, and moments that are not later.
use Rattle.std.proofs.Common.{◌≡◌, [], ◌∷◌, refl, Some, None}
use Rattle.voice_model.proofs.Small.{small, on_small, tapes, f20, z64}
use Rattle.voice_model.specs.State.{formatted}
use Rattle.voice_model.specs.Changes.{effect_of}
use Rattle.voice_model.specs.declared.calls.Class.TheVariants.{Listed}
use Rattle.voice_model.specs.declared.calls.Call.TheVariants.{Record, Retain, Lookup, Census, Advance, Sweep, Play, Feed}
use Rattle.voice_model.specs.declared.calls.Reply.TheVariants.{Rope, Number, Done, Found, Swept, No, Job, Window}
use Rattle.voice_model.specs.declared.calls.Why.TheVariants.{NoInterest}

-- a sweep takes the first ropes, up to its limit
pub swept_by_twos :
    on_small (Record f20 ∷ Record f20 ∷ Record f20 ∷ Advance 60 ∷ Sweep 2 ∷ Sweep 2 ∷ Sweep 2 ∷ [])
    ≡ Rope 1 20 ∷ Rope 2 20 ∷ Rope 3 20 ∷ Done ∷ Swept 0 (1 ∷ 2 ∷ []) ∷ Swept 0 (3 ∷ []) ∷ Swept 0 [] ∷ []
swept_by_twos = refl

-- a census drops the listed keys that it does not name
pub census_of_one :
    on_small (Record f20 ∷ Retain Listed (109 ∷ []) 1 [] ∷ Retain Listed (110 ∷ []) 1 [] ∷ Census ((110 ∷ []) ∷ []) ∷ Lookup Listed (109 ∷ []) ∷ Lookup Listed (110 ∷ []) ∷ [])
    ≡ Rope 1 20 ∷ Done ∷ Done ∷ Number 1 ∷ No NoInterest ∷ Found 1 [] ∷ []
census_of_one = refl

-- a moment that is not later is answered, and changes nothing
pub same_moment : on_small (Advance 5 ∷ Advance 5 ∷ Advance 4 ∷ []) ≡ Done ∷ Done ∷ Done ∷ []
same_moment = refl

pub same_moment_no_change : effect_of (formatted small) tapes (Advance 0) ≡ None
same_moment_no_change = refl

-- of a window that was heard in part the rest comes again
pub heard_in_part : on_small (Record z64 ∷ Play 0 1 0 64 ∷ Feed 0 None ∷ Feed 0 (Some 10) ∷ []) ≡ Rope 1 64 ∷ Job 1 ∷ Window 0 32 ∷ Window 10 30 ∷ []
heard_in_part = refl
