-- What is taken in of windows, and where a window lies.
use Rattle.std.proofs.Common.{◌≡◌, ℕ, ◌+◌, ◌≤◌, List, ◌++◌, map, length, take, drop, sym, ◌∙◌, ap, subst}
use Rattle.std.proofs.lemmas.List.{take-map, drop-map, take-take}
use Rattle.std.proofs.Math.Seq.{take-add}
use Rattle.voice_units.specs.Spots.{slice}
use Rattle.voice_model.specs.Samples.{Tagged, bytes_of}
use Rattle.voice_model.specs.State.{State, lane_at, quiet_lane}
use Rattle.voice_model.specs.Valid.{IsLane, HasBegun, IsState}
use Rattle.voice_model.proofs.FitsOfCalls.{every_at, quiet}
use Rattle.serving_laws.specs.Lanes.{Hears, a_job}
use Rattle.serving_laws.proofs.Others.{jobs_behind}

-- the bytes of a slice, and of what is taken in of it
slice_bytes : (passage : List Tagged) (at n : ℕ) → bytes_of (slice passage at n) ≡ take n (drop at (bytes_of passage))
slice_bytes passage at n = sym (take-map (λ (t : Tagged). t.byte) n (drop at passage)) ∙ ap (take n) (sym (drop-map (λ (t : Tagged). t.byte) at passage))

pub taken_in :
    (passage : List Tagged) (bytes more : List ℕ) (at n m : ℕ) → bytes ≡ take at (bytes_of passage)
    → more ≡ take m (map (λ t. t.byte) (slice passage at n)) → m ≤ n → bytes ++ more ≡ take (at + m) (bytes_of passage)
taken_in passage bytes more at n m e f within =
    ap (λ l. l ++ more) e ∙ ap (λ l. take at (bytes_of passage) ++ l) (f ∙ ap (take m) (slice_bytes passage at n) ∙ take-take m n (drop at (bytes_of passage)) within)
    ∙ sym (take-add at m (bytes_of passage))

lane_begun : (s : State) (lane : ℕ) → IsState s → HasBegun (lane_at s lane).jobs
lane_begun s lane h = (every_at IsLane s.lanes lane quiet_lane quiet h.lanes).begun

-- a window that is out lies in its job's passage
pub window_lies : (s : State) (lane number : ℕ) (passage : List Tagged) (heard window : ℕ) → IsState s → Hears s lane number passage heard window → heard + window ≤ length passage
window_lies s lane number passage heard window h k =
    let behind = jobs_behind (lane_at s lane).jobs (a_job number passage heard window k.stopped) k.first in
    (subst HasBegun behind.1 (lane_begun s lane h)).0
