-- What is granted are the samples of a window.
use Rattle.std.proofs.Common.{◌≡◌, ℕ, ◌<◌, ◌≤◌, inl, List, length, refl, sym, ◌∙◌, ap, ap₂, subst, arith, Option}
use Rattle.voice_units.specs.declared.pieces.Piece.{Piece}
use Rattle.voice_units.specs.Spots.{samples_in}
use Rattle.frame_pool.specs.declared.views.Part.{Part}
use Rattle.frame_pool.specs.declared.views.Stage.{Stage}
use Rattle.frame_pool.specs.declared.views.Stage.TheVariants.{Handed}
use Rattle.frame_pool.specs.Pool.{LeaseState, AreParts, block_of, granted}
use Rattle.playing.specs.declared.blocks.Block.{Block}
use Rattle.playing.specs.Frames.{FramesState, IsFrames}
use Rattle.playing.specs.Windows.{AreStretches, ArePartsOf, IsLeaseOf, IsOut}
use Rattle.playing.proofs.Samples.{AreWhole, parts_lie, parts_total, window_samples}

pub can_grant : (s : FramesState) (inside : FramesState) (readers : List (List Part)) (room block : ℕ) (window : List Piece) (ps qs : List Part) → inside ≡ s → IsFrames inside.keeper inside.resident readers room → block ≡ block_of s.keeper → AreStretches block window → ArePartsOf block s.resident window ps → qs ≡ ps → AreParts inside.keeper.pool.sizes qs
can_grant s inside readers room block window ps qs is h same stretches parts these =
    let same_in : block ≡ block_of inside.keeper = same ∙ ap (λ (x : FramesState). block_of x.keeper) (sym is) in
    let there : ArePartsOf block inside.resident window ps = subst (λ (x : FramesState). ArePartsOf block x.resident window ps) (sym is) parts in
    subst (AreParts inside.keeper.pool.sizes) (sym these)
    (parts_lie inside.keeper.pool.sizes inside.resident window ps h.frames
    (subst (λ (b : ℕ). AreStretches b window) same_in stretches)
    (subst (λ (b : ℕ). ArePartsOf b inside.resident window ps) same_in there))

pub has_count : (block : ℕ) (resident : List (Option Block)) (window : List Piece) (ps qs : List Part) → ArePartsOf block resident window ps → qs ≡ ps → 1 ≤ length window → length window ≤ 4 → (1 ≤ length qs) × (length qs ≤ 4)
has_count block resident window ps qs parts these least few =
    let n = parts_total block resident window ps parts in
    let m = ap (λ l. length l) these in
    (omega (arith, n.0, m, least), omega (arith, n.0, m, few))

pub lease_of : (s inside : FramesState) (lane block : ℕ) (window : List Piece) (ps qs : List Part) (lease : LeaseState) → inside ≡ s → AreWhole inside → 0 < block → block ≡ block_of s.keeper → AreStretches block window → ArePartsOf block s.resident window ps → qs ≡ ps → lease ≡ granted inside.keeper lane qs → IsLeaseOf s lane window lease
lease_of s inside lane block window ps qs lease is whole some same stretches parts these lent =
    let here : lease ≡ granted s.keeper lane ps = lent ∙ ap₂ (λ (x : FramesState) (l : List Part). granted x.keeper lane l) is these in
    subst (IsLeaseOf s lane window) (sym here) (record {
      pool = refl;
      on = refl;
      len = (parts_total block s.resident window ps parts).1;
      live = refl;
      fresh = refl;
      unhinted = refl;
      samples = λ bytes holds. window_samples bytes s window ps (subst AreWhole is whole) holds (subst (λ (b : ℕ). 0 < b) same some) (subst (λ (b : ℕ). AreStretches b window) same stretches) (subst (λ (b : ℕ). ArePartsOf b s.resident window ps) same parts);
    })

pub is_out : (block : ℕ) (resident : List (Option Block)) (window : List Piece) (ps qs : List Part) (stage : Stage) → ArePartsOf block resident window ps → qs ≡ ps → stage ≡ Handed qs → IsOut (samples_in window) stage
is_out block resident window ps qs stage parts these is = inl (ps, is ∙ ap Handed these, (parts_total block resident window ps parts).1)
