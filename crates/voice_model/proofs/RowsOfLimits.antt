-- Worked rows on the limits of numbers and lengths.
use Rattle.std.proofs.Common.{◌≡◌, ℕ, zero, suc, ◌*◌, ◌^◌, List, [], ◌∷◌, length, replicate, refl, arith, length-append, Some, None}
use Rattle.std.specs.Prelude.{option_map}
use Rattle.disk_areas.specs.Areas.{graces_in, shape_in, rest_is_zero, is_head, current_head, records_from, journal_in, superblock}
use Rattle.voice_model.proofs.Small.{small_old, replies_to, tapes}
use Rattle.voice_model.proofs.RowsOfImages.{put, damage}
use Rattle.voice_model.specs.State.{State, Live, joined, samples_of, first_unknown}
use Rattle.voice_model.specs.Samples.{Tagged}
use Rattle.voice_model.specs.Image.{reading, opened_from, blank, framed}
use Rattle.voice_model.specs.Step.{refusal}
use Rattle.voice_model.specs.declared.calls.Call.TheVariants.{Concat, Length, Sub}
use Rattle.voice_model.specs.declared.calls.Reply.TheVariants.{Number, No}
use Rattle.voice_model.specs.declared.calls.Why.TheVariants.{TooLong, IdsSpent}
use Rattle.voice_model.specs.declared.changes.Change.TheVariants.{Recorded}

-- an image of zero bytes has no magic
pub zero_image : damage (reading (replicate 4096 0)) ≡ Some 0
unfolding journal_in
zero_image = refl

-- behind the last number no rope comes
pub numbers_spent :
    option_map (λ (s : State). replies_to s (Length (2 ^ 48) ∷ Sub (2 ^ 48) 0 0 ∷ [])) (opened_from (put 80 (framed (Recorded (2 ^ 48) 0 [])) (blank small_old)))
    ≡ Some (Number 0 ∷ No IdsSpent ∷ [])
unfolding graces_in shape_in rest_is_zero is_head current_head records_from journal_in superblock
numbers_spent = refl

-- a rope many times over is that many times as long
pub length-joined : (ropes : List (Live Tagged)) (n id : ℕ) → length (joined ropes (replicate n id)) ≡ n * length (samples_of ropes id)
length-joined ropes zero id = omega arith
length-joined ropes (suc n) id = omega (arith, length-append (samples_of ropes id) (joined ropes (replicate n id)), length-joined ropes n id)

pub too_long : (s : State) (ids : List ℕ) (n : ℕ) → first_unknown s.ropes ids ≡ None → length (joined s.ropes ids) ≡ 1073745920 → refusal s tapes (Concat ids) ≡ Some (TooLong 1073745920)
too_long s ids n known long = rw (known, long) refl

-- 262,145 samples sixteen times over, three times: the third time is too long
pub third_time : 16 * (16 * (16 * 262145)) ≡ 1073745920
third_time = refl
