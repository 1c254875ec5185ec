-- What a disk in memory tells before and after a call.
use Rattle.std.proofs.Common.{◌≡◌, inl, inr, ℕ, ◌≤◌, List, [], ◌∷◌, length, true, false, refl, sym, ◌∙◌, subst, arith, ap}
use Rattle.voice_disk.specs.Over.{over_outside, length-over}
use Rattle.voice_disk.specs.Replay.{bytes_made, bytes_after, images_made, images_after, left_since, newest}
use Rattle.voice_disk.specs.declared.record.Made.{Made}
use Rattle.voice_disk.specs.declared.record.Made.TheVariants.{Read, Write, Sync}
use Rattle.voice_disk.specs.declared.record.Entry.{Entry}

-- what a crash may leave now it may have left since any moment
pub since_any : (first : List ℕ) (calls : List Entry) (t : ℕ) (image : List ℕ) → images_after first calls image → left_since first calls t image
since_any first [] t image now = now
since_any first (e ∷ calls) t image now = inl now

-- since the last call a crash leaves an image of this moment
pub since_last : (first : List ℕ) (calls : List Entry) (t : ℕ) (image : List ℕ) → newest calls ≤ t → left_since first calls t image → images_after first calls image
since_last first [] t image le left = left
since_last first (e ∷ calls) t image le (inl now) = now
since_last first (e ∷ calls) t image le (inr before) = absurd (omega (arith, before.0))

-- a crash since a later moment is one since an earlier
pub since_earlier : (first : List ℕ) (calls : List Entry) (t u : ℕ) (image : List ℕ) → t ≤ u → left_since first calls u image → left_since first calls t image
since_earlier first [] t u image le left = left
since_earlier first (e ∷ calls) t u image le (inl now) = inl now
since_earlier first (e ∷ calls) t u image le (inr before) = inr (omega (arith, before.0), since_earlier first calls t u image le before.1)

made_present : (bytes : List ℕ) (old : List ℕ → Type 0) (made : Made) → old bytes → images_made bytes old made (bytes_made bytes made)
made_present bytes old (Read done) here = here
made_present bytes old (Write at new true) here = (bytes, here, over_outside bytes at new.items)
made_present bytes old (Write at new false) here = (bytes, here, record { same_length = refl; before = λ i lt. refl; after = λ i le. refl })
made_present bytes old (Sync true) here = refl
made_present bytes old (Sync false) here = here

-- the bytes are an image of this moment
pub present_after : (first : List ℕ) (calls : List Entry) → images_after first calls (bytes_after first calls)
present_after first [] = refl
present_after first (e ∷ calls) = made_present (bytes_after first calls) (images_after first calls) e.made (present_after first calls)

length-bytes_made : (bytes : List ℕ) (made : Made) → length (bytes_made bytes made) ≡ length bytes
length-bytes_made bytes (Read done) = refl
length-bytes_made bytes (Write at new true) = length-over bytes at new.items
length-bytes_made bytes (Write at new false) = refl
length-bytes_made bytes (Sync done) = refl

pub length-bytes_after : (first : List ℕ) (calls : List Entry) → length (bytes_after first calls) ≡ length first
length-bytes_after first [] = refl
length-bytes_after first (e ∷ calls) = length-bytes_made (bytes_after first calls) e.made ∙ length-bytes_after first calls

made_sized : (n : ℕ) (bytes : List ℕ) (old : List ℕ → Type 0) (made : Made) (image : List ℕ) → length bytes ≡ n → ((c : List ℕ) → old c → length c ≡ n) → images_made bytes old made image → length image ≡ n
made_sized n bytes old (Read done) image is each left = each image left
made_sized n bytes old (Write at new done) image is each left = left.2.same_length ∙ each left.0 left.1
made_sized n bytes old (Sync true) image is each left = ap length left ∙ is
made_sized n bytes old (Sync false) image is each left = each image left

images_sized : (first : List ℕ) (calls : List Entry) (image : List ℕ) → images_after first calls image → length image ≡ length first
images_sized first [] image left = ap length left
images_sized first (e ∷ calls) image left = made_sized (length first) (bytes_after first calls) (images_after first calls) e.made image (length-bytes_after first calls) (images_sized first calls) left

-- each image has the disk's size
pub left_sized : (first : List ℕ) (calls : List Entry) (t : ℕ) (image : List ℕ) → left_since first calls t image → length image ≡ length first
left_sized first [] t image left = ap length left
left_sized first (e ∷ calls) t image (inl now) = images_sized first (e ∷ calls) image now
left_sized first (e ∷ calls) t image (inr before) = left_sized first calls t image before.1

pub since_bytes : (first bytes : List ℕ) (calls : List Entry) (t : ℕ) → bytes ≡ bytes_after first calls → left_since first calls t bytes
since_bytes first bytes calls t is = since_any first calls t bytes (subst (λ (b : List ℕ). images_after first calls b) (sym is) (present_after first calls))

pub sized_bytes : (first bytes : List ℕ) (calls : List Entry) (t : ℕ) (image : List ℕ) → bytes ≡ bytes_after first calls → left_since first calls t image → length image ≡ length bytes
sized_bytes first bytes calls t image is left = left_sized first calls t image left ∙ sym (ap length is ∙ length-bytes_after first calls)
