-- The images that a choice picks.
use Rattle.std.proofs.Common.{◌≡◌, inl, inr, ℕ, zero, suc, ◌+◌, ◌%◌, ◌<◌, ◌≤◌, List, [], ◌∷◌, length, get_or, take, reverse, Bool, true, false, ◌&&◌, ◌||◌, ◌==◌, ◌-◌, cond, refl, sym, ◌∙◌, subst, ap, nat_le, le-leb, true≢false, add-one, replicate}
use Rattle.std.proofs.lemmas.List.{reverse-append, length-replicate}
use Rattle.std.proofs.Math.Seq.{take-suc}
use Rattle.std.proofs.lemmas.Bool.{leb-false}
use Rattle.std.specs.Prelude.{Vec}
use Rattle.std.specs.declared.alloc.Global.{Global}
use Rattle.voice_outside.specs.Disk.{AgreesOutside}
use Rattle.voice_disk.specs.Bytes.{over}
use Rattle.voice_disk.specs.Over.{over_outside}
use Rattle.voice_disk.specs.Replay.{bytes_made, bytes_after, images_made, images_after, left_since, newest}
use Rattle.voice_disk.specs.Image.{is_begun, is_write, begun_by, write_chosen, image_made, image_after}
use Rattle.voice_disk.specs.declared.record.Made.{Made}
use Rattle.voice_disk.specs.declared.record.Made.TheVariants.{Read, Write, Sync}
use Rattle.voice_disk.specs.declared.record.Entry.{Entry}

-- one call more
pub reversed_step : (log : List Entry) (i : ℕ) (e : Entry) → i < length log → e ≡ get_or log i e → reverse (take (i + 1) log) ≡ e ∷ reverse (take i log)
reversed_step log i e within is =
    ap (λ n. reverse (take n log)) (add-one i)
    ∙ ap reverse (take-suc log i e within)
    ∙ reverse-append (take i log) (get_or log i e ∷ [])
    ∙ ap (λ (x : Entry). x ∷ reverse (take i log)) (sym is)

-- a call that was made by the moment was begun by then
made_begun : (moment : ℕ) (e : Entry) → e.number ≤ moment → is_begun moment e ≡ true
made_begun moment e by = ap (λ made. made || ((e.number - moment == 1) && is_write e.made)) (le-leb e.number moment by)

all_begun : (moment : ℕ) (e : Entry) (calls : List Entry) → e.number ≤ moment → begun_by moment (e ∷ calls) ≡ e ∷ calls
all_begun moment e calls by = ap (λ begun. cond begun (e ∷ calls) (begun_by moment calls)) (made_begun moment e by)

-- where the newest call was made by the moment, all were
pub all_begun_by : (moment : ℕ) (calls : List Entry) → newest calls ≤ moment → begun_by moment calls ≡ calls
all_begun_by moment [] by = refl
all_begun_by moment (e ∷ calls) by = all_begun moment e calls by

-- a call that was not begun by the moment is later
not_begun : (moment : ℕ) (e : Entry) (made : Bool) → nat_le e.number moment ≡ made → (made || ((e.number - moment == 1) && is_write e.made)) ≡ false → moment < e.number
not_begun moment e true is later = absurd (true≢false later)
not_begun moment e false is later = leb-false e.number moment is

same : (at n : ℕ) (image : List ℕ) → AgreesOutside at n image image
same at n image = record { same_length = refl; before = λ i lt. refl; after = λ i le. refl }

chosen_outside : (choice at : ℕ) (old : List ℕ) (new : Vec ℕ Global) (done : Bool) → AgreesOutside at (length new.items) old (write_chosen choice old (Write at new done))
chosen_outside zero at old new done = same at (length new.items) old
chosen_outside (suc zero) at old new true = over_outside old at new.items
chosen_outside (suc zero) at old new false = same at (length new.items) old
chosen_outside (suc (suc c)) at old new done =
    let byte : ℕ = (2 + c) % 256 in
    subst (λ (n : ℕ). AgreesOutside at n old (over old at (replicate (length new.items) byte))) (length-replicate (length new.items) byte) (over_outside old at (replicate (length new.items) byte))

made_left : (choice : ℕ) (bytes old : List ℕ) (left : List ℕ → Type 0) (made : Made) → left old → images_made bytes left made (image_made choice bytes old made)
made_left choice bytes old left (Read done) was = was
made_left choice bytes old left (Write at new done) was = (old, was, chosen_outside choice at old new done)
made_left choice bytes old left (Sync true) was = refl
made_left choice bytes old left (Sync false) was = was

-- the choice's image is one that a crash may leave
pub image_left : (choice : ℕ) (first : List ℕ) (calls : List Entry) → images_after first calls (image_after choice first calls)
image_left choice first [] = refl
image_left choice first (e ∷ calls) = made_left choice (bytes_after first calls) (image_after choice first calls) (images_after first calls) e.made (image_left choice first calls)

left_by_step : (moment : ℕ) (first : List ℕ) (e : Entry) (calls : List Entry) (image : List ℕ) (begun : Bool) → is_begun moment e ≡ begun → (images_after first (begun_by moment calls) image → left_since first calls moment image)
    → images_after first (cond begun (e ∷ calls) (begun_by moment calls)) image → left_since first (e ∷ calls) moment image
left_by_step moment first e calls image true is rest left = inl left
left_by_step moment first e calls image false is rest left = inr (not_begun moment e (nat_le e.number moment) refl is, rest left)

-- an image of the calls begun by a moment is one that a crash since then may leave
pub left_by : (moment : ℕ) (first : List ℕ) (calls : List Entry) (image : List ℕ) → images_after first (begun_by moment calls) image → left_since first calls moment image
left_by moment first [] image left = left
left_by moment first (e ∷ calls) image left = left_by_step moment first e calls image (is_begun moment e) refl (left_by moment first calls image) left

made_written : (bytes : List ℕ) (made : Made) → image_made 1 bytes bytes made ≡ bytes_made bytes made
made_written bytes (Read done) = refl
made_written bytes (Write at new true) = refl
made_written bytes (Write at new false) = refl
made_written bytes (Sync true) = refl
made_written bytes (Sync false) = refl

-- choice 1 is what a read gives
pub image_written : (first : List ℕ) (calls : List Entry) → image_after 1 first calls ≡ bytes_after first calls
image_written first [] = refl
image_written first (e ∷ calls) = ap (λ (l : List ℕ). image_made 1 (bytes_after first calls) l e.made) (image_written first calls) ∙ made_written (bytes_after first calls) e.made
