-- The reads of a Feed, and the bytes of its window.
use Rattle.std.proofs.Common.{◌≡◌, ℕ, zero, suc, ◌+◌, ◌*◌, ◌/◌, ◌%◌, ◌<◌, ◌≤◌, ◌==◌, Bool, true, false, cond, ◌||◌, List, [], ◌∷◌, map, length, take, drop, Option, Some, None, refl, sym, ◌∙◌, ap, arith}
use Rattle.std.specs.Prelude.{slice_index}
use Rattle.std.proofs.lemmas.Nat.{div-add-mod'}
use Rattle.std.proofs.lemmas.List.{take-map, drop-map}
use Rattle.voice_units.specs.declared.pieces.Piece.{Piece}
use Rattle.voice_units.specs.declared.shapes.Shape.{Shape}
use Rattle.std.specs.List.{list_any}
use Rattle.voice_units.specs.Spots.{Spot, spots_of, spots_from, stretches, slice, window}
use Rattle.voice_outside.specs.Disk.{Told, segment}
use Rattle.voice_blocks.specs.Place.{block_place}
use Rattle.voice_blocks.specs.Holders.{Holders}
use Rattle.voice_model.specs.Samples.{Tagged, spot_of, spots_in_rope}
use Rattle.voice_model.specs.State.{Job}
use Rattle.voice_model.specs.Step.{heard_more, played_on}
use Rattle.voice_model.specs.declared.calls.Reply.TheVariants as replies
use Rattle.play_queue.specs.declared.jobs.Job as queue
use Rattle.playing.specs.declared.blocks.Block.{Block}
use Rattle.playing.specs.Frames.{HasRead, AreOnDisk, missing, is_resident, is_in, block_at}
use Rattle.playing.specs.Lanes.{next_window}
use Rattle.playing.specs.Windows.{byte_in}
use Rattle.playing.proofs.Samples.{window_spots}
use Rattle.listening.specs.Looks.{Looked}
use Rattle.voice_store.specs.Filled.{IsFilled}
use Rattle.voice_store.specs.Playing.{bytes_by}

-- ---- reads

-- reads of a disk look at it
pub looked_by_reads : (most : ℕ) (old new : Told) → HasRead most old new → Looked most old new
looked_by_reads most old new h = record {
  size = h.size;
  honest = h.honest;
  later = h.later;
  calls = h.calls;
  faults = h.faults;
  looks = λ honest. let reads = h.reads honest in record { bytes = reads.bytes; now = reads.now; crash = reads.time.since };
}

missing_few : (block : ℕ) (resident : List (Option Block)) (window : List Piece) → missing block resident window ≤ length window
missing_few block resident [] = omega arith
missing_few block resident (s ∷ ss) = let rest = missing_few block resident ss in by (is_resident resident s.file (s.from / block) || list_any (is_in block (block_at block s)) ss) rest
  where
    by : (there : Bool) → missing block resident ss ≤ length ss → cond there 0 1 + missing block resident ss ≤ suc (length ss)
    by true rest = omega (arith, rest)
    by false rest = omega (arith, rest)

take_few : {A : Type 0} (n : ℕ) (xs : List A) → length (take n xs) ≤ n
take_few zero xs = omega arith
take_few (suc n) [] = omega arith
take_few (suc n) (x ∷ xs) = let rest = take_few n xs in omega (arith, rest)

-- a window has at most four blocks
window_few : (block more : ℕ) (resident : List (Option Block)) (jobs : List queue.Job) → missing block resident (next_window block more jobs) ≤ 4
window_few block more resident [] = omega arith
window_few block more resident (job ∷ jobs) =
    let all = missing_few block resident (next_window block more (job ∷ jobs)) in
    let few = take_few 4 (stretches block (drop (job.heard + more) (spots_of job.passage))) in
    omega (arith, all, few)

pub looked_four : (block more : ℕ) (resident : List (Option Block)) (jobs : List queue.Job) (old new : Told) → HasRead (missing block resident (next_window block more jobs)) old new → Looked 4 old new
looked_four block more resident jobs old new h =
    let few = window_few block more resident jobs in
    let calls = h.calls in
    let looked = looked_by_reads (missing block resident (next_window block more jobs)) old new h in
    record { size = looked.size; honest = looked.honest; later = looked.later; calls = omega (arith, few, calls); faults = looked.faults; looks = looked.looks }

-- ---- bytes

-- what the disk has from a place on is what is filled in
segment_is : (fill : Spot → Tagged) (image : List ℕ) (file p from n : ℕ) → ((k : ℕ) → k < n → slice_index image (p + k) ≡ (fill (record { file = file; place = from + k })).byte) → segment image p n ≡ map (λ x. (fill x).byte) (spots_from file from n)
unfolding segment
segment_is fill image file p from zero each = refl
segment_is fill image file p from (suc n) each =
    ap (λ v. v ∷ segment image (suc p) n) (ap (slice_index image) (omega arith) ∙ each 0 (omega arith) ∙ ap (λ m. (fill (record { file = file; place = m })).byte) (omega arith))
    ∙ ap (λ l. (fill (record { file = file; place = from })).byte ∷ l)
    (segment_is fill image file (suc p) (from + 1) n (λ k less. ap (slice_index image) (omega arith) ∙ each (suc k) (omega (arith, less)) ∙ ap (λ m. (fill (record { file = file; place = m })).byte) (omega arith)))

-- the blocks that have an address have these bytes there
pub on_disk : (fill : Spot → Tagged) (shape : Shape) (image : List ℕ) (holders : Holders) → IsFilled fill shape image holders → AreOnDisk (bytes_by fill shape.block) shape image holders
on_disk fill shape image holders filled a file index held = segment_is fill image file (block_place shape a) (index * shape.block) shape.block (λ k less. filled.each a file index k held less)

-- one byte of a block
byte_there : (fill : Spot → Tagged) (file from n k : ℕ) → k < n → slice_index (map (λ x. (fill x).byte) (spots_from file from n)) k ≡ (fill (record { file = file; place = from + k })).byte
byte_there fill file from zero k less = absurd (omega (arith, less))
byte_there fill file from (suc n) zero less = ap (λ m. (fill (record { file = file; place = m })).byte) (omega arith)
byte_there fill file from (suc n) (suc k) less = byte_there fill file (from + 1) n k (omega (arith, less)) ∙ ap (λ m. (fill (record { file = file; place = m })).byte) (omega arith)

byte_of : (fill : Spot → Tagged) (block : ℕ) → 0 < block → (x : Spot) → byte_in (bytes_by fill block) block x ≡ (fill x).byte
byte_of fill block some x =
    byte_there fill x.file (x.place / block * block) block (x.place % block) (omega (arith, some))
    ∙ ap (λ m. (fill (record { file = x.file; place = m })).byte) (div-add-mod' x.place block)

pub bytes_of_spots : (fill : Spot → Tagged) (block : ℕ) → 0 < block → (ss : List Spot) → map (byte_in (bytes_by fill block) block) ss ≡ map (λ (t : Tagged). t.byte) (map fill ss)
bytes_of_spots fill block some [] = refl
bytes_of_spots fill block some (x ∷ ss) = ap (λ v. v ∷ map (byte_in (bytes_by fill block) block) ss) (byte_of fill block some x) ∙ ap (λ l. (fill x).byte ∷ l) (bytes_of_spots fill block some ss)

pub slice_filled : (fill : Spot → Tagged) (ss : List Spot) (at n : ℕ) → map fill (slice ss at n) ≡ slice (map fill ss) at n
slice_filled fill ss at n = sym (take-map fill n (drop at ss)) ∙ ap (take n) (sym (drop-map fill at ss))

-- ---- the window of a reply

-- the jobs of which that much more was heard
abbrev pub heard_of : Option ℕ → List Job → List Job
heard_of None jobs = jobs
heard_of (Some m) jobs = heard_more m jobs

-- a job that is answered by a window goes on at what was heard of it, by as much as the definitions say
pub window_told : (job : Job) (block at n : ℕ) → played_on job block ≡ replies.Window at n → (at ≡ job.heard) × (n ≡ window block (spots_in_rope job.passage) job.heard)
window_told job block at n e = by job.stopped (job.heard == length job.passage) e
  where
    by : (stopped ended : Bool) → cond stopped (replies.Stopped job.number job.heard) (cond ended (replies.Ended job.number job.heard) (replies.Window job.heard (window block (spots_in_rope job.passage) job.heard))) ≡ replies.Window at n
        → (at ≡ job.heard) × (n ≡ window block (spots_in_rope job.passage) job.heard)
    by true ended e = let no : ⊥ = cc in absurd no
    by false true e = let no : ⊥ = cc in absurd no
    by false false e = (let same : at ≡ job.heard = cc in same, let same : n ≡ window block (spots_in_rope job.passage) job.heard = cc in same)

-- the places of a window, filled in, are those of the passage from where it begins
pub window_filled : (fill : Spot → Tagged) (block more : ℕ) (job : queue.Job) (jobs : List queue.Job) (at n : ℕ) → at ≡ job.heard + more → n ≡ window block (spots_of job.passage) (job.heard + more)
    → map fill (spots_of (next_window block more (job ∷ jobs))) ≡ slice (map fill (spots_of job.passage)) at n
window_filled fill block more job jobs at n start many =
    ap (map fill) (window_spots block (job.heard + more) (spots_of job.passage))
    ∙ ap (λ m. map fill (slice (spots_of job.passage) (job.heard + more) m)) (sym many)
    ∙ ap (λ m. map fill (slice (spots_of job.passage) m n)) (sym start)
    ∙ slice_filled fill (spots_of job.passage) at n
