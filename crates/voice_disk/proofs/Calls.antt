-- What a disk in memory tells before and after a call.
use Rattle.std.proofs.Common.{◌≡◌, ◌⊎◌, inl, inr, ⊎_elim, ℕ, ◌+◌, ◌≤◌, List, [], ◌∷◌, ◌++◌, length, true, false, refl, sym, ◌∙◌, subst, arith, ap, reverse}
use Rattle.std.proofs.lemmas.List.{reverse-append}
use Rattle.std.specs.Prelude.{Result, Ok, Err, OnOk, Bool, Vec}
use Rattle.std.specs.Result.{is_err}
use Rattle.std.specs.declared.alloc.Global.{Global}
use Rattle.voice_outside.specs.Disk.{AgreesOutside, Elapses, ReadsAt, WritesAt, Syncs, IsTorn, segment}
use Rattle.voice_disk.specs.Bytes.{over}
use Rattle.voice_disk.specs.Over.{over_outside, segment-over}
use Rattle.voice_disk.specs.Replay.{bytes_after, images_made, images_after, left_since, newest}
use Rattle.voice_disk.specs.Laws.{since_any, since_last, since_earlier, present_after}
use Rattle.voice_disk.specs.Memory.{tells}
use Rattle.voice_disk.specs.declared.record.Made.{Made}
use Rattle.voice_disk.specs.declared.record.Made.TheVariants.{Read, Write, Sync}
use Rattle.voice_disk.specs.declared.record.Entry.{Entry}

pub pushed : (log : List Entry) (items : List Entry) (e : Entry) → items ≡ log ++ e ∷ [] → reverse items ≡ e ∷ reverse log
pushed log items e is = ap reverse is ∙ reverse-append log (e ∷ [])

module _ (first : List ℕ) (log : List Entry) (calls faults faults' : ℕ) (bytes : List ℕ) (le : newest log ≤ calls) where
  module _ (made : Made) where
    abbrev pub entry : Entry
    entry = record { number = calls + 1; made = made }

    gains : List ℕ → Type 0
    gains image = images_made (bytes_after first log) (images_after first log) made image

    now : (image : List ℕ) → left_since first (entry ∷ log) (calls + 1) image → gains image
    unfolding gains
    now image left = since_last first (entry ∷ log) (calls + 1) image (omega arith) left

    since : (t : ℕ) (image : List ℕ) → t ≤ calls → left_since first (entry ∷ log) t image → left_since first log t image ⊎ gains image
    unfolding gains
    since t image at_most (inl made_now) = inr made_now
    since t image at_most (inr before) = inl before.1

    keeps : (t : ℕ) (image : List ℕ) → t ≤ calls → left_since first log t image → left_since first (entry ∷ log) t image
    keeps t image at_most left = inr (omega arith, left)

  module _ (new : List ℕ) (at : ℕ) (v : Vec ℕ Global) (done : Bool) (is : v.items ≡ new) where
    torn : (faults_now : ℕ) (image : List ℕ) → gains (Write at v done) image → IsTorn at (length new) (tells calls faults_now bytes first log) image
    unfolding gains
    torn faults_now image left = (left.0, since_any first log calls left.0 left.1, subst (λ (l : List ℕ). AgreesOutside at (length l) left.0 image) is left.2)

    time : (faults_new : ℕ) (bytes_new : List ℕ) → Elapses (tells calls faults bytes first log) (tells (calls + 1) faults_new bytes_new first (entry (Write at v done) ∷ log)) (IsTorn at (length new) (tells calls faults bytes first log))
    time faults_new bytes_new = record {
      since = λ t image at_most left. ⊎_elim (λ before. inl before) (λ made_now. inr (torn faults image made_now)) (since (Write at v done) t image at_most left);
      keeps = keeps (Write at v done);
    }

    -- a write that is kept, in what it leaves for a crash
    pub write_now : (faults_new : ℕ) (bytes_new : List ℕ) (image : List ℕ) → left_since first (entry (Write at v done) ∷ log) (calls + 1) image → IsTorn at (length new) (tells calls faults bytes first log) image
    write_now faults_new bytes_new image left = torn faults image (now (Write at v done) image left)

  -- a write that was done
  pub write_done : {T E : Type 0} (x : T) (bytes' : List ℕ) (new : List ℕ) (at : ℕ) (v : Vec ℕ Global) (done : Bool) (log' : List Entry) → v.items ≡ new → at + length new ≤ length bytes → bytes' ≡ over bytes at new
      → log' ≡ record { number = calls + 1; made = Write at v done } ∷ log → WritesAt {T = T} {E = E} at new (tells calls faults bytes first log) (tells (calls + 1) faults' bytes' first log') (Ok x)
  write_done {T} {E} x bytes' new at v done log' is fits bytes_is log_is =
      subst (λ (l : List Entry). WritesAt {T = T} {E = E} at new (tells calls faults bytes first log) (tells (calls + 1) faults' bytes' first l) (Ok x)) (sym log_is) (record {
        outside = subst (λ (b : List ℕ). AgreesOutside at (length new) bytes b) (sym bytes_is) (over_outside bytes at new);
        written = ap (λ (b : List ℕ). segment b at (length new)) bytes_is ∙ segment-over bytes at new fits;
        now = write_now new at v done is faults' bytes';
        time = time new at v done is faults' bytes';
      })

  -- a write that was kept and not done
  pub write_failed : {T E : Type 0} (e : E) (new : List ℕ) (at : ℕ) (v : Vec ℕ Global) (done : Bool) (log' : List Entry) → v.items ≡ new
      → log' ≡ record { number = calls + 1; made = Write at v done } ∷ log → WritesAt {T = T} {E = E} at new (tells calls faults bytes first log) (tells (calls + 1) faults' bytes first log') (Err e)
  write_failed {T} {E} e new at v done log' is log_is =
      subst (λ (l : List Entry). WritesAt {T = T} {E = E} at new (tells calls faults bytes first log) (tells (calls + 1) faults' bytes first l) (Err e)) (sym log_is) (record {
        outside = record { same_length = refl; before = λ i lt. refl; after = λ i le. refl };
        written = tt;
        now = write_now new at v done is faults' bytes;
        time = time new at v done is faults' bytes;
      })

  -- a write that found no memory
  pub write_starved : {T E : Type 0} (e : E) (new : List ℕ) (at : ℕ) (log' : List Entry) → log' ≡ log → WritesAt {T = T} {E = E} at new (tells calls faults bytes first log) (tells (calls + 1) faults' bytes first log') (Err e)
  write_starved {T} {E} e new at log' log_is =
      subst (λ (l : List Entry). WritesAt {T = T} {E = E} at new (tells calls faults bytes first log) (tells (calls + 1) faults' bytes first l) (Err e)) (sym log_is) (record {
        outside = record { same_length = refl; before = λ i lt. refl; after = λ i le. refl };
        written = tt;
        now = λ image left. (image, since_earlier first log calls (calls + 1) image (omega arith) left, record { same_length = refl; before = λ i lt. refl; after = λ i le. refl });
        time = record { since = λ t image at_most left. inl left; keeps = λ t image at_most left. left };
      })

  pub sync_done : {T E : Type 0} (x : T) (done : Bool) (log' : List Entry) → done ≡ true → bytes ≡ bytes_after first log → log' ≡ record { number = calls + 1; made = Sync done } ∷ log
      → Syncs {T = T} {E = E} (tells calls faults bytes first log) (tells (calls + 1) faults' bytes first log') (Ok x)
  unfolding gains
  sync_done {T} {E} x done log' is_done bytes_is log_is =
      subst (λ (l : List Entry). Syncs {T = T} {E = E} (tells calls faults bytes first log) (tells (calls + 1) faults' bytes first l) (Ok x)) (sym (log_is ∙ ap (λ (d : Bool). record { number = calls + 1; made = Sync d } ∷ log) is_done)) (record {
        bytes = refl;
        settled = λ image left. now (Sync true) image left ∙ sym bytes_is;
        now = λ image left. still calls image (now (Sync true) image left);
        time = record {
          since = λ t image at_most left. ⊎_elim (λ before. inl before) (λ made_now. inl (still t image made_now)) (since (Sync true) t image at_most left);
          keeps = keeps (Sync true);
        };
      })
    where
      still : (t : ℕ) (image : List ℕ) → image ≡ bytes_after first log → left_since first log t image
      still t image is = since_any first log t image (subst (λ (b : List ℕ). images_after first log b) (sym is) (present_after first log))

  pub read_done : {T E : Type 0} (x : T) (at n : ℕ) (into : List ℕ) (done : Bool) (log' : List Entry) → into ≡ segment bytes at n → log' ≡ record { number = calls + 1; made = Read done } ∷ log
      → ReadsAt {T = T} {E = E} at n (tells calls faults bytes first log) (tells (calls + 1) faults' bytes first log') into (Ok x)
  unfolding gains
  read_done {T} {E} x at n into done log' filled log_is =
      subst (λ (l : List Entry). ReadsAt {T = T} {E = E} at n (tells calls faults bytes first log) (tells (calls + 1) faults' bytes first l) into (Ok x)) (sym log_is) (record {
        filled = filled;
        bytes = refl;
        now = λ image left. since_any first log calls image (now (Read done) image left);
        time = record {
          since = λ t image at_most left. ⊎_elim (λ before. inl before) (λ made_now. inl (since_any first log t image made_now)) (since (Read done) t image at_most left);
          keeps = keeps (Read done);
        };
      })

pub on_ok : {T E : Type 0} (r : Result T E) (P : Type 0) → is_err r ≡ false → OnOk r P → P
on_ok (Ok x) P is p = p
on_ok (Err e) P is p = cc
