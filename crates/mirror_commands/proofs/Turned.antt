-- A mirror that was opened and promoted: what the disk's bytes decide, and what becomes of the disk.
use Rattle.std.proofs.Common.{◌≡◌, ◌∙◌, ◌⊎◌, ℕ, zero, suc, ◌+◌, ◌^◌, ◌<◌, ◌≤◌, ◌==◌, Bool, true, false, cond, List, [], Option, Some, None, Result, Ok, Err, IsTrue, inl, inr, refl, sym, ap, subst, arith}
use Rattle.std.specs.Prelude.{nat_lt, IfErr, IsSome}
use Rattle.std.proofs.lemmas.Bool.{eqb-true, eqb-false, ltb-true, ltb-false}
use Rattle.disk_areas.specs.Areas.{Journal, JournalReading, journal_in}
use Rattle.voice_outside.specs.Counters.{HasRisen}
use Rattle.voice_outside.specs.Disk.{Told}
use Rattle.voice_journal.specs.Looks.{Looks}
use Rattle.voice_journal.specs.Readings.{Reads}
use Rattle.voice_journal.specs.declared.errors.OpenError.{OpenError}
use Rattle.voice_journal.specs.declared.errors.OpenError.TheVariants as opening
use Rattle.voice_journal.proofs.Moves.{counts}
use Rattle.voice_journal.proofs.Relations.{reads_as}
use Rattle.crash_laws.specs.Standing.{IsHonest}
use Rattle.voice_model.specs.Replay.{Rebuilt}
use Rattle.mirror_replay.specs.Numbered.{Numbered}
use Rattle.mirror_readings.specs.Readings.{MirrorReading, mirror_reading, Mirrored, mirrored_by, mirrored_from, by_numbers, by_journal, unless_first, is_first_version}
use Rattle.mirror_laws.specs.Standing.{Took, mirrored_after, with_doubt}
use Rattle.mirror_laws.specs.Promotion.{IsMirror, IsPlain, IsEither}
use Rattle.mirror_tables.specs.Numbered.{plain_size}
use Rattle.voice_mirror.specs.declared.promoting.PromoteError.{PromoteError}
use Rattle.voice_mirror.specs.declared.promoting.PromoteError.TheVariants as mirrors
use Rattle.voice_model.specs.Samples.{Tagged}
use Rattle.voice_model.specs.State.{Durable, Effect}
use Rattle.recovery.specs.Shown.{Rebuilds}
use Rattle.voice_mirror.specs.declared.inside.Pending.{Pending}
use Rattle.voice_mirror.specs.Shown.{MirrorState, Keeps, IsOpened, IsRead}
use Rattle.voice_mirror.specs.Taking.{settled, settled_by}
use Rattle.voice_mirror.specs.Promoting as promoting
use Rattle.voice_mirror.specs.Promoting.{room, Refuses, JudgesPromotion, has_all, MayBeMirror, WasMirror, PromotesAs}
use Rattle.mirror_commands.specs.declared.promoting.Refusal.{Refusal}
use Rattle.mirror_commands.specs.declared.promoting.Refusal.TheVariants.{BadDisk, EpochSpent, JournalFull, DiskFault, NoMemory}
use Rattle.mirror_commands.specs.Feeding.{IsNoMirrorAt}
use Rattle.mirror_commands.specs.Promoting.{base_size, verdict_of, IsOfDevice, IsDecided, HasTurned, Turns, Promotes, unopened_of, refused_of}

-- ---- what bytes read as

epoch_low : (image : List ℕ) (r : Journal) → Reads image r → r.epoch ≤ 2 ^ 48
epoch_low image r e =
    let current = (reads_as image r e).stem.current in
    let limit = (counts image r.start current.head).limit in
    let same = current.epoch_is in
    omega (arith, limit, same)

of_numbers : (k j : Journal) (x : Numbered) (b : Rebuilt) (n : ℕ) → by_numbers k x ≡ MirrorReading.Reads j b n → k ≡ j
of_numbers k j (Numbered.All c m) b n h = cc
of_numbers k j (Numbered.Refused at) b n h = cc

of_journal : (o : JournalReading) (j : Journal) (b : Rebuilt) (n : ℕ) → by_journal o ≡ MirrorReading.Reads j b n → o ≡ JournalReading.Stands j
of_journal (JournalReading.Damaged place) j b n h = cc
of_journal (JournalReading.Stands k) j b n h = ap (λ (r : Journal). JournalReading.Stands r) (of_numbers k j _ b n h)

journal_read : (image : List ℕ) (j : Journal) (b : Rebuilt) (n : ℕ) → mirror_reading image ≡ MirrorReading.Reads j b n → Reads image j
journal_read image j b n e = by (is_first_version image) e
  where
    by : (first : Bool) → unless_first first (by_journal (journal_in image)) ≡ MirrorReading.Reads j b n → Reads image j
    by true h = cc
    by false h = of_journal (journal_in image) j b n h

no_mirror : (bytes : List ℕ) (place : ℕ) (had : Mirrored) → mirror_reading bytes ≡ MirrorReading.Bad place → mirrored_from bytes ≡ Some had → ⊥
no_mirror bytes place had bad is = let e : Some had ≡ None = sym is ∙ ap (mirrored_by bytes) bad in cc

-- ---- answers

abbrev pub mapped : {T : Type 0} → Result T PromoteError → Result T Refusal
mapped (Ok x) = Ok x
mapped (Err e) = Err (refused_of e)

module _ {T : Type 0} (j : Journal) (b : Rebuilt) (n : ℕ) (s : MirrorState) (shape : s.journal.shape ≡ j.shape) (epoch : s.journal.seat.epoch ≡ j.epoch) (low : j.epoch ≤ 2 ^ 48) (need : plain_size s.parts ≡ base_size b) (r : Result T PromoteError) (refuses : Refuses s r) where
  room_is : room s.journal.shape ≡ room j.shape
  room_is = ap room shape

  undecided : (r : Result T PromoteError) → Refuses s r → ¬ (j.epoch ≡ 2 ^ 48) → base_size b ≤ room j.shape → IsDecided None (mapped r)
  undecided (Ok x) refuses unspent fits = inl refl
  undecided (Err mirrors.EpochSpent) refuses unspent fits = absurd (unspent (sym epoch ∙ refuses.spent.0 refl))
  undecided (Err (mirrors.JournalFull more left)) refuses unspent fits =
      let full = (refuses.full more left).0 refl in
      let long = full.long in
      let need_is = full.need_is in
      let left_is = full.left_is in
      let same = room_is in
      absurd (omega (arith, long, need_is, left_is, same, need, fits))
  undecided (Err mirrors.DiskFault) refuses unspent fits = inr (inl refl)
  undecided (Err mirrors.InDoubt) refuses unspent fits = inr (inr (inl refl))
  undecided (Err mirrors.NoMemory) refuses unspent fits = inr (inr (inr refl))

  pub decided_by : IsDecided (verdict_of (MirrorReading.Reads j b n)) (mapped r)
  decided_by = by (j.epoch == 2 ^ 48) (nat_lt (room j.shape) (base_size b)) refl refl
    where
      by : (spent full : Bool) → (j.epoch == 2 ^ 48) ≡ spent → nat_lt (room j.shape) (base_size b) ≡ full
          → IsDecided (cond spent (Some EpochSpent) (cond full (Some (JournalFull (base_size b) (room j.shape))) None)) (mapped r)
      by true full is long = inl (ap mapped (refuses.spent.1 (epoch ∙ eqb-true j.epoch (2 ^ 48) is)))
      by false true is long =
          let unspent : ¬ (j.epoch ≡ 2 ^ 48) = eqb-false j.epoch (2 ^ 48) is in
          let less : s.journal.seat.epoch < 2 ^ 48 = omega (arith, unspent, low, epoch) in
          inl (ap mapped ((refuses.full (base_size b) (room j.shape)).1 (record { epoch = less; long = ltb-true (room j.shape) (base_size b) long; need_is = sym need; left_is = sym room_is })))
      by false false is long = undecided r refuses (eqb-false j.epoch (2 ^ 48) is) (ltb-false (room j.shape) (base_size b) long)

-- ---- what becomes of the disk

abbrev at_position : Durable Tagged → ℕ → Mirrored
at_position kept n = record { kept = kept; position = n }

same_had : (had : Mirrored) → has_all had.kept had.position [] None ≡ had
same_had had = let none : had.position + 0 ≡ had.position = omega arith in ap (λ (n : ℕ). at_position had.kept n) none

none_more : (had : Mirrored) (j : ℕ) → j ≤ 0 → mirrored_after had.kept had.position (with_doubt None []) j ≡ had
none_more had zero le = same_had had
none_more had (suc j) le = absurd (omega (arith, le))

module _ {T : Type 0} (had : Mirrored) (old new : Told) (t0 : ℕ) (honest : IsHonest new) (soon : t0 ≤ old.calls + 2) (r : Result T PromoteError) (becomes : PromotesAs had.kept had.position t0 [] None new r) where
  may_be : (image : List ℕ) → MayBeMirror had.kept had.position [] None image → IsMirror had image
  may_be image m = m.3 ∙ ap (λ (x : Mirrored). Some x) (none_more had m.0 m.2)

  either : (image : List ℕ) → IsEither (has_all had.kept had.position [] None) image → IsEither had image
  either image is = subst (λ (x : Mirrored). IsEither x image) (same_had had) is

  crashed : (image : List ℕ) → new.may_leave (old.calls + 2) image → IsEither had image
  crashed image left = by (becomes.crash zero image (omega arith) (honest.since t0 (old.calls + 2) image soon left))
    where
      by : WasMirror had.kept had.position [] None zero image ⊎ IsPlain (has_all had.kept had.position [] None).kept image → IsEither had image
      by (inl was) = inl (was.3 ∙ ap (λ (x : Mirrored). Some x) (none_more had was.0 was.2))
      by (inr plain) = inr plain

  turned : (r : Result T PromoteError) → PromotesAs had.kept had.position t0 [] None new r → HasTurned had old new (mapped r)
  turned (Ok x) p = record { ok = p.ok; refused = tt; unsure = λ e. cc; crash = crashed }
  turned (Err mirrors.EpochSpent) p = record { ok = tt; refused = λ not image left. may_be image (p.refused (λ e. cc) image left); unsure = λ e. cc; crash = crashed }
  turned (Err (mirrors.JournalFull need left)) p = record { ok = tt; refused = λ not image left. may_be image (p.refused (λ e. cc) image left); unsure = λ e. cc; crash = crashed }
  turned (Err mirrors.DiskFault) p = record { ok = tt; refused = λ not image left. may_be image (p.refused (λ e. cc) image left); unsure = λ e. cc; crash = crashed }
  turned (Err mirrors.InDoubt) p = record { ok = tt; refused = λ not. absurd (not refl); unsure = λ e image left. either image (p.unsure refl image left); crash = crashed }
  turned (Err mirrors.NoMemory) p = record { ok = tt; refused = λ not image left. may_be image (p.refused (λ e. cc) image left); unsure = λ e. cc; crash = crashed }

  pub turns_by : HasTurned had old new (mapped r)
  turns_by = turned r becomes

-- ---- all of it

-- of a mirror that was not opened
pub unopened_promotes : {T : Type 0} (old new : Told) (e : OpenError) → Looks 6 old new → ((place : ℕ) → e ≡ opening.BadDisk place → IsNoMirrorAt old place) → (e ≡ opening.DiskFault → HasRisen old.faults new.faults) → Promotes {T = T} old new (Err (unopened_of e))
unopened_promotes {T} old new (opening.BadDisk place) looks bad fault = record {
  decided = λ honest. subst (λ (reading : MirrorReading). IsDecided {T = T} (verdict_of reading) (Err (BadDisk place))) (sym (bad place refl honest)) (inl refl);
  turns = λ honest had is. absurd (no_mirror old.bytes place had (bad place refl honest) is);
  looked = λ honest not. looks;
  fault = λ device. absurd (by device);
}
  where
    by : IsOfDevice (BadDisk place) → ⊥
    by (inl e) = cc
    by (inr e) = cc
unopened_promotes {T} old new opening.DiskFault looks bad fault = record {
  decided = λ honest. by (verdict_of (mirror_reading old.bytes));
  turns = λ honest had is. inl (inl refl, looks);
  looked = λ honest not. looks;
  fault = λ device. fault refl;
}
  where
    by : (verdict : Option Refusal) → IsDecided {T = T} verdict (Err DiskFault)
    by (Some e) = inr (inl refl)
    by None = inr (inl refl)
unopened_promotes {T} old new opening.NoMemory looks bad fault = record {
  decided = λ honest. by (verdict_of (mirror_reading old.bytes));
  turns = λ honest had is. inl (inr refl, looks);
  looked = λ honest not. looks;
  fault = λ device. absurd (of_device device);
}
  where
    by : (verdict : Option Refusal) → IsDecided {T = T} verdict (Err NoMemory)
    by (Some e) = inr (inr refl)
    by None = inr (inr (inr refl))

    of_device : IsOfDevice NoMemory → ⊥
    of_device (inl e) = cc
    of_device (inr e) = cc

none_some : (o : Option Pending) → o ≡ None → IsSome o → ⊥
none_some None e some = cc
none_some (Some p) e some = cc

some_same : (x y : Mirrored) → Some x ≡ Some y → x ≡ y
some_same x y e = cc

-- of one that was
module _ {T D : Type 0} (told : D → Told) (old : Told) (mid new : D) (looks : Looks 6 old (told mid)) (s : MirrorState) (r : Result T PromoteError)
    (read : IsTrue old.honest → IsRead old.bytes s) (opened : IsTrue old.honest → IsOpened old.bytes old.calls (told mid) s) (honest_then : IsTrue old.honest → IsHonest (told new))
    (judges : JudgesPromotion s r) (need : (b : Rebuilt) → Rebuilds (settled s).parts b → plain_size (settled s).parts ≡ base_size b) where
  settled_is : IsTrue old.honest → settled s ≡ s
  settled_is honest = ap (λ (o : Option Pending). settled_by o s) (read honest).quiet

  refuses : IsTrue old.honest → Refuses s r
  refuses honest = by judges
    where
      by : JudgesPromotion s r → Refuses s r
      by (inl stuck) = absurd (none_some s.pending (read honest).quiet stuck.0)
      by (inr x) = subst (λ (m : MirrorState). Refuses m r) (settled_is honest) x

  decided : IsTrue old.honest → IsDecided (verdict_of (mirror_reading old.bytes)) (mapped r)
  decided honest =
      let is = read honest in
      let low = epoch_low old.bytes is.journal (journal_read old.bytes is.journal is.rebuilt is.had.position is.reads) in
      let shows : Rebuilds (settled s).parts is.rebuilt = subst (λ (m : MirrorState). Rebuilds m.parts is.rebuilt) (sym (settled_is honest)) is.shows in
      let size : plain_size s.parts ≡ base_size is.rebuilt = subst (λ (m : MirrorState). plain_size m.parts ≡ base_size is.rebuilt) (settled_is honest) (need is.rebuilt shows) in
      subst (λ (reading : MirrorReading). IsDecided (verdict_of reading) (mapped r)) (sym is.reads) (decided_by is.journal is.rebuilt is.had.position s is.shape is.epoch low size r (refuses honest))

  early_spent : ¬ promoting.IsOfDevice mirrors.EpochSpent
  early_spent (inl e) = cc
  early_spent (inr e) = cc

  early_full : (more left : ℕ) → ¬ promoting.IsOfDevice (mirrors.JournalFull more left)
  early_full more left (inl e) = cc
  early_full more left (inr e) = cc

  early_memory : ¬ promoting.IsOfDevice mirrors.NoMemory
  early_memory (inl e) = cc
  early_memory (inr e) = cc

  looked : IsTrue old.honest → (r : Result T PromoteError) → IfErr r (λ e. ¬ promoting.IsOfDevice e → s.pending ≡ None → new ≡ mid) → IfErr (mapped r) (λ e. ¬ IsOfDevice e → Looks 6 old (told new))
  looked honest (Ok x) u = tt
  looked honest (Err mirrors.EpochSpent) u = λ not. subst (λ (d : D). Looks 6 old (told d)) (sym (u early_spent (read honest).quiet)) looks
  looked honest (Err (mirrors.JournalFull more left)) u = λ not. subst (λ (d : D). Looks 6 old (told d)) (sym (u (early_full more left) (read honest).quiet)) looks
  looked honest (Err mirrors.DiskFault) u = λ not. absurd (not (inl refl))
  looked honest (Err mirrors.InDoubt) u = λ not. absurd (not (inr refl))
  looked honest (Err mirrors.NoMemory) u = λ not. subst (λ (d : D). Looks 6 old (told d)) (sym (u early_memory (read honest).quiet)) looks

  risen : HasRisen (told mid).faults (told new).faults → HasRisen old.faults (told new).faults
  risen h low = let more = h low in let le = looks.faults in omega (arith, more, le)

  faulted : (r : Result T PromoteError) → IfErr r (λ e. promoting.IsOfDevice e → HasRisen (told mid).faults (told new).faults) → IfErr (mapped r) (λ e. IsOfDevice e → HasRisen old.faults (told new).faults)
  faulted (Ok x) f = tt
  faulted (Err mirrors.EpochSpent) f = λ device. absurd (by device)
    where
      by : IsOfDevice EpochSpent → ⊥
      by (inl e) = cc
      by (inr e) = cc
  faulted (Err (mirrors.JournalFull more left)) f = λ device. absurd (by device)
    where
      by : IsOfDevice (JournalFull more left) → ⊥
      by (inl e) = cc
      by (inr e) = cc
  faulted (Err mirrors.DiskFault) f = λ device. risen (f (inl refl))
  faulted (Err mirrors.InDoubt) f = λ device. risen (f (inr refl))
  faulted (Err mirrors.NoMemory) f = λ device. absurd (by device)
    where
      by : IsOfDevice NoMemory → ⊥
      by (inl e) = cc
      by (inr e) = cc

  pub promoted : IfErr r (λ e. ¬ promoting.IsOfDevice e → s.pending ≡ None → new ≡ mid) → IfErr r (λ e. promoting.IsOfDevice e → HasRisen (told mid).faults (told new).faults)
      → (IsTrue (told mid).honest → (first : Durable Tagged) (from t0 : ℕ) (taken : List Took) (doubt : Option (Effect Tagged)) → Keeps first from t0 taken doubt (told mid) s → PromotesAs first from t0 taken doubt (told new) r)
      → Promotes old (told new) (mapped r)
  promoted unchanged fault promotes = record {
    decided = decided;
    turns = λ honest had is.
        let o = opened honest in
        let same : o.had ≡ had = some_same o.had had (sym o.mirrored ∙ is) in
        let becomes = promotes (subst (λ (x : Bool). IsTrue x) (sym looks.honest) honest) o.had.kept o.had.position o.t0 [] None o.keeps in
        subst (λ (x : Mirrored). Turns x old (told new) (mapped r)) same (inr (turns_by o.had old (told new) o.t0 (honest_then honest) o.soon r becomes));
    looked = λ honest. looked honest r unchanged;
    fault = faulted r fault;
  }
