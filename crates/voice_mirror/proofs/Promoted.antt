-- What a switch to a mirror's plain base does, and what a promotion leaves.
use Rattle.std.proofs.Common.{◌≡◌, ◌⊎◌, ℕ, ◌+◌, ◌^◌, ◌≤◌, ◌<◌, ◌↔◌, IfErr, IsErr, arith, List, [], ◌∷◌, length, take, map, Option, Some, None, Result, Ok, Err, inl, inr, refl, sym, ◌∙◌, ap, subst}
use Rattle.voice_outside.specs.Disk.{Told, Now, Leaves}
use Rattle.voice_journal.specs.Places.{JournalValue}
use Rattle.voice_journal.specs.Readings.{switched}
use Rattle.voice_model.specs.Samples.{Tagged}
use Rattle.voice_model.specs.State.{Durable, Effect}
use Rattle.voice_model.specs.Spelling.{spelling}
use Rattle.voice_model.specs.Replay.{Rebuilt}
use Rattle.voice_model.specs.Base.{base_of}
use Rattle.recovery.specs.declared.parts.Parts.{Parts}
use Rattle.mirror_readings.specs.Readings.{Mirrored}
use Rattle.crash_laws.specs.Standing.{IsHonest, IsLater}
use Rattle.crash_laws.specs.Calls.{Does, Undoes, Doubts, StaysWithin}
use Rattle.mirror_laws.specs.Standing.{Took, taken_at, kept_after, effects_of, with_doubt, moment_of, mirrored_after, StandsSure}
use Rattle.mirror_laws.specs.Foundations.{MirrorFoundations}
use Rattle.mirror_laws.specs.Promotion.{IsMirror, IsPlain, IsEither, PromotionsTurn}
use Rattle.mirror_laws.proofs.Promotion.{promotions_turn}
use Rattle.mirror_laws.proofs.Histories.{length_effects, moment_push, length_push}
use Rattle.mirror_tables.specs.Numbered.{plain_size}
use Rattle.voice_mirror.specs.Shown.{Shown, MirrorState, Keeps}
use Rattle.voice_mirror.specs.Taking.{with_landed}
use Rattle.voice_mirror.specs.Promoting.{IsFull, IsOfDevice, IsTurned, MayBeMirror, WasMirror, PromotesAs, has_all}
use Rattle.voice_mirror.specs.declared.promoting.PromoteError.{PromoteError}
use Rattle.voice_mirror.specs.declared.promoting.PromoteError.TheVariants.{EpochSpent, JournalFull, DiskFault, InDoubt, NoMemory}
use Rattle.voice_mirror.proofs.Growing.{effects_landed}

-- ---- a switch to the plain base

module _ (laws : MirrorFoundations) (old new : Told) (is : IsLater old new) (journal journal' : JournalValue) (payloads : List (List ℕ)) (b : Rebuilt) (had : Mirrored)
    (u : StandsSure journal old b had.position had.kept) (spelled : payloads ≡ map spelling (base_of 2 b)) (stays : StaysWithin (λ r. switched r payloads) journal old new) where
  abbrev turn : PromotionsTurn old new
  turn = promotions_turn laws old new

  within : Leaves old new (IsEither had)
  within = (turn).within journal b had payloads is u spelled stays

  pub done : {T : Type 0} (x : T) → Does (λ r. switched r payloads) journal journal' old new → IsTurned had old new (Ok x)
  done x does = record { ok = (turn).ok journal journal' b had payloads is u spelled does; before = λ e. cc; doubt = λ e. cc; crash = within }

  pub failed : (T : Type 0) → Undoes journal journal' old new → IsTurned {T = T} had old new (Err DiskFault)
  failed T undoes = record { ok = tt; before = λ e. (turn).before journal journal' b had is u undoes; doubt = λ e. cc; crash = within }

  pub doubted : (T : Type 0) → Doubts (λ r. switched r payloads) journal journal' old new → IsTurned {T = T} had old new (Err InDoubt)
  doubted T doubts = record { ok = tt; before = λ e. cc; doubt = λ e. (turn).doubt journal journal' b had payloads is u spelled doubts; crash = within }

-- ---- answers

-- an error of one kind of answers and of another
moved : (S T : Type 0) (e f : PromoteError) → ◌≡◌ {A = Result S PromoteError} (Err e) (Err f) → ◌≡◌ {A = Result T PromoteError} (Err e) (Err f)
moved S T e f h = ap (λ (x : PromoteError). Err x) (same e f h)
  where
    same : (x y : PromoteError) → ◌≡◌ {A = Result S PromoteError} (Err x) (Err y) → x ≡ y
    same x y k = cc

pub full_in : (S T : Type 0) (e f : PromoteError) (X : Type 0) → (◌≡◌ {A = Result S PromoteError} (Err e) (Err f)) ↔ X → (◌≡◌ {A = Result T PromoteError} (Err e) (Err f)) ↔ X
full_in S T e f X h = ((λ k. h.0 (moved T S e f k)), (λ x. moved S T e f (h.1 x)))

-- nothing was written
pub refused : (T : Type 0) (had : Mirrored) (old : Told) (e : PromoteError) → ¬ IsOfDevice e → IsTurned {T = T} had old old (Err e)
refused T had old e early = record {
  ok = tt;
  before = λ h. absurd (early (inl (err_same e DiskFault h)));
  doubt = λ h. absurd (early (inr (err_same e InDoubt h)));
  crash = λ t image le left. inl left;
}
  where
    err_same : (x y : PromoteError) → ◌≡◌ {A = Result T PromoteError} (Err x) (Err y) → x ≡ y
    err_same x y h = cc

module _ {T : Type 0} where
  -- an answer of the device is none of these
  device_spent : (r : Result T PromoteError) → IfErr r IsOfDevice → ¬ (r ≡ Err EpochSpent)
  device_spent (Ok x) dev h = cc
  device_spent (Err e) (inl is) h = cc
  device_spent (Err e) (inr is) h = cc

  device_full : (r : Result T PromoteError) (need left : ℕ) → IfErr r IsOfDevice → ¬ (r ≡ Err (JournalFull need left))
  device_full (Ok x) need left dev h = cc
  device_full (Err e) need left (inl is) h = cc
  device_full (Err e) need left (inr is) h = cc

  pub not_spent : (r : Result T PromoteError) (epoch : ℕ) → IfErr r IsOfDevice → epoch < 2 ^ 48 → (r ≡ Err EpochSpent) ↔ (epoch ≡ 2 ^ 48)
  not_spent r epoch dev low = ((λ h. absurd (device_spent r dev h)), (λ is. absurd (omega (arith, low, is))))

  pub not_full : (r : Result T PromoteError) (journal : JournalValue) (parts : Parts) → IfErr r IsOfDevice → plain_size parts + 17 ≤ journal.shape.area → (need left : ℕ) → (r ≡ Err (JournalFull need left)) ↔ IsFull journal parts need left
  not_full r journal parts dev fits need left = (
    (λ h. absurd (device_full r need left dev h)),
    (λ is. absurd (let a = is.long in let b = is.need_is in let d = is.left_is in omega (arith, fits, a, b, d))),
  )

  pub by_device : (r : Result T PromoteError) (P : Type 0) → IfErr r IsOfDevice → IfErr r (λ e. ¬ IsOfDevice e → P)
  by_device (Ok x) P dev = tt
  by_device (Err e) P dev = λ early. absurd (early dev)

  pub risen_then : (r : Result T PromoteError) (P : Type 0) → (IsErr r → P) → IfErr r (λ e. IsOfDevice e → P)
  risen_then (Ok x) P risen = tt
  risen_then (Err e) P risen = λ dev. risen refl

-- ---- what a promotion leaves

take_effects : (es : List (Effect Tagged)) → take (length es) es ≡ es
take_effects [] = refl
take_effects (e ∷ es) = ap (λ (l : List (Effect Tagged)). e ∷ l) (take_effects es)

-- all that a mirror has
all_after : (first : Durable Tagged) (from : ℕ) (taken : List Took) (doubt : Option (Effect Tagged)) → mirrored_after first from (with_doubt doubt taken) (length (with_doubt doubt taken)) ≡ has_all first from taken doubt
all_after first from taken doubt = ap (λ (es : List (Effect Tagged)). record { kept = kept_after first es; position = from + length (with_doubt doubt taken) }) (take_effects (with_doubt doubt taken))

-- a landing failed: it is the mirror as before
module _ (first : Durable Tagged) (from t0 : ℕ) (taken : List Took) (doubt : Option (Effect Tagged)) (disk : Told) (honest : IsHonest disk) (s : MirrorState) (keeps : Keeps first from t0 taken doubt disk s) where
  pub now_mirror : Now disk (MayBeMirror first from taken doubt)
  now_mirror image left = keeps.held.held.each (length taken) image (omega arith) (honest.since (moment_of t0 taken (length taken)) disk.calls image (keeps.held.past (length taken) (omega arith)) left)

  pub stuck_promotes : (T : Type 0) → PromotesAs {T = T} first from t0 taken doubt disk (Err DiskFault)
  stuck_promotes T = record { ok = tt; refused = λ not. now_mirror; unsure = λ e. cc; crash = λ k image le left. inl (keeps.held.held.each k image le left) }

moment_landed : (t0 : ℕ) (taken : List Took) (doubt : Option (Effect Tagged)) (ack k : ℕ) → k ≤ length taken → moment_of t0 (with_landed doubt ack taken) k ≡ moment_of t0 taken k
moment_landed t0 taken None ack k le = refl
moment_landed t0 taken (Some effect) ack k le = moment_push t0 taken (taken_at effect ack) k le

length_landed : (taken : List Took) (doubt : Option (Effect Tagged)) (ack : ℕ) → length (with_landed doubt ack taken) ≡ length (with_doubt doubt taken)
length_landed taken doubt ack = sym (length_effects (with_landed doubt ack taken)) ∙ ap length (effects_landed doubt ack taken)

longer_landed : (taken : List Took) (doubt : Option (Effect Tagged)) (ack : ℕ) → length taken ≤ length (with_landed doubt ack taken)
longer_landed taken None ack = omega arith
longer_landed taken (Some effect) ack = let more = length_push taken (taken_at effect ack) in omega (arith, more)

-- nothing was in doubt, or it has landed
module _ (first : Durable Tagged) (from t0 ack : ℕ) (taken : List Took) (doubt : Option (Effect Tagged)) (mid new : Told) (is : IsHonest mid) (s : MirrorState) (keeps : Keeps first from t0 (with_landed doubt ack taken) None mid s) where
  abbrev all : List Took
  all = with_landed doubt ack taken

  -- what the mirror has
  abbrev had : Mirrored
  had = record { kept = kept_after first (effects_of (all)); position = from + length (all) }

  had_same : had ≡ has_all first from taken doubt
  had_same =
      ap (λ (es : List (Effect Tagged)). record { kept = kept_after first es; position = from + length (all) }) (effects_landed doubt ack taken)
      ∙ ap (λ (n : ℕ). record { kept = kept_after first (with_doubt doubt taken); position = from + n }) (length_landed taken doubt ack)

  pub stands_with : StandsSure s.journal mid keeps.now (had).position (had).kept
  stands_with = keeps.held.stands

  -- since a change was taken
  was_mirror : (k : ℕ) (image : List ℕ) → k ≤ length taken → mid.may_leave (moment_of t0 taken k) image → WasMirror first from taken doubt k image
  was_mirror k image le left =
      let longer = longer_landed taken doubt ack in
      let got = keeps.held.held.each k image (omega (arith, le, longer)) (subst (λ (t : ℕ). mid.may_leave t image) (sym (moment_landed t0 taken doubt ack k le)) left) in
      subst (λ (es : List (Effect Tagged)). (j : ℕ) × (k ≤ j) × (j ≤ length es) × IsMirror (mirrored_after first from es j) image) (effects_landed doubt ack taken) got

  -- the mirror with all of it
  whole_mirror : (k : ℕ) (image : List ℕ) → k ≤ length taken → IsMirror (had) image → WasMirror first from taken doubt k image
  whole_mirror k image le mirror =
      let longer = longer_landed taken doubt ack in
      let long = length_landed taken doubt ack in
      (length (with_doubt doubt taken), omega (arith, le, longer, long), omega arith, mirror ∙ ap (λ (m : Mirrored). Some m) (had_same ∙ sym (all_after first from taken doubt)))

  past_k : (k : ℕ) → k ≤ length taken → moment_of t0 taken k ≤ mid.calls
  past_k k le =
      let longer = longer_landed taken doubt ack in
      subst (λ (t : ℕ). t ≤ mid.calls) (moment_landed t0 taken doubt ack k le) (keeps.held.past k (omega (arith, le, longer)))

  now_whole : Now mid (MayBeMirror first from taken doubt)
  now_whole image left = was_mirror (length taken) image (omega arith) (is.since (moment_of t0 taken (length taken)) mid.calls image (past_k (length taken) (omega arith)) left)

  either_was : (k : ℕ) (image : List ℕ) → k ≤ length taken → IsEither (had) image → WasMirror first from taken doubt k image ⊎ IsPlain (has_all first from taken doubt).kept image
  either_was k image le (inl mirror) = inl (whole_mirror k image le mirror)
  either_was k image le (inr plain) = inr (subst (λ (m : Mirrored). IsPlain m.kept image) had_same plain)

  crash_by : Leaves mid new (IsEither (had)) → (k : ℕ) (image : List ℕ) → k ≤ length taken → new.may_leave (moment_of t0 taken k) image → WasMirror first from taken doubt k image ⊎ IsPlain (has_all first from taken doubt).kept image
  crash_by leaves k image le left = by (leaves (moment_of t0 taken k) image (past_k k le) left)
    where
      by : mid.may_leave (moment_of t0 taken k) image ⊎ IsEither (had) image → WasMirror first from taken doubt k image ⊎ IsPlain (has_all first from taken doubt).kept image
      by (inl was) = inl (was_mirror k image le was)
      by (inr either) = either_was k image le either

  -- the device, or nobody, stood against the switch
  pub promotes_by : {T : Type 0} (result : Result T PromoteError) → IfErr result IsOfDevice → IsTurned (had) mid new result → PromotesAs first from t0 taken doubt new result
  promotes_by (Ok x) dev turned = record {
    ok = λ image left. subst (λ (m : Mirrored). IsPlain m.kept image) had_same (turned.ok image left);
    refused = tt;
    unsure = λ e. cc;
    crash = crash_by turned.crash;
  }
  promotes_by (Err e) (inl fault) turned = record {
    ok = tt;
    refused = λ not image left. whole_mirror (length taken) image (omega arith) (turned.before (ap (λ (x : PromoteError). Err x) fault) image left);
    unsure = λ same. cc;
    crash = crash_by turned.crash;
  }
  promotes_by (Err e) (inr doubted) turned = record {
    ok = tt;
    refused = λ not. absurd (not doubted);
    unsure = λ same image left. subst (λ (m : Mirrored). IsEither m image) had_same (turned.doubt (ap (λ (x : PromoteError). Err x) doubted) image left);
    crash = crash_by turned.crash;
  }

err_is : (T : Type 0) (x y : PromoteError) → ◌≡◌ {A = Result T PromoteError} (Err x) (Err y) → x ≡ y
err_is T x y h = cc

-- the switch was refused, and nothing was written for it
pub promotes_early : {T : Type 0} (first : Durable Tagged) (from t0 ack : ℕ) (taken : List Took) (doubt : Option (Effect Tagged)) (mid : Told) → IsHonest mid → (s : MirrorState) → Keeps first from t0 (with_landed doubt ack taken) None mid s
    → (e : PromoteError) → ¬ IsOfDevice e → PromotesAs {T = T} first from t0 taken doubt mid (Err e)
promotes_early first from t0 ack taken doubt mid is s keeps e early = record {
  ok = tt;
  refused = λ not. now_whole first from t0 ack taken doubt mid mid is s keeps;
  unsure = λ h. absurd (early (inr (err_is _ e InDoubt h)));
  crash = λ k image le left. inl (was_mirror first from t0 ack taken doubt mid mid is s keeps k image le left);
}

early_spent : ¬ IsOfDevice EpochSpent
early_spent (inl is) = cc
early_spent (inr is) = cc

early_full : (need left : ℕ) → ¬ IsOfDevice (JournalFull need left)
early_full need left (inl is) = cc
early_full need left (inr is) = cc

early_memory : ¬ IsOfDevice NoMemory
early_memory (inl is) = cc
early_memory (inr is) = cc

-- whatever came of it
module _ {D : Type 0} (told : D → Told) (first : Durable Tagged) (from t0 ack : ℕ) (taken : List Took) (doubt : Option (Effect Tagged)) (mid new : D) (is : IsHonest (told mid)) (s : MirrorState) (keeps : Keeps first from t0 (with_landed doubt ack taken) None (told mid) s) where
  abbrev has_it : Mirrored
  has_it = record { kept = kept_after first (effects_of (with_landed doubt ack taken)); position = from + length (with_landed doubt ack taken) }

  early : (T : Type 0) (e : PromoteError) → ¬ IsOfDevice e → new ≡ mid → PromotesAs {T = T} first from t0 taken doubt (told new) (Err e)
  early T e not same = subst (λ (d : D). PromotesAs {T = T} first from t0 taken doubt (told d) (Err e)) (sym same) (promotes_early first from t0 ack taken doubt (told mid) is s keeps e not)

  pub promotes_any : {T : Type 0} (result : Result T PromoteError) → IfErr result (λ e. ¬ IsOfDevice e → new ≡ mid) → IsTurned (has_it) (told mid) (told new) result → PromotesAs first from t0 taken doubt (told new) result
  promotes_any (Ok x) same turned = promotes_by first from t0 ack taken doubt (told mid) (told new) is s keeps (Ok x) tt turned
  promotes_any (Err EpochSpent) same turned = early _ EpochSpent early_spent (same early_spent)
  promotes_any (Err (JournalFull need left)) same turned = early _ (JournalFull need left) (early_full need left) (same (early_full need left))
  promotes_any (Err NoMemory) same turned = early _ NoMemory early_memory (same early_memory)
  promotes_any (Err DiskFault) same turned = promotes_by first from t0 ack taken doubt (told mid) (told new) is s keeps (Err DiskFault) (inl refl) turned
  promotes_any (Err InDoubt) same turned = promotes_by first from t0 ack taken doubt (told mid) (told new) is s keeps (Err InDoubt) (inr refl) turned

-- what holds of a mirror's fields holds of what contracts see of it
pub by_view : {D : Type 0} {x y : Shown D} → x ≡ y → (P : Shown D → Type 0) → P x → P y
by_view is P p = subst P is p
