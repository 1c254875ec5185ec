-- What the parts rebuild after a change.
use Rattle.std.proofs.Common.{◌≡◌, ◌⊎◌, inl, inr, ℕ, zero, suc, ◌+◌, ◌<◌, ◌==◌, Bool, true, false, cond, not, ◌&&◌, ◌||◌, nat_lt, List, [], ◌∷◌, ◌++◌, map, length, Some, None, Result, Ok, Err, refl, sym, ◌∙◌, ap, subst, arith, append_assoc}
use Rattle.std.specs.Prelude.{filter, IfOk}
use Rattle.std.proofs.lemmas.List.{append-nil}
use Rattle.std.proofs.lemmas.Bool.{eq-eqb}
use Rattle.voice_units.specs.declared.shapes.Shape.{Shape}
use Rattle.voice_units.specs.declared.errors.NoMemory.{NoMemory}
use Rattle.voice_units.specs.Spots.{Spot}
use Rattle.voice_units.specs.Blocks.{BlockPair, has_pair, pairs_at}
use Rattle.voice_model.specs.State.{Durable, Live, Effect, is_live, has_row, settled}
use Rattle.voice_model.specs.State.Effect.{Recorded, Edited, Retained, Forgotten, Counted, Swept, Advanced}
use Rattle.voice_model.specs.Changes.{changed}
use Rattle.voice_model.specs.Replay.{Placed, Rebuilt, is_legal, acted, after_effect, used_pairs, still_used, live_by, nothing_rebuilt}
use Rattle.voice_model.specs.Spelling.{keeps_grammar}
use Rattle.voice_model.specs.Valid.{Every, Rising, IsRope, IsRow, IsRebuilt}
use Rattle.voice_model.specs.Places.{IsPlaced, AllUsed}
use Rattle.voice_model.specs.declared.calls.Row.{Row}
use Rattle.voice_model.specs.declared.changes.Change.{Change}
use Rattle.voice_model.specs.declared.changes.Change.TheVariants as changes
use Rattle.voice_model.proofs.KeptByChanges.{every-imply}
use Rattle.voice_model.proofs.FitsOfCalls.{every_passed}
use Rattle.voice_model.proofs.LegalInReplay.{live_filled}
use Rattle.voice_model.proofs.PlacesKept.{placed_next, all_samples, has_pair-append}
use Rattle.voice_model.proofs.StatesOfReplay.{rebuilt_next}
use Rattle.voice_blocks.specs.Holders.{Holders, holder_at}
use Rattle.rope_table.specs.Table.{Counts}
use Rattle.std.specs.Prelude.{replicate}
use Rattle.std.proofs.Math.ListN.{length-replicate}
use Rattle.voice_model.specs.State.{form_of}
use Rattle.voice_model.proofs.StatesOfReplay.{nothing_kept}
use Rattle.voice_model.proofs.PlacesKept.{placed_first}
use Rattle.recovery.specs.Shown.{Shows, ShowsPlaces, IsOrderly, Rebuilds, IsParts, IsApplied, plain_sample}
use Rattle.recovery.specs.declared.parts.Parts.{Parts}

rising_back : (low : ℕ) (ropes : List (Live Spot)) (next : ℕ) → Rising low (map (live_by plain_sample) ropes) next → Rising low ropes next
rising_back low [] next h = h
rising_back low (rope ∷ ropes) next h = (h.0, rising_back (rope.id + 1) ropes next h.1)

lasts_back : (form now : ℕ) (ropes : List (Live Spot)) → form ≡ 1 → Every (IsRope form now) (map (live_by plain_sample) ropes) → Every (λ rope. rope.last ≡ 0) ropes
lasts_back form now [] e h = tt
lasts_back form now (rope ∷ ropes) e h = (h.0.plain e, lasts_back form now ropes e h.1)

form_one : (form : ℕ) → (form ≡ 1) ⊎ (form ≡ 2) → (form == 2) ≡ false → form ≡ 1
form_one form (inl e) h = e
form_one form (inr e) h = let bad : true ≡ false = sym (eq-eqb form 2 e) ∙ h in cc

pub orderly_rebuilt : (r : Rebuilt) → IsRebuilt plain_sample r → IsOrderly r.form r.kept
orderly_rebuilt r h = record {
  rising = rising_back 1 r.ropes r.next h.kept.rising;
  rows_live =
      every-imply (IsRow (map (live_by plain_sample) r.ropes)) (λ row. is_live r.ropes row.rope ≡ true)
      (λ row k. sym (live_filled plain_sample (λ s. refl) r.ropes row.rope) ∙ k.live) r.rows h.kept.each_row;
  once = h.kept.once;
  lasts = λ e. lasts_back r.form r.moment r.ropes (form_one r.form h.forms e) h.kept.each_rope;
}

pub orderly : (parts : Parts) (r : Rebuilt) → Rebuilds parts r → IsOrderly parts.form r.kept
orderly parts r h = subst (λ form. IsOrderly form r.kept) (sym h.in_form) (orderly_rebuilt r h.valid)

-- ---- places that stay

pub filter_all : {A : Type 0} (p : A → Bool) (xs : List A) → Every (λ x. p x ≡ true) xs → filter p xs ≡ xs
filter_all p [] h = refl
filter_all p (x ∷ xs) h = ap (λ b. cond b (x ∷ filter p xs) (filter p xs)) h.0 ∙ ap (λ l. x ∷ l) (filter_all p xs h.1)

-- where all used blocks stay used, all places stay
pub all_stay_used : (r : Rebuilt) (d : Durable Spot) → AllUsed r → ((pair : BlockPair) → has_pair (used_pairs r.kept) pair ≡ true → has_pair (used_pairs d) pair ≡ true) → still_used d (r.places ++ []) ≡ r.places
all_stay_used r d used more =
    ap (still_used d) (append-nil r.places)
    ∙ filter_all (λ (place : Placed). has_pair (used_pairs d) place.pair) r.places
    (every-imply (λ (place : Placed). has_pair (used_pairs r.kept) place.pair ≡ true) (λ (place : Placed). has_pair (used_pairs d) place.pair ≡ true) (λ place e. more place.pair e) r.places used)

samples_stay : (b : Bool) (form now class : ℕ) (rope : Live Spot) → (cond b (record rope { idle = now; last = cond (form == 2) class rope.last }) rope).samples ≡ rope.samples
samples_stay true form now class rope = refl
samples_stay false form now class rope = refl

pub same_samples : (form now class : ℕ) (before after : List Row) (ropes : List (Live Spot)) → all_samples (map (settled form now class before after) ropes) ≡ all_samples ropes
same_samples form now class before after [] = refl
same_samples form now class before after (rope ∷ ropes) =
    ap (λ l. l ++ all_samples (map (settled form now class before after) ropes)) (samples_stay (has_row before rope.id && not (has_row after rope.id)) form now class rope)
    ∙ ap (λ l. rope.samples ++ l) (same_samples form now class before after ropes)

or_left : (a b : Bool) → a ≡ true → (a || b) ≡ true
or_left a b e = ap (λ x. x || b) e

-- blocks of live ropes stay used as another rope comes
pub last_samples : (ropes : List (Live Spot)) (rope : Live Spot) → all_samples (ropes ++ rope ∷ []) ≡ all_samples ropes ++ rope.samples
last_samples [] rope = append-nil rope.samples
last_samples (first ∷ ropes) rope = ap (λ l. first.samples ++ l) (last_samples ropes rope) ∙ sym (append_assoc first.samples (all_samples ropes) rope.samples)

pub more_used : (block : ℕ) (ropes : List (Live Spot)) (rope : Live Spot) (pair : BlockPair) → has_pair (pairs_at block (all_samples ropes)) pair ≡ true → has_pair (pairs_at block (all_samples (ropes ++ rope ∷ []))) pair ≡ true
more_used block ropes rope pair h = ap (λ l. has_pair (pairs_at block l) pair) (last_samples ropes rope) ∙ has_pair-append block (all_samples ropes) rope.samples pair ∙ or_left (has_pair (pairs_at block (all_samples ropes)) pair) _ h

-- ---- a change

same_shape : (form : ℕ) (d : Durable Spot) (e : Effect Spot) → (changed form d e).shape ≡ d.shape
same_shape form d (Recorded id samples) = refl
same_shape form d (Edited id samples) = refl
same_shape form d (Retained row) = refl
same_shape form d (Forgotten class key) = refl
same_shape form d (Counted keys) = refl
same_shape form d (Swept ids) = refl
same_shape form d (Advanced moment) = refl

-- the parts after a legal change that brings an effect
pub rebuilds_after : (old new : Parts) (r : Rebuilt) (c : Change) (places : List Placed) (effect : Effect Spot) → Rebuilds old r → is_legal r c ≡ true → keeps_grammar c ≡ true → acted r c ≡ after_effect r places (Some effect)
    → Shows [] new (changed r.form r.kept effect) → new.form ≡ old.form → ShowsPlaces new.blocks.holders r.shape.blocks (still_used (changed r.form r.kept effect) (r.places ++ places)) → Rebuilds new (acted r c)
rebuilds_after old new r c places effect h legal grammar is shows form shown =
    let end = after_effect r places (Some effect) in
    let valid = subst (IsRebuilt plain_sample) is (rebuilt_next plain_sample (λ s. refl) r c h.valid legal grammar) in
    let placed = subst IsPlaced is (placed_next r c h.placed legal grammar) in
    let blocks : r.shape.blocks ≡ end.shape.blocks = ap (λ (s : Shape). s.blocks) (sym (same_shape r.form r.kept effect)) in
    subst (Rebuilds new) (sym is)
    (record {
      kept = shows;
      places = subst (λ n. ShowsPlaces new.blocks.holders n end.places) blocks shown;
      in_form = form ∙ h.in_form;
      valid = valid;
      placed = placed;
      used = every_passed (λ (place : Placed). has_pair (used_pairs (changed r.form r.kept effect)) place.pair) (r.places ++ places);
    })

-- the parts after a change that did nothing
pub rebuilds_still : (old new : Parts) (r : Rebuilt) → Rebuilds old r → Shows [] new r.kept → new.form ≡ old.form → ShowsPlaces new.blocks.holders r.shape.blocks r.places → Rebuilds new r
rebuilds_still old new r h shows form shown = record { kept = shows; places = shown; in_form = form ∙ h.in_form; valid = h.valid; placed = h.placed; used = h.used }

pub told : (done : Bool) (legal : Bool) (result : Result Bool NoMemory) → IfOk result (λ done. done ≡ legal) → result ≡ Ok true → legal ≡ true
told done legal result h e = let k : IfOk {E = NoMemory} (Ok true) (λ done. done ≡ legal) = subst (λ o. IfOk o (λ done. done ≡ legal)) e h in sym k

-- a change that brings no place and frees none
pub plain_applied : (shape : Shape) (old new : Parts) (c : Change) (effect : Effect Spot) (result : Result Bool NoMemory) → keeps_grammar c ≡ true → ((r : Rebuilt) → acted r c ≡ after_effect r [] (Some effect))
    → new.blocks ≡ old.blocks → new.form ≡ old.form
    → ((r : Rebuilt) → Rebuilds old r → r.shape ≡ shape → IfOk result (λ done. done ≡ is_legal r c))
    → ((r : Rebuilt) → Rebuilds old r → r.shape ≡ shape → result ≡ Ok true → Shows [] new (changed r.form r.kept effect))
    → ((r : Rebuilt) → Rebuilds old r → r.shape ≡ shape → ¬ (result ≡ Ok true) → Shows [] new r.kept)
    → ((r : Rebuilt) (pair : BlockPair) → has_pair (used_pairs r.kept) pair ≡ true → has_pair (used_pairs (changed r.form r.kept effect)) pair ≡ true)
    → IsApplied shape old new c result
plain_applied shape old new c effect result grammar is blocks form legal done still more = record {
  legal = legal;
  done = λ r h s e.
      rebuilds_after old new r c [] effect h (told true (is_legal r c) result (legal r h s) e) grammar (is r) (done r h s e) form
      (subst (ShowsPlaces new.blocks.holders r.shape.blocks) (sym (all_stay_used r (changed r.form r.kept effect) h.used (more r)))
      (subst (λ (b : Holders). ShowsPlaces b r.shape.blocks r.places) (ap (λ b. b.holders) (sym blocks)) h.places));
  same = λ r h s e. rebuilds_still old new r h (still r h s e) form (subst (λ (b : Holders). ShowsPlaces b r.shape.blocks r.places) (ap (λ b. b.holders) (sym blocks)) h.places);
}

pub not_done : (done : Bool) → ¬ (◌≡◌ {A = Result Bool NoMemory} (Ok done) (Ok true)) → done ≡ false
not_done true h = absurd (h refl)
not_done false h = refl

pub is_below : (a b : ℕ) → a < b → nat_lt a b ≡ true
is_below a b h = grind (arith, h)

-- what replay begins with
pub nothing_shown : (parts : Parts) (shape : Shape) → parts.ropes.block ≡ shape.block → parts.ropes.ropes ≡ [] → Counts parts.ropes [] → parts.interests.rows ≡ [] → parts.blocks.holders ≡ replicate shape.blocks None
    → parts.moment ≡ 0 → parts.next ≡ 1 → parts.form ≡ form_of shape.version → Rebuilds parts (nothing_rebuilt shape)
nothing_shown parts shape block ropes uses rows holders moment next form = record {
  kept = record { block = block; ropes = ropes; uses = uses; rows = rows; moment = moment; next = next };
  places = record {
    size = ap length holders ∙ length-replicate shape.blocks None;
    each = λ a. ap (λ (l : Holders). holder_at l a) holders ∙ none_held shape.blocks a;
  };
  in_form = form;
  valid = nothing_kept plain_sample (λ s. refl) shape;
  placed = placed_first shape;
  used = tt;
}
  where
    none_held : (n a : ℕ) → holder_at (replicate n None) a ≡ None
    none_held zero a = refl
    none_held (suc n) zero = refl
    none_held (suc n) (suc a) = none_held n a

-- ---- parts by a shape

pub acted_shape : (r : Rebuilt) (c : Change) → (acted r c).shape ≡ r.shape
acted_shape r (changes.Recorded id len addresses) = refl
acted_shape r (changes.Wide id len addresses) = refl
acted_shape r (changes.Edited id pieces) = refl
acted_shape r (changes.Retained class key id note) = refl
acted_shape r (changes.Forgotten class key) = refl
acted_shape r (changes.Census keys) = refl
acted_shape r (changes.Swept ids) = refl
acted_shape r (changes.Advanced moment) = refl
acted_shape r (changes.Base now next) = refl
acted_shape r (changes.Base2 now next) = refl
acted_shape r (changes.File file pairs) = refl
acted_shape r (changes.File2 file pairs) = refl
acted_shape r (changes.Rope id idle pieces) = refl
acted_shape r (changes.Rope2 id idle last pieces) = refl

-- parts on which a change was tried
pub parts_after : (shape : Shape) (old new : Parts) (c : Change) (result : Result Bool NoMemory) → IsParts shape old
    → ((r : Rebuilt) → Rebuilds old r → r.shape ≡ shape → result ≡ Ok true → Rebuilds new (acted r c))
    → ((r : Rebuilt) → Rebuilds old r → r.shape ≡ shape → ¬ (result ≡ Ok true) → Rebuilds new r) → IsParts shape new
parts_after shape old new c (Ok true) h done same = record { what = acted h.what c; shows = done h.what h.shows h.in_shape refl; in_shape = acted_shape h.what c ∙ h.in_shape }
parts_after shape old new c (Ok false) h done same = record { what = h.what; shows = same h.what h.shows h.in_shape (λ e. cc); in_shape = h.in_shape }
parts_after shape old new c (Err none) h done same = record { what = h.what; shows = same h.what h.shows h.in_shape (λ e. cc); in_shape = h.in_shape }
