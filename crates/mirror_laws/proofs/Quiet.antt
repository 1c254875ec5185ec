-- Calls of the disk that commit nothing: looks, and writes into blocks that have no place.
use Rattle.std.proofs.Common.{◌≡◌, inl, inr, ⊎_elim, ℕ, ◌+◌, ◌*◌, ◌≤◌, List, length, true, Option, Some, None, is_some, refl, sym, ◌∙◌, subst, arith}
use Rattle.voice_units.specs.declared.shapes.Shape.{Shape}
use Rattle.voice_outside.specs.Disk.{Told, Now, Leaves, IsTorn, AgreesOutside}
use Rattle.disk_areas.specs.Areas.{Journal}
use Rattle.voice_journal.specs.Looks.{Still}
use Rattle.voice_journal.specs.Readings.{Reads, OtherIs, IsPending, data_start}
use Rattle.voice_journal.specs.Stands.{Stands, StandsInDoubt}
use Rattle.voice_journal.specs.Places.{JournalValue, commit_place, closed_after}
use Rattle.voice_blocks.specs.Place.{block_place}
use Rattle.voice_model.specs.Samples.{Tagged}
use Rattle.voice_model.specs.State.{Durable, Effect}
use Rattle.voice_model.specs.Changes.{changed}
use Rattle.voice_model.specs.Replay.{Rebuilt, recovered}
use Rattle.crash_laws.specs.Standing.{IsLater}
use Rattle.crash_laws.specs.Calls.{WritesWithin, IsSpared, SparesWithin, AreFree}
use Rattle.crash_laws.proofs.Blocks.{place_within, sure_kept, pending_kept}
use Rattle.mirror_laws.specs.Standing.{Took, kept_after, effects_of, with_doubt, Gives, StandsUnsure, IsHeld}
use Rattle.mirror_laws.specs.Foundations.{MirrorFoundations}
use Rattle.mirror_laws.specs.Laws.{LooksCarry, WritesCarry}
use Rattle.mirror_laws.proofs.Histories.{IsMirrored, HasFrom, has_last, has_old, has_new}
use Rattle.mirror_laws.proofs.Carry.{past_moved, left_moved}
use Rattle.mirror_laws.proofs.Near.{means}

-- ---- images that read and fill as before

-- each of these images reads as before and is filled as before
record KeepsSure (P : List ℕ → Type 0) (journal : JournalValue) (r : Journal) (b : Rebuilt) (d : Durable Tagged) : Type 0 where
  pub reads : (image : List ℕ) → P image → Reads image r × OtherIs journal.is_closed r image
  pub fills : (image : List ℕ) → P image → recovered image b ≡ d

-- each waits for the same gate, and is filled as before either way
record KeepsUnsure (P : List ℕ → Type 0) (journal : JournalValue) (old : Told) (b after' : Rebuilt) (n : ℕ) (d : Durable Tagged) (effect : Effect Tagged) (u : StandsUnsure journal old b after' n d effect) : Type 0 where
  pub waits : (image : List ℕ) → P image → IsPending (commit_place journal.shape journal.seat u.stands.doubt) u.old u.new (closed_after journal.is_closed u.stands.doubt) image
  pub before : (image : List ℕ) → P image → recovered image b ≡ d
  pub landing : (image : List ℕ) → P image → recovered image after' ≡ changed 2 d effect

module _ (laws : MirrorFoundations) (old new : Told) (is : IsLater old new) (P : List ℕ → Type 0) (now : Now new P) (crash : Leaves old new P)
    (first : Durable Tagged) (from t0 : ℕ) (journal : JournalValue) (b after' : Rebuilt) (taken : List Took) where
  abbrev n : ℕ
  n = from + length taken

  abbrev d : Durable Tagged
  d = kept_after first (effects_of taken)

  gives_on : (r : Journal) (x : Rebuilt) (m : ℕ) (e : Durable Tagged) → Gives old r x m e → ((image : List ℕ) → P image → recovered image x ≡ e) → Gives new r x m e
  gives_on r x m e gives fills = record { rebuilds = gives.rebuilds; version = gives.version; form = gives.form; fills = λ image left. fills image (now image left) }

  means_on : (r : Journal) (x : Rebuilt) (m : ℕ) (e : Durable Tagged) → Gives old r x m e → ((image : List ℕ) → P image → recovered image x ≡ e) → (image : List ℕ) → P image → Reads image r → IsMirrored image e m
  means_on r x m e gives fills image p reads = means laws image r x m e reads gives.version gives.rebuilds (fills image p)

  kept_sure : (held : IsHeld first from t0 journal old b after' taken None) → KeepsSure P journal held.stands.reading b d → IsHeld first from t0 journal new b after' taken None
  kept_sure held keeps =
      let u = held.stands in
      record {
        stands = record {
          reading = u.reading;
          stands = record { at = u.stands.at; sure = u.stands.sure; each = λ image left. keeps.reads image (now image left) };
          gives = gives_on u.reading b n d u.gives keeps.fills;
        };
        held = record {
          each = left_moved first from t0 taken (effects_of taken) (effects_of taken) old new P held.past is.later crash held.held.each (λ k image at. at)
              (λ k image le p. has_last first from taken k image le (means_on u.reading b n d u.gives keeps.fills image p (keeps.reads image p).0));
        };
        past = past_moved first from t0 taken (effects_of taken) (effects_of taken) old new P held.past is.later crash;
      }

  module _ (effect : Effect Tagged) (held : IsHeld first from t0 journal old b after' taken (Some effect)) (keeps : KeepsUnsure P journal old b after' n d effect held.stands) where
    abbrev u : StandsUnsure journal old b after' n d effect
    u = held.stands

    abbrev both : List (Effect Tagged)
    both = with_doubt (Some effect) taken

    either_on : (k : ℕ) (image : List ℕ) → k ≤ length taken → P image → HasFrom first from both k image
    either_on k image le p =
        let goal : HasFrom first from both k image =
        ⊎_elim (λ reads. has_old first from taken effect k image le (means_on (u).old b n d (u).before keeps.before image p reads))
        (λ reads. has_new first from taken effect k image (omega (arith, le)) (means_on (u).new after' (n + 1) (changed 2 d effect) (u).landing keeps.landing image p reads))
        (laws.below.either (commit_place journal.shape journal.seat (u).stands.doubt) (u).old (u).new (closed_after journal.is_closed (u).stands.doubt) image (keeps.waits image p))
        in goal

    kept_unsure : IsHeld first from t0 journal new b after' taken (Some effect)
    kept_unsure = record {
      stands = record {
        old = (u).old;
        new = (u).new;
        stands = record {
          doubt = (u).stands.doubt;
          unsure = (u).stands.unsure;
          ready = record { at = (u).stands.ready.at; next = (u).stands.ready.next; each = λ image left. keeps.waits image (now image left) };
        };
        before = gives_on (u).old b n d (u).before keeps.before;
        landing = gives_on (u).new after' (n + 1) (changed 2 d effect) (u).landing keeps.landing;
      };
      held = record { each = left_moved first from t0 taken both both old new P held.past is.later crash held.held.each (λ k image at. at) either_on };
      past = past_moved first from t0 taken both both old new P held.past is.later crash;
    }

-- ---- calls that change nothing

module _ (laws : MirrorFoundations) (old new : Told) (is : IsLater old new) (still : Still old new) (first : Durable Tagged) (from t0 : ℕ) (journal : JournalValue) (b after' : Rebuilt) (taken : List Took) where
  abbrev L : List ℕ → Type 0
  L image = old.may_leave old.calls image

  looked : (doubt : Option (Effect Tagged)) → IsHeld first from t0 journal old b after' taken doubt → IsHeld first from t0 journal new b after' taken doubt
  looked None held = kept_sure laws old new is L still.now still.crash first from t0 journal b after' taken held (record { reads = held.stands.stands.each; fills = held.stands.gives.fills })
  looked (Some effect) held =
      kept_unsure laws old new is L still.now still.crash first from t0 journal b after' taken effect held
      (record { waits = held.stands.stands.ready.each; before = held.stands.before.fills; landing = held.stands.landing.fills })

pub looks_carry : MirrorFoundations → (old new : Told) → LooksCarry old new
looks_carry laws old new = record { looked = λ first from t0 journal b after' taken doubt is held still. looked laws old new is still first from t0 journal b after' taken doubt held }

-- ---- writes into consecutive blocks that have no place

module _ (laws : MirrorFoundations) (old new : Told) (journal : JournalValue) (address count m : ℕ) (fits : m ≤ count * journal.shape.block) (wrote : WritesWithin (block_place journal.shape address) m old new) where
  abbrev W : List ℕ → Type 0
  W = IsTorn (block_place journal.shape address) m old

  -- an image that agrees outside them is filled as the other
  fills_apart : (r : Journal) (b : Rebuilt) (n : ℕ) (d : Durable Tagged) → journal.shape ≡ r.shape → Gives old r b n d → AreFree address count b → (image : List ℕ) → W image → recovered image b ≡ d
  fills_apart r b n d in_shape gives free image torn =
      let v = laws.valid.valid r b n gives.rebuilds in
      let same : journal.shape ≡ b.shape = in_shape ∙ sym v.3 in
      laws.below.alike.blocks b torn.0 image v.1
      (laws.below.alike.free b torn.0 image address count m free (subst (λ (x : Shape). m ≤ count * x.block) same fits) (subst (λ (x : Shape). AgreesOutside (block_place x address) m torn.0 image) same torn.2))
      ∙ gives.fills torn.0 torn.1

  written : (first : Durable Tagged) (from t0 : ℕ) (b after' : Rebuilt) (taken : List Took) (is : IsLater old new) → AreFree address count b
      → (doubt : Option (Effect Tagged)) → IsHeld first from t0 journal old b after' taken doubt → (is_some doubt ≡ true → AreFree address count after') → IsHeld first from t0 journal new b after' taken doubt
  written first from t0 b after' taken is free None held free_then =
      let u = held.stands in
      kept_sure laws old new is W wrote.now wrote.crash first from t0 journal b after' taken held
      (record {
        reads = λ image torn. sure_kept laws.below journal address m old u.reading u.stands torn.0 image torn.1 torn.2;
        fills = fills_apart u.reading b (from + length taken) (kept_after first (effects_of taken)) u.stands.at.shape_is u.gives free;
      })
  written first from t0 b after' taken is free (Some effect) held free_then =
      let u = held.stands in
      kept_unsure laws old new is W wrote.now wrote.crash first from t0 journal b after' taken effect held
      (record {
        waits = λ image torn. pending_kept laws.below journal address m old u.stands.doubt u.old u.new u.stands.ready torn.0 image torn.1 torn.2;
        before = fills_apart u.old b (from + length taken) (kept_after first (effects_of taken)) u.stands.ready.at.shape_is u.before free;
        landing = fills_apart u.new after' (from + length taken + 1) (changed 2 (kept_after first (effects_of taken)) effect) u.stands.ready.next.shape_is u.landing (free_then refl);
      })

-- ---- writes into any blocks that have no place

module _ (laws : MirrorFoundations) (old new : Told) (journal : JournalValue) where
  begins : (r : Journal) → journal.shape ≡ r.shape → data_start r.shape ≤ data_start journal.shape
  begins r shape = subst (λ (x : Shape). data_start x ≤ data_start journal.shape) shape (omega arith)

  -- such an image reads as before
  reads_spared : (r : Journal) (x : Rebuilt) → Stands journal old r → (image : List ℕ) → IsSpared journal.shape x old image → Reads image r × OtherIs journal.is_closed r image
  reads_spared r x stands image spared =
      laws.below.apart.sure journal.is_closed spared.0 image r (data_start journal.shape) (journal.shape.block * journal.shape.blocks) (begins r stands.at.shape_is) spared.2.apart (stands.each spared.0 spared.1)

  waits_spared : (r s : Journal) (x : Rebuilt) (u : StandsInDoubt journal old r s) (image : List ℕ) → IsSpared journal.shape x old image
      → IsPending (commit_place journal.shape journal.seat u.doubt) r s (closed_after journal.is_closed u.doubt) image
  waits_spared r s x u image spared =
      let place = commit_place journal.shape journal.seat u.doubt in
      let closed = closed_after journal.is_closed u.doubt in
      let was = u.ready.each spared.0 spared.1 in
      let within = place_within journal.shape journal.seat u.doubt spared.0 r s u.ready.at u.ready.next (laws.below.either place r s closed spared.0 was) in
      laws.below.apart.unsure closed place spared.0 image r s (data_start journal.shape) (journal.shape.block * journal.shape.blocks)
      (begins r u.ready.at.shape_is) (begins s u.ready.next.shape_is) (omega (arith, within.0)) (omega (arith, within.0, within.1)) spared.2.apart was

  -- and is filled as before
  fills_spared : (r : Journal) (x : Rebuilt) (n : ℕ) (d : Durable Tagged) → Gives old r x n d → (image : List ℕ) → IsSpared journal.shape x old image → recovered image x ≡ d
  fills_spared r x n d gives image spared = laws.below.alike.blocks x spared.0 image (laws.valid.valid r x n gives.rebuilds).1 spared.2.places ∙ gives.fills spared.0 spared.1

  -- what a crash within the writes leaves lies outside the places before the landing, and behind it
  both_left : (x y : Rebuilt) → SparesWithin journal.shape x old new → SparesWithin journal.shape y old new → Leaves old new (λ image. IsSpared journal.shape x old image × IsSpared journal.shape y old image)
  both_left x y here there t image le left =
      ⊎_elim (λ was. inl was) (λ (one : IsSpared journal.shape x old image). ⊎_elim (λ was. inl was) (λ (two : IsSpared journal.shape y old image). inr (one, two)) (there.crash t image le left)) (here.crash t image le left)

  spared_by : (first : Durable Tagged) (from t0 : ℕ) (b after' : Rebuilt) (taken : List Took) (is : IsLater old new) → SparesWithin journal.shape b old new
      → (doubt : Option (Effect Tagged)) → IsHeld first from t0 journal old b after' taken doubt → (is_some doubt ≡ true → SparesWithin journal.shape after' old new) → IsHeld first from t0 journal new b after' taken doubt
  spared_by first from t0 b after' taken is spares None held then =
      let u = held.stands in
      kept_sure laws old new is (IsSpared journal.shape b old) spares.now spares.crash first from t0 journal b after' taken held
      (record { reads = reads_spared u.reading b u.stands; fills = fills_spared u.reading b (from + length taken) (kept_after first (effects_of taken)) u.gives })
  spared_by first from t0 b after' taken is spares (Some effect) held then =
      let u = held.stands in
      kept_unsure laws old new is (λ image. IsSpared journal.shape b old image × IsSpared journal.shape after' old image) (λ image left. (spares.now image left, (then refl).now image left)) (both_left b after' spares (then refl))
      first from t0 journal b after' taken effect held
      (record {
        waits = λ image spared. waits_spared u.old u.new b u.stands image spared.0;
        before = λ image spared. fills_spared u.old b (from + length taken) (kept_after first (effects_of taken)) u.before image spared.0;
        landing = λ image spared. fills_spared u.new after' (from + length taken + 1) (changed 2 (kept_after first (effects_of taken)) effect) u.landing image spared.1;
      })

pub writes_carry : MirrorFoundations → (old new : Told) → WritesCarry old new
writes_carry laws old new = record {
  wrote = λ first from t0 journal b after' taken doubt address count m is held fits wrote free free_then. written laws old new journal address count m fits wrote first from t0 b after' taken is free doubt held free_then;
  spared = λ first from t0 journal b after' taken doubt is held spares then. spared_by laws old new journal first from t0 b after' taken is spares doubt held then;
}
