-- Writes into blocks that have no place.
use Rattle.std.proofs.Common.{◌≡◌, ◌⊎◌, inl, inr, ⊎_elim, ℕ, ◌*◌, ◌≤◌, List, length, true, Option, Some, None, is_some, refl, sym, ◌∙◌, ap, subst, arith}
use Rattle.std.specs.Prelude.{Result}
use Rattle.voice_outside.specs.Disk.{Told, Leaves, IsTorn, WritesAt}
use Rattle.disk_areas.specs.Areas.{Journal}
use Rattle.voice_units.specs.declared.shapes.Shape.{Shape}
use Rattle.voice_journal.specs.Readings.{Reads, OtherIs, IsPending, data_start}
use Rattle.voice_journal.specs.Stands.{IsReady}
use Rattle.voice_journal.specs.declared.seats.Doubt.{Doubt}
use Rattle.voice_journal.specs.Places.{JournalValue, commit_place, closed_after}
use Rattle.voice_blocks.specs.Place.{block_place}
use Rattle.voice_model.specs.State.{State, Pending}
use Rattle.voice_model.specs.Step.{after, landed}
use Rattle.voice_model.specs.Replay.{Rebuilt, recovered}
use Rattle.voice_model.specs.declared.calls.Entry.{Entry}
use Rattle.crash_laws.specs.Standing.{Gives, StandsSure, StandsUnsure, StandsBy, IsLater, IsHeld}
use Rattle.crash_laws.specs.Calls.{WritesWithin, IsSpared, SparesWithin, AreFree}
use Rattle.crash_laws.specs.Foundations.{Foundations}
use Rattle.crash_laws.specs.Laws.{WritesCarry}
use Rattle.crash_laws.proofs.Histories.{Recovers, RecoversFrom}
use Rattle.crash_laws.proofs.Near.{recovers}
use Rattle.crash_laws.proofs.Pushing.{at_last, moved}
use Rattle.crash_laws.proofs.Blocks.{place_within, sure_kept, pending_kept, spared}

-- a write of the disk is within its range
pub writes_within : {T E : Type 0} (at : ℕ) (bytes : List ℕ) (old new : Told) (result : Result T E) → WritesAt at bytes old new result → WritesWithin at (length bytes) old new
writes_within at bytes old new result writes = record { now = writes.now; crash = writes.time.since }

module _ (laws : Foundations) (old new : Told) (journal : JournalValue) (address count n : ℕ) (fits : n ≤ count * journal.shape.block) (wrote : WritesWithin (block_place journal.shape address) n old new) where
  abbrev P : List ℕ → Type 0
  P = IsTorn (block_place journal.shape address) n old

  -- how one reading's images are filled
  module _ (r : Journal) (b : Rebuilt) (s : State) (shape : journal.shape ≡ r.shape) (gives : Gives old r b s) (free : AreFree address count b) where
    gives_spared : Gives new r b s
    gives_spared = record {
      rebuilds = gives.rebuilds;
      form = gives.form;
      fills = λ image left. let torn = wrote.now image left in spared laws journal.shape address count n fits r b shape gives.rebuilds free torn.0 image torn.2 ∙ gives.fills torn.0 torn.1;
    }

    recovers_spared : (image : List ℕ) → P image → Reads image r → Recovers image s.kept
    recovers_spared image torn reads =
        recovers laws image r b s.kept reads gives.rebuilds (spared laws journal.shape address count n fits r b shape gives.rebuilds free torn.0 image torn.2 ∙ gives.fills torn.0 torn.1)

  -- nothing is in doubt
  module _ (b : Rebuilt) (s : State) (stands : StandsSure journal old b s) (free : AreFree address count b) where
    sure_written : StandsSure journal new b s
    sure_written = record {
      reading = stands.reading;
      stands = record {
        at = stands.stands.at;
        sure = stands.stands.sure;
        each = λ image left. let torn = wrote.now image left in sure_kept laws journal address n old stands.reading stands.stands torn.0 image torn.1 torn.2;
      };
      gives = gives_spared stands.reading b s stands.stands.at.shape_is stands.gives free;
    }

    sure_recovers : (image : List ℕ) → P image → Recovers image s.kept
    sure_recovers image torn =
        recovers_spared stands.reading b s stands.stands.at.shape_is stands.gives free image torn (sure_kept laws journal address n old stands.reading stands.stands torn.0 image torn.1 torn.2).0

  -- a change is
  module _ (b after' : Rebuilt) (s : State) (stands : StandsUnsure journal old b after' s) (free : AreFree address count b) (free_then : AreFree address count after') where
    unsure_written : StandsUnsure journal new b after' s
    unsure_written = record {
      old = stands.old;
      new = stands.new;
      stands = record {
        doubt = stands.stands.doubt;
        unsure = stands.stands.unsure;
        ready = record {
          at = stands.stands.ready.at;
          next = stands.stands.ready.next;
          each = λ image left. let torn = wrote.now image left in pending_kept laws journal address n old stands.stands.doubt stands.old stands.new stands.stands.ready torn.0 image torn.1 torn.2;
        };
      };
      before = gives_spared stands.old b s stands.stands.ready.at.shape_is stands.before free;
      landing = gives_spared stands.new after' (landed s) stands.stands.ready.next.shape_is stands.landing free_then;
    }

    unsure_recovers : (image : List ℕ) → P image → Recovers image s.kept ⊎ Recovers image (landed s).kept
    unsure_recovers image torn =
        let doubt = stands.stands.doubt in
        let goal : Recovers image s.kept ⊎ Recovers image (landed s).kept =
        ⊎_elim (λ reads. inl (recovers_spared stands.old b s stands.stands.ready.at.shape_is stands.before free image torn reads))
        (λ reads. inr (recovers_spared stands.new after' (landed s) stands.stands.ready.next.shape_is stands.landing free_then image torn reads))
        (laws.either (commit_place journal.shape journal.seat doubt) stands.old stands.new (closed_after journal.is_closed doubt) image
        (pending_kept laws journal address n old doubt stands.old stands.new stands.stands.ready torn.0 image torn.1 torn.2))
        in goal

  module _ (first : State) (tapes : List (List ℕ)) (t0 : ℕ) (b after' : Rebuilt) (history : List Entry)
      (is : IsLater old new) (held : IsHeld first tapes t0 journal old b after' history) (free : AreFree address count b) where
    abbrev last : State
    last = after first tapes history

    written_by : (o : Option Pending) → last.doubt ≡ o → StandsBy o journal old b after' last → (is_some o ≡ true → AreFree address count after') → IsHeld first tapes t0 journal new b after' history
    written_by None none stands free_then =
        moved first tapes t0 journal journal old new b after' b after' history is held P wrote.crash
        (λ k image le torn. at_last first tapes t0 journal journal old new b after' b after' history is held P wrote.crash k image le (sure_recovers b last stands free image torn))
        (subst (λ (o : Option Pending). StandsBy o journal new b after' last) (sym none) (sure_written b last stands free))
    written_by (Some pending) doubt stands free_then =
        moved first tapes t0 journal journal old new b after' b after' history is held P wrote.crash
        (λ k image le torn. let goal : RecoversFrom first tapes history k image =
        ⊎_elim (λ rec. at_last first tapes t0 journal journal old new b after' b after' history is held P wrote.crash k image le rec)
        (λ rec. inr (ap (λ (o : Option Pending). is_some o) doubt, rec)) (unsure_recovers b after' last stands free (free_then refl) image torn) in goal)
        (subst (λ (o : Option Pending). StandsBy o journal new b after' last) (sym doubt) (unsure_written b after' last stands free (free_then refl)))

-- ---- writes into any blocks that have no place

module _ (laws : Foundations) (old new : Told) (journal : JournalValue) (b : Rebuilt) (spares : SparesWithin journal.shape b old new) where
  abbrev S : List ℕ → Type 0
  S = IsSpared journal.shape b old

  begins : (r : Journal) → journal.shape ≡ r.shape → data_start r.shape ≤ data_start journal.shape
  begins r shape = subst (λ (x : Shape). data_start x ≤ data_start journal.shape) shape (omega arith)

  module _ (s : State) (stands : StandsSure journal old b s) where
    reads_on : (image : List ℕ) → S image → Reads image stands.reading × OtherIs journal.is_closed stands.reading image
    reads_on image spared =
        laws.apart.sure journal.is_closed spared.0 image stands.reading (data_start journal.shape) (journal.shape.block * journal.shape.blocks)
        (begins stands.reading stands.stands.at.shape_is) spared.2.apart (stands.stands.each spared.0 spared.1)

    fills_on : (image : List ℕ) → S image → recovered image b ≡ s.kept
    fills_on image spared = laws.alike.blocks b spared.0 image (laws.valid.valid stands.reading b stands.gives.rebuilds).1 spared.2.places ∙ stands.gives.fills spared.0 spared.1

    sure_spared : StandsSure journal new b s
    sure_spared = record {
      reading = stands.reading;
      stands = record { at = stands.stands.at; sure = stands.stands.sure; each = λ image left. reads_on image (spares.now image left) };
      gives = record { rebuilds = stands.gives.rebuilds; form = stands.gives.form; fills = λ image left. fills_on image (spares.now image left) };
    }

    spared_recovers : (image : List ℕ) → S image → Recovers image s.kept
    spared_recovers image spared = recovers laws image stands.reading b s.kept (reads_on image spared).0 stands.gives.rebuilds (fills_on image spared)

  -- a change is
  module _ (after' : Rebuilt) (s : State) (stands : StandsUnsure journal old b after' s) (then : SparesWithin journal.shape after' old new) where
    abbrev pending : Doubt
    pending = stands.stands.doubt

    abbrev ready : IsReady journal pending old stands.old stands.new
    ready = stands.stands.ready

    abbrev U : List ℕ → Type 0
    U image = S image × IsSpared journal.shape after' old image

    -- what a crash within the writes leaves lies outside the places before the landing, and behind it
    both_left : Leaves old new U
    both_left t image le left =
        ⊎_elim (λ was. inl was) (λ (here : S image). ⊎_elim (λ was. inl was) (λ (there : IsSpared journal.shape after' old image). inr (here, there)) (then.crash t image le left)) (spares.crash t image le left)

    waits_on : (image : List ℕ) → S image → IsPending (commit_place journal.shape journal.seat pending) stands.old stands.new (closed_after journal.is_closed pending) image
    waits_on image spared =
        let was = ready.each spared.0 spared.1 in
        let place = place_within journal.shape journal.seat pending spared.0 stands.old stands.new ready.at ready.next
        (laws.either (commit_place journal.shape journal.seat pending) stands.old stands.new (closed_after journal.is_closed pending) spared.0 was) in
        laws.apart.unsure (closed_after journal.is_closed pending) (commit_place journal.shape journal.seat pending) spared.0 image stands.old stands.new (data_start journal.shape)
        (journal.shape.block * journal.shape.blocks) (begins stands.old ready.at.shape_is) (begins stands.new ready.next.shape_is) (omega (arith, place.0)) (omega (arith, place.0, place.1)) spared.2.apart was

    before_on : (image : List ℕ) → S image → recovered image b ≡ s.kept
    before_on image spared = laws.alike.blocks b spared.0 image (laws.valid.valid stands.old b stands.before.rebuilds).1 spared.2.places ∙ stands.before.fills spared.0 spared.1

    landing_on : (image : List ℕ) → IsSpared journal.shape after' old image → recovered image after' ≡ (landed s).kept
    landing_on image spared = laws.alike.blocks after' spared.0 image (laws.valid.valid stands.new after' stands.landing.rebuilds).1 spared.2.places ∙ stands.landing.fills spared.0 spared.1

    unsure_spared : StandsUnsure journal new b after' s
    unsure_spared = record {
      old = stands.old;
      new = stands.new;
      stands = record {
        doubt = pending;
        unsure = stands.stands.unsure;
        ready = record { at = ready.at; next = ready.next; each = λ image left. waits_on image (spares.now image left) };
      };
      before = record { rebuilds = stands.before.rebuilds; form = stands.before.form; fills = λ image left. before_on image (spares.now image left) };
      landing = record { rebuilds = stands.landing.rebuilds; form = stands.landing.form; fills = λ image left. landing_on image (then.now image left) };
    }

    either_recovers : (image : List ℕ) → U image → Recovers image s.kept ⊎ Recovers image (landed s).kept
    either_recovers image spared =
        let goal : Recovers image s.kept ⊎ Recovers image (landed s).kept =
        ⊎_elim (λ reads. inl (recovers laws image stands.old b s.kept reads stands.before.rebuilds (before_on image spared.0)))
        (λ reads. inr (recovers laws image stands.new after' (landed s).kept reads stands.landing.rebuilds (landing_on image spared.1)))
        (laws.either (commit_place journal.shape journal.seat pending) stands.old stands.new (closed_after journal.is_closed pending) image (waits_on image spared.0))
        in goal

  module _ (first : State) (tapes : List (List ℕ)) (t0 : ℕ) (after' : Rebuilt) (history : List Entry) (is : IsLater old new) (held : IsHeld first tapes t0 journal old b after' history) where
    abbrev end : State
    end = after first tapes history

    spared_by : (o : Option Pending) → end.doubt ≡ o → StandsBy o journal old b after' end → (is_some o ≡ true → SparesWithin journal.shape after' old new) → IsHeld first tapes t0 journal new b after' history
    spared_by None none stands then =
        moved first tapes t0 journal journal old new b after' b after' history is held S spares.crash
        (λ k image le spared. at_last first tapes t0 journal journal old new b after' b after' history is held S spares.crash k image le (spared_recovers end stands image spared))
        (subst (λ (o : Option Pending). StandsBy o journal new b after' end) (sym none) (sure_spared end stands))
    spared_by (Some pending) doubt stands then =
        let both = both_left after' end stands (then refl) in
        moved first tapes t0 journal journal old new b after' b after' history is held (U after' end stands (then refl)) both
        (λ k image le spared. let goal : RecoversFrom first tapes history k image =
        ⊎_elim (λ rec. at_last first tapes t0 journal journal old new b after' b after' history is held (U after' end stands (then refl)) both k image le rec)
        (λ rec. inr (ap (λ (o : Option Pending). is_some o) doubt, rec)) (either_recovers after' end stands (then refl) image spared) in goal)
        (subst (λ (o : Option Pending). StandsBy o journal new b after' end) (sym doubt) (unsure_spared after' end stands (then refl)))

pub writes_carry : Foundations → (old new : Told) → WritesCarry old new
writes_carry laws old new = record {
  wrote = λ first tapes t0 journal b after' history address count n is held fits wrote free free_then.
      written_by laws old new journal address count n fits wrote first tapes t0 b after' history is held free (after first tapes history).doubt refl held.stands free_then;
  spared = λ first tapes t0 journal b after' history is held spares then.
      spared_by laws old new journal b spares first tapes t0 after' history is held (after first tapes history).doubt refl held.stands then;
}
