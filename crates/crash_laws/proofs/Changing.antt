-- A change of the journal, whether it appends or switches: done, in doubt, or failed before it counted.
use Rattle.std.proofs.Common.{◌≡◌, ◌⊎◌, inl, inr, ⊎_elim, ℕ, List, [], ◌∷◌, ◌++◌, true, Option, Some, None, is_some, sym, ◌∙◌, ap, subst}
use Rattle.voice_outside.specs.Disk.{Told, Now, Leaves}
use Rattle.disk_areas.specs.Areas.{Journal}
use Rattle.voice_journal.specs.Readings.{Reads, SameElsewhere, Without, Within}
use Rattle.voice_journal.specs.Places.{JournalValue, commit_place, closed_after}
use Rattle.voice_journal.specs.Stands.{Stands, StandsInDoubt}
use Rattle.voice_model.specs.Samples.{Tagged}
use Rattle.voice_model.specs.State.{State, Durable, Pending}
use Rattle.voice_model.specs.Step.{state_after, after, landed}
use Rattle.voice_model.specs.Replay.{Rebuilt, recovered}
use Rattle.voice_model.specs.declared.calls.Entry.{Entry}
use Rattle.journal_readings.specs.Readings.{Rebuild}
use Rattle.crash_laws.specs.Standing.{Gives, StandsSure, StandsUnsure, StandsBy, IsLater, IsHeld}
use Rattle.crash_laws.specs.Calls.{KeepsDurable, Undoes}
use Rattle.crash_laws.specs.Foundations.{Foundations}
use Rattle.crash_laws.specs.Laws.{FailuresCarry}
use Rattle.crash_laws.proofs.Histories.{Recovers, RecoversDoubt}
use Rattle.crash_laws.proofs.Near.{gives_as, shape_is, recovers, fills_same, gives_moved, recovers_near, within_near}
use Rattle.crash_laws.proofs.Pushing.{pushed}
use Rattle.crash_laws.proofs.Opened.{sure_of}

-- where nothing is in doubt, none of it is recovered
pub no_doubt : (s : State) → s.doubt ≡ None → (image : List ℕ) → RecoversDoubt image s → ⊥
no_doubt s none image doubt = let none_here : Option Pending = None in let both : is_some none_here ≡ true = ap (λ (o : Option Pending). is_some o) (sym none) ∙ doubt.0 in cc

-- an image in doubt reads as before or as after
pub either_way : Foundations → (journal : JournalValue) (disk : Told) (r s : Journal) → StandsInDoubt journal disk r s → (image : List ℕ) → disk.may_leave disk.calls image → Reads image r ⊎ Reads image s
either_way laws journal disk r s stands image left =
    laws.either (commit_place journal.shape journal.seat stands.doubt) r s (closed_after journal.is_closed stands.doubt) image (stands.ready.each image left)

module _ (laws : Foundations) (first : State) (tapes : List (List ℕ)) (t0 : ℕ) (journal journal' : JournalValue) (old new : Told) (b after' : Rebuilt) (history : List Entry) (e : Entry)
    (is : IsLater old new) (held : IsHeld first tapes t0 journal old b after' history) (none : (after first tapes history).doubt ≡ None) (ack : e.ack ≡ new.calls) where
  abbrev last : State
  last = after first tapes history

  abbrev next : State
  next = state_after last tapes e

  abbrev IsNext : List ℕ → Type 0
  IsNext image = Recovers image next.kept ⊎ RecoversDoubt image next

  pub sure : StandsSure journal old b last
  sure = sure_of journal old b after' last last.doubt none held.stands

  -- ---- a change that failed before it counted

  module _ (same : KeepsDurable last next) (undoes : Undoes journal journal' old new) where
    abbrev u : StandsSure journal old b last
    u = sure

    abbrev leaves : Leaves old new (Without u.reading old)
    leaves = (undoes u.reading u.stands).1

    gives_next : Gives new u.reading b next
    gives_next = gives_as new u.reading b last next same.kept same.form (gives_moved laws old new is u.reading b last u.gives (Without u.reading old) leaves (λ image w. w.1))

    now_next : Now new IsNext
    now_next image left = inl (recovers laws image u.reading b next.kept ((undoes u.reading u.stands).0.each image left).0 gives_next.rebuilds (gives_next.fills image left))

    pub failed : IsHeld first tapes t0 journal' new b b (history ++ e ∷ [])
    failed =
        pushed first tapes t0 journal journal' old new b after' b b history is held (Without u.reading old) leaves e ack
        (λ image doubt. absurd (no_doubt last none image doubt))
        (λ image w. inl (recovers_near laws old new is u.reading b last u.gives image w.0 w.1))
        now_next
        (subst (λ (o : Option Pending). StandsBy o journal' new b b next) (sym (same.doubt ∙ none)) (record { reading = u.reading; stands = (undoes u.reading u.stands).0; gives = gives_next }))

  -- ---- a change that makes the journal read as s, which rebuilds x

  module _ (s : Journal) (x : Rebuilt) (d : Durable Tagged) (rebuilds : Rebuild s x) (shape : s.shape ≡ (sure).reading.shape) (fills : recovered old.bytes x ≡ d)
      (leaves : Leaves old new (Within (sure).reading s old)) (settled : Now new (SameElsewhere (sure).reading.shape old.bytes)) where
    abbrev r : Journal
    r = (sure).reading

    in_shape : x.shape ≡ r.shape
    in_shape = shape_is laws s x rebuilds ∙ shape

    -- an image that reads as s is filled to the new durable part
    recovers_new : (image : List ℕ) → Reads image s → SameElsewhere r.shape old.bytes image → Recovers image d
    recovers_new image reads same = recovers laws image s x d reads rebuilds (fills_same laws old new is r.shape x d in_shape fills image same)

    -- one that reads as before, to the old one
    recovers_old : (image : List ℕ) → Reads image r → SameElsewhere r.shape old.bytes image → Recovers image last.kept
    recovers_old image reads same = recovers_near laws old new is r b last (sure).gives image reads (old.bytes, is.was.present, same)

    gives_new : (t : State) → d ≡ t.kept → x.form ≡ t.form → Gives new s x t
    gives_new t kept form = record { rebuilds = rebuilds; form = form; fills = λ image left. fills_same laws old new is r.shape x d in_shape fills image (settled image left) ∙ kept }

    -- that was done
    module _ (stands : Stands journal' new s) (kept : next.kept ≡ d) (doubt : next.doubt ≡ None) (form : x.form ≡ next.form) where
      is_next : (image : List ℕ) → Recovers image d → IsNext image
      is_next image rec = inl (rec ∙ ap Some (sym kept))

      within : (image : List ℕ) → Within r s old image → Recovers image last.kept ⊎ IsNext image
      within image (inl w) = inl (recovers_near laws old new is r b last (sure).gives image w.0 w.1)
      within image (inr w) = inr (is_next image (recovers_new image w.0 w.1))

      pub done : IsHeld first tapes t0 journal' new x x (history ++ e ∷ [])
      done =
          pushed first tapes t0 journal journal' old new b after' x x history is held (Within r s old) leaves e ack
          (λ image doubted. absurd (no_doubt last none image doubted))
          within
          (λ image left. is_next image (recovers_new image (stands.each image left).0 (settled image left)))
          (subst (λ (o : Option Pending). StandsBy o journal' new x x next) (sym doubt) (record { reading = s; stands = stands; gives = gives_new next (sym kept) form }))

    -- that is in doubt
    module _ (pending : Pending) (stands : StandsInDoubt journal' new r s) (same : next.kept ≡ last.kept) (same_form : next.form ≡ last.form) (doubt : next.doubt ≡ Some pending)
        (kept : (landed next).kept ≡ d) (form : x.form ≡ (landed next).form) where
      abbrev some : is_some next.doubt ≡ true
      some = ap (λ (o : Option Pending). is_some o) doubt

      before_it : (image : List ℕ) → Recovers image last.kept → IsNext image
      before_it image rec = inl (rec ∙ ap Some (sym same))

      after_it : (image : List ℕ) → Recovers image d → IsNext image
      after_it image rec = inr (some, rec ∙ ap Some (sym kept))

      doubted_now : Now new IsNext
      doubted_now image left =
          ⊎_elim (λ reads. before_it image (recovers_old image reads (settled image left))) (λ reads. after_it image (recovers_new image reads (settled image left)))
          (either_way laws journal' new r s stands image left)

      doubted_within : (image : List ℕ) → Within r s old image → Recovers image last.kept ⊎ IsNext image
      doubted_within image (inl w) = inl (recovers_near laws old new is r b last (sure).gives image w.0 w.1)
      doubted_within image (inr w) = inr (after_it image (recovers_new image w.0 w.1))

      unsure : StandsUnsure journal' new b x next
      unsure = record {
        old = r;
        new = s;
        stands = stands;
        before = gives_as new r b last next same same_form (gives_moved laws old new is r b last (sure).gives (Within r s old) leaves (within_near laws old new is r s));
        landing = gives_new (landed next) (sym kept) form;
      }

      pub doubted : IsHeld first tapes t0 journal' new b x (history ++ e ∷ [])
      doubted =
          pushed first tapes t0 journal journal' old new b after' b x history is held (Within r s old) leaves e ack
          (λ image doubted_before. absurd (no_doubt last none image doubted_before))
          doubted_within
          doubted_now
          (subst (λ (o : Option Pending). StandsBy o journal' new b x next) (sym doubt) unsure)

pub failures_carry : Foundations → (old new : Told) → FailuresCarry old new
failures_carry laws old new = record {
  before = λ first tapes t0 journal journal' b after' history e is held none undoes ack same.
      failed laws first tapes t0 journal journal' old new b after' history e is held none ack same undoes;
}
