-- Entries that make no call of the disk, and calls of the disk that change nothing.
use Rattle.std.proofs.Common.{◌≡◌, ◌⊎◌, inl, inr, ℕ, List, [], ◌∷◌, ◌++◌, length, take, Option, Some, None, is_some, sym, ◌∙◌, ap, subst, arith}
use Rattle.std.specs.Prelude.{Result}
use Rattle.voice_outside.specs.Disk.{Told, Now, ReadsAt, Syncs}
use Rattle.disk_areas.specs.Areas.{Journal}
use Rattle.voice_journal.specs.Places.{JournalValue}
use Rattle.voice_journal.specs.Looks.{Still}
use Rattle.voice_model.specs.State.{State, Pending}
use Rattle.voice_model.specs.Step.{state_after, after, landed}
use Rattle.voice_model.specs.Replay.{Rebuilt}
use Rattle.voice_model.specs.Crash.{moment_of}
use Rattle.voice_model.specs.declared.calls.Entry.{Entry}
use Rattle.crash_laws.specs.Standing.{Gives, StandsBy, IsHonest, IsHeld}
use Rattle.crash_laws.specs.Calls.{KeepsDurable}
use Rattle.crash_laws.specs.Laws.{EntriesCount, LooksCarry}
use Rattle.crash_laws.proofs.Histories.{kept_end, Recovers, RecoversDoubt, RecoversFrom, parted}
use Rattle.crash_laws.proofs.Landed.{landed_kept, landed_form}
use Rattle.crash_laws.proofs.Near.{gives_as}
use Rattle.crash_laws.proofs.Pushing.{moved, pushed}

-- ---- entries

stands_by : (journal : JournalValue) (disk : Told) (b after' : Rebuilt) (s t : State) → KeepsDurable s t → (o : Option Pending) → StandsBy o journal disk b after' s → StandsBy o journal disk b after' t
stands_by journal disk b after' s t same None stands = record { reading = stands.reading; stands = stands.stands; gives = gives_as disk stands.reading b s t same.kept same.form stands.gives }
stands_by journal disk b after' s t same (Some pending) stands = record {
  old = stands.old;
  new = stands.new;
  stands = stands.stands;
  before = gives_as disk stands.old b s t same.kept same.form stands.before;
  landing = gives_as disk stands.new after' (landed s) (landed t) (landed_kept s t same) (landed_form s t same) stands.landing;
}

-- a state that keeps the same stands where the other does
pub stands_as : (journal : JournalValue) (disk : Told) (b after' : Rebuilt) (s t : State) → KeepsDurable s t → StandsBy s.doubt journal disk b after' s → StandsBy t.doubt journal disk b after' t
stands_as journal disk b after' s t same stands = subst (λ (o : Option Pending). StandsBy o journal disk b after' t) (sym same.doubt) (stands_by journal disk b after' s t same s.doubt stands)

-- what is recovered of a state is recovered of one that keeps the same
pub doubt_as : (image : List ℕ) (s t : State) → KeepsDurable s t → RecoversDoubt image s → RecoversDoubt image t
doubt_as image s t same doubt = (ap (λ (o : Option Pending). is_some o) same.doubt ∙ doubt.0, doubt.1 ∙ ap Some (sym (landed_kept s t same)))

module _ (first : State) (tapes : List (List ℕ)) (t0 : ℕ) (journal : JournalValue) (disk : Told) (b after' : Rebuilt) (history : List Entry) (e : Entry)
    (honest : IsHonest disk) (held : IsHeld first tapes t0 journal disk b after' history) (ack : e.ack ≡ disk.calls) (same : KeepsDurable (after first tapes history) (state_after (after first tapes history) tapes e)) where
  abbrev last : State
  last = after first tapes history

  abbrev next : State
  next = state_after last tapes e

  abbrev IsNext : List ℕ → Type 0
  IsNext image = Recovers image next.kept ⊎ RecoversDoubt image next

  from_now : (image : List ℕ) → RecoversFrom first tapes history (length history) image → IsNext image
  from_now image (inl at) =
      let end : at.0 ≡ length history = omega (arith, at.1, at.2) in
      inl (at.3 ∙ ap Some (ap (λ (j : ℕ). (after first tapes (take j history)).kept) end ∙ kept_end first tapes history ∙ sym same.kept))
  from_now image (inr doubt) = inr (doubt_as image last next same doubt)

  now_next : Now disk IsNext
  now_next image left =
      let was = held.held.each (length history) image (omega arith) (honest.since (moment_of t0 history (length history)) disk.calls image (held.past (length history) (omega arith)) left) in
      from_now image (parted first tapes history (length history) image (omega arith) was)

  noted : IsHeld first tapes t0 journal disk b after' (history ++ e ∷ [])
  noted =
      pushed first tapes t0 journal journal disk disk b after' b after' history (record { later = omega arith; was = honest; is = honest }) held (λ image. ⊥) (λ t image le left. inl left) e ack
      (λ image doubt. inr (doubt_as image last next same doubt)) (λ image none. absurd none) now_next
      (stands_as journal disk b after' last next same held.stands)

pub entries_count : (disk : Told) → EntriesCount disk
entries_count disk = record { noted = λ first tapes t0 journal b after' history e honest held ack same. noted first tapes t0 journal disk b after' history e honest held ack same }

-- ---- calls that change nothing

pub still_read : {T E : Type 0} (at n : ℕ) (old new : Told) (into : List ℕ) (result : Result T E) → ReadsAt at n old new into result → Still old new
still_read at n old new into result reads = record { bytes = reads.bytes; now = reads.now; crash = reads.time.since }

pub still_synced : {T E : Type 0} (old new : Told) (result : Result T E) → Syncs old new result → Still old new
still_synced old new result syncs = record { bytes = syncs.bytes; now = syncs.now; crash = syncs.time.since }

gives_still : (old new : Told) → Still old new → (r : Journal) (b : Rebuilt) (s : State) → Gives old r b s → Gives new r b s
gives_still old new still r b s gives = record { rebuilds = gives.rebuilds; form = gives.form; fills = λ image left. gives.fills image (still.now image left) }

stands_still : (old new : Told) → Still old new → (journal : JournalValue) (b after' : Rebuilt) (s : State) (o : Option Pending) → StandsBy o journal old b after' s → StandsBy o journal new b after' s
stands_still old new still journal b after' s None stands = record {
  reading = stands.reading;
  stands = record { at = stands.stands.at; sure = stands.stands.sure; each = λ image left. stands.stands.each image (still.now image left) };
  gives = gives_still old new still stands.reading b s stands.gives;
}
stands_still old new still journal b after' s (Some pending) stands = record {
  old = stands.old;
  new = stands.new;
  stands = record {
    doubt = stands.stands.doubt;
    unsure = stands.stands.unsure;
    ready = record { at = stands.stands.ready.at; next = stands.stands.ready.next; each = λ image left. stands.stands.ready.each image (still.now image left) };
  };
  before = gives_still old new still stands.old b s stands.before;
  landing = gives_still old new still stands.new after' (landed s) stands.landing;
}

pub looks_carry : (old new : Told) → LooksCarry old new
looks_carry old new = record {
  looked = λ first tapes t0 journal b after' history is held still.
      moved first tapes t0 journal journal old new b after' b after' history is held (λ image. old.may_leave old.calls image) still.crash
      (λ k image le left. parted first tapes history k image le (held.held.each k image le (is.was.since (moment_of t0 history k) old.calls image (held.past k le) left)))
      (stands_still old new still journal b after' (after first tapes history) (after first tapes history).doubt held.stands);
}
