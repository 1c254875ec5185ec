-- A recording that only the journal may refuse: what it takes there.
use Rattle.std.proofs.Common.{◌≡◌, ℕ, false, List, length, Some, None, ◌∙◌, ap}
use Rattle.voice_units.specs.declared.pieces.Take.{Take}
use Rattle.voice_units.specs.declared.shapes.Shape.{Shape}
use Rattle.voice_outside.specs.Disk.{Told}
use Rattle.voice_model.specs.Samples.{Tagged}
use Rattle.voice_model.specs.State.{State, Effect}
use Rattle.voice_model.specs.Step.{refusal, is_journal_full, journal_full, when}
use Rattle.voice_model.specs.Tapes.{taken}
use Rattle.voice_model.specs.declared.calls.Call.TheVariants as calls
use Rattle.voice_model.specs.declared.calls.Why.TheVariants as why
use Rattle.edits.proofs.Refusals.{journal_last}
use Rattle.voice_store.specs.declared.inside.Inside.{Inside}
use Rattle.voice_store.specs.declared.ways.Way.{Way}
use Rattle.voice_store.specs.declared.ways.Way.TheVariants as ways
use Rattle.voice_store.specs.Stood.{ShowsState, last_of, tapes_of}
use Rattle.voice_store.specs.Ways.{IsWay}
use Rattle.voice_store.specs.Keeping.{MakesRecording, HasRoom, recorded_by}
use Rattle.voice_store.proofs.Recorded.{taken_many}
use Rattle.voice_store.proofs.Kept.{is_sure, not_full}
use Rattle.voice_store.proofs.Spare.{shows_state}

module _ (first : State) (t0 : ℕ) (disk : Told) (s : Inside) (take : Take) (h : MakesRecording first t0 disk s take) where
  abbrev last : State
  last = last_of first s

  abbrev bytes : List ℕ
  bytes = taken (tapes_of s) take

  abbrev effect : Effect Tagged
  effect = recorded_by last (tapes_of s) take

  pub many : length bytes ≡ take.len
  many = taken_many (tapes_of s) take h.has

  pub block_same : last.kept.shape.block ≡ s.journal.shape.block
  block_same = ap (λ (x : Shape). x.block) h.stood.upright.seated.shape

  pub shown : ShowsState s.parts last
  shown = shows_state first t0 disk s h.stood (is_sure first t0 disk s h.stood h.sure).in_state

  -- the journal refuses it
  pub recording_full : (need left : ℕ) → IsWay last effect (ways.Full need left) → refusal last (tapes_of s) (calls.Record take) ≡ Some (why.JournalFull need left)
  recording_full need left full =
      journal_last.late last (tapes_of s) (calls.Record take) h.unrefused ∙ ap (λ b. when b (journal_full last effect)) full.0 ∙ ap Some full.1

  pub recording_free : is_journal_full last effect ≡ false → refusal last (tapes_of s) (calls.Record take) ≡ None
  recording_free spare = journal_last.late last (tapes_of s) (calls.Record take) h.unrefused ∙ ap (λ b. when b (journal_full last effect)) spare

  pub has_room : (way : Way) → IsWay last effect way → ((need left : ℕ) → way ≡ ways.Full need left → ⊥) → HasRoom first t0 disk s take way
  has_room way goes other = record { makes = h; goes = goes; free = not_full last effect way goes other }
