-- An End that only the journal may refuse: what it takes there, and that it has blocks.
use Rattle.std.proofs.Common.{◌≡◌, inl, ℕ, ◌≤◌, ◌^◌, true, false, List, [], ◌∷◌, length, Option, Some, None, refl, sym, ◌∙◌, ap, subst}
use Rattle.std.specs.Prelude.{is_none, nat_lt}
use Rattle.std.proofs.lemmas.Bool.{ltb-false}
use Rattle.voice_units.specs.declared.shapes.Shape.{Shape}
use Rattle.voice_units.specs.Spots.{spots_from, pieces_of}
use Rattle.voice_units.specs.Blocks.{blocks_for}
use Rattle.voice_outside.specs.Disk.{Told}
use Rattle.voice_model.specs.Samples.{Tagged}
use Rattle.voice_model.specs.State.{State, Effect, lane_at}
use Rattle.voice_model.specs.Changes.{taking_of}
use Rattle.voice_model.specs.Replay.{all_differ}
use Rattle.voice_model.specs.Step.{refusal, is_journal_full, journal_full, when, last_rope, if_no_lane, if_not_recording, if_spent}
use Rattle.voice_model.specs.declared.calls.Call.TheVariants as calls
use Rattle.voice_model.specs.declared.calls.Why.{Why}
use Rattle.voice_model.specs.declared.calls.Why.TheVariants as why
use Rattle.voice_model.proofs.FitsOfCalls.{AllNone, all_none, not_when}
use Rattle.running_tables.specs.Running.{Runs, taken}
use Rattle.recovery.specs.declared.parts.Parts.{Parts}
use Rattle.next_ropes.specs.Addresses.{KeepsAddresses}
use Rattle.next_ropes.specs.Ready.{next_change}
use Rattle.next_ropes.specs.declared.NextRope.{NextRope}
use Rattle.open_recordings.specs.Ending.{IsEnding}
use Rattle.edits.proofs.Refusals.{journal_last}
use Rattle.voice_store.specs.declared.inside.Inside.{Inside}
use Rattle.voice_store.specs.declared.ways.Way.{Way}
use Rattle.voice_store.specs.declared.ways.Way.TheVariants as ways
use Rattle.voice_store.specs.Stood.{ShowsState, Stood, last_of, tapes_of}
use Rattle.voice_store.specs.Ways.{IsWay}
use Rattle.voice_store.specs.Ends.{EndsRecording, EndsSo, HoldsEnding, ended_by}
use Rattle.voice_store.proofs.Kept.{is_sure, same_number, not_full, upright_by, plays_by}
use Rattle.voice_store.proofs.Spare.{shows_state}
use Rattle.voice_store.proofs.Closing.{taken_at, open_blocks}

-- where nothing is in doubt, the next number of the tables is that of the state
pub next_same : (first : State) (t0 : ℕ) (disk : Told) (s : Inside) → Stood first t0 disk s → s.doubt ≡ None → s.parts.next ≡ (last_of first s).next
next_same first t0 disk s stood none = (is_sure first t0 disk s stood none).tables.kept.next ∙ same_number first t0 disk s stood none

module _ (first : State) (t0 : ℕ) (disk : Told) (s : Inside) (lane : ℕ) (h : EndsRecording first t0 disk s lane) where
  abbrev last : State
  last = last_of first s

  abbrev bytes : List ℕ
  bytes = taking_of last lane

  abbrev effect : Effect Tagged
  effect = ended_by last lane

  abbrev reasons : List (Option Why)
  reasons = if_no_lane last lane ∷ if_not_recording (lane_at last lane) ∷ if_spent last ∷ []

  none_holds : AllNone reasons
  none_holds = all_none reasons h.unrefused

  -- the lane records
  records : is_none (lane_at last lane).taking ≡ false
  records = not_when (is_none (lane_at last lane).taking) why.NoRecording none_holds.1.0

  -- numbers are left
  pub number_left : s.parts.next ≤ 2 ^ 48
  number_left =
      let left : last.next ≤ 2 ^ 48 = ltb-false last_rope last.next (not_when (nat_lt last_rope last.next) why.IdsSpent none_holds.1.1.0) in
      subst (λ n. n ≤ 2 ^ 48) (sym (next_same first t0 disk s h.stood h.sure)) left

  -- the recording has taken the blocks of its bytes
  pub blocks_taken : taken h.stood.takings lane ≡ blocks_for s.journal.shape.block (length bytes)
  blocks_taken =
      ap (λ (ts : List ℕ). taken ts lane) h.stood.holding.recordings
      ∙ taken_at s.journal.shape.block last.lanes lane
      ∙ open_blocks s.journal.shape.block (lane_at last lane).taking records

  -- also by a shape that is the same, and a number of bytes
  pub blocks_now : (shape : Shape) (len : ℕ) → shape ≡ s.journal.shape → len ≡ length bytes → taken h.stood.takings lane ≡ blocks_for shape.block len
  blocks_now shape len same many = blocks_taken ∙ ap (blocks_for s.journal.shape.block) (sym many) ∙ ap (λ (x : Shape). blocks_for x.block len) (sym same)

  pub shown : ShowsState s.parts last
  shown = shows_state first t0 disk s h.stood (is_sure first t0 disk s h.stood h.sure).in_state

  -- the journal refuses it
  pub ending_full : (need left : ℕ) → IsWay last effect (ways.Full need left) → refusal last (tapes_of s) (calls.End lane) ≡ Some (why.JournalFull need left)
  ending_full need left full =
      journal_last.late last (tapes_of s) (calls.End lane) h.unrefused ∙ ap (λ b. when b (journal_full last effect)) full.0 ∙ ap Some full.1

  pub ending_free : is_journal_full last effect ≡ false → refusal last (tapes_of s) (calls.End lane) ≡ None
  ending_free spare = journal_last.late last (tapes_of s) (calls.End lane) h.unrefused ∙ ap (λ b. when b (journal_full last effect)) spare

  pub ends_so : (way : Way) → IsWay last effect way → ((need left : ℕ) → way ≡ ways.Full need left → ⊥) → EndsSo first t0 disk s lane way
  ends_so way goes other = record { ends = h; goes = goes; free = not_full last effect way goes other }

-- over other tables that show the same, with the same addresses
abbrev pub moved : (first : State) (t0 : ℕ) (disk : Told) (s : Inside) (lane : ℕ) (h : EndsRecording first t0 disk s lane) (parts : Parts) → Runs h.stood.held [] h.stood.takings parts h.stood.b → KeepsAddresses s.parts.blocks.holders parts.blocks.holders
    → EndsRecording first t0 disk (record s { parts = parts }) lane
moved first t0 disk s lane h parts shows keeps = record {
  stood = record {
    fill = h.stood.fill;
    b = h.stood.b;
    after = h.stood.b;
    held = h.stood.held;
    takings = h.stood.takings;
    holding = h.stood.holding;
    upright = upright_by first t0 disk s h.stood h.sure parts keeps;
    tables = inl (record { sure = h.sure; in_journal = (is_sure first t0 disk s h.stood h.sure).in_journal; in_state = (is_sure first t0 disk s h.stood h.sure).in_state; tables = shows; same = refl });
    playing = plays_by first t0 disk s h.stood h.sure parts shows.kept;
    size = h.stood.size;
  };
  sure = h.sure;
  unrefused = h.unrefused;
}

-- its rope is ready
abbrev pub holding : (first : State) (t0 : ℕ) (disk : Told) (s : Inside) (lane : ℕ) (way : Way) (h : EndsSo first t0 disk s lane way) (parts : Parts) (rope : NextRope)
    → IsEnding h.ends.stood.held h.ends.stood.takings lane parts h.ends.stood.b rope (next_change h.ends.stood.b.form rope) → KeepsAddresses s.parts.blocks.holders parts.blocks.holders → all_differ rope.addresses.items ≡ true
    → rope.pieces ≡ pieces_of (spots_from rope.id 0 (length (taking_of (last_of first s) lane))) → HoldsEnding first t0 disk (record s { parts = parts }) lane rope
holding first t0 disk s lane way h parts rope ready keeps differ pieces = record {
  ends = moved first t0 disk s lane h.ends parts ready.runs keeps;
  free = h.free;
  ready = ready;
  differ = differ;
  pieces = pieces;
}
