-- A change that is tried, and what its plan leaves once it has landed.
use Rattle.std.proofs.Common.{◌≡◌, ℕ, List, [], ◌∷◌, ◌++◌, Some, IsTrue, ◌∙◌, ap, subst}
use Rattle.voice_units.specs.declared.pieces.Piece.{Piece}
use Rattle.voice_outside.specs.Disk.{Told}
use Rattle.voice_journal.specs.Places.{JournalValue, landed as landed_seat}
use Rattle.voice_model.specs.Samples.{Tagged}
use Rattle.voice_model.specs.State.{State, Durable, Effect}
use Rattle.voice_model.specs.Changes.{committed}
use Rattle.voice_model.specs.Step.{state_after}
use Rattle.voice_model.specs.Replay.{Rebuilt, acted}
use Rattle.voice_model.specs.Valid.{Every}
use Rattle.voice_model.specs.declared.calls.Call.{Call}
use Rattle.voice_model.specs.declared.calls.Reply.{Reply}
use Rattle.voice_model.specs.declared.calls.Reply.TheVariants as replies
use Rattle.voice_model.specs.declared.calls.Why.TheVariants as why
use Rattle.voice_model.specs.declared.calls.Entry.{Entry}
use Rattle.voice_model.specs.declared.changes.Change.{Change}
use Rattle.running_tables.specs.Running.{Runs}
use Rattle.recovery.specs.declared.parts.Parts.{Parts}
use Rattle.voice_blocks.specs.Holders.{Holders}
use Rattle.checkpoint.specs.Blocks.{IsHeld as IsHeldAt}
use Rattle.crash_laws.specs.Standing.{IsLater, IsHeld}
use Rattle.crash_laws.specs.Calls.{Does, Doubts, StaysWithin, IsInDoubt}
use Rattle.voice_store.specs.declared.inside.Inside.{Inside}
use Rattle.voice_store.specs.declared.going.Going.{Going}
use Rattle.voice_store.specs.declared.committing.Plan.{Plan}
use Rattle.voice_store.specs.Stood.{tapes_of, last_of, in_form, Fills, IsSeated}
use Rattle.voice_store.specs.Facts.{entry_of}
use Rattle.voice_store.specs.Trying.{Trying, place_of, records_after, form_after}
use Rattle.voice_store.proofs.OnItsWay.{IsOnItsWay, on_its_way}

module _ {first : State} {t0 : ℕ} {old : Told} {s : Inside} {b : Rebuilt} {going : Going} {c : Change} {effect : Effect Tagged} {caller : ℕ} {call : Call} {reply : Reply}
    (tr : Trying first t0 old s b going c effect caller call reply) where
  abbrev last : State
  last = last_of first s

  -- what the tables show
  abbrev pub known : IsOnItsWay tr.held tr.takings s.parts b going c
  known = on_its_way tr.held tr.takings tr.more s.parts b going c tr.ready

  -- what is rebuilt has the shape of the journal
  pub shape_tried : b.shape ≡ s.journal.shape
  shape_tried = ap (λ (d : Durable Tagged). d.shape) tr.upright.fills.kept ∙ tr.upright.seated.shape

  -- the state once its recording is closed, where it ends one
  abbrev pub closed : State
  closed = record last { lanes = tr.lanes }

  -- the state with the change
  abbrev pub done : State
  done = committed closed last.form effect

  -- the state with the change in doubt
  abbrev pub waiting : State
  waiting = record closed { doubt = Some (record { effect = effect; form = last.form }) }

  -- the entry of an answer after so many calls
  abbrev pub said : Reply → ℕ → Entry
  said answer calls = entry_of caller call answer calls

  pub next_done : (calls : ℕ) → state_after last (tapes_of s) (said reply calls) ≡ done
  next_done calls = subst (λ (r : Reply). state_after last (tapes_of s) (said r calls) ≡ done) tr.replies (tr.may.commits calls)

  pub waits : (calls : ℕ) → IsInDoubt last effect (state_after last (tapes_of s) (said (replies.No why.InDoubt) calls))
  waits calls =
      let is : state_after last (tapes_of s) (said (replies.No why.InDoubt) calls) ≡ waiting = tr.may.waits calls in
      record { kept = ap (λ (t : State). t.kept) is; doubt = ap (λ (t : State). t.doubt) is; form = ap (λ (t : State). t.form) is; left = ap (λ (t : State). t.left) is }

-- what a plan leaves once it has landed, as the change is done, or is in doubt
pub record Planned {first : State} {t0 : ℕ} {old : Told} {s : Inside} {b : Rebuilt} {going : Going} {c : Change} {effect : Effect Tagged} {caller : ℕ} {call : Call} {reply : Reply}
    (tr : Trying first t0 old s b going c effect caller call reply) (plan : Plan) : Type 1 where
  pub after : Rebuilt
  pub fills : Fills tr.fill after (done tr)
  pub seated : IsSeated (record s.journal { seat = landed_seat s.journal.seat (place_of going plan) }) (done tr)
  pub tables : (held : List (List Piece)) (takings : List ℕ) (parts : Parts) → Runs held [] takings parts (acted b c) → Runs held [] takings (in_form (form_after plan s.parts.form) parts) after
  pub places : (holders : Holders) → Every (IsHeldAt holders) (acted b c).places → Every (IsHeldAt holders) after.places
  pub held_done : (new : Told) (journal : JournalValue) → IsTrue old.honest → IsLater old new → Does (records_after going plan) s.journal journal old new → StaysWithin (records_after going plan) s.journal old new
      → IsHeld first (tapes_of s) t0 journal new after after (s.history.items ++ said tr reply new.calls ∷ [])
  pub held_waits : (new : Told) (journal : JournalValue) → IsTrue old.honest → IsLater old new → Doubts (records_after going plan) s.journal journal old new → StaysWithin (records_after going plan) s.journal old new
      → IsHeld first (tapes_of s) t0 journal new b after (s.history.items ++ said tr (replies.No why.InDoubt) new.calls ∷ [])
