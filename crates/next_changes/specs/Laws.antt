-- The laws of changes that are ready, as statements.
--     IsGiven held takings parts b next c      what a change that is ready gives
--     Keeps held takings fill parts b s other made      a change that brings no rope keeps an effect on a state, and may follow
--     NextGives      each change that is ready gives that
--     ReadyIsNext      what is ready of a rope, of a legal change, and of a call that nothing refuses but perhaps the journal may follow
use Rattle.std.specs.Prelude.{◌≡◌, ℕ, ◌+◌, true, List, [], length, Option, Some, None, is_some}
use Rattle.voice_units.specs.declared.pieces.Piece.{Piece}
use Rattle.voice_units.specs.Spots.{Spot}
use Rattle.voice_model.specs.Samples.{Tagged, spot_of}
use Rattle.voice_model.specs.State.{State, Effect}
use Rattle.voice_model.specs.Changes.{effect_of, changed, frame_size}
use Rattle.voice_model.specs.Early.{all_but_last}
use Rattle.voice_model.specs.Step.{conditions, first_of}
use Rattle.voice_model.specs.Spelling.{spelling, keeps_grammar}
use Rattle.voice_model.specs.Replay.{Rebuilt, is_legal, brings, acted, durable_by}
use Rattle.voice_model.specs.Base.{change_of}
use Rattle.voice_model.specs.Valid.{IsState, InRange}
use Rattle.voice_model.specs.declared.calls.Call.{Call}
use Rattle.voice_model.specs.declared.changes.Change.{Change}
use Rattle.recovery.specs.declared.parts.Parts.{Parts}
use Rattle.running_tables.specs.Running.{Runs}
use Rattle.next_ropes.specs.Ready as ropes
use Rattle.next_ropes.specs.declared.NextRope.{NextRope}
use Rattle.ready_changes.specs.Ready.{IsReady, MayBeReady, change_for}
use Rattle.ready_changes.specs.declared.ReadyChange.{ReadyChange}
use Rattle.next_changes.specs.declared.NextChange.{NextChange}
use Rattle.next_changes.specs.declared.NextChange.TheVariants.{Rope, Other}
use Rattle.next_changes.specs.Next.{IsNext, payload_of, pledges}

-- the tables show what was rebuilt, with the blocks of the rope that the change brings; it may follow, has an effect, and is spelled
pub record IsGiven (held : List (List Piece)) (takings : List ℕ) (parts : Parts) (b : Rebuilt) (next : NextChange) (c : Change) : Type 0 where
  pub runs : Runs held (pledges next) takings parts b
  pub legal : is_legal b c ≡ true
  pub kind : is_some (brings c) ≡ true
  pub grammar : keeps_grammar c ≡ true
  pub payload : payload_of next ≡ spelling c

-- what is ready keeps an effect on a state: it may follow, does where the journal is read again what it did, and its frame is as long as the effect says
pub record Keeps (held : List (List Piece)) (takings : List ℕ) (fill : Spot → Tagged) (parts : Parts) (b : Rebuilt) (s : State) (other : ReadyChange) (made : Option (Effect Tagged)) : Type 0 where
  pub effect : Effect Tagged
  pub is : made ≡ Some effect
  pub next : IsNext held takings parts b (Other other) (change_of b.form [] effect)
  pub does : durable_by fill (acted b (change_of b.form [] effect)).kept ≡ changed s.form s.kept effect
  pub frame : frame_size s.form s.kept.shape.block effect ≡ 5 + length (payload_of (Other other))

abbrev pub NextGives : Type 0
NextGives = (held : List (List Piece)) (takings : List ℕ) (parts : Parts) (b : Rebuilt) (next : NextChange) (c : Change) → IsNext held takings parts b next c → IsGiven held takings parts b next c

pub record ReadyIsNext : Type 0 where
  -- a rope
  pub rope : (held : List (List Piece)) (takings : List ℕ) (parts : Parts) (b : Rebuilt) (next : NextRope) (c : Change) → ropes.IsReady held takings parts b next c → IsNext held takings parts b (Rope next) c
  -- another change that may follow
  pub other : (held : List (List Piece)) (takings : List ℕ) (parts : Parts) (b : Rebuilt) (ready : ReadyChange) (c : Change) → Runs held [] takings parts b → is_legal b c ≡ true → IsReady parts.interests.spare b.kept ready c → IsNext held takings parts b (Other ready) c
  -- the change of a call that nothing refuses but perhaps its last condition, the journal's, in a valid state that what was rebuilt gives
  pub of_call :
      (held : List (List Piece)) (takings : List ℕ) (fill : Spot → Tagged) → ((x : Spot) → spot_of (fill x) ≡ x) → (parts : Parts) (b : Rebuilt) (s : State) (tapes : List (List ℕ)) (call : Call) (ready : ReadyChange)
      → Runs held [] takings parts b → durable_by fill b.kept ≡ s.kept → b.form ≡ s.form → IsState s → InRange call → first_of (all_but_last (conditions s tapes call)) ≡ None
      → MayBeReady parts.interests.spare b.kept (Some ready) (change_for (effect_of s tapes call))
      → Keeps held takings fill parts b s ready (effect_of s tapes call)
  -- where nothing is ready, the call alters nothing
  pub nothing : (spare : ℕ) (b : Rebuilt) (s : State) (tapes : List (List ℕ)) (call : Call) → MayBeReady spare b.kept None (change_for (effect_of s tapes call)) → effect_of s tapes call ≡ None
