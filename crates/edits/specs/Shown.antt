-- What the tables of parts show of a state, and what edits answer there.
--     ShowsState held parts s      the tables show the durable part of a state, while these passages are held
--     before_journal s tapes call      the conditions of a call but the journal's
--     IsRopeOf s tapes call pieces      the call makes a rope of these pieces, unless the journal refuses it
--     IsMade made s tapes call      an edit's answer is what the conditions before the journal's give
--     IsLength n s tapes id      the length of a rope is what Length replies, and none where Length is refused
--     JournalIsAskedLast      a call is refused by the conditions before the journal's, and then by the journal's
--     EditsAreOfLiveRopes      a rope that an edit makes uses only blocks that live ropes use
use Rattle.std.specs.Prelude.{◌≡◌, ℕ, true, cond, List, [], ◌∷◌, ◌++◌, length, Option, Some, None}
use Rattle.std.specs.List.{list_all}
use Rattle.voice_units.specs.declared.pieces.Piece.{Piece}
use Rattle.voice_units.specs.Spots.{spots_of, samples_in}
use Rattle.voice_units.specs.Blocks.{has_pair, pairs_at}
use Rattle.voice_model.specs.Samples.{Tagged, spot_of, pieces_in}
use Rattle.voice_model.specs.State.{State}
use Rattle.voice_model.specs.State.Effect.{Edited}
use Rattle.voice_model.specs.Changes.{effect_of, is_changing}
use Rattle.voice_model.specs.Early.{all_but_last}
use Rattle.voice_model.specs.Step.{conditions, first_of, refusal, if_full, reply_of}
use Rattle.voice_model.specs.Replay.{durable_by, used_pairs}
use Rattle.voice_model.specs.declared.calls.Call.{Call}
use Rattle.voice_model.specs.declared.calls.Call.TheVariants as calls
use Rattle.voice_model.specs.declared.calls.Reply.TheVariants as replies
use Rattle.voice_model.specs.declared.calls.Why.{Why}
use Rattle.voice_model.specs.declared.calls.Why.TheVariants as why
use Rattle.recovery.specs.declared.parts.Parts.{Parts}
use Rattle.recovery.specs.Shown.{Shows}
use Rattle.edits.specs.declared.made.Made.{Made}
use Rattle.edits.specs.declared.made.Made.TheVariants.{Rope, Refused}

-- the tables show the durable part of a state, while these passages are held
abbrev pub ShowsState : List (List Piece) → Parts → State → Type 0
ShowsState held parts s = Shows held parts (durable_by spot_of s.kept)

-- the conditions of a call but the journal's, which is the last one of a call that can make a change
abbrev pub before_journal : State → List (List ℕ) → Call → List (Option Why)
before_journal s tapes call = cond (is_changing call) (all_but_last (conditions s tapes call)) (conditions s tapes call)

-- no condition before the journal's holds, and the call makes a rope of these pieces
pub record IsRopeOf (s : State) (tapes : List (List ℕ)) (call : Call) (pieces : List Piece) : Type 0 where
  pub unrefused : first_of (before_journal s tapes call) ≡ None
  pub samples : List Tagged
  pub effect : effect_of s tapes call ≡ Some (Edited s.next samples)
  pub same : pieces ≡ pieces_in samples

-- an edit's answer: the rope that it makes, or the first condition before the journal's that holds
abbrev pub IsMade : Made → State → List (List ℕ) → Call → Type 0
IsMade (Rope pieces) s tapes call = IsRopeOf s tapes call pieces
IsMade (Refused reason) s tapes call = first_of (before_journal s tapes call) ≡ Some reason

-- the length of a rope is what Length replies, and none where Length is refused
abbrev pub IsLength : Option ℕ → State → List (List ℕ) → ℕ → Type 0
IsLength None s tapes id = refusal s tapes (calls.Length id) ≡ Some (why.UnknownRope id)
IsLength (Some n) s tapes id = (refusal s tapes (calls.Length id) ≡ None) × (reply_of s tapes (calls.Length id) ≡ replies.Number n)

-- a call is refused by the first of the conditions before the journal's, and then by the journal's
pub record JournalIsAskedLast : Type 0 where
  pub last : (s : State) (tapes : List (List ℕ)) (call : Call) → refusal s tapes call ≡ first_of (before_journal s tapes call ++ if_full s (effect_of s tapes call) ∷ [])
  -- so it is refused by one of the former where one of them holds
  pub early : (s : State) (tapes : List (List ℕ)) (call : Call) (reason : Why) → first_of (before_journal s tapes call) ≡ Some reason → refusal s tapes call ≡ Some reason
  -- and by the journal's where none of them does
  pub late : (s : State) (tapes : List (List ℕ)) (call : Call) → first_of (before_journal s tapes call) ≡ None → refusal s tapes call ≡ if_full s (effect_of s tapes call)

-- a rope that an edit makes uses only blocks that live ropes use, and has as many samples as its pieces
pub record EditsAreOfLiveRopes : Type 0 where
  pub blocks : (s : State) (tapes : List (List ℕ)) (call : Call) (pieces : List Piece) → IsRopeOf s tapes call pieces → list_all (has_pair (used_pairs (durable_by spot_of s.kept))) (pairs_at s.shape.block (spots_of pieces)) ≡ true
  pub length : (s : State) (tapes : List (List ℕ)) (call : Call) (samples : List Tagged) (pieces : List Piece) → effect_of s tapes call ≡ Some (Edited s.next samples) → IsRopeOf s tapes call pieces → samples_in pieces ≡ length samples
