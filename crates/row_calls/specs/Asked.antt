-- What the calls on interests, on the moment and of sweeps come to.
--     is_row_call call      the call is one on the tables that can make a change
--     takes_no_memory call      the change of the call is made ready without memory: that of a Forget or an Advance
--     Grows s effect growth      how much longer the base gets where an effect is done
--     IsChange parts b s tapes call ready reply growth      a call that nothing refuses makes this change, and is answered so
--     IsAsked parts b s tapes call asked      what a call comes to, but for the journal's refusal
--     Tells held parts b      the tables show what was rebuilt while passages are held, whatever the map of blocks has
--     IsBrief asked      its reply is no list, and its change makes the base no longer
--     Gives held fill parts b s      the tables show what was rebuilt, and that is a valid state once the bytes of samples are filled in
use Rattle.std.specs.Prelude.{◌≡◌, ℕ, ◌+◌, ◌≤◌, Bool, true, false, List, Some, None}
use Rattle.voice_units.specs.declared.pieces.Piece.{Piece}
use Rattle.voice_units.specs.Spots.{Spot}
use Rattle.voice_model.specs.Samples.{Tagged, spot_of}
use Rattle.voice_model.specs.State.{State, Effect}
use Rattle.voice_model.specs.Changes.{effect_of, changed, base_size}
use Rattle.voice_model.specs.Step.{first_of, reply_of}
use Rattle.voice_model.specs.Replay.{Rebuilt, durable_by}
use Rattle.voice_model.specs.Valid.{IsState, IsRebuilt}
use Rattle.voice_model.specs.declared.calls.Call.{Call}
use Rattle.voice_model.specs.declared.calls.Call.TheVariants as calls
use Rattle.voice_model.specs.declared.calls.Reply.{Reply}
use Rattle.voice_model.specs.declared.calls.Reply.TheVariants as replies
use Rattle.recovery.specs.declared.parts.Parts.{Parts}
use Rattle.recovery.specs.Shown.{Shows, plain_sample}
use Rattle.edits.specs.Shown.{before_journal}
use Rattle.ready_changes.specs.Ready.{MayBeReady, change_for}
use Rattle.ready_changes.specs.declared.ReadyChange.{ReadyChange}
use Rattle.row_calls.specs.declared.outcomes.Growth.{Growth}
use Rattle.row_calls.specs.declared.outcomes.Growth.TheVariants.{By, NotLonger}
use Rattle.row_calls.specs.declared.outcomes.Asked.{Asked}
use Rattle.row_calls.specs.declared.outcomes.Asked.TheVariants.{Refused, Answered, Changes}

-- the call is one on the tables that can make a change
abbrev pub is_row_call : Call → Bool
is_row_call (calls.Retain class key id note) = true
is_row_call (calls.Forget class key) = true
is_row_call (calls.Census keys) = true
is_row_call (calls.Advance moment) = true
is_row_call (calls.Sweep limit) = true
is_row_call _ = false

-- the change of the call is made ready without memory: that of a Forget or an Advance
abbrev pub takes_no_memory : Call → Bool
takes_no_memory (calls.Forget class key) = true
takes_no_memory (calls.Advance moment) = true
takes_no_memory _ = false

-- how much longer the base gets where an effect is done
abbrev pub Grows : State → Effect Tagged → Growth → Type 0
Grows s effect (By n) = base_size s.form (changed s.form s.kept effect) ≡ base_size s.form s.kept + n
Grows s effect NotLonger = base_size s.form (changed s.form s.kept effect) ≤ base_size s.form s.kept

-- a call that nothing refuses makes this change, and is answered so
pub record IsChange (parts : Parts) (b : Rebuilt) (s : State) (tapes : List (List ℕ)) (call : Call) (ready : ReadyChange) (reply : Reply) (growth : Growth) : Type 0 where
  pub unrefused : first_of (before_journal s tapes call) ≡ None
  pub is_ready : MayBeReady parts.interests.spare b.kept (Some ready) (change_for (effect_of s tapes call))
  pub replied : reply_of s tapes call ≡ reply
  pub grows : (effect : Effect Tagged) → effect_of s tapes call ≡ Some effect → Grows s effect growth

-- what a call comes to, but for the journal's refusal
abbrev pub IsAsked : Parts → Rebuilt → State → List (List ℕ) → Call → Asked → Type 0
IsAsked parts b s tapes call (Refused why) = first_of (before_journal s tapes call) ≡ Some why
IsAsked parts b s tapes call (Answered reply) = (first_of (before_journal s tapes call) ≡ None) × (effect_of s tapes call ≡ None) × (reply_of s tapes call ≡ reply)
IsAsked parts b s tapes call (Changes ready reply growth) = IsChange parts b s tapes call ready reply growth

-- the tables show what was rebuilt while passages are held, whatever the map of blocks has
pub record Tells (held : List (List Piece)) (parts : Parts) (b : Rebuilt) : Type 0 where
  pub kept : Shows held parts b.kept
  pub in_form : parts.form ≡ b.form
  pub valid : IsRebuilt plain_sample b

-- its reply is no list, and its change makes the base no longer
abbrev pub IsBrief : Asked → Type 0
IsBrief (Refused why) = Unit {0}
IsBrief (Answered reply) = reply ≡ replies.Done
IsBrief (Changes ready reply growth) = (reply ≡ replies.Done) × (growth ≡ NotLonger)

-- the tables show what was rebuilt, and that is a valid state once the bytes of samples are filled in
pub record Gives (held : List (List Piece)) (fill : Spot → Tagged) (parts : Parts) (b : Rebuilt) (s : State) : Type 0 where
  pub spots : (x : Spot) → spot_of (fill x) ≡ x
  pub shows : Tells held parts b
  pub kept : durable_by fill b.kept ≡ s.kept
  pub form : b.form ≡ s.form
  pub valid : IsState s
