-- The laws of calls, states, images and changes, as statements.
--     StepsAreDetermined      one reply for a call and its outcome, and one state after an entry
--     StatesStayValid      what every state keeps is kept by legal entries, and a formatted disk has it
--     PiecesOfEdits      the pieces of joined ropes, of a slice and of a replacement
--     EditsTakeNoBlock      an edit leaves the number of used blocks
--     ImagesReadInOneWay      an image opens to one state, or has its damage at one place
--     ReplayGivesValidStates      what is rebuilt from an image is a valid state
--     ChangesAreSpelledOnce      a spelling determines its change, and reading undoes spelling
--     ChangesAreLegalAgain      the change of a call is legal where the journal is read again, and does there what it did
--     ReplayKeepsPlaces      each used block has its place, and no block and no address stands twice
--     BaseReadsBack      the base of what is rebuilt reads back as it, at the same addresses
--     BaseHasItsSize      it is as long as its size says
use Rattle.std.specs.Prelude.{◌≡◌, ℕ, ◌-◌, ◌≤◌, ◌⊎◌, true, List, ◌++◌, map, length, Some, None}
use Rattle.voice_units.specs.declared.shapes.Shape.{Shape}
use Rattle.voice_units.specs.declared.pieces.Piece.{Piece}
use Rattle.voice_units.specs.Spots.{Spot, spots_of, slice, replaced, IsNormal}
use Rattle.voice_model.specs.Samples.{Tagged, spot_of, spots_in_rope, pieces_in}
use Rattle.voice_model.specs.State.{State, Effect, opened, formatted}
use Rattle.voice_model.specs.Room.{used}
use Rattle.voice_model.specs.Changes.{effect_of, changed, payload_size, base_size}
use Rattle.voice_model.specs.Step.{Outcome, outcome_of, refusal, reply_by, state_after, after_answer, IsReply, IsAnswer, Step, Legal, after}
use Rattle.voice_model.specs.Spelling.{spelling, keeps_grammar, change_in, Spells}
use Rattle.voice_model.specs.Replay.{Placed, Rebuilt, nothing_rebuilt, rebuilt, is_legal, acted, finished, brings, recovered, durable_by, effect_by}
use Rattle.disk_areas.specs.Areas.{Record, Journal}
use Rattle.voice_model.specs.Image.{Replayed, Reading, replayed, reading, opened_from, recovered_from}
use Rattle.voice_model.specs.Base.{change_of, base_of, framed_size, IsMade, HasAddresses}
use Rattle.voice_model.specs.Places.{Pairwise, OfOtherBlock, IsOrdering, IsPlaced, AllUsed, CanBeSpelled, ReadsBack}
use Rattle.voice_model.specs.Valid.{Every, IsState, InRange, IsFit, IsTimely, MayFit, MayBeTimely, TakesFree, IsRebuilt}
use Rattle.voice_model.specs.declared.calls.Call.{Call}
use Rattle.voice_model.specs.declared.calls.Call.TheVariants as calls
use Rattle.voice_model.specs.declared.calls.Reply.{Reply}
use Rattle.voice_model.specs.declared.calls.Entry.{Entry}
use Rattle.voice_model.specs.declared.changes.Change.{Change}

pub record StepsAreDetermined : Type 0 where
  -- one reply for a call and its outcome
  pub reply : (s : State) (tapes : List (List ℕ)) (m n : ℕ) (call : Call) (r q : Reply) → outcome_of r ≡ outcome_of q → IsReply s tapes m call r → IsReply s tapes n call q → r ≡ q
  -- one state after an entry
  pub state : (s : State) (tapes : List (List ℕ)) (e : Entry) (t u : State) → Step s tapes e t → Step s tapes e u → t ≡ u
  -- a call that meets no device fault is not answered as if it had
  pub answered : (s : State) (tapes : List (List ℕ)) (call : Call) → outcome_of (reply_by s tapes call (refusal s tapes call)) ≡ Outcome.Answered
  -- entries after entries
  pub later : (s : State) (tapes : List (List ℕ)) (es fs : List Entry) → after s tapes (es ++ fs) ≡ after (after s tapes es) tapes fs
  pub legal : (s : State) (tapes : List (List ℕ)) (es fs : List Entry) → Legal s tapes es → Legal (after s tapes es) tapes fs → Legal s tapes (es ++ fs)

pub record StatesStayValid : Type 0 where
  -- an entry that may follow leaves a valid state
  pub entry : (s : State) (tapes : List (List ℕ)) (e : Entry) → IsState s → InRange e.call → IsAnswer s tapes e → IsState (state_after s tapes e)
  -- so does a legal history
  pub history : (s : State) (tapes : List (List ℕ)) (es : List Entry) → IsState s → Every (λ e. InRange e.call) es → Legal s tapes es → IsState (after s tapes es)
  -- a disk that was just formatted has one
  pub first : (shape : Shape) → IsState (formatted shape)

pub record PiecesOfEdits : Type 0 where
  -- pieces in normal form that name the places of a rope are its pieces
  pub same : (xs : List Tagged) (ps : List Piece) → IsNormal ps → spots_of ps ≡ spots_in_rope xs → ps ≡ pieces_in xs
  -- the pieces of two ropes, one after another, name the places of the joined rope
  pub joined : (xs ys : List Tagged) (ps qs : List Piece) → spots_of ps ≡ spots_in_rope xs → spots_of qs ≡ spots_in_rope ys → spots_of (ps ++ qs) ≡ spots_in_rope (xs ++ ys)
  -- pieces in normal form that name the places of a slice are its pieces
  pub sliced : (xs : List Tagged) (start len : ℕ) (ps qs : List Piece) → spots_of ps ≡ spots_in_rope xs → IsNormal qs → spots_of qs ≡ slice (spots_of ps) start len → qs ≡ pieces_in (slice xs start len)
  -- and so are those of a replacement
  pub replaced_by : (xs ys : List Tagged) (start len : ℕ) (ps qs rs : List Piece) → spots_of ps ≡ spots_in_rope xs → spots_of qs ≡ spots_in_rope ys → IsNormal rs → spots_of rs ≡ replaced (spots_of ps) start len (spots_of qs) → rs ≡ pieces_in (replaced xs start len ys)

pub record EditsTakeNoBlock : Type 0 where
  pub concat : (s : State) (tapes : List (List ℕ)) (ids : List ℕ) → used (after_answer s tapes (calls.Concat ids)) ≡ used s
  pub sub : (s : State) (tapes : List (List ℕ)) (id start len : ℕ) → used (after_answer s tapes (calls.Sub id start len)) ≡ used s
  pub replace : (s : State) (tapes : List (List ℕ)) (id start len other : ℕ) → used (after_answer s tapes (calls.Replace id start len other)) ≡ used s

pub record ImagesReadInOneWay : Type 0 where
  -- the state of a server that opens an image
  pub state : (image : List ℕ) (s t : State) → opened_from image ≡ Some s → opened_from image ≡ Some t → s ≡ t
  -- an image that reads opens, with the durable part that its changes give
  pub opens : (image : List ℕ) (journal : Journal) (r : Rebuilt) → reading image ≡ Reading.Reads journal r → opened_from image ≡ Some (opened (recovered image r) (journal.shape.area - 1 - journal.gate) journal.epoch r.form)
  pub recovers : (image : List ℕ) (journal : Journal) (r : Rebuilt) → reading image ≡ Reading.Reads journal r → recovered_from image ≡ Some (recovered image r)
  -- an image that reads has no damage, and one that does not has it at one place
  pub sound : (image : List ℕ) (journal : Journal) (r : Rebuilt) (place : ℕ) → reading image ≡ Reading.Reads journal r → ¬ (reading image ≡ Reading.Bad place)
  pub place : (image : List ℕ) (p q : ℕ) → reading image ≡ Reading.Bad p → reading image ≡ Reading.Bad q → p ≡ q
  -- one with damage does not open
  pub damaged : (image : List ℕ) (place : ℕ) → reading image ≡ Reading.Bad place → opened_from image ≡ None

pub record ReplayGivesValidStates : Type 0 where
  -- the state that changes rebuild, filled in from an image
  pub rebuilt_state : (image : List ℕ) (shape : Shape) (cs : List Change) (end : Rebuilt) (left epoch : ℕ) → Every (λ c. keeps_grammar c ≡ true) cs → rebuilt (nothing_rebuilt shape) cs ≡ Some end → left ≤ end.shape.area - 17 → IsState (opened (recovered image end) left epoch end.form)
  -- records are replayed as the changes that they spell
  pub records : (r : Rebuilt) (records : List Record) (cs : List Change) (end : Rebuilt) → map (λ one. change_in one.payload) records ≡ map Some cs → rebuilt r cs ≡ Some end → replayed r records ≡ Replayed.All end
  -- an image that opens gives a valid state
  pub opened_state : (image : List ℕ) (s : State) → opened_from image ≡ Some s → IsState s

pub record ChangesAreSpelledOnce : Type 0 where
  pub same : (c d : Change) → keeps_grammar c ≡ true → keeps_grammar d ≡ true → spelling c ≡ spelling d → c ≡ d
  -- what is spelled is read again
  pub read : (c : Change) → keeps_grammar c ≡ true → change_in (spelling c) ≡ Some c
  -- what is read is spelled so
  pub spelled : (bytes : List ℕ) (c : Change) → change_in bytes ≡ Some c → Spells bytes c

pub record ChangesAreLegalAgain : Type 0 where
  -- the change of a call that nothing refuses may be done, and alters something
  pub fit : (s : State) (tapes : List (List ℕ)) (call : Call) → IsState s → InRange call → refusal s tapes call ≡ None → MayFit s.form s.kept (effect_of s tapes call)
  pub timely : (s : State) (tapes : List (List ℕ)) (call : Call) → IsState s → refusal s tapes call ≡ None → MayBeTimely s.form s.kept (effect_of s tapes call)
  -- its recordings are voice files of their own numbers
  pub made : (s : State) (tapes : List (List ℕ)) (call : Call) (effect : Effect Tagged) → effect_of s tapes call ≡ Some effect → IsMade effect
  -- where what was rebuilt, filled in, is the durable part, such a change is legal with free addresses
  pub legal : (f : Spot → Tagged) → ((s : Spot) → spot_of (f s) ≡ s) → (r : Rebuilt) (addresses : List ℕ) (effect : Effect Tagged) → (r.form ≡ 1) ⊎ (r.form ≡ 2) → IsFit r.form (durable_by f r.kept) effect → IsTimely r.form (durable_by f r.kept) effect → TakesFree r addresses effect → is_legal r (change_of r.form addresses effect) ≡ true
  -- and so is the change of a call
  pub of_call : (f : Spot → Tagged) → ((s : Spot) → spot_of (f s) ≡ s) → (r : Rebuilt) (s : State) (tapes : List (List ℕ)) (call : Call) (addresses : List ℕ) (effect : Effect Tagged) → durable_by f r.kept ≡ s.kept → r.form ≡ s.form → IsState s → InRange call → refusal s tapes call ≡ None → effect_of s tapes call ≡ Some effect → TakesFree r addresses effect → is_legal r (change_of r.form addresses effect) ≡ true
  -- it does there what it did in the server
  pub done : (f : Spot → Tagged) → ((s : Spot) → spot_of (f s) ≡ s) → (r : Rebuilt) (addresses : List ℕ) (effect : Effect Tagged) → IsMade effect → effect_by f (effect_by spot_of effect) ≡ effect → durable_by f (acted r (change_of r.form addresses effect)).kept ≡ changed r.form (durable_by f r.kept) effect
  pub brings_it : (form : ℕ) (addresses : List ℕ) (effect : Effect Tagged) → IsMade effect → brings (change_of form addresses effect) ≡ Some (effect_by spot_of effect)
  -- it is as long as its size says
  pub size : (form block : ℕ) (addresses : List ℕ) (effect : Effect Tagged) → HasAddresses block addresses effect → length (spelling (change_of form addresses effect)) ≡ payload_size form block effect

pub record ReplayKeepsPlaces : Type 0 where
  pub first : (shape : Shape) → IsPlaced (nothing_rebuilt shape)
  -- a legal change keeps what is kept of places, and so does the end of a list
  pub next : (r : Rebuilt) (c : Change) → IsPlaced r → is_legal r c ≡ true → keeps_grammar c ≡ true → IsPlaced (acted r c)
  pub last : (r : Rebuilt) → IsPlaced r → IsPlaced (finished r)
  -- at the end each place is that of a used block
  pub used_only : (r : Rebuilt) → AllUsed (finished r)
  -- what changes rebuild
  pub placed : (shape : Shape) (cs : List Change) (end : Rebuilt) → Every (λ c. keeps_grammar c ≡ true) cs → rebuilt (nothing_rebuilt shape) cs ≡ Some end → IsPlaced end
  pub used_all : (shape : Shape) (cs : List Change) (end : Rebuilt) → Every (λ c. keeps_grammar c ≡ true) cs → rebuilt (nothing_rebuilt shape) cs ≡ Some end → AllUsed end

pub record BaseReadsBack : Type 0 where
  -- the base of what changes rebuild
  pub of_replay : (shape : Shape) (cs : List Change) (r : Rebuilt) (form : ℕ) → Every (λ c. keeps_grammar c ≡ true) cs → rebuilt (nothing_rebuilt shape) cs ≡ Some r → CanBeSpelled form r → ReadsBack form r
  -- the base of what keeps what replay keeps
  pub of_kept : (f : Spot → Tagged) → ((s : Spot) → spot_of (f s) ≡ s) → (form : ℕ) (r : Rebuilt) → IsRebuilt f r → IsPlaced r → AllUsed r → CanBeSpelled form r → ReadsBack form r
  -- the order of places keeps them
  pub order : (places : List Placed) → Pairwise OfOtherBlock places → IsOrdering places

pub record BaseHasItsSize : Type 0 where
  -- the length of the base of what changes rebuild, filled in from any image
  pub of_replay : (shape : Shape) (cs : List Change) (r : Rebuilt) (form : ℕ) (image : List ℕ) → Every (λ c. keeps_grammar c ≡ true) cs → rebuilt (nothing_rebuilt shape) cs ≡ Some r → framed_size (base_of form r) ≡ base_size form (recovered image r)
  -- of what keeps what replay keeps, filled in by f
  pub of_kept : (f : Spot → Tagged) → ((s : Spot) → spot_of (f s) ≡ s) → (form : ℕ) (r : Rebuilt) → IsPlaced r → AllUsed r → framed_size (base_of form r) ≡ base_size form (durable_by f r.kept)
