-- A recording whose rope is ready, before and after its samples were written.
use Rattle.std.proofs.Common.{◌≡◌, inl, ℕ, ◌+◌, ◌*◌, ◌<◌, ◌≤◌, ◌==◌, Bool, true, false, cond, List, [], ◌∷◌, ◌++◌, length, Option, Some, None, is_some, IsTrue, refl, sym, ◌∙◌, ap, subst, arith}
use Rattle.std.specs.Prelude.{Vec, slice_index}
use Rattle.std.specs.List.{list_all}
use Rattle.std.specs.declared.alloc.Global.{Global}
use Rattle.voice_units.specs.declared.pieces.Take.{Take}
use Rattle.voice_units.specs.declared.shapes.Shape.{Shape}
use Rattle.voice_units.specs.declared.pieces.Piece.{Piece}
use Rattle.voice_blocks.specs.Holders.{Holders, holder_at, block_of}
use Rattle.voice_blocks.specs.declared.owner.Owner.TheVariants.{File}
use Rattle.voice_units.specs.Spots.{Spot, samples_in, spots_from, pieces_of}
use Rattle.voice_units.specs.Blocks.{blocks_for}
use Rattle.voice_outside.specs.Disk.{Told}
use Rattle.voice_model.specs.Samples.{Tagged, bytes_of, recording, recorded_from}
use Rattle.voice_model.specs.State.{State, Effect, Pending}
use Rattle.voice_model.specs.Changes.{changed, frame_size, taking_of}
use Rattle.voice_model.specs.Changes as sizes
use Rattle.voice_model.specs.Tapes.{taken}
use Rattle.voice_model.specs.Step.{refusal, reply_of}
use Rattle.voice_model.specs.Replay.{Rebuilt, acted, durable_by, recovered, all_differ, is_free_address, new_places, placed_from}
use Rattle.voice_model.specs.Valid.{Every}
use Rattle.checkpoint.specs.Blocks.{IsHeld as IsHeldAt}
use Rattle.voice_model.specs.Base.{change_of}
use Rattle.voice_model.specs.Spelling.{spelling}
use Rattle.voice_model.specs.declared.calls.Call.TheVariants as calls
use Rattle.voice_model.specs.declared.calls.Reply.{Reply}
use Rattle.voice_model.specs.declared.calls.Reply.TheVariants as replies
use Rattle.voice_store.specs.declared.going.Going.{Going}
use Rattle.voice_store.specs.declared.going.Going.TheVariants as goings
use Rattle.next_changes.specs.declared.NextChange.TheVariants as changes
use Rattle.voice_store.specs.declared.committing.Plan.{Plan}
use Rattle.voice_model.specs.declared.calls.Why.TheVariants as why
use Rattle.voice_model.specs.declared.calls.Entry.{Entry}
use Rattle.voice_model.specs.declared.changes.Change.{Change}
use Rattle.voice_model.specs.declared.changes.Change.TheVariants as kinds
use Rattle.voice_model.proofs.FitsOfCalls.{recorded_length}
use Rattle.voice_model.proofs.Heard.{answer_on}
use Rattle.voice_model.proofs.ChangesOfEffects.{size_again}
use Rattle.running_tables.specs.Running.{Runs}
use Rattle.running_tables.proofs.Taken.{none_yet}
use Rattle.next_ropes.specs.Addresses.{KeepsAddresses, HandsOut}
use Rattle.recovery.specs.declared.parts.Parts.{Parts}
use Rattle.recovery.specs.Shown.{Shows}
use Rattle.next_ropes.specs.Ready.{IsReady, next_change}
use Rattle.next_ropes.specs.declared.NextRope.{NextRope}
use Rattle.next_ropes.proofs.Readied.{recorded_samples}
use Rattle.fillings.specs.Laws.{HasBytes}
use Rattle.fillings.proofs.Calls.{call_does}
use Rattle.recording_writer.specs.Wrote.{WroteAt, AreBelow, AreDistinct}
use Rattle.crash_laws.specs.Foundations.{Foundations}
use Rattle.crash_laws.specs.Standing.{IsLater, IsHeld}
use Rattle.crash_laws.specs.Calls.{SparesWithin}
use Rattle.crash_laws.proofs.Opened.{standing_gives}
use Rattle.crash_laws.proofs.Writing.{writes_carry}
use Rattle.crash_laws.proofs.Noted.{entries_count}
use Rattle.voice_store.specs.declared.inside.Inside.{Inside}
use Rattle.recording_adds.specs.Adds.{HasWhole}
use Rattle.voice_store.specs.Filled.{IsFilled, HaveBytes, IsPadded}
use Rattle.voice_store.specs.Stood.{last_of, tapes_of, Upright, IsSure, Plays, Stood}
use Rattle.voice_store.proofs.Filled.{placed_each, next_only, unwritten_filled, written_filled, elsewhere_whole, takes_same}
use Rattle.voice_store.proofs.Refused.{wrong}
use Rattle.voice_store.specs.Facts.{MayCommit, entry_of}
use Rattle.voice_store.specs.Going.{IsGoingIn}
use Rattle.voice_store.specs.Trying.{IsPlan, Trying}
use Rattle.voice_store.specs.Keeping.{HasRoom, HoldsRecording, recorded_by}
use Rattle.voice_store.specs.declared.ways.Way.{Way}
use Rattle.voice_store.proofs.Kept.{is_sure, upright_by, same_number, same_shape}
use Rattle.voice_store.proofs.Entries.{acks_later, stood_noted}
use Rattle.voice_store.proofs.Pushed.{as_honest}
use Rattle.voice_store.proofs.Played.{playing_by, playing_later, playing_as_honest}
use Rattle.voice_store.proofs.Making.{IsMaking, may_commit}
use Rattle.voice_store.proofs.Recordable.{many as taken_as, recording_free}
use Rattle.crash_laws.proofs.Spared.{below_at, free_at, distinct_at, spares_within}
use Rattle.voice_store.proofs.Taking.{later_fill, later_spots, kept_before, brings_recording}

-- a recording makes a rope and does nothing else
recording_makes : (s : State) (tapes : List (List ℕ)) (take : Take) → IsMaking s tapes (calls.Record take)
recording_makes s tapes take = record { built = refl; changing = refl; lanes = refl; closes = refl; reaches = refl; range = tt }

bytes_recorded : (id place : ℕ) (bytes : List ℕ) → bytes_of (recorded_from id place bytes) ≡ bytes
bytes_recorded id place [] = refl
bytes_recorded id place (byte ∷ bytes) = ap (λ l. byte ∷ l) (bytes_recorded id (place + 1) bytes)

-- the change that a rope which is ready makes of what is rebuilt
abbrev pub change_in : Rebuilt → NextRope → Change
change_in b next = next_change b.form next

-- a change brings one rope
pub same_rope : (going : Going) (a b : NextRope) → going ≡ goings.Change (changes.Rope a) → going ≡ goings.Change (changes.Rope b) → a ≡ b
same_rope going a b p q = let e : goings.Change (changes.Rope a) ≡ goings.Change (changes.Rope b) = sym p ∙ q in cc

-- a rope that holds a recording, and gets into the journal so
abbrev pub Goes : State → ℕ → Told → Inside → Take → Plan → NextRope → Type 0
Goes first t0 disk s take plan rope =
    (h : HoldsRecording first t0 disk s take rope) × IsPlan s.journal (last_of first s) (recorded_by (last_of first s) (tapes_of s) take) (acted h.makes.stood.b (change_in h.makes.stood.b rope)) plan

-- its rope is ready
abbrev pub holding : (first : State) (t0 : ℕ) (disk : Told) (s : Inside) (take : Take) (way : Way) (room : HasRoom first t0 disk s take way) (parts : Parts) (next : NextRope)
    → IsReady room.makes.stood.held room.makes.stood.takings parts room.makes.stood.b next (change_in room.makes.stood.b next) → next.recorded ≡ true → length next.addresses.items ≡ blocks_for s.journal.shape.block take.len
    → all_differ next.addresses.items ≡ true → list_all (is_free_address room.makes.stood.b) next.addresses.items ≡ true → next.pieces ≡ pieces_of (spots_from next.id 0 take.len)
    → HandsOut room.makes.stood.b.next s.parts.blocks.holders parts.blocks.holders → HoldsRecording first t0 disk (record s { parts = parts }) take next
holding first t0 disk s take way room parts next ready recorded many differ spare pieces handed = record {
  before = s.parts;
  makes = room.makes;
  free = room.free;
  ready = ready;
  recorded = recorded;
  many = many;
  differ = differ;
  spare = spare;
  pieces = pieces;
  handed = handed;
}

-- its blocks alone got addresses
pub handed_on : (first : State) (t0 : ℕ) (disk : Told) (s : Inside) (take : Take) (way : Way) (room : HasRoom first t0 disk s take way) (parts : Parts) → HandsOut s.parts.next s.parts.blocks.holders parts.blocks.holders → HandsOut room.makes.stood.b.next s.parts.blocks.holders parts.blocks.holders
handed_on first t0 disk s take way room parts hands = subst (λ n. HandsOut n s.parts.blocks.holders parts.blocks.holders) (is_sure first t0 disk s room.makes.stood room.makes.sure).tables.kept.next hands

module _ (first : State) (t0 : ℕ) (old : Told) (s : Inside) (take : Take) (next : NextRope) (h : HoldsRecording first t0 old s take next) where
  abbrev then : Inside
  then = record s { parts = h.before }

  abbrev last : State
  last = last_of first s

  abbrev bytes : List ℕ
  bytes = taken (tapes_of s) take

  abbrev effect : Effect Tagged
  effect = recorded_by last (tapes_of s) take

  abbrev pub b : Rebuilt
  b = h.makes.stood.b

  abbrev pub change : Change
  change = change_in b next

  abbrev addresses : List ℕ
  addresses = next.addresses.items

  tables_then : IsSure h.makes.stood.held h.makes.stood.takings then b h.makes.stood.after last
  tables_then = is_sure first t0 old then h.makes.stood h.makes.sure

  pub in_shape : b.shape ≡ s.journal.shape
  in_shape = same_shape first t0 old then h.makes.stood h.makes.sure

  pub recording_going : IsGoingIn s.journal.shape s.parts (goings.Change (changes.Rope next))
  recording_going = record { held = h.makes.stood.held; takings = h.makes.stood.takings; more = h.makes.stood.takings; b = b; c = change; ready = (refl, h.ready); in_shape = in_shape }

  number : b.next ≡ last.next
  number = same_number first t0 old then h.makes.stood h.makes.sure

  pub below : AreBelow s.journal.shape.blocks addresses
  below = subst (λ (x : Shape). AreBelow x.blocks addresses) in_shape (below_at b addresses h.spare)

  pub distinct : AreDistinct addresses
  distinct = distinct_at addresses h.differ

  samples_are : samples_in next.pieces ≡ take.len
  samples_are = recorded_samples next.id take.len next.pieces h.pieces

  many_bytes : length bytes ≡ take.len
  many_bytes = taken_as first t0 old then take h.makes

  samples_many : length (recording last.next bytes) ≡ take.len
  samples_many = recorded_length last.next 0 bytes ∙ many_bytes

  spelled_as : (form : ℕ) → next_change form next ≡ change_of form addresses effect
  spelled_as form =
      ap (λ (is : Bool). cond is (cond (form == 2) (kinds.Wide next.id (samples_in next.pieces) addresses) (kinds.Recorded next.id (samples_in next.pieces) addresses)) (kinds.Edited next.id next.pieces)) h.recorded
      ∙ ap (λ n. cond (form == 2) (kinds.Wide n (samples_in next.pieces) addresses) (kinds.Recorded n (samples_in next.pieces) addresses)) (h.ready.number ∙ number)
      ∙ ap (λ n. cond (form == 2) (kinds.Wide last.next n addresses) (kinds.Recorded last.next n addresses)) (samples_are ∙ sym samples_many)

  pub the_change : change ≡ change_of b.form addresses effect
  the_change = spelled_as b.form

  unrefused : refusal last (tapes_of s) (calls.Record take) ≡ None
  unrefused = recording_free first t0 old then take h.makes h.free

  pub may : (caller : ℕ) → MayCommit last (tapes_of s) caller (calls.Record take) effect last.lanes
  may caller = may_commit last (tapes_of s) caller (calls.Record take) effect (recording_makes last (tapes_of s) take) tables_then.in_state unrefused refl

  count : (block : ℕ) → block ≡ s.journal.shape.block → length addresses ≡ blocks_for block (length (recording last.next bytes))
  count block is = h.many ∙ ap (λ n. blocks_for n take.len) (sym is) ∙ ap (blocks_for block) (sym samples_many)

  -- ---- its addresses

  recorded_places : (is : Bool) (form id len : ℕ) (pieces : List Piece) (ats : List ℕ) → is ≡ true → new_places (cond is (cond (form == 2) (kinds.Wide id len ats) (kinds.Recorded id len ats)) (kinds.Edited id pieces)) ≡ placed_from id 0 ats
  recorded_places is form id len pieces ats recorded = ap (λ (r : Bool). new_places (cond r (cond (form == 2) (kinds.Wide id len ats) (kinds.Recorded id len ats)) (kinds.Edited id pieces))) recorded ∙ in_form (form == 2)
    where
      in_form : (two : Bool) → new_places (cond two (kinds.Wide id len ats) (kinds.Recorded id len ats)) ≡ placed_from id 0 ats
      in_form true = refl
      in_form false = refl

  placed : Every (IsHeldAt s.parts.blocks.holders) (placed_from next.id 0 addresses)
  placed = subst (λ ps. Every (IsHeldAt s.parts.blocks.holders) ps) (recorded_places next.recorded b.form next.id (samples_in next.pieces) next.pieces addresses h.recorded) h.ready.places

  own : (k : ℕ) → k < length addresses → holder_at s.parts.blocks.holders (slice_index addresses k) ≡ Some (block_of (File b.next) k)
  own k less =
      placed_each s.parts.blocks.holders next.id 0 addresses placed k less ∙ ap (λ n. Some (block_of (File next.id) n)) (let same : 0 + k ≡ k = omega arith in same)
      ∙ ap (λ n. Some (block_of (File n) k)) h.ready.number

  none_before : (a index : ℕ) → ¬ (holder_at h.before.blocks.holders a ≡ Some (block_of (File b.next) index))
  none_before = none_yet h.makes.stood.held h.makes.stood.takings h.before b tables_then.tables

  only_own : (a index : ℕ) → holder_at s.parts.blocks.holders a ≡ Some (block_of (File b.next) index) → index < length addresses
  only_own a index e =
      subst (λ n. index < n) (ap (λ (x : Shape). blocks_for x.block take.len) in_shape ∙ sym h.many)
      (next_only h.makes.stood.held h.makes.stood.takings s.parts b next.pieces take.len h.ready.runs
      (h.pieces ∙ ap (λ n. pieces_of (spots_from n 0 take.len)) h.ready.number) a index e)

  frame : frame_size last.form last.kept.shape.block effect ≡ 5 + length next.payload.items
  frame =
      let form : b.form ≡ last.form = h.makes.stood.upright.fills.form in
      let size = size_again b.form last.kept.shape.block addresses effect (count last.kept.shape.block (ap (λ (x : Shape). x.block) h.makes.stood.upright.seated.shape)) in
      ap (λ n. 5 + n) (sym (ap length h.ready.payload ∙ ap (λ x. length (spelling x)) the_change ∙ size ∙ ap (λ f. 17 + sizes.address_size f * blocks_for last.kept.shape.block (length (recording last.next bytes))) form))

  abbrev reply : Reply
  reply = replies.Rope next.id (samples_in next.pieces)

  reply_is : reply_of last (tapes_of s) (calls.Record take) ≡ reply
  reply_is = ap (replies.Rope last.next) (samples_many ∙ sym samples_are) ∙ ap (λ n. replies.Rope n (samples_in next.pieces)) (sym (h.ready.number ∙ number))

  abbrev pub later : Spot → Tagged
  later = later_fill h.makes.stood.fill last.next bytes

  brings_kept : durable_by later (acted b change).kept ≡ changed last.form last.kept effect
  brings_kept =
      ap (λ c. durable_by later (acted b c).kept) the_change
      ∙ brings_recording h.makes.stood.fill h.makes.stood.upright.fills.spots last.next bytes b addresses tables_then.tables.placed (subst (λ n. b.next ≤ n) number (omega arith))
      ∙ ap (λ f. changed f (durable_by h.makes.stood.fill b.kept) effect) h.makes.stood.upright.fills.form
      ∙ ap (λ d. changed last.form d effect) h.makes.stood.upright.fills.kept

  -- ---- after the write

  module _ (new : Told) (laws : Foundations) (later_on : old.calls ≤ new.calls) (sizes_same : new.size ≡ old.size) (alike : new.honest ≡ old.honest)
      (moments : IsTrue old.honest → IsLater old new) (wrote : IsTrue old.honest → WroteAt s.journal.shape addresses old new) where
    to_old : IsTrue new.honest → IsTrue old.honest
    to_old h = subst (λ (x : Bool). IsTrue x) alike h

    spared : IsTrue old.honest → SparesWithin s.journal.shape b old new
    spared is =
        subst (λ (x : Shape). SparesWithin x b old new) in_shape
        (spares_within b addresses (below_at b addresses h.spare) (free_at b addresses h.spare tables_then.tables.used) old new
        (subst (λ (x : Shape). WroteAt x addresses old new) (sym in_shape) (wrote is)))

    held_on : (after' : Rebuilt) → IsHeld first (tapes_of s) t0 s.journal old b after' s.history.items → IsTrue old.honest → IsHeld first (tapes_of s) t0 s.journal new b after' s.history.items
    held_on after' held is = (writes_carry laws old new).spared first (tapes_of s) t0 s.journal b after' s.history.items (moments is) held (spared is) (λ some. absurd (wrong (sym (ap (λ (o : Option Pending). is_some o) tables_then.in_state) ∙ some)))

    whole_on : IsTrue new.honest → (to : Holders) → KeepsAddresses s.parts.blocks.holders to → (lane : ℕ) → HasWhole s.journal.shape new.bytes to lane (taking_of last lane)
    whole_on is to keeps =
        elsewhere_whole h.makes.stood.fill h.makes.stood.upright.fills.spots s.journal.shape b.next addresses old.bytes new.bytes h.before.blocks.holders s.parts.blocks.holders h.handed none_before own
        (wrote (to_old is)).bytes (h.makes.stood.upright.bytes (to_old is)).filled last (h.makes.stood.upright.bytes (to_old is)).whole to keeps

    back_filled : (parts : Parts) → KeepsAddresses s.parts.blocks.holders parts.blocks.holders → Runs h.makes.stood.held [] h.makes.stood.takings parts b → IsTrue new.honest → HaveBytes h.makes.stood.fill s.journal.shape new.bytes parts.blocks.holders last
    back_filled parts keeps shows is = record {
      filled = unwritten_filled h.makes.stood.fill h.makes.stood.upright.fills.spots s.journal.shape b.next addresses old.bytes new.bytes h.before.blocks.holders s.parts.blocks.holders h.handed none_before own
          (wrote (to_old is)).bytes (h.makes.stood.upright.bytes (to_old is)).filled parts.blocks.holders keeps (none_yet h.makes.stood.held h.makes.stood.takings parts b shows);
      whole = whole_on is parts.blocks.holders keeps;
    }

    all_filled : (IsTrue old.honest → HasBytes new.bytes s.journal.shape addresses bytes) → (IsTrue old.honest → IsPadded new.bytes s.journal.shape addresses (length bytes)) → IsTrue new.honest → HaveBytes later s.journal.shape new.bytes s.parts.blocks.holders last
    all_filled has padded is = record {
      filled = subst (λ n. IsFilled (later_fill h.makes.stood.fill n bytes) s.journal.shape new.bytes s.parts.blocks.holders) number
          (written_filled h.makes.stood.fill h.makes.stood.upright.fills.spots s.journal.shape b.next addresses old.bytes new.bytes h.before.blocks.holders s.parts.blocks.holders h.handed none_before own
          (wrote (to_old is)).bytes (h.makes.stood.upright.bytes (to_old is)).filled bytes only_own h.ready.runs.given.single (has (to_old is)) (padded (to_old is)));
      whole = whole_on is s.parts.blocks.holders (λ a holder held. held);
    }

    held_now : IsTrue new.honest → IsHeld first (tapes_of s) t0 s.journal new b b s.history.items
    held_now is = held_on b (subst (λ x. IsHeld first (tapes_of s) t0 s.journal old b x s.history.items) tables_then.same (h.makes.stood.upright.held (to_old is))) (to_old is)

    -- the tables hold these blocks or not, as the disk has them
    upright_on : (parts : Parts) → (IsTrue new.honest → HaveBytes h.makes.stood.fill s.journal.shape new.bytes parts.blocks.holders last) → Upright first t0 new (record s { parts = parts }) h.makes.stood.fill b b
    upright_on parts filled = let up = h.makes.stood.upright in record {
      legal = as_honest first old new s alike up.legal;
      valid = up.valid;
      fills = up.fills;
      seated = up.seated;
      acks = acks_later t0 s.history.items old.calls new.calls up.acks later_on;
      held = held_now;
      bytes = filled;
    }

    -- the recording's bytes are filled in besides
    upright_later : (IsTrue new.honest → HaveBytes later s.journal.shape new.bytes s.parts.blocks.holders last) → Upright first t0 new s later b b
    upright_later filled = let up = h.makes.stood.upright in record {
      legal = as_honest first old new s alike up.legal;
      valid = up.valid;
      fills = record {
        spots = later_spots h.makes.stood.fill up.fills.spots last.next bytes;
        kept = kept_before h.makes.stood.fill up.fills.spots last.next bytes b tables_then.tables.placed (subst (λ n. b.next ≤ n) number (omega arith)) ∙ up.fills.kept;
        form = up.fills.form;
      };
      seated = up.seated;
      acks = acks_later t0 s.history.items old.calls new.calls up.acks later_on;
      held = held_now;
      bytes = filled;
    }

    -- the lanes play on over tables that show the same
    plays_by : (parts : Parts) → Shows h.makes.stood.held parts b.kept → Plays h.makes.stood.fill new.honest (record s { parts = parts }) last
    plays_by parts shows =
        playing_as_honest h.makes.stood.fill old.honest new.honest s.journal.shape.block parts.ropes s.lanes s.made s.recordings last alike
        (playing_by h.makes.stood.held h.before parts b.kept tables_then.tables.kept shows h.makes.stood.fill old.honest s.journal.shape.block s.lanes s.made s.recordings last h.makes.stood.playing)

    -- also where the recording's bytes are filled in
    plays_later : Plays later new.honest s last
    plays_later =
        playing_later h.makes.stood.fill h.makes.stood.upright.fills.spots last.next bytes new.honest s.journal.shape.block h.makes.stood.held (next.pieces ∷ []) h.makes.stood.takings s.parts b s.lanes s.made s.recordings last
        h.ready.runs number refl (plays_by s.parts h.ready.runs.kept)

    -- all was written
    pub trying_recording : (caller : ℕ) → (IsTrue old.honest → HasBytes new.bytes s.journal.shape addresses bytes) → (IsTrue old.honest → IsPadded new.bytes s.journal.shape addresses (length bytes)) → (answer : Reply) → answer ≡ reply → Trying first t0 new s b (goings.Change (changes.Rope next)) change effect caller (calls.Record take) answer
    trying_recording caller has padded answer answers = record {
      fill = later;
      upright = upright_later (all_filled has padded);
      sure = h.makes.sure;
      in_journal = tables_then.in_journal;
      held = h.makes.stood.held;
      takings = h.makes.stood.takings;
      more = h.makes.stood.takings;
      holding = h.makes.stood.holding;
      ready = (refl, h.ready);
      holding_then = h.makes.stood.holding;
      jobs = refl;
      takes = takes_same last last refl;
      recorded = h.makes.stood.playing.recorded;
      will_have = λ told. tt;
      playing = plays_later;
      addresses = addresses;
      change = the_change;
      lanes = last.lanes;
      may = may caller;
      replies = reply_is ∙ sym answers;
      in_range = tt;
      brings_it = record { spots = later_spots h.makes.stood.fill h.makes.stood.upright.fills.spots last.next bytes; kept = brings_kept };
      does = λ is.
          let sound = (standing_gives laws new).now first (tapes_of s) t0 s.journal b b s.history.items (moments (to_old is)).is (held_now is) in
          ap (λ c. recovered new.bytes (acted b c)) the_change
          ∙ call_does new.bytes b last (tapes_of s) (calls.Record take) addresses effect sound.fills sound.form sound.placed refl
          (count b.shape.block (ap (λ (x : Shape). x.block) in_shape), h.differ, h.spare)
          (subst (λ (x : Shape). HasBytes new.bytes x addresses (bytes_of (recording last.next bytes))) (sym in_shape)
          (subst (λ (l : List ℕ). HasBytes new.bytes s.journal.shape addresses l) (sym (bytes_recorded last.next 0 bytes)) (has (to_old is))));
      frame = frame;
      size = let is = h.makes.stood.size in omega (arith, is, sizes_same);
    }

    -- a write failed, and the blocks are free again
    pub stood_unwritten : (caller : ℕ) (parts : Parts) (history : Vec Entry Global) → Runs h.makes.stood.held [] h.makes.stood.takings parts b → KeepsAddresses s.parts.blocks.holders parts.blocks.holders → history.items ≡ s.history.items ++ entry_of caller (calls.Record take) (replies.No why.DiskFault) new.calls ∷ []
        → Stood first t0 new (record s { parts = parts; history = history })
    stood_unwritten caller parts history shows keeps items =
        let back : Stood first t0 new (record s { parts = parts }) = record {
          fill = h.makes.stood.fill;
          b = b;
          after = b;
          held = h.makes.stood.held;
          takings = h.makes.stood.takings;
          holding = h.makes.stood.holding;
          upright = upright_on parts (back_filled parts keeps shows);
          tables = inl (record { sure = h.makes.sure; in_journal = tables_then.in_journal; in_state = tables_then.in_state; tables = shows; same = refl });
          playing = plays_by parts shows.kept;
          size = let is = h.makes.stood.size in omega (arith, is, sizes_same);
        } in
        let faults = (may caller).faults in
        stood_noted first t0 new (record s { parts = parts }) history (entry_of caller (calls.Record take) (replies.No why.DiskFault) new.calls) items refl
        (answer_on new.honest last (tapes_of s) (entry_of caller (calls.Record take) (replies.No why.DiskFault) new.calls) faults.answers) (faults.stays new.calls)
        (λ is. (moments (to_old is)).is) (entries_count new) back
