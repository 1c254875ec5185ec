-- An End whose rope is ready: its addresses and its change.
use Rattle.std.proofs.Common.{◌≡◌, inr, ℕ, ◌+◌, ◌-◌, ◌*◌, ◌/◌, ◌<◌, ◌≤◌, ◌==◌, ◌&&◌, Bool, true, cond, List, [], length, None, Some, IsTrue, sym, ◌∙◌, ap, subst, arith}
use Rattle.std.specs.Prelude.{slice_index, nat_le}
use Rattle.std.specs.List.{list_all}
use Rattle.std.proofs.lemmas.List.{get_or-drop, length-drop}
use Rattle.voice_units.specs.declared.shapes.Shape.{Shape}
use Rattle.voice_units.specs.Spots.{Spot, samples_in}
use Rattle.voice_units.specs.Blocks.{blocks_for}
use Rattle.voice_units.proofs.PiecesOfRopes.{both}
use Rattle.voice_outside.specs.Disk.{Told}
use Rattle.voice_blocks.specs.Holders.{Holders, holder_at, block_of}
use Rattle.voice_blocks.specs.declared.owner.Owner.TheVariants.{File, Taking}
use Rattle.voice_model.specs.Samples.{Tagged, recording}
use Rattle.voice_model.specs.State.{State, Effect}
use Rattle.voice_model.specs.Changes.{changed, frame_size, taking_of}
use Rattle.voice_model.specs.Changes as sizes
use Rattle.voice_model.specs.Step.{refusal, reply_of}
use Rattle.voice_model.specs.Base.{change_of}
use Rattle.voice_model.specs.Spelling.{spelling}
use Rattle.voice_model.specs.Replay.{Rebuilt, acted, durable_by, all_differ, is_free_address}
use Rattle.voice_model.specs.declared.calls.Call.TheVariants as calls
use Rattle.voice_model.specs.declared.calls.Reply.{Reply}
use Rattle.voice_model.specs.declared.calls.Reply.TheVariants as replies
use Rattle.voice_model.specs.declared.changes.Change.{Change}
use Rattle.voice_model.specs.declared.changes.Change.TheVariants as kinds
use Rattle.voice_model.proofs.FitsOfCalls.{recorded_length}
use Rattle.voice_model.proofs.ChangesOfEffects.{size_again}
use Rattle.running_tables.specs.Running.{takings_of}
use Rattle.running_tables.proofs.Taken.{none_yet}
use Rattle.next_ropes.specs.Ready.{next_change}
use Rattle.next_ropes.specs.declared.NextRope.{NextRope}
use Rattle.next_ropes.proofs.Readied.{recorded_samples}
use Rattle.open_recordings.specs.Blocks.{AreAddresses}
use Rattle.open_recordings.proofs.Counted.{index_low}
use Rattle.open_recordings.proofs.Spelled.{may_end}
use Rattle.record_job.specs.Recording.{filled_up, rest_of}
use Rattle.fillings.specs.Laws.{HasBytes}
use Rattle.recording_writer.specs.Wrote.{WroteAt, AreBelow, AreDistinct}
use Rattle.recording_adds.specs.Adds.{IsOpenTo, WroteOwn}
use Rattle.recording_adds.proofs.Listed.{held_at, are_below}
use Rattle.recording_adds.proofs.Numbers.{some_block, whole_needed}
use Rattle.voice_store.specs.declared.inside.Inside.{Inside}
use Rattle.voice_store.specs.declared.going.Going.{Going}
use Rattle.voice_store.specs.declared.going.Going.TheVariants as goings
use Rattle.voice_store.specs.Filled.{IsFilled}
use Rattle.voice_store.specs.Going.{IsGoing, IsGoingIn}
use Rattle.voice_store.specs.Stood.{last_of, tapes_of, IsSure, Stood}
use Rattle.voice_store.specs.Facts.{MayCommit}
use Rattle.voice_store.specs.Ends.{HoldsEnding, ended_by, last_bytes, whole_in, last_addresses}
use Rattle.voice_store.proofs.Kept.{is_sure, same_number, same_shape}
use Rattle.voice_store.proofs.Taking.{later_fill, later_other, brings_recording}
use Rattle.crash_laws.proofs.Spared.{distinct_at}
use Rattle.voice_store.proofs.Endable.{ending_free}
use Rattle.voice_store.proofs.Closing.{total_shown, closed_ended, lanes_closed, ending_may}
use Rattle.voice_store.proofs.LastBlock.{last_is}

-- a recording that ends on its way brings one rope
pub same_ending : (going : Going) (lane on : ℕ) (a b : NextRope) → going ≡ goings.Ending lane a → going ≡ goings.Ending on b → a ≡ b
same_ending going lane on a b p q = let e : goings.Ending lane a ≡ goings.Ending on b = sym p ∙ q in cc

module _ (first : State) (t0 : ℕ) (old : Told) (s : Inside) (lane : ℕ) (rope : NextRope) (h : HoldsEnding first t0 old s lane rope) where
  abbrev last : State
  last = last_of first s

  abbrev bytes : List ℕ
  bytes = taking_of last lane

  abbrev effect : Effect Tagged
  effect = ended_by last lane

  abbrev stood : Stood first t0 old s
  stood = h.ends.stood

  abbrev pub b : Rebuilt
  b = h.ends.stood.b

  abbrev pub change : Change
  change = next_change b.form rope

  abbrev addresses : List ℕ
  addresses = rope.addresses.items

  abbrev holders : Holders
  holders = s.parts.blocks.holders

  abbrev shape : Shape
  shape = s.journal.shape

  abbrev from : ℕ
  from = length bytes / shape.block

  pub tables : IsSure stood.held stood.takings s b stood.after last
  tables = is_sure first t0 old s stood h.ends.sure

  pub in_shape : b.shape ≡ s.journal.shape
  in_shape = same_shape first t0 old s stood h.ends.sure

  pub number : b.next ≡ last.next
  number = same_number first t0 old s stood h.ends.sure

  pub block_same : last.shape.block ≡ shape.block
  block_same = ap (λ (x : Shape). x.block) stood.upright.seated.shape

  samples_are : samples_in rope.pieces ≡ length bytes
  samples_are = recorded_samples rope.id (length bytes) rope.pieces h.pieces

  samples_many : length (recording last.next bytes) ≡ length bytes
  samples_many = recorded_length last.next 0 bytes

  spelled_as : (form : ℕ) → next_change form rope ≡ change_of form addresses effect
  spelled_as form =
      ap (λ (is : Bool). cond is (cond (form == 2) (kinds.Wide rope.id (samples_in rope.pieces) addresses) (kinds.Recorded rope.id (samples_in rope.pieces) addresses)) (kinds.Edited rope.id rope.pieces)) h.ready.recorded
      ∙ ap (λ n. cond (form == 2) (kinds.Wide n (samples_in rope.pieces) addresses) (kinds.Recorded n (samples_in rope.pieces) addresses)) (h.ready.number ∙ number)
      ∙ ap (λ n. cond (form == 2) (kinds.Wide last.next n addresses) (kinds.Recorded last.next n addresses)) (samples_are ∙ sym samples_many)

  pub the_change : change ≡ change_of b.form addresses effect
  the_change = spelled_as b.form

  pub unrefused : refusal last (tapes_of s) (calls.End lane) ≡ None
  unrefused = ending_free first t0 old s lane h.ends h.free

  pub may : (caller : ℕ) → MayCommit last (tapes_of s) caller (calls.End lane) effect (lanes_closed last lane)
  may caller = ending_may last (tapes_of s) caller lane tables.in_state unrefused

  -- what open recordings have taken once it counts
  abbrev pub ending_more : List ℕ
  ending_more = takings_of shape.block (lanes_closed last lane)

  pub ending_ready : IsGoing stood.held stood.takings ending_more s.parts b (goings.Ending lane rope) change
  ending_ready = (closed_ended last lane shape.block stood.takings stood.holding.recordings, h.ready)

  pub ending_going : IsGoingIn s.journal.shape s.parts (goings.Ending lane rope)
  ending_going = record { held = stood.held; takings = stood.takings; more = ending_more; b = b; c = change; ready = ending_ready; in_shape = in_shape }

  -- ---- its addresses

  blocks_same : blocks_for b.shape.block (length bytes) ≡ blocks_for shape.block (length bytes)
  blocks_same = ap (λ (x : Shape). blocks_for x.block (length bytes)) in_shape

  listed_there : AreAddresses holders (Taking lane) 0 (blocks_for b.shape.block (length bytes)) addresses
  listed_there = subst (λ n. AreAddresses holders (Taking lane) 0 n addresses) (h.ready.blocks ∙ ap (blocks_for b.shape.block) samples_are) h.ready.addresses

  pub listed : AreAddresses holders (Taking lane) 0 (blocks_for shape.block (length bytes)) addresses
  listed = subst (λ n. AreAddresses holders (Taking lane) 0 n addresses) blocks_same listed_there

  pub many : length addresses ≡ blocks_for shape.block (length bytes)
  many = listed.many

  pub only : (a index : ℕ) → holder_at holders a ≡ Some (block_of (Taking lane) index) → index < blocks_for shape.block (length bytes)
  only a index held =
      subst (λ n. index < n) (h.ready.blocks ∙ ap (blocks_for b.shape.block) samples_are ∙ blocks_same) (index_low holders _ _ stood.takings tables.tables.given lane a index held)

  pub spare : list_all (is_free_address b) addresses ≡ true
  spare =
      (both (nat_le b.next b.next && (length addresses == blocks_for b.shape.block (length bytes)) && all_differ addresses) (list_all (is_free_address b) addresses)
      (may_end stood.held [] stood.takings s.parts b tables.tables lane (length bytes) addresses listed_there)).1

  pub count : (block : ℕ) → block ≡ shape.block → length addresses ≡ blocks_for block (length (recording last.next bytes))
  count block is = many ∙ ap (λ n. blocks_for n (length bytes)) (sym is) ∙ ap (blocks_for block) (sym samples_many)

  pub whole_is : whole_in s lane ≡ from
  whole_is = ap (λ n. n / shape.block) (total_shown s.recordings last lane stood.playing.recorded)

  abbrev tail : List ℕ
  tail = last_addresses s lane rope

  tail_at : (k : ℕ) → slice_index tail k ≡ slice_index addresses (whole_in s lane + k)
  tail_at k = get_or-drop (whole_in s lane) addresses k 0

  tail_within : (k : ℕ) → k < length tail → whole_in s lane + k < length addresses
  tail_within k less = let cut = length-drop (whole_in s lane) addresses in omega (arith, cut, less)

  -- those behind the whole blocks are of the lane's recording
  tail_open : (k : ℕ) → k < length tail → IsOpenTo holders lane from (slice_index tail k)
  tail_open k less =
      inr (
        whole_in s lane + k,
        omega (arith, whole_is),
        ap (holder_at holders) (tail_at k) ∙ held_at holders (Taking lane) 0 (blocks_for shape.block (length bytes)) addresses listed (whole_in s lane + k) (tail_within k less)
            ∙ ap (λ n. Some (block_of (Taking lane) n)) (let e : 0 + (whole_in s lane + k) ≡ whole_in s lane + k = omega arith in e),
      )

  tail_held : AreBelow (length holders) tail
  tail_held k less =
      subst (λ a. a < length holders) (sym (tail_at k)) (are_below holders (Taking lane) 0 (blocks_for shape.block (length bytes)) addresses listed (whole_in s lane + k) (tail_within k less))

  pub tail_below : AreBelow shape.blocks tail
  tail_below = subst (λ n. AreBelow n tail) (tables.tables.size ∙ ap (λ (x : Shape). x.blocks) in_shape) tail_held

  pub tail_distinct : AreDistinct tail
  tail_distinct j k less_j less_k same =
      let one : whole_in s lane + j ≡ whole_in s lane + k = distinct_at addresses h.differ (whole_in s lane + j) (whole_in s lane + k) (tail_within j less_j) (tail_within k less_k) (sym (tail_at j) ∙ same ∙ tail_at k) in
      omega (arith, one)

  pub tail_many : length tail ≡ length addresses - whole_in s lane
  tail_many = length-drop (whole_in s lane) addresses

  pub whole_within : whole_in s lane ≤ length addresses
  whole_within = let all = whole_needed shape.block (length bytes) (some_block shape) in omega (arith, all, whole_is, many)

  -- as many as the last block needs
  pub tail_enough : length tail ≡ blocks_for shape.block (length (last_bytes last lane))
  tail_enough =
      let last_one = (last_is shape.block (some_block shape) bytes).blocks in
      tail_many ∙ (let e : length addresses - whole_in s lane ≡ blocks_for shape.block (length bytes) - from = omega (arith, many, whole_is) in e) ∙ sym last_one
      ∙ ap (λ n. blocks_for shape.block (length (filled_up n (rest_of n bytes)))) (sym block_same)

  -- what was written is the last block of the state
  pub has_last : (new : Told) (written : List ℕ) → written ≡ last_bytes last lane → (IsTrue old.honest → HasBytes new.bytes shape tail written) → IsTrue old.honest → HasBytes new.bytes shape tail (last_bytes last lane)
  has_last new written is has honest = subst (λ (l : List ℕ). HasBytes new.bytes shape tail l) is (has honest)

  pub wrote_own : (new : Told) → WroteAt shape tail old new → WroteOwn shape holders lane from old new
  wrote_own new wrote = record { addresses = tail; own = tail_open; below = tail_held; wrote = wrote }

  -- ---- its change

  pub frame : frame_size last.form last.kept.shape.block effect ≡ 5 + length rope.payload.items
  frame =
      let form : b.form ≡ last.form = stood.upright.fills.form in
      let size = size_again b.form last.kept.shape.block addresses effect (count last.kept.shape.block block_same) in
      ap (λ n. 5 + n) (sym (ap length h.ready.payload ∙ ap (λ x. length (spelling x)) the_change ∙ size ∙ ap (λ f. 17 + sizes.address_size f * blocks_for last.kept.shape.block (length (recording last.next bytes))) form))

  abbrev reply : Reply
  reply = replies.Rope rope.id (samples_in rope.pieces)

  pub reply_is : reply_of last (tapes_of s) (calls.End lane) ≡ reply
  reply_is = ap (replies.Rope last.next) (samples_many ∙ sym samples_are) ∙ ap (λ n. replies.Rope n (samples_in rope.pieces)) (sym (h.ready.number ∙ number))

  abbrev later : Spot → Tagged
  later = later_fill stood.fill last.next bytes

  pub brings_kept : durable_by later (acted b change).kept ≡ changed last.form last.kept effect
  brings_kept =
      ap (λ c. durable_by later (acted b c).kept) the_change
      ∙ brings_recording stood.fill stood.upright.fills.spots last.next bytes b addresses tables.tables.placed (subst (λ n. b.next ≤ n) number (omega arith))
      ∙ ap (λ f. changed f (durable_by stood.fill b.kept) effect) stood.upright.fills.form
      ∙ ap (λ d. changed last.form d effect) stood.upright.fills.kept

  -- no block of the new file has an address yet
  pub later_filled : (image : List ℕ) → IsFilled stood.fill shape image holders → IsFilled later shape image holders
  later_filled image was = record {
    each = λ a f index k held less.
        was.each a f index k held less
        ∙ sym (later_other stood.fill stood.upright.fills.spots last.next bytes (record { file = f; place = index * shape.block + k })
        (λ same. none_yet stood.held stood.takings s.parts b tables.tables a index (held ∙ ap (λ n. Some (block_of (File n) index)) (same ∙ sym number))));
  }
