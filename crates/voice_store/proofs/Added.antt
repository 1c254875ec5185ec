-- A recording that takes more bytes: an Add in the store.
use Rattle.std.proofs.Common.{◌≡◌, ◌⊎◌, inl, inr, ⊎_elim, ℕ, ◌+◌, ◌-◌, ◌/◌, ◌<◌, ◌≤◌, ◌==◌, Bool, true, false, List, [], ◌∷◌, ◌++◌, length, Option, Some, None, is_some, IsTrue, refl, sym, ◌∙◌, ap, subst, arith, eq-eqb}
use Rattle.std.specs.Prelude.{Vec, nat_le, nat_lt, unwrap_or}
use Rattle.std.specs.declared.alloc.Global.{Global}
use Rattle.std.proofs.lemmas.Bool.{eqb-true, ltb-false, leb-false, lt-ltb}
use Rattle.std.proofs.lemmas.List.{get_or-set_same, get_or-set_other, length-append}
use Rattle.voice_units.specs.Blocks.{blocks_for}
use Rattle.voice_units.specs.declared.pieces.Piece.{Piece}
use Rattle.voice_units.specs.declared.pieces.Take.{Take}
use Rattle.voice_units.specs.declared.shapes.Shape.{Shape}
use Rattle.voice_outside.specs.Disk.{Told}
use Rattle.voice_blocks.specs.Holders.{block_of, open_in}
use Rattle.voice_blocks.specs.declared.owner.Owner.TheVariants.{File, Taking}
use Rattle.voice_journal.specs.Places.{landed as landed_seat}
use Rattle.voice_model.specs.State.{State, LaneState, Pending, quiet_lane, lane_at}
use Rattle.voice_model.specs.Room.{free, taking_blocks}
use Rattle.voice_model.specs.Changes.{taking_of}
use Rattle.voice_model.specs.Tapes.{taken as taken_of}
use Rattle.voice_model.specs.Step.{conditions, landed, on_lanes, reaches_device, refusal, state_after, IsReply}
use Rattle.voice_model.specs.Replay.{Rebuilt}
use Rattle.voice_model.specs.Valid.{IsState}
use Rattle.voice_model.specs.declared.calls.Call.{Call}
use Rattle.voice_model.specs.declared.calls.Call.TheVariants as calls
use Rattle.voice_model.specs.declared.calls.Reply.{Reply}
use Rattle.voice_model.specs.declared.calls.Reply.TheVariants as replies
use Rattle.voice_model.specs.declared.calls.Why.TheVariants as why
use Rattle.voice_model.specs.declared.calls.Entry.{Entry}
use Rattle.voice_model.proofs.FitsOfCalls.{all_none, not_when}
use Rattle.voice_model.proofs.Heard.{answer_on, reply_on}
use Rattle.voice_model.proofs.StatesKept.{state_kept}
use Rattle.recovery.specs.declared.parts.Parts.{Parts}
use Rattle.running_tables.specs.Running.{Runs, taken, takings_of}
use Rattle.running_tables.specs.Laws.{HasGrown}
use Rattle.record_job.specs.Recording.{Recording}
use Rattle.open_recordings.specs.Blocks.{HandsOut}
use Rattle.recording_calls.specs.Shown.{ShowsRecordings}
use Rattle.recording_adds.specs.Adds.{HasWhole, HoldsBlocks, blocks_more, whole_more}
use Rattle.recording_adds.proofs.Numbers.{blocks_rise, some_block}
use Rattle.next_ropes.specs.Addresses.{KeepsAddresses}
use Rattle.next_changes.specs.Next.{pledges}
use Rattle.next_changes.proofs.Given.{given}
use Rattle.crash_laws.specs.Standing.{IsHonest}
use Rattle.crash_laws.specs.Calls.{KeepsDurable}
use Rattle.crash_laws.specs.Laws.{EntriesCount}
use Rattle.voice_store.specs.declared.inside.Inside.{Inside}
use Rattle.voice_store.specs.DeviceCalls.{add_calls, calls_unless}
use Rattle.voice_store.specs.Facts.{Stays, entry_of, landing_at}
use Rattle.voice_store.specs.Filled.{HaveBytes, IsFilled}
use Rattle.voice_store.specs.Stood.{tapes_of, last_of, Fills, IsSeated, IsHolding, IsSure, IsUnsure, Plays, Stood}
use Rattle.voice_store.proofs.Begun.{below_taking, blocks_of_taking, held_taking, shows_taking, taken_at}
use Rattle.voice_store.proofs.Owned.{runs_now}
use Rattle.voice_store.proofs.Pushed.{stood_pushed}
use Rattle.voice_store.proofs.Refused.{after_answered, is_reply, may_answer, stays_home}
use Rattle.voice_store.proofs.Settled.{is_true, shape_of}
use Rattle.voice_store.proofs.Spare.{free_is_open}
use Rattle.voice_store.proofs.Turned.{SameButLanes, fills_moved, landed_same, seated_moved}
use Rattle.voice_store.proofs.Remapped.{grown_ready, same_interests, same_ropes, used_still}

module _ (first : State) (t0 : ℕ) (disk : Told) (s : Inside) (stood : Stood first t0 disk s) (lane : ℕ) (take : Take) (unrefused : refusal (last_of first s) (tapes_of s) (calls.Add lane take) ≡ None) where
  abbrev state : State
  state = last_of first s

  abbrev bytes : List ℕ
  bytes = taken_of (tapes_of s) take

  abbrev before : List ℕ
  before = taking_of state lane

  abbrev then : State
  then = on_lanes state (tapes_of s) (calls.Add lane take)

  abbrev longer : LaneState
  longer = record (lane_at state lane) { taking = Some (before ++ bytes) }

  abbrev block : ℕ
  block = s.journal.shape.block

  same_block : state.shape.block ≡ block
  same_block = ap (λ (x : Shape). x.block) stood.upright.seated.shape

  -- ---- what no refusal says

  known : lane < length state.lanes
  known =
      let told = (all_none (conditions state (tapes_of s) (calls.Add lane take)) unrefused).0 in
      let less = leb-false state.shape.lanes lane (not_when (nat_le state.shape.lanes lane) (why.UnknownLane state.shape.lanes) told) in
      let many = stood.upright.valid.lane_count in
      omega (arith, less, many)

  -- so many blocks are free
  pub has_free : (total n : ℕ) → total ≡ length before → n ≡ length bytes → blocks_more block total n ≤ open_in s.parts.blocks.holders
  has_free total n total_is n_is =
      let need = blocks_for state.shape.block (length before + length bytes) - blocks_for state.shape.block (length before) in
      let told = (all_none (conditions state (tapes_of s) (calls.Add lane take)) unrefused).1.1.1.0 in
      let fits = ltb-false (free state) need (not_when (nat_lt (free state) need) (why.NoRoom need (free state)) told) in
      let spare = free_is_open first t0 disk s stood in
      let same : need ≡ blocks_more block total n =
      ap (λ x. blocks_for x (length before + length bytes) - blocks_for x (length before)) same_block
      ∙ ap (λ m. blocks_for block (m + length bytes) - blocks_for block m) (sym total_is) ∙ ap (λ m. blocks_more block total m) (sym n_is) in
      omega (arith, fits, spare, same)

  -- ---- the blocks that it takes

  taken_before : taken stood.takings lane ≡ blocks_for block (length before)
  taken_before = ap (λ (l : List ℕ). taken l lane) stood.holding.recordings ∙ taken_at block state.lanes lane ∙ blocks_of_taking block (lane_at state lane).taking

  pub holds_blocks : (total : ℕ) → total ≡ length before → HoldsBlocks s.journal.shape lane total s.parts
  holds_blocks total is =
      let now = runs_now first t0 disk disk s stood lane 0 in
      record { held = stood.held; pledged = now.0; takings = stood.takings; what = stood.b; runs = now.1; in_shape = shape_of first t0 disk s stood; blocks = taken_before ∙ ap (blocks_for block) (sym is) }

  abbrev more : List ℕ
  more = takings_of block then.lanes

  lane_then : lane_at then lane ≡ longer
  lane_then = get_or-set_same state.lanes lane longer quiet_lane known

  lane_else : (l : ℕ) → ¬ (l ≡ lane) → lane_at then l ≡ lane_at state l
  lane_else l other = get_or-set_other state.lanes lane l longer quiet_lane other

  has_grown : (total n : ℕ) → total ≡ length before → n ≡ length bytes → HasGrown lane (blocks_more block total n) stood.takings more
  has_grown total n total_is n_is = record {
    here =
        let now : taken more lane ≡ blocks_for block (length (before ++ bytes)) = taken_at block then.lanes lane ∙ ap (λ (l : LaneState). taking_blocks block l.taking) lane_then in
        let all : blocks_for block (length (before ++ bytes)) ≡ blocks_for block (total + n) = ap (blocks_for block) (length-append before bytes) ∙ ap (λ m. blocks_for block (m + length bytes)) (sym total_is) ∙ ap (λ m. blocks_for block (total + m)) (sym n_is) in
        let was : taken stood.takings lane ≡ blocks_for block total = taken_before ∙ ap (blocks_for block) (sym total_is) in
        let rise = blocks_rise block total n (some_block s.journal.shape) in
        omega (arith, now, all, was, rise);
    elsewhere = λ l other.
        taken_at block then.lanes l ∙ ap (λ (x : LaneState). taking_blocks block x.taking) (lane_else l other) ∙ sym (taken_at block state.lanes l) ∙ ap (λ (ts : List ℕ). taken ts l) (sym stood.holding.recordings);
  }

  -- ---- a device fault

  pub fault_stays : (total n : ℕ) → total ≡ length before → n ≡ length bytes → 0 < whole_more block total n → (honest : Bool) (caller : ℕ) → Stays honest state (tapes_of s) caller (calls.Add lane take) (replies.No why.DiskFault)
  fault_stays total n total_is n_is some honest caller =
      let low = length before / state.shape.block in
      let high = (length before + length bytes) / state.shape.block in
      let low_is : low ≡ total / block = ap (λ x. length before / x) same_block ∙ ap (λ m. m / block) (sym total_is) in
      let high_is : high ≡ (total + n) / block = ap (λ x. (length before + length bytes) / x) same_block ∙ ap (λ m. (m + length bytes) / block) (sym total_is) ∙ ap (λ m. (total + m) / block) (sym n_is) in
      let reaches : IsTrue (reaches_device state (tapes_of s) (calls.Add lane take)) = lt-ltb low high (omega (arith, some, low_is, high_is)) in
      record {
        answers = reply_on honest state (tapes_of s) caller (calls.Add lane take) (replies.No why.DiskFault) (is_reply state (tapes_of s) caller (calls.Add lane take) (replies.No why.DiskFault) refl (inr (unrefused, reaches)));
        stays = λ ack. stays_home state (calls.Add lane take) refl;
      }

  -- ---- how many calls it takes

  pub within_add : (total n old new : ℕ) → total ≡ length before → n ≡ length bytes → new ≤ old + whole_more block total n → new ≤ old + add_calls state (tapes_of s) lane take
  unfolding add_calls
  within_add total n old new total_is n_is most =
      let same : whole_more block total n ≡ add_calls state (tapes_of s) lane take =
      ap (λ x. whole_more x total n) (sym same_block) ∙ ap (λ m. whole_more state.shape.block m n) total_is ∙ ap (λ m. whole_more state.shape.block (length before) m) n_is
      ∙ ap (λ o. calls_unless o (whole_more state.shape.block (length before) (length bytes))) (sym unrefused) in
      omega (arith, most, same)

  -- ---- it is answered

  module _ (caller total n : ℕ) (parts : Parts) (recordings : List (Option Recording)) (history : Vec Entry Global) (total_is : total ≡ length before) (n_is : n ≡ length bytes) (rest : parts ≡ record s.parts { blocks = parts.blocks }) where
    abbrev s' : Inside
    s' = record s { parts = parts; recordings = recordings; history = history }

    abbrev call : Call
    call = calls.Add lane take

    abbrev reply : Reply
    reply = replies.Number (total + n)

    abbrev entry : Entry
    entry = entry_of caller call reply disk.calls

    reply_is : replies.Number (length before + length bytes) ≡ reply
    reply_is = ap (λ m. replies.Number (m + length bytes)) (sym total_is) ∙ ap (λ m. replies.Number (total + m)) (sym n_is)

    replies_so : IsReply state (tapes_of s) caller call reply
    replies_so = subst (λ (r : Reply). IsReply state (tapes_of s) caller call r) reply_is (may_answer state (tapes_of s) caller call refl refl None unrefused)

    leaves : state_after state (tapes_of s) entry ≡ then
    leaves = subst (λ (r : Reply). state_after state (tapes_of s) (entry_of caller call r disk.calls) ≡ then) reply_is (after_answered state (tapes_of s) caller call refl refl None unrefused disk.calls)

    valid : IsState then
    valid = subst (λ (t : State). IsState t) leaves (state_kept state (tapes_of s) entry stood.upright.valid tt replies_so)

    moved : SameButLanes state then
    moved = (then.lanes, then.made, refl)

    module _ (runs : (held pledged : List (List Piece)) (takings more : List ℕ) (b : Rebuilt) → Runs held pledged takings s.parts b → HasGrown lane (blocks_more block total n) takings more → Runs held pledged more parts b)
        (shown : ShowsRecordings recordings then) (whole : IsTrue disk.honest → HasWhole s.journal.shape disk.bytes parts.blocks.holders lane (before ++ bytes))
        (hands : HandsOut lane s.parts.blocks.holders parts.blocks.holders) (stays : KeepsAddresses parts.blocks.holders s.parts.blocks.holders) where
      runs_more : (pledged : List (List Piece)) → Runs stood.held pledged stood.takings s.parts stood.b → Runs stood.held pledged more parts stood.b
      runs_more pledged was = runs stood.held pledged stood.takings more stood.b was (has_grown total n total_is n_is)

      no_file : (file : ℕ) → File file ≡ Taking lane → ⊥
      no_file file e = cc

      -- the blocks of voice files keep theirs
      filled_more : IsTrue disk.honest → IsFilled stood.fill s.journal.shape disk.bytes parts.blocks.holders
      filled_more h = record {
        each = λ a file index k held less. (stood.upright.bytes h).filled.each a file index k (⊎_elim (λ was. was) (λ own. absurd (no_file file own)) (hands a (block_of (File file) index) held)) less;
      }

      -- so do the whole blocks of other lanes, and those of this one are written
      whole_more_at : IsTrue disk.honest → (l : ℕ) (t : Bool) → (l == lane) ≡ t → HasWhole s.journal.shape disk.bytes parts.blocks.holders l (taking_of then l)
      whole_more_at h l true e =
          let same = eqb-true l lane e in
          subst (λ (m : ℕ). HasWhole s.journal.shape disk.bytes parts.blocks.holders m (taking_of then m)) (sym same)
          (subst (λ (x : LaneState). HasWhole s.journal.shape disk.bytes parts.blocks.holders lane (unwrap_or x.taking [])) (sym lane_then) (whole h))
      whole_more_at h l false e =
          let other : ¬ (l ≡ lane) = λ i. let t = eq-eqb l lane i in cc in
          subst (λ (x : LaneState). HasWhole s.journal.shape disk.bytes parts.blocks.holders l (unwrap_or x.taking [])) (sym (lane_else l other))
          (λ a index k held less within.
          (stood.upright.bytes h).whole l a index k (⊎_elim (λ was. was) (λ own. absurd (other (same_lane own))) (hands a (block_of (Taking l) index) held)) less within)
        where
          same_lane : Taking l ≡ Taking lane → l ≡ lane
          same_lane own = cc

      has_more : IsTrue disk.honest → HaveBytes stood.fill s.journal.shape disk.bytes parts.blocks.holders then
      has_more h = record { filled = filled_more h; whole = λ l. whole_more_at h l (l == lane) refl }

      holds : IsHolding stood.held more block then.lanes
      holds = record { passages = stood.holding.passages ∙ sym (held_taking state lane longer refl); recordings = refl }

      plays : Plays stood.fill disk.honest s' then
      plays = record {
        shows = shows_taking state lane longer refl stood.fill s.lanes s.made stood.playing.shows;
        used = used_still first t0 disk s stood parts rest stood.playing.used;
        bytes = stood.playing.bytes;
        below = below_taking state lane longer refl stood.playing.below;
        recorded = shown;
      }

      tables : IsSure stood.held more s' stood.b stood.after then ⊎ IsUnsure stood.fill stood.held more s' stood.b stood.after then
      tables = by stood.tables
        where
          by : IsSure stood.held stood.takings s stood.b stood.after state ⊎ IsUnsure stood.fill stood.held stood.takings s stood.b stood.after state → IsSure stood.held more s' stood.b stood.after then ⊎ IsUnsure stood.fill stood.held more s' stood.b stood.after then
          by (inl sure) = inl (record { sure = sure.sure; in_journal = sure.in_journal; in_state = sure.in_state; tables = runs_more [] sure.tables; same = sure.same })
          by (inr unsure) =
              let next = unsure.doubted.next in
              let gives = given stood.held stood.takings s.parts stood.b next unsure.change unsure.ready in
              inr (record {
                doubted = unsure.doubted;
                unsure = unsure.unsure;
                pending = unsure.pending;
                in_state = unsure.in_state;
                doubt = unsure.doubt;
                in_journal = unsure.in_journal;
                change = unsure.change;
                ready = grown_ready stood.held stood.takings more s.parts parts stood.b next unsure.change unsure.ready (runs_more (pledges next) gives.runs) stays (same_ropes first t0 disk s stood parts rest) (same_interests first t0 disk s stood parts rest);
                addresses = unsure.addresses;
                spelled = unsure.spelled;
                brings_it = record { spots = unsure.brings_it.spots; kept = unsure.brings_it.kept };
                lands = record {
                  tables = unsure.lands.tables;
                  places = unsure.lands.places;
                  fills = fills_moved stood.fill stood.after (landed state) (landed then) (landed_same state then refl) unsure.lands.fills;
                  seated = seated_moved (record s.journal { seat = landed_seat s.journal.seat unsure.doubt }) (landed state) (landed then) (landed_same state then refl) unsure.lands.seated;
                  valid = state_kept then (tapes_of s) (landing_at 0) valid tt (refl, refl, subst (λ (o : Option Pending). IsTrue (is_some o)) (sym unsure.in_state) is_true);
                };
              })

      -- where nothing refuses it, the lane's open recording is longer
      pub stood_added : history.items ≡ s.history.items ++ entry ∷ [] → (IsTrue disk.honest → IsHonest disk) → EntriesCount disk → Stood first t0 disk s'
      stood_added items honest counts =
          let to : (P : State → Type 0) → P then → P (state_after state (tapes_of s) entry) = λ P p. subst P (sym leaves) p in
          let up = stood.upright in
          let keeps : KeepsDurable state (state_after state (tapes_of s) entry) = record {
            kept = ap (λ (t : State). t.kept) leaves;
            doubt = ap (λ (t : State). t.doubt) leaves;
            form = ap (λ (t : State). t.form) leaves;
            left = ap (λ (t : State). t.left) leaves;
          } in
          stood_pushed first t0 disk disk s s' entry refl items stood.fill stood.b stood.b stood.after stood.after stood.held more up (omega arith) refl refl (answer_on disk.honest state (tapes_of s) entry replies_so)
          (to (λ t. IsState t) valid)
          (to (λ t. IsHolding stood.held more block t.lanes) holds)
          (to (λ t. Fills stood.fill stood.b t) (fills_moved stood.fill stood.b state then moved up.fills))
          (to (λ t. IsSeated s.journal t) (seated_moved s.journal state then moved up.seated))
          (λ h. counts.noted first (tapes_of s) t0 s.journal stood.b stood.after s.history.items entry (honest h) (up.held h) refl keeps)
          (λ h. to (λ t. HaveBytes stood.fill s.journal.shape disk.bytes parts.blocks.holders t) (has_more h))
          (to (λ t. IsSure stood.held more s' stood.b stood.after t ⊎ IsUnsure stood.fill stood.held more s' stood.b stood.after t) tables)
          (to (λ t. Plays stood.fill disk.honest s' t) plays)
          stood.size
