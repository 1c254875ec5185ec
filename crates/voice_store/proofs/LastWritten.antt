-- An End after its last block was written, or the write failed.
use Rattle.std.proofs.Common.{◌≡◌, inl, ℕ, ◌+◌, ◌*◌, ◌/◌, ◌<◌, ◌≤◌, Bool, List, [], ◌∷◌, ◌++◌, drop, length, Some, IsTrue, refl, sym, ◌∙◌, ap, subst, arith}
use Rattle.std.specs.Prelude.{Vec}
use Rattle.std.specs.declared.alloc.Global.{Global}
use Rattle.voice_units.specs.declared.shapes.Shape.{Shape}
use Rattle.voice_units.specs.Spots.{Spot, samples_in}
use Rattle.voice_units.specs.Blocks.{blocks_for}
use Rattle.voice_outside.specs.Disk.{Told}
use Rattle.voice_blocks.specs.Holders.{Holders, holder_at, block_of}
use Rattle.voice_blocks.specs.declared.owner.Owner.TheVariants.{Taking}
use Rattle.voice_model.specs.Samples.{Tagged, bytes_of, recording, recorded_from}
use Rattle.voice_model.specs.State.{State, Effect}
use Rattle.voice_model.specs.Changes.{changed, taking_of}
use Rattle.voice_model.specs.Replay.{Rebuilt, acted, recovered}
use Rattle.voice_model.specs.declared.calls.Call.TheVariants as calls
use Rattle.voice_model.specs.declared.calls.Reply.{Reply}
use Rattle.voice_model.specs.declared.calls.Reply.TheVariants as replies
use Rattle.voice_model.specs.declared.calls.Why.TheVariants as why
use Rattle.voice_model.specs.declared.calls.Entry.{Entry}
use Rattle.voice_model.specs.declared.changes.Change.{Change}
use Rattle.voice_model.proofs.Heard.{answer_on}
use Rattle.running_tables.specs.Running.{Runs}
use Rattle.recovery.specs.declared.parts.Parts.{Parts}
use Rattle.recovery.specs.Shown.{Shows}
use Rattle.next_ropes.specs.Addresses.{KeepsAddresses}
use Rattle.next_ropes.specs.Ready.{next_change}
use Rattle.next_ropes.specs.declared.NextRope.{NextRope}
use Rattle.open_recordings.specs.Blocks.{AreAddresses}
use Rattle.record_job.specs.Recording.{filled_up, rest_of}
use Rattle.fillings.specs.Laws.{HasBytes}
use Rattle.fillings.proofs.Calls.{call_does}
use Rattle.recording_writer.specs.Wrote.{WroteAt}
use Rattle.recording_adds.specs.Adds.{WroteOwn}
use Rattle.crash_laws.specs.Foundations.{Foundations}
use Rattle.crash_laws.specs.Standing.{IsLater, IsHeld}
use Rattle.crash_laws.proofs.Opened.{standing_gives}
use Rattle.crash_laws.proofs.Noted.{entries_count}
use Rattle.voice_store.specs.declared.inside.Inside.{Inside}
use Rattle.voice_store.specs.declared.going.Going.TheVariants as goings
use Rattle.voice_store.specs.Filled.{HaveBytes}
use Rattle.voice_store.specs.Going.{WillHave}
use Rattle.voice_store.specs.Stood.{last_of, tapes_of, Upright, IsSure, Plays, Stood}
use Rattle.voice_store.specs.Facts.{entry_of}
use Rattle.voice_store.specs.Trying.{Trying}
use Rattle.voice_store.specs.Ends.{HoldsEnding, ended_by, last_bytes, last_addresses}
use Rattle.voice_store.proofs.Filled.{still_has, takes_same, stays_same}
use Rattle.voice_store.proofs.Entries.{acks_later, stood_noted}
use Rattle.voice_store.proofs.Pushed.{as_honest}
use Rattle.voice_store.proofs.Played.{playing_by, playing_later, playing_as_honest}
use Rattle.voice_store.proofs.Taking.{later_fill, later_spots, later_here, kept_before}
use Rattle.voice_store.proofs.Owned.{own_has, own_held}
use Rattle.voice_store.proofs.Closing.{closed_jobs, closed_takes, closed_recorded, closed_holding, lanes_closed}
use Rattle.voice_store.proofs.Ended as ended
use Rattle.voice_store.proofs.LastBlock.{all_there, has_all}

bytes_recorded : (id place : ℕ) (bytes : List ℕ) → bytes_of (recorded_from id place bytes) ≡ bytes
bytes_recorded id place [] = refl
bytes_recorded id place (byte ∷ bytes) = ap (λ l. byte ∷ l) (bytes_recorded id (place + 1) bytes)

module _ (first : State) (t0 : ℕ) (old : Told) (s : Inside) (lane : ℕ) (rope : NextRope) (h : HoldsEnding first t0 old s lane rope) where
  abbrev last : State
  last = last_of first s

  abbrev bytes : List ℕ
  bytes = taking_of last lane

  abbrev effect : Effect Tagged
  effect = ended_by last lane

  abbrev stood : Stood first t0 old s
  stood = h.ends.stood

  abbrev b : Rebuilt
  b = h.ends.stood.b

  abbrev change : Change
  change = next_change b.form rope

  abbrev addresses : List ℕ
  addresses = rope.addresses.items

  abbrev holders : Holders
  holders = s.parts.blocks.holders

  abbrev shape : Shape
  shape = s.journal.shape

  abbrev from : ℕ
  from = length bytes / shape.block

  abbrev tail : List ℕ
  tail = last_addresses s lane rope

  abbrev later : Spot → Tagged
  later = later_fill stood.fill last.next bytes

  tables : IsSure stood.held stood.takings s b stood.after last
  tables = ended.tables first t0 old s lane rope h

  number : b.next ≡ last.next
  number = ended.number first t0 old s lane rope h

  in_shape : b.shape ≡ s.journal.shape
  in_shape = ended.in_shape first t0 old s lane rope h

  listed : AreAddresses holders (Taking lane) 0 (blocks_for shape.block (length bytes)) addresses
  listed = ended.listed first t0 old s lane rope h

  only : (a index : ℕ) → holder_at holders a ≡ Some (block_of (Taking lane) index) → index < blocks_for shape.block (length bytes)
  only = ended.only first t0 old s lane rope h

  wrote_own : (new : Told) → WroteAt shape tail old new → WroteOwn shape holders lane from old new
  wrote_own = ended.wrote_own first t0 old s lane rope h

  module _ (new : Told) (laws : Foundations) (later_on : old.calls ≤ new.calls) (sizes_same : new.size ≡ old.size) (alike : new.honest ≡ old.honest)
      (moments : IsTrue old.honest → IsLater old new) (wrote : IsTrue old.honest → WroteAt shape tail old new) where
    to_old : IsTrue new.honest → IsTrue old.honest
    to_old is = subst (λ (x : Bool). IsTrue x) alike is

    held_now : IsTrue new.honest → IsHeld first (tapes_of s) t0 s.journal new b b s.history.items
    held_now is =
        subst (λ (x : Rebuilt). IsHeld first (tapes_of s) t0 s.journal new b x s.history.items) tables.same
        (own_held first t0 old new s stood lane from laws (to_old is) (moments (to_old is)) (wrote_own new (wrote (to_old is))))

    -- all blocks keep their bytes
    has_now : IsTrue new.honest → HaveBytes stood.fill shape new.bytes holders last
    has_now is = own_has shape holders lane from old new (wrote_own new (wrote (to_old is))) stood.fill last (omega arith) (stood.upright.bytes (to_old is))

    -- the tables are as they were, or show the same
    upright_back : (parts : Parts) → KeepsAddresses holders parts.blocks.holders → Upright first t0 new (record s { parts = parts }) stood.fill b b
    upright_back parts keeps = let up = stood.upright in record {
      legal = as_honest first old new s alike up.legal;
      valid = up.valid;
      fills = up.fills;
      seated = up.seated;
      acks = acks_later t0 s.history.items old.calls new.calls up.acks later_on;
      held = held_now;
      bytes = λ is. still_has stood.fill shape new.bytes new.bytes holders parts.blocks.holders last last (takes_same last last refl) keeps (stays_same shape new.bytes new.bytes refl) (has_now is);
    }

    plays_back : (parts : Parts) → Shows stood.held parts b.kept → Plays stood.fill new.honest (record s { parts = parts }) last
    plays_back parts shows =
        playing_as_honest stood.fill old.honest new.honest shape.block parts.ropes s.lanes s.made s.recordings last alike
        (playing_by stood.held s.parts parts b.kept tables.tables.kept shows stood.fill old.honest shape.block s.lanes s.made s.recordings last stood.playing)

    -- the recording's bytes are filled in besides, for the new file
    upright_later : Upright first t0 new s later b b
    upright_later = let up = stood.upright in record {
      legal = as_honest first old new s alike up.legal;
      valid = up.valid;
      fills = record {
        spots = later_spots stood.fill up.fills.spots last.next bytes;
        kept = kept_before stood.fill up.fills.spots last.next bytes b tables.tables.placed (subst (λ n. b.next ≤ n) number (omega arith)) ∙ up.fills.kept;
        form = up.fills.form;
      };
      seated = up.seated;
      acks = acks_later t0 s.history.items old.calls new.calls up.acks later_on;
      held = held_now;
      bytes = λ is. record { filled = ended.later_filled first t0 old s lane rope h new.bytes (has_now is).filled; whole = (has_now is).whole };
    }

    plays_later : Plays later new.honest s last
    plays_later =
        playing_later stood.fill stood.upright.fills.spots last.next bytes new.honest shape.block stood.held [] stood.takings s.parts b s.lanes s.made s.recordings last
        tables.tables number refl (plays_back s.parts tables.tables.kept)

    module _ (has : IsTrue old.honest → HasBytes new.bytes shape tail (last_bytes last lane)) where
      written : IsTrue new.honest → HasBytes new.bytes shape (drop from addresses) (filled_up shape.block (rest_of shape.block bytes))
      written is =
          subst (λ n. HasBytes new.bytes shape (drop n addresses) (filled_up shape.block (rest_of shape.block bytes))) (ended.whole_is first t0 old s lane rope h)
          (subst (λ n. HasBytes new.bytes shape tail (filled_up n (rest_of n bytes))) (ended.block_same first t0 old s lane rope h) (has (to_old is)))

      will_have : IsTrue new.honest → WillHave later shape new.bytes holders (goings.Ending lane rope)
      will_have is = λ a index k held less.
          all_there shape lane holders bytes addresses new.bytes listed only tables.tables.given.single ((has_now is).whole lane) (written is) a index k held less
          ∙ sym (ap (λ n. (later (record { file = n; place = index * shape.block + k })).byte) (h.ready.number ∙ number) ∙ later_here stood.fill stood.upright.fills.spots last.next bytes (index * shape.block + k))

      all_written : IsTrue new.honest → HasBytes new.bytes b.shape addresses (bytes_of (recording last.next bytes))
      all_written is =
          subst (λ (x : Shape). HasBytes new.bytes x addresses (bytes_of (recording last.next bytes))) (sym in_shape)
          (subst (λ (l : List ℕ). HasBytes new.bytes shape addresses l) (sym (bytes_recorded last.next 0 bytes))
          (has_all shape lane holders bytes addresses new.bytes listed only tables.tables.given.single ((has_now is).whole lane) (written is)))

      does_it : IsTrue new.honest → recovered new.bytes (acted b change) ≡ changed last.form last.kept effect
      does_it is =
          let sound = (standing_gives laws new).now first (tapes_of s) t0 s.journal b b s.history.items (moments (to_old is)).is (held_now is) in
          ap (λ c. recovered new.bytes (acted b c)) (ended.the_change first t0 old s lane rope h)
          ∙ call_does new.bytes b last (tapes_of s) (calls.End lane) addresses effect sound.fills sound.form sound.placed refl
          (ended.count first t0 old s lane rope h b.shape.block (ap (λ (x : Shape). x.block) in_shape), h.differ, ended.spare first t0 old s lane rope h) (all_written is)

      -- the last block was written
      pub trying_ending : (caller : ℕ) (answer : Reply) → answer ≡ replies.Rope rope.id (samples_in rope.pieces) → Trying first t0 new s b (goings.Ending lane rope) change effect caller (calls.End lane) answer
      trying_ending caller answer answers = record {
        fill = later;
        upright = upright_later;
        sure = h.ends.sure;
        in_journal = tables.in_journal;
        held = stood.held;
        takings = stood.takings;
        more = ended.ending_more first t0 old s lane rope h;
        holding = stood.holding;
        ready = ended.ending_ready first t0 old s lane rope h;
        playing = plays_later;
        addresses = addresses;
        change = ended.the_change first t0 old s lane rope h;
        lanes = lanes_closed last lane;
        may = ended.may first t0 old s lane rope h caller;
        holding_then = closed_holding last lane stood.held stood.takings shape.block stood.holding;
        jobs = closed_jobs last lane;
        takes = closed_takes last lane;
        recorded = closed_recorded last lane s.recordings stood.playing.recorded;
        will_have = will_have;
        replies = ended.reply_is first t0 old s lane rope h ∙ sym answers;
        in_range = tt;
        brings_it = record { spots = later_spots stood.fill stood.upright.fills.spots last.next bytes; kept = ended.brings_kept first t0 old s lane rope h };
        does = does_it;
        frame = ended.frame first t0 old s lane rope h;
        size = let is = stood.size in omega (arith, is, sizes_same);
      }

    -- the write failed, and the recording stays open
    pub stood_unended : (caller : ℕ) (parts : Parts) (history : Vec Entry Global) → Runs stood.held [] stood.takings parts b → KeepsAddresses holders parts.blocks.holders → history.items ≡ s.history.items ++ entry_of caller (calls.End lane) (replies.No why.DiskFault) new.calls ∷ []
        → Stood first t0 new (record s { parts = parts; history = history })
    stood_unended caller parts history shows keeps items =
        let back : Stood first t0 new (record s { parts = parts }) = record {
          fill = stood.fill;
          b = b;
          after = b;
          held = stood.held;
          takings = stood.takings;
          holding = stood.holding;
          upright = upright_back parts keeps;
          tables = inl (record { sure = h.ends.sure; in_journal = tables.in_journal; in_state = tables.in_state; tables = shows; same = refl });
          playing = plays_back parts shows.kept;
          size = let is = stood.size in omega (arith, is, sizes_same);
        } in
        let faults = (ended.may first t0 old s lane rope h caller).faults in
        stood_noted first t0 new (record s { parts = parts }) history (entry_of caller (calls.End lane) (replies.No why.DiskFault) new.calls) items refl
        (answer_on new.honest last (tapes_of s) (entry_of caller (calls.End lane) (replies.No why.DiskFault) new.calls) faults.answers) (faults.stays new.calls)
        (λ is. (moments (to_old is)).is) (entries_count new) back
