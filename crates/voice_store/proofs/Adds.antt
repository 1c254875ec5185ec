-- An Add in the store, by what the layer below says of it.
use Rattle.std.proofs.Common.{◌≡◌, ℕ, ◌+◌, ◌/◌, ◌<◌, ◌≤◌, Bool, true, false, List, [], ◌∷◌, ◌++◌, length, Option, None, Ok, IsTrue, sym, ◌∙◌, ap, subst, arith}
use Rattle.std.specs.Prelude.{Vec}
use Rattle.std.specs.declared.alloc.Global.{Global}
use Rattle.voice_units.specs.declared.pieces.Piece.{Piece}
use Rattle.voice_units.specs.declared.pieces.Take.{Take}
use Rattle.voice_units.specs.declared.errors.NoMemory.{NoMemory}
use Rattle.voice_units.specs.declared.shapes.Shape.{Shape}
use Rattle.voice_outside.specs.Disk.{Told}
use Rattle.voice_blocks.specs.Holders.{Holders}
use Rattle.voice_model.specs.State.{State}
use Rattle.voice_model.specs.Changes.{taking_of}
use Rattle.voice_model.specs.Tapes.{taken as taken_of}
use Rattle.voice_model.specs.Step.{on_lanes, refusal}
use Rattle.voice_model.specs.Replay.{Rebuilt}
use Rattle.voice_model.specs.declared.calls.Call.TheVariants as calls
use Rattle.voice_model.specs.declared.calls.Reply.TheVariants as replies
use Rattle.voice_model.specs.declared.calls.Why.TheVariants as why
use Rattle.voice_model.specs.declared.calls.Entry.{Entry}
use Rattle.recovery.specs.declared.parts.Parts.{Parts}
use Rattle.running_tables.specs.Running.{Runs}
use Rattle.running_tables.specs.Laws.{HasGrown}
use Rattle.record_job.specs.Recording.{Recording}
use Rattle.open_recordings.specs.Blocks.{HandsOut}
use Rattle.recording_calls.specs.Shown.{ShowsRecordings}
use Rattle.recording_adds.specs.Adds.{HasWhole, MakesCalls, OnFault, WroteOwn, blocks_more, whole_more}
use Rattle.next_ropes.specs.Addresses.{KeepsAddresses}
use Rattle.crash_laws.specs.Foundations.{Foundations}
use Rattle.crash_laws.specs.Laws.{DisksAreHonest}
use Rattle.crash_laws.proofs.Noted.{entries_count}
use Rattle.voice_store.specs.declared.inside.Inside.{Inside}
use Rattle.voice_store.specs.DeviceCalls.{add_calls}
use Rattle.voice_store.specs.Facts.{Stays, entry_of}
use Rattle.voice_store.specs.Stood.{tapes_of, last_of, Stood}
use Rattle.voice_store.proofs.Owned.{stood_own_went_on}
use Rattle.voice_store.proofs.Remapped.{stood_remapped}
use Rattle.voice_store.proofs.Added.{fault_stays, stood_added, within_add}

-- ---- what the call of the layer below says

-- bytes were added or not: what it did to the disk
pub record WentOn (shape : Shape) (holders : Holders) (lane total most : ℕ) (old new : Told) : Type 0 where
  pub made : MakesCalls most old new
  pub was : DisksAreHonest old
  pub now : DisksAreHonest new
  pub wrote : IsTrue old.honest → WroteOwn shape holders lane (total / shape.block) old new

-- bytes were added: what it did to the tables, and that whole blocks have their bytes
pub record HasAdded (shape : Shape) (old new : Told) (had parts : Parts) (state : State) (lane total : ℕ) (samples : List ℕ) : Type 0 where
  pub grown : (held pledged : List (List Piece)) (takings more : List ℕ) (b : Rebuilt) → Runs held pledged takings had b → HasGrown lane (blocks_more shape.block total (length samples)) takings more → Runs held pledged more parts b
  pub whole : IsTrue old.honest → HasWhole shape old.bytes had.blocks.holders lane (taking_of state lane) → HasWhole shape new.bytes parts.blocks.holders lane (taking_of state lane ++ samples)
  pub hands : HandsOut lane had.blocks.holders parts.blocks.holders
  pub stays : KeepsAddresses parts.blocks.holders had.blocks.holders
  pub rest : parts ≡ record had { blocks = parts.blocks }

-- none were added: what it did to the tables
pub record HasNotAdded (had parts : Parts) : Type 0 where
  pub back : (held pledged : List (List Piece)) (takings : List ℕ) (b : Rebuilt) → Runs held pledged takings had b → Runs held pledged takings parts b
  pub none : KeepsAddresses had.blocks.holders parts.blocks.holders
  pub stays : KeepsAddresses parts.blocks.holders had.blocks.holders
  pub rest : parts ≡ record had { blocks = parts.blocks }

pub when_fault : (done : Bool) (P : Type 0) → done ≡ false → OnFault {E = NoMemory} (Ok done) P → P
when_fault true P e h = cc
when_fault false P e h = h

module _ (first : State) (t0 : ℕ) (old new : Told) (s : Inside) (stood : Stood first t0 old s) (lane : ℕ) (shape : Shape) (is : shape ≡ s.journal.shape) (total most : ℕ) (total_is : total ≡ length (taking_of (last_of first s) lane))
    (laws : Foundations) (went : WentOn shape s.parts.blocks.holders lane total most old new) where
  abbrev state : State
  state = last_of first s

  abbrev block : ℕ
  block = s.journal.shape.block

  to_new : IsTrue old.honest → IsTrue new.honest
  to_new h = subst (λ (x : Bool). IsTrue x) (sym went.made.honest) h

  to_old : IsTrue new.honest → IsTrue old.honest
  to_old h = subst (λ (x : Bool). IsTrue x) went.made.honest h

  -- the store is as it was, on the disk as it is
  pub went_on : Stood first t0 new s
  went_on =
      stood_own_went_on first t0 old new s stood lane (total / block) laws went.made.later went.made.size went.made.honest
      (λ h. record { later = went.made.later; was = went.was h; is = went.now (to_new h) })
      (λ h. subst (λ (x : Shape). WroteOwn x s.parts.blocks.holders lane (total / x.block) old new) is (went.wrote h))
      (let same : length (taking_of state lane) / block ≡ total / block = ap (λ m. m / block) (sym total_is) in omega (arith, same))

  -- its tables may have room for more, or took addresses and gave them back
  pub stood_not_added : (parts : Parts) (recordings : List (Option Recording)) → recordings ≡ s.recordings → HasNotAdded s.parts parts → Stood first t0 new (record s { parts = parts; recordings = recordings })
  stood_not_added parts recordings same kept =
      subst (λ (r : List (Option Recording)). Stood first t0 new (record s { parts = parts; recordings = r })) (sym same) (stood_remapped first t0 new s went_on parts kept.rest kept.back kept.none kept.stays)

  module _ (take : Take) (samples : List ℕ) (samples_are : samples ≡ taken_of (tapes_of s) take) (unrefused : refusal state (tapes_of s) (calls.Add lane take) ≡ None) where
    many : length samples ≡ length (taken_of (tapes_of s) take)
    many = ap (λ (l : List ℕ). length l) samples_are

    -- a device fault that left all so
    pub add_faulted : 0 < whole_more shape.block total (length samples) → (caller : ℕ) → Stays new.honest state (tapes_of s) caller (calls.Add lane take) (replies.No why.DiskFault)
    add_faulted some caller =
        fault_stays first t0 new s went_on lane take unrefused total (length samples) total_is many (subst (λ (x : Shape). 0 < whole_more x.block total (length samples)) is some) new.honest caller

    pub add_within : most ≡ whole_more shape.block total (length samples) → new.calls ≤ old.calls + add_calls state (tapes_of s) lane take
    add_within most_is =
        within_add first t0 new s went_on lane take unrefused total (length samples) old.calls new.calls total_is many
        (let few = went.made.calls in let same = most_is ∙ ap (λ (x : Shape). whole_more x.block total (length samples)) is in omega (arith, few, same))

    -- the lane's recording is longer
    pub stood_more : (caller n : ℕ) (parts : Parts) (recordings : List (Option Recording)) (history : Vec Entry Global) → n ≡ total + length samples → HasAdded shape old new s.parts parts state lane total samples
        → ShowsRecordings recordings (on_lanes state (tapes_of s) (calls.Add lane take)) → history.items ≡ s.history.items ++ entry_of caller (calls.Add lane take) (replies.Number n) new.calls ∷ []
        → Stood first t0 new (record s { parts = parts; recordings = recordings; history = history })
    stood_more caller n parts recordings history n_is added shown items =
        stood_added first t0 new s went_on lane take unrefused caller total (length samples) parts recordings history total_is many added.rest
        (λ held pledged takings more b runs grows.
        added.grown held pledged takings more b runs (subst (λ (x : Shape). HasGrown lane (blocks_more x.block total (length samples)) takings more) (sym is) grows))
        shown
        (λ h.
        subst (λ (l : List ℕ). HasWhole s.journal.shape new.bytes parts.blocks.holders lane (taking_of state lane ++ l)) samples_are
        (subst (λ (x : Shape). HasWhole x new.bytes parts.blocks.holders lane (taking_of state lane ++ samples)) is
        (added.whole (to_old h) (subst (λ (x : Shape). HasWhole x old.bytes s.parts.blocks.holders lane (taking_of state lane)) (sym is) ((stood.upright.bytes (to_old h)).whole lane)))))
        added.hands added.stays
        (items ∙ ap (λ m. s.history.items ++ entry_of caller (calls.Add lane take) (replies.Number m) new.calls ∷ []) n_is)
        went.now (entries_count new)
