-- What a rope sounds like on the disk.
use Rattle.voice_store.proofs.Filled.{stays_same}
use Rattle.std.proofs.Common.{◌≡◌, ◌⊎◌, inl, inr, ℕ, ◌+◌, ◌≤◌, ◌^◌, ◌==◌, Bool, true, false, ◌||◌, cond, List, [], ◌∷◌, map, length, Some, None, IsTrue, refl, sym, ◌∙◌, ap, subst, arith}
use Rattle.std.proofs.lemmas.Bool.{lt-ltb}
use Rattle.std.specs.Prelude.{nat_lt, Result, Ok, Err, OnErr}
use Rattle.voice_units.specs.declared.pieces.Piece.{Piece}
use Rattle.voice_units.specs.declared.shapes.Shape.{Shape}
use Rattle.voice_units.specs.Spots.{Spot, spots_of, samples_in, stretches}
use Rattle.voice_units.specs.Blocks.{BlockPair, same_pair, has_pair, pair_at, pairs_at}
use Rattle.voice_units.proofs.Distinct.{same_pair-true}
use Rattle.voice_outside.specs.Disk.{Told}
use Rattle.voice_blocks.specs.Holders.{Holders, holder_at, block_of}
use Rattle.voice_blocks.specs.declared.owner.Owner.TheVariants.{File}
use Rattle.voice_model.specs.Samples.{Tagged, bytes_of, spot_of, spots_in_rope}
use Rattle.voice_model.specs.Heard.{unheard, IsReplyOn}
use Rattle.voice_model.specs.State.{State, Live, Durable, rope_at, samples_of, samples_or_none, first_unknown}
use Rattle.voice_model.specs.Step.{Outcome, outcome_of, refusal, reply_of, reply_by, first_of, if_unknown, reaches_device, IsAtDevice, IsReply, after, after_answer, after_reply, state_by, state_after, nothing_to_land}
use Rattle.voice_model.specs.Replay.{Placed, Rebuilt, has_place, address_of, filled, live_by, durable_by}
use Rattle.voice_model.specs.Places.{IsPlace, IsPlaced}
use Rattle.voice_model.specs.Valid.{Every, IsRope}
use Rattle.voice_model.specs.declared.calls.Call.{Call}
use Rattle.voice_model.specs.declared.calls.Entry.{Entry}
use Rattle.voice_model.specs.declared.calls.Reply.{Reply}
use Rattle.voice_model.specs.declared.calls.Reply.TheVariants as replies
use Rattle.voice_model.specs.declared.calls.Why.TheVariants as why
use Rattle.voice_model.proofs.Answers.{answered_outcome}
use Rattle.voice_model.proofs.Heard.{reply_on, same_outcome}
use Rattle.built_calls.specs.Built.{is_built}
use Rattle.checkpoint.specs.Blocks.{IsHeld as IsAt}
use Rattle.next_changes.proofs.Given.{given}
use Rattle.voice_blocks.proofs.Apart.{either_way}
use Rattle.rope_table.specs.Table.{pieces_at}
use Rattle.edits.proofs.Seen.{spots_shown, rope_length, its_pieces, missing_shown, a_rope, no_rope}
use Rattle.crash_laws.specs.Foundations.{Foundations}
use Rattle.crash_laws.specs.Standing.{IsHonest, IsLater}
use Rattle.crash_laws.proofs.Opened.{standing_gives}
use Rattle.crash_laws.proofs.Noted.{looks_carry}
use Rattle.listening.specs.Heard.{HavePlaces, ArePlaces, bytes_on}
use Rattle.listening.specs.Looks.{Looked}
use Rattle.voice_store.specs.declared.inside.Inside.{Inside}
use Rattle.voice_store.specs.declared.hearing.Sound.{Sound}
use Rattle.voice_store.specs.declared.hearing.Sound.TheVariants as sounds
use Rattle.voice_store.specs.Stood.{last_of, tapes_of, IsSure, IsUnsure, Stood}
use Rattle.voice_model.specs.Changes.{is_changing}
use Rattle.voice_store.specs.Facts.{Stays, entry_of, stretches_of, most_reads}
use Rattle.voice_store.specs.DeviceCalls.{landing_calls, other_calls, most_calls}
use Rattle.voice_store.proofs.Counted.{most_other}
use Rattle.voice_store.specs.Hearing.{IsHeard, call_for, sounding}
use Rattle.voice_store.proofs.Refused.{wrong, kept_again, stood_shows, may_answer, is_reply, stays_home, answered_so}
use Rattle.voice_store.proofs.Pushed.{stood_went_on}

-- ---- the address of a block with a place

-- it holds the block
there_held : (hs : Holders) (places : List Placed) (pair : BlockPair) → Every (IsAt hs) places → has_place places pair ≡ true → holder_at hs (address_of places pair) ≡ Some (block_of (File pair.file) pair.index)
there_held hs [] pair held e = absurd (wrong e)
there_held hs (p ∷ ps) pair held e = by (same_pair p.pair pair) refl (there_held hs ps pair held.1) e
  where
    by : (same : Bool) → same_pair p.pair pair ≡ same → (has_place ps pair ≡ true → holder_at hs (address_of ps pair) ≡ Some (block_of (File pair.file) pair.index)) → (same || has_place ps pair) ≡ true
        → holder_at hs (cond same p.address (address_of ps pair)) ≡ Some (block_of (File pair.file) pair.index)
    by true k later e = held.0 ∙ ap (λ (q : BlockPair). Some (block_of (File q.file) q.index)) (same_pair-true p.pair pair k)
    by false k later e = later e

-- ---- the samples of a rope by its number

samples_by : {A B : Type 0} (f : A → B) (ropes : List (Live A)) (id : ℕ) → samples_of (map (live_by f) ropes) id ≡ map f (samples_of ropes id)
samples_by f [] id = refl
samples_by f (rope ∷ ropes) id = by (rope.id == id) (samples_by f ropes id)
  where
    by : (b : Bool) → samples_of (map (live_by f) ropes) id ≡ map f (samples_of ropes id) → samples_or_none (cond b (Some (live_by f rope)) (rope_at (map (live_by f) ropes) id)) ≡ map f (samples_or_none (cond b (Some rope) (rope_at ropes id)))
    by true rest = refl
    by false rest = rest

samples_have : (P : Spot → Type 0) (ropes : List (Live Spot)) (id : ℕ) → Every (λ rope. Every P rope.samples) ropes → Every P (samples_of ropes id)
samples_have P [] id h = tt
samples_have P (rope ∷ ropes) id h = by (rope.id == id) (samples_have P ropes id h.1)
  where
    by : (b : Bool) → Every P (samples_of ropes id) → Every P (samples_or_none (cond b (Some rope) (rope_at ropes id)))
    by true rest = h.0
    by false rest = rest

long_of : (form now : ℕ) (ropes : List (Live Tagged)) (id : ℕ) → Every (IsRope form now) ropes → length (samples_of ropes id) ≤ 2 ^ 30
long_of form now [] id h = omega arith
long_of form now (rope ∷ ropes) id h = by (rope.id == id) (long_of form now ropes id h.1)
  where
    by : (b : Bool) → length (samples_of ropes id) ≤ 2 ^ 30 → length (samples_or_none (cond b (Some rope) (rope_at ropes id))) ≤ 2 ^ 30
    by true rest = h.0.long
    by false rest = rest

pair_placed : (block : ℕ) (places : List Placed) (ss : List Spot) → Every (IsPlace block places) ss → (pair : BlockPair) → has_pair (pairs_at block ss) pair ≡ true → has_place places pair ≡ true
pair_placed block places [] h pair e = absurd (wrong e)
pair_placed block places (s ∷ ss) h pair e =
    either_way (same_pair pair (pair_at block s)) (has_pair (pairs_at block ss) pair)
    (λ k. subst (λ q. has_place places q ≡ true) (sym (same_pair-true pair (pair_at block s) k)) h.0.held)
    (λ k. pair_placed block places ss h.1 pair k) e

bytes_filled : (image : List ℕ) (b : Rebuilt) (ss : List Spot) → bytes_of (map (filled image b) ss) ≡ bytes_on image b.shape (address_of b.places) ss
bytes_filled image b [] = refl
bytes_filled image b (s ∷ ss) = ap (λ l. (filled image b s).byte ∷ l) (bytes_filled image b ss)

-- ---- a live rope of a store

-- the map holds the places of what is rebuilt
record Placing (s : Inside) (b : Rebuilt) : Type 0 where
  size : length s.parts.blocks.holders ≡ b.shape.blocks
  addresses : Every (IsAt s.parts.blocks.holders) b.places
  placed : IsPlaced b

module _ (first : State) (t0 : ℕ) (disk : Told) (s : Inside) (stood : Stood first t0 disk s) where
  abbrev last : State
  last = last_of first s

  abbrev b : Rebuilt
  b = stood.b

  placing_by : IsSure stood.held stood.takings s b stood.after last ⊎ IsUnsure stood.fill stood.held stood.takings s b stood.after last → Placing s b
  placing_by (inl sure) = record { size = sure.tables.size; addresses = sure.tables.addresses; placed = sure.tables.placed }
  placing_by (inr unsure) =
      let runs = (given stood.held stood.takings s.parts b unsure.doubted.next unsure.change unsure.ready).runs in
      record { size = runs.size; addresses = runs.addresses; placed = runs.placed }

  placing : Placing s b
  placing = placing_by stood.tables

  pub shape_is : b.shape ≡ s.journal.shape
  shape_is = ap (λ (d : Durable Tagged). d.shape) stood.upright.fills.kept ∙ stood.upright.seated.shape

  pub count_is : length s.parts.blocks.holders ≡ s.journal.shape.blocks
  count_is = placing.size ∙ ap (λ (x : Shape). x.blocks) shape_is

  module _ (id : ℕ) (ps : List Piece) (live : Some ps ≡ pieces_at s.parts.ropes.ropes id) where
    pub spots_are : spots_of ps ≡ spots_in_rope (samples_of last.ropes id)
    spots_are = ap spots_of (sym (its_pieces s.parts.ropes.ropes id ps live)) ∙ spots_shown stood.held s.parts last (stood_shows first t0 disk s stood) id

    pub length_is : samples_in ps ≡ length (samples_of last.ropes id)
    length_is = ap samples_in (sym (its_pieces s.parts.ropes.ropes id ps live)) ∙ rope_length stood.held s.parts last (stood_shows first t0 disk s stood) id

    pub long : samples_in ps ≤ 2 ^ 30
    long = let most = long_of last.form last.moment last.ropes id stood.upright.valid.kept.each_rope in omega (arith, most, length_is)

    -- the samples of what is rebuilt lie there
    rebuilt_spots : samples_of b.ropes id ≡ spots_of ps
    rebuilt_spots =
        let kept : durable_by spot_of last.kept ≡ b.kept = ap (durable_by spot_of) (sym stood.upright.fills.kept) ∙ kept_again stood.fill stood.upright.fills.spots b.kept in
        ap (λ (d : Durable Spot). samples_of d.ropes id) (sym kept) ∙ samples_by spot_of last.ropes id ∙ sym spots_are

    each_there : (pair : BlockPair) → has_pair (pairs_at b.shape.block (spots_of ps)) pair ≡ true → holder_at s.parts.blocks.holders (address_of b.places pair) ≡ Some (block_of (File pair.file) pair.index)
    each_there pair e =
        let held = pair_placed b.shape.block b.places (spots_of ps)
        (subst (λ (ss : List Spot). Every (IsPlace b.shape.block b.places) ss) rebuilt_spots (samples_have (IsPlace b.shape.block b.places) b.ropes id placing.placed.placed)) pair e in
        there_held s.parts.blocks.holders b.places pair placing.addresses held

    pub have_places : HavePlaces s.journal.shape.block s.parts.blocks.holders (spots_of ps)
    have_places = λ pair e. (address_of b.places pair, each_there pair (ap (λ (x : Shape). has_pair (pairs_at x.block (spots_of ps)) pair) shape_is ∙ e))

    pub are_places : ArePlaces s.journal.shape.block s.parts.blocks.holders (spots_of ps) (address_of b.places)
    are_places = λ pair e. each_there pair (ap (λ (x : Shape). has_pair (pairs_at x.block (spots_of ps)) pair) shape_is ∙ e)

    -- an honest disk has the rope's bytes there
    pub bytes_there : Foundations → (honest : IsTrue disk.honest) → IsHonest disk → bytes_on disk.bytes s.journal.shape (address_of b.places) (spots_of ps) ≡ bytes_of (samples_of last.ropes id)
    bytes_there laws honest model =
        let sound = (standing_gives laws disk).now first (tapes_of s) t0 s.journal b stood.after s.history.items model (stood.upright.held honest) in
        ap (λ (x : Shape). bytes_on disk.bytes x (address_of b.places) (spots_of ps)) (sym shape_is)
        ∙ sym (bytes_filled disk.bytes b (spots_of ps))
        ∙ ap (λ (ss : List Spot). bytes_of (map (filled disk.bytes b) ss)) (sym rebuilt_spots)
        ∙ ap bytes_of (sym (samples_by (filled disk.bytes b) b.ropes id))
        ∙ ap (λ (d : Durable Tagged). bytes_of (samples_of d.ropes id)) sound.fills

    -- ---- the call is not refused, and reaches the disk where the rope has samples

    pub unrefused : (sound : Sound) → refusal last (tapes_of s) (call_for sound id) ≡ None
    unrefused sound = by sound
      where
        known : first_unknown last.ropes (id ∷ []) ≡ None
        known = sym (missing_shown stood.held s.parts last (stood_shows first t0 disk s stood) (id ∷ [])) ∙ a_rope s.parts.ropes.ropes id [] ps live

        by : (sound : Sound) → refusal last (tapes_of s) (call_for sound id) ≡ None
        by sounds.Talk = ap (λ o. first_of (if_unknown o ∷ [])) known
        by sounds.Peaks = ap (λ o. first_of (if_unknown o ∷ [])) known

    pub reaches : (sound : Sound) → 1 ≤ samples_in ps → IsAtDevice last (tapes_of s) (call_for sound id)
    reaches sound some = (unrefused sound, by sound)
      where
        more : nat_lt 0 (length (samples_of last.ropes id)) ≡ true
        more = lt-ltb 0 (length (samples_of last.ropes id)) (omega (arith, some, length_is))

        by : (sound : Sound) → IsTrue (reaches_device last (tapes_of s) (call_for sound id))
        by sounds.Talk = more
        by sounds.Peaks = more

    -- as many reads at most as it has stretches
    pub few_reads : length (stretches s.journal.shape.block (spots_of ps)) ≡ stretches_of last id
    few_reads =
        ap (λ (ss : List Spot). length (stretches s.journal.shape.block ss)) spots_are
        ∙ ap (λ (x : Shape). length (stretches x.block (spots_in_rope (samples_of last.ropes id)))) (sym stood.upright.seated.shape)

    -- the reply, off the disk
    pub heard : Foundations → (IsTrue disk.honest → IsHonest disk) → (sound : Sound) (reply : Reply) → unheard (sounding sound []) ≡ unheard reply
        → (IsTrue disk.honest → (address : BlockPair → ℕ) → ArePlaces s.journal.shape.block s.parts.blocks.holders (spots_of ps) address → reply ≡ sounding sound (bytes_on disk.bytes s.journal.shape address (spots_of ps)))
        → IsHeard disk.honest last (tapes_of s) (call_for sound id) reply
    heard laws model sound reply kind answer = record {
      unrefused = unrefused sound;
      alike = of_kind sound ∙ kind;
      right = λ honest. reply_is sound ∙ ap (sounding sound) (sym (bytes_there laws honest (model honest))) ∙ sym (answer honest (address_of b.places) are_places);
    }
      where
        reply_is : (sound : Sound) → reply_of last (tapes_of s) (call_for sound id) ≡ sounding sound (bytes_of (samples_of last.ropes id))
        reply_is sounds.Talk = refl
        reply_is sounds.Peaks = refl

        of_kind : (sound : Sound) → unheard (reply_of last (tapes_of s) (call_for sound id)) ≡ unheard (sounding sound [])
        of_kind sounds.Talk = refl
        of_kind sounds.Peaks = refl

  -- a rope that is not live
  pub unknown : (sound : Sound) (id : ℕ) → None ≡ pieces_at s.parts.ropes.ropes id → refusal last (tapes_of s) (call_for sound id) ≡ Some (why.UnknownRope id)
  unknown sound id gone = by sound
    where
      missing : first_unknown last.ropes (id ∷ []) ≡ Some id
      missing = sym (missing_shown stood.held s.parts last (stood_shows first t0 disk s stood) (id ∷ [])) ∙ no_rope s.parts.ropes.ropes id [] gone

      by : (sound : Sound) → refusal last (tapes_of s) (call_for sound id) ≡ Some (why.UnknownRope id)
      by sounds.Talk = ap (λ o. first_of (if_unknown o ∷ [])) missing
      by sounds.Peaks = ap (λ o. first_of (if_unknown o ∷ [])) missing

-- ---- what may be answered leaves the state

built_sound : (sound : Sound) (id : ℕ) → IsTrue (is_built (call_for sound id))
built_sound sounds.Talk id = refl
built_sound sounds.Peaks id = refl

pub asks_nothing : (s : State) (sound : Sound) (id : ℕ) → IsTrue (nothing_to_land s (call_for sound id))
asks_nothing s sounds.Talk id = refl
asks_nothing s sounds.Peaks id = refl

changes_nothing : (s : State) (tapes : List (List ℕ)) (sound : Sound) (id : ℕ) → after_answer s tapes (call_for sound id) ≡ s
changes_nothing s tapes sounds.Talk id = refl
changes_nothing s tapes sounds.Peaks id = refl

pub plain_sound : (honest : Bool) (s : State) (tapes : List (List ℕ)) (call : Call) (reply : Reply) → IsHeard honest s tapes call reply → outcome_of reply ≡ Outcome.Answered
plain_sound honest s tapes call reply h =
    sym (same_outcome reply) ∙ ap outcome_of (sym h.alike) ∙ same_outcome (reply_of s tapes call)
    ∙ subst (λ o. outcome_of (reply_by s tapes call o) ≡ Outcome.Answered) h.unrefused (answered_outcome s tapes call)

pub heard_stays : (honest : Bool) (s : State) (tapes : List (List ℕ)) (caller : ℕ) (sound : Sound) (id : ℕ) (reply : Reply) → IsHeard honest s tapes (call_for sound id) reply → Stays honest s tapes caller (call_for sound id) reply
heard_stays honest s tapes caller sound id reply h = record { answers = by honest h.right; stays = stays }
  where
    right : IsReply s tapes caller (call_for sound id) (reply_of s tapes (call_for sound id))
    right = may_answer s tapes caller (call_for sound id) (built_sound sound id) (asks_nothing s sound id) None h.unrefused

    by : (told : Bool) → (IsTrue told → reply_of s tapes (call_for sound id) ≡ reply) → IsReplyOn told s tapes caller (call_for sound id) reply
    by true same = subst (IsReply s tapes caller (call_for sound id)) (same refl) right
    by false same = record { right = reply_of s tapes (call_for sound id); answer = right; alike = h.alike }

    stays : (ack : ℕ) → state_after s tapes (entry_of caller (call_for sound id) reply ack) ≡ s
    stays ack =
        ap (λ o. state_by o s tapes (call_for sound id)) (plain_sound honest s tapes (call_for sound id) reply h)
        ∙ answered_so s tapes (call_for sound id) (built_sound sound id)
        ∙ ap (after_reply s tapes (call_for sound id)) h.unrefused ∙ changes_nothing s tapes sound id

-- a read that failed
pub fault_stays : (honest : Bool) (s : State) (tapes : List (List ℕ)) (caller : ℕ) (sound : Sound) (id : ℕ) → IsAtDevice s tapes (call_for sound id) → Stays honest s tapes caller (call_for sound id) (replies.No why.DiskFault)
fault_stays honest s tapes caller sound id at = record {
  answers = reply_on honest s tapes caller (call_for sound id) (replies.No why.DiskFault) (is_reply s tapes caller (call_for sound id) (replies.No why.DiskFault) (built_sound sound id) (inr at));
  stays = λ ack. stays_home s (call_for sound id) (built_sound sound id);
}

-- ---- a disk that was only looked at

pub looked_none : (disk : Told) (most : ℕ) → Looked most disk disk
looked_none disk most = record { size = refl; honest = refl; later = omega arith; calls = omega arith; faults = omega arith; looks = λ _. record { bytes = refl; now = λ image h. h; crash = λ t image le h. inl h } }

pub stood_looked : (first : State) (t0 most : ℕ) (old new : Told) (s : Inside) → Looked most old new → (IsTrue old.honest → IsLater old new) → Stood first t0 old s → Stood first t0 new s
stood_looked first t0 most old new s looked moments stood =
    stood_went_on first t0 old new s stood looked.later looked.size looked.honest
    (λ told. let honest = subst (λ (h : Bool). IsTrue h) looked.honest told in
    let looks = looked.looks honest in
    (looks_carry old new).looked first (tapes_of s) t0 s.journal stood.b stood.after s.history.items (moments honest) (stood.upright.held honest) (record { bytes = looks.bytes; now = looks.now; crash = looks.crash }))
    (λ honest. stays_same s.journal.shape old.bytes new.bytes (looked.looks honest).bytes)

-- ---- how many calls it takes

pub last_reserved : (first : State) (s s' : Inside) → s' ≡ record s { history = s'.history } → s'.history.items ≡ s.history.items → last_of first s' ≡ last_of first s
last_reserved first s s' rest items = ap (λ (x : Inside). last_of first x) rest ∙ ap (λ (l : List Entry). after first (tapes_of s) l) items

reads_of : (s : State) (sound : Sound) (id : ℕ) → stretches_of s id ≡ most_reads s (call_for sound id)
reads_of s sounds.Talk id = refl
reads_of s sounds.Peaks id = refl

reads_as : (s : State) (tapes : List (List ℕ)) (sound : Sound) (id : ℕ) → most_reads s (call_for sound id) ≡ other_calls s tapes (call_for sound id)
reads_as s tapes sounds.Talk id = refl
reads_as s tapes sounds.Peaks id = refl

changes_none : (sound : Sound) (id : ℕ) → is_changing (call_for sound id) ≡ false
changes_none sounds.Talk id = refl
changes_none sounds.Peaks id = refl

module _ (old new : Told) (s t : State) (call : Call) (sound : Sound) (id : ℕ) (asks : call ≡ call_for sound id) (same : t ≡ s) (looked : Looked (stretches_of t id) old new) where
  pub looked_reads : Looked (most_reads s call) old new
  looked_reads = subst (λ n. Looked n old new) (ap (λ (x : State). stretches_of x id) same ∙ reads_of s sound id ∙ ap (most_reads s) (sym asks)) looked

  pub heard_within : (tapes : List (List ℕ)) → new.calls ≤ old.calls + most_calls s tapes call
  heard_within tapes =
      let few = looked_reads.calls in
      let most = most_other s tapes call (ap is_changing asks ∙ changes_none sound id) in
      let here = ap (most_reads s) asks ∙ reads_as s tapes sound id ∙ ap (other_calls s tapes) (sym asks) in
      omega (arith, few, here, most)

  pub few_on_error : {A E : Type 0} (r : Result A E) → OnErr r (new.calls ≤ old.calls + (landing_calls s + most_reads s call))
  few_on_error (Ok x) = tt
  few_on_error (Err e) = let few = looked_reads.calls in omega (arith, few)
