-- What a change does to the durable part, and how large it is in the journal.
--     changed form d effect      the durable part with the change done in an area of that form
--     effect_of s tapes call      the change that a call makes, none where it would alter nothing
--     payload_size form block effect, frame_size form block effect      the change's length as the journal keeps it;  with its gate and its length
--     base_size form d      the length of all records of a base that spells the durable part
--     committed s form effect      the state with the change done, in this area of the journal or by a switch to the other
use Rattle.std.specs.Prelude.{ℕ, ◌+◌, ◌-◌, ◌*◌, ◌^◌, Bool, true, false, ◌&&◌, ◌||◌, not, cond, ◌==◌, nat_lt, nat_le, List, [], ◌∷◌, ◌++◌, map, filter, length, take, sum_by, flat_map, bytes_eq, Option, Some, None, unwrap_or}
use Rattle.std.specs.List.{list_any}
use Rattle.voice_units.specs.declared.shapes.Graces.{Graces}
use Rattle.voice_units.specs.Spots.{slice, replaced}
use Rattle.voice_model.specs.Samples.{Tagged, recording, pieces_in}
use Rattle.disk_areas.specs.Numbers.{spelled_number}
use Rattle.voice_model.specs.State.{State, Durable, Live, Effect, samples_of, joined, is_row, has_row, with_rows, class_number, among, lane_at}
use Rattle.voice_model.specs.State.Effect.{Recorded, Edited, Retained, Forgotten, Counted, Swept, Advanced}
use Rattle.voice_units.specs.Blocks.{BlockPair, distinct, blocks_for}
use Rattle.voice_model.specs.Room.{pairs_of}
use Rattle.voice_model.specs.Tapes.{taken}
use Rattle.voice_model.specs.declared.calls.Call.{Call}
use Rattle.voice_model.specs.declared.calls.Call.TheVariants as calls
use Rattle.voice_model.specs.declared.calls.Row.{Row}

-- ---- which rows and ropes go

-- an interest of class Until is expired as soon as its moment is not above now
abbrev pub is_expired : ℕ → Row → Bool
is_expired now row = (class_number row.class == 2) && nat_le (spelled_number row.note) now

-- an interest of class Listed is obsolete where its key is absent from a census
abbrev pub is_unlisted : List (List ℕ) → Row → Bool
is_unlisted census row = (class_number row.class == 3) && not (list_any (bytes_eq row.key) census)

-- the keys of the rows that a census drops: the first 65,535 that are obsolete
abbrev pub unlisted_keys : List Row → List (List ℕ) → List (List ℕ)
unlisted_keys rows census = map (λ row. row.key) (take 65535 (filter (is_unlisted census) rows))

-- the rows without those of class Listed with these keys
abbrev pub rows_left : List Row → List (List ℕ) → List Row
rows_left rows keys = filter (λ row. not ((class_number row.class == 3) && list_any (bytes_eq row.key) keys)) rows

abbrev pub expired_rows : {A : Type 0} → Durable A → List Row
expired_rows d = filter (is_expired d.moment) d.rows

-- the durable part without the rows that are expired
abbrev pub without_expired : {A : Type 0} → ℕ → Durable A → Durable A
without_expired form d = with_rows form 2 d (filter (λ row. not (is_expired d.moment row)) d.rows)

-- how long a rope waits: the grace of the class of the last row that it lost, or the common one
abbrev pub wait_of : Graces → ℕ → ℕ
wait_of graces last = cond (last == 1) graces.held (cond (last == 2) graces.until (cond (last == 3) graces.listed graces.common))

-- a rope without a row that was idle for its wait
abbrev pub is_due : {A : Type 0} → Durable A → Live A → Bool
is_due d rope = not (has_row d.rows rope.id) && nat_le (rope.idle + wait_of d.shape.graces rope.last) d.moment

-- the ropes that a sweep removes: the first ones in rising number that are due once the expired rows are gone
abbrev pub swept_ropes : {A : Type 0} → ℕ → Durable A → ℕ → List ℕ
swept_ropes form d limit = let left = without_expired form d in take limit (map (λ rope. rope.id) (filter (is_due left) left.ropes))

-- ---- what a change does

-- a rope of a number comes last, idle since now, and never had a row
abbrev pub with_rope : {A : Type 0} → Durable A → ℕ → List A → Durable A
with_rope d id samples = record d { ropes = d.ropes ++ record { id = id; samples = samples; idle = d.moment; last = 0 } ∷ []; next = id + 1 }

abbrev pub without_ropes : {A : Type 0} → Durable A → List ℕ → Durable A
without_ropes d gone = record d { ropes = filter (λ rope. not (among gone rope.id)) d.ropes }

-- the durable part with a change done in an area of this form
abbrev pub changed : {A : Type 0} → ℕ → Durable A → Effect A → Durable A
changed form d (Recorded id samples) = with_rope d id samples
changed form d (Edited id samples) = with_rope d id samples
changed form d (Retained row) = record d { rows = d.rows ++ row ∷ [] }
changed form d (Forgotten class key) = with_rows form (class_number class) d (filter (λ row. not (is_row class key row)) d.rows)
changed form d (Counted keys) = with_rows form 3 d (rows_left d.rows keys)
changed form d (Swept ids) = without_ropes (without_expired form d) ids
changed form d (Advanced moment) = record d { moment = moment }

-- ---- which change a call makes

-- the change, unless the list is empty
abbrev pub unless_empty : {A : Type 0} → List A → Effect Tagged → Option (Effect Tagged)
unless_empty [] effect = None
unless_empty (x ∷ xs) effect = Some effect

abbrev pub if_later : ℕ → ℕ → Option (Effect Tagged)
if_later now moment = cond (nat_lt now moment) (Some (Advanced moment)) None

-- a sweep of rows and ropes, unless both lists are empty
abbrev pub if_any : List Row → List ℕ → Option (Effect Tagged)
if_any [] [] = None
if_any [] (id ∷ ids) = Some (Swept (id ∷ ids))
if_any (row ∷ rows) ids = Some (Swept ids)

-- the bytes of a lane's open recording
abbrev pub taking_of : State → ℕ → List ℕ
taking_of s lane = unwrap_or (lane_at s lane).taking []

abbrev pub effect_of : State → List (List ℕ) → Call → Option (Effect Tagged)
effect_of s tapes (calls.Record take) = Some (Recorded s.next (recording s.next (taken tapes take)))
effect_of s tapes (calls.Concat ids) = Some (Edited s.next (joined s.ropes ids))
effect_of s tapes (calls.Sub id start len) = Some (Edited s.next (slice (samples_of s.ropes id) start len))
effect_of s tapes (calls.Replace id start len with) = Some (Edited s.next (replaced (samples_of s.ropes id) start len (samples_of s.ropes with)))
effect_of s tapes (calls.End lane) = Some (Recorded s.next (recording s.next (taking_of s lane)))
effect_of s tapes (calls.Retain class key id note) = Some (Retained (record { class = class; key = key; rope = id; note = note }))
effect_of s tapes (calls.Forget class key) = Some (Forgotten class key)
effect_of s tapes (calls.Census keys) = let gone = unlisted_keys s.rows keys in unless_empty gone (Counted gone)
effect_of s tapes (calls.Advance moment) = if_later s.moment moment
effect_of s tapes (calls.Sweep limit) = if_any (expired_rows s.kept) (swept_ropes s.form s.kept limit)
effect_of s tapes _ = None

-- whether the call is of a kind that can make a change
abbrev pub is_changing : Call → Bool
is_changing (calls.Record take) = true
is_changing (calls.Concat ids) = true
is_changing (calls.Sub id start len) = true
is_changing (calls.Replace id start len with) = true
is_changing (calls.End lane) = true
is_changing (calls.Retain class key id note) = true
is_changing (calls.Forget class key) = true
is_changing (calls.Census keys) = true
is_changing (calls.Advance moment) = true
is_changing (calls.Sweep limit) = true
is_changing _ = false

-- ---- how large a change is

-- an address takes 2 bytes in form 1 and 4 in form 2
abbrev pub address_size : ℕ → ℕ
address_size form = cond (form == 2) 4 2

-- a recording names the address of each block, an edit its pieces
abbrev pub payload_size : ℕ → ℕ → Effect Tagged → ℕ
payload_size form block (Recorded id samples) = 17 + address_size form * blocks_for block (length samples)
payload_size form block (Edited id samples) = 11 + 16 * length (pieces_in samples)
payload_size form block (Retained row) = 12 + length row.key + length row.note
payload_size form block (Forgotten class key) = 3 + length key
payload_size form block (Counted keys) = 3 + sum_by (λ key. 1 + length key) keys
payload_size form block (Swept ids) = 3 + 8 * length ids
payload_size form block (Advanced moment) = 9

-- with its gate and its length
abbrev pub frame_size : ℕ → ℕ → Effect Tagged → ℕ
frame_size form block effect = 5 + payload_size form block effect

-- numbers, each once
abbrev pub each_once : List ℕ → List ℕ
each_once [] = []
each_once (n ∷ ns) = let rest = each_once ns in cond (among rest n) rest (n ∷ rest)

-- the blocks that live ropes use
abbrev pub live_pairs : Durable Tagged → List BlockPair
live_pairs d = distinct (pairs_of d.shape.block (flat_map (λ rope. rope.samples) d.ropes))

-- a rope of form 2 has its last class besides
abbrev pub rope_size : ℕ → Live Tagged → ℕ
rope_size form rope = 24 + cond (form == 2) 1 0 + 16 * length (pieces_in rope.samples)

-- one record of the moment and the next number, one for each file that live ropes use with its blocks, one for each rope and one for each row
abbrev pub base_size : ℕ → Durable Tagged → ℕ
base_size form d =
    22
    + (18 * length (each_once (map (λ pair. pair.file) (live_pairs d))) + (4 + address_size form) * length (live_pairs d))
    + sum_by (rope_size form) d.ropes
    + sum_by (λ row. 17 + length row.key + length row.note) d.rows

-- ---- how it is committed

-- the greatest epoch; there is no switch at it
abbrev pub last_epoch : ℕ
last_epoch = 2 ^ 48

-- a switch keeps form 2; from form 1 it goes to form 2 where that base fits an area
abbrev pub form_after_switch : ℕ → Durable Tagged → ℕ
form_after_switch form after = cond ((form == 2) || nat_le (base_size 2 after) (after.shape.area - 17)) 2 1

-- The change is appended where its frame fits the rest of the area, and else a base of the state after it goes into the other area.
-- Either way it is done in the form in which it was asked.
abbrev pub committed : State → ℕ → Effect Tagged → State
committed s form effect =
    let after = changed form s.kept effect in
    let frame = frame_size form s.shape.block effect in
    let fits = nat_le frame s.left in
    let to = form_after_switch s.form after in
    record s {
      kept = after;
      left = cond fits (s.left - frame) (s.shape.area - 17 - base_size to after);
      epoch = cond fits s.epoch (s.epoch + 1);
      form = cond fits s.form to;
    }
