-- Worked rows on faults, doubt and the journal's room.
use Rattle.std.proofs.Common.{◌≡◌, ℕ, List, [], ◌∷◌, ◌++◌, refl, replicate, ◌+◌, zero, suc, inl, ◌^◌}
use Rattle.voice_model.proofs.Small.{small, small_old, on_small, on_small_old, replies_to, state_of, tapes, f20, take_of}
use Rattle.voice_model.specs.State.{State, formatted}
use Rattle.voice_model.specs.Changes.{base_size}
use Rattle.voice_model.specs.Step.{Legal}
use Rattle.voice_units.specs.declared.pieces.Take.{Take}
use Rattle.voice_model.specs.declared.calls.Class.TheVariants.{Held}
use Rattle.voice_model.specs.declared.calls.Call.{Call}
use Rattle.voice_model.specs.declared.calls.Entry.{Entry}
use Rattle.voice_model.specs.declared.calls.Reply.{Reply}
use Rattle.voice_model.specs.declared.calls.Call.TheVariants.{Record, Sub, Retain, Lookup, Advance, Sweep, Length, Landed}
use Rattle.voice_model.specs.declared.calls.Reply.TheVariants.{Rope, Number, No, Done, Found, Swept}
use Rattle.voice_model.specs.declared.calls.Why.TheVariants.{InDoubt, DiskFault, NoInterest, UnknownRope, JournalFull}

abbrev pub said : ℕ → Call → Reply → Entry
said caller call reply = record { caller = caller; call = call; reply = reply; ack = 0 }

-- a change in doubt is not seen until it lands
abbrev pub doubted_row : List Entry
doubted_row =
    said 1 (Record f20) (Rope 1 20)
    ∷ said 1 (Retain Held (107 ∷ []) 1 []) (No InDoubt)
    ∷ said 1 (Lookup Held (107 ∷ [])) (No NoInterest)
    ∷ said 0 Landed Done
    ∷ said 1 (Advance 5) Done
    ∷ said 1 (Lookup Held (107 ∷ [])) (Found 1 [])
    ∷ []

pub doubted_row_legal : Legal (formatted small) tapes doubted_row
doubted_row_legal =
    ((tt, (refl, refl)), ((tt, (refl, refl, refl, refl)), ((tt, (refl, refl)), ((refl, refl, refl), ((tt, (refl, refl)), ((tt, (refl, refl)), tt))))))

abbrev pub doubted_edit : List Entry
doubted_edit =
    said 1 (Record f20) (Rope 1 20)
    ∷ said 1 (Sub 1 0 5) (No InDoubt)
    ∷ said 1 (Length 2) (No (UnknownRope 2))
    ∷ said 1 (Sub 1 0 6) (No DiskFault)
    ∷ said 0 Landed Done
    ∷ said 1 (Sub 1 0 6) (Rope 3 6)
    ∷ said 1 (Length 2) (Number 5)
    ∷ []

pub doubted_edit_legal : Legal (formatted small) tapes doubted_edit
doubted_edit_legal =
    ((tt, (refl, refl)), ((tt, (refl, refl, refl, refl)), ((tt, (refl, refl)), ((tt, inl refl), ((refl, refl, refl), ((tt, (refl, refl)), ((tt, (refl, refl)), tt)))))))

-- advances to 1, 2, .. n
abbrev pub advances : ℕ → ℕ → List Call
advances from zero = []
advances from (suc n) = Advance from ∷ advances (from + 1) n

-- the 36th advance goes by a switch to the other area
pub advances_left : (state_of (formatted small) (advances 1 36)).left ≡ 473
advances_left = refl

pub advances_epoch : (state_of (formatted small) (advances 1 36)).epoch ≡ 2
advances_epoch = refl

pub advances_done : on_small (advances 1 36) ≡ replicate 36 Done
advances_done = refl

-- at the last epoch the 36th is refused, and an area of form 1 has room for 15 ropes of a piece
abbrev pub at_last_epoch : State
at_last_epoch = record (formatted small_old) { epoch = 2 ^ 48 }

pub advances_without_switch : replies_to at_last_epoch (advances 1 36) ≡ replicate 35 Done ++ No (JournalFull 14 5) ∷ []
advances_without_switch = refl

pub subs_without_switch :
    replies_to at_last_epoch (Record f20 ∷ replicate 15 (Sub 1 0 20))
    ≡ Rope 1 20 ∷ Rope 2 20 ∷ Rope 3 20 ∷ Rope 4 20 ∷ Rope 5 20 ∷ Rope 6 20 ∷ Rope 7 20 ∷ Rope 8 20 ∷ Rope 9 20 ∷ Rope 10 20 ∷ Rope 11 20 ∷ Rope 12 20 ∷ Rope 13 20
    ∷ Rope 14 20 ∷ Rope 15 20 ∷ No (JournalFull 32 19) ∷ []
subs_without_switch = refl

-- these 15 ropes fill more than an area, and so an edit is refused, but what makes the base no longer is not
abbrev pub full_disk : State
full_disk = record (state_of at_last_epoch (Record f20 ∷ replicate 14 (Sub 1 0 20))) { epoch = 1 }

pub full_disk_size : base_size 1 full_disk.kept ≡ 658
full_disk_size = refl

pub full_disk_replies : replies_to full_disk (Sub 1 0 20 ∷ Advance 60 ∷ Sweep 99 ∷ []) ≡ No (JournalFull 698 495) ∷ Done ∷ Swept 0 (1 ∷ 2 ∷ 3 ∷ 4 ∷ 5 ∷ 6 ∷ 7 ∷ 8 ∷ 9 ∷ 10 ∷ 11 ∷ 12 ∷ 13 ∷ 14 ∷ 15 ∷ []) ∷ []
full_disk_replies = refl

pub full_disk_left : (state_of full_disk (Sub 1 0 20 ∷ Advance 60 ∷ Sweep 99 ∷ [])).left ≡ 473
full_disk_left = refl

pub full_disk_form : (state_of full_disk (Sub 1 0 20 ∷ Advance 60 ∷ Sweep 99 ∷ [])).form ≡ 2
full_disk_form = refl

abbrev pub ten_ropes : List Reply
ten_ropes = Rope 1 20 ∷ Rope 2 20 ∷ Rope 3 20 ∷ Rope 4 20 ∷ Rope 5 20 ∷ Rope 6 20 ∷ Rope 7 20 ∷ Rope 8 20 ∷ Rope 9 20 ∷ Rope 10 20 ∷ []

-- the base of an eleventh rope fits no area
pub subs_with_switch : on_small (Record f20 ∷ replicate 15 (Sub 1 0 20)) ≡ ten_ropes ++ replicate 6 (No (JournalFull 515 495))
subs_with_switch = refl

pub subs_with_switch_in_form_1 : on_small_old (Record f20 ∷ replicate 15 (Sub 1 0 20)) ≡ ten_ropes ++ replicate 6 (No (JournalFull 498 495))
subs_with_switch_in_form_1 = refl

pub many_advances_epoch : (state_of (formatted small) (advances 1 1000)).epoch ≡ 30
many_advances_epoch = refl

pub many_advances_left : (state_of (formatted small) (advances 1 1000)).left ≡ 305
many_advances_left = refl

-- the first two switches, and the last one
pub first_switches :
    (state_of (formatted small) (advances 1 35)).epoch ∷ (state_of (formatted small) (advances 1 36)).epoch
    ∷ (state_of (formatted small) (advances 1 69)).epoch ∷ (state_of (formatted small) (advances 1 70)).epoch
    ∷ (state_of (formatted small) (advances 1 987)).epoch ∷ (state_of (formatted small) (advances 1 988)).epoch ∷ []
    ≡ 1 ∷ 2 ∷ 2 ∷ 3 ∷ 29 ∷ 30 ∷ []
first_switches = refl

-- an old disk goes to form 2 at its first switch
pub old_advances_form : (state_of (formatted small_old) (advances 1 35)).form ≡ 1
old_advances_form = refl

pub old_advances_form_after : (state_of (formatted small_old) (advances 1 36)).form ≡ 2
old_advances_form_after = refl

pub old_advances_left : (state_of (formatted small_old) (advances 1 36)).left ≡ 473
old_advances_left = refl

-- n empty ropes
abbrev pub z0 : Take
z0 = take_of 0 0

abbrev pub empty_ropes : ℕ → ℕ → List Reply
empty_ropes from zero = []
empty_ropes from (suc n) = Rope from 0 ∷ empty_ropes (from + 1) n

pub empty_ropes_in_form_1 : on_small_old (replicate 20 (Record z0)) ≡ empty_ropes 1 19 ++ No (JournalFull 502 495) ∷ []
empty_ropes_in_form_1 = refl

pub empty_ropes_in_form_2 : on_small (replicate 20 (Record z0)) ≡ empty_ropes 1 18 ++ replicate 2 (No (JournalFull 497 495))
empty_ropes_in_form_2 = refl

-- where form 2 does not fit an area, an old disk stays in form 1
abbrev pub crowded_old : State
crowded_old = state_of (formatted small_old) (replicate 20 (Record z0))

pub crowded_old_replies : replies_to crowded_old (advances 1 6) ≡ replicate 6 Done
crowded_old_replies = refl

pub crowded_old_before : (state_of crowded_old (advances 1 5)).epoch ≡ 1
crowded_old_before = refl

pub crowded_old_after : state_of crowded_old (advances 1 6) ≡ record (state_of crowded_old (advances 1 6)) { left = 17; epoch = 2; form = 1 }
crowded_old_after = refl
