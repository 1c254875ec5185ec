-- Worked images of a small disk.
use Rattle.std.proofs.Common.{◌≡◌, ℕ, zero, suc, List, [], ◌∷◌, ◌++◌, refl, Option, Some, None, replicate, length, ◌+◌}
use Rattle.std.specs.Prelude.{option_map, drop, take}
use Rattle.voice_units.specs.Spots.{replaced}
use Rattle.voice_model.specs.State.{State, formatted}
use Rattle.disk_areas.specs.Numbers.{number_bytes}
use Rattle.disk_areas.specs.Areas.{graces_in, shape_in, rest_is_zero, is_head, current_head, records_from, journal_in, superblock}
use Rattle.voice_model.specs.Spelling.{spelling}
use Rattle.voice_model.specs.Image.{reading, Reading, opened_from, framed, blank}
use Rattle.voice_model.specs.Base.{base_of, framed_size}
use Rattle.voice_model.specs.Changes.{base_size}
use Rattle.voice_model.specs.Replay.{Rebuilt, rebuilt, nothing_rebuilt}
use Rattle.voice_model.proofs.Small.{small, small_old, state_of, f20, take_of}
use Rattle.voice_model.proofs.RowsOfFaults.{advances}
use Rattle.voice_model.specs.declared.changes.Change.{Change}
use Rattle.voice_model.specs.declared.changes.Change.TheVariants.{Recorded, Edited, Retained, Forgotten, Advanced, Base2, File2, Rope2, Wide}
use Rattle.voice_model.specs.declared.calls.Call.TheVariants as calls
use Rattle.voice_model.specs.declared.calls.Class.TheVariants.{Held, Listed}

-- an image with these bytes at a place
abbrev pub put : ℕ → List ℕ → List ℕ → List ℕ
put at bytes image = replaced image at (length bytes) bytes

pub superblock_small : superblock small ≡
    86 ∷ 79 ∷ 73 ∷ 67 ∷ 68 ∷ 73 ∷ 83 ∷ 75 ∷ 0 ∷ 0 ∷ 0 ∷ 2 ∷ 0 ∷ 0 ∷ 0 ∷ 8 ∷ 0 ∷ 0 ∷ 0 ∷ 16 ∷ 0 ∷ 0 ∷ 2 ∷ 0 ∷ 0 ∷ 0 ∷ 0 ∷ 60 ∷ 0 ∷ 4
    ∷ 0 ∷ 0 ∷ 0 ∷ 60 ∷ 0 ∷ 0 ∷ 0 ∷ 60 ∷ 0 ∷ 0 ∷ 0 ∷ 60 ∷ replicate 22 0
unfolding superblock
superblock_small = refl

pub superblock_small_old : superblock small_old ≡
    86 ∷ 79 ∷ 73 ∷ 67 ∷ 68 ∷ 73 ∷ 83 ∷ 75 ∷ 0 ∷ 0 ∷ 0 ∷ 1 ∷ 0 ∷ 0 ∷ 0 ∷ 8 ∷ 0 ∷ 0 ∷ 0 ∷ 16 ∷ 0 ∷ 0 ∷ 2 ∷ 0 ∷ 0 ∷ 0 ∷ 0 ∷ 60 ∷ 0 ∷ 4 ∷ replicate 34 0
unfolding superblock
superblock_small_old = refl

-- a disk that was just formatted opens as the empty one
pub blank_opens : opened_from (blank small) ≡ Some (formatted small)
unfolding graces_in shape_in rest_is_zero is_head current_head records_from journal_in superblock
blank_opens = refl

pub blank_old_opens : opened_from (blank small_old) ≡ Some (formatted small_old)
unfolding graces_in shape_in rest_is_zero is_head current_head records_from journal_in superblock
blank_old_opens = refl

-- the place of the damage
abbrev pub damage : Reading → Option ℕ
damage (Reading.Bad place) = Some place
damage (Reading.Reads journal r) = None

abbrev pub damage_by : ℕ → List ℕ → Option ℕ
damage_by at bytes = damage (reading (put at bytes (blank small_old)))

pub bad_superblocks :
    damage_by 0 (0 ∷ []) ∷ damage_by 8 (0 ∷ 0 ∷ 0 ∷ 3 ∷ []) ∷ damage_by 12 (0 ∷ 0 ∷ 0 ∷ 12 ∷ []) ∷ damage_by 16 (0 ∷ 0 ∷ 255 ∷ 255 ∷ []) ∷ damage_by 63 (1 ∷ []) ∷ []
    ≡ Some 0 ∷ Some 8 ∷ Some 12 ∷ Some 12 ∷ Some 30 ∷ []
unfolding graces_in shape_in rest_is_zero is_head current_head records_from journal_in superblock
bad_superblocks = refl

pub short_image : damage (reading (replicate 63 0)) ≡ Some 0
unfolding journal_in
short_image = refl

pub bad_new_superblocks : damage (reading (put 63 (1 ∷ []) (blank small))) ∷ damage (reading (put 30 (1 ∷ []) (blank small))) ∷ [] ≡ Some 42 ∷ None ∷ []
unfolding graces_in shape_in rest_is_zero is_head current_head records_from journal_in superblock
bad_new_superblocks = refl

pub bad_heads :
    damage_by 64 (0 ∷ []) ∷ damage_by 72 (replicate 8 0) ∷ damage (reading (put 576 (1 ∷ []) (put 584 (number_bytes 8 1) (blank small_old)))) ∷ []
    ≡ Some 64 ∷ Some 64 ∷ Some 64 ∷ []
unfolding graces_in shape_in rest_is_zero is_head current_head records_from journal_in superblock
bad_heads = refl

abbrev pub advance_frame : List ℕ
advance_frame = framed (Advanced 1)

abbrev pub recorded_twice_at : List ℕ
recorded_twice_at = spelling (Recorded 1 20 (0 ∷ 1 ∷ 1 ∷ []))

pub bad_records :
    damage_by 80 (1 ∷ 0 ∷ 0 ∷ 1 ∷ 235 ∷ []) ∷ damage_by 80 (1 ∷ 0 ∷ 0 ∷ 0 ∷ 0 ∷ [])
    ∷ damage_by 80 (advance_frame ++ advance_frame)
    ∷ damage_by 80 (1 ∷ 0 ∷ 0 ∷ 0 ∷ 1 ∷ 99 ∷ 1 ∷ 255 ∷ 255 ∷ 255 ∷ 255 ∷ [])
    ∷ damage_by 80 (1 ∷ 0 ∷ 0 ∷ 0 ∷ 23 ∷ recorded_twice_at) ∷ []
    ≡ Some 80 ∷ Some 80 ∷ Some 94 ∷ Some 86 ∷ Some 80 ∷ []
unfolding graces_in shape_in rest_is_zero is_head current_head records_from journal_in superblock
bad_records = refl

-- one advance; a gate of 7 ends the list
pub one_advance : opened_from (put 80 advance_frame (blank small_old)) ≡ Some (state_of (formatted small_old) (advances 1 1))
unfolding graces_in shape_in rest_is_zero is_head current_head records_from journal_in superblock
one_advance = refl

pub closed_gate : opened_from (put 80 (7 ∷ []) (put 80 advance_frame (blank small_old))) ≡ Some (formatted small_old)
unfolding graces_in shape_in rest_is_zero is_head current_head records_from journal_in superblock
closed_gate = refl

-- thirty-five advances, and the base that the 36th switches to; without its head's gate the image reads as before
abbrev pub frames_of : ℕ → ℕ → List ℕ
frames_of from zero = []
frames_of from (suc n) = framed (Advanced from) ++ frames_of (from + 1) n

abbrev pub before_the_gate : List ℕ
before_the_gate = put 584 (number_bytes 8 2 ++ framed (Base2 36 1)) (put 80 (frames_of 1 35) (blank small_old))

pub old_form : opened_from before_the_gate ≡ Some (state_of (formatted small_old) (advances 1 35))
unfolding graces_in shape_in rest_is_zero is_head current_head records_from journal_in superblock
old_form = refl

pub new_form : opened_from (put 576 (1 ∷ []) before_the_gate) ≡ Some (state_of (formatted small_old) (advances 1 36))
unfolding graces_in shape_in rest_is_zero is_head current_head records_from journal_in superblock
new_form = refl

pub kind_of_the_base : take 1 (drop 597 before_the_gate) ≡ 12 ∷ []
unfolding superblock
kind_of_the_base = refl

-- the base of a state is as long as its size says, and is replayed to the state
abbrev pub busy_changes : List Change
busy_changes =
    Wide 1 20 (5 ∷ 3 ∷ 0 ∷ []) ∷ Edited 2 [] ∷ Edited 3 (record { file = 1; from = 0; len = 5 } ∷ record { file = 1; from = 15; len = 5 } ∷ [])
    ∷ Retained Held (107 ∷ []) 3 (1 ∷ []) ∷ Retained Listed (107 ∷ []) 2 [] ∷ Advanced 7 ∷ Forgotten Listed (107 ∷ []) ∷ Wide 4 9 (1 ∷ 2 ∷ []) ∷ Advanced 60 ∷ []

abbrev pub rebuilt_again : ℕ → Option Rebuilt → Option Rebuilt
rebuilt_again form None = None
rebuilt_again form (Some r) = rebuilt (nothing_rebuilt r.shape) (base_of form r)

pub base_again : option_map (λ (r : Rebuilt). r.kept) (rebuilt_again 2 (rebuilt (nothing_rebuilt small) busy_changes)) ≡ option_map (λ (r : Rebuilt). r.kept) (rebuilt (nothing_rebuilt small) busy_changes)
base_again = refl

pub base_spelled :
    option_map (base_of 2) (rebuilt (nothing_rebuilt small) busy_changes)
    ≡ Some (
    Base2 60 5
    ∷ File2 1 (record { index = 0; address = 5 } ∷ record { index = 1; address = 3 } ∷ record { index = 2; address = 0 } ∷ [])
    ∷ File2 4 (record { index = 0; address = 1 } ∷ record { index = 1; address = 2 } ∷ [])
    ∷ Rope2 1 0 0 (record { file = 1; from = 0; len = 20 } ∷ []) ∷ Rope2 2 7 3 []
    ∷ Rope2 3 0 0 (record { file = 1; from = 0; len = 5 } ∷ record { file = 1; from = 15; len = 5 } ∷ []) ∷ Rope2 4 7 0 (record { file = 4; from = 0; len = 9 } ∷ [])
    ∷ Retained Held (107 ∷ []) 3 (1 ∷ []) ∷ [])
base_spelled = refl

abbrev pub busy_state : State
busy_state =
    state_of (formatted small) (
    calls.Record f20 ∷ calls.Sub 1 0 0 ∷ calls.Replace 1 5 10 2 ∷ calls.Retain Held (107 ∷ []) 3 (1 ∷ []) ∷ calls.Retain Listed (107 ∷ []) 2 [] ∷ calls.Advance 7
    ∷ calls.Forget Listed (107 ∷ []) ∷ calls.Record (take_of 3 9) ∷ calls.Advance 60 ∷ [])

pub base_sized : option_map (λ (r : Rebuilt). framed_size (base_of 2 r)) (rebuilt (nothing_rebuilt small) busy_changes) ≡ Some (base_size 2 busy_state.kept)
base_sized = refl

pub base_sized_in_form_1 : option_map (λ (r : Rebuilt). framed_size (base_of 1 r)) (rebuilt (nothing_rebuilt small) busy_changes) ≡ Some (base_size 1 busy_state.kept)
base_sized_in_form_1 = refl
