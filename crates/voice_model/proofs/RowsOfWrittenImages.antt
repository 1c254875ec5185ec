-- Images of small disks that an independent program wrote, and the states that the same calls leave.
use Rattle.std.proofs.Common.{◌≡◌, ℕ, List, [], ◌∷◌, ◌++◌, refl, Some, replicate}
use Rattle.disk_areas.specs.Areas.{graces_in, shape_in, rest_is_zero, is_head, current_head, records_from, journal_in}
use Rattle.voice_model.specs.State.{formatted}
use Rattle.voice_model.specs.Image.{opened_from}
use Rattle.voice_model.proofs.Small.{small_old, state_of, f20, take_of}
use Rattle.voice_model.proofs.RowsOfWaits.{patient}
use Rattle.voice_model.proofs.RowsOfFaults.{advances}
use Rattle.voice_model.specs.declared.calls.Class.TheVariants.{Held, Until, Listed}
use Rattle.voice_model.specs.declared.calls.Call.{Call}
use Rattle.voice_model.specs.declared.calls.Call.TheVariants.{Record, Sub, Replace, Retain, Forget, Advance, Sweep}

abbrev pub kept : List ℕ
kept =
    (86 ∷ 79 ∷ 73 ∷ 67 ∷ 68 ∷ 73 ∷ 83 ∷ 75 ∷ 0 ∷ 0 ∷ 0 ∷ 2 ∷ 0 ∷ 0 ∷ 0 ∷ 8 ∷ 0 ∷ 0 ∷ 0 ∷ 16 ∷ 0 ∷ 0 ∷ 2 ∷ 0 ∷ 0 ∷ 0 ∷ 0 ∷ 60 ∷ 0 ∷ 4 ∷ 0 ∷ 0 ∷ 0 ∷ 10 ∷ [])
    ++ replicate 7 0
    ++ (100 ∷ [])
    ++ replicate 22 0
    ++ (1 ∷ [])
    ++ replicate 14 0
    ++ (1 ∷ 1 ∷ 0 ∷ 0 ∷ 0 ∷ 29 ∷ 11 ∷ [])
    ++ replicate 7 0
    ++ (1 ∷ 0 ∷ 0 ∷ 0 ∷ 20 ∷ 0 ∷ 0 ∷ 0 ∷ 3 ∷ [])
    ++ replicate 7 0
    ++ (1 ∷ 0 ∷ 0 ∷ 0 ∷ 2 ∷ 1 ∷ 0 ∷ 0 ∷ 0 ∷ 11 ∷ 2 ∷ [])
    ++ replicate 7 0
    ++ (2 ∷ 0 ∷ 0 ∷ 1 ∷ 0 ∷ 0 ∷ 0 ∷ 43 ∷ 2 ∷ [])
    ++ replicate 7 0
    ++ (3 ∷ 0 ∷ 2 ∷ [])
    ++ replicate 7 0
    ++ (1 ∷ [])
    ++ replicate 7 0
    ++ (5 ∷ [])
    ++ replicate 7 0
    ++ (1 ∷ 0 ∷ 0 ∷ 0 ∷ 15 ∷ 0 ∷ 0 ∷ 0 ∷ 5 ∷ 1 ∷ 0 ∷ 0 ∷ 0 ∷ 14 ∷ 3 ∷ 1 ∷ 1 ∷ 107 ∷ [])
    ++ replicate 7 0
    ++ (3 ∷ 1 ∷ 1 ∷ 1 ∷ 0 ∷ 0 ∷ 0 ∷ 13 ∷ 3 ∷ 3 ∷ 1 ∷ 107 ∷ [])
    ++ replicate 7 0
    ++ (2 ∷ 0 ∷ 1 ∷ 0 ∷ 0 ∷ 0 ∷ 9 ∷ 7 ∷ [])
    ++ replicate 7 0
    ++ (7 ∷ 1 ∷ 0 ∷ 0 ∷ 0 ∷ 4 ∷ 4 ∷ 3 ∷ 1 ∷ 107 ∷ 1 ∷ 0 ∷ 0 ∷ 0 ∷ 25 ∷ 11 ∷ [])
    ++ replicate 7 0
    ++ (4 ∷ 0 ∷ 0 ∷ 0 ∷ 9 ∷ 0 ∷ 0 ∷ 0 ∷ 2 ∷ 0 ∷ 0 ∷ 0 ∷ 3 ∷ 0 ∷ 0 ∷ 0 ∷ 4 ∷ 1 ∷ 0 ∷ 0 ∷ 0 ∷ 9 ∷ 7 ∷ [])
    ++ replicate 7 0
    ++ (17 ∷ 1 ∷ 0 ∷ 0 ∷ 0 ∷ 21 ∷ 3 ∷ 2 ∷ 1 ∷ 117 ∷ [])
    ++ replicate 7 0
    ++ (4 ∷ 8 ∷ [])
    ++ replicate 7 0
    ++ (20 ∷ 1 ∷ 0 ∷ 0 ∷ 0 ∷ 9 ∷ 7 ∷ [])
    ++ replicate 7 0
    ++ (20 ∷ 1 ∷ 0 ∷ 0 ∷ 0 ∷ 11 ∷ 6 ∷ 0 ∷ 1 ∷ [])
    ++ replicate 7 0
    ++ (4 ∷ [])
    ++ replicate 750 0
    ++ (65 ∷ 66 ∷ 67 ∷ 68 ∷ 69 ∷ 70 ∷ 71 ∷ 72 ∷ 73 ∷ 74 ∷ 75 ∷ 76 ∷ 77 ∷ 78 ∷ 79 ∷ 80 ∷ 81 ∷ 82 ∷ 83 ∷ 84 ∷ 0 ∷ 0 ∷ 0 ∷ 0 ∷ [])
    ++ replicate 9 128
    ++ replicate 95 0

abbrev pub switched : List ℕ
switched =
    (86 ∷ 79 ∷ 73 ∷ 67 ∷ 68 ∷ 73 ∷ 83 ∷ 75 ∷ 0 ∷ 0 ∷ 0 ∷ 2 ∷ 0 ∷ 0 ∷ 0 ∷ 8 ∷ 0 ∷ 0 ∷ 0 ∷ 16 ∷ 0 ∷ 0 ∷ 2 ∷ 0 ∷ 0 ∷ 0 ∷ 0 ∷ 60 ∷ 0 ∷ 4 ∷ 0 ∷ 0 ∷ 0 ∷ 10 ∷ [])
    ++ replicate 7 0
    ++ (100 ∷ [])
    ++ replicate 22 0
    ++ (1 ∷ [])
    ++ replicate 14 0
    ++ (1 ∷ 1 ∷ 0 ∷ 0 ∷ 0 ∷ 29 ∷ 11 ∷ [])
    ++ replicate 7 0
    ++ (1 ∷ 0 ∷ 0 ∷ 0 ∷ 20 ∷ 0 ∷ 0 ∷ 0 ∷ 3 ∷ [])
    ++ replicate 7 0
    ++ (1 ∷ 0 ∷ 0 ∷ 0 ∷ 2 ∷ 1 ∷ 0 ∷ 0 ∷ 0 ∷ 11 ∷ 2 ∷ [])
    ++ replicate 7 0
    ++ (2 ∷ 0 ∷ 0 ∷ 1 ∷ 0 ∷ 0 ∷ 0 ∷ 43 ∷ 2 ∷ [])
    ++ replicate 7 0
    ++ (3 ∷ 0 ∷ 2 ∷ [])
    ++ replicate 7 0
    ++ (1 ∷ [])
    ++ replicate 7 0
    ++ (5 ∷ [])
    ++ replicate 7 0
    ++ (1 ∷ 0 ∷ 0 ∷ 0 ∷ 15 ∷ 0 ∷ 0 ∷ 0 ∷ 5 ∷ 1 ∷ 0 ∷ 0 ∷ 0 ∷ 14 ∷ 3 ∷ 1 ∷ 1 ∷ 107 ∷ [])
    ++ replicate 7 0
    ++ (3 ∷ 1 ∷ 1 ∷ 1 ∷ 0 ∷ 0 ∷ 0 ∷ 13 ∷ 3 ∷ 3 ∷ 1 ∷ 107 ∷ [])
    ++ replicate 7 0
    ++ (2 ∷ 0 ∷ 1 ∷ 0 ∷ 0 ∷ 0 ∷ 9 ∷ 7 ∷ [])
    ++ replicate 7 0
    ++ (7 ∷ 1 ∷ 0 ∷ 0 ∷ 0 ∷ 4 ∷ 4 ∷ 3 ∷ 1 ∷ 107 ∷ 1 ∷ 0 ∷ 0 ∷ 0 ∷ 25 ∷ 11 ∷ [])
    ++ replicate 7 0
    ++ (4 ∷ 0 ∷ 0 ∷ 0 ∷ 9 ∷ 0 ∷ 0 ∷ 0 ∷ 2 ∷ 0 ∷ 0 ∷ 0 ∷ 3 ∷ 0 ∷ 0 ∷ 0 ∷ 4 ∷ 1 ∷ 0 ∷ 0 ∷ 0 ∷ 9 ∷ 7 ∷ [])
    ++ replicate 7 0
    ++ (17 ∷ 1 ∷ 0 ∷ 0 ∷ 0 ∷ 21 ∷ 3 ∷ 2 ∷ 1 ∷ 117 ∷ [])
    ++ replicate 7 0
    ++ (4 ∷ 8 ∷ [])
    ++ replicate 7 0
    ++ (20 ∷ 1 ∷ 0 ∷ 0 ∷ 0 ∷ 9 ∷ 7 ∷ [])
    ++ replicate 7 0
    ++ (20 ∷ 1 ∷ 0 ∷ 0 ∷ 0 ∷ 11 ∷ 6 ∷ 0 ∷ 1 ∷ [])
    ++ replicate 7 0
    ++ (4 ∷ 1 ∷ 0 ∷ 0 ∷ 0 ∷ 9 ∷ 7 ∷ [])
    ++ replicate 7 0
    ++ (21 ∷ 1 ∷ 0 ∷ 0 ∷ 0 ∷ 9 ∷ 7 ∷ [])
    ++ replicate 7 0
    ++ (22 ∷ 1 ∷ 0 ∷ 0 ∷ 0 ∷ 9 ∷ 7 ∷ [])
    ++ replicate 7 0
    ++ (23 ∷ 1 ∷ 0 ∷ 0 ∷ 0 ∷ 9 ∷ 7 ∷ [])
    ++ replicate 7 0
    ++ (24 ∷ 1 ∷ 0 ∷ 0 ∷ 0 ∷ 9 ∷ 7 ∷ [])
    ++ replicate 7 0
    ++ (25 ∷ 1 ∷ 0 ∷ 0 ∷ 0 ∷ 9 ∷ 7 ∷ [])
    ++ replicate 7 0
    ++ (26 ∷ 1 ∷ 0 ∷ 0 ∷ 0 ∷ 9 ∷ 7 ∷ [])
    ++ replicate 7 0
    ++ (27 ∷ 1 ∷ 0 ∷ 0 ∷ 0 ∷ 9 ∷ 7 ∷ [])
    ++ replicate 7 0
    ++ (28 ∷ 1 ∷ 0 ∷ 0 ∷ 0 ∷ 9 ∷ 7 ∷ [])
    ++ replicate 7 0
    ++ (29 ∷ 1 ∷ 0 ∷ 0 ∷ 0 ∷ 9 ∷ 7 ∷ [])
    ++ replicate 7 0
    ++ (30 ∷ 1 ∷ 0 ∷ 0 ∷ 0 ∷ 9 ∷ 7 ∷ [])
    ++ replicate 7 0
    ++ (31 ∷ 1 ∷ 0 ∷ 0 ∷ 0 ∷ 9 ∷ 7 ∷ [])
    ++ replicate 7 0
    ++ (32 ∷ 1 ∷ 0 ∷ 0 ∷ 0 ∷ 9 ∷ 7 ∷ [])
    ++ replicate 7 0
    ++ (33 ∷ 1 ∷ 0 ∷ 0 ∷ 0 ∷ 9 ∷ 7 ∷ [])
    ++ replicate 7 0
    ++ (34 ∷ 1 ∷ 0 ∷ 0 ∷ 0 ∷ 9 ∷ 7 ∷ [])
    ++ replicate 7 0
    ++ (35 ∷ 1 ∷ 0 ∷ 0 ∷ 0 ∷ 9 ∷ 7 ∷ [])
    ++ replicate 7 0
    ++ (36 ∷ [])
    ++ replicate 14 0
    ++ (1 ∷ [])
    ++ replicate 14 0
    ++ (2 ∷ 1 ∷ 0 ∷ 0 ∷ 0 ∷ 17 ∷ 12 ∷ [])
    ++ replicate 7 0
    ++ (37 ∷ [])
    ++ replicate 7 0
    ++ (5 ∷ 1 ∷ 0 ∷ 0 ∷ 0 ∷ 37 ∷ 13 ∷ [])
    ++ replicate 7 0
    ++ (1 ∷ 0 ∷ 0 ∷ 0 ∷ 3 ∷ [])
    ++ replicate 11 0
    ++ (1 ∷ 0 ∷ 0 ∷ 0 ∷ 1 ∷ 0 ∷ 0 ∷ 0 ∷ 2 ∷ 0 ∷ 0 ∷ 0 ∷ 2 ∷ 1 ∷ 0 ∷ 0 ∷ 0 ∷ 36 ∷ 14 ∷ [])
    ++ replicate 7 0
    ++ (1 ∷ [])
    ++ replicate 10 0
    ++ (1 ∷ [])
    ++ replicate 7 0
    ++ (1 ∷ [])
    ++ replicate 7 0
    ++ (20 ∷ 1 ∷ 0 ∷ 0 ∷ 0 ∷ 20 ∷ 14 ∷ [])
    ++ replicate 7 0
    ++ (2 ∷ [])
    ++ replicate 7 0
    ++ (7 ∷ 3 ∷ 0 ∷ 0 ∷ 1 ∷ 0 ∷ 0 ∷ 0 ∷ 52 ∷ 14 ∷ [])
    ++ replicate 7 0
    ++ (3 ∷ [])
    ++ replicate 10 0
    ++ (2 ∷ [])
    ++ replicate 7 0
    ++ (1 ∷ [])
    ++ replicate 7 0
    ++ (5 ∷ [])
    ++ replicate 7 0
    ++ (1 ∷ 0 ∷ 0 ∷ 0 ∷ 15 ∷ 0 ∷ 0 ∷ 0 ∷ 5 ∷ 1 ∷ 0 ∷ 0 ∷ 0 ∷ 14 ∷ 3 ∷ 1 ∷ 1 ∷ 107 ∷ [])
    ++ replicate 7 0
    ++ (3 ∷ 1 ∷ 1 ∷ 1 ∷ 0 ∷ 0 ∷ 0 ∷ 9 ∷ 7 ∷ [])
    ++ replicate 7 0
    ++ (38 ∷ 1 ∷ 0 ∷ 0 ∷ 0 ∷ 9 ∷ 7 ∷ [])
    ++ replicate 7 0
    ++ (39 ∷ 1 ∷ 0 ∷ 0 ∷ 0 ∷ 9 ∷ 7 ∷ [])
    ++ replicate 7 0
    ++ (40 ∷ 1 ∷ 0 ∷ 0 ∷ 0 ∷ 9 ∷ 7 ∷ [])
    ++ replicate 7 0
    ++ (41 ∷ 1 ∷ 0 ∷ 0 ∷ 0 ∷ 9 ∷ 7 ∷ [])
    ++ replicate 7 0
    ++ (42 ∷ 1 ∷ 0 ∷ 0 ∷ 0 ∷ 9 ∷ 7 ∷ [])
    ++ replicate 7 0
    ++ (43 ∷ 1 ∷ 0 ∷ 0 ∷ 0 ∷ 9 ∷ 7 ∷ [])
    ++ replicate 7 0
    ++ (44 ∷ [])
    ++ replicate 192 0
    ++ (65 ∷ 66 ∷ 67 ∷ 68 ∷ 69 ∷ 70 ∷ 71 ∷ 72 ∷ 73 ∷ 74 ∷ 75 ∷ 76 ∷ 77 ∷ 78 ∷ 79 ∷ 80 ∷ 81 ∷ 82 ∷ 83 ∷ 84 ∷ 0 ∷ 0 ∷ 0 ∷ 0 ∷ [])
    ++ replicate 9 128
    ++ replicate 95 0

abbrev pub migrated : List ℕ
migrated =
    (86 ∷ 79 ∷ 73 ∷ 67 ∷ 68 ∷ 73 ∷ 83 ∷ 75 ∷ 0 ∷ 0 ∷ 0 ∷ 1 ∷ 0 ∷ 0 ∷ 0 ∷ 8 ∷ 0 ∷ 0 ∷ 0 ∷ 16 ∷ 0 ∷ 0 ∷ 2 ∷ 0 ∷ 0 ∷ 0 ∷ 0 ∷ 60 ∷ 0 ∷ 4 ∷ [])
    ++ replicate 34 0
    ++ (1 ∷ [])
    ++ replicate 14 0
    ++ (1 ∷ 1 ∷ 0 ∷ 0 ∷ 0 ∷ 23 ∷ 1 ∷ [])
    ++ replicate 7 0
    ++ (1 ∷ 0 ∷ 0 ∷ 0 ∷ 20 ∷ 0 ∷ 0 ∷ 0 ∷ 3 ∷ 0 ∷ 0 ∷ 0 ∷ 1 ∷ 0 ∷ 2 ∷ 1 ∷ 0 ∷ 0 ∷ 0 ∷ 11 ∷ 2 ∷ [])
    ++ replicate 7 0
    ++ (2 ∷ 0 ∷ 0 ∷ 1 ∷ 0 ∷ 0 ∷ 0 ∷ 43 ∷ 2 ∷ [])
    ++ replicate 7 0
    ++ (3 ∷ 0 ∷ 2 ∷ [])
    ++ replicate 7 0
    ++ (1 ∷ [])
    ++ replicate 7 0
    ++ (5 ∷ [])
    ++ replicate 7 0
    ++ (1 ∷ 0 ∷ 0 ∷ 0 ∷ 15 ∷ 0 ∷ 0 ∷ 0 ∷ 5 ∷ 1 ∷ 0 ∷ 0 ∷ 0 ∷ 14 ∷ 3 ∷ 1 ∷ 1 ∷ 107 ∷ [])
    ++ replicate 7 0
    ++ (3 ∷ 1 ∷ 1 ∷ 1 ∷ 0 ∷ 0 ∷ 0 ∷ 13 ∷ 3 ∷ 3 ∷ 1 ∷ 107 ∷ [])
    ++ replicate 7 0
    ++ (2 ∷ 0 ∷ 1 ∷ 0 ∷ 0 ∷ 0 ∷ 9 ∷ 7 ∷ [])
    ++ replicate 7 0
    ++ (7 ∷ 1 ∷ 0 ∷ 0 ∷ 0 ∷ 4 ∷ 4 ∷ 3 ∷ 1 ∷ 107 ∷ 1 ∷ 0 ∷ 0 ∷ 0 ∷ 21 ∷ 1 ∷ [])
    ++ replicate 7 0
    ++ (4 ∷ 0 ∷ 0 ∷ 0 ∷ 9 ∷ 0 ∷ 0 ∷ 0 ∷ 2 ∷ 0 ∷ 3 ∷ 0 ∷ 4 ∷ 1 ∷ 0 ∷ 0 ∷ 0 ∷ 9 ∷ 7 ∷ [])
    ++ replicate 7 0
    ++ (17 ∷ 1 ∷ 0 ∷ 0 ∷ 0 ∷ 21 ∷ 3 ∷ 2 ∷ 1 ∷ 117 ∷ [])
    ++ replicate 7 0
    ++ (4 ∷ 8 ∷ [])
    ++ replicate 7 0
    ++ (20 ∷ 1 ∷ 0 ∷ 0 ∷ 0 ∷ 9 ∷ 7 ∷ [])
    ++ replicate 7 0
    ++ (20 ∷ 1 ∷ 0 ∷ 0 ∷ 0 ∷ 3 ∷ 6 ∷ 0 ∷ 0 ∷ 1 ∷ 0 ∷ 0 ∷ 0 ∷ 9 ∷ 7 ∷ [])
    ++ replicate 7 0
    ++ (21 ∷ 1 ∷ 0 ∷ 0 ∷ 0 ∷ 9 ∷ 7 ∷ [])
    ++ replicate 7 0
    ++ (22 ∷ 1 ∷ 0 ∷ 0 ∷ 0 ∷ 9 ∷ 7 ∷ [])
    ++ replicate 7 0
    ++ (23 ∷ 1 ∷ 0 ∷ 0 ∷ 0 ∷ 9 ∷ 7 ∷ [])
    ++ replicate 7 0
    ++ (24 ∷ 1 ∷ 0 ∷ 0 ∷ 0 ∷ 9 ∷ 7 ∷ [])
    ++ replicate 7 0
    ++ (25 ∷ 1 ∷ 0 ∷ 0 ∷ 0 ∷ 9 ∷ 7 ∷ [])
    ++ replicate 7 0
    ++ (26 ∷ 1 ∷ 0 ∷ 0 ∷ 0 ∷ 9 ∷ 7 ∷ [])
    ++ replicate 7 0
    ++ (27 ∷ 1 ∷ 0 ∷ 0 ∷ 0 ∷ 9 ∷ 7 ∷ [])
    ++ replicate 7 0
    ++ (28 ∷ 1 ∷ 0 ∷ 0 ∷ 0 ∷ 9 ∷ 7 ∷ [])
    ++ replicate 7 0
    ++ (29 ∷ 1 ∷ 0 ∷ 0 ∷ 0 ∷ 9 ∷ 7 ∷ [])
    ++ replicate 7 0
    ++ (30 ∷ 1 ∷ 0 ∷ 0 ∷ 0 ∷ 9 ∷ 7 ∷ [])
    ++ replicate 7 0
    ++ (31 ∷ 1 ∷ 0 ∷ 0 ∷ 0 ∷ 9 ∷ 7 ∷ [])
    ++ replicate 7 0
    ++ (32 ∷ 1 ∷ 0 ∷ 0 ∷ 0 ∷ 9 ∷ 7 ∷ [])
    ++ replicate 7 0
    ++ (33 ∷ 1 ∷ 0 ∷ 0 ∷ 0 ∷ 9 ∷ 7 ∷ [])
    ++ replicate 7 0
    ++ (34 ∷ 1 ∷ 0 ∷ 0 ∷ 0 ∷ 9 ∷ 7 ∷ [])
    ++ replicate 7 0
    ++ (35 ∷ 1 ∷ 0 ∷ 0 ∷ 0 ∷ 9 ∷ 7 ∷ [])
    ++ replicate 7 0
    ++ (36 ∷ 1 ∷ 0 ∷ 0 ∷ 0 ∷ 9 ∷ 7 ∷ [])
    ++ replicate 7 0
    ++ (37 ∷ 1 ∷ 0 ∷ 0 ∷ 0 ∷ 9 ∷ 7 ∷ [])
    ++ replicate 7 0
    ++ (38 ∷ 0 ∷ 0 ∷ 0 ∷ 0 ∷ 1 ∷ [])
    ++ replicate 14 0
    ++ (2 ∷ 1 ∷ 0 ∷ 0 ∷ 0 ∷ 17 ∷ 12 ∷ [])
    ++ replicate 7 0
    ++ (39 ∷ [])
    ++ replicate 7 0
    ++ (5 ∷ 1 ∷ 0 ∷ 0 ∷ 0 ∷ 37 ∷ 13 ∷ [])
    ++ replicate 7 0
    ++ (1 ∷ 0 ∷ 0 ∷ 0 ∷ 3 ∷ [])
    ++ replicate 11 0
    ++ (1 ∷ 0 ∷ 0 ∷ 0 ∷ 1 ∷ 0 ∷ 0 ∷ 0 ∷ 2 ∷ 0 ∷ 0 ∷ 0 ∷ 2 ∷ 1 ∷ 0 ∷ 0 ∷ 0 ∷ 29 ∷ 13 ∷ [])
    ++ replicate 7 0
    ++ (4 ∷ 0 ∷ 0 ∷ 0 ∷ 2 ∷ [])
    ++ replicate 7 0
    ++ (3 ∷ 0 ∷ 0 ∷ 0 ∷ 1 ∷ 0 ∷ 0 ∷ 0 ∷ 4 ∷ 1 ∷ 0 ∷ 0 ∷ 0 ∷ 36 ∷ 14 ∷ [])
    ++ replicate 7 0
    ++ (1 ∷ [])
    ++ replicate 10 0
    ++ (1 ∷ [])
    ++ replicate 7 0
    ++ (1 ∷ [])
    ++ replicate 7 0
    ++ (20 ∷ 1 ∷ 0 ∷ 0 ∷ 0 ∷ 20 ∷ 14 ∷ [])
    ++ replicate 7 0
    ++ (2 ∷ [])
    ++ replicate 7 0
    ++ (7 ∷ 0 ∷ 0 ∷ 0 ∷ 1 ∷ 0 ∷ 0 ∷ 0 ∷ 52 ∷ 14 ∷ [])
    ++ replicate 7 0
    ++ (3 ∷ [])
    ++ replicate 10 0
    ++ (2 ∷ [])
    ++ replicate 7 0
    ++ (1 ∷ [])
    ++ replicate 7 0
    ++ (5 ∷ [])
    ++ replicate 7 0
    ++ (1 ∷ 0 ∷ 0 ∷ 0 ∷ 15 ∷ 0 ∷ 0 ∷ 0 ∷ 5 ∷ 1 ∷ 0 ∷ 0 ∷ 0 ∷ 36 ∷ 14 ∷ [])
    ++ replicate 7 0
    ++ (4 ∷ [])
    ++ replicate 7 0
    ++ (20 ∷ 0 ∷ 0 ∷ 1 ∷ [])
    ++ replicate 7 0
    ++ (4 ∷ [])
    ++ replicate 7 0
    ++ (9 ∷ 1 ∷ 0 ∷ 0 ∷ 0 ∷ 14 ∷ 3 ∷ 1 ∷ 1 ∷ 107 ∷ [])
    ++ replicate 7 0
    ++ (3 ∷ 1 ∷ 1 ∷ 1 ∷ 0 ∷ 0 ∷ 0 ∷ 9 ∷ 7 ∷ [])
    ++ replicate 7 0
    ++ (40 ∷ 1 ∷ 0 ∷ 0 ∷ 0 ∷ 9 ∷ 7 ∷ [])
    ++ replicate 7 0
    ++ (41 ∷ 1 ∷ 0 ∷ 0 ∷ 0 ∷ 9 ∷ 7 ∷ [])
    ++ replicate 7 0
    ++ (42 ∷ 1 ∷ 0 ∷ 0 ∷ 0 ∷ 9 ∷ 7 ∷ [])
    ++ replicate 7 0
    ++ (43 ∷ 1 ∷ 0 ∷ 0 ∷ 0 ∷ 9 ∷ 7 ∷ [])
    ++ replicate 7 0
    ++ (44 ∷ [])
    ++ replicate 145 0
    ++ (65 ∷ 66 ∷ 67 ∷ 68 ∷ 69 ∷ 70 ∷ 71 ∷ 72 ∷ 73 ∷ 74 ∷ 75 ∷ 76 ∷ 77 ∷ 78 ∷ 79 ∷ 80 ∷ 81 ∷ 82 ∷ 83 ∷ 84 ∷ 0 ∷ 0 ∷ 0 ∷ 0 ∷ [])
    ++ replicate 9 128
    ++ replicate 95 0

abbrev pub some_calls : List Call
some_calls =
    Record f20 ∷ Sub 1 0 0 ∷ Replace 1 5 10 2 ∷ Retain Held (107 ∷ []) 3 (1 ∷ []) ∷ Retain Listed (107 ∷ []) 2 [] ∷ Advance 7 ∷ Forget Listed (107 ∷ [])
    ∷ Record (take_of 3 9) ∷ Advance 17 ∷ Sweep 9 ∷ Retain Until (117 ∷ []) 4 (0 ∷ 0 ∷ 0 ∷ 0 ∷ 0 ∷ 0 ∷ 0 ∷ 20 ∷ []) ∷ Advance 20 ∷ Sweep 1 ∷ []

pub opens_kept : opened_from kept ≡ Some (state_of (formatted patient) some_calls)
unfolding graces_in shape_in rest_is_zero is_head current_head records_from journal_in
opens_kept = refl

-- after switches
pub opens_switched : opened_from switched ≡ Some (state_of (formatted patient) (some_calls ++ advances 21 24))
unfolding graces_in shape_in rest_is_zero is_head current_head records_from journal_in
opens_switched = refl

-- after a switch from version 1 to form 2
pub opens_migrated : opened_from migrated ≡ Some (state_of (formatted small_old) (some_calls ++ advances 21 24))
unfolding graces_in shape_in rest_is_zero is_head current_head records_from journal_in
opens_migrated = refl

pub migrated_form : (state_of (formatted small_old) (some_calls ++ advances 21 24)).form ≡ 2
migrated_form = refl
