-- Worked rows on graces by class.
use Rattle.std.proofs.Common.{◌≡◌, List, [], ◌∷◌, refl}
use Rattle.voice_units.specs.declared.shapes.Shape.{Shape}
use Rattle.voice_units.specs.declared.shapes.Graces.{Graces}
use Rattle.voice_units.specs.Tested.{shape_tested}
use Rattle.voice_model.specs.State.{formatted}
use Rattle.voice_model.proofs.Small.{replies_to, f20}
use Rattle.voice_model.specs.declared.calls.Class.TheVariants.{Held, Until, Listed}
use Rattle.voice_model.specs.declared.calls.Call.{Call}
use Rattle.voice_model.specs.declared.calls.Reply.{Reply}
use Rattle.voice_model.specs.declared.calls.Call.TheVariants.{Record, Retain, Forget, Census, Advance, Sweep}
use Rattle.voice_model.specs.declared.calls.Reply.TheVariants.{Rope, Number, Done, Swept}

abbrev pub graces : Graces
graces = record { common = 60; held = 10; until = 0; listed = 100 }

abbrev pub patient : Shape
patient = record { version = 2; block = 8; blocks = 16; area = 512; graces = graces; lanes = 4; conditions = shape_tested 2 8 16 512 graces 4 refl }

abbrev pub on_patient : List Call → List Reply
on_patient calls = replies_to (formatted patient) calls

pub lost_a_held_row :
    on_patient (Record f20 ∷ Retain Held (107 ∷ []) 1 [] ∷ Forget Held (107 ∷ []) ∷ Advance 9 ∷ Sweep 9 ∷ Advance 10 ∷ Sweep 9 ∷ [])
    ≡ Rope 1 20 ∷ Done ∷ Done ∷ Done ∷ Swept 0 [] ∷ Done ∷ Swept 0 (1 ∷ []) ∷ []
lost_a_held_row = refl

-- a rope whose last row expires in a sweep may go in that sweep
pub lost_an_until_row :
    on_patient (Record f20 ∷ Retain Until (117 ∷ []) 1 (0 ∷ 0 ∷ 0 ∷ 0 ∷ 0 ∷ 0 ∷ 0 ∷ 5 ∷ []) ∷ Advance 5 ∷ Sweep 9 ∷ [])
    ≡ Rope 1 20 ∷ Done ∷ Done ∷ Swept 1 (1 ∷ []) ∷ []
lost_an_until_row = refl

pub lost_a_listed_row :
    on_patient (Record f20 ∷ Retain Listed (109 ∷ []) 1 [] ∷ Census [] ∷ Advance 99 ∷ Sweep 9 ∷ Advance 100 ∷ Sweep 9 ∷ [])
    ≡ Rope 1 20 ∷ Done ∷ Number 1 ∷ Done ∷ Swept 0 [] ∷ Done ∷ Swept 0 (1 ∷ []) ∷ []
lost_a_listed_row = refl

pub never_had_a_row : on_patient (Record f20 ∷ Advance 59 ∷ Sweep 9 ∷ Advance 60 ∷ Sweep 9 ∷ []) ≡ Rope 1 20 ∷ Done ∷ Swept 0 [] ∷ Done ∷ Swept 0 (1 ∷ []) ∷ []
never_had_a_row = refl
