-- A small disk, and scripts of calls on it.
use Rattle.std.proofs.Common.{ℕ, List, [], ◌∷◌, refl, replicate}
use Rattle.voice_units.specs.declared.shapes.Shape.{Shape}
use Rattle.voice_units.specs.declared.shapes.Graces.{Graces}
use Rattle.voice_units.specs.Tested.{shape_tested}
use Rattle.voice_units.specs.declared.pieces.Take.{Take}
use Rattle.voice_model.specs.State.{State, formatted}
use Rattle.voice_model.specs.Step.{refusal, reply_by, answered}
use Rattle.voice_model.specs.declared.calls.Call.{Call}
use Rattle.voice_model.specs.declared.calls.Reply.{Reply}

abbrev pub same_grace : ℕ → Graces
same_grace n = record { common = n; held = n; until = n; listed = n }

abbrev pub small : Shape
small = record { version = 2; block = 8; blocks = 16; area = 512; graces = same_grace 60; lanes = 4; conditions = shape_tested 2 8 16 512 (same_grace 60) 4 refl }

-- the same disk in version 1
abbrev pub small_old : Shape
small_old = record { version = 1; block = 8; blocks = 16; area = 512; graces = same_grace 60; lanes = 4; conditions = shape_tested 1 8 16 512 (same_grace 60) 4 refl }

-- A to T
abbrev pub letters : List ℕ
letters = 65 ∷ 66 ∷ 67 ∷ 68 ∷ 69 ∷ 70 ∷ 71 ∷ 72 ∷ 73 ∷ 74 ∷ 75 ∷ 76 ∷ 77 ∷ 78 ∷ 79 ∷ 80 ∷ 81 ∷ 82 ∷ 83 ∷ 84 ∷ []

-- tape 0 has the letters, and the others n bytes 0x80
abbrev pub tapes : List (List ℕ)
tapes = letters ∷ replicate 1 128 ∷ replicate 16 128 ∷ replicate 64 128 ∷ replicate 112 128 ∷ replicate 128 128 ∷ []

abbrev pub take_of : ℕ → ℕ → Take
take_of tape n = record { tape = tape; from = 0; len = n }

abbrev pub f20 : Take
f20 = take_of 0 20

abbrev pub z1 : Take
z1 = take_of 1 1

abbrev pub z16 : Take
z16 = take_of 2 16

abbrev pub z64 : Take
z64 = take_of 3 64

abbrev pub z112 : Take
z112 = take_of 4 112

abbrev pub z128 : Take
z128 = take_of 5 128

-- the replies to calls that meet no fault, one after another
abbrev pub replies_to : State → List Call → List Reply
replies_to s [] = []
replies_to s (call ∷ calls) = reply_by s tapes call (refusal s tapes call) ∷ replies_to (answered s tapes call) calls

abbrev pub state_of : State → List Call → State
state_of s [] = s
state_of s (call ∷ calls) = state_of (answered s tapes call) calls

abbrev pub on_small : List Call → List Reply
on_small calls = replies_to (formatted small) calls

abbrev pub on_small_old : List Call → List Reply
on_small_old calls = replies_to (formatted small_old) calls
