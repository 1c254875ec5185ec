-- What the body of a packet brings where a mirror takes it.
--     IsAmong samples t, IsIn samples all      a sample is one of a list;  so is each of these
--     live_samples d      the samples of all live ropes
--     samples_edited e      the samples that an edit names
--     MayFollow d e      a change that may be done, alters something, and names samples of live ropes alone
--     IsBrought image b body e      the body brings e, where b is filled from these bytes
--     change_for addresses body      the change that keeps a body
--     is_strange b body      whether it may not follow, whatever addresses it gets
--     GetsFree b addresses body      it gets free addresses, one for each block
--     HasSamples image b addresses body      the bytes have its samples there
use Rattle.std.specs.Prelude.{◌≡◌, ◌⊎◌, ℕ, Bool, true, not, nat_le, List, [], ◌∷◌, length, flat_map, Some}
use Rattle.std.specs.List.{list_all}
use Rattle.voice_units.specs.Spots.{Spot}
use Rattle.voice_units.specs.Blocks.{blocks_for}
use Rattle.voice_model.specs.Samples.{Tagged, recording}
use Rattle.voice_model.specs.State.{Durable, Effect}
use Rattle.voice_model.specs.State.Effect.{Recorded, Edited}
use Rattle.voice_model.specs.Replay.{Rebuilt, brings, is_legal, all_differ, is_free_address, filled, effect_by}
use Rattle.voice_model.specs.Base.{IsMade}
use Rattle.voice_model.specs.Valid.{Every, IsFit, IsTimely}
use Rattle.voice_model.specs.declared.changes.Change.{Change}
use Rattle.voice_model.specs.declared.changes.Change.TheVariants as changes
use Rattle.fillings.specs.Laws.{HasBytes}
use Rattle.mirror_packets.specs.Packets.{Body}

-- ---- changes that may follow

-- a sample is one of these
abbrev pub IsAmong : List Tagged → Tagged → Type 0
IsAmong [] t = ⊥
IsAmong (first ∷ rest) t = (first ≡ t) ⊎ IsAmong rest t

-- each of these samples is among all
abbrev pub IsIn : List Tagged → List Tagged → Type 0
IsIn samples all = Every (IsAmong all) samples

-- the samples of all live ropes
abbrev pub live_samples : Durable Tagged → List Tagged
live_samples d = flat_map (λ rope. rope.samples) d.ropes

-- the samples that an edit names
abbrev pub samples_edited : Effect Tagged → List Tagged
samples_edited (Edited id samples) = samples
samples_edited _ = []

-- a change that may follow, in an area of form 2: it may be done and alters something, a recording is the voice file of its own number, and an edit's samples are samples of live ropes
pub record MayFollow (d : Durable Tagged) (effect : Effect Tagged) : Type 0 where
  pub fit : IsFit 2 d effect
  pub timely : IsTimely 2 d effect
  pub made : IsMade effect
  pub inside : IsIn (samples_edited effect) (live_samples d)

-- ---- bodies

-- where b is filled from these bytes, a voice file brings its samples, and a change what it names
abbrev pub IsBrought : List ℕ → Rebuilt → Body → Effect Tagged → Type 0
IsBrought image b (Body.Voice id samples) effect = effect ≡ Recorded id (recording id samples)
IsBrought image b (Body.Other change) effect = (made : Effect Spot) × (brings change ≡ Some made) × (effect ≡ effect_by (filled image b) made)

-- the change that keeps a body; a voice file has these addresses
abbrev pub change_for : List ℕ → Body → Change
change_for addresses (Body.Voice id samples) = changes.Wide id (length samples) addresses
change_for addresses (Body.Other change) = change

-- whether a body's change may not follow, whatever addresses it gets
abbrev pub is_strange : Rebuilt → Body → Bool
is_strange b (Body.Voice id samples) = not (nat_le b.next id)
is_strange b (Body.Other change) = not (is_legal b change)

-- a voice file gets an address for each block, each once and free; a change needs none
abbrev pub GetsFree : Rebuilt → List ℕ → Body → Type 0
GetsFree b addresses (Body.Voice id samples) = (length addresses ≡ blocks_for b.shape.block (length samples)) × (all_differ addresses ≡ true) × (list_all (is_free_address b) addresses ≡ true)
GetsFree b addresses (Body.Other change) = Unit {0}

-- the bytes have a voice file's samples at its addresses
abbrev pub HasSamples : List ℕ → Rebuilt → List ℕ → Body → Type 0
HasSamples image b addresses (Body.Voice id samples) = HasBytes image b.shape addresses samples
HasSamples image b addresses (Body.Other change) = Unit {0}
