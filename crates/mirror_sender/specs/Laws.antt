-- The laws of a sender, as statements.
--     IsInFile p, AreInFiles samples      a place of a file with a number, in the range of a file;  each sample lies at one
--     samples_brought e      the samples of the rope that an effect brings
--     IsGoodEffect e, MayBeGood o      its packet has a good body, and its samples lie in files;  so it is if there is one
--     HaveFiles ropes, HasFiles s      the samples of ropes lie in files;  those of live ropes do, and a change in doubt is good
--     IsSmall call, AreSmall es      the limit of a sweep is one of two bytes
--     SentPacketsAreGood      the packets of a legal history are good, so that they are read back
use Rattle.std.specs.Prelude.{◌≡◌, ℕ, ◌+◌, ◌<◌, ◌≤◌, ◌^◌, List, [], length, Option, Some, None}
use Rattle.voice_units.specs.declared.shapes.Shape.{Shape}
use Rattle.voice_units.specs.Spots.{Spot}
use Rattle.voice_model.specs.Samples.{Tagged, spot_of}
use Rattle.voice_model.specs.State.{State, Live, Effect, Pending, formatted}
use Rattle.voice_model.specs.State.Effect.{Recorded, Edited}
use Rattle.voice_model.specs.Step.{Legal, after}
use Rattle.voice_model.specs.Image.{opened_from}
use Rattle.voice_model.specs.Valid.{Every, IsState}
use Rattle.voice_model.specs.declared.calls.Call.{Call}
use Rattle.voice_model.specs.declared.calls.Call.TheVariants as calls
use Rattle.voice_model.specs.declared.calls.Entry.{Entry}
use Rattle.mirror_packets.specs.Packets.{IsGoodBody, AreGood}
use Rattle.mirror_packets.specs.Effects.{body_of_effect, packets_from}
use Rattle.mirror_sender.specs.Sent.{changes_of}
use Rattle.mirror_sender.specs.Abreast.{AreWithin}

-- a place of a file with a number from 1 to 2^48, below 2^30
pub record IsInFile (p : Spot) : Type 0 where
  pub some_file : 1 ≤ p.file
  pub file_limit : p.file ≤ 2 ^ 48
  pub place_limit : p.place < 2 ^ 30

-- each sample lies at such a place
abbrev pub AreInFiles : List Tagged → Type 0
AreInFiles samples = Every (λ (t : Tagged). IsInFile (spot_of t)) samples

-- the samples of the rope that an effect brings, if it brings one
abbrev pub samples_brought : Effect Tagged → List Tagged
samples_brought (Recorded id samples) = samples
samples_brought (Edited id samples) = samples
samples_brought _ = []

-- the packet of an effect has a good body, and its samples lie in files
pub record IsGoodEffect (effect : Effect Tagged) : Type 0 where
  pub body : IsGoodBody (body_of_effect effect)
  pub files : AreInFiles (samples_brought effect)

-- so it is, if there is one
abbrev pub MayBeGood : Option (Effect Tagged) → Type 0
MayBeGood None = Unit {0}
MayBeGood (Some effect) = IsGoodEffect effect

-- the same of a change in doubt
abbrev pub IsGoodDoubt : Option Pending → Type 0
IsGoodDoubt None = Unit {0}
IsGoodDoubt (Some pending) = IsGoodEffect pending.effect

-- the samples of ropes lie in files
abbrev pub HaveFiles : List (Live Tagged) → Type 0
HaveFiles ropes = Every (λ (rope : Live Tagged). AreInFiles rope.samples) ropes

-- the samples of live ropes lie in files, and a change in doubt is good
pub record HasFiles (s : State) : Type 0 where
  pub ropes : HaveFiles s.ropes
  pub doubt : IsGoodDoubt s.doubt

-- the limit of a sweep is a number of two bytes, as in each call of the program
abbrev pub IsSmall : Call → Type 0
IsSmall (calls.Sweep limit) = limit < 2 ^ 16
IsSmall _ = Unit {0}

-- so it is in each entry
abbrev pub AreSmall : List Entry → Type 0
AreSmall es = Every (λ (e : Entry). IsSmall e.call) es

pub record SentPacketsAreGood : Type 0 where
  -- the packets of a legal history are good
  pub good : (s : State) (tapes : List (List ℕ)) (history : List Entry) (first : ℕ) → IsState s → HasFiles s → Legal s tapes history → AreWithin tapes history → AreSmall history → 1 ≤ first → first + length (changes_of s tapes history) ≤ 2 ^ 48 + 1 → AreGood (packets_from first (changes_of s tapes history))
  -- such a history leaves samples in files
  pub kept : (s : State) (tapes : List (List ℕ)) (history : List Entry) → IsState s → HasFiles s → Legal s tapes history → AreWithin tapes history → AreSmall history → HasFiles (after s tapes history)
  -- they lie in files where an image was opened, and on a disk that was just formatted
  pub opened : (image : List ℕ) (s : State) → opened_from image ≡ Some s → HasFiles s
  pub formatted : (shape : Shape) → HasFiles (formatted shape)
