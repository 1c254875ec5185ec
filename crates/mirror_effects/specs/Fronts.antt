-- The packets of a legal list of changes, and a mirror that has a front of the list.
--     effect_at effects n      the change at an index
--     AreLegal d effects      each change may follow what those before it make of d
--     IsPacketOf effects p      a packet that brings a change of the list under its number
--     AreOutOf effects packets      packets that all do
--     IsFront start effects first from taken      what was taken since a position are the list's changes from there on
use Rattle.std.specs.Prelude.{◌≡◌, ℕ, zero, suc, ◌+◌, ◌≤◌, List, [], ◌∷◌, ◌++◌, length, take, drop, Option, Some, None}
use Rattle.voice_model.specs.Samples.{Tagged}
use Rattle.voice_model.specs.State.{Durable, Effect}
use Rattle.voice_model.specs.Changes.{changed}
use Rattle.voice_model.specs.Valid.{Every}
use Rattle.mirror_packets.specs.Packets.{Packet}
use Rattle.mirror_packets.specs.Effects.{packet_of_effect}
use Rattle.mirror_laws.specs.Standing.{kept_after}
use Rattle.mirror_effects.specs.Effects.{MayFollow}

-- the change at an index, from 0 on
abbrev pub effect_at : List (Effect Tagged) → ℕ → Option (Effect Tagged)
effect_at [] n = None
effect_at (effect ∷ effects) zero = Some effect
effect_at (effect ∷ effects) (suc n) = effect_at effects n

-- each change may follow what the ones before it make of d
abbrev pub AreLegal : Durable Tagged → List (Effect Tagged) → Type 0
AreLegal d [] = Unit {0}
AreLegal d (effect ∷ effects) = MayFollow d effect × AreLegal (changed 2 d effect) effects

-- a packet out of the list's: it brings the change of its number, of which the first is 1
pub record IsPacketOf (effects : List (Effect Tagged)) (p : Packet) : Type 0 where
  pub index : ℕ
  pub effect : Effect Tagged
  pub at : effect_at effects index ≡ Some effect
  pub is : p ≡ packet_of_effect (index + 1) effect

-- packets out of the list's, in any order, any of them more than once or not at all
abbrev pub AreOutOf : List (Effect Tagged) → List Packet → Type 0
AreOutOf effects packets = Every (IsPacketOf effects) packets

-- what was taken since the position `from` are the list's changes from there on, and what was had there is what the changes before make of `start`
pub record IsFront (start : Durable Tagged) (effects : List (Effect Tagged)) (first : Durable Tagged) (from : ℕ) (taken : List (Effect Tagged)) : Type 0 where
  pub within : from ≤ length effects
  pub had : first ≡ kept_after start (take from effects)
  pub rest : List (Effect Tagged)
  pub is : drop from effects ≡ taken ++ rest
