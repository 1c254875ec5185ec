-- What is sent of a history.
--     sent s tapes e      the effect that an entry has on the durable part, none where it has none
--     packets_of n o      the packets of an effect if there is one
--     changes_of s tapes es      the effects of entries, one after another
use Rattle.std.specs.Prelude.{ℕ, List, [], ◌∷◌, Option, Some, None}
use Rattle.voice_model.specs.Samples.{Tagged}
use Rattle.voice_model.specs.State.{State, Effect, Pending}
use Rattle.voice_model.specs.Changes.{effect_of}
use Rattle.voice_model.specs.Step.{Outcome, outcome_of, refusal, state_after}
use Rattle.voice_model.specs.declared.calls.Call.{Call}
use Rattle.voice_model.specs.declared.calls.Call.TheVariants as calls
use Rattle.voice_model.specs.declared.calls.Why.{Why}
use Rattle.voice_model.specs.declared.calls.Entry.{Entry}
use Rattle.mirror_packets.specs.Packets.{Packet}
use Rattle.mirror_packets.specs.Effects.{packet_of_effect}

-- the effect of a change in doubt
abbrev pub effect_in_doubt : Option Pending → Option (Effect Tagged)
effect_in_doubt None = None
effect_in_doubt (Some pending) = Some pending.effect

-- a call that is refused has no effect
abbrev pub unless_refused : Option Why → Option (Effect Tagged) → Option (Effect Tagged)
unless_refused None made = made
unless_refused (Some reason) made = None

-- the effect of an answered call; a landing does the change in doubt
abbrev pub answered_effect : State → List (List ℕ) → Call → Option (Effect Tagged)
answered_effect s tapes calls.Landed = effect_in_doubt s.doubt
answered_effect s tapes call = unless_refused (refusal s tapes call) (effect_of s tapes call)

-- a call that failed has no effect, and neither has one whose change is in doubt
abbrev pub sent_by : Outcome → State → List (List ℕ) → Call → Option (Effect Tagged)
sent_by Outcome.Answered s tapes call = answered_effect s tapes call
sent_by Outcome.Faulted s tapes call = None
sent_by Outcome.Doubted s tapes call = None

-- the effect that an entry has on the durable part
abbrev pub sent : State → List (List ℕ) → Entry → Option (Effect Tagged)
sent s tapes e = sent_by (outcome_of e.reply) s tapes e.call

-- ---- packets

abbrev pub packets_of : ℕ → Option (Effect Tagged) → List Packet
packets_of number None = []
packets_of number (Some effect) = packet_of_effect number effect ∷ []

-- ---- of a whole history

abbrev pub with_effect : Option (Effect Tagged) → List (Effect Tagged) → List (Effect Tagged)
with_effect None effects = effects
with_effect (Some effect) effects = effect ∷ effects

-- the effects of entries, one after another
abbrev pub changes_of : State → List (List ℕ) → List Entry → List (Effect Tagged)
changes_of s tapes [] = []
changes_of s tapes (e ∷ es) = with_effect (sent s tapes e) (changes_of (state_after s tapes e) tapes es)
