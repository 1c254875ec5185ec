-- The packets that bring effects.
--     body_of_effect e, packet_of_effect n e      the body that brings an effect, and its packet of that number
--     packets_from n es      the packets of effects, numbered from n on
use Rattle.std.specs.Prelude.{ℕ, ◌+◌, List, [], ◌∷◌}
use Rattle.voice_model.specs.Samples.{Tagged, bytes_of}
use Rattle.voice_model.specs.State.{Effect}
use Rattle.voice_model.specs.State.Effect.{Recorded, Edited, Retained, Forgotten, Counted, Swept, Advanced}
use Rattle.voice_model.specs.Base.{change_of}
use Rattle.mirror_packets.specs.Packets.{Body, Packet}

-- a recording is brought as its voice file, any other effect as its change, which is the same in both forms
abbrev pub body_of_effect : Effect Tagged → Body
body_of_effect (Recorded id samples) = Body.Voice id (bytes_of samples)
body_of_effect (Edited id samples) = Body.Other (change_of 2 [] (Edited id samples))
body_of_effect (Retained row) = Body.Other (change_of 2 [] (Retained row))
body_of_effect (Forgotten class key) = Body.Other (change_of 2 [] (Forgotten class key))
body_of_effect (Counted keys) = Body.Other (change_of 2 [] (Counted keys))
body_of_effect (Swept ids) = Body.Other (change_of 2 [] (Swept ids))
body_of_effect (Advanced moment) = Body.Other (change_of 2 [] (Advanced moment))

abbrev pub packet_of_effect : ℕ → Effect Tagged → Packet
packet_of_effect number effect = record { number = number; body = body_of_effect effect }

-- their packets, numbered from n on
abbrev pub packets_from : ℕ → List (Effect Tagged) → List Packet
packets_from number [] = []
packets_from number (effect ∷ effects) = packet_of_effect number effect ∷ packets_from (number + 1) effects
