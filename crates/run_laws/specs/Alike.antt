-- Histories that are the same but for the moments of their entries.
--     without_ack e, without_acks history      with 0 in place of each moment
--     SameButAcks history other      the same entries, but for their moments
use Rattle.std.specs.Prelude.{ℕ, List, map, ◌≡◌}
use Rattle.voice_model.specs.declared.calls.Call.{Call}
use Rattle.voice_model.specs.declared.calls.Reply.{Reply}
use Rattle.voice_model.specs.declared.calls.Entry.{Entry}

abbrev pub entry_of : ℕ → Call → Reply → Entry
entry_of caller call reply = record { caller = caller; call = call; reply = reply; ack = 0 }

abbrev pub without_ack : Entry → Entry
without_ack e = entry_of e.caller e.call e.reply

abbrev pub without_acks : List Entry → List Entry
without_acks history = map without_ack history

-- the same entries, but for their moments
abbrev pub SameButAcks : List Entry → List Entry → Type 0
SameButAcks history other = without_acks history ≡ without_acks other
