-- The text that tells what became of packets.
--     answer_text answer      an answer in words
--     packet_line number answer, packet_lines packets answers      a line for a packet;  for packets, in order
--     mirror_text packets answers position      a line for each packet, and behind them the position
use Rattle.std.specs.Prelude.{ℕ, List, [], ◌∷◌, ◌++◌, codes, decimal}
use Rattle.mirror_packets.specs.Packets.{Packet}
use Rattle.voice_mirror.specs.declared.answers.Taken.{Taken}
use Rattle.voice_mirror.specs.declared.answers.Taken.TheVariants.{Done, Again, Early, Strange, NoRoom, JournalFull, DiskFault, InDoubt}

-- an answer in words
abbrev pub answer_text : Taken → List ℕ
answer_text Done = codes "taken"
answer_text Again = codes "again"
answer_text (Early position) = codes "early " ++ decimal position
answer_text Strange = codes "strange"
answer_text (NoRoom need free) = codes "no-room " ++ decimal need ++ codes " " ++ decimal free
answer_text (JournalFull need left) = codes "journal-full " ++ decimal need ++ codes " " ++ decimal left
answer_text DiskFault = codes "disk-fault"
answer_text InDoubt = codes "in-doubt"

-- the line of a packet of that number
abbrev pub packet_line : ℕ → Taken → List ℕ
packet_line number answer = codes "packet " ++ decimal number ++ codes " " ++ answer_text answer ++ 10 ∷ []

-- one for each packet, in order
abbrev pub packet_lines : List Packet → List Taken → List ℕ
packet_lines [] answers = []
packet_lines (packet ∷ packets) [] = []
packet_lines (packet ∷ packets) (answer ∷ answers) = packet_line packet.number answer ++ packet_lines packets answers

-- and behind them the position
abbrev pub mirror_text : List Packet → List Taken → ℕ → List ℕ
mirror_text packets answers position = packet_lines packets answers ++ codes "position " ++ decimal position ++ 10 ∷ []
