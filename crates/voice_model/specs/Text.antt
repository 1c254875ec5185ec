-- The printed text of a history, a line for each entry.
use Rattle.std.specs.Prelude.{ℕ, ◌+◌, ◌/◌, ◌%◌, nat_lt, cond, List, [], ◌∷◌, ◌++◌, map, length, flat_map, decimal, codes}
use Rattle.voice_model.specs.declared.calls.Call.{Call}
use Rattle.voice_model.specs.declared.calls.Call.TheVariants as calls
use Rattle.voice_model.specs.declared.calls.Reply.{Reply}
use Rattle.voice_model.specs.declared.calls.Reply.TheVariants as replies
use Rattle.voice_model.specs.declared.calls.Why.{Why}
use Rattle.voice_model.specs.declared.calls.Why.TheVariants as why
use Rattle.voice_model.specs.declared.calls.Entry.{Entry}
use Rattle.voice_model.specs.declared.lists.Span.{Span}

-- words, each with a space before it
abbrev pub spaced : List (List ℕ) → List ℕ
spaced words = flat_map (λ word. 32 ∷ word) words

abbrev pub hex_digit : ℕ → ℕ
hex_digit n = cond (nat_lt n 10) (48 + n) (87 + n)

abbrev pub hex : List ℕ → List ℕ
hex bytes = flat_map (λ b. hex_digit (b / 16) ∷ hex_digit (b % 16) ∷ []) bytes

-- a dash for no byte
abbrev pub note_text : List ℕ → List ℕ
note_text [] = codes "-"
note_text (b ∷ bs) = hex (b ∷ bs)

abbrev pub verb_of : Call → List ℕ
verb_of (calls.Record take) = codes "record"
verb_of (calls.Concat ids) = codes "concat"
verb_of (calls.Sub id start len) = codes "sub"
verb_of (calls.Replace id start len with) = codes "replace"
verb_of (calls.Length id) = codes "length"
verb_of (calls.Describe id) = codes "describe"
verb_of (calls.Play lane id start len) = codes "play"
verb_of (calls.Feed lane back) = codes "feed"
verb_of (calls.Stop lane) = codes "stop"
verb_of (calls.Retain class key id note) = codes "retain"
verb_of (calls.Forget class key) = codes "forget"
verb_of (calls.Lookup class key) = codes "lookup"
verb_of (calls.Census keys) = codes "census"
verb_of (calls.Advance moment) = codes "advance"
verb_of (calls.Sweep limit) = codes "sweep"
verb_of calls.Landed = codes "landed"
verb_of (calls.Begin lane) = codes "begin"
verb_of (calls.Add lane take) = codes "add"
verb_of (calls.End lane) = codes "end"
verb_of (calls.Levels id) = codes "levels"

abbrev pub why_text : Why → List ℕ
why_text (why.UnknownRope id) = codes "unknown-rope " ++ decimal id
why_text (why.BadInterval n) = codes "bad-interval " ++ decimal n
why_text (why.TooLong n) = codes "too-long " ++ decimal n
why_text (why.TooManyPieces n) = codes "too-many-pieces " ++ decimal n
why_text (why.NoRoom need free) = codes "no-room" ++ spaced (decimal need ∷ decimal free ∷ [])
why_text (why.JournalFull need left) = codes "journal-full" ++ spaced (decimal need ∷ decimal left ∷ [])
why_text (why.KeyTaken id) = codes "key-taken " ++ decimal id
why_text why.NoInterest = codes "no-interest"
why_text why.BadData = codes "bad-data"
why_text why.LaneRecording = codes "lane-recording"
why_text (why.LaneBusy n) = codes "lane-busy " ++ decimal n
why_text why.QueueFull = codes "queue-full"
why_text why.NoJob = codes "no-job"
why_text why.NoRecording = codes "no-recording"
why_text why.DiskFault = codes "disk-fault"
why_text why.InDoubt = codes "in-doubt"
why_text why.IdsSpent = codes "ids-spent"
why_text (why.UnknownLane n) = codes "unknown-lane " ++ decimal n
why_text why.WindowOut = codes "window-out"

abbrev pub span_text : Span → List ℕ
span_text s = decimal s.start ++ codes "+" ++ decimal s.len

abbrev pub reply_text : Reply → List ℕ
reply_text (replies.Rope id n) = codes "rope " ++ decimal id ++ codes " length " ++ decimal n
reply_text (replies.Number n) = codes "number " ++ decimal n
reply_text (replies.Talk spans) = codes "talk " ++ decimal (length spans) ++ spaced (map span_text spans)
reply_text (replies.Job job) = codes "job " ++ decimal job
reply_text (replies.Window at n) = codes "window" ++ spaced (decimal at ∷ decimal n ∷ [])
reply_text (replies.Ended job n) = codes "ended" ++ spaced (decimal job ∷ decimal n ∷ [])
reply_text (replies.Stopped job n) = codes "stopped" ++ spaced (decimal job ∷ decimal n ∷ [])
reply_text (replies.Found id note) = codes "found" ++ spaced (decimal id ∷ note_text note ∷ [])
reply_text (replies.Swept rows ids) = codes "swept " ++ decimal rows ++ codes " rows " ++ decimal (length ids) ++ codes " ropes" ++ spaced (map decimal ids)
reply_text replies.Done = codes "done"
reply_text (replies.Peaks peaks) = codes "peaks " ++ decimal (length peaks) ++ spaced (map decimal peaks)
reply_text (replies.No reason) = codes "no " ++ why_text reason

-- one line of an entry and its number in the history
abbrev pub entry_text : ℕ → Entry → List ℕ
entry_text index e = decimal index ++ codes " " ++ decimal e.caller ++ codes " " ++ verb_of e.call ++ codes ": " ++ reply_text e.reply ++ (10 ∷ [])

abbrev pub text_from : ℕ → List Entry → List ℕ
text_from index [] = []
text_from index (e ∷ es) = entry_text index e ++ text_from (index + 1) es

abbrev pub text_of : List Entry → List ℕ
text_of entries = text_from 1 entries
