-- Worked rows on the printed text.
use Rattle.std.proofs.Common.{◌≡◌, List, [], ◌∷◌, ◌++◌, refl, Some, None, lit≤}
use Rattle.std.specs.Prelude.{codes}
use Rattle.std.specs.Fmt.{digits}
use Rattle.voice_model.specs.Text.{text_of, reply_text}
use Rattle.voice_model.specs.State.{formatted}
use Rattle.voice_model.specs.Step.{Legal}
use Rattle.voice_model.specs.Follows.{served_bytes}
use Rattle.voice_model.proofs.Small.{small, tapes, f20}
use Rattle.voice_model.specs.declared.calls.Call.TheVariants.{Record, Sub, Replace, Length, Play, Feed}
use Rattle.voice_model.specs.declared.calls.Reply.TheVariants.{Rope, Number, Swept, Talk, Found, No, Job, Window, Ended}
use Rattle.voice_model.specs.declared.calls.Why.TheVariants.{NoRoom}
use Rattle.voice_model.specs.declared.calls.Entry.{Entry}
use Rattle.voice_model.proofs.RowsOfFaults.{said}

pub two_lines : text_of (said 1 (Record f20) (Rope 1 20) ∷ said 1 (Length 1) (Number 20) ∷ []) ≡ codes "1 1 record: rope 1 length 20" ++ (10 ∷ []) ++ codes "2 1 length: number 20" ++ (10 ∷ [])
unfolding digits
two_lines = refl

pub swept_text : reply_text (Swept 0 (1 ∷ 2 ∷ [])) ≡ codes "swept 0 rows 2 ropes 1 2"
unfolding digits
swept_text = refl

pub talk_text : reply_text (Talk (record { start = 0; len = 4000 } ∷ record { start = 8000; len = 4000 } ∷ [])) ≡ codes "talk 2 0+4000 8000+4000"
unfolding digits
talk_text = refl

pub found_text : reply_text (Found 5 (104 ∷ 105 ∷ [])) ≡ codes "found 5 6869"
unfolding digits
found_text = refl

pub room_text : reply_text (No (NoRoom 1 0)) ≡ codes "no no-room 1 0"
unfolding digits
room_text = refl

-- the entries of a play line, and its file
abbrev pub played : List Entry
played =
    said 1 (Record f20) (Rope 1 20) ∷ said 1 (Sub 1 0 0) (Rope 2 0) ∷ said 1 (Replace 1 5 10 2) (Rope 3 10) ∷ said 1 (Play 0 3 0 10) (Job 1)
    ∷ said 1 (Feed 0 None) (Window 0 10) ∷ said 1 (Feed 0 (Some 10)) (Ended 1 10) ∷ []

pub played_legal : Legal (formatted small) tapes played
played_legal =
    ((tt, (refl, refl)), ((tt, (refl, refl)), ((tt, (refl, refl)), ((tt, (refl, refl)), ((tt, (refl, refl)), (((lit≤ tt, lit≤ tt), (refl, refl)), tt))))))

-- A to E and P to T
pub played_file : served_bytes (formatted small) tapes played 0 (Ended 1 10) 5 ≡ Some (codes "ABCDEPQRST")
played_file = refl
