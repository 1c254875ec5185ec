-- What comes of words, whatever command they say.
--     Obeys words old new first last status history      all that `run` promises of them, between two moments outside, with the disk at both
use Rattle.std.specs.Prelude.{◌≡◌, ℕ, List, [], ◌++◌, take, Some, IfSome}
use Rattle.voice_model.specs.Text.{text_of}
use Rattle.voice_model.specs.declared.calls.Entry.{Entry}
use Rattle.voice_store.specs.Facts.{GoesOn}
use Rattle.voice_main.specs.declared.convert.Way.{Way}
use Rattle.voice_main.specs.declared.status.Status.{Status}
use Rattle.voice_main.specs.declared.status.Status.TheVariants.{Usage, ShelfFault}
use Rattle.voice_main.specs.Words.{Command, Says, IsRefused, IsConversion, IsNoRun, IsNoConversion, IsNoAudit, IsNoMake, IsNoMirror, IsNoPackets}
use Rattle.voice_main.specs.Outside.{Outside}
use Rattle.voice_main.specs.Promises.{Comes, Promises}
use Rattle.voice_main.specs.Statuses.{IsEarly, IsSilent}

pub record Obeys {D : Type 0} (words : List (List ℕ)) (old new : Outside) (first last : D) (status : Status) (history : List Entry) : Type 0 where
  -- the words are refused, or they say a command, whose promise holds
  pub comes : Comes words old new status history
  -- the promise of whatever command the words say holds
  pub promise : (command : Command) → Says words command → Promises command old new status history
  -- Usage comes exactly where the words are refused
  pub usage : IsRefused words → status ≡ Usage
  pub refused : status ≡ Usage → IsRefused words
  -- what stands after any status: the front of the text that the sink took, but for packets, an audit, a generated script and a mirror that takes packets, and the files, but for packets, a conversion and a run; their promises say what becomes of them
  pub prefix : IsNoPackets words → IsNoAudit words → IsNoMake words → IsNoMirror words → IfSome old.contents (λ had. (n : ℕ) × (new.contents ≡ Some (had ++ take n (text_of history))))
  pub files : IsNoPackets words → IsNoConversion words → IsNoRun words → new.files ≡ old.files
  -- a status that is decided before the first call leaves no history and prints nothing; one that is decided before the disk is touched leaves the disk
  pub silent : IsSilent status → (history ≡ []) × (new.contents ≡ old.contents)
  pub early : IsEarly status → last ≡ first
  -- a status of the shelf's fault prints nothing, also where it comes after the calls
  pub unprinted : status ≡ ShelfFault → new.contents ≡ old.contents
  -- where no script is run, it comes before the disk is touched
  pub shelf : IsNoPackets words → IsNoRun words → status ≡ ShelfFault → (last ≡ first) × (history ≡ []) × (new.contents ≡ old.contents)
  -- a conversion leaves the disk
  pub apart : (way : Way) (source target : List ℕ) → IsConversion way words source target → last ≡ first
  -- the disk keeps its size, and its counts never fall
  pub disk : GoesOn old.disk new.disk
