-- What a run whose packets are written answers and leaves.
use Rattle.std.proofs.Common.{◌≡◌, ◌⊎◌, ◌≤◌, ◌+◌, ◌∙◌, inl, inr, ℕ, zero, suc, List, [], ◌∷◌, ◌++◌, length, Bool, true, false, Option, Some, None, refl, sym, ap, subst, arith, append-nil}
use Rattle.std.specs.Prelude.{IfSome, IsTrue, take, Vec}
use Rattle.std.specs.declared.alloc.Global.{Global}
use Rattle.std.specs.FinMap.{insert}
use Rattle.voice_model.specs.declared.calls.Entry.{Entry}
use Rattle.voice_model.specs.State.{State}
use Rattle.voice_model.specs.Step.{Legal}
use Rattle.voice_model.specs.Heard.{LegalOn}
use Rattle.voice_model.specs.Image.{opened_from}
use Rattle.voice_model.specs.Text.{text_of}
use Rattle.voice_outside.specs.Counters.{HasRisen}
use Rattle.voice_outside.specs.Disk.{Told}
use Rattle.voice_outside.specs.Files.{Files, SameElsewhere}
use Rattle.mirror_sender.specs.declared.sender.Sender.{Sender}
use Rattle.mirror_sender.specs.Abreast.{IsAbreast}
use Rattle.mirror_packets.specs.Effects.{packets_from}
use Rattle.mirror_sender.specs.Sent.{changes_of}
use Rattle.mirror_packets.specs.Packets.{packets_spelling}
use Rattle.script_lang.specs.Shown.{Reading}
use Rattle.served_files.specs.declared.heard.Heard.{Heard}
use Rattle.served_files.specs.Files.{Queues, queues_of, files_set, SetInto}
use Rattle.voice_main.specs.declared.packets.Written.{Written}
use Rattle.voice_main.specs.declared.status.Status.{Status}
use Rattle.voice_main.specs.declared.status.Status.TheVariants.{Done, ShelfFault, SinkFault, BadDisk, DiskFault, NoMemory}
use Rattle.voice_main.specs.Outside.{Outside, outside, SinkFaulted, IsUnchanged}
use Rattle.voice_main.specs.Ran.{IsReady, RanWhole, RanInto, Performed, Begun, MadeGiving}
use Rattle.voice_main.specs.Played.{SetsFirst}
use Rattle.voice_main.specs.RunPromise.{RunSoFar, IsExact, IsComplete}
use Rattle.voice_main.specs.PacketsPromise.{RanPackets, RanPacketsInto, PacketsCome, PacketsLeft, RanNext, PacketsPromise}
use Rattle.voice_main.specs.Sent.{next_line, Spells, TellsNext, IsNext, MadeSpelled, PacketsStand, SendsAll, SendsInto, SentLeaves, GainsText, GainsFront}
use Rattle.voice_main.specs.Statuses.{Stops, Opens, Finishes, Performs}
use Rattle.voice_main.proofs.Exact.{exact, complete, stopped}
use Rattle.voice_main.proofs.Left.{performs_since, there_of, so_far_ready}

-- ---- what a sender spells

-- on an honest disk the history is legal from the state as which its bytes open
honest_legal : (honest : Bool) (first : State) (tapes : List (List ℕ)) (history : List Entry) → IsTrue honest → LegalOn honest first tapes history → Legal first tapes history
honest_legal true first tapes history is h = h
honest_legal false first tapes history is h = cc

-- the sender follows what the disk opens as
abbrev pub Followed : List (List ℕ) → Sender → Told → Type 0
Followed tapes sender old = IsTrue old.honest → (start : State) → opened_from old.bytes ≡ Some start → IsAbreast tapes sender start

-- what was lent to the sender
pub spells_as : (lent tapes : List (List ℕ)) (lent_history history : List Entry) (sender : Sender) (bytes : List ℕ) → lent ≡ tapes → lent_history ≡ history → Spells lent sender lent_history bytes → Spells tapes sender history bytes
spells_as lent tapes lent_history history sender bytes same same_history h = subst (λ (l : List Entry). Spells tapes sender l bytes) same_history (subst (λ t. Spells t sender lent_history bytes) same h)

pub tells_as : (lent tapes : List (List ℕ)) (lent_history history : List Entry) (sender : Sender) (line : List ℕ) → lent ≡ tapes → lent_history ≡ history → TellsNext lent sender lent_history line → TellsNext tapes sender history line
tells_as lent tapes lent_history history sender line same same_history h = subst (λ (l : List Entry). TellsNext tapes sender l line) same_history (subst (λ t. TellsNext t sender lent_history line) same h)

-- what was spelled of a history that was made
pub made_spelled :
    (tapes : List (List ℕ)) (script : Reading) (old new : Told) (history : List Entry) (queues : Queues) (sender : Sender) (number : ℕ) (packets text line : List ℕ) → Performed tapes (MadeGiving false tapes script old new history queues) old new history
    → Followed tapes sender old → sender.next ≡ number → Spells tapes sender history packets → text ≡ text_of history ++ line → TellsNext tapes sender history line
    → Performed tapes (MadeSpelled number tapes script old new history queues packets text) old new history
made_spelled tapes script old new history queues sender number packets text line made follows numbered spells text_is tells = record {
  first = made.first;
  made_so = record {
    giving = made.made_so;
    sent = λ honest. subst (λ n. packets ≡ packets_spelling (packets_from n (changes_of made.first tapes history))) numbered (spells.spelled made.first (abreast honest) (legal honest));
    line = line;
    text_is = text_is;
    next = record {
      unsure = tells.unsure;
      next = tells.next;
      is = tells.is;
      told = λ honest. (let both = tells.told made.first (abreast honest) (legal honest) in (both.0, both.1 ∙ ap (λ n. n + length (changes_of made.first tapes history)) numbered));
    };
  };
  disk = made.disk;
}
  where
    abreast : IsTrue old.honest → IsAbreast tapes sender made.first
    abreast honest = follows honest made.first (made.disk.opened honest)

    legal : IsTrue old.honest → Legal made.first tapes history
    legal honest = honest_legal old.honest made.first tapes history honest made.made_so.0.legal

-- what holds of finished calls, where something is told of them alone
pub if_finished : {A : Type 0} (o : Option A) (fin : Bool) (P : Type 0) → IfSome o (λ _. fin ≡ true) → (fin ≡ true → P) → IfSome o (λ _. P)
if_finished None fin P is h = tt
if_finished (Some a) fin P is h = h is

pub spelled_if :
    (o : Option Written) (fin : Bool) (lent tapes : List (List ℕ)) (script : Reading) (old new : Told) (lent_history history : List Entry) (queues : Queues) (sender : Sender) (number : ℕ) → lent ≡ tapes → lent_history ≡ history → IfSome o (λ _. fin ≡ true)
    → IfSome o (λ (w : Written). Spells lent sender lent_history w.packets.items)
    → IfSome o (λ (w : Written). (line : List ℕ) × (w.text.items ≡ text_of lent_history ++ line) × TellsNext lent sender lent_history line)
    → (fin ≡ true → Performed tapes (MadeGiving false tapes script old new history queues) old new history) → Followed tapes sender old → sender.next ≡ number
    → IfSome o (λ (w : Written). Performed tapes (MadeSpelled number tapes script old new history queues w.packets.items w.text.items) old new history)
spelled_if None fin lent tapes script old new lent_history history queues sender number same same_history is spells text made follows numbered = tt
spelled_if (Some w) fin lent tapes script old new lent_history history queues sender number same same_history is spells text made follows numbered =
    made_spelled tapes script old new history queues sender number w.packets.items w.text.items text.0 (made is) follows numbered (spells_as lent tapes lent_history history sender w.packets.items same same_history spells)
    (text.1 ∙ ap (λ (h : List Entry). text_of h ++ text.0) same_history) (tells_as lent tapes lent_history history sender text.0 same same_history text.2)

module _ (tapes : List (List ℕ)) (script : Reading) (old new : Told) (history : List Entry) (queues : Queues) (number : ℕ) (bytes text : List ℕ) (made : Performed tapes (MadeSpelled number tapes script old new history queues bytes text) old new history) where
  -- the line behind the text
  pub next_told : Performed tapes (IsNext number tapes history made.made_so.line) old new history
  next_told = record { first = made.first; made_so = made.made_so.next; disk = made.disk }

  module _ (file : List ℕ) (files : Files) (after : Option Files) where
    sends_all : after ≡ Some (insert (files_set history queues files) file bytes) → SendsAll file number tapes script files after old new history
    sends_all set = record {
      first = made.first;
      made_so = record { before = files_set history queues files; bytes = bytes; served = (queues, made.made_so.giving, refl); sent = made.made_so.sent; set = set };
      disk = made.disk;
    }

    sends_into : IfSome after (SameElsewhere file (files_set history queues files)) → SendsInto file tapes script files after old new history
    sends_into set = record {
      first = made.first;
      made_so = record { before = files_set history queues files; served = (queues, made.made_so.giving, refl); elsewhere = set };
      disk = made.disk;
    }

    sets_first : IfSome after (SetInto history queues files) → SetsFirst false tapes script files after old new history
    sets_first set = record { first = made.first; made_so = (queues, made.made_so.giving, set); disk = made.disk }

    left_in : (shelf sink : Type 0) (status : Status) → Finishes shelf sink status → PacketsStand history queues file bytes files after status → SentLeaves file number tapes script files after old new history status
    left_in shelf sink Done finishes stand = sends_all stand
    left_in shelf sink SinkFault finishes stand = sends_all stand
    left_in shelf sink ShelfFault finishes (inl first) = inl (sets_first first)
    left_in shelf sink ShelfFault finishes (inr into) = inr (sends_into into)
    left_in shelf sink NoMemory finishes (inl all) = inr (inl (sends_all all))
    left_in shelf sink NoMemory finishes (inr (inl first)) = inr (inr (inl (sets_first first)))
    left_in shelf sink NoMemory finishes (inr (inr into)) = inr (inr (inr (sends_into into)))
    left_in shelf sink status finishes stand = absurd finishes

  -- what stands of the files behind the calls
  pub left_sent : (file : List ℕ) (told after : Option Files) (shelf sink : Type 0) (status : Status) → Finishes shelf sink status
      → IfSome told (λ files. PacketsStand history queues file bytes files after status) → IfSome told (λ files. SentLeaves file number tapes script files after old new history status)
  left_sent file None after shelf sink status finishes stand = tt
  left_sent file (Some files) after shelf sink status finishes stand = left_in file files after shelf sink status finishes stand

-- the same, of what was lent to set the files
pub left_lent :
    (tapes : List (List ℕ)) (script : Reading) (old new : Told) (history lent : List Entry) (heard heard_lent : List (Vec Heard Global)) (number : ℕ) (bytes text : List ℕ) (file : List ℕ) (told after : Option Files) (shelf sink : Type 0) (status : Status) → lent ≡ history → heard_lent ≡ heard
    → Performed tapes (MadeSpelled number tapes script old new history (queues_of heard) bytes text) old new history → Finishes shelf sink status
    → IfSome told (λ files. PacketsStand lent (queues_of heard_lent) file bytes files after status) → IfSome told (λ files. SentLeaves file number tapes script files after old new history status)
left_lent tapes script old new history lent heard heard_lent number bytes text file told after shelf sink status same same_heard made finishes stand =
    left_sent tapes script old new history (queues_of heard) number bytes text made file told after shelf sink status finishes
    (subst (λ (h : List Entry). IfSome told (λ files. PacketsStand h (queues_of heard) file bytes files after status)) same
    (subst (λ (lists : List (Vec Heard Global)). IfSome told (λ files. PacketsStand lent (queues_of lists) file bytes files after status)) same_heard stand))

-- a run whose files were not set leaves them
pub left_unsent : (file : List ℕ) (number : ℕ) (tapes : List (List ℕ)) (script : Reading) (told : Option Files) (old new : Told) (history : List Entry) (status : Status) → Opens old new status
    → IfSome told (λ files. SentLeaves file number tapes script files told old new history status)
left_unsent file number tapes script None old new history status opens = tt
left_unsent file number tapes script (Some files) old new history Done opens = absurd opens
left_unsent file number tapes script (Some files) old new history SinkFault opens = absurd opens
left_unsent file number tapes script (Some files) old new history ShelfFault opens = absurd opens
left_unsent file number tapes script (Some files) old new history NoMemory opens = inl refl
left_unsent file number tapes script (Some files) old new history status opens = refl

-- ---- what the sink gained

-- nothing
pub gains_nothing : (had : Option (List ℕ)) (history : List Entry) → GainsFront had had history
gains_nothing None history = tt
gains_nothing (Some before) history = (false, 0, 0, ap (λ l. Some l) (sym (append-nil before)))

-- the front of a text is one of a longer text
front_of : (n : ℕ) (text line : List ℕ) → (m : ℕ) × (take n text ≡ take m (text ++ line))
front_of zero text line = (0, refl)
front_of (suc n) [] line = (0, refl)
front_of (suc n) (x ∷ text) line = let rest = front_of n text line in (suc rest.0, ap (λ l. x ∷ l) rest.1)

-- the front of the history's text
pub gains_printed : (had now : Option (List ℕ)) (history : List Entry) → IfSome had (λ before. (n : ℕ) × (now ≡ Some (before ++ take n (text_of history)))) → GainsFront had now history
gains_printed None now history h = tt
gains_printed (Some before) now history h = let front = front_of h.0 (text_of history) (next_line false 0) in (false, 0, front.0, h.1 ∙ ap (λ l. Some (before ++ l)) front.1)

-- the front of the history's text and the line behind it
pub gains_written : (had now : Option (List ℕ)) (number : ℕ) (tapes : List (List ℕ)) (history : List Entry) (text line : List ℕ) (honest : Bool) (first : State) → text ≡ text_of history ++ line → IsNext number tapes history line honest first
    → IfSome had (λ before. (n : ℕ) × (now ≡ Some (before ++ take n text))) → GainsFront had now history
gains_written None now number tapes history text line honest first text_is next h = tt
gains_written (Some before) now number tapes history text line honest first text_is next h = (next.unsure, next.next, h.0, h.1 ∙ ap (λ l. Some (before ++ take h.0 l)) (text_is ∙ ap (λ l. text_of history ++ l) next.is))

-- all of both
pub gains_all : (had now : Option (List ℕ)) (history : List Entry) (text line : List ℕ) (told : List ℕ → Type 0) → text ≡ text_of history ++ line → told line → IfSome had (λ before. now ≡ Some (before ++ text)) → GainsText had now history told
gains_all None now history text line told text_is is h = tt
gains_all (Some before) now history text line told text_is is h = (line, h ∙ ap (λ l. Some (before ++ l)) text_is, is)

-- ---- the promise

module _ (name file : List ℕ) (number : ℕ) (files : Files) (a : ℕ) (b : Option (List ℕ)) (c d : ℕ) (disk : Told) (new : Outside) (history : List Entry) where
  abbrev before_file : Files → Outside
  before_file before = record new { files = Some before }

  -- the run, before the file of the packets was set
  as_whole : (h : RanPackets files name file number (outside (Some files) a b c d disk) new history) → RanWhole false files name (outside (Some files) a b c d disk) (before_file h.performed.made_so.before) history
  as_whole h = record { script = h.script; tapes = h.tapes; ready = h.ready; performed = record { first = h.performed.first; made_so = h.performed.made_so.served; disk = h.performed.disk } }

  exact_sent : (status : Status) → PacketsCome name file number (outside (Some files) a b c d disk) new history status → IsExact files name disk status
  exact_sent Done h = exact false name files a b c d disk (before_file h.performed.made_so.before) history Done (as_whole h)
  exact_sent SinkFault h = exact false name files a b c d disk (before_file h.1.performed.made_so.before) history SinkFault (h.0, as_whole h.1)
  exact_sent status h = exact false name files a b c d disk new history status h

  -- what stands of the history says nothing of the files
  so_far_as : (before : Files) → RunSoFar false name (outside (Some files) a b c d disk) new history → RunSoFar false name (outside (Some files) a b c d disk) (before_file before) history
  so_far_as before (inl none) = inl (record { silent = none.silent; disk = none.disk })
  so_far_as before (inr ran) = inr ran

  complete_sent : (status : Status) → PacketsCome name file number (outside (Some files) a b c d disk) new history status → RunSoFar false name (outside (Some files) a b c d disk) new history → disk.faults ≤ new.disk.faults → IsComplete files name (outside (Some files) a b c d disk) new history status
  complete_sent Done h so_far later = complete false name files a b c d disk (before_file h.performed.made_so.before) history Done (as_whole h) (so_far_as h.performed.made_so.before so_far) later
  complete_sent SinkFault h so_far later = complete false name files a b c d disk (before_file h.1.performed.made_so.before) history SinkFault (h.0, as_whole h.1) (so_far_as h.1.performed.made_so.before so_far) later
  complete_sent status h so_far later = complete false name files a b c d disk new history status h so_far later

pub promised_packets :
    (name file : List ℕ) (number : ℕ) (told : Option Files) (a : ℕ) (b : Option (List ℕ)) (c d : ℕ) (disk : Told) (new : Outside) (history : List Entry) (status : Status) → PacketsCome name file number (outside told a b c d disk) new history status → RunSoFar false name (outside told a b c d disk) new history
    → disk.faults ≤ new.disk.faults → IfSome told (λ files. PacketsLeft files name file number (outside told a b c d disk) new history status)
    → (status ≡ Done → GainsText b new.contents history (λ line. IfSome told (λ files. RanNext files name number (outside told a b c d disk) new history line))) → GainsFront b new.contents history → PacketsPromise name file number (outside told a b c d disk) new status history
promised_packets name file number None a b c d disk new history status comes so_far later left done prefix = record { comes = comes; so_far = so_far; exact = tt; complete = tt; left = tt; done = done; prefix = prefix }
promised_packets name file number (Some files) a b c d disk new history status comes so_far later left done prefix = record {
  comes = comes;
  so_far = so_far;
  exact = exact_sent name file number files a b c d disk new history status comes;
  complete = complete_sent name file number files a b c d disk new history status comes so_far later;
  left = left;
  done = done;
  prefix = prefix;
}

-- ---- a run that ended before it touched the disk

stop_comes : (name file : List ℕ) (number : ℕ) (told : Option Files) (a : ℕ) (b : Option (List ℕ)) (c d : ℕ) (disk : Told) (new : Outside) (history : List Entry) (status : Status) → Stops name told (HasRisen a new.shelf_faults) status → PacketsCome name file number (outside told a b c d disk) new history status
stop_comes name file number told a b c d disk new history Done h = absurd h
stop_comes name file number told a b c d disk new history SinkFault h = absurd h
stop_comes name file number told a b c d disk new history status h = stopped false name told a b c d disk new history status h

stop_left : (name file : List ℕ) (number : ℕ) (told later : Option Files) (a e : ℕ) (b : Option (List ℕ)) (c d : ℕ) (disk : Told) (history : List Entry) (status : Status) → later ≡ told → history ≡ []
    → IfSome told (λ files. PacketsLeft files name file number (outside told a b c d disk) (outside later e b c d disk) history status)
stop_left name file number None later a e b c d disk history status same none = tt
stop_left name file number (Some files) later a e b c d disk history Done same none = tt
stop_left name file number (Some files) later a e b c d disk history SinkFault same none = tt
stop_left name file number (Some files) later a e b c d disk history NoMemory same none = inl same
stop_left name file number (Some files) later a e b c d disk history ShelfFault same none = inl (record { silent = none; files = same; disk = record { bytes = refl; calls = refl; faults = refl }; crash = λ moment image left. left; contents = refl })
stop_left name file number (Some files) later a e b c d disk history status same none = same

pub packets_stop : (name file : List ℕ) (number : ℕ) (told later : Option Files) (a e : ℕ) (b : Option (List ℕ)) (c d : ℕ) (disk : Told) (history : List Entry) (status : Status) → Stops name told (HasRisen a e) status → later ≡ told → history ≡ []
    → PacketsPromise name file number (outside told a b c d disk) (outside later e b c d disk) status history
packets_stop name file number told later a e b c d disk history status stops same none =
    promised_packets name file number told a b c d disk (outside later e b c d disk) history status (stop_comes name file number told a b c d disk (outside later e b c d disk) history status stops)
    (inl (record { silent = none; disk = λ honest. record { bytes = refl; now = λ image left. left; crash = λ t image within left. inl left } })) (omega arith)
    (stop_left name file number told later a e b c d disk history status same none) (λ is. absurd (subst (Stops name told (HasRisen a e)) is stops)) (gains_nothing b history)

-- ---- a run whose script is ready

packets_of_all : (told : Option Files) (name file : List ℕ) (number a : ℕ) (b : Option (List ℕ)) (c d : ℕ) (disk : Told) (new : Outside) (script : Reading) (tapes : List (List ℕ)) (history : List Entry) → IfSome told (λ files. IsReady files name script tapes)
    → IfSome told (λ files. SendsAll file number tapes script files new.files disk new.disk history) → IfSome told (λ files. RanPackets files name file number (outside told a b c d disk) new history)
packets_of_all None name file number a b c d disk new script tapes history ready sends = tt
packets_of_all (Some files) name file number a b c d disk new script tapes history ready sends = record { script = script; tapes = tapes; ready = ready; performed = sends }

packets_come : (told : Option Files) (name file : List ℕ) (number a : ℕ) (b : Option (List ℕ)) (c d : ℕ) (disk : Told) (new : Outside) (script : Reading) (tapes : List (List ℕ)) (history : List Entry) (status : Status) → IfSome told (λ files. IsReady files name script tapes)
    → Performs (HasRisen a new.shelf_faults) (SinkFaulted (outside told a b c d disk) new) disk new.disk status → IfSome told (λ files. SentLeaves file number tapes script files new.files disk new.disk history status)
    → PacketsCome name file number (outside told a b c d disk) new history status
packets_come told name file number a b c d disk new script tapes history Done ready which left = packets_of_all told name file number a b c d disk new script tapes history ready left
packets_come told name file number a b c d disk new script tapes history SinkFault ready which left = (which, packets_of_all told name file number a b c d disk new script tapes history ready left)
packets_come told name file number a b c d disk new script tapes history NoMemory ready which left = tt
packets_come told name file number a b c d disk new script tapes history ShelfFault ready which left = which
packets_come told name file number a b c d disk new script tapes history (BadDisk place) ready which left = (which, there_of told name script tapes ready)
packets_come told name file number a b c d disk new script tapes history DiskFault ready which left = (which, there_of told name script tapes ready)
packets_come told name file number a b c d disk new script tapes history status ready which left = absurd which

module _ (name file : List ℕ) (number : ℕ) (files : Files) (a : ℕ) (b : Option (List ℕ)) (c d : ℕ) (disk : Told) (new : Outside) (script : Reading) (tapes : List (List ℕ)) (history : List Entry) (ready : IsReady files name script tapes) where
  abbrev old : Outside
  old = outside (Some files) a b c d disk

  from_all : SendsAll file number tapes script files new.files disk new.disk history → RanPackets files name file number old new history
  from_all h = record { script = script; tapes = tapes; ready = ready; performed = h }

  from_first : SetsFirst false tapes script files new.files disk new.disk history → RanInto false files name old new history
  from_first h = record { script = script; tapes = tapes; ready = ready; performed = h }

  from_into : SendsInto file tapes script files new.files disk new.disk history → RanPacketsInto files name file old new history
  from_into h = record { script = script; tapes = tapes; ready = ready; performed = h }

  left_all : (status : Status) → SentLeaves file number tapes script files new.files disk new.disk history status → PacketsLeft files name file number old new history status
  left_all Done h = tt
  left_all SinkFault h = tt
  left_all NoMemory (inl same) = inl same
  left_all NoMemory (inr (inl all)) = inr (inl (from_all all))
  left_all NoMemory (inr (inr (inl first))) = inr (inr (inl (from_first first)))
  left_all NoMemory (inr (inr (inr into))) = inr (inr (inr (from_into into)))
  left_all ShelfFault (inl first) = inr (inl (from_first first))
  left_all ShelfFault (inr into) = inr (inr (from_into into))
  left_all status h = h

left_ready : (told : Option Files) (name file : List ℕ) (number a : ℕ) (b : Option (List ℕ)) (c d : ℕ) (disk : Told) (new : Outside) (script : Reading) (tapes : List (List ℕ)) (history : List Entry) (status : Status) → IfSome told (λ files. IsReady files name script tapes)
    → IfSome told (λ files. SentLeaves file number tapes script files new.files disk new.disk history status) → IfSome told (λ files. PacketsLeft files name file number (outside told a b c d disk) new history status)
left_ready None name file number a b c d disk new script tapes history status ready left = tt
left_ready (Some files) name file number a b c d disk new script tapes history status ready left = left_all name file number files a b c d disk new script tapes history ready status left

-- the line, of a script that is there
next_of : (told : Option Files) (name : List ℕ) (number a : ℕ) (b : Option (List ℕ)) (c d : ℕ) (disk : Told) (new : Outside) (script : Reading) (tapes : List (List ℕ)) (history : List Entry) (line : List ℕ) → IfSome told (λ files. IsReady files name script tapes)
    → Performed tapes (IsNext number tapes history line) disk new.disk history → IfSome told (λ files. RanNext files name number (outside told a b c d disk) new history line)
next_of None name number a b c d disk new script tapes history line ready told = tt
next_of (Some files) name number a b c d disk new script tapes history line ready told = record { script = script; tapes = tapes; ready = ready; performed = told }

text_of_ready : (told : Option Files) (name : List ℕ) (number a : ℕ) (b : Option (List ℕ)) (c d : ℕ) (disk : Told) (new : Outside) (script : Reading) (tapes : List (List ℕ)) (history : List Entry) → IfSome told (λ files. IsReady files name script tapes)
    → (had : Option (List ℕ)) → GainsText had new.contents history (λ line. Performed tapes (IsNext number tapes history line) disk new.disk history)
    → GainsText had new.contents history (λ line. IfSome told (λ files. RanNext files name number (outside told a b c d disk) new history line))
text_of_ready told name number a b c d disk new script tapes history ready None h = tt
text_of_ready told name number a b c d disk new script tapes history ready (Some before) h = (h.0, h.1, next_of told name number a b c d disk new script tapes history h.0 ready h.2)

-- what the calls, the files and the print left, where the script was ready once the shelf's faults were e
pub packets_ran : (name file : List ℕ) (number : ℕ) (told mid : Option Files) (a : ℕ) (b : Option (List ℕ)) (c d e : ℕ) (disk : Told) (new : Outside) (script : Reading) (tapes : List (List ℕ)) (history : List Entry) (status : Status) → mid ≡ told → a ≤ e → IfSome told (λ files. IsReady files name script tapes)
    → Performs (HasRisen e new.shelf_faults) (SinkFaulted (outside told a b c d disk) new) disk new.disk status → IfSome mid (λ files. SentLeaves file number tapes script files new.files disk new.disk history status)
    → ((history ≡ []) × IsUnchanged disk new.disk) ⊎ ((k : ℕ) × Performed tapes (Begun false tapes script k history) disk new.disk history) → disk.faults ≤ new.disk.faults
    → (status ≡ Done → GainsText b new.contents history (λ line. Performed tapes (IsNext number tapes history line) disk new.disk history)) → GainsFront b new.contents history → PacketsPromise name file number (outside told a b c d disk) new status history
packets_ran name file number told mid a b c d e disk new script tapes history status same early ready which left so_far later done prefix =
    let left_told : IfSome told (λ files. SentLeaves file number tapes script files new.files disk new.disk history status) = subst (λ (t : Option Files). IfSome t (λ files. SentLeaves file number tapes script files new.files disk new.disk history status)) same left in
    promised_packets name file number told a b c d disk new history status
    (packets_come told name file number a b c d disk new script tapes history status ready (performs_since a e new.shelf_faults (SinkFaulted (outside told a b c d disk) new) disk new.disk status early which) left_told)
    (so_far_ready false told name a b c d disk new script tapes history ready so_far) later
    (left_ready told name file number a b c d disk new script tapes history status ready left_told)
    (λ is. text_of_ready told name number a b c d disk new script tapes history ready b (done is)) prefix
