-- Words say at most one command.
use Rattle.std.proofs.Common.{◌≡◌, ℕ, ◌⊎◌, inl, inr, List, [], ◌∷◌, Bool, true, false, refl, sym, ap, subst, ◌∙◌, arith, Result, Ok, Err}
use Rattle.std.specs.Prelude.{codes, decimal, IsTrue, bytes_eq}
use Rattle.std.proofs.lemmas.Bool.{false≢true}
use Rattle.std.proofs.lemmas.Fmt.{decimal_injective}
use Rattle.std.proofs.lemmas.Slice.Eq.{bytes_eq-Decides}
use Rattle.script_lang.specs.Forms.{is_file}
use Rattle.voice_model.specs.declared.calls.Entry.{Entry}
use Rattle.voice_outside.specs.Disk.{Told}
use Rattle.voice_main.specs.declared.options.FormatNumbers.{FormatNumbers}
use Rattle.voice_main.specs.declared.status.Status.{Status}
use Rattle.voice_main.specs.declared.status.Status.TheVariants.{Done, Usage, BadShape, ShelfFault, DiskFault, NoMemory}
use Rattle.voice_main.specs.Words.{Command, Says, run_command, IsSerial, IsThreaded, IsFormat, IsConversion, IsNamed, IsNotes, IsMirror, IsAudit, IsPromotion, IsRefused, IsNoRun, IsNoFormat, IsNoConversion, IsNoAudit, IsNoPromotion, IsNoNotes, IsNoMirror, IsMake, IsNoMake, IsPackets, IsNoPackets}
use Rattle.voice_main.specs.declared.convert.Way.{Way}
use Rattle.voice_main.specs.declared.convert.Way.TheVariants as ways
use Rattle.voice_main.specs.Conversions.{way_word}
use Rattle.voice_main.specs.Outside.{Outside}
use Rattle.voice_main.specs.RunPromise.{RunPromise}
use Rattle.voice_main.specs.FormatPromise.{FormatPromise, FormatStatus}
use Rattle.voice_main.specs.ConversionPromise.{ConversionPromise}
use Rattle.voice_main.specs.NotesPromise.{NotesPromise}
use Rattle.voice_main.specs.AuditPromise.{AuditPromise, AuditComes}
use Rattle.voice_main.specs.MakePromise.{MakePromise, MakeComes}
use Rattle.voice_main.specs.PacketsPromise.{PacketsPromise}
use Rattle.voice_main.specs.MirrorPromise.{MirrorPromise}
use Rattle.voice_main.specs.PromotionPromise.{PromotionPromise, answer_status_of}
use Rattle.mirror_commands.specs.declared.promoting.Refusal.{Refusal}
use Rattle.mirror_commands.specs.declared.promoting.Refusal.TheVariants as promotion
use Rattle.voice_main.specs.Promises.{Promises, Comes}
use Rattle.voice_main.specs.Statuses.{IsEarly}

-- `--threads` names no file
no_name : (name : List ℕ) → IsTrue (is_file name) → name ≡ codes "--threads" → ⊥
no_name name file same = let e : false ≡ true = ap is_file (sym same) ∙ file in cc

same_serial : (words : List (List ℕ)) (a b : List ℕ) → IsSerial words a → IsSerial words b → a ≡ b
same_serial words a b p q = let e : codes "run" ∷ a ∷ [] ≡ codes "run" ∷ b ∷ [] = sym p.form ∙ q.form in cc

same_forms : (words : List (List ℕ)) (a b : List ℕ) → (words ≡ codes "run" ∷ a ∷ codes "--threads" ∷ []) ⊎ (words ≡ codes "run" ∷ codes "--threads" ∷ a ∷ []) → (words ≡ codes "run" ∷ b ∷ codes "--threads" ∷ []) ⊎ (words ≡ codes "run" ∷ codes "--threads" ∷ b ∷ []) → IsTrue (is_file a) → IsTrue (is_file b) → a ≡ b
same_forms words a b (inl p) (inl q) fa fb = let e : codes "run" ∷ a ∷ codes "--threads" ∷ [] ≡ codes "run" ∷ b ∷ codes "--threads" ∷ [] = sym p ∙ q in cc
same_forms words a b (inr p) (inr q) fa fb = let e : codes "run" ∷ codes "--threads" ∷ a ∷ [] ≡ codes "run" ∷ codes "--threads" ∷ b ∷ [] = sym p ∙ q in cc
same_forms words a b (inl p) (inr q) fa fb = let e : codes "run" ∷ a ∷ codes "--threads" ∷ [] ≡ codes "run" ∷ codes "--threads" ∷ b ∷ [] = sym p ∙ q in let same : a ≡ codes "--threads" = cc in absurd (no_name a fa same)
same_forms words a b (inr p) (inl q) fa fb = let e : codes "run" ∷ b ∷ codes "--threads" ∷ [] ≡ codes "run" ∷ codes "--threads" ∷ a ∷ [] = sym q ∙ p in let same : b ≡ codes "--threads" = cc in absurd (no_name b fb same)

same_threaded : (words : List (List ℕ)) (a b : List ℕ) → IsThreaded words a → IsThreaded words b → a ≡ b
same_threaded words a b p q = same_forms words a b p.form q.form p.file q.file

two_not_three : (a b c : List ℕ) → codes "run" ∷ a ∷ [] ≡ codes "run" ∷ b ∷ c ∷ [] → ⊥
two_not_three a b c e = cc

serial_not_threaded : (words : List (List ℕ)) (a b : List ℕ) → IsSerial words a → IsThreaded words b → ⊥
serial_not_threaded words a b p q = by q.form
  where
    by : (words ≡ codes "run" ∷ b ∷ codes "--threads" ∷ []) ⊎ (words ≡ codes "run" ∷ codes "--threads" ∷ b ∷ []) → ⊥
    by (inl e) = two_not_three a b (codes "--threads") (sym p.form ∙ e)
    by (inr e) = two_not_three a (codes "--threads") b (sym p.form ∙ e)

-- ---- the first word

-- whether the first word is that one: of words that are written out it computes
abbrev begins : List ℕ → List (List ℕ) → Bool
begins word [] = false
begins word (first ∷ rest) = bytes_eq word first

-- the first word of a command
abbrev verb_of : Command → List ℕ
verb_of (Command.Run name) = codes "run"
verb_of (Command.RunThreads name) = codes "run"
verb_of (Command.Format numbers) = codes "format"
verb_of (Command.Convert way source target) = way_word way
verb_of (Command.Notes index) = codes "notes"
verb_of Command.Audit = codes "audit"
verb_of (Command.Make seed lines) = codes "make"
verb_of (Command.Packets script file first) = codes "packets"
verb_of (Command.Mirror file) = codes "mirror"
verb_of Command.Promote = codes "promote"

starts : (command : Command) (words : List (List ℕ)) → Says words command → (rest : List (List ℕ)) × (words ≡ verb_of command ∷ rest)
starts (Command.Run name) words q = (name ∷ [], q.form)
starts (Command.RunThreads name) words q = by q.form
  where
    by : (words ≡ codes "run" ∷ name ∷ codes "--threads" ∷ []) ⊎ (words ≡ codes "run" ∷ codes "--threads" ∷ name ∷ []) → (rest : List (List ℕ)) × (words ≡ codes "run" ∷ rest)
    by (inl e) = (name ∷ codes "--threads" ∷ [], e)
    by (inr e) = (codes "--threads" ∷ name ∷ [], e)
starts (Command.Format numbers) words q = (q.options, q.form)
starts (Command.Convert way source target) words q = (source ∷ target ∷ [], q.form)
starts (Command.Notes index) words q = (index ∷ [], q.form)
starts Command.Audit words q = ([], q)
starts (Command.Make seed lines) words q = (decimal seed ∷ decimal lines ∷ [], q.form)
starts (Command.Packets script file first) words q = (script ∷ file ∷ decimal first ∷ [], q.form)
starts (Command.Mirror file) words q = (file ∷ [], q.form)
starts Command.Promote words q = ([], q)

-- words say no two commands whose first words differ
apart : (a b : Command) (words : List (List ℕ)) → bytes_eq (verb_of a) (verb_of b) ≡ false → Says words a → Says words b → ⊥
apart a b words differ p q =
    let x = starts a words p in
    let y = starts b words q in
    let same : bytes_eq (verb_of a) (verb_of b) ≡ bytes_eq (verb_of a) (verb_of a) = ap (λ ws. begins (verb_of a) ws) (sym y.1 ∙ x.1) in
    false≢true (sym differ ∙ same ∙ (bytes_eq-Decides (verb_of a) (verb_of a)).1 refl)

-- the words of a conversion are no other word
conversion_apart : (way : Way) (source target : List ℕ) (b : Command) (words : List (List ℕ)) → bytes_eq (codes "import") (verb_of b) ≡ false → bytes_eq (codes "export") (verb_of b) ≡ false → IsConversion way words source target → Says words b → ⊥
conversion_apart ways.Import source target b words one other p q = apart (Command.Convert ways.Import source target) b words one p q
conversion_apart ways.Export source target b words one other p q = apart (Command.Convert ways.Export source target) b words other p q

-- ---- two commands of one first word

-- words ask for one conversion
same_way : (words : List (List ℕ)) (a b : Way) (s t u v : List ℕ) → words ≡ way_word a ∷ s ∷ t ∷ [] → words ≡ way_word b ∷ u ∷ v ∷ [] → (a ≡ b) × (s ≡ u) × (t ≡ v)
same_way words ways.Import ways.Import s t u v p q = let e : codes "import" ∷ s ∷ t ∷ [] ≡ codes "import" ∷ u ∷ v ∷ [] = sym p ∙ q in let first : s ≡ u = cc in let second : t ≡ v = cc in (refl, first, second)
same_way words ways.Export ways.Export s t u v p q = let e : codes "export" ∷ s ∷ t ∷ [] ≡ codes "export" ∷ u ∷ v ∷ [] = sym p ∙ q in let first : s ≡ u = cc in let second : t ≡ v = cc in (refl, first, second)
same_way words ways.Import ways.Export s t u v p q = absurd (false≢true (sym (ap (begins (codes "import")) (sym p ∙ q))))
same_way words ways.Export ways.Import s t u v p q = absurd (false≢true (sym (ap (begins (codes "export")) (sym p ∙ q))))

same_name : (word : List ℕ) (words : List (List ℕ)) (a b : List ℕ) → IsNamed word words a → IsNamed word words b → a ≡ b
same_name word words a b p q = let e : word ∷ a ∷ [] ≡ word ∷ b ∷ [] = sym p.form ∙ q.form in cc

-- words ask for one generated script
same_making : (words : List (List ℕ)) (a b m n : ℕ) → IsMake words a m → IsMake words b n → (a ≡ b) × (m ≡ n)
same_making words a b m n p q =
    let e : codes "make" ∷ decimal a ∷ decimal m ∷ [] ≡ codes "make" ∷ decimal b ∷ decimal n ∷ [] = sym p.form ∙ q.form in
    let seeds : decimal a ≡ decimal b = cc in
    let counts : decimal m ≡ decimal n = cc in
    (decimal_injective a b p.seed_most q.seed_most seeds, decimal_injective m n (let few = p.most in omega (arith, few)) (let few = q.most in omega (arith, few)) counts)

-- words ask for the packets of one script
same_sending : (words : List (List ℕ)) (s t f g : List ℕ) (m n : ℕ) → IsPackets words s f m → IsPackets words t g n → (s ≡ t) × (f ≡ g) × (m ≡ n)
same_sending words s t f g m n p q =
    let e : codes "packets" ∷ s ∷ f ∷ decimal m ∷ [] ≡ codes "packets" ∷ t ∷ g ∷ decimal n ∷ [] = sym p.form ∙ q.form in
    let scripts : s ≡ t = cc in
    let files : f ≡ g = cc in
    let numbers : decimal m ≡ decimal n = cc in
    (scripts, files, decimal_injective m n (let few = p.most in omega (arith, few)) (let few = q.most in omega (arith, few)) numbers)

-- ---- what the words say

pub refused_by : (words : List (List ℕ)) → IsNoRun words → IsNoFormat words → IsNoPackets words → IsNoConversion words → IsNoAudit words → IsNoNotes words → IsNoMake words → IsNoMirror words → IsNoPromotion words → IsRefused words
refused_by words run format packets convert audit notes make mirror promote (Command.Run name) = run false name
refused_by words run format packets convert audit notes make mirror promote (Command.RunThreads name) = run true name
refused_by words run format packets convert audit notes make mirror promote (Command.Format numbers) = format numbers
refused_by words run format packets convert audit notes make mirror promote (Command.Convert way source target) = convert way source target
refused_by words run format packets convert audit notes make mirror promote (Command.Notes index) = notes index
refused_by words run format packets convert audit notes make mirror promote Command.Audit = audit
refused_by words run format packets convert audit notes make mirror promote (Command.Make seed lines) = make seed lines
refused_by words run format packets convert audit notes make mirror promote (Command.Packets script file first) = packets script file first
refused_by words run format packets convert audit notes make mirror promote (Command.Mirror file) = mirror file
refused_by words run format packets convert audit notes make mirror promote Command.Promote = promote

-- the promise of the run that the words say is that of whatever command they say
pub run_only : (threads : Bool) (words : List (List ℕ)) (name : List ℕ) (old new : Outside) (status : Status) (history : List Entry) → Says words (run_command threads name) → RunPromise threads name old new status history → (command : Command) → Says words command → Promises command old new status history
run_only false words name old new status history p h (Command.Run b) q = subst (λ n. RunPromise false n old new status history) (same_serial words name b p q) h
run_only false words name old new status history p h (Command.RunThreads b) q = absurd (serial_not_threaded words name b p q)
run_only false words name old new status history p h (Command.Format numbers) q = absurd (apart (Command.Run name) (Command.Format numbers) words refl p q)
run_only false words name old new status history p h (Command.Convert way source target) q = absurd (conversion_apart way source target (Command.Run name) words refl refl q p)
run_only false words name old new status history p h (Command.Notes index) q = absurd (apart (Command.Run name) (Command.Notes index) words refl p q)
run_only false words name old new status history p h Command.Audit q = absurd (apart (Command.Run name) Command.Audit words refl p q)
run_only false words name old new status history p h (Command.Make seed lines) q = absurd (apart (Command.Run name) (Command.Make seed lines) words refl p q)
run_only false words name old new status history p h (Command.Packets script file first) q = absurd (apart (Command.Run name) (Command.Packets script file first) words refl p q)
run_only false words name old new status history p h (Command.Mirror file) q = absurd (apart (Command.Run name) (Command.Mirror file) words refl p q)
run_only false words name old new status history p h Command.Promote q = absurd (apart (Command.Run name) Command.Promote words refl p q)
run_only true words name old new status history p h (Command.Run b) q = absurd (serial_not_threaded words b name q p)
run_only true words name old new status history p h (Command.RunThreads b) q = subst (λ n. RunPromise true n old new status history) (same_threaded words name b p q) h
run_only true words name old new status history p h (Command.Format numbers) q = absurd (apart (Command.RunThreads name) (Command.Format numbers) words refl p q)
run_only true words name old new status history p h (Command.Convert way source target) q = absurd (conversion_apart way source target (Command.RunThreads name) words refl refl q p)
run_only true words name old new status history p h (Command.Notes index) q = absurd (apart (Command.RunThreads name) (Command.Notes index) words refl p q)
run_only true words name old new status history p h Command.Audit q = absurd (apart (Command.RunThreads name) Command.Audit words refl p q)
run_only true words name old new status history p h (Command.Make seed lines) q = absurd (apart (Command.RunThreads name) (Command.Make seed lines) words refl p q)
run_only true words name old new status history p h (Command.Packets script file first) q = absurd (apart (Command.RunThreads name) (Command.Packets script file first) words refl p q)
run_only true words name old new status history p h (Command.Mirror file) q = absurd (apart (Command.RunThreads name) (Command.Mirror file) words refl p q)
run_only true words name old new status history p h Command.Promote q = absurd (apart (Command.RunThreads name) Command.Promote words refl p q)

pub run_comes : (threads : Bool) (words : List (List ℕ)) (name : List ℕ) (old new : Outside) (status : Status) (history : List Entry) → Says words (run_command threads name) → RunPromise threads name old new status history → Comes words old new status history
run_comes false words name old new status history p h = inr (Command.Run name, p, h)
run_comes true words name old new status history p h = inr (Command.RunThreads name, p, h)

pub format_only : (words : List (List ℕ)) (old new : Outside) (status : Status) (history : List Entry) → IsNoRun words → IsNoPackets words → IsNoConversion words → IsNoAudit words → IsNoNotes words → IsNoMake words → IsNoMirror words → IsNoPromotion words → ((numbers : FormatNumbers) → IsFormat words numbers → FormatPromise numbers old new status history) → (command : Command) → Says words command → Promises command old new status history
format_only words old new status history none packets other audit notes make mirror promote h (Command.Run name) q = absurd (none false name q)
format_only words old new status history none packets other audit notes make mirror promote h (Command.RunThreads name) q = absurd (none true name q)
format_only words old new status history none packets other audit notes make mirror promote h (Command.Format numbers) q = h numbers q
format_only words old new status history none packets other audit notes make mirror promote h (Command.Convert way source target) q = absurd (other way source target q)
format_only words old new status history none packets other audit notes make mirror promote h (Command.Notes index) q = absurd (notes index q)
format_only words old new status history none packets other audit notes make mirror promote h Command.Audit q = absurd (audit q)
format_only words old new status history none packets other audit notes make mirror promote h (Command.Make seed lines) q = absurd (make seed lines q)
format_only words old new status history none packets other audit notes make mirror promote h (Command.Packets script file first) q = absurd (packets script file first q)
format_only words old new status history none packets other audit notes make mirror promote h (Command.Mirror file) q = absurd (mirror file q)
format_only words old new status history none packets other audit notes make mirror promote h Command.Promote q = absurd (promote q)

pub format_comes : (words : List (List ℕ)) (numbers : FormatNumbers) (old new : Outside) (status : Status) (history : List Entry) → IsFormat words numbers → FormatPromise numbers old new status history → Comes words old new status history
format_comes words numbers old new status history p h = inr (Command.Format numbers, p, h)

-- the promise of the conversion that the words ask for is that of whatever command they say
pub conversion_only : (way : Way) (words : List (List ℕ)) (source target : List ℕ) (old new : Outside) (status : Status) (history : List Entry) → IsConversion way words source target → ConversionPromise way source target old new status history → (command : Command) → Says words command → Promises command old new status history
conversion_only way words source target old new status history p h (Command.Run name_b) q = absurd (conversion_apart way source target (Command.Run name_b) words refl refl p q)
conversion_only way words source target old new status history p h (Command.RunThreads name_b) q = absurd (conversion_apart way source target (Command.RunThreads name_b) words refl refl p q)
conversion_only way words source target old new status history p h (Command.Format numbers_b) q = absurd (conversion_apart way source target (Command.Format numbers_b) words refl refl p q)
conversion_only way words source target old new status history p h (Command.Convert other s t) q =
    let same = same_way words way other source target s t p.form q.form in
    let at_way = subst (λ w. ConversionPromise w source target old new status history) same.0 h in
    let at_source = subst (λ n. ConversionPromise other n target old new status history) same.1 at_way in
    subst (λ n. ConversionPromise other s n old new status history) same.2 at_source
conversion_only way words source target old new status history p h (Command.Notes index_b) q = absurd (conversion_apart way source target (Command.Notes index_b) words refl refl p q)
conversion_only way words source target old new status history p h Command.Audit q = absurd (conversion_apart way source target Command.Audit words refl refl p q)
conversion_only way words source target old new status history p h (Command.Make seed_b lines_b) q = absurd (conversion_apart way source target (Command.Make seed_b lines_b) words refl refl p q)
conversion_only way words source target old new status history p h (Command.Packets script_b file_b first_b) q = absurd (conversion_apart way source target (Command.Packets script_b file_b first_b) words refl refl p q)
conversion_only way words source target old new status history p h (Command.Mirror file_b) q = absurd (conversion_apart way source target (Command.Mirror file_b) words refl refl p q)
conversion_only way words source target old new status history p h Command.Promote q = absurd (conversion_apart way source target Command.Promote words refl refl p q)

pub conversion_comes : (way : Way) (words : List (List ℕ)) (source target : List ℕ) (old new : Outside) (status : Status) (history : List Entry) → IsConversion way words source target → ConversionPromise way source target old new status history → Comes words old new status history
conversion_comes way words source target old new status history p h = inr (Command.Convert way source target, p, h)

-- the promise of the census that the words ask for is that of whatever command they say
pub notes_only : (words : List (List ℕ)) (index : List ℕ) (old new : Outside) (status : Status) (history : List Entry) → IsNotes words index → NotesPromise index old new status history → (command : Command) → Says words command → Promises command old new status history
notes_only words index old new status history p h (Command.Run name_b) q = absurd (apart (Command.Notes index) (Command.Run name_b) words refl p q)
notes_only words index old new status history p h (Command.RunThreads name_b) q = absurd (apart (Command.Notes index) (Command.RunThreads name_b) words refl p q)
notes_only words index old new status history p h (Command.Format numbers_b) q = absurd (apart (Command.Notes index) (Command.Format numbers_b) words refl p q)
notes_only words index old new status history p h (Command.Convert way_b source_b target_b) q = absurd (conversion_apart way_b source_b target_b (Command.Notes index) words refl refl q p)
notes_only words index old new status history p h (Command.Notes b) q = subst (λ n. NotesPromise n old new status history) (same_name (codes "notes") words index b p q) h
notes_only words index old new status history p h Command.Audit q = absurd (apart (Command.Notes index) Command.Audit words refl p q)
notes_only words index old new status history p h (Command.Make seed_b lines_b) q = absurd (apart (Command.Notes index) (Command.Make seed_b lines_b) words refl p q)
notes_only words index old new status history p h (Command.Packets script_b file_b first_b) q = absurd (apart (Command.Notes index) (Command.Packets script_b file_b first_b) words refl p q)
notes_only words index old new status history p h (Command.Mirror file_b) q = absurd (apart (Command.Notes index) (Command.Mirror file_b) words refl p q)
notes_only words index old new status history p h Command.Promote q = absurd (apart (Command.Notes index) Command.Promote words refl p q)

pub notes_comes : (words : List (List ℕ)) (index : List ℕ) (old new : Outside) (status : Status) (history : List Entry) → IsNotes words index → NotesPromise index old new status history → Comes words old new status history
notes_comes words index old new status history p h = inr (Command.Notes index, p, h)

-- the promise of the audit that the words ask for is that of whatever command they say
pub audit_only : (words : List (List ℕ)) (old new : Outside) (status : Status) (history : List Entry) → IsAudit words → AuditPromise old new status history → (command : Command) → Says words command → Promises command old new status history
audit_only words old new status history p h (Command.Run name_b) q = absurd (apart Command.Audit (Command.Run name_b) words refl p q)
audit_only words old new status history p h (Command.RunThreads name_b) q = absurd (apart Command.Audit (Command.RunThreads name_b) words refl p q)
audit_only words old new status history p h (Command.Format numbers_b) q = absurd (apart Command.Audit (Command.Format numbers_b) words refl p q)
audit_only words old new status history p h (Command.Convert way_b source_b target_b) q = absurd (conversion_apart way_b source_b target_b Command.Audit words refl refl q p)
audit_only words old new status history p h (Command.Notes index_b) q = absurd (apart Command.Audit (Command.Notes index_b) words refl p q)
audit_only words old new status history p h Command.Audit q = h
audit_only words old new status history p h (Command.Make seed_b lines_b) q = absurd (apart Command.Audit (Command.Make seed_b lines_b) words refl p q)
audit_only words old new status history p h (Command.Packets script_b file_b first_b) q = absurd (apart Command.Audit (Command.Packets script_b file_b first_b) words refl p q)
audit_only words old new status history p h (Command.Mirror file_b) q = absurd (apart Command.Audit (Command.Mirror file_b) words refl p q)
audit_only words old new status history p h Command.Promote q = absurd (apart Command.Audit Command.Promote words refl p q)

pub audit_comes : (words : List (List ℕ)) (old new : Outside) (status : Status) (history : List Entry) → IsAudit words → AuditPromise old new status history → Comes words old new status history
audit_comes words old new status history p h = inr (Command.Audit, p, h)

-- the promise of the generated script that the words ask for is that of whatever command they say
pub make_only : (words : List (List ℕ)) (seed lines : ℕ) (old new : Outside) (status : Status) (history : List Entry) → IsMake words seed lines → MakePromise seed lines old new status history → (command : Command) → Says words command → Promises command old new status history
make_only words seed lines old new status history p h (Command.Run name_b) q = absurd (apart (Command.Make seed lines) (Command.Run name_b) words refl p q)
make_only words seed lines old new status history p h (Command.RunThreads name_b) q = absurd (apart (Command.Make seed lines) (Command.RunThreads name_b) words refl p q)
make_only words seed lines old new status history p h (Command.Format numbers_b) q = absurd (apart (Command.Make seed lines) (Command.Format numbers_b) words refl p q)
make_only words seed lines old new status history p h (Command.Convert way_b source_b target_b) q = absurd (conversion_apart way_b source_b target_b (Command.Make seed lines) words refl refl q p)
make_only words seed lines old new status history p h (Command.Notes index_b) q = absurd (apart (Command.Make seed lines) (Command.Notes index_b) words refl p q)
make_only words seed lines old new status history p h Command.Audit q = absurd (apart (Command.Make seed lines) Command.Audit words refl p q)
make_only words seed lines old new status history p h (Command.Make other count) q =
    let same = same_making words seed other lines count p q in
    subst (λ n. MakePromise other n old new status history) same.1 (subst (λ n. MakePromise n lines old new status history) same.0 h)
make_only words seed lines old new status history p h (Command.Packets script_b file_b first_b) q = absurd (apart (Command.Make seed lines) (Command.Packets script_b file_b first_b) words refl p q)
make_only words seed lines old new status history p h (Command.Mirror file_b) q = absurd (apart (Command.Make seed lines) (Command.Mirror file_b) words refl p q)
make_only words seed lines old new status history p h Command.Promote q = absurd (apart (Command.Make seed lines) Command.Promote words refl p q)

pub make_comes : (words : List (List ℕ)) (seed lines : ℕ) (old new : Outside) (status : Status) (history : List Entry) → IsMake words seed lines → MakePromise seed lines old new status history → Comes words old new status history
make_comes words seed lines old new status history p h = inr (Command.Make seed lines, p, h)

-- the promise of the packets that the words ask for is that of whatever command they say
pub packets_only : (words : List (List ℕ)) (script file : List ℕ) (first : ℕ) (old new : Outside) (status : Status) (history : List Entry) → IsPackets words script file first → PacketsPromise script file first old new status history → (command : Command) → Says words command → Promises command old new status history
packets_only words script file first old new status history p h (Command.Run name_b) q = absurd (apart (Command.Packets script file first) (Command.Run name_b) words refl p q)
packets_only words script file first old new status history p h (Command.RunThreads name_b) q = absurd (apart (Command.Packets script file first) (Command.RunThreads name_b) words refl p q)
packets_only words script file first old new status history p h (Command.Format numbers_b) q = absurd (apart (Command.Packets script file first) (Command.Format numbers_b) words refl p q)
packets_only words script file first old new status history p h (Command.Convert way_b source_b target_b) q = absurd (conversion_apart way_b source_b target_b (Command.Packets script file first) words refl refl q p)
packets_only words script file first old new status history p h (Command.Notes index_b) q = absurd (apart (Command.Packets script file first) (Command.Notes index_b) words refl p q)
packets_only words script file first old new status history p h Command.Audit q = absurd (apart (Command.Packets script file first) Command.Audit words refl p q)
packets_only words script file first old new status history p h (Command.Make seed_b lines_b) q = absurd (apart (Command.Packets script file first) (Command.Make seed_b lines_b) words refl p q)
packets_only words script file first old new status history p h (Command.Packets other to number) q =
    let same = same_sending words script other file to first number p q in
    subst (λ n. PacketsPromise other to n old new status history) same.2 (subst (λ n. PacketsPromise other n first old new status history) same.1 (subst (λ n. PacketsPromise n file first old new status history) same.0 h))
packets_only words script file first old new status history p h (Command.Mirror file_b) q = absurd (apart (Command.Packets script file first) (Command.Mirror file_b) words refl p q)
packets_only words script file first old new status history p h Command.Promote q = absurd (apart (Command.Packets script file first) Command.Promote words refl p q)

pub packets_comes : (words : List (List ℕ)) (script file : List ℕ) (first : ℕ) (old new : Outside) (status : Status) (history : List Entry) → IsPackets words script file first → PacketsPromise script file first old new status history → Comes words old new status history
packets_comes words script file first old new status history p h = inr (Command.Packets script file first, p, h)

-- the promise of the mirror that the words feed is that of whatever command they say
pub mirror_only : (words : List (List ℕ)) (file : List ℕ) (old new : Outside) (status : Status) (history : List Entry) → IsMirror words file → MirrorPromise file old new status history → (command : Command) → Says words command → Promises command old new status history
mirror_only words file old new status history p h (Command.Run name_b) q = absurd (apart (Command.Mirror file) (Command.Run name_b) words refl p q)
mirror_only words file old new status history p h (Command.RunThreads name_b) q = absurd (apart (Command.Mirror file) (Command.RunThreads name_b) words refl p q)
mirror_only words file old new status history p h (Command.Format numbers_b) q = absurd (apart (Command.Mirror file) (Command.Format numbers_b) words refl p q)
mirror_only words file old new status history p h (Command.Convert way_b source_b target_b) q = absurd (conversion_apart way_b source_b target_b (Command.Mirror file) words refl refl q p)
mirror_only words file old new status history p h (Command.Notes index_b) q = absurd (apart (Command.Mirror file) (Command.Notes index_b) words refl p q)
mirror_only words file old new status history p h Command.Audit q = absurd (apart (Command.Mirror file) Command.Audit words refl p q)
mirror_only words file old new status history p h (Command.Make seed_b lines_b) q = absurd (apart (Command.Mirror file) (Command.Make seed_b lines_b) words refl p q)
mirror_only words file old new status history p h (Command.Packets script_b file_b first_b) q = absurd (apart (Command.Mirror file) (Command.Packets script_b file_b first_b) words refl p q)
mirror_only words file old new status history p h (Command.Mirror b) q = subst (λ n. MirrorPromise n old new status history) (same_name (codes "mirror") words file b p q) h
mirror_only words file old new status history p h Command.Promote q = absurd (apart (Command.Mirror file) Command.Promote words refl p q)

pub mirror_comes : (words : List (List ℕ)) (file : List ℕ) (old new : Outside) (status : Status) (history : List Entry) → IsMirror words file → MirrorPromise file old new status history → Comes words old new status history
mirror_comes words file old new status history p h = inr (Command.Mirror file, p, h)

-- the promise of the promotion that the words ask for is that of whatever command they say
pub promotion_only : (words : List (List ℕ)) (old new : Outside) (status : Status) (history : List Entry) → IsPromotion words → PromotionPromise old new status history → (command : Command) → Says words command → Promises command old new status history
promotion_only words old new status history p h (Command.Run name_b) q = absurd (apart Command.Promote (Command.Run name_b) words refl p q)
promotion_only words old new status history p h (Command.RunThreads name_b) q = absurd (apart Command.Promote (Command.RunThreads name_b) words refl p q)
promotion_only words old new status history p h (Command.Format numbers_b) q = absurd (apart Command.Promote (Command.Format numbers_b) words refl p q)
promotion_only words old new status history p h (Command.Convert way_b source_b target_b) q = absurd (conversion_apart way_b source_b target_b Command.Promote words refl refl q p)
promotion_only words old new status history p h (Command.Notes index_b) q = absurd (apart Command.Promote (Command.Notes index_b) words refl p q)
promotion_only words old new status history p h Command.Audit q = absurd (apart Command.Promote Command.Audit words refl p q)
promotion_only words old new status history p h (Command.Make seed_b lines_b) q = absurd (apart Command.Promote (Command.Make seed_b lines_b) words refl p q)
promotion_only words old new status history p h (Command.Packets script_b file_b first_b) q = absurd (apart Command.Promote (Command.Packets script_b file_b first_b) words refl p q)
promotion_only words old new status history p h (Command.Mirror file_b) q = absurd (apart Command.Promote (Command.Mirror file_b) words refl p q)
promotion_only words old new status history p h Command.Promote q = h

pub promotion_comes : (words : List (List ℕ)) (old new : Outside) (status : Status) (history : List Entry) → IsPromotion words → PromotionPromise old new status history → Comes words old new status history
promotion_comes words old new status history p h = inr (Command.Promote, p, h)

pub conversion_not_packets : (words : List (List ℕ)) (way : Way) (source target script file : List ℕ) (first : ℕ) → IsConversion way words source target → IsPackets words script file first → ⊥
conversion_not_packets words way source target script file first p q = conversion_apart way source target (Command.Packets script file first) words refl refl p q

-- ---- a refusal of the words

-- a promotion has other statuses
promotion_usage : (answer : Result (Unit {0}) Refusal) → Usage ≡ answer_status_of answer → ⊥
promotion_usage (Ok x) e = cc
promotion_usage (Err (promotion.BadDisk place)) e = cc
promotion_usage (Err promotion.EpochSpent) e = cc
promotion_usage (Err (promotion.JournalFull need left)) e = cc
promotion_usage (Err promotion.DiskFault) e = cc
promotion_usage (Err promotion.InDoubt) e = cc
promotion_usage (Err promotion.NoMemory) e = cc

aloud : (command : Command) (old new : Outside) (history : List Entry) → Promises command old new Usage history → ⊥
aloud (Command.Run name) old new history h = h.comes
aloud (Command.RunThreads name) old new history h = h.comes
aloud (Command.Format numbers) old new history h = h.comes
aloud (Command.Convert way source target) old new history h = h.comes
aloud (Command.Notes index) old new history h = h.comes
aloud Command.Audit old new history h = h.comes
aloud (Command.Make seed lines) old new history h = h.comes
aloud (Command.Packets script file first) old new history h = h.comes
aloud (Command.Mirror file) old new history h = h.comes
aloud Command.Promote old new history h = promotion_usage h.answer h.status_is

-- usage comes exactly where the words are refused
pub usage_of : (words : List (List ℕ)) (old new : Outside) (status : Status) (history : List Entry) → Comes words old new status history → IsRefused words → status ≡ Usage
usage_of words old new status history (inl h) refused = h.1
usage_of words old new status history (inr h) refused = absurd (refused h.0 h.1)

pub refused_of : (words : List (List ℕ)) (old new : Outside) (status : Status) (history : List Entry) → Comes words old new status history → status ≡ Usage → IsRefused words
refused_of words old new status history (inl h) usage = h.0
refused_of words old new status history (inr h) usage = absurd (aloud h.0 old new history (subst (λ s. Promises h.0 old new s history) usage h.2))

pub no_memory_done : NoMemory ≡ Done → ⊥
no_memory_done e = cc

-- a format that is refused before the disk is touched is refused for its shape
pub format_early : {P : Type 0} (numbers : FormatNumbers) (old new : Told) (status : Status) → FormatStatus numbers old new status → (status ≡ BadShape → P) → IsEarly status → P
format_early numbers old new BadShape comes shape early = shape refl
format_early numbers old new Done comes shape early = absurd early
format_early numbers old new DiskFault comes shape early = absurd early
format_early numbers old new NoMemory comes shape early = absurd early
format_early numbers old new status comes shape early = absurd comes

-- ---- the shelf's fault

-- a format meets no fault of the shelf, nor does an audit
pub format_no_shelf : (numbers : FormatNumbers) (old new : Told) (status : Status) → FormatStatus numbers old new status → status ≡ ShelfFault → ⊥
format_no_shelf numbers old new status comes is = subst (FormatStatus numbers old new) is comes

pub audit_no_shelf : (old new : Outside) (status : Status) (history : List Entry) → AuditPromise old new status history → status ≡ ShelfFault → ⊥
audit_no_shelf old new status history h is = subst (AuditComes old new) is h.comes

pub make_no_shelf : (seed lines : ℕ) (old new : Outside) (status : Status) (history : List Entry) → MakePromise seed lines old new status history → status ≡ ShelfFault → ⊥
make_no_shelf seed lines old new status history h is = subst (MakeComes seed lines old new history) is h.comes
