-- A change that was put.
use Rattle.std.proofs.Common.{◌≡◌, inl, ℕ, ◌+◌, ◌<◌, ◌^◌, true, List, [], ◌∷◌, ◌++◌, length, Option, Some, None, is_some, Result, Ok, Err, OnOk, IsErrOf, refl, sym, ◌∙◌, ap, subst, arith}
use Rattle.voice_outside.specs.Disk.{Told}
use Rattle.voice_model.specs.Samples.{Tagged}
use Rattle.voice_model.specs.State.{Durable, Effect}
use Rattle.voice_model.specs.Changes.{changed}
use Rattle.voice_model.specs.Spelling.{spelling, keeps_grammar}
use Rattle.voice_model.specs.Replay.{Rebuilt, acted, brings, is_legal, recovered}
use Rattle.voice_model.specs.declared.changes.Change.{Change}
use Rattle.voice_model.proofs.ReadAgain.{spelled_is_read}
use Rattle.voice_journal.specs.Places.{JournalValue}
use Rattle.voice_journal.specs.Readings.{with_payload, switched}
use Rattle.voice_journal.specs.declared.errors.Fault.{Fault}
use Rattle.voice_journal.specs.declared.errors.Fault.TheVariants.{Before, Doubt}
use Rattle.recovery.specs.declared.parts.Parts.{Parts}
use Rattle.recovery.specs.Shown.{Rebuilds}
use Rattle.recovery.proofs.Rebuilding.{acted_shape}
use Rattle.crash_laws.proofs.Commits.{acted_form}
use Rattle.crash_laws.specs.Standing.{IsHonest, IsLater}
use Rattle.crash_laws.specs.Calls.{Does, Undoes, Doubts, StaysWithin}
use Rattle.mirror_readings.specs.Laws.{numbered_payload}
use Rattle.mirror_laws.specs.Standing.{Took, taken_at, kept_after, effects_of, IsSound}
use Rattle.mirror_laws.specs.Calls.{IsChange, IsBase}
use Rattle.mirror_laws.specs.Foundations.{MirrorFoundations}
use Rattle.mirror_laws.specs.Laws.{IsReadBack}
use Rattle.mirror_laws.proofs.Histories.{length_push}
use Rattle.mirror_laws.proofs.Commits.{appends_carry, switches_carry}
use Rattle.mirror_laws.proofs.Changing.{failures_carry}
use Rattle.mirror_laws.proofs.Opened.{standing_gives}
use Rattle.mirror_tables.specs.Numbered.{numbered_base_of}
use Rattle.voice_mirror.specs.declared.answers.Taken.{Taken}
use Rattle.voice_mirror.specs.declared.answers.Taken.TheVariants.{Done, DiskFault, InDoubt}
use Rattle.voice_mirror.specs.declared.inside.Pending.{Pending}
use Rattle.voice_mirror.specs.declared.ready.How.{How}
use Rattle.voice_mirror.specs.declared.ready.How.TheVariants.{Append, Switch}
use Rattle.voice_mirror.specs.Shown.{MirrorState, Keeps, ShowsNext}
use Rattle.voice_mirror.specs.Ready.{IsHow, Commits, put_on}
use Rattle.voice_mirror.proofs.ReadBack.{read_back}

-- what is rebuilt has the shape of the journal
pub shape_of : MirrorFoundations → (disk : Told) → IsHonest disk → (first : Durable Tagged) (from t0 : ℕ) (taken : List Took) (s : MirrorState) (k : Keeps first from t0 taken None disk s) → k.now.shape ≡ s.journal.shape
shape_of laws disk honest first from t0 taken s k = ((standing_gives laws disk).now first from t0 s.journal k.now k.next taken None honest k.held).in_shape

-- ---- what it leaves on an honest disk

module _ (laws : MirrorFoundations) (old new : Told) (is : IsLater old new) (first : Durable Tagged) (from t0 : ℕ) (taken : List Took) (s : MirrorState) (k : Keeps first from t0 taken None old s)
    (effect : Effect Tagged) (tables : Parts) (change : Change) (number : ℕ) (low : s.position < 2 ^ 48) (next : number ≡ s.position + 1) (kind : is_some (brings change) ≡ true) (grammar : keeps_grammar change ≡ true)
    (does : recovered old.bytes (acted k.now change) ≡ changed 2 (kept_after first (effects_of taken)) effect) (journal' : JournalValue) where
  abbrev b : Rebuilt
  b = k.now

  abbrev x : Rebuilt
  x = acted (b) change

  abbrev d : Durable Tagged
  d = kept_after first (effects_of taken)

  abbrev sound : IsSound s.journal old.bytes (b) (d)
  sound = (standing_gives laws old).now first from t0 s.journal (b) k.next taken None is.was k.held

  abbrev n : ℕ
  n = from + length taken

  number_is : number ≡ (n) + 1
  number_is = let at = k.position in omega (arith, next, at)

  below : (n) < 2 ^ 48
  below = let at = k.position in omega (arith, low, at)

  abbrev longer : List Took
  longer = taken ++ taken_at effect new.calls ∷ []

  after_position : s.position + 1 ≡ from + length (longer)
  after_position = let more = length_push taken (taken_at effect new.calls) in let at = k.position in omega (arith, more, at)

  -- ---- an append

  module _ (payload : List ℕ) (ready_legal : is_legal (b) change ≡ true) (shows : Rebuilds tables (x)) (spelled : payload ≡ numbered_payload number (spelling change)) where
    is_change : IsChange old.bytes (d) effect (b) (spelling change) change
    is_change = record { spelled = spelled_is_read change grammar; brings_it = kind; legal = ready_legal; does = does }

    spelled_next : payload ≡ numbered_payload ((n) + 1) (spelling change)
    spelled_next = spelled ∙ ap (λ (m : ℕ). numbered_payload m (spelling change)) number_is

    pub appended : Does (λ r. with_payload r payload) s.journal journal' old new → StaysWithin (λ r. with_payload r payload) s.journal old new
        → Keeps first from t0 (longer) None new (record { journal = journal'; parts = tables; position = s.position + 1; pending = None })
    appended done stays = record {
      now = x;
      next = x;
      held = (appends_carry laws old new).ok first from t0 s.journal journal' (b) k.next taken effect (spelling change) change is k.held below is_change
          (subst (λ (p : List ℕ). Does (λ r. with_payload r p) s.journal journal' old new) spelled_next done) (subst (λ (p : List ℕ). StaysWithin (λ r. with_payload r p) s.journal old new) spelled_next stays);
      shows = shows;
      shows_next = tt;
      position = after_position;
    }

    pub append_doubted : Doubts (λ r. with_payload r payload) s.journal journal' old new → StaysWithin (λ r. with_payload r payload) s.journal old new
        → Keeps first from t0 taken (Some effect) new (record { journal = journal'; parts = s.parts; position = s.position; pending = Some (record { tables = tables; change = change }) })
    append_doubted doubts stays = record {
      now = b;
      next = x;
      held = (appends_carry laws old new).doubt first from t0 s.journal journal' (b) k.next taken effect (spelling change) change is k.held below is_change
          (subst (λ (p : List ℕ). Doubts (λ r. with_payload r p) s.journal journal' old new) spelled_next doubts) (subst (λ (p : List ℕ). StaysWithin (λ r. with_payload r p) s.journal old new) spelled_next stays);
      shows = k.shows;
      shows_next = shows;
      position = k.position;
    }

  -- ---- a switch

  module _ (base : List (List ℕ)) (shows : Rebuilds tables (x)) (spelled : base ≡ numbered_base_of number (x)) where
    shape_then : (x).shape ≡ (b).shape
    shape_then = acted_shape (b) change

    form_of : (x).form ≡ 2
    form_of = acted_form (b) change kind ∙ (sound).form

    is_base : IsBase old.bytes (d) effect (b) ((n) + 1) base (x)
    is_base = record {
      spelled = spelled ∙ ap (λ (m : ℕ). numbered_base_of m (x)) number_is;
      valid = shows.valid;
      placed = shows.placed;
      used = shows.used;
      can = inl refl;
      in_shape = shape_then;
      does = does;
    }

    reads_back : (end : Rebuilt) → IsReadBack ((n) + 1) (x) end → (journal : JournalValue) (bytes : List ℕ) (kept : Durable Tagged) → IsSound journal bytes end kept → Rebuilds tables end
    reads_back end back journal bytes kept is_sound = read_back tables (x) end shows back.kept back.places (back.form ∙ sym form_of) is_sound.valid is_sound.placed is_sound.used

    pub turned : Does (λ r. switched r base) s.journal journal' old new → StaysWithin (λ r. switched r base) s.journal old new
        → Keeps first from t0 (longer) None new (record { journal = journal'; parts = tables; position = s.position + 1; pending = None })
    turned done stays =
        let got = (switches_carry laws old new).ok first from t0 s.journal journal' (b) k.next taken effect base (x) is k.held below is_base done stays in
        let is_sound = (standing_gives laws new).now first from t0 journal' got.0 got.0 (longer) None is.is got.2 in
        record {
          now = got.0;
          next = got.0;
          held = got.2;
          shows = reads_back got.0 got.1 journal' new.bytes _ is_sound;
          shows_next = tt;
          position = after_position;
        }

    pub turn_doubted : Doubts (λ r. switched r base) s.journal journal' old new → StaysWithin (λ r. switched r base) s.journal old new
        → Keeps first from t0 taken (Some effect) new (record { journal = journal'; parts = s.parts; position = s.position; pending = Some (record { tables = tables; change = change }) })
    turn_doubted doubts stays =
        let got = (switches_carry laws old new).doubt first from t0 s.journal journal' (b) k.next taken effect base (x) is k.held below is_base doubts stays in
        let is_sound = (standing_gives laws new).landing first from t0 journal' (b) got.0 taken effect is.is got.2 in
        record {
          now = b;
          next = got.0;
          held = got.2;
          shows = k.shows;
          shows_next = reads_back got.0 got.1 journal' new.bytes _ is_sound;
          position = k.position;
        }

  -- ---- a fault before it counted

  pub undone : Undoes s.journal journal' old new → Keeps first from t0 taken None new (record { journal = journal'; parts = s.parts; position = s.position; pending = s.pending })
  undone undoes = record {
    now = b;
    next = b;
    held = (failures_carry laws old new).before first from t0 s.journal journal' (b) k.next taken is k.held undoes;
    shows = k.shows;
    shows_next = shows_next_of s.pending k.shows_next;
    position = k.position;
  }
    where
      shows_next_of : (o : Option Pending) → ShowsNext o None k.next → ShowsNext o None (b)
      shows_next_of None h = tt
      shows_next_of (Some p) h = h

  -- ---- by how it was put, and how that went

  abbrev as_done : MirrorState
  as_done = record { journal = journal'; parts = tables; position = s.position + 1; pending = s.pending }

  abbrev with_pending : Option Pending → MirrorState
  with_pending o = record { journal = journal'; parts = tables; position = s.position + 1; pending = o }

  abbrev as_doubted : MirrorState
  as_doubted = record { journal = journal'; parts = s.parts; position = s.position; pending = Some (record { tables = tables; change = change }) }

  abbrev as_undone : MirrorState
  as_undone = record { journal = journal'; parts = s.parts; position = s.position; pending = s.pending }

  module _ (sure : s.pending ≡ None) (legal : is_legal (b) change ≡ true) (shows : Rebuilds tables (x)) where
    done_by : (how : How) → IsHow s.journal number (x) change how → Does (put_on how) s.journal journal' old new → StaysWithin (put_on how) s.journal old new → Keeps first from t0 (longer) None new (with_pending None)
    done_by (Append payload) h done stays = appended payload.items legal shows h.0 done stays
    done_by (Switch base) h done stays = turned base shows h.0 done stays

    doubted_by : (how : How) → IsHow s.journal number (x) change how → Doubts (put_on how) s.journal journal' old new → StaysWithin (put_on how) s.journal old new → Keeps first from t0 taken (Some effect) new (as_doubted)
    doubted_by (Append payload) h doubts stays = append_doubted payload.items legal shows h.0 doubts stays
    doubted_by (Switch base) h doubts stays = turn_doubted base shows h.0 doubts stays

    pub commits : {T : Type 0} (how : How) → IsHow s.journal number (x) change how → StaysWithin (put_on how) s.journal old new → (put : Result T Fault)
        → OnOk put (Does (put_on how) s.journal journal' old new) → (IsErrOf put Before → Undoes s.journal journal' old new) → (IsErrOf put Doubt → Doubts (put_on how) s.journal journal' old new)
        → (answer : Taken) (t : MirrorState) → OnOk put ((answer ≡ Done) × (t ≡ as_done)) → (IsErrOf put Before → (answer ≡ DiskFault) × (t ≡ as_undone)) → (IsErrOf put Doubt → (answer ≡ InDoubt) × (t ≡ as_doubted))
        → Commits first from t0 taken new t effect answer
    commits how h stays (Ok u) does undoes doubts answer t ok before doubt =
        subst (λ (a : Taken). Commits first from t0 taken new t effect a) (sym ok.0) (subst (λ (m : MirrorState). Keeps first from t0 (longer) None new m) (sym (ok.1 ∙ ap with_pending sure)) (done_by how h does stays))
    commits how h stays (Err Before) does undoes doubts answer t ok before doubt =
        let is_before = before refl in
        subst (λ (a : Taken). Commits first from t0 taken new t effect a) (sym is_before.0) (subst (λ (m : MirrorState). Keeps first from t0 taken None new m) (sym is_before.1) (undone (undoes refl)))
    commits how h stays (Err Doubt) does undoes doubts answer t ok before doubt =
        let in_doubt = doubt refl in
        subst (λ (a : Taken). Commits first from t0 taken new t effect a) (sym in_doubt.0) (subst (λ (m : MirrorState). Keeps first from t0 taken (Some effect) new m) (sym in_doubt.1) (doubted_by how h (doubts refl) stays))
