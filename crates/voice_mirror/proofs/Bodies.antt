-- A body whose change is put.
use Rattle.std.proofs.Common.{◌≡◌, ℕ, ◌+◌, ◌<◌, ◌≤◌, ◌^◌, Bool, true, false, List, [], ◌∷◌, length, Some, None, refl, sym, ◌∙◌, ap, subst, arith}
use Rattle.std.specs.Prelude.{◌&&◌, nat_lt, nat_le}
use Rattle.std.proofs.lemmas.Bool.{ltb-true, lt-ltb, le-leb}
use Rattle.voice_model.specs.declared.changes.Change.TheVariants as changes
use Rattle.std.specs.List.{list_all}
use Rattle.voice_outside.specs.Disk.{Told}
use Rattle.voice_units.specs.declared.shapes.Shape.{Shape}
use Rattle.voice_model.specs.Samples.{Tagged}
use Rattle.voice_model.specs.State.{Durable, Effect}
use Rattle.voice_model.specs.Changes.{changed}
use Rattle.voice_model.specs.Replay.{Rebuilt, is_legal, acted, recovered, is_free_address}
use Rattle.voice_model.specs.Spelling.{spelling, keeps_grammar, change_in, Spells, is_id, fits}
use Rattle.voice_model.proofs.ReadAgain.{spelled_is_read}
use Rattle.voice_model.specs.Places.{AllUsed}
use Rattle.voice_model.specs.declared.changes.Change.{Change}
use Rattle.recording_writer.specs.Wrote.{WroteAt, AreBelow}
use Rattle.crash_laws.specs.Standing.{IsHonest, IsLater}
use Rattle.crash_laws.specs.Calls.{SparesWithin}
use Rattle.crash_laws.proofs.Spared.{below_at, free_at, spares_within}
use Rattle.mirror_packets.specs.Packets.{Body, IsGoodBody}
use Rattle.mirror_laws.specs.Standing.{Took, kept_after, effects_of, IsSound}
use Rattle.mirror_laws.specs.Foundations.{MirrorFoundations}
use Rattle.mirror_laws.proofs.Opened.{standing_gives}
use Rattle.mirror_laws.proofs.Quiet.{writes_carry}
use Rattle.mirror_effects.specs.Effects.{IsBrought, change_for, is_strange, GetsFree, HasSamples}
use Rattle.mirror_effects.specs.Laws.{BodiesDo}
use Rattle.voice_mirror.specs.declared.answers.Taken.{Taken}
use Rattle.voice_mirror.specs.declared.answers.Taken.TheVariants.{Done, Again, Early, Strange, NoRoom, JournalFull, DiskFault, InDoubt}
use Rattle.voice_mirror.specs.Shown.{MirrorState, Keeps}
use Rattle.voice_mirror.specs.Taking.{IsNext, Takes}
use Rattle.voice_mirror.specs.Ready.{Commits}

-- a change that was put is a body's
pub takes_of : (first : Durable Tagged) (from t0 : ℕ) (taken : List Took) (disk : Told) (t : MirrorState) (number : ℕ) (body : Body) (effect : Effect Tagged) → IsNext (kept_after first (effects_of taken)) (from + length taken) number body effect
    → (answer : Taken) → Commits first from t0 taken disk t effect answer → Takes first from t0 taken disk t number body answer
takes_of first from t0 taken disk t number body effect next Done h = (effect, next, h)
takes_of first from t0 taken disk t number body effect next InDoubt h = (effect, next, h)
takes_of first from t0 taken disk t number body effect next DiskFault h = h
takes_of first from t0 taken disk t number body effect next Again h = h
takes_of first from t0 taken disk t number body effect next (Early position) h = h
takes_of first from t0 taken disk t number body effect next Strange h = h
takes_of first from t0 taken disk t number body effect next (NoRoom need free) h = h
takes_of first from t0 taken disk t number body effect next (JournalFull need left) h = h

module _ (laws : MirrorFoundations) (disk : Told) (honest : IsHonest disk) (first : Durable Tagged) (from t0 : ℕ) (taken : List Took) (s : MirrorState) (k : Keeps first from t0 taken None disk s) where
  -- what is rebuilt is sound
  pub sound : IsSound s.journal disk.bytes k.now (kept_after first (effects_of taken))
  sound = (standing_gives laws disk).now first from t0 s.journal k.now k.next taken None honest k.held

  module _ (bodies : BodiesDo) (number : ℕ) (at : number ≡ s.position + 1) (addresses : List ℕ) (body : Body) (good : IsGoodBody body) (change : Change) (is : change ≡ change_for addresses body)
      (legal : is_legal k.now change ≡ true) (free : GetsFree k.now addresses body) (has : HasSamples disk.bytes k.now addresses body) where
    abbrev got : (effect : Effect Tagged) × IsBrought disk.bytes k.now body effect
    got = bodies.brought disk.bytes k.now body good

    abbrev pub brings_effect : Effect Tagged
    brings_effect = (got).0

    not_strange : is_strange k.now body ≡ false
    not_strange = bodies.not_strange k.now addresses body (subst (λ (c : Change). is_legal k.now c ≡ true) is legal)

    pub does_effect : recovered disk.bytes (acted k.now change) ≡ changed 2 (kept_after first (effects_of taken)) (brings_effect)
    does_effect =
        ap (λ (c : Change). recovered disk.bytes (acted k.now c)) is
        ∙ bodies.does disk.bytes k.now addresses body (brings_effect) sound.placed sound.form good not_strange free has (got).1
        ∙ ap (λ (d : Durable Tagged). changed 2 d (brings_effect)) sound.fills

    is_next : IsNext (kept_after first (effects_of taken)) (from + length taken) number body (brings_effect)
    is_next = record {
      next = let position = k.position in omega (arith, at, position);
      brings = record { image = disk.bytes; rebuilt = k.now; form = sound.form; fills = sound.fills; brought = (got).1 };
    }

    pub body_takes : (new : Told) (t : MirrorState) (answer : Taken)
        → ((effect : Effect Tagged) → recovered disk.bytes (acted k.now change) ≡ changed 2 (kept_after first (effects_of taken)) effect → Commits first from t0 taken new t effect answer)
        → Takes first from t0 taken new t number body answer
    body_takes new t answer commits = takes_of first from t0 taken new t number body (brings_effect) is_next answer (commits (brings_effect) does_effect)

-- writes into free blocks leave what the disk stands for
module _ (laws : MirrorFoundations) (old new : Told) (is : IsLater old new) (first : Durable Tagged) (from t0 : ℕ) (taken : List Took) (s : MirrorState) (k : Keeps first from t0 taken None old s) (spares : SparesWithin s.journal.shape k.now old new) where
  abbrev pub keeps_spared : Keeps first from t0 taken None new s
  keeps_spared = record {
    now = k.now;
    next = k.next;
    held = (writes_carry laws old new).spared first from t0 s.journal k.now k.next taken None is k.held spares (λ e. cc);
    shows = k.shows;
    shows_next = k.shows_next;
    position = k.position;
  }

-- ---- the write of a voice file

module _ (shape : Shape) (b : Rebuilt) (here : b.shape ≡ shape) (addresses : List ℕ) (free : list_all (is_free_address b) addresses ≡ true) where
  pub below_in : AreBelow shape.blocks addresses
  below_in = subst (λ (x : Shape). AreBelow x.blocks addresses) here (below_at b addresses free)

  pub spares_in : (old new : Told) → AllUsed b → WroteAt shape addresses old new → SparesWithin shape b old new
  spares_in old new used wrote =
      subst (λ (x : Shape). SparesWithin x b old new) here
      (spares_within b addresses (below_at b addresses free) (free_at b addresses free used) old new (subst (λ (x : Shape). WroteAt x addresses old new) (sym here) wrote))

-- ---- a change that is copied by way of its bytes

some_same : (x y : Change) → Some x ≡ Some y → x ≡ y
some_same x y e = cc

pub copied_is : (bytes : List ℕ) (change copy : Change) → keeps_grammar change ≡ true → bytes ≡ spelling change → Spells bytes copy → copy ≡ change
copied_is bytes change copy grammar is spells =
    some_same copy change (sym (spelled_is_read copy spells.grammar) ∙ ap (λ (b : List ℕ). change_in b) (sym spells.bytes_of ∙ is) ∙ spelled_is_read change grammar)

-- ---- the change that keeps a voice file

join : (a b : Bool) → a ≡ true → b ≡ true → (a && b) ≡ true
join a b h k = ap (λ (x : Bool). x && b) h ∙ k

both : (a b : Bool) → (a && b) ≡ true → (a ≡ true) × (b ≡ true)
both true b h = (refl, h)
both false b h = cc

-- free addresses are below the number of blocks
pub below_by : (b : Rebuilt) (blocks : ℕ) (addresses : List ℕ) → b.shape.blocks ≡ blocks → list_all (is_free_address b) addresses ≡ true → list_all (λ a. nat_lt a blocks) addresses ≡ true
below_by b blocks [] same h = refl
below_by b blocks (a ∷ rest) same h =
    let parts = both (is_free_address b a) (list_all (is_free_address b) rest) h in
    let first = both (nat_lt a b.shape.blocks) _ parts.0 in
    join (nat_lt a blocks) (list_all (λ a. nat_lt a blocks) rest) (ap (λ (n : ℕ). nat_lt a n) (sym same) ∙ first.0) (below_by b blocks rest same parts.1)

fit_4 : (blocks : ℕ) (addresses : List ℕ) → blocks < 2 ^ 32 → list_all (λ a. nat_lt a blocks) addresses ≡ true → list_all (fits 4) addresses ≡ true
fit_4 blocks [] low h = refl
fit_4 blocks (a ∷ rest) low h =
    let parts = both (nat_lt a blocks) (list_all (λ a. nat_lt a blocks) rest) h in
    let less = ltb-true a blocks parts.0 in
    let four : a < 256 ^ 4 = omega (arith, less, low) in
    join (fits 4 a) (list_all (fits 4) rest) (lt-ltb a (256 ^ 4) four) (fit_4 blocks rest low parts.1)

pub wide_grammar : (id len n blocks : ℕ) (addresses : List ℕ) → is_id id ≡ true → len ≤ 2 ^ 30 → length addresses ≡ n → n < 2 ^ 32 → blocks < 2 ^ 32 → list_all (λ a. nat_lt a blocks) addresses ≡ true → keeps_grammar (changes.Wide id len addresses) ≡ true
wide_grammar id len n blocks addresses good long count few low below =
    let four : length addresses < 256 ^ 4 = omega (arith, count, few) in
    join (is_id id && nat_le len (2 ^ 30) && fits 4 (length addresses)) (list_all (fits 4) addresses)
    (join (is_id id && nat_le len (2 ^ 30)) (fits 4 (length addresses)) (join (is_id id) (nat_le len (2 ^ 30)) good (le-leb len (2 ^ 30) long)) (lt-ltb (length addresses) (256 ^ 4) four))
    (fit_4 blocks addresses low below)
