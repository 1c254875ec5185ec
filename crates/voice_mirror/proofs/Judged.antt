-- What is found of a body before anything is written.
use Rattle.std.proofs.Common.{◌≡◌, ℕ, ◌+◌, ◌<◌, ◌≤◌, Bool, true, false, cond, List, length, Option, Some, None, refl, sym, ◌∙◌, ap, ap₂, subst, arith, length-append}
use Rattle.std.specs.Prelude.{nat_lt}
use Rattle.std.proofs.lemmas.Bool.{ltb-true, lt-ltb}
use Rattle.voice_units.specs.Blocks.{blocks_for}
use Rattle.voice_units.specs.Spots.{Spot}
use Rattle.voice_blocks.specs.Holders.{open_in}
use Rattle.disk_areas.specs.Numbers.{number_bytes}
use Rattle.voice_model.specs.State.{Durable}
use Rattle.voice_model.specs.Spelling.{spelling, recorded_bytes}
use Rattle.voice_model.specs.Replay.{Rebuilt, is_legal, acted, durable_by}
use Rattle.voice_model.specs.declared.changes.Change.{Change}
use Rattle.voice_model.specs.declared.changes.Change.TheVariants as changes
use Rattle.change_codec.proofs.Sizes.{recorded_length}
use Rattle.recovery.specs.Shown.{plain_sample}
use Rattle.checkpoint.specs.Size.{numbers_in}
use Rattle.mirror_packets.specs.Packets.{Body, IsGoodBody}
use Rattle.mirror_tables.specs.Numbered.{numbered_by_numbers}
use Rattle.mirror_effects.specs.Effects.{change_for, is_strange, GetsFree}
use Rattle.mirror_effects.specs.Laws.{BodiesDo}
use Rattle.voice_mirror.specs.declared.answers.Taken.{Taken}
use Rattle.voice_mirror.specs.declared.answers.Taken.TheVariants.{Strange, NoRoom, JournalFull}
use Rattle.voice_mirror.specs.declared.ready.Readied.TheVariants as readied
use Rattle.voice_mirror.specs.Shown.{MirrorState}
use Rattle.voice_mirror.specs.Taking.{body_judged, kept_then, if_room, if_full, need_of, left_of, size_then, frame_of, AnswersBy}
use Rattle.voice_mirror.specs.Ready.{IsReadied, IsPut, size_of, frame_size}

-- ---- tests

pub not_less : (m n : ℕ) → n ≤ m → nat_lt m n ≡ false
not_less m n le = by (nat_lt m n) refl
  where
    by : (t : Bool) → nat_lt m n ≡ t → nat_lt m n ≡ false
    by true e = absurd (let less = ltb-true m n e in omega (arith, le, less))
    by false e = e

pub full_at : (need left : ℕ) → left < need → if_full need left ≡ Some (JournalFull need left)
full_at need left less = ap (λ (t : Bool). cond t (Some (JournalFull need left)) None) (lt-ltb left need less)

pub not_full_at : (need left : ℕ) → need ≤ left → if_full need left ≡ None
not_full_at need left le = ap (λ (t : Bool). cond t (Some (JournalFull need left)) None) (not_less left need le)

-- a voice file's blocks are free
abbrev pub HasRoom : ℕ → ℕ → Body → Type 0
HasRoom block free (Body.Voice id samples) = blocks_for block (length samples) ≤ free
HasRoom block free (Body.Other change) = Unit {0}

room_passes : (block free : ℕ) (body : Body) (later : Option Taken) → HasRoom block free body → if_room block free body later ≡ later
room_passes block free (Body.Voice id samples) later room = ap (λ (t : Bool). cond t (Some (NoRoom (blocks_for block (length samples)) free)) later) (not_less free (blocks_for block (length samples)) room)
room_passes block free (Body.Other change) later room = refl

answers_by : (o p : Option Taken) (answer : Taken) → o ≡ p → AnswersBy p answer → AnswersBy o answer
answers_by o p answer is h = subst (λ (x : Option Taken). AnswersBy x answer) (sym is) h

-- ---- sizes

no_change : {P : Type 0} → false ≡ true → P
no_change e = cc

-- what is kept once the change of a body is done, whatever addresses it gets
pub kept_is : (b : Rebuilt) (addresses : List ℕ) (body : Body) → IsGoodBody body → b.form ≡ 2 → (acted b (change_for addresses body)).kept ≡ kept_then b body
kept_is b addresses (Body.Voice id samples) good form = refl
kept_is b addresses (Body.Other (changes.Recorded id len others)) good form = no_change good.0
kept_is b addresses (Body.Other (changes.Edited id pieces)) good form = refl
kept_is b addresses (Body.Other (changes.Retained class key id note)) good form = refl
kept_is b addresses (Body.Other (changes.Forgotten class key)) good form = ap (λ (n : ℕ). kept_by_form n) form
  where
    kept_by_form : ℕ → Durable Spot
    kept_by_form n = (acted (record b { form = n }) (changes.Forgotten class key)).kept
kept_is b addresses (Body.Other (changes.Census keys)) good form = ap (λ (n : ℕ). kept_by_form n) form
  where
    kept_by_form : ℕ → Durable Spot
    kept_by_form n = (acted (record b { form = n }) (changes.Census keys)).kept
kept_is b addresses (Body.Other (changes.Swept ids)) good form = ap (λ (n : ℕ). kept_by_form n) form
  where
    kept_by_form : ℕ → Durable Spot
    kept_by_form n = (acted (record b { form = n }) (changes.Swept ids)).kept
kept_is b addresses (Body.Other (changes.Advanced moment)) good form = refl
kept_is b addresses (Body.Other (changes.Base now next)) good form = no_change good.0
kept_is b addresses (Body.Other (changes.File file pairs)) good form = no_change good.0
kept_is b addresses (Body.Other (changes.Rope id idle pieces)) good form = no_change good.0
kept_is b addresses (Body.Other (changes.Wide id len others)) good form = no_change good.0
kept_is b addresses (Body.Other (changes.Base2 now next)) good form = no_change good.0
kept_is b addresses (Body.Other (changes.File2 file pairs)) good form = no_change good.0
kept_is b addresses (Body.Other (changes.Rope2 id idle last pieces)) good form = no_change good.0

pub size_is : (b : Rebuilt) (addresses : List ℕ) (body : Body) → IsGoodBody body → b.form ≡ 2 → size_of (acted b (change_for addresses body)) ≡ size_then b body
size_is b addresses body good form = ap (λ (d : Durable Spot). numbered_by_numbers (numbers_in (durable_by plain_sample d))) (kept_is b addresses body good form)

-- a voice file has so many addresses
abbrev pub AreCounted : ℕ → List ℕ → Body → Type 0
AreCounted block addresses (Body.Voice id samples) = length addresses ≡ blocks_for block (length samples)
AreCounted block addresses (Body.Other change) = Unit {0}

pub frame_is : (block : ℕ) (addresses : List ℕ) (body : Body) → AreCounted block addresses body → frame_size (change_for addresses body) ≡ frame_of block body
frame_is block addresses (Body.Voice id samples) count =
    let long : length (spelling (changes.Wide id (length samples) addresses)) ≡ 1 + length (recorded_bytes 4 id (length samples) addresses) = length-append (number_bytes 1 11) (recorded_bytes 4 id (length samples) addresses) in
    let rest = recorded_length 4 id (length samples) addresses in
    omega (arith, long, rest, count)
frame_is block addresses (Body.Other change) count = refl

-- ---- what is found

module _ (b : Rebuilt) (s : MirrorState) (body : Body) where
  abbrev later : Option Taken
  later = if_full (need_of s.journal (size_then b body) (frame_of s.journal.shape.block body)) (left_of s.journal)

  abbrev behind : Option Taken
  behind = if_room s.journal.shape.block (open_in s.parts.blocks.holders) body (later)

  by_strange : (t : Bool) → is_strange b body ≡ t → body_judged b s body ≡ cond t (Some Strange) (behind)
  by_strange t is = ap (λ (x : Bool). cond x (Some Strange) (behind)) is

  pub strange_found : is_strange b body ≡ true → AnswersBy (body_judged b s body) Strange
  strange_found is = answers_by (body_judged b s body) (Some Strange) Strange (by_strange true is) refl

  pub room_found : is_strange b body ≡ false → HasRoom s.journal.shape.block (open_in s.parts.blocks.holders) body → body_judged b s body ≡ later
  room_found is room = by_strange false is ∙ room_passes s.journal.shape.block (open_in s.parts.blocks.holders) body (later) room

  pub full_found : (need left : ℕ) → is_strange b body ≡ false → HasRoom s.journal.shape.block (open_in s.parts.blocks.holders) body
      → need ≡ need_of s.journal (size_then b body) (frame_of s.journal.shape.block body) → left ≡ left_of s.journal → left < need → AnswersBy (body_judged b s body) (JournalFull need left)
  full_found need left is room need_is left_is less =
      answers_by (body_judged b s body) (Some (JournalFull need left)) (JournalFull need left)
      (room_found is room ∙ ap₂ (λ m n. if_full m n) (sym need_is) (sym left_is) ∙ full_at need left less) refl

  pub put_found : (answer : Taken) → is_strange b body ≡ false → HasRoom s.journal.shape.block (open_in s.parts.blocks.holders) body
      → need_of s.journal (size_then b body) (frame_of s.journal.shape.block body) ≤ left_of s.journal → IsPut answer → AnswersBy (body_judged b s body) answer
  put_found answer is room fits put = answers_by (body_judged b s body) None answer (room_found is room ∙ not_full_at _ _ fits) put

-- a voice file for which there are too few free blocks
pub no_room_found : (b : Rebuilt) (s : MirrorState) (id : ℕ) (samples : List ℕ) (need free : ℕ) → is_strange b (Body.Voice id samples) ≡ false
    → need ≡ blocks_for s.journal.shape.block (length samples) → free ≡ open_in s.parts.blocks.holders → free < need → AnswersBy (body_judged b s (Body.Voice id samples)) (NoRoom need free)
no_room_found b s id samples need free is need_is free_is less =
    let body = Body.Voice id samples in
    let rest : Option Taken = if_full (need_of s.journal (size_then b body) (frame_of s.journal.shape.block body)) (left_of s.journal) in
    answers_by (body_judged b s body) (Some (NoRoom need free)) (NoRoom need free)
    (ap (λ (x : Bool). cond x (Some Strange) (if_room s.journal.shape.block (open_in s.parts.blocks.holders) body rest)) is
    ∙ ap₂ (λ m n. cond (nat_lt n m) (Some (NoRoom m n)) rest) (sym need_is) (sym free_is)
    ∙ ap (λ (t : Bool). cond t (Some (NoRoom need free)) rest) (lt-ltb free need less)) refl

-- ---- what came of making the change ready

module _ (laws : BodiesDo) (b : Rebuilt) (s : MirrorState) (number : ℕ) (addresses : List ℕ) (body : Body) (good : IsGoodBody body) (form : b.form ≡ 2) (same : b.shape ≡ s.journal.shape)
    (free : GetsFree b addresses body) (counted : AreCounted s.journal.shape.block addresses body) (room : HasRoom s.journal.shape.block (open_in s.parts.blocks.holders) body) where
  abbrev c : Change
  c = change_for addresses body

  need_is : need_of s.journal (size_of (acted b (c))) (frame_size (c)) ≡ need_of s.journal (size_then b body) (frame_of s.journal.shape.block body)
  need_is = ap₂ (λ m n. need_of s.journal m n) (size_is b addresses body good form) (frame_is s.journal.shape.block addresses body counted)

  not_legal : is_legal b (c) ≡ false → is_strange b body ≡ true
  not_legal refused = by (is_strange b body) refl
    where
      by : (t : Bool) → is_strange b body ≡ t → is_strange b body ≡ true
      by true e = e
      by false e = no_change (sym refused ∙ laws.legal b addresses body form e free)

  pub readied_strange : IsReadied s.journal number (c) b readied.Strange → AnswersBy (body_judged b s body) Strange
  readied_strange refused = strange_found b s body (not_legal refused)

  pub readied_full : (need left : ℕ) → IsReadied s.journal number (c) b (readied.Full need left) → AnswersBy (body_judged b s body) (JournalFull need left)
  readied_full need left h = full_found b s body need left (laws.not_strange b addresses body h.0) room (h.1.need_is ∙ need_is) h.1.left_is h.1.more

  pub readied_put : (answer : Taken) → is_legal b (c) ≡ true → need_of s.journal (size_of (acted b (c))) (frame_size (c)) ≤ left_of s.journal → IsPut answer → AnswersBy (body_judged b s body) answer
  readied_put answer legal fits put = put_found b s body answer (laws.not_strange b addresses body legal) room (subst (λ (n : ℕ). n ≤ left_of s.journal) need_is fits) put
