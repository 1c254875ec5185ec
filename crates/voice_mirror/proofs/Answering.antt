-- The answer to a body, by what came of making its change ready.
use Rattle.std.proofs.Common.{◌≡◌, ℕ, ◌+◌, ◌<◌, ◌≤◌, ◌^◌, Bool, true, false, not, cond, List, length, Some, None, refl, sym, ◌∙◌, ap, subst, arith}
use Rattle.std.specs.Prelude.{nat_le, nat_lt, is_some}
use Rattle.std.proofs.lemmas.Bool.{leb-true, le-leb, lt-ltb}
use Rattle.voice_units.specs.declared.shapes.Shape.{Shape}
use Rattle.voice_units.specs.Blocks.{blocks_for}
use Rattle.voice_blocks.specs.Holders.{open_in}
use Rattle.voice_model.specs.Replay.{Rebuilt, brings, is_legal}
use Rattle.voice_model.specs.declared.changes.Change.{Change}
use Rattle.recovery.specs.Shown.{Rebuilds}
use Rattle.mirror_packets.specs.Packets.{Body, Packet, IsGoodBody}
use Rattle.voice_model.specs.Spelling.{keeps_grammar}
use Rattle.mirror_tables.specs.Beside.{IsBeside, AreFree}
use Rattle.mirror_tables.specs.declared.beside.Beside.{Beside}
use Rattle.mirror_effects.specs.Effects.{change_for, GetsFree}
use Rattle.mirror_effects.specs.Laws.{BodiesDo}
use Rattle.voice_mirror.specs.declared.answers.Taken.{Taken}
use Rattle.voice_mirror.specs.declared.answers.Taken.TheVariants.{Again, Early, Strange, NoRoom, JournalFull}
use Rattle.voice_mirror.specs.declared.inside.Inside.{Inside}
use Rattle.voice_mirror.specs.declared.ready.Ready.{Ready}
use Rattle.voice_mirror.specs.declared.ready.Readied.{Readied}
use Rattle.voice_mirror.specs.declared.ready.Readied.TheVariants as readied
use Rattle.voice_mirror.specs.Shown.{MirrorState, IsUpright, IsStanding}
use Rattle.voice_mirror.specs.Taking.{Becomes, AnswersBody, Answers, AnswersBy, body_judged, judged}
use Rattle.voice_mirror.specs.Ready.{EachReadied, IsReadied, IsReady, IsPut, MayCommit}
use Rattle.voice_mirror.proofs.Judged.{HasRoom, AreCounted, readied_strange, readied_full, readied_put, strange_found, no_room_found, not_less}

-- a number above another is not at most it
above : (m n : ℕ) → m < n → nat_le n m ≡ false
above m n less = by (nat_le n m) refl
  where
    by : (t : Bool) → nat_le n m ≡ t → nat_le n m ≡ false
    by true e = absurd (let le = leb-true n m e in omega (arith, le, less))
    by false e = e

abbrev pub with_beside : Beside → Inside → Inside
with_beside beside s = record s { beside = beside }

-- other tables beside
pub standing_beside : (size : ℕ) (s : Inside) (beside : Beside) → IsStanding size s → IsBeside s.journal.shape s.parts beside → IsStanding size (record s { beside = beside })
standing_beside size s beside standing is = record { upright = standing.upright; beside = is }

-- what is shown is of form 2
pub form_is : (size : ℕ) (s : MirrorState) → IsUpright size s → (b : Rebuilt) → Rebuilds s.parts b → b.shape ≡ s.journal.shape → b.form ≡ 2
form_is size s upright b shows here = shows.valid.newest (ap (λ (shape : Shape). shape.version) here ∙ upright.newest)

module _ (laws : BodiesDo) (size : ℕ) (s : MirrorState) (upright : IsUpright size s) (number : ℕ) (addresses : List ℕ) (body : Body) (good : IsGoodBody body)
    (free : (b : Rebuilt) → Rebuilds s.parts b → b.shape ≡ s.journal.shape → GetsFree b addresses body) (counted : AreCounted s.journal.shape.block addresses body) (room : HasRoom s.journal.shape.block (open_in s.parts.blocks.holders) body)
    (r : Readied) (each : EachReadied s number (change_for addresses body) r) where
  -- each that is shown was readied so
  shown : (b : Rebuilt) → Rebuilds s.parts b → b.shape ≡ s.journal.shape → (q : Readied) → r ≡ q → IsReadied s.journal number (change_for addresses body) b q
  shown b shows here q is = subst (λ (x : Readied). IsReadied s.journal number (change_for addresses body) b x) is (each b shows here)

  pub answers_strange : r ≡ readied.Strange → AnswersBody s body Strange s
  answers_strange is = record {
    found = λ b shows here. readied_strange laws b s number addresses body good (form_is size s upright b shows here) here (free b shows here) counted room (shown b shows here readied.Strange is);
    becomes = refl;
  }

  pub answers_full : (need left : ℕ) → r ≡ readied.Full need left → AnswersBody s body (JournalFull need left) s
  answers_full need left is = record {
    found = λ b shows here. readied_full laws b s number addresses body good (form_is size s upright b shows here) here (free b shows here) counted room need left (shown b shows here (readied.Full need left) is);
    becomes = refl;
  }

  pub answers_put : (ready : Ready) → r ≡ readied.Goes ready → (answer : Taken) (t : MirrorState) → IsPut answer → Becomes s answer t → AnswersBody s body answer t
  answers_put ready is answer t put becomes = record {
    found = λ b shows here.
        let got = shown b shows here (readied.Goes ready) is in
        readied_put laws b s number addresses body good (form_is size s upright b shows here) here (free b shows here) counted room answer got.legal got.room put;
    becomes = becomes;
  }

-- what was made ready for whatever the parts show
pub record WasReady (s : MirrorState) (number : ℕ) (change : Change) (b : Rebuilt) (ready : Ready) : Type 0 where
  pub same : ready.change ≡ change
  pub legal_ready : is_legal b ready.change ≡ true
  pub is_ready : IsReady s.journal number change b ready

pub shown_ready : (s : MirrorState) (number : ℕ) (change : Change) (r : Readied) → EachReadied s number change r → (ready : Ready) → r ≡ readied.Goes ready → (b : Rebuilt) → Rebuilds s.parts b → b.shape ≡ s.journal.shape → WasReady s number change b ready
shown_ready s number change r each ready is b shows here =
    let got : IsReady s.journal number change b ready = subst (λ (x : Readied). IsReadied s.journal number change b x) is (each b shows here) in
    record { same = got.same; legal_ready = subst (λ (x : Change). is_legal b x ≡ true) (sym got.same) got.legal; is_ready = got }

-- a change that was made ready may be committed
pub may_commit : (size : ℕ) (s m : MirrorState) (number : ℕ) (change : Change) (r : Readied) (ready : Ready) → m ≡ s → IsUpright size s → EachReadied s number change r → r ≡ readied.Goes ready → keeps_grammar change ≡ true → is_some (brings change) ≡ true
    → s.pending ≡ None → number ≡ s.position + 1 → number ≤ 2 ^ 48 → MayCommit m number ready
may_commit size s m number change r ready same upright each is grammar kind sure next low =
    let first = shown_ready s number change r each ready is upright.tables.what upright.tables.shows upright.tables.in_shape in
    subst (λ (x : MirrorState). MayCommit x number ready) (sym same)
    (record {
      grammar = ap keeps_grammar first.same ∙ grammar;
      kind = ap (λ (x : Change). is_some (brings x)) first.same ∙ kind;
      sure = sure;
      next = next;
      low = omega (arith, next, low);
      each = λ b shows here. subst (λ (x : Change). IsReady s.journal number x b ready) (sym first.same) (shown_ready s number change r each ready is b shows here).is_ready;
    })

-- the addresses of a voice file are free
pub gets_free : (s : MirrorState) (id : ℕ) (samples addresses : List ℕ) → ((b : Rebuilt) → Rebuilds s.parts b → AreFree b (blocks_for s.journal.shape.block (length samples)) addresses)
    → (b : Rebuilt) → Rebuilds s.parts b → b.shape ≡ s.journal.shape → GetsFree b addresses (Body.Voice id samples)
gets_free s id samples addresses free b shows here =
    let got = free b shows in
    (got.count ∙ ap (λ (shape : Shape). blocks_for shape.block (length samples)) (sym here), got.differ, got.free)

-- ---- before a change is made

pub answers_strange_file : (s : MirrorState) (id : ℕ) (samples : List ℕ) (next : ℕ) → next ≡ s.parts.next → id < next → AnswersBody s (Body.Voice id samples) Strange s
answers_strange_file s id samples next is less = record {
  found = λ b shows here.
      let at : s.parts.next ≡ b.next = shows.kept.next in
      strange_found b s (Body.Voice id samples) (ap not (above id b.next (omega (arith, is, at, less))));
  becomes = refl;
}

pub answers_no_room : (s : MirrorState) (id : ℕ) (samples : List ℕ) (next need free : ℕ) → next ≡ s.parts.next → next ≤ id → need ≡ blocks_for s.journal.shape.block (length samples) → free ≡ open_in s.parts.blocks.holders → free < need
    → AnswersBody s (Body.Voice id samples) (NoRoom need free) s
answers_no_room s id samples next need free is le need_is free_is less = record {
  found = λ b shows here.
      let at : s.parts.next ≡ b.next = shows.kept.next in
      no_room_found b s id samples need free (ap not (le-leb b.next id (omega (arith, is, at, le)))) need_is free_is less;
  becomes = refl;
}

-- ---- by the number

pub answers_again : (s : MirrorState) (packet : Packet) → packet.number ≤ s.position → Answers s packet Again s
answers_again s packet le = record { found = λ b shows here. by b (nat_le packet.number s.position) (le-leb packet.number s.position le); becomes = refl }
  where
    by : (b : Rebuilt) (t : Bool) → nat_le packet.number s.position ≡ true → AnswersBy (judged b s packet) Again
    by b t is = subst (λ (x : Bool). AnswersBy (cond x (Some Again) (cond (nat_lt (s.position + 1) packet.number) (Some (Early s.position)) (body_judged b s packet.body))) Again) (sym is) refl

pub answers_early : (s : MirrorState) (packet : Packet) → s.position + 1 < packet.number → Answers s packet (Early s.position) s
answers_early s packet less = record {
  found = λ b shows here.
      let low = above s.position packet.number (omega (arith, less)) in
      let early = lt-ltb (s.position + 1) packet.number less in
      subst (λ (x : Bool). AnswersBy (cond x (Some Again) (cond (nat_lt (s.position + 1) packet.number) (Some (Early s.position)) (body_judged b s packet.body))) (Early s.position)) (sym low)
      (subst (λ (x : Bool). AnswersBy (cond x (Some (Early s.position)) (body_judged b s packet.body)) (Early s.position)) (sym early) refl);
  becomes = refl;
}

pub answers_next : (s t : MirrorState) (packet : Packet) (answer : Taken) → packet.number ≡ s.position + 1 → AnswersBody s packet.body answer t → Answers s packet answer t
answers_next s t packet answer next is = record {
  found = λ b shows here.
      let low = above s.position packet.number (omega (arith, next)) in
      let early = not_less (s.position + 1) packet.number (omega (arith, next)) in
      subst (λ (x : Bool). AnswersBy (cond x (Some Again) (cond (nat_lt (s.position + 1) packet.number) (Some (Early s.position)) (body_judged b s packet.body))) answer) (sym low)
      (subst (λ (x : Bool). AnswersBy (cond x (Some (Early s.position)) (body_judged b s packet.body)) answer) (sym early) (is.found b shows here));
  becomes = is.becomes;
}
