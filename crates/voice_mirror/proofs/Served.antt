-- Packets that were served, one more each time.
use Rattle.std.proofs.Common.{◌≡◌, ◌⊎◌, inl, inr, ℕ, zero, suc, ◌+◌, ◌<◌, ◌≤◌, ◌^◌, ◌-◌, Bool, true, false, cond, List, [], ◌∷◌, ◌++◌, length, take, get_or, Option, Some, None, Result, refl, sym, ◌∙◌, ap, subst, arith}
use Rattle.std.specs.Prelude.{nat_le, nat_lt}
use Rattle.std.proofs.lemmas.Bool.{leb-true, ltb-false}
use Rattle.voice_outside.specs.Disk.{Told}
use Rattle.voice_outside.specs.Counters.{HasRisen}
use Rattle.mirror_packets.specs.Packets.{Body, Packet}
use Rattle.recovery.specs.Shown.{IsParts}
use Rattle.voice_model.specs.Replay.{Rebuilt}
use Rattle.voice_mirror.specs.declared.inside.Pending.{Pending}
use Rattle.voice_mirror.specs.declared.answers.Taken.{Taken}
use Rattle.voice_mirror.specs.declared.answers.Taken.TheVariants.{Done, Again, Early, Strange, NoRoom, JournalFull, DiskFault, InDoubt}
use Rattle.voice_mirror.specs.Shown.{MirrorState, IsUpright}
use Rattle.voice_units.specs.Blocks.{blocks_for}
use Rattle.voice_units.specs.declared.shapes.Shape.{Shape}
use Rattle.voice_blocks.specs.Holders.{open_in}
use Rattle.mirror_effects.specs.Effects.{is_strange}
use Rattle.voice_mirror.specs.Taking.{settled_by, settled, packet_calls, size_then, frame_of, need_of, left_of, if_full, if_room, body_judged, judged, AnswersBy, Becomes, Judges}
use Rattle.voice_mirror.specs.Ready.{IsOfDevice}
use Rattle.std.specs.Prelude.{IsTrue}
use Rattle.voice_model.specs.Samples.{Tagged}
use Rattle.voice_model.specs.State.{Durable, Effect}
use Rattle.voice_model.specs.Valid.{Every}
use Rattle.voice_units.specs.declared.errors.NoMemory.{NoMemory}
use Rattle.mirror_laws.specs.Standing.{Took}
use Rattle.mirror_packets.specs.Packets.{IsGoodPacket}
use Rattle.mirror_packets.specs.Shown.{packet_of, packets_of}
use Rattle.mirror_packets.specs.declared.packets.Packet as declared
use Rattle.mirror_effects.specs.Fronts.{AreLegal, AreOutOf, IsPacketOf}
use Rattle.mirror_effects.specs.Laws.{BodiesDo, MayBeTaken, FrontsGrow}
use Rattle.voice_mirror.specs.declared.inside.Inside.{Inside}
use Rattle.voice_mirror.specs.Shown.{IsStanding, Keeps, KeepsSome, state_of}
use Rattle.voice_mirror.specs.Taking.{TakesOr}
use Rattle.voice_mirror.specs.Promoting.{Goes}
use Rattle.voice_mirror.specs.Serving.{IsShown, Serves, IsTaken, AreHeld, of_device, device_answers, HaveRisen, HasFront, StopsWithin, packets_calls}
use Rattle.voice_mirror.proofs.Landed.{upright_then}
use Rattle.voice_mirror.proofs.Growing.{some_more, front_more}

-- one packet more
pub serves_more : (s m t : MirrorState) (packets : List Packet) (answers : List Taken) (packet : Packet) (answer : Taken) → Serves s packets answers m → IsShown t → Judges m packet answer t → Serves s (packets ++ packet ∷ []) (answers ++ answer ∷ []) t
serves_more s m t [] [] packet answer is shown judges = (t, shown, subst (λ (x : MirrorState). Judges x packet answer t) is judges, refl)
serves_more s m t [] (a ∷ answers) packet answer is shown judges = absurd is
serves_more s m t (p ∷ packets) [] packet answer is shown judges = absurd is
serves_more s m t (p ∷ packets) (a ∷ answers) packet answer is shown judges = (is.0, is.1, is.2, serves_more is.0 m t packets answers packet answer is.3 shown judges)

device_more : (answers : List Taken) (answer : Taken) → device_answers (answers ++ answer ∷ []) ≡ device_answers answers + of_device answer
device_more [] answer = omega arith
device_more (a ∷ answers) answer = let rest = device_more answers answer in omega (arith, rest)

-- an answer of the device counts where the faults rose
one_risen : (answer : Taken) (old new : ℕ) → old ≤ new → (IsOfDevice answer → HasRisen old new) → new < 2 ^ 64 - 1 → old + of_device answer ≤ new
one_risen Done old new le risen low = omega (arith, le)
one_risen Again old new le risen low = omega (arith, le)
one_risen (Early position) old new le risen low = omega (arith, le)
one_risen Strange old new le risen low = omega (arith, le)
one_risen (NoRoom need free) old new le risen low = omega (arith, le)
one_risen (JournalFull need left) old new le risen low = omega (arith, le)
one_risen DiskFault old new le risen low = let more = risen (inl refl) low in omega (arith, more)
one_risen InDoubt old new le risen low = let more = risen (inr refl) low in omega (arith, more)

pub risen_more : (answers : List Taken) (answer : Taken) (old mid new : ℕ) → HaveRisen answers old mid → mid ≤ new → (IsOfDevice answer → HasRisen mid new) → HaveRisen (answers ++ answer ∷ []) old new
risen_more answers answer old mid new have le risen low =
    let more = device_more answers answer in
    let before = have (omega (arith, le, low)) in
    let one = one_risen answer mid new le risen low in
    omega (arith, more, before, one)

pub risen_none : (old : ℕ) → HaveRisen [] old old
risen_none old low = omega arith

-- ---- what was taken is held

-- what a mirror keeps on any disk shows something, also once what is in doubt has landed
pub shown_by : (size : ℕ) (s : MirrorState) → IsUpright size s → IsShown s
shown_by size s upright = by s.pending refl
  where
    by : (o : Option Pending) → s.pending ≡ o → IsParts (settled_by o s).journal.shape (settled_by o s).parts
    by None is = upright.tables
    by (Some p) is = (upright_then size s p upright is).tables

at_least : (o : Option Pending) (s : MirrorState) → s.position ≤ (settled_by o s).position
at_least None s = omega arith
at_least (Some p) s = omega arith

becomes_later : (s t : MirrorState) (answer : Taken) → Becomes s answer t → s.position ≤ t.position
becomes_later s t Done h = let e = h.0 in omega (arith, e)
becomes_later s t InDoubt h = let e = h.0 in omega (arith, e)
becomes_later s t DiskFault h = let e = h.0 in omega (arith, e)
becomes_later s t Again h = let e = ap (λ (x : MirrorState). x.position) h in omega (arith, e)
becomes_later s t (Early position) h = let e = ap (λ (x : MirrorState). x.position) h in omega (arith, e)
becomes_later s t Strange h = let e = ap (λ (x : MirrorState). x.position) h in omega (arith, e)
becomes_later s t (NoRoom need free) h = let e = ap (λ (x : MirrorState). x.position) h in omega (arith, e)
becomes_later s t (JournalFull need left) h = let e = ap (λ (x : MirrorState). x.position) h in omega (arith, e)

-- the position never falls
later : (s t : MirrorState) (packet : Packet) (answer : Taken) → Judges s packet answer t → s.position ≤ t.position
later s t packet answer (inl stuck) = let e = ap (λ (x : MirrorState). x.position) stuck.same in omega (arith, e)
later s t packet answer (inr answers) = let le = at_least s.pending s in let more = becomes_later (settled s) t answer answers.becomes in omega (arith, le, more)

-- nothing that is found of a body is the answer to a packet that was taken before
full_not : (full : Bool) (need left : ℕ) → AnswersBy (cond full (Some (JournalFull need left)) None) Again → ⊥
full_not true need left h = cc
full_not false need left (inl h) = cc
full_not false need left (inr (inl h)) = cc
full_not false need left (inr (inr h)) = cc

room_not : (room : Bool) (need free : ℕ) (after : Option Taken) → (AnswersBy after Again → ⊥) → AnswersBy (cond room (Some (NoRoom need free)) after) Again → ⊥
room_not true need free after not h = cc
room_not false need free after not h = not h

strange_not : (strange : Bool) (after : Option Taken) → (AnswersBy after Again → ⊥) → AnswersBy (cond strange (Some Strange) after) Again → ⊥
strange_not true after not h = cc
strange_not false after not h = not h

body_not : (b : Rebuilt) (s : MirrorState) (body : Body) → AnswersBy (body_judged b s body) Again → ⊥
body_not b s body = by body
  where
    full : (body : Body) → AnswersBy (if_full (need_of s.journal (size_then b body) (frame_of s.journal.shape.block body)) (left_of s.journal)) Again → ⊥
    full body =
        let need = need_of s.journal (size_then b body) (frame_of s.journal.shape.block body) in
        full_not (nat_lt (left_of s.journal) need) need (left_of s.journal)

    by : (body : Body) → AnswersBy (body_judged b s body) Again → ⊥
    by (Body.Voice id samples) =
        let block = s.journal.shape.block in
        let free = open_in s.parts.blocks.holders in
        let after = if_full (need_of s.journal (size_then b (Body.Voice id samples)) (frame_of block (Body.Voice id samples))) (left_of s.journal) in
        strange_not (is_strange b (Body.Voice id samples)) (if_room block free (Body.Voice id samples) after)
        (room_not (nat_lt free (blocks_for block (length samples))) (blocks_for block (length samples)) free after (full (Body.Voice id samples)))
    by (Body.Other change) =
        strange_not (is_strange b (Body.Other change)) (if_full (need_of s.journal (size_then b (Body.Other change)) (frame_of s.journal.shape.block (Body.Other change))) (left_of s.journal)) (full (Body.Other change))

again_low : (again early : Bool) (n position : ℕ) (found : Option Taken) → nat_le n position ≡ again → (AnswersBy found Again → ⊥) → AnswersBy (cond again (Some Again) (cond early (Some (Early position)) found)) Again → n ≤ position
again_low true early n position found le not h = leb-true n position le
again_low false true n position found le not h = absurd (let e : Again ≡ Early position = h in early_not position e)
  where
    early_not : (p : ℕ) → Again ≡ Early p → ⊥
    early_not p e = cc
again_low false false n position found le not h = absurd (not h)

done_low : (again early : Bool) (n position : ℕ) (found : Option Taken) → nat_lt (position + 1) n ≡ early → AnswersBy (cond again (Some Again) (cond early (Some (Early position)) found)) Done → n ≤ position + 1
done_low true early n position found le h = absurd (again_not h)
  where
    again_not : Done ≡ Again → ⊥
    again_not e = cc
done_low false true n position found le h = absurd (early_not h)
  where
    early_not : Done ≡ Early position → ⊥
    early_not e = cc
done_low false false n position found le h = ltb-false (position + 1) n le

-- a packet that was taken has a number up to the position behind it
taken_low : (s t : MirrorState) (packet : Packet) (answer : Taken) → IsShown s → Judges s packet answer t → IsTaken answer → packet.number ≤ t.position
taken_low s t packet answer shown (inl stuck) taken = absurd (by taken)
  where
    by : IsTaken answer → ⊥
    by (inl done) = let e : DiskFault ≡ Done = sym stuck.fault ∙ done in cc
    by (inr again) = let e : DiskFault ≡ Again = sym stuck.fault ∙ again in cc
taken_low s t packet answer shown (inr answers) taken = by taken
  where
    found : AnswersBy (judged shown.what (settled s) packet) answer
    found = answers.found shown.what shown.shows shown.in_shape

    by : IsTaken answer → packet.number ≤ t.position
    by (inl done) =
        let low = done_low (nat_le packet.number (settled s).position) (nat_lt ((settled s).position + 1) packet.number) packet.number (settled s).position (body_judged shown.what (settled s) packet.body) refl
        (subst (λ (a : Taken). AnswersBy (judged shown.what (settled s) packet) a) done found) in
        let becomes : Becomes (settled s) Done t = subst (λ (a : Taken). Becomes (settled s) a t) done answers.becomes in
        let at = becomes.0 in
        omega (arith, low, at)
    by (inr again) =
        let low = again_low (nat_le packet.number (settled s).position) (nat_lt ((settled s).position + 1) packet.number) packet.number (settled s).position (body_judged shown.what (settled s) packet.body) refl (body_not shown.what (settled s) packet.body)
        (subst (λ (a : Taken). AnswersBy (judged shown.what (settled s) packet) a) again found) in
        let more = becomes_later (settled s) t answer answers.becomes in
        omega (arith, low, more)

serves_later : (s t : MirrorState) (packets : List Packet) (answers : List Taken) → Serves s packets answers t → s.position ≤ t.position
serves_later s t [] [] is = let e = ap (λ (x : MirrorState). x.position) is in omega (arith, e)
serves_later s t [] (a ∷ answers) is = absurd is
serves_later s t (p ∷ packets) [] is = absurd is
serves_later s t (p ∷ packets) (a ∷ answers) is = let one = later s is.0 p a is.2 in let rest = serves_later is.0 t packets answers is.3 in omega (arith, one, rest)

pub held_by : (s t : MirrorState) (packets : List Packet) (answers : List Taken) → IsShown s → Serves s packets answers t → AreHeld packets answers t.position
held_by s t [] [] shown is = tt
held_by s t [] (a ∷ answers) shown is = tt
held_by s t (p ∷ packets) [] shown is = tt
held_by s t (p ∷ packets) (a ∷ answers) shown is = (
  (λ taken. let low = taken_low s is.0 p a shown is.2 taken in let rest = serves_later is.0 t packets answers is.3 in omega (arith, low, rest)),
  held_by is.0 t packets answers is.1 is.3,
)

-- one packet more makes its calls besides
calls_more : (block : ℕ) (packets : List Packet) (packet : Packet) → packets_calls block (packets ++ packet ∷ []) ≡ packets_calls block packets + packet_calls block packet
calls_more block [] packet = omega arith
calls_more block (p ∷ packets) packet = let rest = calls_more block packets packet in omega (arith, rest)

-- ---- packets so far

-- what a run of packets has come to, where the disk was `old` and the mirror s
pub record Serving (old new : Told) (s t : Inside) (packets : List Packet) (answers : List Taken) : Type 0 where
  pub goes : Goes (packets_calls s.journal.shape.block packets) old new
  pub shape : t.journal.shape ≡ s.journal.shape
  pub standing : IsStanding new.size t
  pub shown : IsShown (state_of s)
  pub served : Serves (state_of s) packets answers (state_of t)
  pub held : AreHeld packets answers t.position
  pub faults : HaveRisen answers old.faults new.faults
  pub some : IsTrue old.honest → KeepsSome old (state_of s) → KeepsSome new (state_of t)
  pub fronts : IsTrue old.honest → (start : Durable Tagged) (effects : List (Effect Tagged)) (first : Durable Tagged) (from t0 : ℕ) → AreLegal start effects → AreOutOf effects packets → HasFront start effects first from t0 old (state_of s) → HasFront start effects first from t0 new (state_of t)

pub none_served : (old : Told) (s : Inside) → IsStanding old.size s → Serving old old s s [] []
none_served old s standing = record {
  goes = record { size = refl; honest = refl; later = omega arith; calls = omega arith; faults = omega arith };
  shape = refl;
  standing = standing;
  shown = shown_by old.size (state_of s) standing.upright;
  served = refl;
  held = tt;
  faults = risen_none old.faults;
  some = λ honest some. some;
  fronts = λ honest start effects first from t0 legal of has. has;
}

-- packets out of a list, and one more
front_of_more : (effects : List (Effect Tagged)) (packets : List Packet) (packet : Packet) → AreOutOf effects (packets ++ packet ∷ []) → AreOutOf effects packets × IsPacketOf effects packet
front_of_more effects [] packet of = (tt, of.0)
front_of_more effects (p ∷ packets) packet of = let rest = front_of_more effects packets packet of.1 in ((of.0, rest.0), rest.1)

module _ (bodies : BodiesDo) (may : MayBeTaken) (grow : FrontsGrow) (old mid new : Told) (s m t : Inside) (packets : List Packet) (answers : List Taken) (packet : Packet)
    (before : Serving old mid s m packets answers) (goes : Goes (packet_calls m.journal.shape.block packet) mid new) (standing : IsStanding new.size t) (result : Result Taken NoMemory)
    (takes : IsTrue mid.honest → (first : Durable Tagged) (from t0 : ℕ) (taken : List Took) (doubt : Option (Effect Tagged)) → Keeps first from t0 taken doubt mid (state_of m) → TakesOr first from t0 taken doubt new (state_of t) packet result) where
  pub goes_then : Goes (packets_calls s.journal.shape.block (packets ++ packet ∷ [])) old new
  goes_then =
      let later = before.goes.later in
      let more = goes.later in
      let calls = before.goes.calls in
      let own = subst (λ (shape : Shape). new.calls ≤ mid.calls + packet_calls shape.block packet) before.shape goes.calls in
      let sum = calls_more s.journal.shape.block packets packet in
      let faults = before.goes.faults in
      let risen = goes.faults in
      record { size = goes.size ∙ before.goes.size; honest = goes.honest ∙ before.goes.honest; later = omega (arith, later, more); calls = omega (arith, calls, own, sum); faults = omega (arith, faults, risen) }

  honest_then : IsTrue old.honest → IsTrue mid.honest
  honest_then honest = subst (λ (x : Bool). IsTrue x) (sym before.goes.honest) honest

  pub some_then : IsTrue old.honest → KeepsSome old (state_of s) → KeepsSome new (state_of t)
  some_then honest some = some_more mid new (state_of m) (state_of t) packet result (takes (honest_then honest)) (before.some honest some)

  pub fronts_then : IsTrue old.honest → (start : Durable Tagged) (effects : List (Effect Tagged)) (first : Durable Tagged) (from t0 : ℕ) → AreLegal start effects → AreOutOf effects (packets ++ packet ∷ []) → HasFront start effects first from t0 old (state_of s) → HasFront start effects first from t0 new (state_of t)
  fronts_then honest start effects first from t0 legal of has =
      let parts = front_of_more effects packets packet of in
      front_more bodies may grow start effects legal packet parts.1 mid new (state_of m) (state_of t) result (takes (honest_then honest)) first from t0 (before.fronts honest start effects first from t0 legal parts.0 has)

  pub served_more : (answer : Taken) → t.journal.shape ≡ m.journal.shape → Judges (state_of m) packet answer (state_of t) → (IsOfDevice answer → HasRisen mid.faults new.faults) → Serving old new s t (packets ++ packet ∷ []) (answers ++ answer ∷ [])
  served_more answer shape judges risen =
      let served = serves_more (state_of s) (state_of m) (state_of t) packets answers packet answer before.served (shown_by new.size (state_of t) standing.upright) judges in
      record {
        goes = goes_then;
        shape = shape ∙ before.shape;
        standing = standing;
        shown = before.shown;
        served = served;
        held = held_by (state_of s) (state_of t) (packets ++ packet ∷ []) (answers ++ answer ∷ []) before.shown served;
        faults = risen_more answers answer old.faults mid.faults new.faults before.faults goes.faults risen;
        some = some_then;
        fronts = fronts_then;
      }

-- ---- of a list of the program

take_more : {A : Type 0} (xs : List A) (k : ℕ) (x : A) → k < length xs → take (k + 1) xs ≡ take k xs ++ get_or xs k x ∷ []
take_more [] k x lt = absurd (omega (arith, lt))
take_more (y ∷ xs) zero x lt = refl
take_more (y ∷ xs) (suc k) x lt = let more : suc k + 1 ≡ suc (k + 1) = omega arith in ap (λ n. take n (y ∷ xs)) more ∙ ap (λ l. y ∷ l) (take_more xs k x (omega (arith, lt)))

pub take_whole : {A : Type 0} (xs : List A) (k : ℕ) → length xs ≤ k → take k xs ≡ xs
take_whole [] zero le = refl
take_whole [] (suc k) le = refl
take_whole (y ∷ xs) zero le = absurd (omega (arith, le))
take_whole (y ∷ xs) (suc k) le = ap (λ l. y ∷ l) (take_whole xs k (omega (arith, le)))

-- so many packets of a list, and one more
pub one_more : (ps : List declared.Packet) (k : ℕ) (p : declared.Packet) → k < length ps → p ≡ get_or ps k p → packets_of (take (k + 1) ps) ≡ packets_of (take k ps) ++ packet_of p ∷ []
one_more ps k p less is = ap packets_of (take_more ps k p less ∙ ap (λ (x : declared.Packet). take k ps ++ x ∷ []) (sym is)) ∙ map_more (take k ps) p
  where
    map_more : (xs : List declared.Packet) (x : declared.Packet) → packets_of (xs ++ x ∷ []) ≡ packets_of xs ++ packet_of x ∷ []
    map_more [] x = refl
    map_more (y ∷ xs) x = ap (λ (l : List Packet). packet_of y ∷ l) (map_more xs x)

-- each of a list has it
pub good_at : (ps : List declared.Packet) (k : ℕ) (p : declared.Packet) → k < length ps → p ≡ get_or ps k p → Every IsGoodPacket (packets_of ps) → IsGoodPacket (packet_of p)
good_at [] k p less is good = absurd (omega (arith, less))
good_at (x ∷ ps) zero p less is good = subst (λ (y : declared.Packet). IsGoodPacket (packet_of y)) (sym is) good.0
good_at (x ∷ ps) (suc k) p less is good = good_at ps k p (omega (arith, less)) is good.1

-- a front of a list out of a list is out of it
pub front_out_of : (effects : List (Effect Tagged)) (ps : List declared.Packet) (k : ℕ) → AreOutOf effects (packets_of ps) → AreOutOf effects (packets_of (take k ps))
front_out_of effects [] zero of = tt
front_out_of effects [] (suc k) of = tt
front_out_of effects (p ∷ ps) zero of = tt
front_out_of effects (p ∷ ps) (suc k) of = (of.0, front_out_of effects ps k of.1)

-- a front of a list makes no more calls than all of it
pub front_calls : (block : ℕ) (ps : List declared.Packet) (k : ℕ) → packets_calls block (packets_of (take k ps)) ≤ packets_calls block (packets_of ps)
front_calls block [] zero = omega arith
front_calls block [] (suc k) = omega arith
front_calls block (p ∷ ps) zero = omega arith
front_calls block (p ∷ ps) (suc k) = let rest = front_calls block ps k in omega (arith, rest)

-- and counts within the calls of a front are within those of all
pub goes_within : (block : ℕ) (ps : List declared.Packet) (k : ℕ) (old new : Told) → Goes (packets_calls block (packets_of (take k ps))) old new → Goes (packets_calls block (packets_of ps)) old new
goes_within block ps k old new goes =
    let calls = goes.calls in
    let all = front_calls block ps k in
    record { size = goes.size; honest = goes.honest; later = goes.later; calls = omega (arith, calls, all); faults = goes.faults }

-- so many packets of a list
front_of : (ps : List declared.Packet) (k : ℕ) → packets_of (take k ps) ≡ take k (packets_of ps)
front_of [] zero = refl
front_of [] (suc k) = refl
front_of (p ∷ ps) zero = refl
front_of (p ∷ ps) (suc k) = ap (λ (l : List Packet). packet_of p ∷ l) (front_of ps k)

-- memory was wanted behind so many
pub stops_behind : (s last t : MirrorState) (ps : List declared.Packet) (k : ℕ) (answers : List Taken) → Serves s (packets_of (take k ps)) answers last → (t ≡ last) ⊎ (t ≡ settled last) → StopsWithin s (packets_of ps) t
stops_behind s last t ps k answers serves stands = record { count = k; answers = answers; last = last; serves = subst (λ (l : List Packet). Serves s l answers last) (front_of ps k) serves; stands = stands }
