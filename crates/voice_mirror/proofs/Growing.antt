-- What one packet more leaves.
use Rattle.std.proofs.Common.{◌≡◌, inl, inr, ℕ, ◌+◌, List, [], ◌∷◌, ◌++◌, length, Option, Some, None, Result, Ok, Err, IfOk, OnErr, refl, sym, subst, arith}
use Rattle.voice_outside.specs.Disk.{Told}
use Rattle.voice_units.specs.declared.errors.NoMemory.{NoMemory}
use Rattle.voice_model.specs.Samples.{Tagged}
use Rattle.voice_model.specs.State.{Durable, Effect}
use Rattle.mirror_packets.specs.Packets.{Body, Packet}
use Rattle.mirror_laws.specs.Standing.{Took, taken_at, kept_after, effects_of, with_doubt}
use Rattle.mirror_laws.proofs.Histories.{effects_push, length_effects}
use Rattle.mirror_effects.specs.Effects.{MayFollow, IsBrought}
use Rattle.mirror_effects.specs.Fronts.{AreLegal, IsPacketOf, IsFront}
use Rattle.mirror_effects.specs.Laws.{BodiesDo, MayBeTaken, FrontsGrow}
use Rattle.voice_mirror.specs.declared.answers.Taken.{Taken}
use Rattle.voice_mirror.specs.declared.answers.Taken.TheVariants.{Done, Again, Early, Strange, NoRoom, JournalFull, DiskFault, InDoubt}
use Rattle.voice_mirror.specs.Shown.{MirrorState, Keeps, KeepsSome}
use Rattle.voice_mirror.specs.Taking.{with_landed, IsNext, Takes, TakesOr}
use Rattle.voice_mirror.specs.Serving.{HasFront}

-- the effects of what was taken, with the one that has landed
pub effects_landed : (doubt : Option (Effect Tagged)) (ack : ℕ) (taken : List Took) → effects_of (with_landed doubt ack taken) ≡ with_doubt doubt taken
effects_landed None ack taken = refl
effects_landed (Some effect) ack taken = effects_push taken (taken_at effect ack)

-- a take behind a landing
pub takes_or : (first : Durable Tagged) (from t0 ack : ℕ) (taken : List Took) (doubt : Option (Effect Tagged)) (disk : Told) (t : MirrorState) (packet : Packet) (result : Result Taken NoMemory)
    → IfOk result (λ answer. Takes first from t0 (with_landed doubt ack taken) disk t packet.number packet.body answer) → OnErr result (Keeps first from t0 (with_landed doubt ack taken) None disk t) → TakesOr first from t0 taken doubt disk t packet result
takes_or first from t0 ack taken doubt disk t packet (Ok answer) takes keeps = inr (record { ack = ack; takes = takes })
takes_or first from t0 ack taken doubt disk t packet (Err e) takes keeps = record { ack = ack; keeps = keeps }

-- what is left where nothing was done
pub kept_on_err : {D T : Type 0} (told : D → Told) (first : Durable Tagged) (from t0 : ℕ) (taken : List Took) (mid new : D) (s t : MirrorState) (result : Result T NoMemory) → OnErr result ((t ≡ s) × (new ≡ mid)) → Keeps first from t0 taken None (told mid) s → OnErr result (Keeps first from t0 taken None (told new) t)
kept_on_err told first from t0 taken mid new s t (Ok x) same keeps = tt
kept_on_err told first from t0 taken mid new s t (Err e) same keeps = subst (λ d. Keeps first from t0 taken None (told d) t) (sym same.1) (subst (λ (m : MirrorState). Keeps first from t0 taken None (told mid) m) (sym same.0) keeps)

-- ---- some changes

some_by : (first : Durable Tagged) (from t0 : ℕ) (taken : List Took) (disk : Told) (t : MirrorState) (number : ℕ) (body : Body) (answer : Taken) → Takes first from t0 taken disk t number body answer → KeepsSome disk t
some_by first from t0 taken disk t number body Done h = record { first = first; from = from; t0 = t0; taken = taken ++ taken_at h.0 disk.calls ∷ []; doubt = None; keeps = h.2 }
some_by first from t0 taken disk t number body InDoubt h = record { first = first; from = from; t0 = t0; taken = taken; doubt = Some h.0; keeps = h.2 }
some_by first from t0 taken disk t number body Again h = record { first = first; from = from; t0 = t0; taken = taken; doubt = None; keeps = h }
some_by first from t0 taken disk t number body (Early position) h = record { first = first; from = from; t0 = t0; taken = taken; doubt = None; keeps = h }
some_by first from t0 taken disk t number body Strange h = record { first = first; from = from; t0 = t0; taken = taken; doubt = None; keeps = h }
some_by first from t0 taken disk t number body (NoRoom need free) h = record { first = first; from = from; t0 = t0; taken = taken; doubt = None; keeps = h }
some_by first from t0 taken disk t number body (JournalFull need left) h = record { first = first; from = from; t0 = t0; taken = taken; doubt = None; keeps = h }
some_by first from t0 taken disk t number body DiskFault h = record { first = first; from = from; t0 = t0; taken = taken; doubt = None; keeps = h }

-- what a take leaves, whatever its answer is
module _ (old new : Told) (s t : MirrorState) (packet : Packet) (result : Result Taken NoMemory)
    (takes : (first : Durable Tagged) (from t0 : ℕ) (taken : List Took) (doubt : Option (Effect Tagged)) → Keeps first from t0 taken doubt old s → TakesOr first from t0 taken doubt new t packet result) where
  by_result : (first : Durable Tagged) (from t0 : ℕ) (taken : List Took) (doubt : Option (Effect Tagged)) (r : Result Taken NoMemory) → TakesOr first from t0 taken doubt new t packet r → KeepsSome new t
  by_result first from t0 taken doubt (Ok answer) (inl stuck) = record { first = first; from = from; t0 = t0; taken = taken; doubt = doubt; keeps = stuck.1 }
  by_result first from t0 taken doubt (Ok answer) (inr landed) = some_by first from t0 (with_landed doubt landed.ack taken) new t packet.number packet.body answer landed.takes
  by_result first from t0 taken doubt (Err e) landed = record { first = first; from = from; t0 = t0; taken = with_landed doubt landed.ack taken; doubt = None; keeps = landed.keeps }

  pub some_more : KeepsSome old s → KeepsSome new t
  some_more some = by_result some.first some.from some.t0 some.taken some.doubt result (takes some.first some.from some.t0 some.taken some.doubt some.keeps)

-- ---- a front of a list

module _ (bodies : BodiesDo) (may : MayBeTaken) (grow : FrontsGrow) (start : Durable Tagged) (effects : List (Effect Tagged)) (legal : AreLegal start effects) (packet : Packet) (of : IsPacketOf effects packet) where
  -- the effect that is brought is the list's next one
  next_front : (first : Durable Tagged) (from : ℕ) (taken : List Took) (effect : Effect Tagged) → IsFront start effects first from (effects_of taken)
      → IsNext (kept_after first (effects_of taken)) (from + length taken) packet.number packet.body effect → IsFront start effects first from (effects_of taken ++ effect ∷ [])
  next_front first from taken effect front is =
      let long = length_effects taken in
      let next = is.next in
      let got = grow.next start effects first from (effects_of taken) packet legal front of (omega (arith, next, long)) in
      let b = is.brings.rebuilt in
      let image = is.brings.image in
      let follows = subst (λ (d : Durable Tagged). MayFollow d got.0) (sym is.brings.fills) got.1 in
      let brought = (may.taken image b got.0 is.brings.form follows).1 in
      let same = bodies.once image b packet.body got.0 effect (subst (λ (body : Body). IsBrought image b body got.0) (sym got.2) brought) is.brings.brought in
      subst (λ (e : Effect Tagged). IsFront start effects first from (effects_of taken ++ e ∷ [])) same got.3

  module _ (t0 : ℕ) (new : Told) (t : MirrorState) (first : Durable Tagged) (from : ℕ) where
    done_front : (taken : List Took) → IsFront start effects first from (effects_of taken) → (answer : Taken) → Takes first from t0 taken new t packet.number packet.body answer → HasFront start effects first from t0 new t
    done_front taken front Done h = record {
      taken = taken ++ taken_at h.0 new.calls ∷ [];
      doubt = None;
      keeps = h.2;
      front = subst (λ (es : List (Effect Tagged)). IsFront start effects first from es) (sym (effects_push taken (taken_at h.0 new.calls))) (next_front first from taken h.0 front h.1);
    }
    done_front taken front InDoubt h = record { taken = taken; doubt = Some h.0; keeps = h.2; front = next_front first from taken h.0 front h.1 }
    done_front taken front Again h = record { taken = taken; doubt = None; keeps = h; front = front }
    done_front taken front (Early position) h = record { taken = taken; doubt = None; keeps = h; front = front }
    done_front taken front Strange h = record { taken = taken; doubt = None; keeps = h; front = front }
    done_front taken front (NoRoom need free) h = record { taken = taken; doubt = None; keeps = h; front = front }
    done_front taken front (JournalFull need left) h = record { taken = taken; doubt = None; keeps = h; front = front }
    done_front taken front DiskFault h = record { taken = taken; doubt = None; keeps = h; front = front }

    landed_front : (doubt : Option (Effect Tagged)) (taken : List Took) (ack : ℕ) → IsFront start effects first from (with_doubt doubt taken) → IsFront start effects first from (effects_of (with_landed doubt ack taken))
    landed_front doubt taken ack front = subst (λ (es : List (Effect Tagged)). IsFront start effects first from es) (sym (effects_landed doubt ack taken)) front

    pub front_by : (doubt : Option (Effect Tagged)) (taken : List Took) → IsFront start effects first from (with_doubt doubt taken) → (r : Result Taken NoMemory) → TakesOr first from t0 taken doubt new t packet r → HasFront start effects first from t0 new t
    front_by doubt taken front (Ok answer) (inl stuck) = record { taken = taken; doubt = doubt; keeps = stuck.1; front = front }
    front_by doubt taken front (Ok answer) (inr landed) = done_front (with_landed doubt landed.ack taken) (landed_front doubt taken landed.ack front) answer landed.takes
    front_by doubt taken front (Err e) landed = record { taken = with_landed doubt landed.ack taken; doubt = None; keeps = landed.keeps; front = landed_front doubt taken landed.ack front }

  pub front_more : (old new : Told) (s t : MirrorState) (result : Result Taken NoMemory)
      → ((first : Durable Tagged) (from t0 : ℕ) (taken : List Took) (doubt : Option (Effect Tagged)) → Keeps first from t0 taken doubt old s → TakesOr first from t0 taken doubt new t packet result)
      → (first : Durable Tagged) (from t0 : ℕ) → HasFront start effects first from t0 old s → HasFront start effects first from t0 new t
  front_more old new s t result takes first from t0 has = front_by t0 new t first from has.doubt has.taken has.front result (takes first from t0 has.taken has.doubt has.keeps)
