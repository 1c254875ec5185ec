-- What a sender keeps and follows once a change is done, is in doubt, or finds no memory.
use Rattle.std.proofs.Common.{◌≡◌, ◌⊎◌, inl, inr, ℕ, ◌+◌, ◌-◌, ◌<◌, ◌≤◌, ◌^◌, ◌==◌, Bool, true, false, cond, not, ◌||◌, List, [], ◌∷◌, ◌++◌, length, Option, Some, None, refl, sym, ◌∙◌, ap, ap₂, subst, arith}
use Rattle.std.specs.Prelude.{is_some, unwrap_or, IsTrue, nat_le, Vec}
use Rattle.std.specs.declared.alloc.Global.{Global}
use Rattle.std.proofs.lemmas.Bool.{leb-false}
use Rattle.std.proofs.lemmas.List.{append-nil}
use Rattle.voice_units.specs.declared.shapes.Shape.{Shape}
use Rattle.voice_units.specs.declared.pieces.Take.{Take}
use Rattle.voice_model.specs.Samples.{Tagged, recording}
use Rattle.voice_model.specs.State.{State, Durable, LaneState, Effect, Pending, lane_at, with_lane, quiet_lane}
use Rattle.voice_model.specs.State.Effect.{Recorded}
use Rattle.voice_model.specs.Changes.{effect_of, is_changing, changed, committed, taking_of, frame_size, base_size, form_after_switch}
use Rattle.voice_model.specs.Step.{refusal, conditions, with_change, after_answer, after_reply, after_landing, answered, closed, recording_closed, asked_in, nothing_to_land}
use Rattle.voice_model.specs.Valid.{IsState, InRange, IsFit, MayFit, IsPending}
use Rattle.voice_model.specs.Tapes.{HasTake, taken}
use Rattle.voice_model.specs.declared.calls.Call.{Call}
use Rattle.voice_model.specs.declared.calls.Call.TheVariants as calls
use Rattle.voice_model.specs.declared.calls.Why.TheVariants as why
use Rattle.voice_model.proofs.FitsOfCalls.{all_none, not_when, fit_call, recorded_length}
use Rattle.mirror_packets.specs.Packets.{packet_spelling}
use Rattle.recovery.specs.declared.parts.Parts.{Parts}
use Rattle.mirror_sender.specs.declared.sender.Sender.{Sender}
use Rattle.mirror_sender.specs.declared.recordings.Added.{Added}
use Rattle.mirror_sender.specs.declared.coming.Next.{Next}
use Rattle.mirror_packets.specs.Effects.{packet_of_effect}
use Rattle.mirror_sender.specs.Sent.{answered_effect, unless_refused, effect_in_doubt}
use Rattle.mirror_sender.specs.Told.{IsTold, IsLike, changed_by}
use Rattle.mirror_sender.specs.Coming.{IsNextOf, IsSomeNext, IsMaybeNext, MayBeNextOf, CanBeDone, bytes_taken}
use Rattle.mirror_sender.specs.Abreast.{takes_on, others_than, AreAdded, IsDoubt, IsSound, IsSoundBy, IsAbreast, IsAbreastBy, Asks, MayChange, MayAnswer, MayHold, MayBeAnswered, HasChanged, Follows, doubted, only_changes, IsLeft}
use Rattle.mirror_sender.proofs.Likeness.{fit_like, like_by, like_next, own_shape}
use Rattle.mirror_sender.proofs.Takings.{takings_added, takings_closed, added_left, added_within}
use Rattle.mirror_sender.proofs.Following.{is_sure, follows_none}

-- ---- a change of a state

change_kept : (s : State) (form : ℕ) (made : Option (Effect Tagged)) → (with_change s form made).kept ≡ changed_by form s.kept made
change_kept s form None = refl
change_kept s form (Some e) = refl

change_lanes : (s : State) (form : ℕ) (made : Option (Effect Tagged)) → (with_change s form made).lanes ≡ s.lanes
change_lanes s form None = refl
change_lanes s form (Some e) = refl

change_doubt : (s : State) (form : ℕ) (made : Option (Effect Tagged)) → (with_change s form made).doubt ≡ s.doubt
change_doubt s form None = refl
change_doubt s form (Some e) = refl

abbrev one_or_two : Bool → ℕ
one_or_two b = cond b 2 1

newer_form : (fits small : Bool) (form : ℕ) → form ≡ 2 → cond fits form (one_or_two ((form == 2) || small)) ≡ 2
newer_form true small form e = e
newer_form false small form e = subst (λ n. one_or_two ((n == 2) || small) ≡ 2) (sym e) refl

change_form : (s : State) (made : Option (Effect Tagged)) → s.form ≡ 2 → (with_change s s.form made).form ≡ 2
change_form s None e = e
change_form s (Some effect) e =
    let after = changed s.form s.kept effect in
    newer_form (nat_le (frame_size s.form s.shape.block effect) s.left) (nat_le (base_size 2 after) (after.shape.area - 17)) s.form e

same_taking : (s t : State) → t.lanes ≡ s.lanes → (lane : ℕ) → taking_of t lane ≡ taking_of s lane
same_taking s t e lane = ap (λ (l : List LaneState). taking_of (record s { lanes = l }) lane) e

shape_by : (form : ℕ) (own : Durable Tagged) (made : Option (Effect Tagged)) → (changed_by form own made).shape ≡ own.shape
shape_by form own None = refl
shape_by form own (Some e) = own_shape form own e

-- ---- the sender follows the state behind a change

-- what holds before it, of what the change leaves
pub record IsBefore (own : Durable Tagged) (tapes : List (List ℕ)) (old new : Sender) (s : State) : Type 0 where
  pub in_shape : own.shape ≡ new.shape
  pub within : AreAdded tapes new.adds.items
  pub like : IsLike old.parts.form own s.form s.kept
  pub taking : (lane : ℕ) → taking_of s lane ≡ bytes_taken tapes (takes_on new.adds.items lane)
  pub none : new.doubt ≡ None
  pub sure : s.doubt ≡ None

pub follows_change : (own : Durable Tagged) (tapes : List (List ℕ)) (old new : Sender) (s t : State) (before after : List ℕ) (made : Option (Effect Tagged)) → IsBefore own tapes old new s → HasChanged own old new before after made → t ≡ with_change s s.form made → IsState t → Follows tapes old new t before after made
follows_change own tapes old new s t before after made h c is valid = record {
  abreast = (
    changed_by old.parts.form own made,
    record {
      sound = record {
        told = c.told;
        in_shape = shape_by old.parts.form own made ∙ h.in_shape;
        within = h.within;
        doubt = subst (λ (o : Option Next). IsMaybeNext (changed_by old.parts.form own made) tapes new.parts.form new.parts.interests.spare o) (sym h.none) tt;
      };
      valid = valid;
      like = subst (λ (u : State). IsLike new.parts.form (changed_by old.parts.form own made) u.form u.kept) (sym is)
          (subst (λ (f : ℕ). IsLike f (changed_by old.parts.form own made) (with_change s s.form made).form (with_change s s.form made).kept) (sym c.form)
          (subst (λ (d : Durable Tagged). IsLike old.parts.form (changed_by old.parts.form own made) (with_change s s.form made).form d) (sym (change_kept s s.form made))
          (like_by old.parts.form own s.form (with_change s s.form made).form s.kept made (change_form s made) h.like)));
      taking = λ lane. ap (λ (u : State). taking_of u lane) is ∙ same_taking s (with_change s s.form made) (change_lanes s s.form made) lane ∙ h.taking lane;
      doubt = subst (λ (p : Option Pending). IsDoubt (changed_by old.parts.form own made) tapes new.parts.interests.spare new.doubt p) (sym (ap (λ (u : State). u.doubt) is ∙ change_doubt s s.form made ∙ h.sure))
          (subst (λ (o : Option Next). IsDoubt (changed_by old.parts.form own made) tapes new.parts.interests.spare o None) (sym h.none) tt);
    },
  );
  bytes = c.bytes;
  next = c.next;
}

-- ---- what is in doubt

pub none_kept : (own : Durable Tagged) (tapes : List (List ℕ)) (spare : ℕ) (o : Option Next) (p : Option Pending) → IsDoubt own tapes spare o p → p ≡ None → o ≡ None
none_kept own tapes spare None p h e = refl
none_kept own tapes spare (Some next) None h e = absurd h
none_kept own tapes spare (Some next) (Some pending) h e = cc

pub none_pending : (own : Durable Tagged) (tapes : List (List ℕ)) (spare : ℕ) (o : Option Next) (p : Option Pending) → IsDoubt own tapes spare o p → o ≡ None → p ≡ None
none_pending own tapes spare o None h e = refl
none_pending own tapes spare None (Some pending) h e = absurd h
none_pending own tapes spare (Some next) (Some pending) h e = cc

pub same_some : (own : Durable Tagged) (tapes : List (List ℕ)) (spare : ℕ) (o : Option Next) (p : Option Pending) → IsDoubt own tapes spare o p → is_some o ≡ is_some p
same_some own tapes spare None None h = refl
same_some own tapes spare (Some next) (Some pending) h = refl
same_some own tapes spare None (Some pending) h = absurd h
same_some own tapes spare (Some next) None h = absurd h

-- where something is in doubt here, something is in doubt there
pub not_sure : (own : Durable Tagged) (tapes : List (List ℕ)) (spare : ℕ) (o : Option Next) (p : Option Pending) → IsDoubt own tapes spare o p → p ≡ None → ¬ (is_some o ≡ true)
not_sure own tapes spare o p h e some = let none = none_kept own tapes spare o p h e in let bad : false ≡ true = ap is_some (sym none) ∙ some in cc

-- ---- calls that can make a change, and do nothing else

only_lanes : (s : State) (tapes : List (List ℕ)) (call : Call) → only_changes call ≡ true → MayBeAnswered s tapes call → (refusal s tapes call ≡ None) × (nothing_to_land s call ≡ true) × (answered s tapes call ≡ with_change s s.form (effect_of s tapes call)) × (answered_effect s tapes call ≡ effect_of s tapes call)
only_lanes s tapes (calls.Record take) only may = (may.0, may.1, ap (after_reply s tapes (calls.Record take)) may.0, ap (λ o. unless_refused o (effect_of s tapes (calls.Record take))) may.0)
only_lanes s tapes (calls.Concat ids) only may = (may.0, may.1, ap (after_reply s tapes (calls.Concat ids)) may.0, ap (λ o. unless_refused o (effect_of s tapes (calls.Concat ids))) may.0)
only_lanes s tapes (calls.Sub id start len) only may = (may.0, may.1, ap (after_reply s tapes (calls.Sub id start len)) may.0, ap (λ o. unless_refused o (effect_of s tapes (calls.Sub id start len))) may.0)
only_lanes s tapes (calls.Replace id start len with) only may = (may.0, may.1, ap (after_reply s tapes (calls.Replace id start len with)) may.0, ap (λ o. unless_refused o (effect_of s tapes (calls.Replace id start len with))) may.0)
only_lanes s tapes (calls.Retain class key id note) only may = (may.0, may.1, ap (after_reply s tapes (calls.Retain class key id note)) may.0, ap (λ o. unless_refused o (effect_of s tapes (calls.Retain class key id note))) may.0)
only_lanes s tapes (calls.Forget class key) only may = (may.0, may.1, ap (after_reply s tapes (calls.Forget class key)) may.0, ap (λ o. unless_refused o (effect_of s tapes (calls.Forget class key))) may.0)
only_lanes s tapes (calls.Census keys) only may = (may.0, may.1, ap (after_reply s tapes (calls.Census keys)) may.0, ap (λ o. unless_refused o (effect_of s tapes (calls.Census keys))) may.0)
only_lanes s tapes (calls.Advance moment) only may = (may.0, may.1, ap (after_reply s tapes (calls.Advance moment)) may.0, ap (λ o. unless_refused o (effect_of s tapes (calls.Advance moment))) may.0)
only_lanes s tapes (calls.Sweep limit) only may = (may.0, may.1, ap (after_reply s tapes (calls.Sweep limit)) may.0, ap (λ o. unless_refused o (effect_of s tapes (calls.Sweep limit))) may.0)
only_lanes s tapes (calls.End lane) only may = cc
only_lanes s tapes (calls.Length id) only may = cc
only_lanes s tapes (calls.Describe id) only may = cc
only_lanes s tapes (calls.Levels id) only may = cc
only_lanes s tapes (calls.Play lane id start len) only may = cc
only_lanes s tapes (calls.Feed lane back) only may = cc
only_lanes s tapes (calls.Stop lane) only may = cc
only_lanes s tapes (calls.Lookup class key) only may = cc
only_lanes s tapes calls.Landed only may = cc
only_lanes s tapes (calls.Begin lane) only may = cc
only_lanes s tapes (calls.Add lane take) only may = cc

pub only_is_changing : (call : Call) → only_changes call ≡ true → is_changing call ≡ true
only_is_changing (calls.End lane) only = cc
only_is_changing call only = only

-- the change of such a call may be done
pub may_change : (own : Durable Tagged) (tapes : List (List ℕ)) (sender : Sender) (s : State) (call : Call) → only_changes call ≡ true → IsAbreastBy own tapes sender s → MayBeAnswered s tapes call → MayChange own tapes sender s call
may_change own tapes sender s call only abreast may =
    let h = only_lanes s tapes call only may in
    record { abreast = abreast; free = h.0; sure = is_sure s call (only_is_changing call only) h.1 }

pub alter_follows : (own : Durable Tagged) (tapes : List (List ℕ)) (old new : Sender) (s : State) (call : Call) (before after : List ℕ) → only_changes call ≡ true → IsAbreastBy own tapes old s → MayBeAnswered s tapes call → IsState (answered s tapes call)
    → HasChanged own old new before after (effect_of s tapes call) → new.shape ≡ old.shape → new.adds ≡ old.adds → new.doubt ≡ old.doubt → Follows tapes old new (answered s tapes call) before after (answered_effect s tapes call)
alter_follows own tapes old new s call before after only abreast may valid c shape adds doubt =
    let h = only_lanes s tapes call only may in
    let sure = is_sure s call (only_is_changing call only) h.1 in
    subst (Follows tapes old new (answered s tapes call) before after) (sym h.3)
    (follows_change own tapes old new s (answered s tapes call) before after (effect_of s tapes call)
    (record {
      in_shape = abreast.sound.in_shape ∙ sym shape;
      within = subst (λ (v : Vec Added Global). AreAdded tapes v.items) (sym adds) abreast.sound.within;
      like = abreast.like;
      taking = λ lane. abreast.taking lane ∙ ap (λ (v : Vec Added Global). bytes_taken tapes (takes_on v.items lane)) (sym adds);
      none = doubt ∙ none_kept own tapes old.parts.interests.spare old.doubt s.doubt abreast.doubt sure;
      sure = sure;
    })
    c h.2 valid)

-- ---- an End

pub may_end : (own : Durable Tagged) (tapes : List (List ℕ)) (sender : Sender) (s : State) (lane : ℕ) → IsAbreastBy own tapes sender s → MayBeAnswered s tapes (calls.End lane) → MayChange own tapes sender s (calls.End lane)
may_end own tapes sender s lane abreast may = record { abreast = abreast; free = may.0; sure = is_sure s (calls.End lane) refl may.1 }

pub end_follows : (own : Durable Tagged) (tapes : List (List ℕ)) (old new : Sender) (s : State) (lane : ℕ) (before after : List ℕ) → IsAbreastBy own tapes old s → MayBeAnswered s tapes (calls.End lane) → IsState (answered s tapes (calls.End lane))
    → HasChanged own old new before after (effect_of s tapes (calls.End lane)) → new.shape ≡ old.shape → new.adds.items ≡ others_than old.adds.items lane → new.doubt ≡ old.doubt → Follows tapes old new (answered s tapes (calls.End lane)) before after (answered_effect s tapes (calls.End lane))
end_follows own tapes old new s lane before after abreast may valid c shape adds doubt =
    let sure = is_sure s (calls.End lane) refl may.1 in
    subst (Follows tapes old new (answered s tapes (calls.End lane)) before after) (sym (ap (λ o. unless_refused o (effect_of s tapes (calls.End lane))) may.0))
    (follows_change own tapes old new (closed s lane) (answered s tapes (calls.End lane)) before after (effect_of s tapes (calls.End lane))
    (record {
      in_shape = abreast.sound.in_shape ∙ sym shape;
      within = subst (AreAdded tapes) (sym adds) (added_left tapes old.adds.items lane abreast.sound.within);
      like = abreast.like;
      taking = λ other. takings_closed tapes old.adds.items s lane abreast.taking other ∙ ap (λ l. bytes_taken tapes (takes_on l other)) (sym adds);
      none = doubt ∙ none_kept own tapes old.parts.interests.spare old.doubt s.doubt abreast.doubt sure;
      sure = sure;
    })
    c (ap (after_reply s tapes (calls.End lane)) may.0) valid)

-- ---- a landing

pub can_land : (own : Durable Tagged) (tapes : List (List ℕ)) (sender : Sender) (s : State) (next : Next) (pending : Pending) → IsAbreastBy own tapes sender s → sender.doubt ≡ Some next → s.doubt ≡ Some pending → CanBeDone own tapes sender.shape sender.parts next pending.effect
can_land own tapes sender s next pending h is e =
    let doubt = subst (λ (p : Option Pending). IsDoubt own tapes sender.parts.interests.spare (Some next) p) e (subst (λ (o : Option Next). IsDoubt own tapes sender.parts.interests.spare o s.doubt) is h.doubt) in
    let fits = subst (λ (p : Option Pending). IsPending s p) e h.valid.doubt in
    record {
      told = h.sound.told;
      is = doubt;
      fit = fit_like sender.parts.form own s.form s.kept pending.effect h.like (subst (λ f. IsFit f s.kept pending.effect) fits.0 fits.1);
      in_shape = h.sound.in_shape;
    }

-- the tables may have got room
pub can_still : (own : Durable Tagged) (tapes : List (List ℕ)) (shape : Shape) (old new : Parts) (next : Next) (e : Effect Tagged) → CanBeDone own tapes shape old next e → IsTold own new → new.form ≡ old.form → new.interests ≡ old.interests → CanBeDone own tapes shape new next e
can_still own tapes shape old new next e h told form interests = record {
  told = told;
  is = subst (λ n. IsNextOf own tapes n next e) (sym (ap (λ i. i.spare) interests)) h.is;
  fit = subst (λ f. IsFit f own e) (sym form) h.fit;
  in_shape = h.in_shape;
}

pub land_follows : (own : Durable Tagged) (tapes : List (List ℕ)) (old new : Sender) (s : State) (pending : Pending) (before after : List ℕ) → IsAbreastBy own tapes old s → s.doubt ≡ Some pending → IsState (answered s tapes calls.Landed) → HasChanged own old new before after (Some pending.effect) → new.shape ≡ old.shape → new.adds ≡ old.adds → new.doubt ≡ None
    → Follows tapes old new (answered s tapes calls.Landed) before after (answered_effect s tapes calls.Landed)
land_follows own tapes old new s pending before after abreast e valid c shape adds none =
    let fits = subst (λ (p : Option Pending). IsPending s p) e abreast.valid.doubt in
    let sure : State = record s { doubt = None } in
    subst (Follows tapes old new (answered s tapes calls.Landed) before after) (sym (ap effect_in_doubt e))
    (follows_change own tapes old new sure (answered s tapes calls.Landed) before after (Some pending.effect)
    (record {
      in_shape = abreast.sound.in_shape ∙ sym shape;
      within = subst (λ (v : Vec Added Global). AreAdded tapes v.items) (sym adds) abreast.sound.within;
      like = abreast.like;
      taking = λ lane. abreast.taking lane ∙ ap (λ (v : Vec Added Global). bytes_taken tapes (takes_on v.items lane)) (sym adds);
      none = none;
      sure = refl;
    })
    c (ap (after_landing sure) e ∙ ap (λ f. committed sure f pending.effect) fits.0) valid)

some_pending : (p : Option Pending) → is_some p ≡ true → (pending : Pending) × (p ≡ Some pending)
some_pending None e = cc
some_pending (Some pending) e = (pending, refl)

pub pending_of : (s : State) → is_some s.doubt ≡ true → (pending : Pending) × (s.doubt ≡ Some pending)
pending_of s e = some_pending s.doubt e

-- ---- an Add

pub add_follows : (own : Durable Tagged) (tapes : List (List ℕ)) (old new : Sender) (s : State) (lane : ℕ) (take : Take) (out : List ℕ) → IsAbreastBy own tapes old s → MayBeAnswered s tapes (calls.Add lane take) → HasTake tapes take → IsState (answered s tapes (calls.Add lane take))
    → new.adds.items ≡ old.adds.items ++ record { lane = lane; take = take } ∷ [] → new ≡ record old { adds = new.adds } → Follows tapes old new (answered s tapes (calls.Add lane take)) out out (answered_effect s tapes (calls.Add lane take))
add_follows own tapes old new s lane take out abreast may within valid adds rest =
    follows_none tapes old new (answered s tapes (calls.Add lane take)) out out (answered_effect s tapes (calls.Add lane take)) (own, there)
    (ap (λ o. unless_refused o None) may.0) refl (ap (λ (x : Sender). x.next) rest)
  where
    here : lane < length s.lanes
    here =
        let c = all_none (conditions s tapes (calls.Add lane take)) may.0 in
        let low = leb-false s.shape.lanes lane (not_when (nat_le s.shape.lanes lane) (why.UnknownLane s.shape.lanes) c.0) in
        let count = abreast.valid.lane_count in
        omega (arith, low, count)

    is : answered s tapes (calls.Add lane take) ≡ after_answer s tapes (calls.Add lane take)
    is = ap (after_reply s tapes (calls.Add lane take)) may.0

    parts : new.parts ≡ old.parts
    parts = ap (λ (x : Sender). x.parts) rest

    doubt : new.doubt ≡ old.doubt
    doubt = ap (λ (x : Sender). x.doubt) rest

    there : IsAbreastBy own tapes new (answered s tapes (calls.Add lane take))
    there = record {
      sound = record {
        told = subst (λ (p : Parts). IsTold own p) (sym parts) abreast.sound.told;
        in_shape = abreast.sound.in_shape ∙ sym (ap (λ (x : Sender). x.shape) rest);
        within = subst (AreAdded tapes) (sym adds) (added_within tapes old.adds.items (record { lane = lane; take = take }) abreast.sound.within within);
        doubt = subst (λ (p : Parts). IsMaybeNext own tapes p.form p.interests.spare new.doubt) (sym parts) (subst (λ (o : Option Next). IsMaybeNext own tapes old.parts.form old.parts.interests.spare o) (sym doubt) abreast.sound.doubt);
      };
      valid = valid;
      like = subst (λ (u : State). IsLike new.parts.form own u.form u.kept) (sym is) (subst (λ (p : Parts). IsLike p.form own s.form s.kept) (sym parts) abreast.like);
      taking = λ other. ap (λ (u : State). taking_of u other) is ∙ takings_added tapes old.adds.items s lane abreast.taking take here other ∙ ap (λ l. bytes_taken tapes (takes_on l other)) (sym adds);
      doubt = subst (λ (u : State). IsDoubt own tapes new.parts.interests.spare new.doubt u.doubt) (sym is)
          (subst (λ (p : Parts). IsDoubt own tapes p.interests.spare new.doubt s.doubt) (sym parts) (subst (λ (o : Option Next). IsDoubt own tapes old.parts.interests.spare o s.doubt) (sym doubt) abreast.doubt));
    }

-- ---- want of memory

-- but for the tables and the number nothing changed
pub record IsRest (old new : Sender) : Type 0 where
  pub shape : new.shape ≡ old.shape
  pub adds : new.adds ≡ old.adds
  pub doubt : new.doubt ≡ old.doubt

pub rest_by : (old new : Sender) → new ≡ record old { parts = new.parts; next = new.next } → IsRest old new
rest_by old new e = record { shape = ap (λ (x : Sender). x.shape) e; adds = ap (λ (x : Sender). x.adds) e; doubt = ap (λ (x : Sender). x.doubt) e }

pub rest_parts : (old new : Sender) → new ≡ record old { parts = new.parts } → IsRest old new
rest_parts old new e = record { shape = ap (λ (x : Sender). x.shape) e; adds = ap (λ (x : Sender). x.adds) e; doubt = ap (λ (x : Sender). x.doubt) e }

pub rest_then : (old mid new : Sender) → IsRest old mid → IsRest mid new → IsRest old new
rest_then old mid new h k = record { shape = k.shape ∙ h.shape; adds = k.adds ∙ h.adds; doubt = k.doubt ∙ h.doubt }

maybe_still : (own : Durable Tagged) (tapes : List (List ℕ)) (old new : Parts) (o : Option Next) → new.form ≡ old.form → (o ≡ None) ⊎ (new.interests ≡ old.interests) → IsMaybeNext own tapes old.form old.interests.spare o → IsMaybeNext own tapes new.form new.interests.spare o
maybe_still own tapes old new o form (inl none) h = subst (λ (p : Option Next). IsMaybeNext own tapes new.form new.interests.spare p) (sym none) tt
maybe_still own tapes old new o form (inr same) h = subst (λ f. IsMaybeNext own tapes f new.interests.spare o) (sym form) (subst (λ n. IsMaybeNext own tapes old.form n o) (sym (ap (λ i. i.spare) same)) h)

doubt_still : (own : Durable Tagged) (tapes : List (List ℕ)) (old new : Parts) (o : Option Next) (p : Option Pending) → (o ≡ None) ⊎ (new.interests ≡ old.interests) → IsDoubt own tapes old.interests.spare o p → IsDoubt own tapes new.interests.spare o p
doubt_still own tapes old new o p (inl none) h =
    let sure = none_pending own tapes old.interests.spare o p h none in
    subst (λ (q : Option Pending). IsDoubt own tapes new.interests.spare o q) (sym sure) (subst (λ (q : Option Next). IsDoubt own tapes new.interests.spare q None) (sym none) tt)
doubt_still own tapes old new o p (inr same) h = subst (λ n. IsDoubt own tapes n o p) (sym (ap (λ i. i.spare) same)) h

-- the tables may have got room, and nothing else changed
pub sound_still : (own : Durable Tagged) (tapes : List (List ℕ)) (old new : Sender) → IsSoundBy own tapes old → IsTold own new.parts → new.parts.form ≡ old.parts.form → IsRest old new → (old.doubt ≡ None) ⊎ (new.parts.interests ≡ old.parts.interests) → IsSoundBy own tapes new
sound_still own tapes old new h told form rest why = record {
  told = told;
  in_shape = h.in_shape ∙ sym rest.shape;
  within = subst (λ (v : Vec Added Global). AreAdded tapes v.items) (sym rest.adds) h.within;
  doubt = subst (λ (o : Option Next). IsMaybeNext own tapes new.parts.form new.parts.interests.spare o) (sym rest.doubt) (maybe_still own tapes old.parts new.parts old.doubt form why h.doubt);
}

pub abreast_after : (own : Durable Tagged) (tapes : List (List ℕ)) (old new : Sender) (s : State) → IsAbreastBy own tapes old s → IsTold own new.parts → new.parts.form ≡ old.parts.form → IsRest old new → (old.doubt ≡ None) ⊎ (new.parts.interests ≡ old.parts.interests) → IsAbreastBy own tapes new s
abreast_after own tapes old new s h told form rest why = record {
  sound = sound_still own tapes old new h.sound told form rest why;
  valid = h.valid;
  like = subst (λ f. IsLike f own s.form s.kept) (sym form) h.like;
  taking = λ lane. h.taking lane ∙ ap (λ (v : Vec Added Global). bytes_taken tapes (takes_on v.items lane)) (sym rest.adds);
  doubt = subst (λ (o : Option Next). IsDoubt own tapes new.parts.interests.spare o s.doubt) (sym rest.doubt) (doubt_still own tapes old.parts new.parts old.doubt s.doubt why h.doubt);
}

-- the same takes in another place
pub sound_same : (own : Durable Tagged) (tapes : List (List ℕ)) (old : Sender) (adds : Vec Added Global) → adds.items ≡ old.adds.items → IsSoundBy own tapes old → IsSoundBy own tapes (record old { adds = adds })
sound_same own tapes old adds e h = record { told = h.told; in_shape = h.in_shape; within = subst (AreAdded tapes) (sym e) h.within; doubt = h.doubt }

pub abreast_same : (own : Durable Tagged) (tapes : List (List ℕ)) (old : Sender) (s : State) (adds : Vec Added Global) → adds.items ≡ old.adds.items → IsAbreastBy own tapes old s → IsAbreastBy own tapes (record old { adds = adds }) s
abreast_same own tapes old s adds e h = record {
  sound = sound_same own tapes old adds e h.sound;
  valid = h.valid;
  like = h.like;
  taking = λ lane. h.taking lane ∙ ap (λ l. bytes_taken tapes (takes_on l lane)) (sym e);
  doubt = h.doubt;
}

-- ---- in doubt

doubt_asked : (own : Durable Tagged) (tapes : List (List ℕ)) (spare form : ℕ) (o : Option Next) (made : Option (Effect Tagged)) → MayBeNextOf own tapes spare o made → IsDoubt own tapes spare o (asked_in form made)
doubt_asked own tapes spare form None None h = tt
doubt_asked own tapes spare form (Some next) (Some e) h = h
doubt_asked own tapes spare form None (Some e) h = absurd h
doubt_asked own tapes spare form (Some next) None h = absurd h

-- what was added is left as the call's recording is closed
abbrev pub left_of : List Added → Call → List Added
left_of adds (calls.End lane) = others_than adds lane
left_of adds call = adds

closed_like : (ours : ℕ) (own : Durable Tagged) (s : State) (call : Call) → IsLike ours own s.form s.kept → IsLike ours own (recording_closed s call).form (recording_closed s call).kept
closed_like ours own s (calls.End lane) h = h
closed_like ours own s call h = h

closed_taking : (tapes : List (List ℕ)) (adds : List Added) (s : State) (call : Call) → ((l : ℕ) → taking_of s l ≡ bytes_taken tapes (takes_on adds l)) → (l : ℕ) → taking_of (recording_closed s call) l ≡ bytes_taken tapes (takes_on (left_of adds call) l)
closed_taking tapes adds s (calls.End lane) h l = takings_closed tapes adds s lane h l
closed_taking tapes adds s call h l = h l

pub left_within : (tapes : List (List ℕ)) (adds : List Added) (call : Call) → AreAdded tapes adds → AreAdded tapes (left_of adds call)
left_within tapes adds (calls.End lane) h = added_left tapes adds lane h
left_within tapes adds call h = h

-- the sender that holds a change in doubt
pub record Holds (tapes : List (List ℕ)) (old new : Sender) (call : Call) : Type 0 where
  pub shape : new.shape ≡ old.shape
  pub form : new.parts.form ≡ old.parts.form
  pub adds : new.adds.items ≡ left_of old.adds.items call

pub holds_sound : (own : Durable Tagged) (tapes : List (List ℕ)) (old new : Sender) (call : Call) → Holds tapes old new call → IsSoundBy own tapes old → IsTold own new.parts → IsMaybeNext own tapes new.parts.form new.parts.interests.spare new.doubt → IsSoundBy own tapes new
holds_sound own tapes old new call h sound told doubt = record {
  told = told;
  in_shape = sound.in_shape ∙ sym h.shape;
  within = subst (AreAdded tapes) (sym h.adds) (left_within tapes old.adds.items call sound.within);
  doubt = doubt;
}

pub holds_follows : (own : Durable Tagged) (tapes : List (List ℕ)) (old new : Sender) (s : State) (call : Call) → Holds tapes old new call → IsAbreastBy own tapes old s → IsSoundBy own tapes new → IsState (doubted s tapes call) → MayBeNextOf own tapes new.parts.interests.spare new.doubt (effect_of s tapes call) → IsAbreastBy own tapes new (doubted s tapes call)
holds_follows own tapes old new s call h abreast sound valid next = record {
  sound = sound;
  valid = valid;
  like = subst (λ f. IsLike f own (recording_closed s call).form (recording_closed s call).kept) (sym h.form) (closed_like old.parts.form own s call abreast.like);
  taking = λ lane. closed_taking tapes old.adds.items s call abreast.taking lane ∙ ap (λ l. bytes_taken tapes (takes_on l lane)) (sym h.adds);
  doubt = doubt_asked own tapes new.parts.interests.spare s.form new.doubt (effect_of s tapes call) next;
}

-- ---- the change of a call

pub made_none : (own : Durable Tagged) (tapes : List (List ℕ)) (spare : ℕ) (made : Option (Effect Tagged)) → MayBeNextOf own tapes spare None made → made ≡ None
made_none own tapes spare None h = refl
made_none own tapes spare (Some e) h = absurd h

pub made_some : (own : Durable Tagged) (tapes : List (List ℕ)) (spare : ℕ) (next : Next) (made : Option (Effect Tagged)) → MayBeNextOf own tapes spare (Some next) made → (e : Effect Tagged) × (made ≡ Some e) × IsNextOf own tapes spare next e
made_some own tapes spare next None h = absurd h
made_some own tapes spare next (Some e) h = (e, refl, h)

-- the tables may have got room since it was made ready
pub can_some : (own : Durable Tagged) (tapes : List (List ℕ)) (shape : Shape) (made parts : Parts) (next : Next) (h : IsSomeNext own tapes made.form made.interests.spare next) → IsTold own parts → parts.form ≡ made.form → parts.interests ≡ made.interests → own.shape ≡ shape → CanBeDone own tapes shape parts next h.effect
can_some own tapes shape made parts next h told form interests same = record {
  told = told;
  is = subst (λ n. IsNextOf own tapes n next h.effect) (sym (ap (λ i. i.spare) interests)) h.is;
  fit = subst (λ f. IsFit f own h.effect) (sym form) h.fit;
  in_shape = same;
}

pub can_call : (own : Durable Tagged) (tapes : List (List ℕ)) (sender : Sender) (s : State) (call : Call) (made parts : Parts) (next : Next) (e : Effect Tagged) → MayChange own tapes sender s call → InRange call → effect_of s tapes call ≡ Some e → IsNextOf own tapes made.interests.spare next e → IsTold own parts → made.form ≡ sender.parts.form → parts.form ≡ made.form
    → parts.interests ≡ made.interests → CanBeDone own tapes sender.shape parts next e
can_call own tapes sender s call made parts next e may range is next_is told first form interests = record {
  told = told;
  is = subst (λ n. IsNextOf own tapes n next e) (sym (ap (λ i. i.spare) interests)) next_is;
  fit = subst (λ f. IsFit f own e) (sym (form ∙ first)) (fit_like sender.parts.form own s.form s.kept e may.abreast.like (subst (MayFit s.form s.kept) is (fit_call s tapes call may.abreast.valid range may.free)));
  in_shape = may.abreast.sound.in_shape;
}

pub has_changed : (own : Durable Tagged) (old new : Sender) (before after : List ℕ) (made : Option (Effect Tagged)) (e : Effect Tagged) → made ≡ Some e → IsTold (changed old.parts.form own e) new.parts → new.parts.form ≡ old.parts.form → after ≡ before ++ packet_spelling (packet_of_effect old.next e) → new.next ≡ old.next + 1 → HasChanged own old new before after made
has_changed own old new before after made e is told form bytes next =
    subst (HasChanged own old new before after) (sym is)
    (record { told = told; form = form; bytes = bytes ∙ ap (λ l. before ++ l) (sym (append-nil (packet_spelling (packet_of_effect old.next e)))); next = next })

pub has_not : (own : Durable Tagged) (old new : Sender) (out : List ℕ) (made : Option (Effect Tagged)) → made ≡ None → IsTold own new.parts → new.parts.form ≡ old.parts.form → new.next ≡ old.next → HasChanged own old new out out made
has_not own old new out made is told form next =
    subst (HasChanged own old new out out) (sym is)
    (record { told = told; form = form; bytes = sym (append-nil out); next = omega (arith, next) })

pub sound_changed : (own : Durable Tagged) (tapes : List (List ℕ)) (old new : Sender) (e : Effect Tagged) → IsSoundBy own tapes old → IsTold (changed old.parts.form own e) new.parts → new.shape ≡ old.shape → AreAdded tapes new.adds.items → new.doubt ≡ None → IsSound tapes new
sound_changed own tapes old new e h told shape within none = (
  changed old.parts.form own e,
  record {
    told = told;
    in_shape = own_shape old.parts.form own e ∙ h.in_shape ∙ sym shape;
    within = within;
    doubt = subst (λ (o : Option Next). IsMaybeNext (changed old.parts.form own e) tapes new.parts.form new.parts.interests.spare o) (sym none) tt;
  },
)

-- what is ready is ready for some effect
pub some_next : (own : Durable Tagged) (tapes : List (List ℕ)) (sender : Sender) (next : Next) → IsSoundBy own tapes sender → sender.doubt ≡ Some next → IsSomeNext own tapes sender.parts.form sender.parts.interests.spare next
some_next own tapes sender next h is = subst (λ (o : Option Next). IsMaybeNext own tapes sender.parts.form sender.parts.interests.spare o) is h.doubt

-- others of what was added are left as a recording is closed
pub sound_left : (tapes : List (List ℕ)) (old new : Sender) (lane : ℕ) → IsSound tapes old → new ≡ record old { adds = new.adds } → new.adds.items ≡ others_than old.adds.items lane → IsSound tapes new
sound_left tapes old new lane h rest adds = (
  h.0,
  record {
    told = subst (λ (p : Parts). IsTold h.0 p) (sym parts) h.1.told;
    in_shape = h.1.in_shape ∙ sym (ap (λ (x : Sender). x.shape) rest);
    within = subst (AreAdded tapes) (sym adds) (added_left tapes old.adds.items lane h.1.within);
    doubt = subst (λ (p : Parts). IsMaybeNext h.0 tapes p.form p.interests.spare new.doubt) (sym parts) (subst (λ (o : Option Next). IsMaybeNext h.0 tapes old.parts.form old.parts.interests.spare o) (sym (ap (λ (x : Sender). x.doubt) rest)) h.1.doubt);
  },
)
  where
    parts : new.parts ≡ old.parts
    parts = ap (λ (x : Sender). x.parts) rest

pub sound_added : (tapes : List (List ℕ)) (old new : Sender) (a : Added) → IsSound tapes old → HasTake tapes a.take → new ≡ record old { adds = new.adds } → new.adds.items ≡ old.adds.items ++ a ∷ [] → IsSound tapes new
sound_added tapes old new a h within rest adds = (
  h.0,
  record {
    told = subst (λ (p : Parts). IsTold h.0 p) (sym parts) h.1.told;
    in_shape = h.1.in_shape ∙ sym (ap (λ (x : Sender). x.shape) rest);
    within = subst (AreAdded tapes) (sym adds) (added_within tapes old.adds.items a h.1.within within);
    doubt = subst (λ (p : Parts). IsMaybeNext h.0 tapes p.form p.interests.spare new.doubt) (sym parts) (subst (λ (o : Option Next). IsMaybeNext h.0 tapes old.parts.form old.parts.interests.spare o) (sym (ap (λ (x : Sender). x.doubt) rest)) h.1.doubt);
  },
)
  where
    parts : new.parts ≡ old.parts
    parts = ap (λ (x : Sender). x.parts) rest

-- an End that is answered takes what was added on its lane
pub end_takes : (own : Durable Tagged) (tapes : List (List ℕ)) (sender : Sender) (s : State) (lane : ℕ) → IsAbreastBy own tapes sender s → effect_of s tapes (calls.End lane) ≡ Some (Recorded s.next (recording s.next (bytes_taken tapes (takes_on sender.adds.items lane))))
end_takes own tapes sender s lane h = ap (λ l. Some (Recorded s.next (recording s.next l))) (h.taking lane)

-- a recording is not too long, and has a number
pub end_fits : (own : Durable Tagged) (tapes : List (List ℕ)) (sender : Sender) (s : State) (lane : ℕ) → MayChange own tapes sender s (calls.End lane) → (own.next ≤ 2 ^ 48) × (length (bytes_taken tapes (takes_on sender.adds.items lane)) ≤ 2 ^ 30)
end_fits own tapes sender s lane may =
    let fit = fit_like sender.parts.form own s.form s.kept (Recorded s.next (recording s.next (bytes_taken tapes (takes_on sender.adds.items lane)))) may.abreast.like (subst (MayFit s.form s.kept) (end_takes own tapes sender s lane may.abreast) (fit_call s tapes (calls.End lane) may.abreast.valid tt may.free)) in
    let same = like_next sender.parts.form own s.form s.kept may.abreast.like in
    (let number = fit.number in omega (arith, same, number), subst (λ n. n ≤ 2 ^ 30) (recorded_length s.next 0 (bytes_taken tapes (takes_on sender.adds.items lane))) fit.long)

pub record_fits : (own : Durable Tagged) (tapes : List (List ℕ)) (sender : Sender) (s : State) (take : Take) → MayChange own tapes sender s (calls.Record take) → (own.next ≤ 2 ^ 48) × (length (taken tapes take) ≤ 2 ^ 30)
record_fits own tapes sender s take may =
    let fit = fit_like sender.parts.form own s.form s.kept (Recorded s.next (recording s.next (taken tapes take))) may.abreast.like (fit_call s tapes (calls.Record take) may.abreast.valid tt may.free) in
    let same = like_next sender.parts.form own s.form s.kept may.abreast.like in
    (let number = fit.number in omega (arith, same, number), subst (λ n. n ≤ 2 ^ 30) (recorded_length s.next 0 (taken tapes take)) fit.long)

-- the recording of one take, and that of what was added on a lane, are what the calls make
pub record_effect : (own : Durable Tagged) (tapes : List (List ℕ)) (sender : Sender) (s : State) (take : Take) (takes : List Take) → takes ≡ take ∷ [] → MayChange own tapes sender s (calls.Record take) → Some (Recorded own.next (recording own.next (bytes_taken tapes takes))) ≡ effect_of s tapes (calls.Record take)
record_effect own tapes sender s take takes one may =
    ap₂ (λ n l. Some (Recorded n (recording n l))) (like_next sender.parts.form own s.form s.kept may.abreast.like) (ap (bytes_taken tapes) one ∙ append-nil (taken tapes take))

pub record_short : (own : Durable Tagged) (tapes : List (List ℕ)) (sender : Sender) (s : State) (take : Take) (takes : List Take) → takes ≡ take ∷ [] → MayChange own tapes sender s (calls.Record take) → length (bytes_taken tapes takes) ≤ 2 ^ 30
record_short own tapes sender s take takes one may = subst (λ l. length l ≤ 2 ^ 30) (sym (ap (bytes_taken tapes) one ∙ append-nil (taken tapes take))) (record_fits own tapes sender s take may).1

pub end_effect : (own : Durable Tagged) (tapes : List (List ℕ)) (sender : Sender) (s : State) (lane : ℕ) (takes : List Take) → takes ≡ takes_on sender.adds.items lane → MayChange own tapes sender s (calls.End lane) → Some (Recorded own.next (recording own.next (bytes_taken tapes takes))) ≡ effect_of s tapes (calls.End lane)
end_effect own tapes sender s lane takes same may =
    ap₂ (λ n l. Some (Recorded n (recording n l))) (like_next sender.parts.form own s.form s.kept may.abreast.like) (ap (bytes_taken tapes) same ∙ sym (may.abreast.taking lane))

pub end_short : (own : Durable Tagged) (tapes : List (List ℕ)) (sender : Sender) (s : State) (lane : ℕ) (takes : List Take) → takes ≡ takes_on sender.adds.items lane → MayChange own tapes sender s (calls.End lane) → length (bytes_taken tapes takes) ≤ 2 ^ 30
end_short own tapes sender s lane takes same may = subst (λ l. length (bytes_taken tapes l) ≤ 2 ^ 30) (sym same) (end_fits own tapes sender s lane may).1

-- the call is asked of the tables
pub asks : (own : Durable Tagged) (tapes : List (List ℕ)) (sender : Sender) (s : State) (call : Call) → MayChange own tapes sender s call → Asks own sender.parts tapes s call
asks own tapes sender s call may = record { like = may.abreast.like; valid = may.abreast.valid; free = may.free; sure = may.sure }

-- ---- small steps

pub rest_sent : (old new : Sender) (n : ℕ) → new ≡ record old { parts = new.parts; next = n } → IsRest old new
rest_sent old new n e = record { shape = ap (λ (x : Sender). x.shape) e; adds = ap (λ (x : Sender). x.adds) e; doubt = ap (λ (x : Sender). x.doubt) e }

pub none_here : (o : Option Next) → is_some o ≡ false → o ≡ None
none_here None e = refl
none_here (Some next) e = cc

pub same_next : (m n : Next) → Some m ≡ Some n → m ≡ n
same_next m n e = ap (λ (o : Option Next). unwrap_or o m) e

-- an effect is one of a call that can make a change
pub changes_some : (s : State) (tapes : List (List ℕ)) (call : Call) → is_some (effect_of s tapes call) ≡ true → is_changing call ≡ true
changes_some s tapes (calls.Record take) e = refl
changes_some s tapes (calls.Concat ids) e = refl
changes_some s tapes (calls.Sub id start len) e = refl
changes_some s tapes (calls.Replace id start len with) e = refl
changes_some s tapes (calls.End lane) e = refl
changes_some s tapes (calls.Retain class key id note) e = refl
changes_some s tapes (calls.Forget class key) e = refl
changes_some s tapes (calls.Census keys) e = refl
changes_some s tapes (calls.Advance moment) e = refl
changes_some s tapes (calls.Sweep limit) e = refl
changes_some s tapes call e = cc

pub left_some : (adds : List Added) (call : Call) (left : Vec Added Global) → IsLeft adds call (Some left) → left.items ≡ left_of adds call
left_some adds (calls.End lane) left h = h
left_some adds call left h = absurd h

pub left_none : (adds : List Added) (call : Call) → IsLeft adds call None → adds ≡ left_of adds call
left_none adds (calls.End lane) h = absurd h
left_none adds call h = refl

-- the change of a call that may be in doubt
pub hold_change : (own : Durable Tagged) (tapes : List (List ℕ)) (sender : Sender) (s : State) (call : Call) → IsAbreastBy own tapes sender s → MayHold tapes sender s call → MayChange own tapes sender s call
hold_change own tapes sender s call abreast may = record { abreast = abreast; free = may.free; sure = may.sure }
