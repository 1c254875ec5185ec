-- Whole histories, one entry after another.
use Rattle.std.proofs.Common.{◌≡◌, ℕ, zero, suc, ◌+◌, ◌<◌, ◌≤◌, List, [], ◌∷◌, ◌++◌, length, take, get_or, Option, Some, None, refl, sym, ◌∙◌, ap, subst, arith, length-append, append_assoc}
use Rattle.std.proofs.lemmas.List.{append-nil}
use Rattle.voice_model.specs.Samples.{Tagged}
use Rattle.voice_model.specs.State.{State, Effect}
use Rattle.voice_model.specs.Step.{state_after, after, Legal, IsAnswer}
use Rattle.voice_model.specs.Valid.{InRange}
use Rattle.voice_model.specs.declared.calls.Entry.{Entry}
use Rattle.mirror_packets.specs.Packets.{Packet, packet_spelling, packets_spelling}
use Rattle.mirror_sender.specs.declared.sender.Sender.{Sender}
use Rattle.mirror_packets.specs.Effects.{packet_of_effect, packets_from}
use Rattle.mirror_sender.specs.Sent.{sent, packets_of, changes_of, with_effect}
use Rattle.mirror_sender.specs.Abreast.{IsAbreast, IsWithin, AreWithin, MayNote, Follows, FollowsAll, FollowsSome}
use Rattle.mirror_sender.proofs.Lists.{every_get}

-- ---- lists

-- so many elements and one more
pub take_more : {A : Type 0} (xs : List A) (k : ℕ) (x : A) → k < length xs → take (k + 1) xs ≡ take k xs ++ get_or xs k x ∷ []
take_more [] k x lt = absurd (omega arith)
take_more (y ∷ xs) zero x lt = refl
take_more (y ∷ xs) (suc k) x lt = let more : suc k + 1 ≡ suc (k + 1) = omega arith in ap (λ n. take n (y ∷ xs)) more ∙ ap (λ l. y ∷ l) (take_more xs k x (omega arith))

pub take_whole : {A : Type 0} (xs : List A) (k : ℕ) → length xs ≤ k → take k xs ≡ xs
take_whole [] zero le = refl
take_whole [] (suc k) le = refl
take_whole (y ∷ xs) zero le = absurd (omega arith)
take_whole (y ∷ xs) (suc k) le = ap (λ l. y ∷ l) (take_whole xs k (omega arith))

-- ---- histories

after_more : (s : State) (tapes : List (List ℕ)) (es fs : List Entry) → after s tapes (es ++ fs) ≡ after (after s tapes es) tapes fs
after_more s tapes [] fs = refl
after_more s tapes (e ∷ es) fs = after_more (state_after s tapes e) tapes es fs

with_more : (made : Option (Effect Tagged)) (xs ys : List (Effect Tagged)) → with_effect made (xs ++ ys) ≡ with_effect made xs ++ ys
with_more None xs ys = refl
with_more (Some effect) xs ys = refl

changes_more : (s : State) (tapes : List (List ℕ)) (es fs : List Entry) → changes_of s tapes (es ++ fs) ≡ changes_of s tapes es ++ changes_of (after s tapes es) tapes fs
changes_more s tapes [] fs = refl
changes_more s tapes (e ∷ es) fs =
    ap (with_effect (sent s tapes e)) (changes_more (state_after s tapes e) tapes es fs)
    ∙ with_more (sent s tapes e) (changes_of (state_after s tapes e) tapes es) (changes_of (after s tapes (e ∷ es)) tapes fs)

-- each entry may come after the ones before it
pub legal_at : (s : State) (tapes : List (List ℕ)) (es : List Entry) (k : ℕ) (e : Entry) → Legal s tapes es → k < length es → IsAnswer (after s tapes (take k es)) tapes (get_or es k e)
legal_at s tapes [] k e h lt = absurd (omega arith)
legal_at s tapes (x ∷ es) zero e h lt = h.0
legal_at s tapes (x ∷ es) (suc k) e h lt = legal_at (state_after s tapes x) tapes es k e h.1 (omega arith)

-- ---- packets

packets_more : (n m : ℕ) (xs ys : List (Effect Tagged)) → m ≡ n + length xs → packets_spelling (packets_from n (xs ++ ys)) ≡ packets_spelling (packets_from n xs) ++ packets_spelling (packets_from m ys)
packets_more n m [] ys e = ap (λ k. packets_spelling (packets_from k ys)) (omega (arith, e))
packets_more n m (x ∷ xs) ys e =
    ap (λ l. packet_spelling (packet_of_effect n x) ++ l) (packets_more (n + 1) m xs ys (omega (arith, e)))
    ∙ sym (append_assoc (packet_spelling (packet_of_effect n x)) (packets_spelling (packets_from (n + 1) xs)) (packets_spelling (packets_from m ys)))

one_effect : (n : ℕ) (made : Option (Effect Tagged)) → packets_from n (with_effect made []) ≡ packets_of n made
one_effect n None = refl
one_effect n (Some effect) = refl

same_count : (n : ℕ) (made : Option (Effect Tagged)) → length (with_effect made []) ≡ length (packets_of n made)
same_count n None = refl
same_count n (Some effect) = refl

-- ---- what a sender follows

-- before the first entry
pub follows_first : (tapes : List (List ℕ)) (sender : Sender) (s : State) (out : List ℕ) → IsAbreast tapes sender s → FollowsAll tapes sender sender s out out []
follows_first tapes sender s out h = record { abreast = h; bytes = sym (append-nil out); next = omega arith }

-- one entry more
pub follows_more : (tapes : List (List ℕ)) (old mid new : Sender) (s : State) (es : List Entry) (k : ℕ) (e : Entry) (before between behind : List ℕ) → k < length es → e ≡ get_or es k e
    → FollowsAll tapes old mid (after s tapes (take k es)) before between (changes_of s tapes (take k es))
    → Follows tapes mid new (state_after (after s tapes (take k es)) tapes e) between behind (sent (after s tapes (take k es)) tapes e)
    → FollowsAll tapes old new (after s tapes (take (k + 1) es)) before behind (changes_of s tapes (take (k + 1) es))
follows_more tapes old mid new s es k e before between behind lt is h f =
    let front = take k es in
    let here = after s tapes front in
    let made = sent here tapes e in
    let done = changes_of s tapes front in
    let first = h.next in
    let last = f.next in
    let count = same_count mid.next made in
    let sum = length-append done (with_effect made []) in
    subst (λ (l : List Entry). FollowsAll tapes old new (after s tapes l) before behind (changes_of s tapes l)) (ap (λ x. front ++ x ∷ []) is ∙ sym (take_more es k e lt))
    (subst (λ (l : List (Effect Tagged)). FollowsAll tapes old new (after s tapes (front ++ e ∷ [])) before behind l) (sym (changes_more s tapes front (e ∷ [])))
    (record {
      abreast = subst (IsAbreast tapes new) (sym (after_more s tapes front (e ∷ []))) f.abreast;
      bytes = joined before between behind (packets_spelling (packets_from old.next done)) (packets_spelling (packets_of mid.next made)) (packets_spelling (packets_from old.next (done ++ with_effect made []))) h.bytes f.bytes
          (packets_more old.next mid.next done (with_effect made []) first ∙ ap (λ (ps : List Packet). packets_spelling (packets_from old.next done) ++ packets_spelling ps) (one_effect mid.next made));
      next = omega (arith, first, last, count, sum);
    }))
  where
    joined : (before between behind first second both : List ℕ) → between ≡ before ++ first → behind ≡ between ++ second → both ≡ first ++ second → behind ≡ before ++ both
    joined before between behind first second both d e f = e ∙ ap (λ l. l ++ second) d ∙ append_assoc before first second ∙ ap (λ l. before ++ l) (sym f)

-- all entries
pub follows_whole : (tapes : List (List ℕ)) (old new : Sender) (s : State) (es : List Entry) (k : ℕ) (before behind : List ℕ) → length es ≤ k
    → FollowsAll tapes old new (after s tapes (take k es)) before behind (changes_of s tapes (take k es)) → FollowsAll tapes old new (after s tapes es) before behind (changes_of s tapes es)
follows_whole tapes old new s es k before behind le h = subst (λ (l : List Entry). FollowsAll tapes old new (after s tapes l) before behind (changes_of s tapes l)) (take_whole es k le) h

-- the next entry may come
pub may_follow : (tapes : List (List ℕ)) (sender : Sender) (s : State) (es : List Entry) (k : ℕ) (e : Entry) → k < length es → e ≡ get_or es k e → IsAbreast tapes sender (after s tapes (take k es)) → AreWithin tapes es → Legal s tapes es
    → MayNote tapes sender (after s tapes (take k es)) e
may_follow tapes sender s es k e lt is h within legal = record {
  abreast = h;
  range = subst (λ (x : Entry). InRange x.call) (sym is) (every_get (λ (x : Entry). InRange x.call × IsWithin tapes x.call) es k e within lt).0;
  answer = subst (λ (x : Entry). IsAnswer (after s tapes (take k es)) tapes x) (sym is) (legal_at s tapes es k e legal lt);
}

-- after want of memory
pub follows_some : (tapes : List (List ℕ)) (old mid new : Sender) (s : State) (es : List Entry) (k : ℕ) (before between behind : List ℕ)
    → FollowsAll tapes old mid (after s tapes (take k es)) before between (changes_of s tapes (take k es)) → IsAbreast tapes new (after s tapes (take k es)) → behind ≡ between → new.next ≡ mid.next
    → FollowsSome tapes old new s es before behind
follows_some tapes old mid new s es k before between behind h abreast same next = record { count = k; first = record { abreast = abreast; bytes = same ∙ h.bytes; next = next ∙ h.next } }
