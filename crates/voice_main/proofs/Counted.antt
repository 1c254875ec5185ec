-- A store's history of one census.
use Rattle.std.proofs.Common.{◌≡◌, ℕ, inl, inr, Bool, true, false, cond, not, List, [], ◌∷◌, length, Option, Some, None, Result, Ok, Err, refl, sym, ap, subst}
use Rattle.std.specs.Result.{is_ok}
use Rattle.std.specs.Prelude.{IsTrue, IfOk, OnErr, ◌&&◌, ◌==◌, is_some}
use Rattle.std.specs.Arc.{arc_value}
use Rattle.voice_outside.specs.Disk.{Told}
use Rattle.voice_model.specs.Samples.{Tagged}
use Rattle.voice_model.specs.State.{State, Durable, class_number, opened}
use Rattle.voice_model.specs.State.Effect.{Counted}
use Rattle.voice_model.specs.Image as image
use Rattle.voice_model.specs.Changes.{unlisted_keys, rows_left, unless_empty}
use Rattle.voice_model.specs.Step.{Outcome, MayReply, IsReply, refusal, reply_by, after_reply, with_change, state_after}
use Rattle.voice_model.specs.Heard.{IsReplyOn, LegalOn, unheard}
use Rattle.voice_model.specs.declared.calls.Call.TheVariants as calls
use Rattle.voice_model.specs.declared.calls.Reply.{Reply}
use Rattle.voice_model.specs.declared.calls.Reply.TheVariants as replies
use Rattle.voice_model.specs.declared.calls.Why.{Why}
use Rattle.voice_model.specs.declared.calls.Row.{Row}
use Rattle.voice_model.specs.declared.calls.Entry.{Entry}
use Rattle.voice_store.specs.declared.inside.Inside.{Inside}
use Rattle.voice_store.specs.Shown.{Stands}
use Rattle.voice_store.specs.Facts.{Adds, AddsLanding, entry_of, landing_at}
use Rattle.voice_main.specs.Ran.{Performed}
use Rattle.voice_main.specs.Notes.{AreLandings, AreCounted, IsOneCensus, IsNoCensus, IsCensusSoFar}
use Rattle.voice_main.proofs.Came.{performed_by, legal_of}
use Rattle.voice_main.proofs.Followed.{parts}

-- ---- rows

stays : (b : Bool) (row : Row) (rest rows : List Row) → rest ≡ rows → cond (not (b && false)) (row ∷ rest) rest ≡ row ∷ rows
stays true row rest rows same = ap (λ l. row ∷ l) same
stays false row rest rows same = ap (λ l. row ∷ l) same

-- no key, no row less
all_left : (rows : List Row) → rows_left rows [] ≡ rows
all_left [] = refl
all_left (row ∷ rows) = stays (class_number row.class == 3) row (rows_left rows []) rows (all_left rows)

rows_of_change : (s : State) (gone : List (List ℕ)) → (with_change s s.form (unless_empty gone (Counted gone))).rows ≡ rows_left s.rows gone
rows_of_change s [] = sym (all_left s.rows)
rows_of_change s (key ∷ gone) = refl

counted_by : (s : State) (keys : List (List ℕ)) (n : ℕ) (why : Option Why) → replies.Number n ≡ reply_by s [] (calls.Census keys) why → AreCounted keys s (after_reply s [] (calls.Census keys) why) n
counted_by s keys n None e = let number : n ≡ length (unlisted_keys s.rows keys) = cc in record { rows = rows_of_change s (unlisted_keys s.rows keys); number = number }
counted_by s keys n (Some why) e = cc

answer_of : (s : State) (keys : List (List ℕ)) (n : ℕ) → MayReply Outcome.Answered s [] (calls.Census keys) (replies.Number n) → replies.Number n ≡ reply_by s [] (calls.Census keys) (refusal s [] (calls.Census keys))
answer_of s keys n h = h.1

counted_right : (s : State) (keys : List (List ℕ)) (n ack : ℕ) → IsReply s [] 1 (calls.Census keys) (replies.Number n) → AreCounted keys s (state_after s [] (entry_of 1 (calls.Census keys) (replies.Number n) ack)) n
counted_right s keys n ack h = counted_by s keys n (refusal s [] (calls.Census keys)) (answer_of s keys n h.1)

-- a reply that is a number but for what was read is a number
number_heard : (right : Reply) (n : ℕ) → unheard right ≡ replies.Number n → right ≡ replies.Number n
number_heard (replies.Talk spans) n e = cc
number_heard (replies.Peaks most) n e = cc
number_heard replies.Done n e = e
number_heard (replies.Number m) n e = e
number_heard (replies.No why) n e = e
number_heard (replies.Rope id len) n e = e
number_heard (replies.Job job) n e = e
number_heard (replies.Window at len) n e = e
number_heard (replies.Ended job at) n e = e
number_heard (replies.Stopped job at) n e = e
number_heard (replies.Found rope note) n e = e
number_heard (replies.Swept rows ropes) n e = e

right_on : (honest : Bool) (s : State) (keys : List (List ℕ)) (n : ℕ) → IsReplyOn honest s [] 1 (calls.Census keys) (replies.Number n) → IsReply s [] 1 (calls.Census keys) (replies.Number n)
right_on true s keys n h = h
right_on false s keys n h = subst (λ r. IsReply s [] 1 (calls.Census keys) r) (number_heard h.right n h.alike) h.answer

counted_on : (honest : Bool) (s : State) (keys : List (List ℕ)) (reply : Reply) (n ack : ℕ) → IsReplyOn honest s [] 1 (calls.Census keys) reply → reply ≡ replies.Number n → AreCounted keys s (state_after s [] (entry_of 1 (calls.Census keys) reply ack)) n
counted_on honest s keys reply n ack h is =
    let there : IsReplyOn honest s [] 1 (calls.Census keys) (replies.Number n) = subst (λ r. IsReplyOn honest s [] 1 (calls.Census keys) r) is h in
    subst (λ r. AreCounted keys s (state_after s [] (entry_of 1 (calls.Census keys) r ack)) n) (sym is) (counted_right s keys n ack (right_on honest s keys n there))

-- ---- entries

sure_by : (kept : Durable Tagged) (left epoch form : ℕ) (first : State) → Some (opened kept left epoch form) ≡ Some first → first.doubt ≡ None
sure_by kept left epoch form first e = let same : opened kept left epoch form ≡ first = cc in sym (ap (λ (s : State). s.doubt) same)

-- a state that was just opened has nothing in doubt
opened_sure : (bytes : List ℕ) (first : State) → image.opened_from bytes ≡ Some first → first.doubt ≡ None
opened_sure bytes first e = by (image.reading bytes) e
  where
    by : (reading : image.Reading) → image.opened_by bytes reading ≡ Some first → first.doubt ≡ None
    by (image.Reading.Reads journal r) e = sure_by _ _ _ _ first e
    by (image.Reading.Bad place) e = cc

-- nothing lands where nothing is in doubt
no_landing_on : (honest : Bool) (s : State) (ack : ℕ) → IsReplyOn honest s [] 0 calls.Landed replies.Done → (IsTrue honest → s.doubt ≡ None) → IsTrue honest → ⊥
no_landing_on true s ack h sure honest = let none : s.doubt ≡ None = sure honest in let e : false ≡ true = subst (λ o. IsTrue (is_some o)) none h.2 in cc
no_landing_on false s ack h sure honest = cc

landings_one : (honest : Bool) (first : State) (ack : ℕ) (later : List Entry) → LegalOn honest first [] (landing_at ack ∷ later) → (IsTrue honest → first.doubt ≡ None) → AreLandings honest (landing_at ack ∷ [])
landings_one honest first ack later legal sure = record {
  asked = refl;
  none = λ so. absurd (no_landing_on honest first ack (parts honest first [] (landing_at ack) later legal).0 sure so);
}

one_census : (keys : List (List ℕ)) (honest : Bool) (first : State) (reply : Reply) (ack : ℕ) (history : List Entry) → (IsTrue honest → first.doubt ≡ None) → Adds 1 (calls.Census keys) reply ack [] history → LegalOn honest first [] history → IsOneCensus keys honest first history
one_census keys honest first reply ack history sure (inl is) legal =
    let e = entry_of 1 (calls.Census keys) reply ack in
    let there : LegalOn honest first [] (e ∷ []) = subst (λ h. LegalOn honest first [] h) is legal in
    subst (λ h. IsOneCensus keys honest first h) (sym is) (record {
      before = [];
      entry = e;
      whole = refl;
      alone = record { asked = refl; none = λ _. refl };
      caller = refl;
      call = refl;
      legal = there;
      rows = λ n number. counted_on honest first keys reply n ack (parts honest first [] e [] there).0 number;
    })
one_census keys honest first reply ack history sure (inr is) legal =
    let e = entry_of 1 (calls.Census keys) reply ack in
    let l = landing_at is.0 in
    let there : LegalOn honest first [] (l ∷ e ∷ []) = subst (λ h. LegalOn honest first [] h) is.1 legal in
    let mid : State = state_after first [] l in
    let later : LegalOn honest mid [] (e ∷ []) = (parts honest first [] l (e ∷ []) there).1 in
    subst (λ h. IsOneCensus keys honest first h) (sym is.1) (record {
      before = l ∷ [];
      entry = e;
      whole = refl;
      alone = landings_one honest first is.0 (e ∷ []) there sure;
      caller = refl;
      call = refl;
      legal = there;
      rows = λ n number. counted_on honest mid keys reply n ack (parts honest mid [] e [] later).0 number;
    })

no_census : (honest : Bool) (first : State) (history : List Entry) → (IsTrue honest → first.doubt ≡ None) → AddsLanding [] history → LegalOn honest first [] history → IsNoCensus honest first history
no_census honest first history sure (inl is) legal = record { none = subst (λ h. AreLandings honest h) (sym is) (record { asked = refl; none = λ _. refl }); legal = legal }
no_census honest first history sure (inr is) legal =
    let there : LegalOn honest first [] (landing_at is.0 ∷ []) = subst (λ h. LegalOn honest first [] h) is.1 legal in
    record { none = subst (λ h. AreLandings honest h) (sym is.1) (landings_one honest first is.0 [] there sure); legal = legal }

-- ---- what a store that was closed leaves

pub closed : {D : Type 0} (told : D → Told) (first : State) (entry origin final out : D) (inside : Inside) (shown history : List Entry) (made : List Entry → Bool → State → Type 0) {wanted : Bool}
    → origin ≡ entry → out ≡ final → Stands first (told origin) (told final) inside wanted → (IsTrue (told entry).honest → image.opened_from (told entry).bytes ≡ Some first)
    → inside.history.items ≡ shown → history ≡ shown → arc_value inside.tapes ≡ [] → ((IsTrue (told entry).honest → first.doubt ≡ None) → LegalOn (told entry).honest first [] shown → made shown (told entry).honest first)
    → Performed [] (made history) (told entry) (told out) history
closed told first entry origin final out inside shown history made {wanted} origin_is out_is stands opened inside_history same_history no_tapes so =
    let from_entry = subst (λ d. Stands first (told d) (told final) inside wanted) origin_is stands in
    let to_out = subst (λ d. Stands first (told entry) (told d) inside wanted) (sym out_is) from_entry in
    let legal = legal_of first (told entry) (told out) inside [] shown to_out inside_history no_tapes in
    let sure : IsTrue (told entry).honest → first.doubt ≡ None = λ honest. opened_sure (told entry).bytes first (opened honest) in
    subst (λ h. Performed [] (made h) (told entry) (told out) h) (sym same_history) (performed_by first (told entry) (told out) inside [] shown (made shown) to_out opened inside_history no_tapes (so sure legal))

-- a census that was made
pub census_made : (keys : List (List ℕ)) (honest : Bool) (first : State) (ack : ℕ) (E : Type 0) (old new : List Entry) (result : Result Reply E) → old ≡ [] → is_ok result ≡ true → IfOk result (λ reply. Adds 1 (calls.Census keys) reply ack old new)
    → (IsTrue honest → first.doubt ≡ None) → LegalOn honest first [] new → IsOneCensus keys honest first new
census_made keys honest first ack E old new (Ok reply) fresh fine adds sure legal = one_census keys honest first reply ack new sure (subst (λ h. Adds 1 (calls.Census keys) reply ack h new) fresh adds) legal
census_made keys honest first ack E old new (Err e) fresh fine adds sure legal = cc

-- one that was made, or for which there was no memory
pub census_so_far : (keys : List (List ℕ)) (honest : Bool) (first : State) (ack : ℕ) (E : Type 0) (old new : List Entry) (result : Result Reply E) → old ≡ [] → IfOk result (λ reply. Adds 1 (calls.Census keys) reply ack old new) → OnErr result (AddsLanding old new)
    → (IsTrue honest → first.doubt ≡ None) → LegalOn honest first [] new → IsCensusSoFar keys honest first new
census_so_far keys honest first ack E old new (Ok reply) fresh adds lands sure legal = inr (one_census keys honest first reply ack new sure (subst (λ h. Adds 1 (calls.Census keys) reply ack h new) fresh adds) legal)
census_so_far keys honest first ack E old new (Err e) fresh adds lands sure legal = inl (no_census honest first new sure (subst (λ h. AddsLanding h new) fresh lands) legal)
