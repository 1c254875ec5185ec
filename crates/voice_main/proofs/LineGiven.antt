-- What one line gives the callers: the bytes of its serving to its own, where that ended a job, and nothing to the others.
use Rattle.std.proofs.Common.{◌≡◌, ℕ, inl, inr, List, [], ◌∷◌, ◌++◌, cond, not, Bool, true, false, Option, Some, None, refl, sym, ap, subst, ◌∙◌, append_assoc, append-nil, eq-eqb}
use Rattle.std.specs.Prelude.{◌&&◌, ◌==◌, IsTrue}
use Rattle.std.proofs.lemmas.Bool.Decides.{nat_tests}
use Rattle.std.proofs.Common.{arith}
use Rattle.std.proofs.lemmas.Bool.{false≢true}
use Rattle.voice_outside.specs.Disk.{Told}
use Rattle.voice_model.specs.Image.{opened_from}
use Rattle.voice_model.specs.State.{State}
use Rattle.voice_model.specs.Step.{state_after, after}
use Rattle.voice_model.specs.Valid.{Every}
use Rattle.voice_model.specs.Follows.{Binding, Awaited, Serving, passage_bytes, heard_bytes}
use Rattle.voice_model.specs.declared.calls.Call.{Call}
use Rattle.voice_model.specs.declared.calls.Entry.{Entry}
use Rattle.voice_model.specs.declared.calls.Reply.{Reply}
use Rattle.voice_model.specs.declared.calls.Call.TheVariants as calls
use Rattle.voice_model.specs.declared.calls.Reply.TheVariants as replies
use Rattle.voice_store.specs.Facts.{Adds, entry_of, landing_at}
use Rattle.voice_store.specs.Shown.{Shown, Keeps, history_of, tapes_in}
use Rattle.serving_laws.specs.Lanes.{Feeds, FeedsNot, FedBy, IsAtRest, first_of_lane}
use Rattle.serving_laws.proofs.Others.{rests_after}
use Rattle.script_lang.specs.declared.scripts.Line.{Line}
use Rattle.servings.specs.Asked.{asked_entries, is_landing, AreBy}
use Rattle.servings.specs.Alone.{HasServedAlone}
use Rattle.servings.specs.Servings.{HasHeard, IsWhatWasHeard}
use Rattle.served_files.specs.declared.heard.Heard.{Heard}
use Rattle.served_files.specs.Given.{is_feed, is_over, ends_serving, gives_to, passage_fed, GivesTo, bytes_in, given_bytes}
use Rattle.served_files.proofs.Servings.{serving_ends, none_before, feeds_its_lane, feeds_is}
use Rattle.served_files.proofs.Bytes.{gives_append, gives_none, gives_one}
use Rattle.voice_main.specs.Done.{CallMade, LaneGave, LineGave}
use Rattle.voice_main.proofs.Added.{asked_plain}

-- ---- lists

pub after_append : (s : State) (tapes : List (List ℕ)) (xs ys : List Entry) → after s tapes (xs ++ ys) ≡ after (after s tapes xs) tapes ys
after_append s tapes [] ys = refl
after_append s tapes (x ∷ xs) ys = after_append (state_after s tapes x) tapes xs ys

not_empty : (xs : List Entry) (x : Entry) → xs ++ x ∷ [] ≡ [] → ⊥
not_empty [] x e = cc
not_empty (y ∷ ys) x e = cc

both_empty : (xs ys : List Entry) → xs ++ ys ≡ [] → ys ≡ []
both_empty [] ys e = e
both_empty (x ∷ xs) ys e = cc

-- lists with one last entry are one list
last_parts : (xs ys : List Entry) (x y : Entry) → xs ++ x ∷ [] ≡ ys ++ y ∷ [] → (xs ≡ ys) × (x ≡ y)
last_parts [] [] x y e = let same : x ≡ y = cc in (refl, same)
last_parts [] (z ∷ zs) x y e = let none : [] ≡ zs ++ y ∷ [] = cc in absurd (not_empty zs y (sym none))
last_parts (z ∷ zs) [] x y e = let none : zs ++ x ∷ [] ≡ [] = cc in absurd (not_empty zs x none)
last_parts (z ∷ zs) (w ∷ ws) x y e =
    let head : z ≡ w = cc in
    let tail : zs ++ x ∷ [] ≡ ws ++ y ∷ [] = cc in
    let rest = last_parts zs ws x y tail in
    (ap (λ v. v ∷ zs) head ∙ ap (λ l. w ∷ l) rest.0, rest.1)

-- a list that ends with this entry, and a front of it
ends_behind : (before old gained : List Entry) (final : Entry) → before ++ final ∷ [] ≡ old ++ gained → ¬ (gained ≡ []) → (between : List Entry) × (gained ≡ between ++ final ∷ []) × (before ≡ old ++ between)
ends_behind before [] gained final e some = (before, sym e, refl)
ends_behind [] (o ∷ os) gained final e some = let none : [] ≡ os ++ gained = cc in absurd (some (both_empty os gained (sym none)))
ends_behind (b ∷ bs) (o ∷ os) gained final e some =
    let head : b ≡ o = cc in
    let tail : bs ++ final ∷ [] ≡ os ++ gained = cc in
    let rest = ends_behind bs os gained final tail some in
    (rest.0, rest.1, ap (λ v. v ∷ bs) head ∙ ap (λ l. o ∷ l) rest.2)

-- ---- landings

landed_feeds_not : (call : Call) → is_landing call ≡ true → is_feed call ≡ false
landed_feeds_not calls.Landed h = refl
landed_feeds_not _ h = cc

asked_at : (P : Entry → Type 0) (b : Bool) (e : Entry) (asked es : List Entry) → is_landing e.call ≡ b → (is_landing e.call ≡ true → P e) → (Every P asked → Every P es) → Every P (cond (not b) (e ∷ asked) asked) → Every P (e ∷ es)
asked_at P true e asked es is lands rest h = (lands is, rest h)
asked_at P false e asked es is lands rest h = (h.0, rest h.1)

-- what holds of landings, and of what callers asked for
pub all_asked : (P : Entry → Type 0) → ((e : Entry) → is_landing e.call ≡ true → P e) → (es : List Entry) → Every P (asked_entries es) → Every P es
all_asked P lands [] h = tt
all_asked P lands (e ∷ es) h = asked_at P (is_landing e.call) e (asked_entries es) es refl (lands e) (all_asked P lands es) h

and_false : (b : Bool) → (b && false) ≡ false
and_false true = refl
and_false false = refl

and_true : (b : Bool) → (b && true) ≡ b
and_true true = refl
and_true false = refl

quiet_feed : (e : Entry) → is_feed e.call ≡ false → ends_serving e ≡ false
quiet_feed e h = ap (λ b. b && is_over e.reply) h

quiet_to : (c : ℕ) (e : Entry) → ends_serving e ≡ false → gives_to c e ≡ false
quiet_to c e h = ap (λ b. b && (e.caller == c)) h

landing_quiet : (c : ℕ) (e : Entry) → is_landing e.call ≡ true → gives_to c e ≡ false
landing_quiet c e h = quiet_to c e (quiet_feed e (landed_feeds_not e.call h))

feeds_no : (lane : ℕ) (call : Call) → is_feed call ≡ false → ¬ Feeds lane call
feeds_no lane call none h = false≢true (sym none ∙ feeds_is lane call h)

every_quiet : (c : ℕ) (es : List Entry) → Every (λ e. ends_serving e ≡ false) es → Every (λ e. gives_to c e ≡ false) es
every_quiet c [] h = tt
every_quiet c (e ∷ es) h = (quiet_to c e h.0, every_quiet c es h.1)

-- ---- a serving

heard_so : (reply : Reply) (passage bytes : List ℕ) → is_over reply ≡ true → IsWhatWasHeard (heard_bytes reply passage) bytes → heard_bytes reply passage ≡ Some bytes
heard_so (replies.Ended job n) passage bytes h k = ap Some (sym k)
heard_so (replies.Stopped job n) passage bytes h k = ap Some (sym k)
heard_so _ passage bytes h k = cc

by_last : (caller : ℕ) (front : List Entry) (final : Entry) → AreBy caller (front ++ final ∷ []) → final.caller ≡ caller
by_last caller [] final h = h.0
by_last caller (x ∷ xs) final h = by_last caller xs final h.1

gives_last : (b : Bool) (caller lane : ℕ) (back : Option ℕ) (s : State) (tapes : List (List ℕ)) (e : Entry) (bytes : List ℕ) → is_over e.reply ≡ b → e.call ≡ calls.Feed lane back → e.caller ≡ caller → IsWhatWasHeard (heard_bytes e.reply (passage_bytes (first_of_lane s lane))) bytes
    → GivesTo caller s tapes (e ∷ []) (given_bytes b bytes)
gives_last true caller lane back s tapes e bytes over call own heard =
    let ends : ends_serving e ≡ true = ap (λ c. is_feed c && is_over e.reply) call ∙ over in
    gives_one caller s tapes e bytes (ap (λ b. b && (e.caller == caller)) ends ∙ eq-eqb e.caller caller own) (ap (λ c. heard_bytes e.reply (passage_fed s c)) call ∙ heard_so e.reply (passage_bytes (first_of_lane s lane)) bytes over heard)
gives_last false caller lane back s tapes e bytes over call own heard =
    gives_none caller s tapes (e ∷ []) (quiet_to caller e (ap (λ b. is_feed e.call && b) over ∙ and_false (is_feed e.call)), tt)

others_asked : (caller other : ℕ) (own : List Entry) → ¬ (other ≡ caller) → AreBy caller own → Every (λ e. gives_to other e ≡ false) own
others_asked caller other [] apart h = tt
others_asked caller other (e ∷ es) apart h = (ap (λ b. ends_serving e && b) (not_its h.0) ∙ and_false (ends_serving e), others_asked caller other es apart h.1)
  where
    not_its : e.caller ≡ caller → (e.caller == other) ≡ false
    not_its is = by (e.caller == other) refl
      where
        by : (b : Bool) → (e.caller == other) ≡ b → b ≡ false
        by false same = refl
        by true same = absurd (apart (sym (equal same) ∙ is))
          where
            equal : (e.caller == other) ≡ true → e.caller ≡ other
            equal t = grind (arith, nat_tests)

fed_else : (lane other : ℕ) (own : List Entry) → ¬ (other ≡ lane) → Every (λ e. (fed : ℕ) → Feeds fed e.call → fed ≡ lane) own → FeedsNot other own
fed_else lane other [] apart h = tt
fed_else lane other (e ∷ es) apart h = ((λ feeds. apart (h.0 other feeds)), fed_else lane other es apart h.1)

not_nothing : (lane : ℕ) (awaited : Awaited) (gained own : List Entry) → asked_entries gained ≡ own → Serving lane awaited own → ¬ (gained ≡ [])
not_nothing lane awaited gained own same serves none = subst (Serving lane awaited) (sym same ∙ ap asked_entries none) serves

-- what a serving gives
pub lane_gave :
    (first : State) (tapes : List (List ℕ)) (caller lane : ℕ) (reply : Reply) (old new : List Entry) (was now : List Heard) (bytes : List ℕ) → HasServedAlone caller lane reply old new → HasHeard first tapes new lane reply bytes
    → bytes_in now ≡ bytes_in was ++ given_bytes (is_over reply) bytes → LaneGave first tapes caller lane old new was now
lane_gave first tapes caller lane reply old new was now bytes h k heard =
    let some = not_nothing lane Awaited.First h.gained h.own h.asked h.serves in
    let ends = serving_ends lane Awaited.First h.own h.front h.final h.serves h.ends in
    let apart = ends_behind h.before old h.gained h.final (sym h.told ∙ h.grown) some in
    let between = apart.0 in
    let same = last_parts k.before h.before k.final h.final (sym k.ends ∙ h.told) in
    let lasts : is_landing h.final.call ≡ false = ap is_landing ends.1.1 in
    let asked_last : asked_entries (between ++ h.final ∷ []) ≡ asked_entries between ++ h.final ∷ [] = asked_push between h.final lasts in
    let front : asked_entries between ≡ h.front = (last_parts (asked_entries between) h.front h.final h.final (sym asked_last ∙ ap asked_entries (sym apart.1) ∙ h.asked ∙ h.ends)).0 in
    let quiet : Every (λ e. ends_serving e ≡ false) between =
    all_asked (λ e. ends_serving e ≡ false) (λ e lands. quiet_feed e (landed_feeds_not e.call lands)) between (subst (Every (λ e. ends_serving e ≡ false)) (sym front) (none_before lane Awaited.First h.own h.front h.final h.serves h.ends)) in
    let s = after first tapes old in
    let there : after first tapes k.before ≡ after s tapes between = ap (after first tapes) (same.0 ∙ apart.2) ∙ after_append first tapes old between in
    let told : IsWhatWasHeard (heard_bytes h.final.reply (passage_bytes (first_of_lane (after s tapes between) lane))) bytes =
    subst (λ r. IsWhatWasHeard (heard_bytes r (passage_bytes (first_of_lane (after s tapes between) lane))) bytes) (sym h.reply_is) (subst (λ t. IsWhatWasHeard (heard_bytes reply (passage_bytes (first_of_lane t lane))) bytes) there k.bytes) in
    let last = gives_last (is_over reply) caller lane ends.1.0 (after s tapes between) tapes h.final bytes (ap is_over h.reply_is) ends.1.1 (by_last caller h.front h.final (subst (AreBy caller) h.ends h.by)) told in
    record {
      more = h.gained;
      grown = h.grown;
      given = given_bytes (is_over reply) bytes;
      heard = heard;
      gives = subst (λ l. GivesTo caller s tapes l (given_bytes (is_over reply) bytes)) (sym apart.1)
          (gives_append caller s tapes between (h.final ∷ []) [] (given_bytes (is_over reply) bytes) (gives_none caller s tapes between (every_quiet caller between quiet)) last);
      others = λ other differs t. gives_none other t tapes h.gained
          (all_asked (λ e. gives_to other e ≡ false) (landing_quiet other) h.gained (subst (Every (λ e. gives_to other e ≡ false)) (sym h.asked) (others_asked caller other h.own differs h.by)));
      feeds = λ other differs.
          all_asked (λ e. ¬ Feeds other e.call) (λ e lands. feeds_no other e.call (landed_feeds_not e.call lands)) h.gained
          (subst (FeedsNot other) (sym h.asked) (fed_else lane other h.own differs (feeds_its_lane lane Awaited.First h.own h.serves)));
      rests = k.rests;
    }
  where
    asked_push : (xs : List Entry) (x : Entry) → is_landing x.call ≡ false → asked_entries (xs ++ x ∷ []) ≡ asked_entries xs ++ x ∷ []
    asked_push [] x lasts = ap (λ b. cond (not b) (x ∷ []) []) lasts
    asked_push (y ∷ ys) x lasts = ap (λ l. cond (not (is_landing y.call)) (y ∷ l) l) (asked_push ys x lasts) ∙ cond_push (not (is_landing y.call)) y (asked_entries ys) x
      where
        cond_push : (b : Bool) (y : Entry) (l : List Entry) (x : Entry) → cond b (y ∷ (l ++ x ∷ [])) (l ++ x ∷ []) ≡ cond b (y ∷ l) l ++ x ∷ []
        cond_push true y l x = refl
        cond_push false y l x = refl

-- ---- a call

-- entries that give nobody anything, and feed no lane
pub record Quietly (old new : List Entry) : Type 0 where
  pub more : List Entry
  pub grown : new ≡ old ++ more
  pub gives : (c : ℕ) → Every (λ e. gives_to c e ≡ false) more
  pub feeds : (lane : ℕ) → FeedsNot lane more

added_quietly : (caller ack : ℕ) (call : Call) (reply : Reply) (old new : List Entry) → is_feed call ≡ false → Adds caller call reply ack old new → Quietly old new
added_quietly caller ack call reply old new plain (inl is) =
    let e = entry_of caller call reply ack in
    record { more = e ∷ []; grown = is; gives = λ c. (quiet_to c e (quiet_feed e plain), tt); feeds = λ lane. (feeds_no lane call plain, tt) }
added_quietly caller ack call reply old new plain (inr is) =
    let e = entry_of caller call reply ack in
    record { more = landing_at is.0 ∷ e ∷ []; grown = is.1; gives = λ c. (refl, (quiet_to c e (quiet_feed e plain), tt)); feeds = λ lane. ((λ h. h), (feeds_no lane call plain, tt)) }

pub call_quietly : (tapes : List (List ℕ)) (line : Line) (stand after : List Binding) (made : Option Reply) (old new : List Entry) → CallMade tapes line stand after made old new → Quietly old new
call_quietly tapes line stand after None old new h = record { more = []; grown = h.1 ∙ sym (append-nil old); gives = λ c. tt; feeds = λ lane. tt }
call_quietly tapes line stand after (Some reply) old new h = added_quietly line.caller h.1 h.0 reply old new (asked_plain tapes line.verb stand h.0 h.2).1 h.3

-- lanes rest behind it
pub rests_behind : (first : State) (tapes : List (List ℕ)) (old new : List Entry) → Quietly old new → ((lane : ℕ) → IsAtRest (after first tapes old) lane) → (lane : ℕ) → IsAtRest (after first tapes new) lane
rests_behind first tapes old new q rests lane =
    subst (λ t. IsAtRest t lane) (sym (ap (after first tapes) q.grown ∙ after_append first tapes old q.more)) (rests_after (after first tapes old) tapes q.more lane (q.feeds lane) (rests lane))

-- ---- a line

pub line_gave_nothing : (first : State) (tapes : List (List ℕ)) (caller : ℕ) (old new : List Entry) (was now : List Heard) → Quietly old new → now ≡ was → ((lane : ℕ) → IsAtRest (after first tapes old) lane) → LineGave first tapes caller old new was now
line_gave_nothing first tapes caller old new was now q same rests = record {
  more = q.more;
  grown = q.grown;
  given = [];
  heard = ap bytes_in same ∙ sym (append-nil (bytes_in was));
  gives = gives_none caller (after first tapes old) tapes q.more (q.gives caller);
  others = λ other differs. gives_none other (after first tapes old) tapes q.more (q.gives other);
  rests = rests_behind first tapes old new q rests;
}

-- what a lane gave, as the store before the line's call was opened
pub gave_from :
    {D : Type 0} (told : D → Told) (first : State) (caller lane : ℕ) (mid : Shown D) (origin : D) (tapes : List (List ℕ)) (new : List Entry) (was now : List Heard) → mid.origin ≡ origin → tapes_in mid ≡ tapes
    → (IsTrue (told mid.origin).honest → (s : State) → opened_from (told mid.origin).bytes ≡ Some s → Keeps told s mid → FedBy caller lane new → IsAtRest (after s (tapes_in mid) (history_of mid)) lane → LaneGave s (tapes_in mid) caller lane (history_of mid) new was now)
    → IsTrue (told origin).honest → opened_from (told origin).bytes ≡ Some first → Keeps told first mid → FedBy caller lane new → IsAtRest (after first tapes (history_of mid)) lane → LaneGave first tapes caller lane (history_of mid) new was now
gave_from told first caller lane mid origin tapes new was now there same gave honest opened keeps fed rests =
    subst (λ t. LaneGave first t caller lane (history_of mid) new was now) same
    (gave (subst (λ d. IsTrue (told d).honest) (sym there) honest) first (subst (λ d. opened_from (told d).bytes ≡ Some first) (sym there) opened) keeps fed (subst (λ t. IsAtRest (after first t (history_of mid)) lane) (sym same) rests))

all_rest : (first : State) (tapes : List (List ℕ)) (caller lane other : ℕ) (old new : List Entry) (was now : List Heard) (b : Bool) → (other == lane) ≡ b → LaneGave first tapes caller lane old new was now → IsAtRest (after first tapes old) other → IsAtRest (after first tapes new) other
all_rest first tapes caller lane other old new was now true is h rests = subst (IsAtRest (after first tapes new)) same h.rests
  where
    same : lane ≡ other
    same = grind (arith, nat_tests)
all_rest first tapes caller lane other old new was now false is h rests =
    subst (λ t. IsAtRest t other) (sym (ap (after first tapes) h.grown ∙ after_append first tapes old h.more)) (rests_after (after first tapes old) tapes h.more other (h.feeds other apart) rests)
  where
    apart : ¬ (other ≡ lane)
    apart same = grind (arith, nat_tests)

-- its call, and then its serving
pub line_gave : (first : State) (tapes : List (List ℕ)) (caller lane : ℕ) (old mid new : List Entry) (was now : List Heard) → Quietly old mid → LaneGave first tapes caller lane mid new was now → ((other : ℕ) → IsAtRest (after first tapes old) other) → LineGave first tapes caller old new was now
line_gave first tapes caller lane old mid new was now q h rests =
    let s = after first tapes old in
    let there : after first tapes mid ≡ after s tapes q.more = ap (after first tapes) q.grown ∙ after_append first tapes old q.more in
    record {
      more = q.more ++ h.more;
      grown = h.grown ∙ ap (λ l. l ++ h.more) q.grown ∙ append_assoc old q.more h.more;
      given = h.given;
      heard = h.heard;
      gives = gives_append caller s tapes q.more h.more [] h.given (gives_none caller s tapes q.more (q.gives caller)) (subst (λ t. GivesTo caller t tapes h.more h.given) there h.gives);
      others = λ other differs. gives_append other s tapes q.more h.more [] [] (gives_none other s tapes q.more (q.gives other)) (h.others other differs (after s tapes q.more));
      rests = λ other. all_rest first tapes caller lane other mid new was now (other == lane) refl h (rests_behind first tapes old mid q rests other);
    }
