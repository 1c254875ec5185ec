-- What a caller hears by its turns.
--     nothing_heard, hears_on      nothing; one thing behind the other
--     call_hears      a call that is no feed gives nothing
--     serving_hears      a serving gives what was heard
use Rattle.std.proofs.Common.{◌≡◌, ℕ, Bool, true, false, eqb, List, [], ◌∷◌, ◌++◌, Some, refl, sym, ap, ◌∙◌, subst, append_assoc, append-nil, eq-eqb}
use Rattle.std.proofs.lemmas.Bool.{false≢true, eqb-true}
use Rattle.std.proofs.lemmas.List.{same_from_push}
use Rattle.voice_model.specs.State.{State}
use Rattle.voice_model.specs.Step.{after}
use Rattle.voice_model.specs.Follows.{Awaited, passage_bytes, heard_bytes}
use Rattle.voice_model.specs.declared.calls.Reply.{Reply}
use Rattle.voice_model.specs.declared.calls.Reply.TheVariants as replies
use Rattle.voice_model.specs.declared.calls.Entry.{Entry}
use Rattle.turnstile.specs.Shown.{ShownPass}
use Rattle.turnstile.specs.Turns.{Begins}
use Rattle.turnstile.specs.Passes.{seen, mine, IsAllOf}
use Rattle.serving_laws.specs.Lanes.{Feeds, FeedsNot, FedBy, IsAtRest, first_of_lane}
use Rattle.serving_laws.proofs.Others.{rests_after}
use Rattle.servings.specs.Servings.{HasServed, HasHeard, IsWhatWasHeard}
use Rattle.servings.proofs.Between.{after_front, fed_front, fed_back, others_between, feeds_not, feeds_not_more}
use Rattle.served_files.specs.Lines.{entries_of_caller}
use Rattle.served_files.specs.Given.{is_over, ends_serving, given_bytes, GivesTo}
use Rattle.served_files.proofs.Servings.{FeedsOnly, HasLast, last_of, none_behind, feeds_its_lane}
use Rattle.served_files.proofs.Bytes.{IsHeardOf, gives_append}
use Rattle.callers.specs.Passed.{HearsMore}
use Rattle.callers.proofs.Giving.{call_gives, own_among, own_feeds, serving_gives}

pub nothing_heard : (first : State) (tapes : List (List ℕ)) (caller : ℕ) (old : List Entry) (was : List (List ℕ)) → HearsMore first tapes caller old old was was
nothing_heard first tapes caller old was = record {
  more = [];
  grown = sym (append-nil old);
  given = [];
  heard = sym (append-nil was);
  gives = refl;
  rests = λ lane fed rest. rest;
}

-- the state after entries that came behind others
behind : (first : State) (tapes : List (List ℕ)) (old new more : List Entry) → new ≡ old ++ more → after first tapes new ≡ after (after first tapes old) tapes more
behind first tapes old new more is = ap (after first tapes) is ∙ after_front first tapes old more

pub hears_on : (first : State) (tapes : List (List ℕ)) (caller : ℕ) (a b c : List Entry) (was mid now : List (List ℕ)) → HearsMore first tapes caller a b was mid → HearsMore first tapes caller b c mid now → HearsMore first tapes caller a c was now
hears_on first tapes caller a b c was mid now h k = record {
  more = h.more ++ k.more;
  grown = k.grown ∙ ap (λ l. l ++ k.more) h.grown ∙ append_assoc a h.more k.more;
  given = h.given ++ k.given;
  heard = k.heard ∙ ap (λ l. l ++ k.given) h.heard ∙ append_assoc was h.given k.given;
  gives = gives_append caller (after first tapes a) tapes h.more k.more h.given k.given h.gives (subst (λ s. GivesTo caller s tapes k.more k.given) (behind first tapes a b h.more h.grown) k.gives);
  rests = λ lane fed rest. k.rests lane fed (h.rests lane (fed_front caller lane b k.more (subst (FedBy caller lane) k.grown fed)) rest);
}

-- a lane that was not fed stays at rest
rests_on : (first : State) (tapes : List (List ℕ)) (old new more : List Entry) (lane : ℕ) → new ≡ old ++ more → FeedsNot lane more → IsAtRest (after first tapes old) lane → IsAtRest (after first tapes new) lane
rests_on first tapes old new more lane is apart rest = subst (λ s. IsAtRest s lane) (sym (behind first tapes old new more is)) (rests_after (after first tapes old) tapes more lane apart rest)

-- one turn with a call that is no feed
pub call_hears :
    (first : State) (tapes : List (List ℕ)) (start old between new : List Entry) (e : Entry) (by : ℕ) (mine_old mine_new : List Entry) (was : List (List ℕ)) → IsAllOf start old by mine_old → IsAllOf start new by mine_new
    → mine_new ≡ mine_old ++ e ∷ [] → e.caller ≡ by → new ≡ (old ++ between) ++ e ∷ [] → ends_serving e ≡ false → ((lane : ℕ) → ¬ Feeds lane e.call) → HearsMore first tapes by old new was was
call_hears first tapes start old between new e by mine_old mine_new was all_old all_new gained its is quiet apart =
    let all : IsAllOf start ((old ++ between) ++ e ∷ []) by mine_new = subst (λ l. IsAllOf start l by mine_new) is all_new in
    let grown : new ≡ old ++ (between ++ e ∷ []) = is ∙ append_assoc old between (e ∷ []) in
    record {
      more = between ++ e ∷ [];
      grown = grown;
      given = [];
      heard = sym (append-nil was);
      gives = call_gives by (after first tapes old) tapes between e (others_between start old between e by mine_old mine_new all_old all gained its) quiet;
      rests = λ lane fed rest.
          let others = feeds_not start old between e by lane mine_old mine_new all_old all gained its (subst (FedBy by lane) is fed) in
          rests_on first tapes old new (between ++ e ∷ []) lane grown (feeds_not_more lane between e others (apart lane)) rest;
    }

-- what was heard of a job that is over
what_heard : (reply : Reply) (passage bytes : List ℕ) → IsWhatWasHeard (heard_bytes reply passage) bytes → IsHeardOf reply passage bytes
what_heard (replies.Ended job n) passage bytes h over = ap Some (sym h)
what_heard (replies.Stopped job n) passage bytes h over = ap Some (sym h)
what_heard _ passage bytes h over = cc

-- entries of which some are a caller's have a last one
have_last : (by : ℕ) (more front : List Entry) (final : Entry) → entries_of_caller by more ≡ front ++ final ∷ [] → HasLast more
have_last by [] front final e = absurd (none_behind front final (sym e))
have_last by (x ∷ xs) front final e = last_of x xs

rests_by : (first : State) (tapes : List (List ℕ)) (old new more : List Entry) (by lane other : ℕ) (b : Bool) → eqb other lane ≡ b → new ≡ old ++ more → FeedsOnly lane (entries_of_caller by more) → IsAtRest (after first tapes new) lane
    → FedBy by other new → IsAtRest (after first tapes old) other → IsAtRest (after first tapes new) other
rests_by first tapes old new more by lane other true same is only done fed rest = subst (λ n. IsAtRest (after first tapes new) n) (sym (eqb-true other lane same)) done
rests_by first tapes old new more by lane other false same is only done fed rest =
    let apart : ¬ (other ≡ lane) = λ e. absurd (false≢true (sym same ∙ eq-eqb other lane e)) in
    rests_on first tapes old new more other is (own_feeds by lane other more apart (fed_back by other old more (subst (FedBy by other) is fed)) only) rest

-- a serving to its end
pub serving_hears :
    {T : Type 0} (first : State) (tapes : List (List ℕ)) (start : List Entry) (by lane : ℕ) (reply : Reply) (p q : ShownPass T) (bytes : List ℕ) (was now : List (List ℕ)) → IsAllOf start (seen p) by (mine p) → IsAllOf start (seen q) by (mine q)
    → Begins (seen p) (seen q) → HasServed lane reply p q → HasHeard first tapes (seen q) lane reply bytes → now ≡ was ++ given_bytes (is_over reply) bytes → HearsMore first tapes by (seen p) (seen q) was now
serving_hears first tapes start by lane reply p q bytes was now all_old all_new begins served heard grown =
    let more = begins.0 in
    let is : seen q ≡ seen p ++ more = begins.1 in
    let among : entries_of_caller by more ≡ served.own = own_among start (seen p) more by (mine p) (mine q) served.own all_old (subst (λ l. IsAllOf start l by (mine q)) is all_new) served.gained in
    let last = have_last by more served.front served.final (among ∙ served.ends) in
    let whole : seen q ≡ (seen p ++ last.front) ++ last.final ∷ [] = is ∙ ap (λ l. seen p ++ l) last.split ∙ sym (append_assoc (seen p) last.front (last.final ∷ [])) in
    let same : last.final ≡ served.final = (same_from_push (seen p ++ last.front) served.before last.final served.final (sym whole ∙ served.told)).1 in
    let before : heard.before ≡ seen p ++ last.front = (same_from_push heard.before (seen p ++ last.front) heard.final last.final (sym heard.ends ∙ whole)).0 in
    let state = behind first tapes (seen p) heard.before last.front before in
    let told : IsHeardOf reply (passage_bytes (first_of_lane (after (after first tapes (seen p)) tapes last.front) lane)) bytes =
    subst (λ s. IsHeardOf reply (passage_bytes (first_of_lane s lane)) bytes) state (what_heard reply (passage_bytes (first_of_lane (after first tapes heard.before) lane)) bytes heard.bytes) in
    record {
      more = more;
      grown = is;
      given = given_bytes (is_over served.final.reply) bytes;
      heard = grown ∙ ap (λ r. was ++ given_bytes (is_over r) bytes) (sym served.reply_is);
      gives = serving_gives by lane (after first tapes (seen p)) tapes more last.front served.own served.front last.final served.final bytes served.serves served.ends last.split same among
          (subst (λ r. IsHeardOf r (passage_bytes (first_of_lane (after (after first tapes (seen p)) tapes last.front) lane)) bytes) (sym served.reply_is) told);
      rests = λ other fed rest.
          rests_by first tapes (seen p) (seen q) more by lane other (eqb other lane) refl is (subst (FeedsOnly lane) (sym among) (feeds_its_lane lane Awaited.First served.own served.serves)) heard.rests fed rest;
    }
