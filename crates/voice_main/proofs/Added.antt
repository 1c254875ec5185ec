-- What a line adds to the entries that callers asked for.
use Rattle.std.proofs.Common.{◌≡◌, ℕ, inl, inr, List, [], ◌∷◌, ◌++◌, cond, not, true, false, Option, Some, None, map, refl, sym, ap, subst, ◌∙◌, append_assoc, append-nil}
use Rattle.std.specs.Prelude.{◌&&◌}
use Rattle.std.proofs.lemmas.List.Elements.{filter-append}
use Rattle.voice_model.specs.declared.calls.Call.{Call}
use Rattle.voice_model.specs.declared.calls.Entry.{Entry}
use Rattle.voice_model.specs.declared.calls.Reply.{Reply}
use Rattle.voice_model.specs.declared.calls.Call.TheVariants as calls
use Rattle.voice_model.specs.declared.calls.Reply.TheVariants as replies
use Rattle.voice_model.specs.declared.calls.Why.TheVariants as why
use Rattle.voice_model.specs.Tapes.{whole_of}
use Rattle.voice_model.specs.Follows.{Binding, Awaited, Serving, Goes_on, Does, AfterPlay, then_awaited, variables_after}
use Rattle.voice_store.specs.Facts.{Adds, AddsLanding, entry_of, landing_at}
use Rattle.script_lang.specs.declared.scripts.Line.{Line}
use Rattle.script_lang.specs.declared.scripts.Verb.{Verb}
use Rattle.script_lang.specs.declared.scripts.Verb.TheVariants as verbs
use Rattle.script_lang.specs.Parts.{served}
use Rattle.script_lang.specs.Grammar.{IsBound}
use Rattle.script_lang.specs.Errands.{asked, meant, HasFile, SameValues}
use Rattle.servings.specs.Asked.{asked_entries, was_asked, is_landing, AreBy}
use Rattle.servings.specs.Alone.{HasServedAlone, HasServedAloneInto}
use Rattle.served_files.specs.declared.heard.Heard.{Heard}
use Rattle.served_files.specs.Given.{is_feed, is_over, ends_serving, gives_file, given_name, names_in}
use Rattle.served_files.proofs.Servings.{serving_ends, IsNamed}
use Rattle.served_files.proofs.Names.{file_named}
use Rattle.voice_main.specs.Ordered.{LineBegan}
use Rattle.voice_main.specs.Done.{to_serve, CallMade, LaneServed, LaneServedInto, LineDone}

-- ---- what a line asks

plain_as : (call made : Call) → Some call ≡ Some made → is_landing made ≡ false → is_feed made ≡ false → (is_landing call ≡ false) × (is_feed call ≡ false)
plain_as call made e lands feeds = let same : call ≡ made = cc in (ap is_landing same ∙ lands, ap is_feed same ∙ feeds)

-- what a line asks is no landing, and no feed
pub asked_plain : (tapes : List (List ℕ)) (verb : Verb) (b : List Binding) (call : Call) → Some call ≡ asked tapes verb b → (is_landing call ≡ false) × (is_feed call ≡ false)
asked_plain tapes (verbs.Record tape) b call e = plain_as call (calls.Record (whole_of tapes tape)) e refl refl
asked_plain tapes (verbs.Concat args) b call e = plain_as call (calls.Concat (map (meant b) args)) e refl refl
asked_plain tapes (verbs.Sub rope start len) b call e = plain_as call (calls.Sub (meant b rope) start len) e refl refl
asked_plain tapes (verbs.Replace rope start len with) b call e = plain_as call (calls.Replace (meant b rope) start len (meant b with)) e refl refl
asked_plain tapes (verbs.Length rope) b call e = plain_as call (calls.Length (meant b rope)) e refl refl
asked_plain tapes (verbs.Retain class key rope note) b call e = plain_as call (calls.Retain class key (meant b rope) note) e refl refl
asked_plain tapes (verbs.Forget class key) b call e = plain_as call (calls.Forget class key) e refl refl
asked_plain tapes (verbs.Lookup class key) b call e = plain_as call (calls.Lookup class key) e refl refl
asked_plain tapes (verbs.Census keys) b call e = plain_as call (calls.Census keys) e refl refl
asked_plain tapes (verbs.Advance moment) b call e = plain_as call (calls.Advance moment) e refl refl
asked_plain tapes (verbs.Sweep limit) b call e = plain_as call (calls.Sweep limit) e refl refl
asked_plain tapes (verbs.Describe rope) b call e = plain_as call (calls.Describe (meant b rope)) e refl refl
asked_plain tapes (verbs.Queue lane rope start len) b call e = plain_as call (calls.Play lane (meant b rope) start len) e refl refl
asked_plain tapes (verbs.Play lane rope start len) b call e = plain_as call (calls.Play lane (meant b rope) start len) e refl refl
asked_plain tapes (verbs.Serve lane) b call e = cc
asked_plain tapes (verbs.Stop lane) b call e = plain_as call (calls.Stop lane) e refl refl
asked_plain tapes (verbs.Begin lane) b call e = plain_as call (calls.Begin lane) e refl refl
asked_plain tapes (verbs.Add lane tape) b call e = plain_as call (calls.Add lane (whole_of tapes tape)) e refl refl
asked_plain tapes (verbs.End lane) b call e = plain_as call (calls.End lane) e refl refl
asked_plain tapes (verbs.Levels rope) b call e = plain_as call (calls.Levels (meant b rope)) e refl refl

-- a line that asks nothing only serves a lane
only_serves : (tapes : List (List ℕ)) (verb : Verb) (b : List Binding) → asked tapes verb b ≡ None → (lane : ℕ) × (verb ≡ verbs.Serve lane)
only_serves tapes (verbs.Record tape) b none = cc
only_serves tapes (verbs.Concat args) b none = cc
only_serves tapes (verbs.Sub rope start len) b none = cc
only_serves tapes (verbs.Replace rope start len with) b none = cc
only_serves tapes (verbs.Length rope) b none = cc
only_serves tapes (verbs.Retain class key rope note) b none = cc
only_serves tapes (verbs.Forget class key) b none = cc
only_serves tapes (verbs.Lookup class key) b none = cc
only_serves tapes (verbs.Census keys) b none = cc
only_serves tapes (verbs.Advance moment) b none = cc
only_serves tapes (verbs.Sweep limit) b none = cc
only_serves tapes (verbs.Describe rope) b none = cc
only_serves tapes (verbs.Queue lane rope start len) b none = cc
only_serves tapes (verbs.Play lane rope start len) b none = cc
only_serves tapes (verbs.Serve lane) b none = (lane, refl)
only_serves tapes (verbs.Stop lane) b none = cc
only_serves tapes (verbs.Begin lane) b none = cc
only_serves tapes (verbs.Add lane tape) b none = cc
only_serves tapes (verbs.End lane) b none = cc
only_serves tapes (verbs.Levels rope) b none = cc

-- so it serves one
asks_or_serves : (tapes : List (List ℕ)) (verb : Verb) (b : List Binding) → asked tapes verb b ≡ None → served verb ≡ None → ⊥
asks_or_serves tapes verb b none e = let is = only_serves tapes verb b none in let no : Some is.0 ≡ None = sym (ap served is.1) ∙ e in cc

-- and binds nothing
serve_binds_none : (lane : ℕ) (bind : Option (List ℕ)) → IsBound (verbs.Serve lane) bind → bind ≡ None
serve_binds_none lane None h = refl
serve_binds_none lane (Some name) h = let no : false ≡ true = h.1 in cc

binds_none : (tapes : List (List ℕ)) (verb : Verb) (b : List Binding) (bind : Option (List ℕ)) → asked tapes verb b ≡ None → IsBound verb bind → bind ≡ None
binds_none tapes verb b bind none h = let is = only_serves tapes verb b none in serve_binds_none is.0 bind (subst (λ v. IsBound v bind) is.1 h)

-- ---- what a call adds

-- a landing adds nothing to them
pub landing_aside : (old new : List Entry) → AddsLanding old new → asked_entries new ≡ asked_entries old
landing_aside old new (inl same) = ap asked_entries same
landing_aside old new (inr h) = ap asked_entries h.1 ∙ filter-append was_asked old (landing_at h.0 ∷ []) ∙ append-nil (asked_entries old)

alone : (e : Entry) → is_landing e.call ≡ false → asked_entries (e ∷ []) ≡ e ∷ []
alone e h = ap (λ b. cond (not b) (e ∷ []) []) h

pub one_added : (caller ack : ℕ) (call : Call) (reply : Reply) (old new : List Entry) → is_landing call ≡ false → Adds caller call reply ack old new → asked_entries new ≡ asked_entries old ++ entry_of caller call reply ack ∷ []
one_added caller ack call reply old new h (inl is) =
    let e = entry_of caller call reply ack in
    ap asked_entries is ∙ filter-append was_asked old (e ∷ []) ∙ ap (λ l. asked_entries old ++ l) (alone e h)
one_added caller ack call reply old new h (inr is) =
    let e = entry_of caller call reply ack in
    ap asked_entries is.1 ∙ filter-append was_asked old (landing_at is.0 ∷ e ∷ []) ∙ ap (λ l. asked_entries old ++ l) (alone e h)

-- the history only grew
call_grown : (caller ack : ℕ) (call : Call) (reply : Reply) (old new : List Entry) → Adds caller call reply ack old new → (more : List Entry) × (new ≡ old ++ more)
call_grown caller ack call reply old new (inl is) = (entry_of caller call reply ack ∷ [], is)
call_grown caller ack call reply old new (inr is) = (landing_at is.0 ∷ entry_of caller call reply ack ∷ [], is.1)

pub made_grown : (tapes : List (List ℕ)) (line : Line) (stand after : List Binding) (made : Option Reply) (old new : List Entry) → CallMade tapes line stand after made old new → (more : List Entry) × (new ≡ old ++ more)
made_grown tapes line stand after None old new h = ([], h.1 ∙ sym (append-nil old))
made_grown tapes line stand after (Some reply) old new h = call_grown line.caller h.1 h.0 reply old new h.3

pub grown_on : (old mid new : List Entry) → (more : List Entry) × (mid ≡ old ++ more) → (more : List Entry) × (new ≡ mid ++ more) → (more : List Entry) × (new ≡ old ++ more)
grown_on old mid new h k = (h.0 ++ k.0, k.1 ∙ ap (λ l. l ++ k.0) h.1 ∙ append_assoc old h.0 k.0)

-- ---- what a line does

-- nothing comes behind a call
after_none : (lane : ℕ) (reply : Reply) → to_serve (Some lane) (Some reply) ≡ None → AfterPlay lane reply []
after_none lane (replies.Job job) h = cc
after_none lane _ h = refl

does_call : (serves : Option ℕ) (e : Entry) → to_serve serves (Some e.reply) ≡ None → Does (Some e.call) serves (e ∷ [])
does_call None e none = (refl, refl)
does_call (Some lane) e none = (refl, after_none lane e.reply none)

-- or a serving does
after_job : (lane at : ℕ) (reply : Reply) (es : List Entry) → to_serve (Some lane) (Some reply) ≡ Some at → Serving at Awaited.First es → AfterPlay lane reply es
after_job lane at (replies.Job job) es h s = let same : at ≡ lane = cc in subst (λ n. Serving n Awaited.First es) same s
after_job lane at _ es h s = cc

serves_nothing : (reply : Reply) (at : ℕ) → to_serve None (Some reply) ≡ Some at → ⊥
serves_nothing (replies.Job job) at h = cc
serves_nothing _ at h = cc

does_play : (serves : Option ℕ) (at : ℕ) (e : Entry) (es : List Entry) → to_serve serves (Some e.reply) ≡ Some at → Serving at Awaited.First es → Does (Some e.call) serves (e ∷ es)
does_play None at e es h s = absurd (serves_nothing e.reply at h)
does_play (Some lane) at e es h s = (refl, after_job lane at e.reply es h s)

does_serve : (serves : Option ℕ) (at : ℕ) (es : List Entry) → to_serve serves None ≡ Some at → Serving at Awaited.First es → Does None serves es
does_serve None at es h s = cc
does_serve (Some lane) at es h s = let same : at ≡ lane = cc in subst (λ n. Serving n Awaited.First es) same s

-- an entry that ends no serving gives no file
quiet_call : (e : Entry) → is_feed e.call ≡ false → ends_serving e ≡ false
quiet_call e h = ap (λ b. b && is_over e.reply) h

-- behind it a serving does
gives_behind : (lane : ℕ) (awaited : Awaited) (e : Entry) (es : List Entry) → Serving lane awaited es → gives_file (e ∷ es) ≡ gives_file es
gives_behind lane awaited e [] h = absurd h
gives_behind lane awaited e (x ∷ xs) h = refl

-- the line's call was made, and nothing comes behind it
pub done_alone : (tapes : List (List ℕ)) (line : Line) (stand after : List Binding) (made : Option Reply) (old new : List Entry) (was now : List Heard) → CallMade tapes line stand after made old new → to_serve (served line.verb) made ≡ None → now ≡ was
    → LineDone tapes line stand after old new was now
done_alone tapes line stand after None old new was now h none same = absurd (asks_or_serves tapes line.verb stand h.0 none)
done_alone tapes line stand after (Some reply) old new was now h none same =
    let e = entry_of line.caller h.0 reply h.1 in
    let plain = asked_plain tapes line.verb stand h.0 h.2 in
    record {
      own = e ∷ [];
      added = one_added line.caller h.1 h.0 reply old new plain.0 h.3;
      by = (refl, tt);
      does = subst (λ a. Does a (served line.verb) (e ∷ [])) h.2 (does_call (served line.verb) e none);
      sets = h.4;
      names = ap names_in same ∙ sym (ap (λ b. names_in was ++ given_name b line.file) (quiet_call e plain.1) ∙ append-nil (names_in was));
    }

-- ---- servings

-- only the lane that a line serves is served behind its call
pub to_serve_is : (serves : Option ℕ) (made : Option Reply) (lane : ℕ) → to_serve serves made ≡ Some lane → serves ≡ Some lane
to_serve_is serves None lane h = h
to_serve_is serves (Some (replies.Job job)) lane h = h
to_serve_is serves (Some _) lane h = cc

-- and then the line names a file
pub file_there : (verb : Verb) (made : Option Reply) (lane : ℕ) (file : Option (List ℕ)) → to_serve (served verb) made ≡ Some lane → HasFile verb file → (name : List ℕ) × (file ≡ Some name)
file_there verb made lane file h has = subst (λ o. IsNamed o file) (to_serve_is (served verb) made lane h) (file_named verb file has)

-- as one of the caller's
abbrev as_by : ℕ → Entry → Entry
as_by caller e = record e { caller = caller }

they_are : (caller : ℕ) (es : List Entry) → AreBy caller (map (as_by caller) es)
they_are caller [] = tt
they_are caller (e ∷ es) = (refl, they_are caller es)

by_append : (caller : ℕ) (xs ys : List Entry) → AreBy caller xs → AreBy caller ys → AreBy caller (xs ++ ys)
by_append caller [] ys h k = k
by_append caller (x ∷ xs) ys h k = (h.0, by_append caller xs ys h.1 k)

goes_so : (lane : ℕ) (o : Option Awaited) (es ds : List Entry) → (es ≡ [] → ds ≡ []) → ((next : Awaited) → Serving lane next es → Serving lane next ds) → Goes_on o (λ next. Serving lane next es) (es ≡ []) → Goes_on o (λ next. Serving lane next ds) (ds ≡ [])
goes_so lane None es ds none on h = none h
goes_so lane (Some next) es ds none on h = on next h

serves_by : (lane caller : ℕ) (awaited : Awaited) (es : List Entry) → Serving lane awaited es → Serving lane awaited (map (as_by caller) es)
serves_by lane caller awaited [] h = h
serves_by lane caller awaited (e ∷ es) h = (h.0, goes_so lane (then_awaited awaited e.reply) es (map (as_by caller) es) (ap (map (as_by caller))) (λ next. serves_by lane caller next es) h.1)

-- whoever makes the entries that are missing
serves_behind : (lane caller : ℕ) (awaited : Awaited) (own more : List Entry) → Serving lane awaited (own ++ more) → Serving lane awaited (own ++ map (as_by caller) more)
serves_behind lane caller awaited [] more h = serves_by lane caller awaited more h
serves_behind lane caller awaited (e ∷ es) more h =
    (h.0, goes_so lane (then_awaited awaited e.reply) (es ++ more) (es ++ map (as_by caller) more) (none_behind es more) (λ next. serves_behind lane caller next es more) h.1)
  where
    none_behind : (es more : List Entry) → es ++ more ≡ [] → es ++ map (as_by caller) more ≡ []
    none_behind [] more h = ap (map (as_by caller)) h
    none_behind (e ∷ es) more h = cc

asked_more : (old gained own new : List Entry) → new ≡ old ++ gained → asked_entries gained ≡ own → asked_entries new ≡ asked_entries old ++ own
asked_more old gained own new grown same = ap asked_entries grown ∙ filter-append was_asked old gained ∙ ap (λ l. asked_entries old ++ l) same

-- a lane was served, and the file is named where the last reply tells that a job is over
pub lane_served : (caller lane : ℕ) (file : Option (List ℕ)) (reply : Reply) (old new : List Entry) (was now : List Heard) → HasServedAlone caller lane reply old new → names_in now ≡ names_in was ++ given_name (is_over reply) file → LaneServed caller lane file old new was now
lane_served caller lane file reply old new was now h names =
    let gives : gives_file h.own ≡ is_over reply = (serving_ends lane Awaited.First h.own h.front h.final h.serves h.ends).0 ∙ ap is_over h.reply_is in
    record {
      own = h.own;
      added = asked_more old h.gained h.own new h.grown h.asked;
      by = h.by;
      serves = h.serves;
      names = names ∙ ap (λ b. names_in was ++ given_name b file) (sym gives);
      grown = (h.gained, h.grown);
    }

pub served_in_part : (caller lane : ℕ) (old new : List Entry) → HasServedAloneInto caller lane old new → LaneServedInto caller lane old new
served_in_part caller lane old new h = record {
  own = h.own;
  more = map (as_by caller) h.more;
  added = asked_more old h.gained h.own new h.grown h.asked;
  by = by_append caller h.own (map (as_by caller) h.more) h.by (they_are caller h.more);
  serves = serves_behind lane caller Awaited.First h.own h.more h.serves;
}

-- it was served whole
pub served_whole : (caller lane : ℕ) (reply : Reply) (old new : List Entry) → HasServedAlone caller lane reply old new → LaneServedInto caller lane old new
served_whole caller lane reply old new h = record {
  own = h.own;
  more = [];
  added = asked_more old h.gained h.own new h.grown h.asked;
  by = subst (AreBy caller) (sym (append-nil h.own)) h.by;
  serves = subst (Serving lane Awaited.First) (sym (append-nil h.own)) h.serves;
}

-- ---- a line that serves

sets_none : (own : List Entry) (stand : List Binding) → variables_after None own stand ≡ stand
sets_none [] stand = refl
sets_none (e ∷ es) stand = refl

-- the line's call was made, if it has one, and then its lane was served
pub done_served : (tapes : List (List ℕ)) (line : Line) (stand after : List Binding) (made : Option Reply) (lane : ℕ) (old mid new : List Entry) (was now : List Heard) → CallMade tapes line stand after made old mid → to_serve (served line.verb) made ≡ Some lane
    → LaneServed line.caller lane line.file mid new was now → IsBound line.verb line.bind → LineDone tapes line stand after old new was now
done_served tapes line stand after None lane old mid new was now h at s bind = record {
  own = s.own;
  added = s.added ∙ ap (λ l. asked_entries l ++ s.own) h.1;
  by = s.by;
  does = subst (λ a. Does a (served line.verb) s.own) (sym h.0) (does_serve (served line.verb) lane s.own at s.serves);
  sets = subst (SameValues after) (sym (ap (λ b. variables_after b s.own stand) (binds_none tapes line.verb stand line.bind h.0 bind) ∙ sets_none s.own stand)) h.2;
  names = s.names;
}
done_served tapes line stand after (Some reply) lane old mid new was now h at s bind =
    let e = entry_of line.caller h.0 reply h.1 in
    let plain = asked_plain tapes line.verb stand h.0 h.2 in
    record {
      own = e ∷ s.own;
      added = s.added ∙ ap (λ l. l ++ s.own) (one_added line.caller h.1 h.0 reply old mid plain.0 h.3) ∙ append_assoc (asked_entries old) (e ∷ []) s.own;
      by = (refl, s.by);
      does = subst (λ a. Does a (served line.verb) (e ∷ s.own)) h.2 (does_play (served line.verb) lane e s.own at s.serves);
      sets = h.4;
      names = s.names ∙ ap (λ b. names_in was ++ given_name b line.file) (sym (gives_behind lane Awaited.First e s.own s.serves));
    }

-- ---- a line that was begun

-- a serving that found no job
no_job : ℕ → ℕ → Entry
no_job caller lane = entry_of caller (calls.Feed lane None) (replies.No why.NoJob) 0

-- what may come behind a call
missing : ℕ → Option ℕ → List Entry
missing caller None = []
missing caller (Some lane) = no_job caller lane ∷ []

missing_by : (caller : ℕ) (o : Option ℕ) → AreBy caller (missing caller o)
unfolding missing no_job
missing_by caller None = tt
missing_by caller (Some lane) = (refl, tt)

does_begin : (serves o : Option ℕ) (caller : ℕ) (e : Entry) → to_serve serves (Some e.reply) ≡ o → Does (Some e.call) serves (e ∷ missing caller o)
unfolding missing no_job
does_begin serves None caller e h = does_call serves e h
does_begin serves (Some lane) caller e h = does_play serves lane e (no_job caller lane ∷ []) h (refl, refl)

-- its call was made
pub began_call : (tapes : List (List ℕ)) (line : Line) (stand : List Binding) (call : Call) (reply : Reply) (ack : ℕ) (old new : List Entry) → Some call ≡ asked tapes line.verb stand → Adds line.caller call reply ack old new → LineBegan tapes line stand old new
began_call tapes line stand call reply ack old new asks adds =
    let e = entry_of line.caller call reply ack in
    let more = missing line.caller (to_serve (served line.verb) (Some reply)) in
    record {
      own = e ∷ [];
      more = more;
      added = one_added line.caller ack call reply old new (asked_plain tapes line.verb stand call asks).0 adds;
      by = (refl, missing_by line.caller (to_serve (served line.verb) (Some reply)));
      does = subst (λ a. Does a (served line.verb) (e ∷ more)) asks (does_begin (served line.verb) (to_serve (served line.verb) (Some reply)) line.caller e refl);
    }

-- its lane was served in part
pub began_serving : (tapes : List (List ℕ)) (line : Line) (stand after : List Binding) (made : Option Reply) (lane : ℕ) (old mid new : List Entry) → CallMade tapes line stand after made old mid → to_serve (served line.verb) made ≡ Some lane
    → LaneServedInto line.caller lane mid new → LineBegan tapes line stand old new
began_serving tapes line stand after None lane old mid new h at s = record {
  own = s.own;
  more = s.more;
  added = s.added ∙ ap (λ l. asked_entries l ++ s.own) h.1;
  by = s.by;
  does = subst (λ a. Does a (served line.verb) (s.own ++ s.more)) (sym h.0) (does_serve (served line.verb) lane (s.own ++ s.more) at s.serves);
}
began_serving tapes line stand after (Some reply) lane old mid new h at s =
    let e = entry_of line.caller h.0 reply h.1 in
    record {
      own = e ∷ s.own;
      more = s.more;
      added = s.added ∙ ap (λ l. l ++ s.own) (one_added line.caller h.1 h.0 reply old mid (asked_plain tapes line.verb stand h.0 h.2).0 h.3) ∙ append_assoc (asked_entries old) (e ∷ []) s.own;
      by = (refl, s.by);
      does = subst (λ a. Does a (served line.verb) (e ∷ (s.own ++ s.more))) h.2 (does_play (served line.verb) lane e (s.own ++ s.more) at s.serves);
    }
