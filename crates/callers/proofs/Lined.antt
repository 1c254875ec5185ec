-- What one line of a caller adds to its entries, and what it gives.
--     lane_served      a serving, with the file that it gives
--     line_done, line_began      a call and what follows it;  the first of them
--     alone_done, alone_began      a line that only serves a lane
--     follows_none      a call behind which nothing comes
use Rattle.std.proofs.Common.{◌≡◌, ℕ, inl, inr, true, false, List, [], ◌∷◌, ◌++◌, Some, None, Option, refl, sym, ap, subst, ◌∙◌, append_assoc, append-nil}
use Rattle.std.specs.Prelude.{IsTrue, Result, Ok, Err, OnOk, OnErr}
use Rattle.std.specs.Result.{IsErr}
use Rattle.voice_units.specs.declared.errors.NoMemory.{NoMemory}
use Rattle.voice_model.specs.declared.calls.Call.{Call}
use Rattle.voice_model.specs.declared.calls.Entry.{Entry}
use Rattle.voice_model.specs.declared.calls.Reply.{Reply}
use Rattle.voice_model.specs.declared.calls.Reply.TheVariants as replies
use Rattle.voice_model.specs.Step.{is_asked_of}
use Rattle.voice_model.specs.Follows.{Binding, Awaited, Serving, Does, AfterPlay, bound, bound_rope, variables_after}
use Rattle.script_lang.specs.declared.scripts.Line.{Line}
use Rattle.script_lang.specs.declared.scripts.Verb.{Verb}
use Rattle.script_lang.specs.declared.scripts.Verb.TheVariants as verbs
use Rattle.script_lang.specs.Parts.{served}
use Rattle.script_lang.specs.Grammar.{IsBound}
use Rattle.script_lang.specs.declared.scripts.RopeArg.{RopeArg}
use Rattle.script_lang.specs.Errands.{asked, HasFile, SameValues}
use Rattle.turnstile.specs.Shown.{ShownPass}
use Rattle.turnstile.specs.Passes.{mine}
use Rattle.servings.specs.Servings.{HasServed, HasServedInto}
use Rattle.callers.specs.Lines.{LineBegan}
use Rattle.served_files.specs.Given.{is_over, gives_file, given_name}
use Rattle.callers.specs.Passed.{Plays, LaneServed, LineServed, LineServedInto, CallFollowed, CallFollowedInto, LineDone, LinePassed}
use Rattle.served_files.proofs.Servings.{IsNamed, asked_not_feed, asked_ends_not, gives_behind, serving_ends}
use Rattle.served_files.proofs.Names.{file_named}

-- ---- a serving

pub lane_served :
    {T : Type 0} (at lane : ℕ) (reply : Reply) (p q : ShownPass T) (file : Option (List ℕ)) (was now : List (List ℕ)) → at ≡ lane → HasServed at reply p q → now ≡ was ++ given_name (is_over reply) file → LaneServed lane file (mine p) (mine q) was now
lane_served at lane reply p q file was now is h names =
    let told : gives_file h.own ≡ is_over reply = (serving_ends at Awaited.First h.own h.front h.final h.serves h.ends).0 ∙ ap is_over h.reply_is in
    record { own = h.own; added = h.gained; serves = subst (λ n. Serving n Awaited.First h.own) is h.serves; names = names ∙ ap (λ b. was ++ given_name b file) (sym told) }

-- of a lane that is this one
pub from_lane : {T : Type 0} (at lane : ℕ) (p q : ShownPass T) → at ≡ lane → HasServedInto at p q → HasServedInto lane p q
from_lane at lane p q is h = subst (λ n. HasServedInto n p q) is h

-- the whole of a serving is the first of it
pub served_into : {T : Type 0} (lane : ℕ) (reply : Reply) (p q : ShownPass T) → HasServed lane reply p q → HasServedInto lane p q
served_into lane reply p q h = record { own = h.own; gained = h.gained; more = []; serves = subst (Serving lane Awaited.First) (sym (append-nil h.own)) h.serves }

-- ---- a line's call, and what follows it

-- an entry of the call that is asked
pub does_one : (asks : Option Call) (serves : Option ℕ) (e : Entry) → serves ≡ None → Some e.call ≡ asks → Does asks serves (e ∷ [])
does_one asks serves e none same =
    let here : Does (Some e.call) None (e ∷ []) = (refl, refl) in
    subst (λ a. Does a serves (e ∷ [])) same (subst (λ s. Does (Some e.call) s (e ∷ [])) (sym none) here)

does_here : (tapes : List (List ℕ)) (verb : Verb) (stand : List Binding) (call : Call) (e : Entry) (own : List Entry) → Some call ≡ asked tapes verb stand → e.call ≡ call → Plays verb e.reply own → Does (Some call) (served verb) (e ∷ own)
does_here tapes (verbs.Play lane rope start len) stand call e own asks is plays = (is, plays)
does_here tapes (verbs.Serve lane) stand call e own asks is plays = cc
does_here tapes _ stand call e own asks is plays = (is, plays)

does_line : (tapes : List (List ℕ)) (verb : Verb) (stand : List Binding) (call : Call) (e : Entry) (own : List Entry) → Some call ≡ asked tapes verb stand → e.call ≡ call → Plays verb e.reply own → Does (asked tapes verb stand) (served verb) (e ∷ own)
does_line tapes verb stand call e own asks is plays = subst (λ a. Does a (served verb) (e ∷ own)) asks (does_here tapes verb stand call e own asks is plays)

pub line_done :
    (tapes : List (List ℕ)) (line : Line) (stand after : List Binding) (call : Call) (reply : Reply) (e : Entry) (old mid new : List Entry) (was now : List (List ℕ)) → Some call ≡ asked tapes line.verb stand → IsTrue (is_asked_of call) → e.call ≡ call → e.reply ≡ reply
    → mid ≡ old ++ e ∷ [] → CallFollowed line.verb reply line.file mid new was now → SameValues after (bound line.bind (bound_rope reply) stand) → LineDone tapes line stand after old new was now
line_done tapes line stand after call reply e old mid new was now asks plain is says gained f sets = record {
  own = e ∷ f.own;
  added = f.added ∙ ap (λ l. l ++ f.own) gained ∙ append_assoc old (e ∷ []) f.own;
  does = does_line tapes line.verb stand call e f.own asks is (subst (λ r. Plays line.verb r f.own) (sym says) f.plays);
  sets = subst (λ r. SameValues after (bound line.bind (bound_rope r) stand)) (sym says) sets;
  names = f.names ∙ ap (λ b. was ++ given_name b line.file) (sym (gives_behind e f.own (asked_ends_not call e is (asked_not_feed call plain))));
}

pub line_began :
    (tapes : List (List ℕ)) (line : Line) (stand : List Binding) (call : Call) (reply : Reply) (e : Entry) (old mid new : List Entry) → Some call ≡ asked tapes line.verb stand → e.call ≡ call → e.reply ≡ reply
    → mid ≡ old ++ e ∷ [] → CallFollowedInto line.verb reply mid new → LineBegan tapes line stand old new
line_began tapes line stand call reply e old mid new asks is says gained f = record {
  own = e ∷ f.own;
  more = f.more;
  added = f.added ∙ ap (λ l. l ++ f.own) gained ∙ append_assoc old (e ∷ []) f.own;
  does = does_line tapes line.verb stand call e (f.own ++ f.more) asks is (subst (λ r. Plays line.verb r (f.own ++ f.more)) (sym says) f.plays);
}

-- all that follows a call is the first of it
pub followed_into : (verb : Verb) (reply : Reply) (file : Option (List ℕ)) (old new : List Entry) (was now : List (List ℕ)) → CallFollowed verb reply file old new was now → CallFollowedInto verb reply old new
followed_into verb reply file old new was now h = record { own = h.own; more = []; added = h.added; plays = subst (Plays verb reply) (sym (append-nil h.own)) h.plays }

pub follows_none : (verb : Verb) (reply : Reply) (file : Option (List ℕ)) (entries : List Entry) (names : List (List ℕ)) → Plays verb reply [] → CallFollowed verb reply file entries entries names names
follows_none verb reply file entries names plays = record { own = []; added = sym (append-nil entries); plays = plays; names = sym (append-nil names) }

-- behind the call of a line that isn't a play line nothing comes
pub plays_none : (verb : Verb) (reply : Reply) → ((lane : ℕ) (rope : RopeArg) (start len : ℕ) → verb ≡ verbs.Play lane rope start len → ⊥) → Plays verb reply []
plays_none (verbs.Play lane rope start len) reply other = absurd (other lane rope start len refl)
plays_none _ reply other = refl

no_job_after : (lane : ℕ) (reply : Reply) → ((job : ℕ) → reply ≡ replies.Job job → ⊥) → AfterPlay lane reply []
no_job_after lane (replies.Job job) other = absurd (other job refl)
no_job_after lane _ other = refl

-- nor where its reply is no job
pub plays_no_job : (verb : Verb) (reply : Reply) → ((job : ℕ) → reply ≡ replies.Job job → ⊥) → Plays verb reply []
plays_no_job (verbs.Play lane rope start len) reply other = no_job_after lane reply other
plays_no_job _ reply other = refl

plays_serving : (verb : Verb) (reply : Reply) (lane : ℕ) (rope : RopeArg) (start len job : ℕ) (own : List Entry) → verb ≡ verbs.Play lane rope start len → reply ≡ replies.Job job → Serving lane Awaited.First own → Plays verb reply own
plays_serving verb reply lane rope start len job own is told serves =
    let here : Plays (verbs.Play lane rope start len) (replies.Job job) own = serves in
    subst (λ v. Plays v reply own) (sym is) (subst (λ r. Plays (verbs.Play lane rope start len) r own) (sym told) here)

-- behind a play line's job its lane is served
pub played :
    (verb : Verb) (reply : Reply) (lane : ℕ) (rope : RopeArg) (start len job : ℕ) (file : Option (List ℕ)) (name given : List ℕ) (old new : List Entry) (was now : List (List ℕ)) → verb ≡ verbs.Play lane rope start len → reply ≡ replies.Job job → file ≡ Some name → given ≡ name
    → LaneServed lane (Some given) old new was now → CallFollowed verb reply file old new was now
played verb reply lane rope start len job file name given old new was now is told named same h = record {
  own = h.own;
  added = h.added;
  plays = plays_serving verb reply lane rope start len job h.own is told h.serves;
  names = h.names ∙ ap (λ f. was ++ given_name (gives_file h.own) f) (ap Some same ∙ sym named);
}

pub played_into :
    {T : Type 0} (verb : Verb) (reply : Reply) (lane : ℕ) (rope : RopeArg) (start len job : ℕ) (p q : ShownPass T) → verb ≡ verbs.Play lane rope start len → reply ≡ replies.Job job → HasServedInto lane p q → CallFollowedInto verb reply (mine p) (mine q)
played_into verb reply lane rope start len job p q is told h = record { own = h.own; more = h.more; added = h.gained; plays = plays_serving verb reply lane rope start len job (h.own ++ h.more) is told h.serves }

-- ---- a line that only serves a lane

alone_does : (tapes : List (List ℕ)) (verb : Verb) (stand : List Binding) (lane : ℕ) (own : List Entry) → verb ≡ verbs.Serve lane → Serving lane Awaited.First own → Does (asked tapes verb stand) (served verb) own
alone_does tapes verb stand lane own is serves = let here : Does (asked tapes (verbs.Serve lane) stand) (served (verbs.Serve lane)) own = serves in subst (λ v. Does (asked tapes v stand) (served v) own) (sym is) here

pub alone_served : (verb : Verb) (lane : ℕ) (file : Option (List ℕ)) (name given : List ℕ) (old new : List Entry) (was now : List (List ℕ)) → verb ≡ verbs.Serve lane → file ≡ Some name → given ≡ name → LaneServed lane (Some given) old new was now → LineServed verb file old new was now
alone_served verb lane file name given old new was now is named same h = record { lane = lane; is = is; ran = subst (λ f. LaneServed lane f old new was now) (ap Some same ∙ sym named) h }

pub alone_into : {T : Type 0} (verb : Verb) (lane : ℕ) (p q : ShownPass T) → verb ≡ verbs.Serve lane → HasServedInto lane p q → LineServedInto verb (mine p) (mine q)
alone_into verb lane p q is h = record { lane = lane; is = is; own = h.own; more = h.more; added = h.gained; serves = h.serves }

-- a line with a file has one
pub has_file : (file : Option (List ℕ)) → ((name : List ℕ) × (file ≡ Some name)) → ((name : List ℕ) → file ≡ Some name → ⊥) → ⊥
has_file file h none = none h.0 h.1

-- a line that serves a lane has a file
pub serves_file : (verb : Verb) (lane : ℕ) (file : Option (List ℕ)) → served verb ≡ Some lane → HasFile verb file → (name : List ℕ) × (file ≡ Some name)
serves_file verb lane file is h = subst (λ o. IsNamed o file) is (file_named verb file h)

bound_not : (lane : ℕ) (bind : Option (List ℕ)) → IsBound (verbs.Serve lane) bind → bind ≡ None
bound_not lane None h = refl
bound_not lane (Some name) h = let no : false ≡ true = h.1 in cc

-- a line that only serves a lane binds no variable
pub none_bound : (verb : Verb) (bind : Option (List ℕ)) → IsBound verb bind → (lane : ℕ) × (verb ≡ verbs.Serve lane) → bind ≡ None
none_bound verb bind h is = bound_not is.0 bind (subst (λ v. IsBound v bind) is.1 h)

-- where it binds nothing, its caller's variables stand as before
bound_none : (bind : Option (List ℕ)) (own : List Entry) (stand : List Binding) → bind ≡ None → variables_after bind own stand ≡ stand
bound_none None [] stand h = refl
bound_none None (e ∷ es) stand h = refl
bound_none (Some name) own stand h = cc

pub alone_done : (tapes : List (List ℕ)) (line : Line) (variables stand : List Binding) (old new : List Entry) (was now : List (List ℕ)) → SameValues variables stand → line.bind ≡ None → LineServed line.verb line.file old new was now
    → LineDone tapes line stand variables old new was now
alone_done tapes line variables stand old new was now same none h = record {
  own = h.ran.own;
  added = h.ran.added;
  does = alone_does tapes line.verb stand h.lane h.ran.own h.is h.ran.serves;
  sets = subst (SameValues variables) (sym (bound_none line.bind h.ran.own stand none)) same;
  names = h.ran.names;
}

pub alone_began : (tapes : List (List ℕ)) (line : Line) (stand : List Binding) (old new : List Entry) → LineServedInto line.verb old new → LineBegan tapes line stand old new
alone_began tapes line stand old new h = record { own = h.own; more = h.more; added = h.added; does = alone_does tapes line.verb stand h.lane (h.own ++ h.more) h.is h.serves }

-- ---- a line that may be another caller's

pub others_passed : (caller : ℕ) (tapes : List (List ℕ)) (line : Line) (stand variables : List Binding) (entries : List Entry) (names : List (List ℕ)) → (line.caller ≡ caller → ⊥) → LinePassed caller tapes line stand variables variables entries entries names names
others_passed caller tapes line stand variables entries names other = inl (record { other = other; variables = refl; entries = refl; names = refl })

pub own_passed : (caller : ℕ) (tapes : List (List ℕ)) (line : Line) (stand variables after : List Binding) (old new : List Entry) (was now : List (List ℕ)) → line.caller ≡ caller → LineDone tapes line stand after old new was now → LinePassed caller tapes line stand variables after old new was now
own_passed caller tapes line stand variables after old new was now own h = inr (own, h)

-- ---- results

-- where it was done
pub then_bound : (r : Result (Unit {0}) NoMemory) (P Q : Type 0) → (P → Q) → OnOk r P → OnOk r Q
then_bound (Ok x) P Q f h = f h
then_bound (Err e) P Q f h = tt

-- and where it was not
pub then_failed : (r : Result (Unit {0}) NoMemory) (P Q : Type 0) → (P → Q) → OnErr r P → OnErr r Q
then_failed (Ok x) P Q f h = tt
then_failed (Err e) P Q f h = f h

pub in_ok : (r : Result (Unit {0}) NoMemory) (P : Type 0) → P → OnOk r P
in_ok (Ok x) P p = p
in_ok (Err e) P p = tt

-- nothing is promised where it failed
pub not_done : (r : Result (Unit {0}) NoMemory) (P : Type 0) → IsErr r → OnOk r P
not_done (Ok x) P failed = cc
not_done (Err e) P failed = tt
