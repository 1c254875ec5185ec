-- Where a serving ends, and what its entries feed.
--     Quiet entries      no entry ends a serving
--     FeedsOnly lane entries      each entry that feeds feeds this lane
--     asked_ends_not, asked_feeds_not      an entry of a call that is no feed does neither
--     gives_last, gives_behind      whether entries give a file is told by the last one
--     serving_ends, none_before      the last entry of a serving, and those before it
--     feeds_its_lane, line_feeds      what a serving feeds, and what a line does
--     line_count      as many entries of a line end a serving as it gives files
use Rattle.std.proofs.Common.{◌≡◌, ℕ, ◌+◌, Bool, true, false, true≢false, cond, ◌&&◌, List, [], ◌∷◌, ◌++◌, length, Option, Some, None, refl, sym, ap, subst, ◌∙◌, zero-add}
use Rattle.std.specs.Prelude.{count_by, IsTrue}
use Rattle.std.proofs.lemmas.Bool.{and_left, and_right}
use Rattle.std.proofs.lemmas.List.Sums.{sum_by-cons, sum_by_push}
use Rattle.voice_model.specs.declared.calls.Call.{Call}
use Rattle.voice_model.specs.declared.calls.Call.TheVariants as calls
use Rattle.voice_model.specs.declared.calls.Reply.{Reply}
use Rattle.voice_model.specs.declared.calls.Reply.TheVariants as replies
use Rattle.voice_model.specs.declared.calls.Entry.{Entry}
use Rattle.voice_model.specs.Step.{is_asked_of}
use Rattle.voice_model.specs.Follows.{Awaited, IsAwaited, after_feed, then_awaited, Goes_on, Serving, AfterPlay, Does}
use Rattle.voice_model.specs.Valid.{Every}
use Rattle.serving_laws.specs.Lanes.{Feeds}
use Rattle.served_files.specs.Given.{is_feed, is_over, ends_serving, gives_file, given_name}

-- no entry ends a serving
abbrev pub Quiet : List Entry → Type 0
Quiet entries = Every (λ e. ends_serving e ≡ false) entries

-- each entry that feeds feeds this lane
abbrev pub FeedsOnly : ℕ → List Entry → Type 0
FeedsOnly lane entries = Every (λ e. (other : ℕ) → Feeds other e.call → other ≡ lane) entries

-- ---- calls

-- a call that feeds a lane is a feed
pub feeds_is : (other : ℕ) (call : Call) → Feeds other call → is_feed call ≡ true
feeds_is other (calls.Feed lane back) h = refl
feeds_is other call h = absurd h

-- what a caller may ask by itself is no feed
pub asked_not_feed : (call : Call) → IsTrue (is_asked_of call) → is_feed call ≡ false
asked_not_feed (calls.Feed lane back) h = cc
asked_not_feed _ h = refl

-- an entry of a call that is no feed feeds no lane
pub asked_feeds_not : (call : Call) (e : Entry) → e.call ≡ call → is_feed call ≡ false → (other : ℕ) → Feeds other e.call → ⊥
asked_feeds_not call e is none other h = true≢false (sym (feeds_is other e.call h) ∙ ap is_feed is ∙ none)

-- and ends no serving
pub asked_ends_not : (call : Call) (e : Entry) → e.call ≡ call → is_feed call ≡ false → ends_serving e ≡ false
asked_ends_not call e is none = and_left (is_feed e.call) (is_over e.reply) (ap is_feed is ∙ none)

-- ---- the last entry

-- a list with a last entry
pub record HasLast (es : List Entry) : Type 0 where
  pub front : List Entry
  pub final : Entry
  pub split : es ≡ front ++ final ∷ []

-- some entries have a last one
pub last_of : (e : Entry) (es : List Entry) → HasLast (e ∷ es)
last_of e [] = record { front = []; final = e; split = refl }
last_of e (x ∷ xs) = let rest = last_of x xs in record { front = e ∷ rest.front; final = rest.final; split = ap (λ l. e ∷ l) rest.split }

-- a list with a last entry is not empty
pub none_behind : (xs : List Entry) (final : Entry) → xs ++ final ∷ [] ≡ [] → ⊥
none_behind [] final e = cc
none_behind (x ∷ xs) final e = cc

-- the last of some entries is the one that may give a file
pub gives_last : (front : List Entry) (final : Entry) → gives_file (front ++ final ∷ []) ≡ ends_serving final
gives_last [] final = refl
gives_last (x ∷ []) final = refl
gives_last (x ∷ (y ∷ ys)) final = gives_last (y ∷ ys) final

-- behind an entry that ends no serving they give what those behind it give
pub gives_behind : (e : Entry) (es : List Entry) → ends_serving e ≡ false → gives_file (e ∷ es) ≡ gives_file es
gives_behind e [] h = h
gives_behind e (x ∷ xs) h = refl

-- an entry behind which a serving goes on
goes_on : (reply : Reply) (next : Awaited) → after_feed reply ≡ Some next → is_over reply ≡ false
goes_on (replies.Ended job n) next e = cc
goes_on (replies.Stopped job n) next e = cc
goes_on reply next e = refl

ends_not : (lane : ℕ) (awaited next : Awaited) (x : Entry) → IsAwaited lane awaited x.call x.reply → then_awaited awaited x.reply ≡ Some next → ends_serving x ≡ false
ends_not lane Awaited.Halt next x is on = and_left (is_feed x.call) (is_over x.reply) (ap is_feed is)
ends_not lane Awaited.First next x is on = and_right (is_feed x.call) (is_over x.reply) (goes_on x.reply next on)
ends_not lane (Awaited.Back n) next x is on = and_right (is_feed x.call) (is_over x.reply) (goes_on x.reply next on)

-- the last entry of a serving feeds the lane
final_feeds : (lane : ℕ) (awaited : Awaited) (final : Entry) → Serving lane awaited (final ∷ []) → (back : Option ℕ) × (final.call ≡ calls.Feed lane back)
final_feeds lane Awaited.Halt final h = absurd h.1
final_feeds lane Awaited.First final h = (None, h.0)
final_feeds lane (Awaited.Back n) final h = (Some h.0.0, h.0.1)

-- what holds of the rest of a serving, where it goes on
on_with : (lane : ℕ) (o : Option Awaited) (xs : List Entry) (final : Entry) (P : Type 0) → ((next : Awaited) → o ≡ Some next → Serving lane next (xs ++ final ∷ []) → P) → Goes_on o (λ next. Serving lane next (xs ++ final ∷ [])) (xs ++ final ∷ [] ≡ []) → P
on_with lane None xs final P f h = absurd (none_behind xs final h)
on_with lane (Some next) xs final P f h = f next refl h

feeds_last : (lane : ℕ) (awaited : Awaited) (front : List Entry) (final : Entry) → Serving lane awaited (front ++ final ∷ []) → (back : Option ℕ) × (final.call ≡ calls.Feed lane back)
feeds_last lane awaited [] final h = final_feeds lane awaited final h
feeds_last lane awaited (x ∷ xs) final h = on_with lane (then_awaited awaited x.reply) xs final ((back : Option ℕ) × (final.call ≡ calls.Feed lane back)) (λ next on later. feeds_last lane next xs final later) h.1

ends_last : (lane : ℕ) (awaited : Awaited) (front : List Entry) (final : Entry) → Serving lane awaited (front ++ final ∷ []) → Quiet front
ends_last lane awaited [] final h = tt
ends_last lane awaited (x ∷ xs) final h = on_with lane (then_awaited awaited x.reply) xs final (Quiet (x ∷ xs)) (λ next on later. (ends_not lane awaited next x h.0 on, ends_last lane next xs final later)) h.1

-- a serving gives a file where its last entry tells that the job is over; and that entry feeds the lane
pub serving_ends : (lane : ℕ) (awaited : Awaited) (es front : List Entry) (final : Entry) → Serving lane awaited es → es ≡ front ++ final ∷ [] → (gives_file es ≡ is_over final.reply) × ((back : Option ℕ) × (final.call ≡ calls.Feed lane back))
serving_ends lane awaited es front final h is =
    let feeds = feeds_last lane awaited front final (subst (Serving lane awaited) is h) in
    (ap gives_file is ∙ gives_last front final ∙ ap (λ call. is_feed call && is_over final.reply) feeds.1, feeds)

-- no entry before the last one of a serving ends one
pub none_before : (lane : ℕ) (awaited : Awaited) (es front : List Entry) (final : Entry) → Serving lane awaited es → es ≡ front ++ final ∷ [] → Quiet front
none_before lane awaited es front final h is = ends_last lane awaited front final (subst (Serving lane awaited) is h)

-- ---- what is fed

fed_one : (lane : ℕ) (awaited : Awaited) (x : Entry) → IsAwaited lane awaited x.call x.reply → (other : ℕ) → Feeds other x.call → other ≡ lane
fed_one lane Awaited.Halt x is other h = absurd (subst (Feeds other) is h)
fed_one lane Awaited.First x is other h = sym (subst (Feeds other) is h)
fed_one lane (Awaited.Back n) x is other h = sym (subst (Feeds other) is.1 h)

fed_none : (lane : ℕ) (es : List Entry) → es ≡ [] → FeedsOnly lane es
fed_none lane [] e = tt
fed_none lane (x ∷ xs) e = cc

fed_on : (lane : ℕ) (o : Option Awaited) (es : List Entry) → ((next : Awaited) → Serving lane next es → FeedsOnly lane es) → Goes_on o (λ next. Serving lane next es) (es ≡ []) → FeedsOnly lane es
fed_on lane None es f h = fed_none lane es h
fed_on lane (Some next) es f h = f next h

-- a serving feeds its lane and no other
pub feeds_its_lane : (lane : ℕ) (awaited : Awaited) (es : List Entry) → Serving lane awaited es → FeedsOnly lane es
feeds_its_lane lane awaited [] h = absurd h
feeds_its_lane lane awaited (x ∷ xs) h = (fed_one lane awaited x h.0, fed_on lane (then_awaited awaited x.reply) xs (λ next later. feeds_its_lane lane next xs later) h.1)

-- ---- the entries of a line

-- what a line asks is no feed
abbrev pub NoFeed : Option Call → Type 0
NoFeed None = Unit {0}
NoFeed (Some call) = is_feed call ≡ false

-- what is served has a name for its file
abbrev pub IsNamed : Option ℕ → Option (List ℕ) → Type 0
IsNamed None file = Unit {0}
IsNamed (Some lane) file = (name : List ℕ) × (file ≡ Some name)

fed_for : (lane : ℕ) (es : List Entry) → FeedsOnly lane es → Every (λ e. (other : ℕ) → Feeds other e.call → Some lane ≡ Some other) es
fed_for lane [] h = tt
fed_for lane (e ∷ es) h = ((λ other feeds. ap Some (sym (h.0 other feeds))), fed_for lane es h.1)

fed_no_more : (serves : Option ℕ) (es : List Entry) → es ≡ [] → Every (λ e. (other : ℕ) → Feeds other e.call → serves ≡ Some other) es
fed_no_more serves [] e = tt
fed_no_more serves (x ∷ xs) e = cc

fed_behind : (lane : ℕ) (reply : Reply) (es : List Entry) → AfterPlay lane reply es → Every (λ e. (other : ℕ) → Feeds other e.call → Some lane ≡ Some other) es
fed_behind lane (replies.Job job) es h = fed_for lane es (feeds_its_lane lane Awaited.First es h)
fed_behind lane reply es h = fed_no_more (Some lane) es h

-- the entries of a line feed no lane but the one that it serves
pub line_feeds : (call : Option Call) (serves : Option ℕ) (own : List Entry) → NoFeed call → Does call serves own → Every (λ e. (other : ℕ) → Feeds other e.call → serves ≡ Some other) own
line_feeds None None own none h = absurd h
line_feeds None (Some lane) own none h = fed_for lane own (feeds_its_lane lane Awaited.First own h)
line_feeds (Some call) None [] none h = absurd h
line_feeds (Some call) (Some lane) [] none h = absurd h
line_feeds (Some call) None (e ∷ es) none h = ((λ other feeds. absurd (asked_feeds_not call e h.0 none other feeds)), fed_no_more None es h.1)
line_feeds (Some call) (Some lane) (e ∷ es) none h = ((λ other feeds. absurd (asked_feeds_not call e h.0 none other feeds)), fed_behind lane e.reply es h.1)

-- none is counted where none passes
count_none : (p : Entry → Bool) (es : List Entry) → Every (λ e. p e ≡ false) es → count_by p es ≡ 0
count_none p [] h = refl
count_none p (e ∷ es) h = sum_by-cons (λ x. cond (p x) 1 0) e es ∙ ap (λ b. cond b 1 0 + count_by p es) h.0 ∙ zero-add (count_by p es) ∙ count_none p es h.1

-- one where it passes, and else none
abbrev pub as_count : Bool → ℕ
as_count b = cond b 1 0

-- a serving has one entry that ends one, where it gives a file, and else none
pub serving_count : (lane : ℕ) (awaited : Awaited) (es : List Entry) → Serving lane awaited es → count_by ends_serving es ≡ cond (gives_file es) 1 0
serving_count lane awaited [] h = absurd h
serving_count lane awaited (e ∷ es) h =
    let last = last_of e es in
    let none = none_before lane awaited (e ∷ es) last.front last.final h last.split in
    ap (count_by ends_serving) last.split ∙ sum_by_push (λ x. cond (ends_serving x) 1 0) last.front last.final ∙ ap (λ n. n + cond (ends_serving last.final) 1 0) (count_none ends_serving last.front none) ∙ zero-add (cond (ends_serving last.final) 1 0)
    ∙ ap (λ b. as_count b) (sym (ap gives_file last.split ∙ gives_last last.front last.final))

named_one : (b : Bool) (file : Option (List ℕ)) (name : List ℕ) → file ≡ Some name → cond b 1 0 ≡ length (given_name b file)
named_one true file name is = sym (ap (λ o. length (given_name true o)) is)
named_one false file name is = refl

count_front : (e : Entry) (es : List Entry) → ends_serving e ≡ false → count_by ends_serving (e ∷ es) ≡ count_by ends_serving es
count_front e es none = sum_by-cons (λ x. cond (ends_serving x) 1 0) e es ∙ ap (λ b. cond b 1 0 + count_by ends_serving es) none ∙ zero-add (count_by ends_serving es)

count_single : (e : Entry) (es : List Entry) (file : Option (List ℕ)) → ends_serving e ≡ false → es ≡ [] → count_by ends_serving (e ∷ es) ≡ length (given_name (gives_file (e ∷ es)) file)
count_single e [] file none is = count_front e [] none ∙ sym (ap (λ b. length (given_name b file)) none)
count_single e (x ∷ xs) file none is = cc

count_behind : (lane : ℕ) (reply : Reply) (e : Entry) (es : List Entry) (file : Option (List ℕ)) (name : List ℕ) → file ≡ Some name → ends_serving e ≡ false → AfterPlay lane reply es → count_by ends_serving (e ∷ es) ≡ length (given_name (gives_file (e ∷ es)) file)
count_behind lane (replies.Job job) e es file name is none h =
    count_front e es none ∙ serving_count lane Awaited.First es h ∙ named_one (gives_file es) file name is ∙ ap (λ b. length (given_name b file)) (sym (gives_behind e es none))
count_behind lane reply e es file name is none h = count_single e es file none h

-- of a line as many entries end a serving as it gives files
pub line_count : (call : Option Call) (serves : Option ℕ) (own : List Entry) (file : Option (List ℕ)) → NoFeed call → IsNamed serves file → Does call serves own → count_by ends_serving own ≡ length (given_name (gives_file own) file)
line_count None None own file none named h = absurd h
line_count None (Some lane) own file none named h = serving_count lane Awaited.First own h ∙ named_one (gives_file own) file named.0 named.1
line_count (Some call) None [] file none named h = absurd h
line_count (Some call) (Some lane) [] file none named h = absurd h
line_count (Some call) None (e ∷ es) file none named h = count_single e es file (asked_ends_not call e h.0 none) h.1
line_count (Some call) (Some lane) (e ∷ es) file none named h = count_behind lane e.reply e es file named.0 named.1 (asked_ends_not call e h.0 none) h.1
