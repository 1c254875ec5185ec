-- Files by the bytes that servings give.
use Rattle.std.proofs.Common.{◌≡◌, ℕ, Bool, true, false, ◌&&◌, eqb, List, [], ◌∷◌, ◌++◌, map, Option, Some, refl, sym, ap, subst, ◌∙◌, eq-eqb}
use Rattle.std.proofs.lemmas.Bool.{and_left, and_right, ne_eqb}
use Rattle.voice_model.specs.declared.calls.Call.TheVariants as calls
use Rattle.voice_model.specs.declared.calls.Reply.{Reply}
use Rattle.voice_model.specs.declared.calls.Entry.{Entry}
use Rattle.voice_model.specs.State.{State}
use Rattle.voice_model.specs.Step.{state_after, after}
use Rattle.voice_model.specs.Follows.{passage_bytes, heard_bytes}
use Rattle.voice_model.specs.Valid.{Every}
use Rattle.serving_laws.specs.Lanes.{first_of_lane}
use Rattle.served_files.specs.declared.heard.Heard.{Heard}
use Rattle.served_files.specs.Files.{GivenFile, given_of}
use Rattle.served_files.specs.Given.{is_feed, is_over, ends_serving, gives_to, passage_fed, given_bytes, GivesHere, GivesTo, bytes_in}
use Rattle.served_files.proofs.Servings.{Quiet}

here_append : (b : Bool) (s : State) (e : Entry) (given more : List (List ℕ)) (P Q : List (List ℕ) → Type 0) → ((later : List (List ℕ)) → P later → Q (later ++ more)) → GivesHere b s e given P → GivesHere b s e (given ++ more) Q
here_append false s e given more P Q f h = f given h
here_append true s e given more P Q f h = (h.0, h.1 ++ more, ap (λ l. l ++ more) h.2, h.3, f h.1 h.4)

-- what entries give, and those behind them
pub gives_append : (c : ℕ) (s : State) (tapes : List (List ℕ)) (xs ys : List Entry) (a b : List (List ℕ)) → GivesTo c s tapes xs a → GivesTo c (after s tapes xs) tapes ys b → GivesTo c s tapes (xs ++ ys) (a ++ b)
gives_append c s tapes [] ys a b none later = subst (λ l. GivesTo c s tapes ys (l ++ b)) (sym none) later
gives_append c s tapes (x ∷ xs) ys a b h later =
    here_append (gives_to c x) s x a b (λ more. GivesTo c (state_after s tapes x) tapes xs more) (λ more. GivesTo c (state_after s tapes x) tapes (xs ++ ys) more)
    (λ more given. gives_append c (state_after s tapes x) tapes xs ys more b given later) h

-- entries of which none gives the caller a file
pub gives_none : (c : ℕ) (s : State) (tapes : List (List ℕ)) (es : List Entry) → Every (λ e. gives_to c e ≡ false) es → GivesTo c s tapes es []
gives_none c s tapes [] h = refl
gives_none c s tapes (e ∷ es) h = subst (λ b. GivesHere b s e [] (λ more. GivesTo c (state_after s tapes e) tapes es more)) (sym h.0) (gives_none c (state_after s tapes e) tapes es h.1)

-- entries of others give the caller no file
pub of_others : (c : ℕ) (es : List Entry) → Every (λ e. e.caller ≡ c → ⊥) es → Every (λ e. gives_to c e ≡ false) es
of_others c [] h = tt
of_others c (e ∷ es) h = (and_right (ends_serving e) (eqb e.caller c) (ne_eqb e.caller c h.0), of_others c es h.1)

-- entries of which none ends a serving give no caller a file
pub of_none : (c : ℕ) (es : List Entry) → Quiet es → Every (λ e. gives_to c e ≡ false) es
of_none c [] h = tt
of_none c (e ∷ es) h = (and_left (ends_serving e) (eqb e.caller c) h.0, of_none c es h.1)

-- an entry that gives the caller a file
pub gives_one : (c : ℕ) (s : State) (tapes : List (List ℕ)) (e : Entry) (bytes : List ℕ) → gives_to c e ≡ true → heard_bytes e.reply (passage_fed s e.call) ≡ Some bytes → GivesTo c s tapes (e ∷ []) (bytes ∷ [])
gives_one c s tapes e bytes gives heard =
    let here : GivesHere true s e (bytes ∷ []) (λ more. more ≡ []) = (bytes, [], refl, heard, refl) in
    subst (λ b. GivesHere b s e (bytes ∷ []) (λ more. more ≡ [])) (sym gives) here

-- these bytes were heard of a passage, where a job is over with this reply
abbrev pub IsHeardOf : Reply → List ℕ → List ℕ → Type 0
IsHeardOf reply passage bytes = is_over reply ≡ true → heard_bytes reply passage ≡ Some bytes

gives_here : (b : Bool) (s : State) (e : Entry) (bytes : List ℕ) → (b ≡ true → heard_bytes e.reply (passage_fed s e.call) ≡ Some bytes) → GivesHere b s e (given_bytes b bytes) (λ more. more ≡ [])
gives_here false s e bytes h = refl
gives_here true s e bytes h = (bytes, [], refl, h refl, refl)

-- the last entry of a serving gives its caller what was heard
pub gives_final : (c lane : ℕ) (s : State) (tapes : List (List ℕ)) (e : Entry) (bytes : List ℕ) → (back : Option ℕ) × (e.call ≡ calls.Feed lane back) → e.caller ≡ c → IsHeardOf e.reply (passage_bytes (first_of_lane s lane)) bytes
    → GivesTo c s tapes (e ∷ []) (given_bytes (is_over e.reply) bytes)
gives_final c lane s tapes e bytes fed own heard =
    let gives : gives_to c e ≡ is_over e.reply = ap (λ call. (is_feed call && is_over e.reply) && eqb e.caller c) fed.1 ∙ ap (λ b. is_over e.reply && b) (eq-eqb e.caller c own) ∙ and_all (is_over e.reply) in
    subst (λ b. GivesHere b s e (given_bytes (is_over e.reply) bytes) (λ more. more ≡ [])) (sym gives)
    (gives_here (is_over e.reply) s e bytes (λ over. ap (λ call. heard_bytes e.reply (passage_fed s call)) fed.1 ∙ heard over))
  where
    and_all : (b : Bool) → (b && true) ≡ b
    and_all true = refl
    and_all false = refl

-- the bytes of a caller's files are those that it heard
pub queue_bytes : (heard : List Heard) → map (λ (f : GivenFile). f.bytes) (map given_of heard) ≡ bytes_in heard
queue_bytes [] = refl
queue_bytes (h ∷ hs) = ap (λ l. h.bytes.items ∷ l) (queue_bytes hs)
