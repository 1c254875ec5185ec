-- What others did between two turns of a caller.
use Rattle.std.proofs.Common.{◌≡◌, ℕ, ◌+◌, Bool, true, false, cond, ◌==◌, List, [], ◌∷◌, ◌++◌, length, drop, refl, sym, ap, ◌∙◌, subst, arith, append_assoc, append-nil, length-append, eq-eqb}
use Rattle.std.proofs.lemmas.Bool.{false≢true}
use Rattle.std.proofs.lemmas.List.{drop_at}
use Rattle.voice_model.specs.State.{State}
use Rattle.voice_model.specs.Step.{Legal, IsAnswer, state_after, after}
use Rattle.voice_model.specs.Valid.{Every}
use Rattle.voice_model.specs.declared.calls.Entry.{Entry}
use Rattle.voice_model.proofs.KeptByChanges.{every-append}
use Rattle.voice_model.proofs.Order.{every-split}
use Rattle.turnstile.specs.Histories.{entries_of}
use Rattle.turnstile.specs.Turns.{Begins}
use Rattle.turnstile.specs.Passes.{IsAllOf}
use Rattle.turnstile.proofs.Views.{entries_append}
use Rattle.serving_laws.specs.Lanes.{Feeds, FeedsNot, FedBy}
use Rattle.serving_laws.proofs.Others.{fed_by_another}

pub begins_on : (xs ys zs : List Entry) → Begins xs ys → Begins ys zs → Begins xs zs
begins_on xs ys zs b c = (b.0 ++ c.0, c.1 ∙ ap (λ l. l ++ c.0) b.1 ∙ append_assoc xs b.0 c.0)

pub begins_self : (xs : List Entry) → Begins xs xs
begins_self xs = ([], sym (append-nil xs))

none_by_test : (b : Bool) (by : ℕ) (e : Entry) (es : List Entry) → (e.caller == by) ≡ b → length (cond b (e ∷ entries_of by es) (entries_of by es)) ≡ 0 → (¬ (e.caller ≡ by)) × (length (entries_of by es) ≡ 0)
none_by_test true by e es f h = absurd (omega (arith, h))
none_by_test false by e es f h = ((λ is. let same : (e.caller == by) ≡ true = eq-eqb e.caller by is in absurd (false≢true (sym f ∙ same))), h)

none_of : (by : ℕ) (es : List Entry) → length (entries_of by es) ≡ 0 → Every (λ e. ¬ (e.caller ≡ by)) es
none_of by [] h = tt
none_of by (e ∷ es) h = let one = none_by_test (e.caller == by) by e es refl h in (one.0, none_of by es one.1)

-- what a caller has gained since the start: its own among the entries that it saw more
pub gained_since : (start old more : List Entry) (by : ℕ) (own_old own_new : List Entry) → IsAllOf start old by own_old → IsAllOf start (old ++ more) by own_new → own_new ≡ own_old ++ entries_of by more
gained_since start old more by own_old own_new h k =
    let whole : old ++ more ≡ start ++ (h.0.0 ++ more) = ap (λ l. l ++ more) h.0.1 ∙ append_assoc start h.0.0 more in
    let was : own_old ≡ entries_of by h.0.0 = h.1 ∙ ap (λ l. entries_of by (drop (length start) l)) h.0.1 ∙ ap (entries_of by) (drop_at start h.0.0 (length start) refl) in
    k.1 ∙ ap (λ l. entries_of by (drop (length start) l)) whole ∙ ap (entries_of by) (drop_at start (h.0.0 ++ more) (length start) refl) ∙ entries_append by h.0.0 more ∙ ap (λ l. l ++ entries_of by more) (sym was)

own_one : (by : ℕ) (e : Entry) → e.caller ≡ by → length (entries_of by (e ∷ [])) ≡ 1
own_one by e is = ap (λ b. length (cond b (e ∷ []) [])) (eq-eqb e.caller by is)

-- one entry more of its own: what stands before it is of others
pub others_between :
    (start old between : List Entry) (e : Entry) (by : ℕ) (own_old own_new : List Entry) → IsAllOf start old by own_old → IsAllOf start ((old ++ between) ++ e ∷ []) by own_new
    → own_new ≡ own_old ++ e ∷ [] → e.caller ≡ by → Every (λ e. ¬ (e.caller ≡ by)) between
others_between start old between e by own_old own_new h k gained is =
    let k2 : IsAllOf start (old ++ (between ++ e ∷ [])) by own_new = subst (λ l. IsAllOf start l by own_new) (append_assoc old between (e ∷ [])) k in
    let count = ap length (gained_since start old (between ++ e ∷ []) by own_old own_new h k2) ∙ length-append own_old (entries_of by (between ++ e ∷ [])) in
    let parts = ap length (entries_append by between (e ∷ [])) ∙ length-append (entries_of by between) (entries_of by (e ∷ [])) in
    let grown : length own_new ≡ length own_old + 1 = ap length gained ∙ length-append own_old (e ∷ []) in
    none_of by between (omega (arith, count, parts, own_one by e is, grown))

-- ---- parts of a history

pub fed_front : (by lane : ℕ) (xs ys : List Entry) → FedBy by lane (xs ++ ys) → FedBy by lane xs
fed_front by lane xs ys h = (every-split (λ e. Feeds lane e.call → e.caller ≡ by) xs ys h).0

pub fed_back : (by lane : ℕ) (xs ys : List Entry) → FedBy by lane (xs ++ ys) → FedBy by lane ys
fed_back by lane xs ys h = (every-split (λ e. Feeds lane e.call → e.caller ≡ by) xs ys h).1

pub after_front : (s : State) (tapes : List (List ℕ)) (xs ys : List Entry) → after s tapes (xs ++ ys) ≡ after (after s tapes xs) tapes ys
after_front s tapes [] ys = refl
after_front s tapes (x ∷ xs) ys = after_front (state_after s tapes x) tapes xs ys

pub legal_last : (s : State) (tapes : List (List ℕ)) (xs : List Entry) (e : Entry) → Legal s tapes (xs ++ e ∷ []) → IsAnswer (after s tapes xs) tapes e
legal_last s tapes [] e h = h.0
legal_last s tapes (x ∷ xs) e h = legal_last (state_after s tapes x) tapes xs e h.1

-- the lane is fed by this caller, and what came between is of others: it doesn't feed the lane
pub feeds_not :
    (start old between : List Entry) (e : Entry) (by lane : ℕ) (own_old own_new : List Entry) → IsAllOf start old by own_old → IsAllOf start ((old ++ between) ++ e ∷ []) by own_new
    → own_new ≡ own_old ++ e ∷ [] → e.caller ≡ by → FedBy by lane ((old ++ between) ++ e ∷ []) → FeedsNot lane between
feeds_not start old between e by lane own_old own_new h k gained is fed =
    fed_by_another by lane between (fed_back by lane old between (fed_front by lane (old ++ between) (e ∷ []) fed)) (others_between start old between e by own_old own_new h k gained is)

-- nor does one entry more that doesn't
pub feeds_not_more : (lane : ℕ) (es : List Entry) (e : Entry) → FeedsNot lane es → ¬ Feeds lane e.call → FeedsNot lane (es ++ e ∷ [])
feeds_not_more lane es e h k = every-append (λ e. ¬ Feeds lane e.call) es (e ∷ []) h (k, tt)
