-- What the entries that a caller has seen give it.
--     own_among      what a caller gained is what it has among the entries that it saw more
--     call_gives, serving_gives      what one call, and one serving, give
--     own_feeds      a lane that they don't feed
use Rattle.std.proofs.Common.{◌≡◌, ℕ, Bool, true, false, cond, ◌==◌, List, [], ◌∷◌, ◌++◌, refl, sym, ap, ◌∙◌, subst}
use Rattle.std.specs.Prelude.{◌&&◌}
use Rattle.std.proofs.lemmas.Bool.{eqb-true, and_left}
use Rattle.std.proofs.lemmas.List.{append_cancel_left, same_from_push}
use Rattle.std.proofs.lemmas.List.Elements.{filter-append}
use Rattle.voice_model.specs.State.{State}
use Rattle.voice_model.specs.Step.{after}
use Rattle.voice_model.specs.Valid.{Every}
use Rattle.voice_model.specs.Follows.{Awaited, Serving, passage_bytes}
use Rattle.voice_model.specs.declared.calls.Entry.{Entry}
use Rattle.voice_model.proofs.KeptByChanges.{every-append, every-imply}
use Rattle.voice_model.proofs.Order.{every-split}
use Rattle.voice_model.proofs.FitsOfCalls.{every_passed}
use Rattle.turnstile.specs.Histories.{entries_of}
use Rattle.turnstile.specs.Passes.{IsAllOf}
use Rattle.serving_laws.specs.Lanes.{Feeds, FeedsNot, FedBy, first_of_lane}
use Rattle.servings.proofs.Between.{gained_since}
use Rattle.served_files.specs.Lines.{entries_of_caller}
use Rattle.served_files.specs.Given.{is_over, ends_serving, gives_to, given_bytes, GivesTo}
use Rattle.served_files.proofs.Servings.{Quiet, FeedsOnly, serving_ends, none_before}
use Rattle.served_files.proofs.Bytes.{IsHeardOf, gives_append, gives_none, gives_final, of_others}
use Rattle.served_files.proofs.Alone.{every_both, of_caller}

-- ---- a call

-- what others did, and then a call that is no feed, give the caller nothing
pub call_gives : (caller : ℕ) (s : State) (tapes : List (List ℕ)) (between : List Entry) (e : Entry) → Every (λ e. ¬ (e.caller ≡ caller)) between → ends_serving e ≡ false → GivesTo caller s tapes (between ++ e ∷ []) []
call_gives caller s tapes between e others quiet =
    gives_none caller s tapes (between ++ e ∷ []) (every-append (λ e. gives_to caller e ≡ false) between (e ∷ []) (of_others caller between others) (and_left (ends_serving e) (e.caller == caller) quiet, tt))

-- ---- the entries of a caller among those that it has seen

-- said in two ways
same_entries : (by : ℕ) (es : List Entry) → entries_of_caller by es ≡ entries_of by es
same_entries by [] = refl
same_entries by (e ∷ es) = ap (λ l. cond (e.caller == by) (e ∷ l) l) (same_entries by es)

-- what a caller gained is what it has among the entries that it saw more
pub own_among : (start old more : List Entry) (by : ℕ) (mine mine_new own : List Entry) → IsAllOf start old by mine → IsAllOf start (old ++ more) by mine_new → mine_new ≡ mine ++ own → entries_of_caller by more ≡ own
own_among start old more by mine mine_new own h k gained = same_entries by more ∙ append_cancel_left mine (entries_of by more) own (sym (gained_since start old more by mine mine_new h k) ∙ gained)

quiet_or_others : (ends own : Bool) → (own ≡ true → ends ≡ false) → (ends && own) ≡ false
quiet_or_others ends true h = and_left ends true (h refl)
quiet_or_others true false h = refl
quiet_or_others false false h = refl

-- where a caller's own entries are quiet, none gives it anything
own_quiet : (by : ℕ) (es : List Entry) → Quiet (entries_of_caller by es) → Every (λ e. gives_to by e ≡ false) es
own_quiet by es h = every-imply (λ e. e.caller ≡ by → ends_serving e ≡ false) (λ e. gives_to by e ≡ false) (λ e quiet. quiet_or_others (ends_serving e) (e.caller == by) (λ own. quiet (eqb-true e.caller by own))) es (of_caller (λ e. ends_serving e ≡ false) by es h)

-- entries that feed a lane that only the caller feeds are its own
pub own_feeds : (by lane other : ℕ) (es : List Entry) → ¬ (other ≡ lane) → FedBy by other es → FeedsOnly lane (entries_of_caller by es) → FeedsNot other es
own_feeds by lane other es apart fed only =
    every_both (λ e. Feeds other e.call → e.caller ≡ by) (λ e. e.caller ≡ by → (fed : ℕ) → Feeds fed e.call → fed ≡ lane) (λ e. ¬ Feeds other e.call) es (λ e its feeds k. apart (feeds (its k) other k)) fed
    (of_caller (λ e. (fed : ℕ) → Feeds fed e.call → fed ≡ lane) by es only)

-- ---- a serving

-- what others did meanwhile, and a serving, give the caller what was heard
pub serving_gives :
    (caller lane : ℕ) (s : State) (tapes : List (List ℕ)) (more between own front : List Entry) (last final : Entry) (bytes : List ℕ) → Serving lane Awaited.First own → own ≡ front ++ final ∷ [] → more ≡ between ++ last ∷ [] → last ≡ final → entries_of_caller caller more ≡ own
    → IsHeardOf final.reply (passage_bytes (first_of_lane (after s tapes between) lane)) bytes → GivesTo caller s tapes more (given_bytes (is_over final.reply) bytes)
serving_gives caller lane s tapes more between own front last final bytes serves ends split same among heard =
    let is : more ≡ between ++ final ∷ [] = split ∙ ap (λ e. between ++ e ∷ []) same in
    let whole : entries_of_caller caller more ≡ front ++ final ∷ [] = among ∙ ends in
    let each : Every (λ e. (e.caller == caller) ≡ true) (front ++ final ∷ []) = subst (Every (λ e. (e.caller == caller) ≡ true)) whole (every_passed (λ e. e.caller == caller) more) in
    let its : (final.caller == caller) ≡ true = (every-split (λ e. (e.caller == caller) ≡ true) front (final ∷ []) each).1.0 in
    let both : entries_of_caller caller between ++ final ∷ [] ≡ front ++ final ∷ [] =
    sym (filter-append (λ e. e.caller == caller) between (final ∷ []) ∙ ap (λ b. entries_of_caller caller between ++ cond b (final ∷ []) []) its) ∙ ap (entries_of_caller caller) (sym is) ∙ whole in
    let quiet : Quiet (entries_of_caller caller between) = subst Quiet (sym (same_from_push (entries_of_caller caller between) front final final both).0) (none_before lane Awaited.First own front final serves ends) in
    let last_fed = (serving_ends lane Awaited.First own front final serves ends).1 in
    subst (λ es. GivesTo caller s tapes es (given_bytes (is_over final.reply) bytes)) (sym is)
    (gives_append caller s tapes between (final ∷ []) [] (given_bytes (is_over final.reply) bytes) (gives_none caller s tapes between (own_quiet caller between quiet))
    (gives_final caller lane (after s tapes between) tapes final bytes last_fed (eqb-true final.caller caller its) heard))
