-- The entries of lines in order are determined by the lines, the variables and the state that they begin in.
use Rattle.std.proofs.Common.{◌≡◌, ℕ, List, [], ◌∷◌, ◌++◌, Option, Some, None, refl, sym, ◌∙◌, ap, subst}
use Rattle.voice_model.specs.State.{State}
use Rattle.voice_model.specs.Step.{Legal, after}
use Rattle.voice_model.specs.Follows.{Binding, Awaited, AfterPlay, Serving, Does, variables_after}
use Rattle.voice_model.specs.declared.calls.Call.{Call}
use Rattle.voice_model.specs.declared.calls.Reply.{Reply}
use Rattle.voice_model.specs.declared.calls.Reply.TheVariants as replies
use Rattle.voice_model.specs.declared.calls.Entry.{Entry}
use Rattle.script_lang.specs.declared.scripts.Line.{Line}
use Rattle.script_lang.specs.Errands.{errand_of}
use Rattle.servings.specs.Asked.{AreBy}
use Rattle.voice_main.specs.Ordered.{Variables, with_those_of, InOrder}
use Rattle.run_laws.specs.Alike.{without_acks, SameButAcks}
use Rattle.run_laws.proofs.Quiet.{AreAnswered, answered_front, answered_back, legal_front, legal_back, one_head, one_state_after, same_entry, same_cons, same_append, after_same}
use Rattle.run_laws.proofs.Playing.{serving_alike}
use Rattle.voice_model.specs.Step as step

-- ---- the entries of one line

after_play : (lane : ℕ) (reply : Reply) (es fs : List Entry) → AfterPlay lane reply es → AfterPlay lane reply fs → (Serving lane Awaited.First es → Serving lane Awaited.First fs → SameButAcks es fs) → SameButAcks es fs
after_play lane (replies.Job job) es fs p q serving = serving p q
after_play lane _ es fs p q serving = ap without_acks (p ∙ sym q)

line_alike : (s : State) (tapes : List (List ℕ)) (caller : ℕ) (asks : Option Call) (serves : Option ℕ) (es fs : List Entry) → Does asks serves es → Does asks serves fs
    → AreBy caller es → AreBy caller fs → Legal s tapes es → Legal s tapes fs → AreAnswered es → AreAnswered fs → SameButAcks es fs
line_alike s tapes caller None None es fs p q b c h k a d = absurd p
line_alike s tapes caller None (Some lane) es fs p q b c h k a d = serving_alike s tapes lane caller Awaited.First es fs tt p q b c h k a d
line_alike s tapes caller (Some call) serves [] fs p q b c h k a d = absurd p
line_alike s tapes caller (Some call) serves (e ∷ es) [] p q b c h k a d = absurd q
line_alike s tapes caller (Some call) None (e ∷ es) (f ∷ fs) p q b c h k a d =
    let same : e.call ≡ f.call = p.0 ∙ sym q.0 in
    same_cons e f es fs (same_entry e f (b.0 ∙ sym c.0) same (one_head s tapes e f same h.0 k.0 a.0 d.0)) (ap without_acks (p.1 ∙ sym q.1))
line_alike s tapes caller (Some call) (Some lane) (e ∷ es) (f ∷ fs) p q b c h k a d =
    let same : e.call ≡ f.call = p.0 ∙ sym q.0 in
    let replied : e.reply ≡ f.reply = one_head s tapes e f same h.0 k.0 a.0 d.0 in
    same_cons e f es fs (same_entry e f (b.0 ∙ sym c.0) same replied)
    (after_play lane e.reply es fs p.1 (subst (λ (r : Reply). AfterPlay lane r fs) (sym replied) q.1)
    (λ on on'. serving_alike (step.state_after s tapes e) tapes lane caller Awaited.First es fs tt on on' b.1 c.1 h.1 (subst (λ (x : State). Legal x tapes fs) (sym (one_state_after s tapes e f same replied)) k.1) a.1 d.1))

-- what a line sets doesn't depend on moments
set_without : (binds : Option (List ℕ)) (es : List Entry) (variables : List Binding) → variables_after binds (without_acks es) variables ≡ variables_after binds es variables
set_without binds [] variables = refl
set_without binds (e ∷ es) variables = refl

set_alike : (binds : Option (List ℕ)) (es fs : List Entry) (variables : List Binding) → SameButAcks es fs → variables_after binds es variables ≡ variables_after binds fs variables
set_alike binds es fs variables p =
    sym (set_without binds es variables) ∙ ap (λ (xs : List Entry). variables_after binds xs variables) p ∙ set_without binds fs variables

-- ---- lines in order

pub lines_alike : (s : State) (tapes : List (List ℕ)) (variables : Variables) (lines : List Line) (es fs : List Entry) → InOrder tapes variables lines es → InOrder tapes variables lines fs
    → Legal s tapes es → Legal s tapes fs → AreAnswered es → AreAnswered fs → SameButAcks es fs
lines_alike s tapes variables [] es fs p q h k a d = ap without_acks (p ∙ sym q)
lines_alike s tapes variables (line ∷ lines) es fs p q h k a d =
    let h' : Legal s tapes (p.0 ++ p.1) = subst (λ (xs : List Entry). Legal s tapes xs) p.2 h in
    let k' : Legal s tapes (q.0 ++ q.1) = subst (λ (xs : List Entry). Legal s tapes xs) q.2 k in
    let a' : AreAnswered (p.0 ++ p.1) = subst AreAnswered p.2 a in
    let d' : AreAnswered (q.0 ++ q.1) = subst AreAnswered q.2 d in
    let own : SameButAcks p.0 q.0 =
    line_alike s tapes line.caller ((errand_of tapes line).asks (variables line.caller)) (errand_of tapes line).serves p.0 q.0 p.4 q.4 p.3 q.3
    (legal_front s tapes p.0 p.1 h') (legal_front s tapes q.0 q.1 k') (answered_front p.0 p.1 a') (answered_front q.0 q.1 d') in
    let set : variables_after line.bind p.0 (variables line.caller) ≡ variables_after line.bind q.0 (variables line.caller) = set_alike line.bind p.0 q.0 (variables line.caller) own in
    let rest : SameButAcks p.1 q.1 =
    lines_alike (after s tapes p.0) tapes (with_those_of line.caller (variables_after line.bind p.0 (variables line.caller)) variables) lines p.1 q.1 p.5
    (subst (λ (own : List Binding). InOrder tapes (with_those_of line.caller own variables) lines q.1) (sym set) q.5)
    (legal_back s tapes p.0 p.1 h') (subst (λ (x : State). Legal x tapes q.1) (sym (after_same s tapes p.0 q.0 own)) (legal_back s tapes q.0 q.1 k'))
    (answered_back p.0 p.1 a') (answered_back q.0 q.1 d') in
    ap without_acks p.2 ∙ same_append p.0 p.1 ∙ (λ i. own i ++ rest i) ∙ sym (same_append q.0 q.1) ∙ ap without_acks (sym q.2)
