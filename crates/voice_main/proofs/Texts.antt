-- The text of one entry more.
use Rattle.std.proofs.Common.{◌≡◌, ℕ, ◌+◌, List, [], ◌∷◌, ◌++◌, length, take, sym, ap, ◌∙◌, arith, append_assoc, append-nil, length-take, get_or, ◌<◌}
use Rattle.std.proofs.lemmas.List.{take_more}
use Rattle.voice_model.specs.declared.calls.Entry.{Entry}
use Rattle.voice_model.specs.Text.{text_of, text_from, entry_text}

pub text_from-push : (k : ℕ) (es : List Entry) (e : Entry) → text_from k (es ++ e ∷ []) ≡ text_from k es ++ entry_text (k + length es) e
text_from-push k [] e = append-nil (entry_text k e) ∙ ap (λ n. entry_text n e) (omega arith)
text_from-push k (f ∷ es) e = ap (λ t. entry_text k f ++ t) (text_from-push (k + 1) es e) ∙ sym (append_assoc (entry_text k f) (text_from (k + 1) es) (entry_text (k + 1 + length es) e)) ∙ ap (λ n. entry_text k f ++ text_from (k + 1) es ++ entry_text n e) (omega arith)

-- one entry more
pub text-more : (history : List Entry) (i : ℕ) (e : Entry) (before after : List ℕ) → i < length history → e ≡ get_or history i e → before ≡ text_of (take i history) → after ≡ before ++ entry_text (i + 1) e →
    after ≡ text_of (take (i + 1) history)
text-more history i e before after within is so_far now =
    let len : 1 + length (take i history) ≡ i + 1 = omega (arith, length-take i history) in
    now ∙ ap (λ b. b ++ entry_text (i + 1) e) so_far
    ∙ sym (ap text_of (take_more history i e within ∙ ap (λ x. take i history ++ x ∷ []) (sym is)) ∙ text_from-push 1 (take i history) e ∙ ap (λ n. text_of (take i history) ++ entry_text n e) len)
