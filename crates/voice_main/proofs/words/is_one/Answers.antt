use Rattle.std.proofs.Common.{◌≡◌, [], ◌∷◌, sym, ◌∙◌, ap, arith}
use Rattle.std.proofs.lemmas.Bool.{false≢true}
use Rattle.std.specs.Prelude.{string_bytes}
use Rattle.std.proofs.lemmas.Slice.Eq.{bytes_eq-Decides}
use Rattle.voice_main.proofs.Named.{one_item}
use Rattle.voice_main.proofs.words.is_one.Goals as goal

pub returns-clause-yes : goal.returns-clause-yes
returns-clause-yes c = λ is.
    let words = one_item string_bytes c.args.words.now c.verb-item.result (omega arith) (omega arith) c.verb-item.is in
    let same : c.as_bytes.result.now ≡ c.args.word.now = (bytes_eq-Decides c.as_bytes.result.now c.args.word.now).0 (sym c.eq.ensures ∙ is) in
    words ∙ ap (λ w. w ∷ []) (sym c.as_bytes.ensures.value ∙ same)

pub returns-clause-no : goal.returns-clause-no
returns-clause-no c = λ is form.
    let words = one_item string_bytes c.args.words.now c.verb-item.result (omega arith) (omega arith) c.verb-item.is in
    let h : string_bytes c.verb-item.result ∷ [] ≡ c.args.word.now ∷ [] = sym words ∙ form in
    let same : string_bytes c.verb-item.result ≡ c.args.word.now = cc in
    false≢true (sym is ∙ c.eq.ensures ∙ (bytes_eq-Decides c.as_bytes.result.now c.args.word.now).1 (c.as_bytes.ensures.value ∙ same))
