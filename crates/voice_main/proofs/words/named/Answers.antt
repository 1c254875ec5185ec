use Rattle.std.proofs.Common.{◌≡◌, ◌∙◌, [], ◌∷◌, List, ℕ, map, ap, sym, subst, arith}
use Rattle.std.specs.Prelude.{string_bytes, MatchOption}
use Rattle.voice_main.specs.Words.{IsNamed, IsNotNamed}
use Rattle.voice_main.proofs.Named.{two_items}
use Rattle.voice_main.proofs.words.named.Goals as goal

pub returns : goal.returns
returns c =
    let v = c.as_bytes.result.now in
    let n = c.as_bytes-2.result.now in
    let words = two_items string_bytes c.args.words.now c.verb-item.result c.name-item.result (omega arith) (omega arith) c.verb-item.is c.name-item.is in
    let same : (v ∷ n ∷ []) ≡ map string_bytes c.args.words.now = ap (λ x. x ∷ n ∷ []) c.as_bytes.ensures.value ∙ ap (λ x. string_bytes c.verb-item.result ∷ x ∷ []) c.as_bytes-2.ensures.value ∙ sym words in
    let P : List (List ℕ) → Type 0 = λ ws. MatchOption c.named_of.result (IsNotNamed c.args.word.now ws) (λ name. IsNamed c.args.word.now ws name) in
    subst P same c.named_of.ensures
