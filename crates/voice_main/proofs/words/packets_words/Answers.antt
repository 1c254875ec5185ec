use Rattle.std.proofs.Common.{◌≡◌, ◌∙◌, [], ◌∷◌, List, ℕ, map, ap, sym, subst, arith}
use Rattle.std.specs.Prelude.{string_bytes, MatchOption}
use Rattle.voice_main.specs.Words.{IsPackets, IsNoPackets}
use Rattle.voice_main.proofs.Named.{four_items}
use Rattle.voice_main.proofs.words.packets_words.Goals as goal

pub returns : goal.returns
returns c =
    let v = c.as_bytes.result.now in
    let s = c.as_bytes-2.result.now in
    let f = c.as_bytes-3.result.now in
    let n = c.as_bytes-4.result.now in
    let words = four_items string_bytes c.args.words.now c.verb-item.result c.script-item.result c.file-item.result c.first-item.result (omega arith) (omega arith) c.verb-item.is c.script-item.is c.file-item.is c.first-item.is in
    let same : (v ∷ s ∷ f ∷ n ∷ []) ≡ map string_bytes c.args.words.now =
    ap (λ x. x ∷ s ∷ f ∷ n ∷ []) c.as_bytes.ensures.value ∙ ap (λ x. string_bytes c.verb-item.result ∷ x ∷ f ∷ n ∷ []) c.as_bytes-2.ensures.value
    ∙ ap (λ x. string_bytes c.verb-item.result ∷ string_bytes c.script-item.result ∷ x ∷ n ∷ []) c.as_bytes-3.ensures.value
    ∙ ap (λ x. string_bytes c.verb-item.result ∷ string_bytes c.script-item.result ∷ string_bytes c.file-item.result ∷ x ∷ []) c.as_bytes-4.ensures.value ∙ sym words in
    let P : List (List ℕ) → Type 0 = λ ws. MatchOption c.sending_of.result (IsNoPackets ws) (λ s. IsPackets ws s.script s.file s.first) in
    subst P same c.sending_of.ensures
