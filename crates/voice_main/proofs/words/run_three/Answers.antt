use Rattle.std.proofs.Common.{◌≡◌, ◌∙◌, [], ◌∷◌, List, ℕ, map, ap, sym, subst, arith}
use Rattle.std.specs.Prelude.{string_bytes, MatchOption}
use Rattle.voice_main.specs.Words.{IsNoRun, Says, run_command}
use Rattle.voice_main.proofs.Named.{three_items}
use Rattle.voice_main.proofs.words.run_three.Goals as goal

pub returns : goal.returns
returns c =
    let v = c.as_bytes.result.now in
    let f = c.as_bytes-2.result.now in
    let s = c.as_bytes-3.result.now in
    let words = three_items string_bytes c.args.words.now c.verb-item.result c.first-item.result c.second-item.result (omega arith) (omega arith) c.verb-item.is c.first-item.is c.second-item.is in
    let same : (v ∷ f ∷ s ∷ []) ≡ map string_bytes c.args.words.now =
    ap (λ x. x ∷ f ∷ s ∷ []) c.as_bytes.ensures.value ∙ ap (λ x. string_bytes c.verb-item.result ∷ x ∷ s ∷ []) c.as_bytes-2.ensures.value ∙ ap (λ x. string_bytes c.verb-item.result ∷ string_bytes c.first-item.result ∷ x ∷ []) c.as_bytes-3.ensures.value ∙ sym words in
    let P : List (List ℕ) → Type 0 = λ ws. MatchOption c.run_threaded.result (IsNoRun ws) (λ r. Says ws (run_command r.threads r.name)) in
    subst P same c.run_threaded.ensures
