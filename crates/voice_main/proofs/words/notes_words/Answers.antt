use Rattle.std.proofs.Common.{List, ℕ, map, subst}
use Rattle.std.specs.Prelude.{string_bytes, MatchOption}
use Rattle.voice_main.specs.Words.{IsNamed, IsNotNamed}
use Rattle.voice_main.proofs.words.notes_words.Goals as goal

pub returns : goal.returns
returns c =
    let words = map string_bytes c.args.words.now in
    let P : List ℕ → Type 0 = λ word. MatchOption c.named.result (IsNotNamed word words) (λ name. IsNamed word words name) in
    subst P c.as_slice.ensures c.named.ensures
