use Rattle.std.proofs.Common.{ℕ, List, [], ◌∷◌, ◌++◌, ap, ◌∙◌, arith}
use Rattle.voice_journal.specs.Readings.{framed_size, views}
use Rattle.voice_journal.proofs.Writing.{size_more, views_push}
use Rattle.voice_journal.proofs.lists.Payloads.push.Goals as goal

pub invariant_of-self-2 : goal.invariant_of-self-2
invariant_of-self-2 c =
    let seen = ap views c.in_ok-push.ensures.items ∙ views_push c.self.inside.items.items c.args.bytes in
    let sizes = ap framed_size seen ∙ size_more (views c.self.inside.items.items) c.args.bytes.items in
    omega (arith, sizes, c.self.invariant)

pub returns-clause-ok : goal.returns-clause-ok
returns-clause-ok c =
    ap views c.in_ok-push.ensures.items ∙ views_push c.self.inside.items.items c.args.bytes ∙ ap (λ (l : List (List ℕ)). l ++ c.args.bytes.items ∷ []) c.self.view_is
