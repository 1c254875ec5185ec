use Rattle.std.proofs.Common.{arith, ◌≡◌, ◌+◌, ◌-◌, [], ◌∷◌, ◌++◌, length, ap, sym, subst, ◌∙◌, get_or}
use Rattle.counted_row.specs.Row.{flat, IsDense}
use Rattle.counted_row.proofs.Flat.{flat-push, dense-set}
use Rattle.counted_row.proofs.row.put_last.Goals as goal

pub returns-clause-values : goal.returns-clause-values
returns-clause-values g c =
    let mid = c.open_end.new.chunks.items in
    let last = c.len-last.result - 1 in
    let end : last + 1 ≡ length mid = omega (arith, c.len-last.ensures, c.open_end.ensures.some, c.open_end.new.chunks.ok.0) in
    ap flat c.push_in.ensures.chunks
    ∙ flat-push mid last c.args.value end
    ∙ ap (λ l. l ++ c.args.value ∷ []) c.open_end.ensures.values

pub returns-clause-dense : goal.returns-clause-dense
returns-clause-dense g c =
    let mid = c.open_end.new.chunks.items in
    let last = c.len-last.result - 1 in
    let end : last + 1 ≡ length mid = omega (arith, c.len-last.ensures, c.open_end.ensures.some, c.open_end.new.chunks.ok.0) in
    subst IsDense (sym c.push_in.ensures.chunks)
    (dense-set mid last (get_or mid last [] ++ c.args.value ∷ []) (λ h. absurd (omega (arith, h, end))) c.open_end.ensures.dense)
