use Rattle.std.proofs.Common.{rules, arith, ◌≡◌, ◌+◌, ◌<◌, ◌≤◌, [], ◌∷◌, ◌++◌, length, ap, sym, subst, ◌∙◌, get_or, set}
use Rattle.std.specs.List.{remove}
use Rattle.std.proofs.lemmas.List.{get_or-set_same, length-set, length-append}
use Rattle.std.proofs.lemmas.List.Edits.{length-remove}
use Rattle.counted_row.specs.Row.{flat, IsDense, AreEmpty}
use Rattle.counted_row.proofs.Flat.{merge-values, merge-dense, borrow-values, borrow-dense, dense-here, empty-push, count-at}
use Rattle.counted_row.proofs.row.fill_up.Goals as goal

pub returns-then-count-len-le-CHUNK-clause-values :
    goal.returns-then-count-len-le-CHUNK-clause-values
returns-then-count-len-le-CHUNK-clause-values g c = ap flat c.merge_at.ensures.chunks ∙ merge-values c.args.chunks.now.items c.args.i (search rules)

pub returns-then-count-len-le-CHUNK-clause-dense :
    goal.returns-then-count-len-le-CHUNK-clause-dense
returns-then-count-len-le-CHUNK-clause-dense g c =
    let cs = c.args.chunks.now.items in
    let more : c.args.i + 1 < length cs = search rules in
    let here : 128 ≤ length (get_or cs c.args.i []) = dense-here cs c.args.i more c.requires.dense in
    subst IsDense (sym c.merge_at.ensures.chunks) (merge-dense cs c.args.i (get_or cs c.args.i [] ++ get_or cs (c.args.i + 1) []) more (omega (arith, here, length-append (get_or cs c.args.i []) (get_or cs (c.args.i + 1) []))) c.requires.dense)

pub returns-then-count-len-le-CHUNK-clause-long : goal.returns-then-count-len-le-CHUNK-clause-long
returns-then-count-len-le-CHUNK-clause-long g c h =
    let cs = c.args.chunks.now.items in
    let i = c.args.i in
    let more : i + 1 < length cs = search rules in
    let here : 128 ≤ length (get_or cs i []) = dense-here cs i more c.requires.dense in
    let gone : length (remove cs (i + 1)) + 1 ≡ length cs = length-remove cs (i + 1) more in
    let count : length c.merge_at.new.chunks.items ≡ length (remove cs (i + 1)) = ap length c.merge_at.ensures.chunks ∙ length-set (remove cs (i + 1)) i (get_or cs i [] ++ get_or cs (i + 1) []) in
    let next : 128 ≤ length (get_or cs (i + 1) []) = dense-here cs (i + 1) (omega (arith, h, gone, count)) c.requires.dense in
    let is : length (get_or c.merge_at.new.chunks.items i []) ≡ length (get_or cs i [] ++ get_or cs (i + 1) []) = ap (λ l. length (get_or l i [])) c.merge_at.ensures.chunks ∙ ap length (get_or-set_same (remove cs (i + 1)) i (get_or cs i [] ++ get_or cs (i + 1) []) [] (omega (arith, gone, more))) in
    omega (arith, here, next, is, length-append (get_or cs i []) (get_or cs (i + 1) []))

pub returns-then-count-len-le-CHUNK-clause-empty :
    goal.returns-then-count-len-le-CHUNK-clause-empty
returns-then-count-len-le-CHUNK-clause-empty g c = subst AreEmpty (sym c.merge_at.ensures.stock) (empty-push c.args.stock.now.items c.requires.empty)

pub returns-else-count-len-le-CHUNK-clause-values :
    goal.returns-else-count-len-le-CHUNK-clause-values
returns-else-count-len-le-CHUNK-clause-values g c =
    let b = c.borrow_at.ensures.chunks in
    ap flat b.2 ∙ borrow-values c.args.chunks.now.items c.args.i b.0 (search rules) b.1

pub returns-else-count-len-le-CHUNK-clause-dense :
    goal.returns-else-count-len-le-CHUNK-clause-dense
returns-else-count-len-le-CHUNK-clause-dense g c =
    let cs = c.args.chunks.now.items in
    let b = c.borrow_at.ensures.chunks in
    let more : c.args.i + 1 < length cs = search rules in
    let here : 128 ≤ length (get_or cs c.args.i []) = dense-here cs c.args.i more c.requires.dense in
    let two : c.len-2.result ≡ length (get_or cs (c.args.i + 1) []) = count-at cs (c.args.i + 1) c.len-2.result c.index-2.result.now more c.index-2.ensures c.len-2.ensures.value in
    let next : 128 < length (get_or cs (c.args.i + 1) []) = omega (arith, two, c.if-count-len-le-CHUNK.false, c.if-count-gt-HALF.false) in
    subst IsDense (sym b.2) (borrow-dense cs c.args.i b.0 more here next c.requires.dense)

pub returns-else-count-len-le-CHUNK-clause-long : goal.returns-else-count-len-le-CHUNK-clause-long
returns-else-count-len-le-CHUNK-clause-long g c h =
    let cs = c.args.chunks.now.items in
    let i = c.args.i in
    let b = c.borrow_at.ensures.chunks in
    let more : i + 1 < length cs = search rules in
    let here : 128 ≤ length (get_or cs i []) = dense-here cs i more c.requires.dense in
    let mid : length (set cs (i + 1) (remove (get_or cs (i + 1) []) 0)) ≡ length cs = length-set cs (i + 1) (remove (get_or cs (i + 1) []) 0) in
    let is : length (get_or c.borrow_at.new.chunks.items i []) ≡ length (get_or cs i [] ++ b.0 ∷ []) = ap (λ l. length (get_or l i [])) b.2 ∙ ap length (get_or-set_same (set cs (i + 1) (remove (get_or cs (i + 1) []) 0)) i (get_or cs i [] ++ b.0 ∷ []) [] (omega (arith, mid, more))) in
    omega (arith, here, is, length-append (get_or cs i []) (b.0 ∷ []))
