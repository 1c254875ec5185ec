use Rattle.std.proofs.Common.{◌≡◌, ◌∙◌, Bool, not, filter, map, length, ap, sym, subst, Some, false, arith}
use Rattle.voice_model.specs.State.{row_at}
use Rattle.voice_model.specs.Changes.{is_expired}
use Rattle.voice_model.specs.Valid.{Once}
use Rattle.voice_model.specs.declared.calls.Row.{Row}
use Rattle.interest_table.specs.Inside.{row_in}
use Rattle.interest_table.proofs.Goes.{fails_named, fewer_named}
use Rattle.interest_table.proofs.Told.{rows_kept}
use Rattle.interest_table.proofs.rows.InterestTable.drop_expired.Goals as goal

at : (c : goal.After-remove) → row_at c.loop-row.self.rows c.in-Some.row.now.class c.in-Some.row.now.key ≡ Some c.in-Some.row.now
at c = subst (λ t. row_at t.rows c.in-Some.row.now.class c.in-Some.row.now.key ≡ Some c.in-Some.row.now) c.self.view_is c.in-Some.ensures.some.1

pub loop-row-smaller : goal.loop-row-smaller
loop-row-smaller c =
    let less = fewer_named c.in-Some.row.now.class c.in-Some.row.now.key c.in-Some.row.now c.loop-row.self.rows (at c) in
    let same = ap (λ l. length l) c.remove.ensures.rows in
    omega (arith, less, same)

pub loop-row-preserved : goal.loop-row-preserved
loop-row-preserved c =
    let stays : Row → Bool = λ row. not (is_expired c.args.now row) in
    let once : Once c.loop-row.self.rows = subst (λ t. Once t.rows) c.self.view_is c.self.invariant.once in
    let fails : stays c.in-Some.row.now ≡ false = ap not c.in-Some.ensures.some.0 in
    record {
      stay = ap (filter stays) c.remove.ensures.rows ∙ fails_named stays c.in-Some.row.now.class c.in-Some.row.now.key c.in-Some.row.now c.loop-row.self.rows once (at c) fails ∙ c.loop-row.invariant.stay;
      spare = omega (arith, c.loop-row.invariant.spare, c.remove.ensures.spare);
    }

pub returns-clause-rows : goal.returns-clause-rows
returns-clause-rows c =
    let stays : Row → Bool = λ row. not (is_expired c.args.now row) in
    let all : filter stays c.loop-row.self.rows ≡ c.loop-row.self.rows = subst (λ t. filter stays t.rows ≡ t.rows) c.self.view_is (sym (rows_kept stays c.self.inside.listing.entries) ∙ ap (map row_in) c.in_default.ensures.none) in
    sym all ∙ c.loop-row.invariant.stay
