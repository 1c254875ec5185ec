use Rattle.std.proofs.Common.{◌≡◌, ℕ, ◌+◌, Bool, true, false, ◌&&◌, nat_le, drop, refl, sym, ◌∙◌, ap, arith}
use Rattle.std.specs.Prelude.{is_some}
use Rattle.std.specs.List.{list_all}
use Rattle.rope_table.specs.declared.ropes.Rope.{Rope}
use Rattle.rope_table.specs.Table.{rope_of}
use Rattle.interest_table.specs.Table.{rows_of}
use Rattle.recovery.specs.Gathered.{rows_noted}
use Rattle.recovery.proofs.Ropes.{some_mapped}
use Rattle.recovery.proofs.RowsGone.{drop_next}
use Rattle.recovery.proofs.sweeps.are_bare.Goals as goal

and_false : (a : Bool) → (a && false) ≡ false
and_false true = refl
and_false false = refl

pub returns-then-not-is_bare : goal.returns-then-not-is_bare
returns-then-not-is_bare c =
    let ids = c.args.ids.now in
    let k = c.loop-id.id-index in
    let id = c.id-item.result in
    let bare : ℕ → Bool = λ id. is_some (rope_of c.args.ropes.now.ropes id) && nat_le (rows_of id c.args.interests.now.rows) (rows_noted c.args.counts.now id) in
    let test = c.loop-id-test.true in
    let was = c.is_bare.ensures in
    let not_bare = c.if-not-is_bare.true in
    let over : nat_le (rows_of id c.args.interests.now.rows) (rows_noted c.args.counts.now id) ≡ false = first_of (cc, grind arith) in
    sym (c.loop-id.invariant ∙ ap (list_all bare) (drop_next ids k id (omega arith) c.id-item.is)
    ∙ ap (λ b. (is_some (rope_of c.args.ropes.now.ropes id) && b) && list_all bare (drop (k + 1) ids)) over
    ∙ ap (λ b. b && list_all bare (drop (k + 1) ids)) (and_false (is_some (rope_of c.args.ropes.now.ropes id))))

pub loop-id-preserved : goal.loop-id-preserved
loop-id-preserved c =
    let ids = c.args.ids.now in
    let k = c.loop-id.id-index in
    let id = c.id-item.result in
    let bare : ℕ → Bool = λ id. is_some (rope_of c.args.ropes.now.ropes id) && nat_le (rows_of id c.args.interests.now.rows) (rows_noted c.args.counts.now id) in
    let test = c.loop-id-test.true in
    let was = c.is_bare.ensures in
    let is_so = c.if-not-is_bare.false in
    let within : nat_le (rows_of id c.args.interests.now.rows) (rows_noted c.args.counts.now id) ≡ true = first_of (cc, grind arith) in
    let live : is_some (rope_of c.args.ropes.now.ropes id) ≡ true = sym (some_mapped (λ (rope : Rope). rope.wait) (rope_of c.args.ropes.now.ropes id)) ∙ ap is_some (sym c.in-Some.ensures) in
    c.loop-id.invariant ∙ ap (list_all bare) (drop_next ids k id (omega arith) c.id-item.is)
    ∙ ap (λ b. (is_some (rope_of c.args.ropes.now.ropes id) && b) && list_all bare (drop (k + 1) ids)) within
    ∙ ap (λ b. (b && true) && list_all bare (drop (k + 1) ids)) live
