-- What the tables tell is what the durable part tells.
use Rattle.std.proofs.Common.{◌≡◌, ℕ, List, take, arith, ◌∙◌}
use Rattle.std.specs.Prelude.{Result, Ok, Err, IfOk}
use Rattle.collector.specs.Due.{copies, Rises, is_gone, gone_ids}
use Rattle.collector.proofs.Swept.{swept_is, due_count_is}
use Rattle.collector.proofs.Lost.{ids_rise}
use Rattle.collector.proofs.sweeping.first.Goals as goal

pub returns-in_err-gone-clause-steps : goal.returns-in_err-gone-clause-steps
returns-in_err-gone-clause-steps g c form d shows = let same = due_count_is form c.args.now c.args.until c.args.table.now c.args.interests.now.rows d shows c.requires in omega (arith, same, c.all_gone.ensures.steps)

pub returns-in_err-gone-clause-steps_spots : goal.returns-in_err-gone-clause-steps_spots
returns-in_err-gone-clause-steps_spots g c form d shows = let same = due_count_is form c.args.now c.args.until c.args.table.now c.args.interests.now.rows d shows c.requires in omega (arith, same, c.all_gone.ensures.steps)

pub returns-clause-steps : goal.returns-clause-steps
returns-clause-steps g c form d shows = let same = due_count_is form c.args.now c.args.until c.args.table.now c.args.interests.now.rows d shows c.requires in omega (arith, same, c.all_gone.ensures.steps)

pub returns-clause-steps_spots : goal.returns-clause-steps_spots
returns-clause-steps_spots g c form d shows = let same = due_count_is form c.args.now c.args.until c.args.table.now c.args.interests.now.rows d shows c.requires in omega (arith, same, c.all_gone.ensures.steps)

ok_then : {T E : Type 0} {P Q : T → Type 0} (r : Result T E) → IfOk r P → ((x : T) → P x → Q x) → IfOk r Q
ok_then (Ok x) p f = f x p
ok_then (Err e) p f = tt

pub returns-clause-swept : goal.returns-clause-swept
returns-clause-swept g c =
    ok_then {P = λ (first : List ℕ). (rising : List ℕ) → Rises rising → ((id : ℕ) → copies id c.in_ok-gone.gone.items ≡ copies id rising) → first ≡ take c.args.limit rising} c.first_of.result c.first_of.ensures
    (λ first is form d shows. is (gone_ids c.args.now c.args.until c.args.interests.now.rows c.args.table.now.ropes) (ids_rise (is_gone c.args.now c.args.until c.args.interests.now.rows) c.args.table.now.ropes (c.block-laws.ensures.laws).rising) c.in_ok-gone.ensures.ropes
    ∙ swept_is form c.args.now c.args.until c.args.table.now c.args.interests.now.rows d shows c.requires c.args.limit)

pub returns-clause-swept_spots : goal.returns-clause-swept_spots
returns-clause-swept_spots g c =
    ok_then {P = λ (first : List ℕ). (rising : List ℕ) → Rises rising → ((id : ℕ) → copies id c.in_ok-gone.gone.items ≡ copies id rising) → first ≡ take c.args.limit rising} c.first_of.result c.first_of.ensures
    (λ first is form d shows. is (gone_ids c.args.now c.args.until c.args.interests.now.rows c.args.table.now.ropes) (ids_rise (is_gone c.args.now c.args.until c.args.interests.now.rows) c.args.table.now.ropes (c.block-laws.ensures.laws).rising) c.in_ok-gone.ensures.ropes
    ∙ swept_is form c.args.now c.args.until c.args.table.now c.args.interests.now.rows d shows c.requires c.args.limit)
