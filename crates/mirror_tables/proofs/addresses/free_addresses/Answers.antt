use Rattle.std.proofs.Common.{List, ℕ, Option, sym, subst}
use Rattle.std.specs.Prelude.{Vec, IfSome}
use Rattle.std.specs.declared.alloc.Global.{Global}
use Rattle.mirror_tables.specs.Beside.{AreFree}
use Rattle.mirror_tables.specs.Taken.{AreOpen}
use Rattle.mirror_tables.proofs.Opened.{none_ours, are_free}
use Rattle.mirror_tables.proofs.addresses.free_addresses.Goals as goal

pub lowest_free-requires : goal.lowest_free-requires
lowest_free-requires c = none_ours c.args.tables.now c.requires.0 c.requires.1

pub returns-in-Some-clause-free : goal.returns-in-Some-clause-free
returns-in-Some-clause-free c =
    let Found : Option (Vec ℕ Global) → Type 0 = λ o. IfSome o (λ list. AreOpen c.args.tables.now.blocks.holders c.args.n list.items) in
    let found = subst Found c.in-Some.is c.in_ok-list.ensures.free in
    λ b shows. subst (λ (l : List ℕ). AreFree b c.args.n l) (sym c.of.ensures) (are_free c.args.tables.now b shows c.args.n c.in-Some.list.items found)
