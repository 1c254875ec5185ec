use Rattle.rope_table.proofs.Filings.{filed_at, filed_new, filed_changed}
use Rattle.rope_table.proofs.files.put.Goals as goal

pub returns-in_default-clause-counts : goal.returns-in_default-clause-counts
returns-in_default-clause-counts c =
    filed_at c.args.file c.args.files.now c.get_mut.follows.lender-at-none c.insert-entered.new.self c.args.count c.insert-entered.result c.get_mut.follows.holds-at-none c.in_default.ensures.value c.requires c.insert-entered.ensures.succeeds
    c.insert-entered.ensures.updates

pub returns-in_default-clause-live : goal.returns-in_default-clause-live
returns-in_default-clause-live c =
    filed_new c.args.file c.args.files.now c.get_mut.follows.lender-at-none c.insert-entered.new.self c.args.count c.insert-entered.result c.get_mut.follows.holds-at-none c.in_default.ensures.value c.requires c.insert-entered.ensures.succeeds
    c.insert-entered.ensures.old c.insert-entered.ensures.entries

pub returns-clause-live : goal.returns-clause-live
returns-clause-live c =
    filed_changed c.args.file c.args.files.now.entries (c.get_mut.follows.lender c.args.count).entries c.in-Some.place.now c.args.count (c.get_mut.follows.holds c.args.count).0 c.in-Some.ensures.value
