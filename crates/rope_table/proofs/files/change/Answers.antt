use Rattle.std.proofs.Common.{◌≡◌, Option, unwrap_or, ◌∙◌, ap, arith}
use Rattle.rope_table.specs.declared.files.FileCount.{FileCount}
use Rattle.rope_table.specs.Files.{no_file, file_of, file_once}
use Rattle.rope_table.proofs.Filings.{filed_at, filed_new, filed_changed}
use Rattle.rope_table.proofs.files.change.Goals as goal

pub returns-in_default-clause-counts : goal.returns-in_default-clause-counts
returns-in_default-clause-counts c = λ f.
    filed_at c.args.file c.args.files.now c.get_mut.follows.lender-at-none c.insert-entered.new.self c.changed-first.result c.insert-entered.result c.get_mut.follows.holds-at-none c.in_default.ensures.value c.requires.room c.insert-entered.ensures.succeeds
    c.insert-entered.ensures.updates f

pub returns-in_default-clause-live : goal.returns-in_default-clause-live
returns-in_default-clause-live c =
    let all = filed_new c.args.file c.args.files.now c.get_mut.follows.lender-at-none c.insert-entered.new.self c.changed-first.result c.insert-entered.result c.get_mut.follows.holds-at-none c.in_default.ensures.value c.requires.room c.insert-entered.ensures.succeeds
    c.insert-entered.ensures.old c.insert-entered.ensures.entries in
    let before : file_once c.no_blocks-none.result ≡ file_once (file_of c.args.files.now.entries c.args.file) = ap file_once c.no_blocks-none.ensures ∙ ap (λ (o : Option FileCount). file_once (unwrap_or o no_file)) c.in_default.ensures.value in
    omega (arith, all, before)

pub returns-clause-live : goal.returns-clause-live
returns-clause-live c =
    let all = filed_changed c.args.file c.args.files.now.entries (c.get_mut.follows.lender c.changed-after.result).entries c.in-Some.place.now c.changed-after.result (c.get_mut.follows.holds c.changed-after.result).0 c.in-Some.ensures.value in
    let before : file_once c.in-Some.place.now ≡ file_once (file_of c.args.files.now.entries c.args.file) = ap (λ (o : Option FileCount). file_once (unwrap_or o no_file)) c.in-Some.ensures.value in
    omega (arith, all, before)
