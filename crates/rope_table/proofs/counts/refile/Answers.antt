use Rattle.std.proofs.Common.{◌==◌, cond, ap, arith}
use Rattle.std.specs.Prelude.{is_some}
use Rattle.rope_table.specs.Inside.{once}
use Rattle.rope_table.proofs.Lives.{live_most, counted_most, once_le, as_once, fresh_once}
use Rattle.rope_table.proofs.counts.refile.Goals as goal

pub change-requires-clause-fits : goal.change-requires-clause-fits
change-requires-clause-fits c =
    let most = counted_most c.args.file c.args.counts.now.entries in
    omega (arith, most, c.requires.behind.counted c.args.file, c.len-most.ensures.len, c.len-most.ensures.small)

pub change-requires-clause-live_fits : goal.change-requires-clause-live_fits
change-requires-clause-live_fits c =
    let most = counted_most c.args.file c.args.counts.now.entries in
    omega (arith, most, c.requires.behind.within, c.requires.behind.counted c.args.file, c.len-most.ensures.len, c.len-most.ensures.small)

pub change-requires-clause-there : goal.change-requires-clause-there
change-requires-clause-there c = let same = ap once c.has_live-was.ensures in omega (arith, same, c.requires.behind.there)

pub overflow_add-result : goal.overflow_add-result
overflow_add-result c =
    let most = live_most c.args.counts.now.entries in
    let is = as_once c.from.result c.args.is c.from.ensures in
    let was = once_le c.has_live-was.result in
    let same = ap once c.has_live-was.ensures in
    omega (arith, most, is, was, same, c.requires.behind.total, c.len-most.ensures.len, c.len-most.ensures.small)

pub overflow_sub-result : goal.overflow_sub-result
overflow_sub-result c =
    let is = as_once c.from.result c.args.is c.from.ensures in
    let was = as_once c.from-2.result c.has_live-was.result c.from-2.ensures in
    let same = ap once c.has_live-was.ensures in
    omega (arith, is, was, same, c.requires.behind.total)

pub returns-clause-tallied : goal.returns-clause-tallied
returns-clause-tallied c =
    let is = as_once c.from.result c.args.is c.from.ensures in
    let was = as_once c.from-2.result c.has_live-was.result c.from-2.ensures in
    let same = ap once c.has_live-was.ensures in
    record {
      total = omega (arith, is, was, same, c.requires.behind.total);
      counted = λ f.
          let fresh = ap (λ n. cond (c.args.file == f) n 0) (fresh_once (is_some c.args.old.now) c.is_none.result c.is_none.ensures) in
          omega (arith, fresh, c.change.ensures.counted f, c.requires.behind.counted f);
      lives = λ f.
          let here = ap (λ n. cond (c.args.file == f) n 0) same in
          omega (arith, here, c.change.ensures.live f, c.requires.behind.lives f);
    }
