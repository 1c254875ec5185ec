use Rattle.std.proofs.Common.{◌+◌, refl, ap, ◌∙◌}
use Rattle.std.proofs.lemmas.Result.{err_from_is_err_and}
use Rattle.change_codec.proofs.Reading.{read_more, read_stop, read_places, read_all, place_same, rising_same}
use Rattle.change_codec.proofs.items.ids_at.Goals as goal

pub returns-in_err-item-clause-place : goal.returns-in_err-item-clause-place
returns-in_err-item-clause-place c =
    let p = err_from_is_err_and c.from_residual.result c.from_residual.ensures.1 in
    rw (p.1, p.2) (read_stop _ _ _ _ _ _ _ _ _ _ c.loop-index.invariant.read c.loop-index-test.true c.in_err-item.ensures.place)

pub loop-index-preserved : goal.loop-index-preserved
loop-index-preserved c = record {
  read = read_more _ _ _ _ _ _ _ _ _ _ _ _ c.loop-index.invariant.read c.loop-index-test.true c.in_ok-item.ensures.place c.in_ok-item.ensures.value (rising_same _ _ _ _ refl (ap (λ n. n + 1) (c.number.ensures.value ∙ c.in_ok-item.ensures.value))) c.in-Ok-push.ensures.items;
  within = c.in_ok-item.ensures.within;
}

pub returns-in_err-end_at-clause-place : goal.returns-in_err-end_at-clause-place
returns-in_err-end_at-clause-place c =
    let p = err_from_is_err_and c.from_residual-in_err-end_at.result c.from_residual-in_err-end_at.ensures.1 in
    rw (p.1, p.2) (place_same _ _ _ (read_places _ _ _ _ _ _ _ _ _ c.loop-index.invariant.read c.loop-index-test.false) c.in_err-end_at.ensures.place)

pub returns-clause-place : goal.returns-clause-place
returns-clause-place c = read_places _ _ _ _ _ _ _ _ _ c.loop-index.invariant.read c.loop-index-test.false ∙ c.in_ok-end_at.ensures.place

pub returns-clause-value : goal.returns-clause-value
returns-clause-value c = c.of.ensures ∙ read_all _ _ _ _ _ _ _ _ _ c.loop-index.invariant.read c.loop-index-test.false
