use Rattle.std.proofs.Common.{◌≡◌, ℕ, ◌+◌, ◌∷◌, [], ◌++◌, List, take, ap, sym, ◌∙◌, subst, arith}
use Rattle.std.proofs.lemmas.List.{take_more}
use Rattle.rope_table.specs.Table.{pieces_at}
use Rattle.collector.specs.Freed.{IsReleased, stretches_of, stretches_at, without_all}
use Rattle.collector.proofs.Released.{released_twice, stretches_of-append}
use Rattle.collector.proofs.releasing.release_all.Goals as goal

pub loop-id-preserved : goal.loop-id-preserved
loop-id-preserved g c =
    let ids = c.args.ids.now in
    let done = take c.loop-id.id-index ids in
    let id : ℕ = c.id-item.result in
    let old = c.args.table.now in
    let inv = c.loop-id.invariant.released in
    let next : take (c.loop-id.id-index + 1) ids ≡ done ++ id ∷ [] = take_more ids c.loop-id.id-index id c.loop-id-test.true ∙ ap (λ n. done ++ n ∷ []) (sym c.id-item.is) in
    let spans = ap (stretches_of old.block old.ropes) next ∙ stretches_of-append old.block done (id ∷ []) old.ropes in
    let here : stretches_at c.loop-id.table.block (pieces_at c.loop-id.table.ropes id) ≡ stretches_at old.block (pieces_at (without_all done old.ropes) id) = ap (λ n. stretches_at n (pieces_at c.loop-id.table.ropes id)) inv.block ∙ ap (λ l. stretches_at old.block (pieces_at l id)) inv.ropes in
    record {
      released = subst (λ (l : List ℕ). IsReleased old c.release_one.new.table c.args.blocks.now.holders c.release_one.new.blocks.holders l) (sym next)
          (released_twice old c.loop-id.table c.release_one.new.table c.args.blocks.now.holders c.loop-id.blocks.holders c.release_one.new.blocks.holders done (id ∷ []) inv c.release_one.ensures.released);
      spare = c.release_one.ensures.spare ∙ c.loop-id.invariant.spare;
      steps = omega (arith, spans, here, c.loop-id.invariant.steps, c.release_one.ensures.steps);
    }
