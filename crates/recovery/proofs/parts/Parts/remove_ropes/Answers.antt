use Rattle.std.proofs.Common.{◌≡◌, ℕ, ◌+◌, ◌≤◌, Bool, true, false, not, ◌&&◌, ◌||◌, List, [], ◌∷◌, length, drop, refl, sym, ◌∙◌, ap, arith, ◌==◌}
use Rattle.std.specs.Prelude.{filter}
use Rattle.std.proofs.Math.ListN.{drop_of_length-le}
use Rattle.voice_model.specs.State.{among}
use Rattle.voice_blocks.specs.Holders.{holder_at}
use Rattle.rope_table.specs.declared.ropes.Rope.{Rope}
use Rattle.recovery.specs.Placing.{in_use}
use Rattle.recovery.proofs.Ropes.{swapped}
use Rattle.recovery.proofs.RowsGone.{filter_twice, filter_none, drop_next}
use Rattle.recovery.proofs.Freed.{in_use_twice}
use Rattle.recovery.proofs.parts.Parts.remove_ropes.Goals as goal

neither : (a b : Bool) → not (a || b) ≡ (not a && not b)
neither true b = refl
neither false b = refl

ropes_step : (id : ℕ) (rest : List ℕ) (ropes : List Rope) → filter (λ rope. not (among (id ∷ rest) rope.id)) ropes ≡ filter (λ rope. not (among rest rope.id)) (filter (λ rope. not (rope.id == id)) ropes)
ropes_step id rest ropes =
    filter_twice (λ (rope : Rope). not (rope.id == id)) (λ (rope : Rope). not (among rest rope.id)) (λ (rope : Rope). not (among (id ∷ rest) rope.id))
    (λ rope. neither (id == rope.id) (among rest rope.id) ∙ ap (λ b. not b && not (among rest rope.id)) (swapped id rope.id)) ropes

pub loop-id-preserved : goal.loop-id-preserved
loop-id-preserved c =
    let step = c.loop-id.invariant in
    let one = c.remove_rope.ensures in
    let ids = c.args.ids.now in
    let k = c.loop-id.id-index in
    let id = c.id-item.result in
    let test = c.loop-id-test.true in
    let before = c.loop-id.self in
    record {
      ropes =
          step.ropes ∙ ap (λ l. filter (λ (rope : Rope). not (among l rope.id)) before.ropes.ropes) (drop_next ids k id (omega arith) c.id-item.is)
          ∙ ropes_step id (drop (k + 1) ids) before.ropes.ropes ∙ ap (filter (λ (rope : Rope). not (among (drop (k + 1) ids) rope.id))) (sym one.ropes);
      block = one.block ∙ step.block;
      counts = λ held h. one.counts held (step.counts held h);
      holders = λ was a.
          let now = step.holders was in
          one.holders (λ b. ap (in_use before.ropes) (now b) ∙ in_use_twice before.ropes before.ropes (λ pair. omega arith) (holder_at c.args.self.now.blocks.holders b) ∙ sym (now b)) a
          ∙ ap (in_use c.remove_rope.new.self.ropes) (now a) ∙ in_use_twice before.ropes c.remove_rope.new.self.ropes one.fewer (holder_at c.args.self.now.blocks.holders a);
      size = one.size ∙ step.size;
      interests = one.interests ∙ step.interests;
      moment = one.moment ∙ step.moment;
      next = one.next ∙ step.next;
      form = one.form ∙ step.form;
    }

pub returns-clause-ropes : goal.returns-clause-ropes
returns-clause-ropes c =
    let test = c.loop-id-test.false in
    let gone : drop c.loop-id.id-index c.args.ids.now ≡ [] = drop_of_length-le c.args.ids.now (let over : length c.args.ids.now ≤ c.loop-id.id-index = omega arith in over) in
    sym (c.loop-id.invariant.ropes ∙ ap (λ l. filter (λ (rope : Rope). not (among l rope.id)) c.loop-id.self.ropes.ropes) gone ∙ filter_none (λ (rope : Rope). not (among [] rope.id)) (λ rope. refl) c.loop-id.self.ropes.ropes)
