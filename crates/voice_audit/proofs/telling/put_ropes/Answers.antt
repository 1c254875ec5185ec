use Rattle.std.proofs.Common.{◌≡◌, ◌++◌, List, Option, flat_map, sym, ◌∙◌, ap, subst, arith}
use Rattle.std.specs.Prelude.{IfSome}
use Rattle.std.proofs.lemmas.List.{append_assoc, append-nil}
use Rattle.rope_table.specs.declared.ropes.Rope.{Rope}
use Rattle.checkpoint.specs.Blocks.{above}
use Rattle.checkpoint.proofs.Above.{above_start, above_none, above_next}
use Rattle.voice_audit.specs.Telling.{shown_line}
use Rattle.voice_audit.proofs.telling.put_ropes.Goals as goal

pub loop-id-init : goal.loop-id-init
loop-id-init c = record {
  most = omega arith;
  so_far = ap (λ (l : List Rope). c.args.out.now.items ++ flat_map (shown_line c.args.interests.now.rows) l) (above_start c.args.table.now.ropes c.requires);
}

pub loop-id-smaller : goal.loop-id-smaller
loop-id-smaller c =
    let next = above_next c.loop-id.last c.in-Some.id c.args.table.now.ropes c.block-block.ensures.laws.rising (sym c.in-Some.ensures) in
    let higher = next.higher in
    omega (arith, higher, c.number-last.ensures.value, c.number-last.ensures.most)

pub loop-id-preserved : goal.loop-id-preserved
loop-id-preserved c =
    let ropes = c.args.table.now.ropes in
    let line = shown_line c.args.interests.now.rows in
    let next = above_next c.loop-id.last c.in-Some.id ropes c.block-block.ensures.laws.rising (sym c.in-Some.ensures) in
    let put = subst (λ (o : Option Rope). IfSome o (λ rope. c.put_live.new.out.items ≡ c.loop-id.out.items ++ line rope)) next.found c.in_ok-put_live.ensures in
    record {
      most = c.number-last.ensures.most;
      so_far =
          ap (λ n. c.put_live.new.out.items ++ flat_map line (above n ropes)) c.number-last.ensures.value
          ∙ ap (λ l. l ++ flat_map line (above c.in-Some.id ropes)) put
          ∙ append_assoc c.loop-id.out.items (line next.rope) (flat_map line (above c.in-Some.id ropes))
          ∙ sym (ap (λ (l : List Rope). c.loop-id.out.items ++ flat_map line l) next.above)
          ∙ c.loop-id.invariant.so_far;
    }

pub returns : goal.returns
returns c =
    sym (append-nil c.loop-id.out.items)
    ∙ sym (ap (λ (l : List Rope). c.loop-id.out.items ++ flat_map (shown_line c.args.interests.now.rows) l) (above_none c.loop-id.last c.args.table.now.ropes (sym c.in_default.ensures)))
    ∙ c.loop-id.invariant.so_far
