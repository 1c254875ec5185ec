use Rattle.std.proofs.Common.{◌≡◌, [], ◌∷◌, ◌++◌, List, map, true, Option, sym, ◌∙◌, ap, subst, arith}
use Rattle.std.specs.Prelude.{IfSome}
use Rattle.std.proofs.lemmas.List.{append-nil}
use Rattle.voice_model.specs.Spelling.{spelling, keeps_grammar}
use Rattle.rope_table.specs.declared.ropes.Rope.{Rope}
use Rattle.checkpoint.specs.Blocks.{kept_change, above}
use Rattle.checkpoint.proofs.Above.{above_start, above_none, above_next, next_spelled}
use Rattle.checkpoint.proofs.Joined.{more_behind}
use Rattle.checkpoint.proofs.ropes.put_ropes.Goals as goal

pub loop-id-init : goal.loop-id-init
loop-id-init c = record {
  most = omega arith;
  so_far = ap (λ (l : List Rope). c.args.payloads.now ++ map spelling (map (kept_change c.args.form) l)) (above_start c.args.table.now.ropes c.requires.some);
}

pub put_rope-requires : goal.put_rope-requires
put_rope-requires c =
    let next = above_next c.loop-id.last c.in-Some.id c.args.table.now.ropes c.block-block.ensures.laws.rising (sym c.in-Some.ensures) in
    subst (λ (o : Option Rope). IfSome o (λ rope. keeps_grammar (kept_change c.args.form rope) ≡ true)) (sym next.found) (next_spelled c.args.form c.args.table.now.ropes c.in-Some.id next.rope c.requires.grammar next.found)

pub loop-id-smaller : goal.loop-id-smaller
loop-id-smaller c =
    let next = above_next c.loop-id.last c.in-Some.id c.args.table.now.ropes c.block-block.ensures.laws.rising (sym c.in-Some.ensures) in
    let higher = next.higher in
    omega (arith, higher, c.number-last.ensures.value, c.number-last.ensures.most)

pub loop-id-preserved : goal.loop-id-preserved
loop-id-preserved c =
    let ropes = c.args.table.now.ropes in
    let next = above_next c.loop-id.last c.in-Some.id ropes c.block-block.ensures.laws.rising (sym c.in-Some.ensures) in
    let put = subst (λ (o : Option Rope). IfSome o (λ rope. c.put_rope.new.payloads ≡ c.loop-id.payloads ++ spelling (kept_change c.args.form rope) ∷ [])) next.found c.in_ok-put_rope.ensures in
    record {
      most = c.number-last.ensures.most;
      so_far =
          ap (λ n. c.put_rope.new.payloads ++ map spelling (map (kept_change c.args.form) (above n ropes))) c.number-last.ensures.value
          ∙ more_behind c.loop-id.payloads c.put_rope.new.payloads (spelling (kept_change c.args.form next.rope)) (map spelling (map (kept_change c.args.form) (above c.in-Some.id ropes))) put
          ∙ sym (ap (λ (l : List Rope). c.loop-id.payloads ++ map spelling (map (kept_change c.args.form) l)) next.above)
          ∙ c.loop-id.invariant.so_far;
    }

pub returns : goal.returns
returns c =
    sym (append-nil c.loop-id.payloads)
    ∙ sym (ap (λ (l : List Rope). c.loop-id.payloads ++ map spelling (map (kept_change c.args.form) l)) (above_none c.loop-id.last c.args.table.now.ropes (sym c.in_default.ensures)))
    ∙ c.loop-id.invariant.so_far
