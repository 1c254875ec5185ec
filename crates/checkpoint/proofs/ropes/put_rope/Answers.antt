use Rattle.std.proofs.Common.{◌≡◌, [], ◌∷◌, ◌++◌, true, Option, sym, ◌∙◌, ap, subst}
use Rattle.std.specs.Prelude.{IfSome, OnOk}
use Rattle.voice_model.specs.Spelling.{spelling, keeps_grammar}
use Rattle.voice_model.specs.declared.changes.Change.{Change}
use Rattle.rope_table.specs.declared.ropes.Rope.{Rope}
use Rattle.checkpoint.specs.Blocks.{kept_change}
use Rattle.checkpoint.proofs.Above.{rope_spelled}
use Rattle.checkpoint.proofs.ropes.put_rope.Goals as goal

pub put_parts-requires : goal.put_parts-requires
put_parts-requires c =
    let one = rope_spelled c.args.form c.args.table.now.ropes c.args.id c.in-Some-idle.idle c.in-Some-last.last c.in-Some.pieces.now (sym c.in-Some.ensures) (sym c.in-Some-idle.ensures) (sym c.in-Some-last.ensures) in
    sym (ap keeps_grammar one.same) ∙ subst (λ (o : Option Rope). IfSome o (λ rope. keeps_grammar (kept_change c.args.form rope) ≡ true)) one.found c.requires

pub returns : goal.returns
returns c =
    let one = rope_spelled c.args.form c.args.table.now.ropes c.args.id c.in-Some-idle.idle c.in-Some-last.last c.in-Some.pieces.now (sym c.in-Some.ensures) (sym c.in-Some-idle.ensures) (sym c.in-Some-last.ensures) in
    subst (λ (o : Option Rope). IfSome o (λ rope. OnOk c.put_parts.result (c.put_parts.new.payloads ≡ c.args.payloads.now ++ spelling (kept_change c.args.form rope) ∷ []))) (sym one.found)
    (subst (λ (change : Change). OnOk c.put_parts.result (c.put_parts.new.payloads ≡ c.args.payloads.now ++ spelling change ∷ [])) (sym one.same) c.put_parts.ensures)
