use Rattle.std.proofs.Common.{◌++◌, flat_map, take, sym, ◌∙◌, ap}
use Rattle.std.proofs.lemmas.List.{append_assoc}
use Rattle.voice_audit.specs.Audit.{row_text}
use Rattle.voice_audit.proofs.Ropes.{lines_more}
use Rattle.voice_audit.proofs.telling.put_rows.Goals as goal

pub loop-k-preserved : goal.loop-k-preserved
loop-k-preserved c =
    let rows = c.args.interests.now.rows in
    let one = c.in-Some.row.now in
    c.in_ok-put_row.ensures
    ∙ ap (λ l. l ++ row_text one) c.loop-k.invariant
    ∙ append_assoc c.args.out.now.items (flat_map row_text (take c.loop-k.k rows)) (row_text one)
    ∙ ap (λ l. c.args.out.now.items ++ l) (sym (lines_more row_text rows c.loop-k.k one (sym c.in-Some.ensures)))
