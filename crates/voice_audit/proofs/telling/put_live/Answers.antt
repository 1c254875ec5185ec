use Rattle.std.proofs.Common.{◌≡◌, ◌++◌, List, Option, sym, ◌∙◌, ap, subst}
use Rattle.std.specs.Prelude.{IfSome, OnOk, length}
use Rattle.voice_units.specs.Spots.{samples_in}
use Rattle.voice_units.specs.declared.Piece.{Piece}
use Rattle.rope_table.specs.declared.ropes.Rope.{Rope}
use Rattle.interest_table.specs.Table.{rows_of}
use Rattle.voice_audit.specs.Audit.{rope_text}
use Rattle.voice_audit.specs.Telling.{shown_line}
use Rattle.voice_audit.proofs.Ropes.{found_of}
use Rattle.voice_audit.proofs.telling.put_live.Goals as goal

pub returns : goal.returns
returns c =
    let rows = c.args.interests.now.rows in
    let one = found_of c.args.table.now.ropes c.args.id c.in-Some.pieces.now (sym c.in-Some.ensures) in
    let line : rope_text c.args.id c.length.result c.count.result c.count-rows.result ≡ shown_line rows one.rope =
    ap (λ n. rope_text c.args.id n c.count.result c.count-rows.result) c.length.ensures.value
    ∙ ap (λ n. rope_text c.args.id (samples_in c.in-Some.pieces.now) n c.count-rows.result) c.count.ensures
    ∙ ap (λ n. rope_text c.args.id (samples_in c.in-Some.pieces.now) (length c.in-Some.pieces.now) n) c.count-rows.ensures
    ∙ ap (λ n. rope_text n (samples_in c.in-Some.pieces.now) (length c.in-Some.pieces.now) (rows_of n rows)) (sym one.number)
    ∙ ap (λ (ps : List Piece). rope_text one.rope.id (samples_in ps) (length ps) (rows_of one.rope.id rows)) (sym one.same) in
    subst (λ (o : Option Rope). IfSome o (λ rope. OnOk c.put_rope.result (c.put_rope.new.out.items ≡ c.args.out.now.items ++ shown_line rows rope))) (sym one.found)
    (subst (λ l. OnOk c.put_rope.result (c.put_rope.new.out.items ≡ c.args.out.now.items ++ l)) line c.put_rope.ensures)
