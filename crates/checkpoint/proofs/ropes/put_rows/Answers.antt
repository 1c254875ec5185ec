use Rattle.std.proofs.Common.{◌≡◌, [], ◌∷◌, ◌++◌, map, take, true, sym, ◌∙◌, ap}
use Rattle.std.proofs.lemmas.List.{append_assoc, map-append}
use Rattle.voice_model.specs.Spelling.{spelling, keeps_grammar}
use Rattle.voice_model.specs.Base.{row_change}
use Rattle.checkpoint.proofs.Lists.{take_mapped, every_get}
use Rattle.checkpoint.proofs.ropes.put_rows.Goals as goal

pub put_row-requires : goal.put_row-requires
put_row-requires c = every_get (λ change. keeps_grammar change ≡ true) row_change c.args.interests.now.rows c.loop-k.k c.in-Some.row.now c.requires (sym c.in-Some.ensures)

pub loop-k-preserved : goal.loop-k-preserved
loop-k-preserved c =
    let rows = c.args.interests.now.rows in
    let front = map row_change (take c.loop-k.k rows) in
    let one = row_change c.in-Some.row.now in
    c.in_ok-put_row.ensures
    ∙ ap (λ l. l ++ spelling one ∷ []) c.loop-k.invariant
    ∙ append_assoc c.args.payloads.now (map spelling front) (spelling one ∷ [])
    ∙ ap (λ l. c.args.payloads.now ++ l) (sym (ap (map spelling) (take_mapped row_change rows c.loop-k.k c.in-Some.row.now (sym c.in-Some.ensures)) ∙ map-append spelling front (one ∷ [])))
