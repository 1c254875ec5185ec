use Rattle.std.proofs.Common.{◌<◌, ◌+◌, ◌^◌, ◌++◌, ◌∷◌, [], length, map, ap, sym, ◌∙◌, arith}
use Rattle.std.proofs.lemmas.List.{length-map}
use Rattle.voice_model.specs.State.{row_at}
use Rattle.interest_table.specs.Inside.{row_in}
use Rattle.interest_table.proofs.Added.{rows_of_most}
use Rattle.interest_table.proofs.Told.{one_row_more, bytes_most}
use Rattle.interest_table.proofs.rows.InterestTable.add.Goals as goal

few : (c : goal.After-row-1) → length (map row_in c.self.inside.listing.entries) + 1 < 2 ^ 32
few c = let same = ap (λ t. length t.rows) c.self.view_is in omega (arith, same, c.requires)

pub gain-requires-clause-count : goal.gain-requires-clause-count
gain-requires-clause-count c =
    let most = rows_of_most c.args.row.rope (map row_in c.self.inside.listing.entries) in
    let told = c.self.invariant.told.counts c.args.row.rope in
    let less = few c in
    omega (arith, most, told, less)

pub gain-requires-clause-keys : goal.gain-requires-clause-keys
gain-requires-clause-keys c =
    let most = (bytes_most (map row_in c.self.inside.listing.entries) c.self.invariant.short).0 in
    let told = c.self.invariant.told.keys in
    let less = few c in
    omega (arith, most, told, less)

pub gain-requires-clause-notes : goal.gain-requires-clause-notes
gain-requires-clause-notes c =
    let most = (bytes_most (map row_in c.self.inside.listing.entries) c.self.invariant.short).1 in
    let told = c.self.invariant.told.notes in
    let less = few c in
    omega (arith, most, told, less)

pub invariant_of-self-2 : goal.invariant_of-self-2
invariant_of-self-2 c =
    let long = length-map c.self.inside.listing.entries row_in in
    let same = ap (λ t. length t.rows) c.self.view_is in
    one_row_more c.self.inside.listing c.put.new.self c.self.inside.tally c.gain.new.tally c.reserve.new.self.next c.args.row c.self.invariant
    (c.put.ensures.entries ∙ ap (λ es. es ++ (c.reserve.new.self.next, c.args.row) ∷ []) c.reserve.ensures.entries)
    (ap (λ t. row_at t.rows c.args.row.class c.args.row.key) c.self.view_is ∙ sym c.in_default.ensures)
    (omega (arith, long, same, c.requires)) c.gain.ensures.short.0 c.gain.ensures.short.1
    (record { counts = c.in-Ok-gain.ensures.count; keys = c.in-Ok-gain.ensures.keys; notes = c.in-Ok-gain.ensures.notes })
