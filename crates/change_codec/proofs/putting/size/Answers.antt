use Rattle.std.specs.Prelude.{flat_map}
use Rattle.std.proofs.Common.{rules, ap, sym, ◌∙◌, ℕ, length, arith}
use Rattle.voice_model.specs.declared.changes.Change.{Change}
use Rattle.voice_model.specs.Spelling.{spelling, keeps_grammar, text_bytes}
use Rattle.change_codec.proofs.Sizes.{recorded_length, file_length, pieces_length, ids_length, keys_most}
use Rattle.change_codec.proofs.putting.size.Goals as goal

pub overflow_add-result-in-Census : goal.overflow_add-result-in-Census
overflow_add-result-in-Census c =
    let most = keys_most c.in-Census.keys (sym (ap keeps_grammar c.in-Census.is) ∙ c.requires) in
    let same = c.keys_size.ensures ∙ ap (λ keys. length (flat_map text_bytes keys)) c.items-in-Census.ensures in
    search (rules, same, most)

-- how long a spelling is
abbrev spelled : Change → ℕ
spelled change = length (spelling change)

pub returns-in-Recorded : goal.returns-in-Recorded
returns-in-Recorded c = omega (arith, recorded_length 2 c.in-Recorded.field-0 c.in-Recorded.field-1 c.in-Recorded.addresses, ap length c.items.ensures, ap spelled c.in-Recorded.is)

pub returns-in-Edited : goal.returns-in-Edited
returns-in-Edited c = omega (arith, pieces_length c.in-Edited.pieces, ap length c.items-in-Edited.ensures, ap spelled c.in-Edited.is)

pub returns-in-Swept : goal.returns-in-Swept
returns-in-Swept c = omega (arith, ids_length c.in-Swept.ids, ap length c.items-in-Swept.ensures, ap spelled c.in-Swept.is)

pub returns-in-File : goal.returns-in-File
returns-in-File c = omega (arith, file_length 2 c.in-File.field-0 c.in-File.pairs, ap length c.items-in-File.ensures, ap spelled c.in-File.is)

pub returns-in-Rope : goal.returns-in-Rope
returns-in-Rope c = omega (arith, pieces_length c.in-Rope.pieces, ap length c.items-in-Rope.ensures, ap spelled c.in-Rope.is)

pub returns-in-Wide : goal.returns-in-Wide
returns-in-Wide c = omega (arith, recorded_length 4 c.in-Wide.field-0 c.in-Wide.field-1 c.in-Wide.addresses, ap length c.items-in-Wide.ensures, ap spelled c.in-Wide.is)

pub returns-in-File2 : goal.returns-in-File2
returns-in-File2 c = omega (arith, file_length 4 c.in-File2.field-0 c.in-File2.pairs, ap length c.items-in-File2.ensures, ap spelled c.in-File2.is)

pub returns-in-Rope2 : goal.returns-in-Rope2
returns-in-Rope2 c = omega (arith, pieces_length c.in-Rope2.pieces, ap length c.items-in-Rope2.ensures, ap spelled c.in-Rope2.is)
