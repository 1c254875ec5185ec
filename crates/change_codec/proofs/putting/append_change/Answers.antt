use Rattle.std.proofs.Common.{ap, sym, ◌∙◌, ◌++◌}
use Rattle.disk_areas.specs.Numbers.{number_bytes}
use Rattle.voice_model.specs.Spelling.{spelling, recorded_bytes, file_bytes, pieces_bytes}
use Rattle.change_codec.proofs.Joined.{joined2, joined3, joined4, joined5}
use Rattle.change_codec.proofs.putting.append_change.Goals as goal

pub returns-in-Base : goal.returns-in-Base
returns-in-Base c =
    joined3 _ (number_bytes 1 8) (number_bytes 8 c.in-Base.now) (number_bytes 8 c.in-Base.next) _ _ _
    c.append_1-in-Base.ensures.items c.append_moment-in-Base.ensures.items c.append_8.ensures.items
    ∙ ap (λ change. c.args.out.now.items ++ spelling change) (sym c.in-Base.is)

pub returns-in-File : goal.returns-in-File
returns-in-File c =
    joined2 _ (number_bytes 1 9) (file_bytes 2 c.in-File.file c.in-File.pairs) _ _
    c.append_1-in-File.ensures.items (c.append_file.ensures.items ∙ ap (λ xs. c.append_1-in-File.new.out.items ++ file_bytes 2 c.in-File.file xs) c.items-in-File.ensures)
    ∙ ap (λ change. c.args.out.now.items ++ spelling change) (sym c.in-File.is)

pub returns-in-Rope : goal.returns-in-Rope
returns-in-Rope c =
    joined4 _ (number_bytes 1 10) (number_bytes 8 c.in-Rope.id) (number_bytes 8 c.in-Rope.idle) (pieces_bytes c.in-Rope.pieces) _ _ _ _
    c.append_1-in-Rope.ensures.items c.append_id-in-Rope.ensures.items c.append_moment-in-Rope.ensures.items (c.append_counted-in-Rope.ensures.items ∙ ap (λ xs. c.append_moment-in-Rope.new.out.items ++ pieces_bytes xs) c.items-in-Rope.ensures)
    ∙ ap (λ change. c.args.out.now.items ++ spelling change) (sym c.in-Rope.is)

pub returns-in-Wide : goal.returns-in-Wide
returns-in-Wide c =
    joined2 _ (number_bytes 1 11) (recorded_bytes 4 c.in-Wide.id c.in-Wide.len c.in-Wide.addresses) _ _
    c.append_1-in-Wide.ensures.items (c.append_recorded-in-Wide.ensures.items ∙ ap (λ xs. c.append_1-in-Wide.new.out.items ++ recorded_bytes 4 c.in-Wide.id c.in-Wide.len xs) c.items-in-Wide.ensures)
    ∙ ap (λ change. c.args.out.now.items ++ spelling change) (sym c.in-Wide.is)

pub returns-in-Base2 : goal.returns-in-Base2
returns-in-Base2 c =
    joined3 _ (number_bytes 1 12) (number_bytes 8 c.in-Base2.now) (number_bytes 8 c.in-Base2.next) _ _ _
    c.append_1-in-Base2.ensures.items c.append_moment-in-Base2.ensures.items c.append_8-in-Base2.ensures.items
    ∙ ap (λ change. c.args.out.now.items ++ spelling change) (sym c.in-Base2.is)

pub returns-in-File2 : goal.returns-in-File2
returns-in-File2 c =
    joined2 _ (number_bytes 1 13) (file_bytes 4 c.in-File2.file c.in-File2.pairs) _ _
    c.append_1-in-File2.ensures.items (c.append_file-in-File2.ensures.items ∙ ap (λ xs. c.append_1-in-File2.new.out.items ++ file_bytes 4 c.in-File2.file xs) c.items-in-File2.ensures)
    ∙ ap (λ change. c.args.out.now.items ++ spelling change) (sym c.in-File2.is)

pub returns-in-Rope2 : goal.returns-in-Rope2
returns-in-Rope2 c =
    joined5 _ (number_bytes 1 14) (number_bytes 8 c.in-Rope2.id) (number_bytes 8 c.in-Rope2.idle) (number_bytes 1 c.in-Rope2.last) (pieces_bytes c.in-Rope2.pieces) _ _ _ _ _
    c.append_1-in-Rope2.ensures.items c.append_id-in-Rope2.ensures.items c.append_moment-in-Rope2.ensures.items c.append_1-in-Rope2-2.ensures.items (c.append_counted-in-Rope2.ensures.items ∙ ap (λ xs. c.append_1-in-Rope2-2.new.out.items ++ pieces_bytes xs) c.items-in-Rope2.ensures)
    ∙ ap (λ change. c.args.out.now.items ++ spelling change) (sym c.in-Rope2.is)
