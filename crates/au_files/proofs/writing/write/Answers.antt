use Rattle.std.proofs.Common.{◌≡◌, ℕ, List, ◌++◌, ◌∙◌, ap}
use Rattle.au_files.proofs.Appending.{appended}
use Rattle.au_files.proofs.writing.write.Goals as goal

pub returns-clause-ok : goal.returns-clause-ok
returns-clause-ok c =
    appended c.args.out.now.items c.append.new.out.items c.append-2.new.out.items c.append-3.new.out.items _ _ _ c.args.samples.now c.append-4.new.out.items
    (c.append.ensures.items ∙ ap (λ (l : List ℕ). l ++ _) c.in_ok-reserve.ensures.items)
    (c.append-2.ensures.items ∙ ap (λ (l : List ℕ). c.append.new.out.items ++ l) c.size_of.ensures)
    c.append-3.ensures.items
    c.append-4.ensures.items
