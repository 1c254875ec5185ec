use Rattle.std.proofs.Common.{◌≡◌, ap, ◌∙◌, rules}
use Rattle.std.specs.FinMap.{from_entries}
use Rattle.std.proofs.lemmas.Result.{err_from_is_err_and}
use Rattle.std.specs.Ordering.{nat_cmp}
use Rattle.std.specs.Cmp.Lexicographic.{slice_cmp}
use Rattle.voice_outside.specs.Files.{named}
use Rattle.voice_outside.proofs.mem_shelf.MemShelfShelf.put.Goals as goal

pub returns-in_err-insert-clause-err : goal.returns-in_err-insert-clause-err
returns-in_err-insert-clause-err c =
    let p = err_from_is_err_and c.from_residual-in_err-insert.result c.from_residual-in_err-insert.ensures.1 in
    let same : c.insert.new.self.items ≡ c.self.inside.files.items = search rules in
    rw p.1 (ap (λ files. from_entries {R = slice_cmp nat_cmp} (named files)) same ∙ ap (λ s. s.files) c.self.view_is)
