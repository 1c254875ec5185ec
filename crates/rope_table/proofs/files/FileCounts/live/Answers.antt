use Rattle.std.proofs.Common.{◌≡◌, ℕ, ◌∙◌, nat_lt, sym, subst}
use Rattle.rope_table.specs.Table.{has_file}
use Rattle.rope_table.specs.Files.{Filed, file_of}
use Rattle.rope_table.proofs.Filings.{files_exact}
use Rattle.rope_table.proofs.files.FileCounts.live.Goals as goal

pub returns : goal.returns
returns c = λ pairs same.
    c.self.invariant.total
    ∙ files_exact c.self.inside.files.entries c.len-unique.ensures.unique pairs (subst (λ (t : Filed). (f : ℕ) → has_file pairs f ≡ nat_lt 0 (file_of t.files f).live) (sym c.self.view_is) same)
