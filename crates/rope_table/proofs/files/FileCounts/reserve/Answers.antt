use Rattle.std.proofs.Common.{◌∙◌, Option, unwrap_or, ap}
use Rattle.rope_table.specs.declared.files.FileCount.{FileCount}
use Rattle.rope_table.specs.Files.{Filed, no_file, file_of}
use Rattle.rope_table.proofs.files.FileCounts.reserve.Goals as goal

pub returns-clause-counts : goal.returns-clause-counts
returns-clause-counts c = λ f. ap (λ (o : Option FileCount). unwrap_or o no_file) (c.reserve.ensures.entries.2 f) ∙ ap (λ (t : Filed). file_of t.files f) c.self.view_is
