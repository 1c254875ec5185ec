use Rattle.std.proofs.Common.{◌≡◌, ◌++◌, map, length, true}
use Rattle.voice_model.specs.Spelling.{spelling, keeps_grammar}
use Rattle.voice_model.specs.Valid.{Every}
use Rattle.voice_model.specs.Base.{by_file, file_change}
use Rattle.checkpoint.specs.Blocks.{place_of_block}
use Rattle.checkpoint.proofs.files.put_files.Given as goal

abbrev pub invariant-loop-first : goal.invariant-loop-first
invariant-loop-first l = record {
  grammar : Every (λ change. keeps_grammar change ≡ true) (map (file_change l.form) (by_file (map place_of_block l.rest)));
  so_far : l.payloads ++ map spelling (map (file_change l.form) (by_file (map place_of_block l.rest))) ≡ l.fn.payloads ++ map spelling (map (file_change l.form) (by_file (map place_of_block l.placed)));
}

abbrev pub decreases-loop-first : goal.decreases-loop-first
decreases-loop-first l = length l.rest
