use Rattle.std.proofs.Common.{◌≡◌, ◌++◌, map, true, sym, ◌∙◌, ap, subst, List}
use Rattle.voice_model.specs.Spelling.{spelling, keeps_grammar}
use Rattle.voice_model.specs.Valid.{Every}
use Rattle.voice_model.specs.Base.{FileBlocks, by_file, file_change}
use Rattle.checkpoint.specs.Blocks.{place_of_block, file_of}
use Rattle.checkpoint.proofs.Runs.{first_file}
use Rattle.checkpoint.proofs.Joined.{more_behind}
use Rattle.checkpoint.proofs.files.put_files.Goals as goal

pub put_file-requires : goal.put_file-requires
put_file-requires c =
    let e = first_file c.loop-first.rest.now c.in-Some.first.now c.run_length.result c.split_at.result.0.now c.split_at.result.1.now (sym c.in-Some.ensures.value) c.run_length.ensures.value c.split_at.ensures.front c.split_at.ensures.back in
    let all = subst (λ (fs : List FileBlocks). Every (λ change. keeps_grammar change ≡ true) (map (file_change c.args.form) fs)) e c.loop-first.invariant.grammar in
    all.0

pub loop-first-preserved : goal.loop-first-preserved
loop-first-preserved c =
    let e = first_file c.loop-first.rest.now c.in-Some.first.now c.run_length.result c.split_at.result.0.now c.split_at.result.1.now (sym c.in-Some.ensures.value) c.run_length.ensures.value c.split_at.ensures.front c.split_at.ensures.back in
    let all = subst (λ (fs : List FileBlocks). Every (λ change. keeps_grammar change ≡ true) (map (file_change c.args.form) fs)) e c.loop-first.invariant.grammar in
    record {
      grammar = all.1;
      so_far =
          more_behind c.loop-first.payloads c.put_file.new.payloads (spelling (file_change c.args.form (file_of c.in-Some.first.now.file c.split_at.result.0.now))) (map spelling (map (file_change c.args.form) (by_file (map place_of_block c.split_at.result.1.now)))) c.in_ok-put_file.ensures
          ∙ sym (ap (λ (fs : List FileBlocks). c.loop-first.payloads ++ map spelling (map (file_change c.args.form) fs)) e)
          ∙ c.loop-first.invariant.so_far;
    }
