use Rattle.std.proofs.Common.{ℕ, List, ◌++◌, ap, ◌∙◌}
use Rattle.au_files.specs.Au.{file_of}
use Rattle.voice_main.specs.declared.convert.Way.TheVariants as ways
use Rattle.voice_main.proofs.Converted.{put_made, exported}
use Rattle.voice_main.proofs.convert.export.Goals as goal

pub returns-clause-comes : goal.returns-clause-comes
returns-clause-comes g c =
    λ source.
    put_made ways.Export source c.args.target.now c.args.bytes.now c.deref.result.now _ _ _ c.put.result
    (exported c.args.bytes.now c.deref.result.now c.reads_back.ensures (c.deref.ensures.value ∙ c.in-Ok.ensures.ok ∙ ap (λ (front : List ℕ). front ++ file_of c.args.bytes.now) c.new-out.ensures.items))
    c.put.ensures.done c.put.ensures.comes
