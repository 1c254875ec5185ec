use Rattle.std.proofs.Common.{[], ◌∷◌, ◌++◌, ap, ◌∙◌}
use Rattle.std.specs.String.{string_bytes}
use Rattle.script_gen.specs.Lines.{line_text}
use Rattle.script_gen.specs.Scripts.{mention, file_of}
use Rattle.script_gen.proofs.Making.{made_more}
use Rattle.script_gen.proofs.made.make.Goals as goal

pub loop-k-preserved : goal.loop-k-preserved
loop-k-preserved c =
    let more = made_more c.args.seed c.loop-k.k c.loop-k.draws.state (string_bytes c.loop-k.script) c.loop-k.files.items c.loop-k.invariant in
    let files = c.loop-k.files.items in
    let line = c.drawn-line.ensures.line in
    record {
      drawn = c.drawn-line.ensures.state ∙ more.drawn;
      written = c.in_ok-writeln.ensures.bytes ∙ ap (λ l. string_bytes c.loop-k.script ++ (line_text l ++ 10 ∷ [])) line ∙ more.written;
      mentioned = c.in_ok-mention.ensures ∙ ap (mention files) c.file.ensures ∙ ap (λ l. mention files (file_of l.order)) line ∙ more.mentioned;
    }
