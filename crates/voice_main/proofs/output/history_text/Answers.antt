use Rattle.std.proofs.Common.{◌≡◌, ◌+◌, ◌++◌, rules}
use Rattle.voice_model.specs.Text.{entry_text}
use Rattle.voice_main.proofs.Texts.{text-more}
use Rattle.voice_main.proofs.output.history_text.Goals as goal

pub loop-i-preserved : goal.loop-i-preserved
loop-i-preserved c =
    let grown : c.entry_text.new.out.items ≡ c.loop-i.text.items ++ entry_text (c.loop-i.i + 1) c.index-history-i.result = search rules in
    text-more c.args.history.now c.loop-i.i c.index-history-i.result _ _ c.loop-i-test.true c.index-history-i.is c.loop-i.invariant grown
