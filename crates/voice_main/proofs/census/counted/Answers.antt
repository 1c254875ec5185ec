use Rattle.std.proofs.Common.{◌≡◌, true, rules}
use Rattle.voice_model.specs.Text.{text_of}
use Rattle.voice_main.proofs.Written.{nothing_more}
use Rattle.voice_main.proofs.census.counted.Goals as goal

pub returns-clause-whole : goal.returns-clause-whole
returns-clause-whole g c = let fine : c.in-Ok.called.is_finished ≡ true = search rules in λ _. c.in-Ok.ensures.finished fine

pub returns-clause-sink_fault : goal.returns-clause-sink_fault
returns-clause-sink_fault g c = let fine : c.in-Ok.called.is_finished ≡ true = search rules in λ _. c.in-Ok.ensures.finished fine

pub returns-then-not-called-clause-prefix : goal.returns-then-not-called-clause-prefix
returns-then-not-called-clause-prefix g c = nothing_more (g.O.Sink.contents c.args.out.now) (text_of c.in-Ok.called.history.items)
