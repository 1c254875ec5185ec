use Rattle.std.proofs.Common.{sym, ◌∙◌}
use Rattle.std.proofs.lemmas.Result.{IfOk-weaker}
use Rattle.mirror_packets.proofs.Ranges.{body_none, body_voice, body_change}
use Rattle.mirror_packets.proofs.reading.body_in.Goals as goal

pub returns-then-is_empty : goal.returns-then-is_empty
returns-then-is_empty c = sym (body_none c.args.body.now (sym c.is_empty.ensures ∙ c.if-is_empty.true))

pub returns-then-body-eq-VOICE : goal.returns-then-body-eq-VOICE
returns-then-body-eq-VOICE c = c.voice_in.ensures ∙ sym (body_voice c.args.body.now c.if-body-eq-VOICE.true)

pub returns : goal.returns
returns c = IfOk-weaker c.change_in.result _ _ (λ found e. e ∙ sym (body_change c.args.body.now c.if-body-eq-VOICE.false)) c.change_in.ensures
