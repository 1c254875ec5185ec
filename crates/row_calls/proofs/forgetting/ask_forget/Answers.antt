use Rattle.std.proofs.Common.{refl}
use Rattle.voice_model.specs.State.Effect.{Forgotten}
use Rattle.row_calls.specs.declared.outcomes.Growth.TheVariants.{NotLonger}
use Rattle.row_calls.proofs.Given.{rows_shown}
use Rattle.row_calls.proofs.Found.{missing, stands}
use Rattle.row_calls.proofs.Grown.{grows_as}
use Rattle.row_calls.proofs.forgetting.ask_forget.Goals as goal

pub returns-in_default-clause-asked : goal.returns-in_default-clause-asked
returns-in_default-clause-asked c = λ held fill b s tapes g. missing s.rows c.args.parts.now.interests.rows c.args.class c.args.key.now (rows_shown held fill c.args.parts.now b s g) c.in_default.ensures

pub returns-clause-asked : goal.returns-clause-asked
returns-clause-asked c = λ held fill b s tapes g. record {
  unrefused = stands s.rows c.args.parts.now.interests.rows c.args.class c.args.key.now _ (rows_shown held fill c.args.parts.now b s g) c.in-Some.ensures;
  is_ready = c.ready_forget-ready.ensures c.args.parts.now.interests.spare b.kept;
  replied = refl;
  grows = grows_as s (Forgotten c.args.class c.args.key.now) NotLonger (c.base_grows_by_rows.ensures.forgotten s.form s.form s.kept c.args.class c.args.key.now);
}
