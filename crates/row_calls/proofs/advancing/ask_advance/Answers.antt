use Rattle.std.proofs.Common.{refl, Some, None, subst, arith}
use Rattle.std.specs.Prelude.{nat_lt}
use Rattle.voice_model.specs.State.Effect.{Advanced}
use Rattle.ready_changes.specs.Ready.{MayBeReady, later_change}
use Rattle.voice_model.specs.Changes.{if_later}
use Rattle.row_calls.specs.declared.outcomes.Growth.TheVariants.{NotLonger}
use Rattle.row_calls.proofs.Given.{moment_shown}
use Rattle.row_calls.proofs.Grown.{grows_later, nothing_made}
use Rattle.row_calls.proofs.advancing.ask_advance.Goals as goal

pub returns-in_default-clause-asked : goal.returns-in_default-clause-asked
returns-in_default-clause-asked c = λ held fill b s tapes g.
    let parts = c.args.parts.now in
    let none = subst (λ now. MayBeReady parts.interests.spare b.kept None (later_change now c.args.moment)) (moment_shown held fill parts b s g) (subst (λ o. MayBeReady parts.interests.spare b.kept o (later_change parts.moment c.args.moment)) c.in_default.is (c.ready_advance-later.ensures parts.interests.spare b.kept)) in
    (refl, nothing_made parts.interests.spare b.kept (if_later s.moment c.args.moment) none, refl)

pub returns-clause-asked : goal.returns-clause-asked
returns-clause-asked c = λ held fill b s tapes g.
    let parts = c.args.parts.now in
    record {
      unrefused = refl;
      is_ready = subst (λ now. MayBeReady parts.interests.spare b.kept (Some c.in-Some.ready) (later_change now c.args.moment)) (moment_shown held fill parts b s g) (subst (λ o. MayBeReady parts.interests.spare b.kept o (later_change parts.moment c.args.moment)) c.in-Some.is (c.ready_advance-later.ensures parts.interests.spare b.kept));
      replied = refl;
      grows = grows_later s (nat_lt s.moment c.args.moment) (Advanced c.args.moment) NotLonger (let same = c.base_grows_by_rows.ensures.advanced s.form s.form s.kept c.args.moment in omega (arith, same));
    }
