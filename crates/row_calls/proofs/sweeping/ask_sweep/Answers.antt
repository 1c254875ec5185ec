use Rattle.std.proofs.Common.{◌≡◌, [], length, refl, Some, None, sym, ◌∙◌, ap, ap₂, subst}
use Rattle.voice_model.specs.Changes.{expired_rows, swept_ropes, is_expired}
use Rattle.std.specs.Prelude.{filter}
use Rattle.voice_model.specs.declared.calls.Reply.TheVariants as replies
use Rattle.voice_model.specs.Changes.{if_any}
use Rattle.ready_changes.specs.Ready.{MayBeReady, sweep_change}
use Rattle.row_calls.specs.declared.outcomes.Growth.TheVariants.{NotLonger}
use Rattle.row_calls.proofs.Given.{rows_shown, moment_shown, graces_same, sweep_made}
use Rattle.row_calls.proofs.Grown.{grows_swept, nothing_made, no_rows, no_ids, sweep_ready}
use Rattle.row_calls.proofs.sweeping.ask_sweep.Goals as goal

pub returns-in_default : goal.returns-in_default
returns-in_default c = λ held fill b s tapes g graces.
    let parts = c.args.parts.now in
    let limit = c.args.limit in
    let rows = expired_rows s.kept in
    let ids = swept_ropes s.form s.kept limit in
    let none = nothing_made parts.interests.spare b.kept (if_any rows ids)
    (sweep_made held fill parts b s g tapes limit parts.interests.spare None c.changes_of_calls.ensures (subst (λ o. MayBeReady parts.interests.spare b.kept o (sweep_change b.form b.kept limit)) c.in_default.is (c.in_ok-fewer.ensures held b g.shows (graces_same held fill parts b s g ∙ graces) parts.interests.spare))) in
    (refl, none, ap₂ (λ n l. replies.Swept n l) (ap length (no_rows rows ids none)) (no_ids rows ids none ∙ (let e : c.of-none.result ≡ [] = cc in sym e)))

pub returns : goal.returns
returns c = λ held fill b s tapes g graces.
    let parts = c.args.parts.now in
    let limit = c.args.limit in
    let rows = expired_rows s.kept in
    let ids = swept_ropes s.form s.kept limit in
    let spare = parts.interests.spare in
    let may = sweep_made held fill parts b s g tapes limit spare (Some c.in-Some.ready) c.changes_of_calls.ensures (subst (λ o. MayBeReady spare b.kept o (sweep_change b.form b.kept limit)) c.in-Some.is (c.in_ok-fewer.ensures held b g.shows (graces_same held fill parts b s g ∙ graces) spare)) in
    let counted = c.in_ok-expired.ensures ∙ ap₂ (λ now l. length (filter (is_expired now) l)) (moment_shown held fill parts b s g) (rows_shown held fill parts b s g) in
    let gone = c.in_ok-ropes.ensures spare b.kept ids (sweep_ready spare b.kept c.in-Some.ready rows ids may) in
    record {
      unrefused = refl;
      is_ready = may;
      replied = ap₂ (λ n l. replies.Swept n l) (sym counted) (sym gone);
      grows = grows_swept s rows ids NotLonger (c.base_grows_by_rows.ensures.swept s.form s.form s.kept ids);
    }
