use Rattle.std.proofs.Common.{◌≡◌, ℕ, Result, Err, sym, ◌∙◌, ap}
use Rattle.std.proofs.lemmas.Result.{err_from_is_err_and}
use Rattle.voice_model.specs.Replay.{nothing_rebuilt}
use Rattle.recovery.specs.declared.replaying.ReplayError.{ReplayError}
use Rattle.mirror_replay.specs.declared.replaying.Followed.{Followed}
use Rattle.mirror_replay.specs.Numbered.{Numbered}
use Rattle.mirror_replay.proofs.Following.{front_refused, number_refused, all_followed}
use Rattle.mirror_replay.proofs.replaying.replay.Goals as goal

same_error : (x y : ReplayError) → ◌≡◌ {A = Result Followed ReplayError} (Err x) (Err y) → x ≡ y
same_error x y e = cc

same_index : (i k : ℕ) → ReplayError.BadChange i ≡ ReplayError.BadChange k → i ≡ k
same_index i k e = cc

pub returns-in_err-parts-clause-bad : goal.returns-in_err-parts-clause-bad
returns-in_err-parts-clause-bad c =
    let p = err_from_is_err_and c.from_residual-in_err-parts.result c.from_residual-in_err-parts.ensures.1 in
    λ k e. front_refused (nothing_rebuilt c.args.shape.now) c.args.payloads.now _ k c.in_ok-list.ensures (c.in_err-parts.ensures.bad k (ap Err (sym p.2 ∙ same_error p.0 (ReplayError.BadChange k) (sym p.1 ∙ e))))

pub returns-in_default-clause-bad : goal.returns-in_default-clause-bad
returns-in_default-clause-bad c = λ k e.
    let found = c.in_ok-parts.ensures.ok in
    number_refused (nothing_rebuilt c.args.shape.now) found.0 c.args.payloads.now _ k c.in_ok-list.ensures found.1 c.in_default.not-Some (sym c.len.ensures ∙ same_index c.len.result k (same_error (ReplayError.BadChange c.len.result) (ReplayError.BadChange k) e))

pub returns-clause-ok : goal.returns-clause-ok
returns-clause-ok c =
    let found = c.in_ok-parts.ensures.ok in
    (found.0, all_followed (nothing_rebuilt c.args.shape.now) found.0 c.args.payloads.now _ c.in-Some.course c.in_ok-list.ensures found.1 c.in-Some.is ∙ ap (Numbered.All found.0) (sym c.position.ensures), found.2)
