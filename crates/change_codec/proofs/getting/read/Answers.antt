use Rattle.std.proofs.Common.{◌∙◌}
use Rattle.std.proofs.lemmas.Result.{err_from_is_err_and, MatchResult-weaker}
use Rattle.change_codec.proofs.Reading.{place_same, refused_is, refused_kind}
use Rattle.change_codec.proofs.getting.read.Goals as goal

pub returns-in_err-kind-clause-place : goal.returns-in_err-kind-clause-place
returns-in_err-kind-clause-place c =
    let p = err_from_is_err_and c.from_residual.result c.from_residual.ensures.1 in
    rw (p.1, p.2) (refused_kind _ _ c.in_err-kind.ensures.place)

pub returns-clause-place : goal.returns-clause-place
returns-clause-place c =
    let is = refused_is c.args.bytes.now c.in_ok-kind.kind c.in_ok-kind.ensures.place c.in_ok-kind.ensures.value in
    MatchResult-weaker c.read_by_kind.result c.read_by_kind.ensures.place (λ x none. is ∙ none) (λ e place. place_same _ _ e is place)
